use mathlib.Core.Path.{ap, ◌∙◌}
use Rattle.store_buffer.specs.declared.Cover.{Cover}
use Rattle.store_buffer.specs.inner.Pass.{on_cover}
use Prim.Native.Nat.{◌<◌}
use native.Mathlib.Omega.{arith}
use Rattle.store_buffer.proofs.Pass.{passing_start, passing_low, passing_less, passing_next, passing_end}
use Rattle.store_buffer.proofs.find.Goals as goal
use Rattle.store_buffer.proofs.find.Goals.{In-loop-n}

low : (c : In-loop-n) → c.loop-n.n < 32
low c = passing_low c.loop-n.invariant

pub loop-n-init : goal.loop-n-init
loop-n-init c = let p = c.requires in passing_start _ _ _ p.b_len p.b_value

pub loop-n-smaller : goal.loop-n-smaller
loop-n-smaller c = passing_less c.loop-n.invariant c.loop-n-test.true

pub loop-n-preserved : goal.loop-n-preserved
loop-n-preserved c = passing_next c.loop-n.invariant c.loop-n-test.true (c.found_after-f.ensures ∙ ap (λ (x : Cover). on_cover x c.loop-n.place c.loop-n.n c.loop-n.f) c.cover_of.ensures)

pub returns : goal.returns
returns c =
    passing_end c.loop-n.invariant c.loop-n-test.false (λ m. omega (arith, c.type_inv.b m)) (omega arith) (omega arith)
