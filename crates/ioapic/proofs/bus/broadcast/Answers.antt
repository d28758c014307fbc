use mathlib.Core.Path.{◌≡◌, refl, sym, ap, ◌∙◌}
use mathlib.Core.List.{List}
use Prim.Native.Nat.{ℕ}
use native.Mathlib.Omega.{arith}
use lib.Dec.{eqb}
use Rattle.apic.specs.Active.{received_by}
use Rattle.ioapic.specs.Blocks.{on_block, on_blocks}
use Rattle.ioapic.specs.Bus.{broadcast}
use Rattle.ioapic.proofs.Loops.{one_more_block}
use Rattle.layout.proofs.Blocks.{part_done}
use Rattle.ioapic.proofs.bus.broadcast.Goals as goal

pub loop-j-init : goal.loop-j-init
unfolding on_blocks
loop-j-init c = refl

pub loop-j-preserved : goal.loop-j-preserved
loop-j-preserved c =
    let l = c.loop-j in
    let a = c.args in
    let f : ℕ → List ℕ → List ℕ = λ j b. received_by a.m (eqb j a.i) b in
    part_done l.t l.j c.block_at-a.result c.block_at-a.ensures (f l.j) c.receive.new.b c.receive.ensures
    ∙ ap (on_block (f l.j) l.j) l.invariant
    ∙ sym (one_more_block f l.j a.t.now)

pub returns : goal.returns
unfolding broadcast
returns c =
    let l = c.loop-j in
    let a = c.args in
    let n : l.j ≡ a.n = omega arith in
    l.invariant ∙ ap (λ (k : ℕ). on_blocks (λ (j : ℕ) (b : List ℕ). received_by a.m (eqb j a.i) b) k a.t.now) n
