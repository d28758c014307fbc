use mathlib.Core.Path.{sym, ap, ap₂, ◌∙◌}
use mathlib.Core.Bool.{◌&&◌}
use Prim.Native.Nat.{ℕ}
use native.Mathlib.Omega.{arith}
use lib.ListN.{get_or}
use Rattle.records.specs.Records.{all}
use Rattle.reach.specs.Lists.{range}
use Rattle.separation.specs.inner.Sides.{page_apart}
use Rattle.separation.proofs.Deciding.{all_none, all_next}
use Rattle.separation.proofs.sides.pages_apart.Goals as goal

pub loop-i-init : goal.loop-i-init
loop-i-init c = sym (all_none _)

pub loop-i-preserved : goal.loop-i-preserved
loop-i-preserved c = ap₂ ◌&&◌ c.loop-i.invariant c.page_apart-good.ensures ∙ sym (all_next _ c.loop-i.i)

pub returns : goal.returns
returns c = c.loop-i.invariant ∙ ap (λ (n : ℕ). all (λ j. page_apart (get_or c.args.own.now j 0) (get_or c.args.other.now j 0)) (range n)) (omega arith)
