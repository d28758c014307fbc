use mathlib.Core.Path.{sym, ap, ap₂, ◌∙◌}
use mathlib.Core.Bool.{◌&&◌}
use Prim.Native.Nat.{ℕ}
use native.Mathlib.Omega.{arith}
use Rattle.records.specs.Records.{all}
use Rattle.reach.specs.Lists.{range}
use Rattle.separation.specs.inner.Sides.{block_passes, passes}
use Rattle.separation.proofs.Deciding.{all_none, all_next}
use Rattle.separation.proofs.sides.all_in_user_mode.Goals as goal

pub loop-k-init : goal.loop-k-init
loop-k-init c = sym (all_none _)

pub loop-k-preserved : goal.loop-k-preserved
loop-k-preserved c =
    ap₂ ◌&&◌ c.loop-k.invariant (c.block_passes-good.ensures ∙ ap₂ block_passes c.is_member.ensures c.block.ensures.0)
    ∙ sym (all_next _ c.loop-k.k)

pub returns : goal.returns
returns c = c.loop-k.invariant ∙ ap (λ (n : ℕ). all (passes c.args.group c.args.t.now) (range n)) (omega arith)
