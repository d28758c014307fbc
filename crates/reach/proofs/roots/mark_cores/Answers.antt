-- `reach::roots::mark_cores` meets its contract.
-- Assumes nothing.
use native.Mathlib.Omega.{arith}
use Rattle.reach.proofs.Chains.{cores_end}
use Rattle.reach.proofs.Marking.{loop_start, loop_next}
use Rattle.reach.proofs.roots.mark_cores.Goals as goal

pub loop-k-init : goal.loop-k-init
loop-k-init c = loop_start _ _

pub loop-k-preserved : goal.loop-k-preserved
loop-k-preserved c = loop_next _ c.loop-k.k c.loop-k.invariant c.mark_core.ensures

pub returns : goal.returns
returns c = cores_end _ _ _ _ (omega arith) c.loop-k.invariant
