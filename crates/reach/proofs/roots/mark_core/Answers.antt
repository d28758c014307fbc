-- `reach::roots::mark_core` meets its contract.
-- Assumes nothing.
use mathlib.Core.Path.{ap, ◌∙◌}
use native.Mathlib.Omega.{arith}
use Rattle.tables.proofs.Lift.{header}
use Rattle.records.specs.Records.{linked}
use Rattle.reach.proofs.Chains.{core_in, core_out}
use Rattle.reach.proofs.Low.{core_linked}
use Rattle.reach.proofs.roots.mark_core.Goals as goal

pub shift_right-requires : goal.shift_right-requires
shift_right-requires c = omega (arith, (header _ _ c.args.machine.now.is_sound).few_cores, c.requires)

pub mark_block-requires : goal.mark_block-requires
mark_block-requires c = let a = c.args in (c.block.ensures.value.1, ap linked c.block.ensures.value.0 ∙ core_linked _ _ a.machine.now.is_sound a.k c.requires)

pub returns-then-shift_right-eq1 : goal.returns-then-shift_right-eq1
returns-then-shift_right-eq1 c = let a = c.args in core_in a.group _ _ a.k _ c.shift_right.ensures c.if-shift_right-eq1.true c.block.ensures.value.0 c.mark_block.ensures

pub returns-else-shift_right-eq1 : goal.returns-else-shift_right-eq1
returns-else-shift_right-eq1 c = let a = c.args in core_out _ a.group _ a.k _ c.shift_right.ensures c.if-shift_right-eq1.false
