-- `separation::sides::passes` meets its contract.
-- Assumes nothing.
use mathlib.Core.Path.{ap₂, ◌∙◌}
use native.Mathlib.Omega.{arith}
use Rattle.tables.proofs.Lift.{header}
use Rattle.separation.specs.inner.Sides.{block_passes}
use Rattle.separation.proofs.sides.passes.Goals as goal

pub returns : goal.returns
returns c = c.block_passes.ensures ∙ ap₂ block_passes c.is_member.ensures c.block.ensures.value.0

pub is_member-requires : goal.is_member-requires
is_member-requires c = omega (arith, (header _ _ c.args.machine.now.is_sound).few_cores, c.requires)
