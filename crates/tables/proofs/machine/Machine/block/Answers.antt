-- `tables::machine::Machine::block` meets its contract.
-- Assumes nothing.
use Rattle.tables.proofs.Lift.{core_fits, core_sound}
use Rattle.tables.proofs.machine.Machine.block.Goals as goal

pub block-requires : goal.block-requires
block-requires c = core_fits _ _ c.args.self.now.is_sound c.args.k c.requires

pub returns-clause-is_sound : goal.returns-clause-is_sound
returns-clause-is_sound c = core_sound _ _ c.args.self.now.is_sound c.args.k c.requires
