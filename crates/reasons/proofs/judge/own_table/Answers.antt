-- `reasons::judge::own_table` meets its contract.
-- Assumes nothing.
use mathlib.Core.Path.{◌∙◌, ap}
use lib.ListN.{length}
use Rattle.tables.specs.Views.{cores_of}
use Rattle.reach.specs.Reach.{members}
use Rattle.reasons.proofs.Reasons.{table_is, map_size}
use Rattle.reasons.proofs.judge.own_table.Goals as goal

pub at_fault-requires : goal.at_fault-requires
at_fault-requires c = let l = ap length c.requires.map_value ∙ map_size (members c.args.group (cores_of c.args.machine.now.tables.now)) c.args.machine.now.tables.now c.args.machine.now.memory.now in (l, l)

pub returns : goal.returns
returns c = c.at_fault.ensures ∙ table_is (members c.args.group (cores_of c.args.machine.now.tables.now)) c.args.machine.now.tables.now c.args.machine.now.memory.now c.args.map.now c.requires.map_value
