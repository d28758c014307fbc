-- `reasons::judge::touched` meets its contract.
-- Assumes nothing.
use mathlib.Core.Path.{◌∙◌, ap}
use lib.ListN.{length}
use Rattle.tables.specs.Views.{cores_of}
use Rattle.reach.specs.Reach.{members}
use Rattle.reasons.proofs.Reasons.{touch_is, map_size}
use Rattle.reasons.proofs.judge.touched.Goals as goal

pub at_fault-requires : goal.at_fault-requires
at_fault-requires c = (ap length c.requires.own_value ∙ map_size (members c.args.group (cores_of c.args.machine.now.tables.now)) c.args.machine.now.tables.now c.args.machine.now.memory.now, ap length c.requires.other_value ∙ map_size (members c.args.others (cores_of c.args.machine.now.tables.now)) c.args.machine.now.tables.now c.args.machine.now.memory.now)

pub returns : goal.returns
returns c = c.at_fault.ensures ∙ touch_is (members c.args.group (cores_of c.args.machine.now.tables.now)) (members c.args.others (cores_of c.args.machine.now.tables.now)) c.args.machine.now.tables.now c.args.machine.now.memory.now c.args.own.now c.args.other.now c.requires.own_value c.requires.other_value
