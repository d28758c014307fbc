-- `reasons::judge::beyond` meets its contract.
-- Assumes nothing.
use mathlib.Core.Path.{◌∙◌}
use Rattle.tables.specs.Views.{cores_of}
use Rattle.reach.specs.Reach.{members}
use Rattle.reasons.proofs.Reasons.{beyond_is, beyond_none}
use Rattle.reasons.proofs.judge.beyond.Goals as goal

pub find-requires : goal.find-requires
find-requires c = c.requires.map_len

pub returns-then-strays : goal.returns-then-strays
returns-then-strays c = let a = c.args in c.find.ensures ∙ beyond_is (members a.group (cores_of a.machine.now.tables.now)) a.machine.now.tables.now a.machine.now.memory.now a.map.now

pub returns : goal.returns
returns c = let a = c.args in beyond_none (members a.group (cores_of a.machine.now.tables.now)) a.machine.now.tables.now a.machine.now.memory.now _ c.requires.strays_value c.if-strays.false
