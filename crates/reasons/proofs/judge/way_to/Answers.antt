-- `reasons::judge::way_to` meets its contract.
-- Assumes nothing.
use mathlib.Core.Path.{◌∙◌}
use Rattle.tables.specs.Views.{cores_of, pages_of}
use Rattle.reach.specs.Reach.{members}
use Rattle.ways.specs.Ways.{ways}
use Rattle.reasons.proofs.Reasons.{itself_is}
use Rattle.reasons.proofs.judge.way_to.Goals as goal

pub returns : goal.returns
returns c =
    let a = c.args in
    c.find.ensures ∙ itself_is a.page (pages_of a.machine.now.tables.now) a.map.now (ways (members a.group (cores_of a.machine.now.tables.now)) a.machine.now.tables.now a.machine.now.memory.now)
