-- `ways::search::lower` meets its contract.
-- Assumes nothing.
use Rattle.ways.proofs.Searches.{lower_nothing, lower_first, lower_second}
use Rattle.ways.proofs.search.lower.Goals as goal

pub returns-in-Some : goal.returns-in-Some
returns-in-Some c = lower_second _ _ _ c.in-Some.is c.if-v-way.true

pub returns-in_default : goal.returns-in_default
returns-in_default c = lower_first _ _ _ c.in-Some.is c.if-v-way.false

pub returns-in_default-2 : goal.returns-in_default-2
returns-in_default-2 c = lower_nothing _ _ c.in_default.is
