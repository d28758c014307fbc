-- `ways::search::take` meets its contract.
-- Assumes nothing.
use Rattle.ways.specs.inner.Search.{looked_for}
use Rattle.ways.proofs.Searches.{taken, left}
use Rattle.ways.proofs.search.take.Goals as goal

pub returns-then-is_wanted : goal.returns-then-is_wanted
returns-then-is_wanted c = taken (looked_for c.args.query.now) _ _ c.args.way _ c.is_wanted.ensures c.if-is_wanted.true c.lower.ensures

pub returns : goal.returns
returns c = left (looked_for c.args.query.now) _ c.args.way _ c.is_wanted.ensures c.if-is_wanted.false
