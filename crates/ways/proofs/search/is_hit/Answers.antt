-- `ways::search::is_hit` meets its contract.
-- Assumes nothing.
use Rattle.ways.specs.inner.Search.{looked_for}
use Rattle.ways.proofs.Searches.{hit_there, hit_absent}
use Rattle.ways.proofs.search.is_hit.Goals as goal

pub returns-then-present : goal.returns-then-present
returns-then-present c = hit_there (looked_for c.args.query.now) c.args.level c.args.e _ _ _ c.present.ensures c.if-present.true c.named.ensures c.is_wanted.ensures

pub returns : goal.returns
returns c = hit_absent (looked_for c.args.query.now) c.args.level c.args.e _ c.present.ensures c.if-present.false
