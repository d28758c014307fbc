-- `ways::roots::record_way` meets its contract.
-- Assumes nothing.
use Rattle.ways.proofs.Blocks.{store_way, walk_way}
use Rattle.ways.proofs.roots.record_way.Goals as goal

pub returns-then-store : goal.returns-then-store
returns-then-store c = let a = c.args in store_way a.k _ _ a.listed c.if-store.true c.page-page.ensures

pub returns : goal.returns
returns c = let a = c.args in walk_way a.k _ a.listed c.if-store.false
