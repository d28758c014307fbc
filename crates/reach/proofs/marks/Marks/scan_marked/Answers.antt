-- `reach::marks::Marks::scan_marked` meets its contract.
-- Assumes nothing.
use Rattle.reach.specs.inner.Marks.{order}
use Rattle.reach.proofs.Passes.{table_marked, table_not}
use Rattle.reach.proofs.marks.Marks.scan_marked.Goals as goal

pub returns-then-is_marked : goal.returns-then-is_marked
returns-then-is_marked c = let a = c.args in table_marked (order a.level) _ _ _ a.self.now.bytes a.page _ c.tables.ensures c.named.ensures c.is_marked.ensures c.if-is_marked.true c.scan.ensures

pub returns-else-is_marked : goal.returns-else-is_marked
returns-else-is_marked c = let a = c.args in table_not _ (order a.level) _ a.self.now.memory.now a.self.now.bytes a.page _ c.tables.ensures c.is_marked.ensures c.if-is_marked.false
