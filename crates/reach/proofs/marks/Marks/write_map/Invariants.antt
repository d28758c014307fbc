-- `reach::marks::Marks::write_map` meets its contract. The invariant: the map is written below the page.
-- Assumes nothing.
use Rattle.reach.specs.inner.Marks.{byte_of}
use Rattle.reach.proofs.Passes.{Mapping}
use Rattle.reach.proofs.marks.Marks.write_map.Given as goal

abbrev pub invariant-loop-page : goal.invariant-loop-page
invariant-loop-page l = Mapping (byte_of l.self.bytes) l.self.pages l.map l.page
