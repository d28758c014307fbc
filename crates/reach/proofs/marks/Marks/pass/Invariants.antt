-- `reach::marks::Marks::pass` meets its contract. The invariant: what the tables below the page name is marked.
-- Assumes nothing.
use Rattle.reach.specs.inner.Marks.{Marked, marked_names, order}
use Rattle.reach.proofs.Marking.{names_to}
use Rattle.reach.proofs.marks.Marks.pass.Given as goal

abbrev pub invariant-loop-page : goal.invariant-loop-page
invariant-loop-page l = Marked l.initial.self l.self (names_to (marked_names (order l.level) l.initial.self.memory.now l.initial.self.bytes) l.page)
