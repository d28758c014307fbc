-- `reach::marks::Marks::scan` meets its contract. The invariant: what the entries below 4 * i name is marked.
-- Assumes nothing.
use Prim.Native.Nat.{◌*◌}
use Rattle.reach.specs.inner.Marks.{Marked, number_of}
use Rattle.reach.proofs.Marking.{names_to, name_at}
use Rattle.reach.proofs.marks.Marks.scan.Given as goal

abbrev pub invariant-loop-i : goal.invariant-loop-i
invariant-loop-i l = Marked l.initial.self l.self (names_to (name_at (number_of l.set) l.initial.self.memory.now l.page) (4 * l.i))
