-- `reach::roots::mark_cores` meets its contract. The invariant: what the cores below k name is marked.
-- Assumes nothing.
use Rattle.reach.specs.inner.Marks.{Marked, member_names}
use Rattle.reach.proofs.Marking.{names_to}
use Rattle.reach.proofs.roots.mark_cores.Given as goal

abbrev pub invariant-loop-k : goal.invariant-loop-k
invariant-loop-k l = Marked l.initial.marks l.marks (names_to (member_names l.group l.machine.tables.now) l.k)
