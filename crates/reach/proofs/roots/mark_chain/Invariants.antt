-- `reach::roots::mark_chain` meets its contract. The invariant: what the records so far name is marked.
-- Assumes nothing.
use mathlib.Core.List.{flat_map}
use Rattle.reach.specs.inner.Marks.{Marked, named_by}
use Rattle.reach.proofs.roots.mark_chain.Given as goal

abbrev pub invariant-loop-record : goal.invariant-loop-record
invariant-loop-record l = Marked l.initial.marks l.marks (flat_map (named_by l.content) l.yielded)
