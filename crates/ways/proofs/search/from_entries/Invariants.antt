-- `ways::search::from_entries` meets its contract. The invariant: the ways by the entries below i were searched.
-- Assumes nothing.
use mathlib.Core.List.{flat_map}
use Rattle.ways.specs.inner.Search.{looked_for, Searched}
use Rattle.reach.specs.Lists.{range}
use Rattle.ways.proofs.Searches.{on_entry}
use Rattle.ways.proofs.search.from_entries.Given as goal

abbrev pub invariant-loop-i : goal.invariant-loop-i
invariant-loop-i l = Searched (looked_for l.query) l.query.machine.memory.now l.initial.found l.initial.seen l.found l.seen (flat_map (on_entry l.query.machine.memory.now l.way) (range l.i))
