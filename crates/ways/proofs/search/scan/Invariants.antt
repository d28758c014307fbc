-- `ways::search::scan` meets its contract. The invariant: what is found is the lowest of the ways by the entries below
-- i.
-- Assumes nothing.
use mathlib.Core.Path.{◌≡◌}
use mathlib.Core.List.{flat_map}
use Rattle.reach.specs.Lists.{range}
use Rattle.ways.specs.Ways.{lower}
use Rattle.ways.specs.inner.Search.{looked_for, sought}
use Rattle.ways.proofs.Searches.{entry_ways}
use Rattle.ways.proofs.search.scan.Given as goal

abbrev pub invariant-loop-i : goal.invariant-loop-i
invariant-loop-i l = (l.found ≡ lower l.initial.found (sought (looked_for l.query) (flat_map (entry_ways l.query.machine.memory.now l.way) (range l.i))))
