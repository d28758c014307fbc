-- `ways::roots::from_cores` meets its contract. The invariant: the ways of the cores below k were searched.
-- Assumes nothing.
use mathlib.Core.List.{flat_map}
use Rattle.ways.specs.inner.Search.{looked_for, Searched, member_ways}
use Rattle.reach.specs.Lists.{range}
use Rattle.std.specs.Prelude.{None}
use Rattle.ways.proofs.roots.from_cores.Given as goal

abbrev pub invariant-loop-k : goal.invariant-loop-k
invariant-loop-k l = Searched (looked_for l.query) l.query.machine.memory.now None l.initial.seen l.found l.seen (flat_map (member_ways l.group l.query.machine.tables.now l.query.machine.memory.now) (range l.k))
