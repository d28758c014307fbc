-- `ways::roots::from_chain` meets its contract. The invariant: the ways from the records so far are searched.
-- Assumes nothing.
use mathlib.Core.List.{flat_map}
use Rattle.ways.specs.inner.Search.{looked_for, Searched}
use Rattle.ways.proofs.Blocks.{record_from}
use Rattle.ways.proofs.roots.from_chain.Given as goal

abbrev pub invariant-loop-record : goal.invariant-loop-record
invariant-loop-record l =
    Searched (looked_for l.query) l.query.machine.memory.now l.initial.found l.initial.seen l.found l.seen
    (flat_map (record_from (looked_for l.query) l.query.machine.memory.now l.k l.store) l.yielded)
