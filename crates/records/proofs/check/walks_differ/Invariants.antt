-- `records::check::walks_differ` meets its contract. The invariant: the records to come decide. The measure: how many
-- they are.
use Rattle.std.proofs.Common.{◌≡◌, map, length}
use Rattle.records.specs.Records.{differing, walks}
use Rattle.records.specs.inner.Chains.{records_from, walk_of}
use Rattle.records.proofs.check.walks_differ.Given as goal

abbrev pub invariant-loop-record : goal.invariant-loop-record
invariant-loop-record l = differing (map walk_of (records_from l.rest.block.now l.rest.left l.rest.next)) ≡ differing (walks l.b)

abbrev pub decreases-loop-record : goal.decreases-loop-record
decreases-loop-record l = length (records_from l.rest.block.now l.rest.left l.rest.next)
