-- `store_buffer::find` meets its contract. The invariant: the records to come decide. The measure: how many they are.
-- Assumes nothing.
use lib.ListN.{length}
use Rattle.records.specs.Records.{chain}
use Rattle.store_buffer.proofs.Pass.{Passing}
use Rattle.store_buffer.proofs.find.Given as goal

abbrev pub invariant-loop-n : goal.invariant-loop-n
invariant-loop-n l = Passing l.b l.a l.d l.f l.place l.n

abbrev pub decreases-loop-n : goal.decreases-loop-n
decreases-loop-n l = length (chain 32 l.b l.n)
