-- `records::drop_walks` meets its contract. The invariant: the records to come, swept from here, give the whole sweep.
use lib.ListN.{length}
use Rattle.records.specs.Records.{chain}
use Rattle.records.proofs.Sweeping.{Sweeping}
use Rattle.records.proofs.drop_walks.Given as goal

abbrev pub invariant-loop-n : goal.invariant-loop-n
invariant-loop-n l = Sweeping l.initial.b l.f l.b l.at l.n

abbrev pub decreases-loop-n : goal.decreases-loop-n
decreases-loop-n l = length (chain 32 l.b l.n)
