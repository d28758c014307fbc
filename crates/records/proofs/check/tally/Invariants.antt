-- `records::check::tally` meets its contract. The invariant: the counts so far and those of what is left are the whole.
use Rattle.records.proofs.Checking.{Tallying}
use Rattle.records.proofs.check.tally.Given as goal

abbrev pub invariant-loop-n : goal.invariant-loop-n
invariant-loop-n l = Tallying l.b l.head l.rule l.most l.initial.seen l.seen l.n l.k

abbrev pub decreases-loop-n : goal.decreases-loop-n
decreases-loop-n l = l.k
