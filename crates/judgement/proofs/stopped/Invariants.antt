-- `judgement::stopped` meets its contract. The invariant: the bits of the cores passed say which are stopped.
-- Assumes nothing.
use Rattle.separation.proofs.Members.{Bits}
use Rattle.judgement.specs.Report.{is_stopped}
use Rattle.judgement.proofs.stopped.Given as goal

abbrev pub invariant-loop-k : goal.invariant-loop-k
invariant-loop-k l = Bits (is_stopped l.group l.machine.tables.now) l.r l.k
