-- `reasons::judge::modes` meets its contract. The invariant: no core below k fails.
-- Assumes nothing.
use Rattle.reasons.proofs.Reasons.{NoneBelow}
use Rattle.reasons.proofs.judge.modes.Given as goal

abbrev pub invariant-loop-k : goal.invariant-loop-k
invariant-loop-k l = NoneBelow l.group l.machine.tables.now l.k
