-- `reasons::judge::mark_faults` meets its contract. The invariant: from page i on the pages at fault are marked, and
-- none is lower than low.
-- Assumes nothing.
use Rattle.reasons.proofs.Reasons.{From}
use Rattle.reasons.proofs.judge.mark_faults.Given as goal

abbrev pub invariant-loop-i : goal.invariant-loop-i
invariant-loop-i l = From l.fault l.own l.other l.marks l.low l.i
