use Rattle.verdict_text.proofs.Named.{LongTo}
use Rattle.verdict_text.proofs.arguments.length_at.Given as goal

abbrev pub invariant-loop-end : goal.invariant-loop-end
invariant-loop-end l = LongTo l.a l.at l.end
