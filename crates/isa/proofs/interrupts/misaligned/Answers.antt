use Rattle.isa.proofs.Ranges.{mal_width}
use Rattle.isa.proofs.interrupts.misaligned.Goals as goal

pub returns-then-d-eq0 : goal.returns-then-d-eq0
returns-then-d-eq0 c = rw (← mal_width _ _, ← c.width-d.ensures, c.if-d-eq0.true)

pub returns : goal.returns
returns c = rw c.width-d.ensures (mal_width _ _)
