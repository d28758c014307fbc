use Rattle.isa.proofs.Ranges.{allowed}
use Rattle.isa.proofs.interrupts.forbidden.Goals as goal

pub returns-then-number-lt-FLUSH : goal.returns-then-number-lt-FLUSH
returns-then-number-lt-FLUSH c = allowed c.args.i c.args.user (rw (← c.number.ensures) c.if-number-lt-FLUSH.true)

pub returns : goal.returns
returns c = rw (c.privileged.ensures, c.illegal.ensures)
