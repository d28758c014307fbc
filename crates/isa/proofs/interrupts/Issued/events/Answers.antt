use Rattle.isa.proofs.interrupts.Issued.events.Goals as goal

pub returns : goal.returns
returns c = rw (c.overflows.ensures, c.calls.ensures, c.is_misaligned.ensures, c.forbidden.ensures)
