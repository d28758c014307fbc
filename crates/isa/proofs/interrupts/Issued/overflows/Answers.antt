use Rattle.isa.proofs.interrupts.Issued.overflows.Goals as goal

pub returns : goal.returns
returns c = rw (c.overflow.ensures, c.right_operand.ensures, c.is_rtype-rtype.ensures)
