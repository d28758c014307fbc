use Rattle.isa.proofs.outcomes.Operands.computed.Goals as goal

pub returns : goal.returns
returns c = rw (c.result.ensures, c.control.ensures, c.right_operand-q.ensures)
