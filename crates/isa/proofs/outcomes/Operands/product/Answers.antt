use Rattle.isa.proofs.outcomes.Operands.product.Goals as goal

pub returns : goal.returns
returns c = rw (c.result.ensures, c.control.ensures, c.joined.ensures)
