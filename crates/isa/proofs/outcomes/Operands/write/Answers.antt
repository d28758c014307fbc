use Rattle.isa.proofs.outcomes.Operands.write.Goals as goal

pub returns : goal.returns
returns c = rw (c.go.ensures, c.after.ensures)
