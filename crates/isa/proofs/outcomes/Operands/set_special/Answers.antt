use Rattle.isa.proofs.outcomes.Operands.set_special.Goals as goal

pub returns : goal.returns
returns c = rw c.after-pc.ensures
