use Rattle.isa.proofs.outcomes.Operands.keep.Goals as goal

pub returns : goal.returns
returns c = rw c.after-pc.ensures
