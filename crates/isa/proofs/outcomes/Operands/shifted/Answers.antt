use Rattle.isa.proofs.outcomes.Operands.shifted.Goals as goal

pub returns : goal.returns
returns c = rw (c.result.ensures, c.shift_distance.ensures.0)
