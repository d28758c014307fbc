use Rattle.isa.proofs.outcomes.Operands.transfer.Goals as goal

pub returns-in-Mfhi : goal.returns-in-Mfhi
returns-in-Mfhi c = rw (c.write.ensures, c.rd-d.ensures, c.in-Mfhi.is)

pub returns-in-Mthi : goal.returns-in-Mthi
returns-in-Mthi c = rw (c.keep.ensures, c.in-Mthi.is)

pub returns-in-Mflo : goal.returns-in-Mflo
returns-in-Mflo c = rw (c.write-in-Mflo.ensures, c.rd-d.ensures, c.in-Mflo.is)

pub returns-in-Mtlo : goal.returns-in-Mtlo
returns-in-Mtlo c = rw (c.keep-in-Mtlo.ensures, c.in-Mtlo.is)

pub returns-in-Movg2s : goal.returns-in-Movg2s
returns-in-Movg2s c = rw (c.set_special.ensures, c.in-Movg2s.is)

pub returns-in-Movs2g : goal.returns-in-Movs2g
returns-in-Movs2g c = rw (c.write-in-Movs2g.ensures, c.rt-n.ensures, c.in-Movs2g.is)
