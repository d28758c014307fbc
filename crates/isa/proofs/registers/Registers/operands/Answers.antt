use Rattle.isa.proofs.registers.Registers.operands.Goals as goal

pub returns : goal.returns
returns c = rw (c.rd-d.ensures, c.rt-b.ensures, c.rs-a.ensures)
