use Rattle.isa.proofs.registers.Registers.address.Goals as goal

pub returns : goal.returns
returns c = rw (c.effective_address.ensures, c.operands-o.ensures)
