use Rattle.isa.proofs.interrupts.effective_address.Goals as goal

pub returns-then-itype : goal.returns-then-itype
returns-then-itype c = rw (c.add.ensures, c.extend.ensures, c.imm.ensures, ← c.itype.ensures, c.if-itype.true)

pub returns : goal.returns
returns c = rw (← c.itype.ensures, c.if-itype.false)
