use Rattle.isa.proofs.outcomes.Operands.branch.Goals as goal

pub returns-then-taken : goal.returns-then-taken
returns-then-taken c = rw (c.add.ensures, c.shift_left-far.ensures, c.extend.ensures, c.imm.ensures, ← c.control.ensures, ← c.taken.ensures, c.if-taken.true)

pub returns : goal.returns
returns c = rw (c.after.ensures, ← c.control.ensures, ← c.taken.ensures, c.if-taken.false)
