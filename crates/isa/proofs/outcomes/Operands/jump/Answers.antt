use Rattle.isa.proofs.outcomes.Operands.jump.Goals as goal

pub returns-in-J : goal.returns-in-J
returns-in-J c = rw (c.go.ensures, c.near-near.ensures, c.in-J.is)

pub returns-in-Jal : goal.returns-in-Jal
returns-in-Jal c = rw (c.go-in-Jal.ensures, c.after-next.ensures, c.near-near.ensures, c.in-Jal.is)

pub returns-in-Jr : goal.returns-in-Jr
returns-in-Jr c = rw (c.go-in-Jr.ensures, c.in-Jr.is)

pub returns-in-Jalr : goal.returns-in-Jalr
returns-in-Jalr c = rw (c.go-in-Jalr.ensures, c.rd.ensures, c.after-next.ensures, c.in-Jalr.is)
