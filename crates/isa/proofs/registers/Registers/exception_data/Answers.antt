use borrow.Author.Tests.{eq-eqb, ne_eqb}
use Rattle.isa.proofs.registers.Registers.exception_data.Goals as goal

pub returns-then-level-eq5 : goal.returns-then-level-eq5
returns-then-level-eq5 c = rw (eq-eqb _ _ c.if-level-eq5.true, c.address.ensures, c.decode.ensures)

pub returns-then-level-eq1 : goal.returns-then-level-eq1
returns-then-level-eq1 c = rw (ne_eqb _ _ c.if-level-eq5.false, eq-eqb _ _ c.if-level-eq1.true)

pub returns : goal.returns
returns c = rw (ne_eqb _ _ c.if-level-eq5.false, ne_eqb _ _ c.if-level-eq1.false)
