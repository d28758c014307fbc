use borrow.Author.Rules.{rules}
use Rattle.units.proofs.alu.control_low.Goals as goal

pub returns-then-rtype : goal.returns-then-rtype
returns-then-rtype c = (rw c.if-rtype.true, search rules)

pub returns-else-rtype : goal.returns-else-rtype
returns-else-rtype c = (rw c.if-rtype.false, search rules)
