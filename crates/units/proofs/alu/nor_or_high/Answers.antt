use Rattle.units.specs.Alu.{alures}
use Rattle.units.proofs.alu.nor_or_high.Goals as goal

pub returns-then-itype : goal.returns-then-itype
unfolding alures
returns-then-itype c = rw c.if-itype.true

pub returns-else-itype : goal.returns-else-itype
unfolding alures
returns-else-itype c = rw (c.nor.ensures, c.if-itype.false)
