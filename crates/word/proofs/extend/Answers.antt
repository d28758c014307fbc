use Rattle.std.proofs.Common.{◌-◌, ◌^◌, arith, lt-ltb, le-ltb}
use Rattle.word.specs.Word.{sxt}
use Rattle.word.proofs.Laws.{ones_above, one_shifted}
use Rattle.word.proofs.extend.Goals as goal

pub returns-then-x : goal.returns-then-x
unfolding sxt
returns-then-x g c = simp (lt-ltb c.args.x (2 ^ (g.row.BITS - 1)) (omega (arith, one_shifted (g.row.BITS - 1) (omega arith), c.if-x.true)))

pub returns-else-x : goal.returns-else-x
unfolding sxt
returns-else-x g c = simp (le-ltb c.args.x (2 ^ (g.row.BITS - 1)) (omega (arith, one_shifted (g.row.BITS - 1) (omega arith), c.if-x.false)), ones_above g.row.BITS (omega arith))
