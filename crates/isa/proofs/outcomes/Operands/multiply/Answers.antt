use Rattle.isa.specs.inner.Outcomes.{multiply_by}
use Rattle.isa.proofs.outcomes.Operands.multiply.Goals as goal

pub returns-then-is_mulacc : goal.returns-then-is_mulacc
unfolding multiply_by
returns-then-is_mulacc c = rw (c.keep.ensures, c.high_half.ensures, c.low_half-low.ensures, c.product-v.ensures, ← c.is_mulacc.ensures, c.if-is_mulacc.true)

pub returns : goal.returns
unfolding multiply_by
returns c = rw (c.write.ensures, c.rd.ensures, c.low_half-low.ensures, c.product-v.ensures, ← c.is_mulacc.ensures, c.if-is_mulacc.false)
