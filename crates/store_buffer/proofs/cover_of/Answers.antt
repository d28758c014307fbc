-- `store_buffer::cover_of` meets its contract.
-- Assumes nothing.
use borrow.Author.Tests.{lt-ltb, le-ltb, le-leb, lt-leb, eq-eqb, ne_eqb}
use Rattle.store_buffer.specs.inner.Pass.{cover}
use Rattle.store_buffer.proofs.cover_of.Goals as goal

pub returns-then-d-width : goal.returns-then-d-width
unfolding cover
returns-then-d-width c = rw (← c.sub-offset.ensures, lt-ltb _ _ c.if-offset-width.true, le-leb _ _ c.if-d-width.true)

pub returns-else-d-width : goal.returns-else-d-width
unfolding cover
returns-else-d-width c = rw (← c.sub-offset.ensures, lt-ltb _ _ c.if-offset-width.true, lt-leb _ _ c.if-d-width.false)

pub returns-then-width-eq0 : goal.returns-then-width-eq0
unfolding cover
returns-then-width-eq0 c =
    rw (← c.sub-offset.ensures, le-ltb _ _ c.if-offset-width.false, ← c.sub.ensures, lt-ltb c.sub.result c.args.d c.if-begins_within.true, eq-eqb _ _ c.if-width-eq0.true)

pub returns-else-width-eq0 : goal.returns-else-width-eq0
unfolding cover
returns-else-width-eq0 c =
    rw (← c.sub-offset.ensures, le-ltb _ _ c.if-offset-width.false, ← c.sub.ensures, lt-ltb c.sub.result c.args.d c.if-begins_within.true, ne_eqb _ _ c.if-width-eq0.false)

pub returns : goal.returns
unfolding cover
returns c =
    rw (← c.sub-offset.ensures, le-ltb _ _ c.if-offset-width.false, ← c.sub.ensures, le-ltb c.sub.result c.args.d c.if-begins_within.false)
