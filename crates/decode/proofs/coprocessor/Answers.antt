use Rattle.decode.proofs.Rows.{by_rs}
use borrow.Author.Tests.{ne_eqb, eq-eqb}
use Rattle.decode.specs.Table.{row_of}
use Rattle.decode.proofs.coprocessor.Goals as goal

pub returns-in-0 : goal.returns-in-0
unfolding row_of
returns-in-0 c = by_rs c.args.fun c.in-0.is

pub returns-in-4 : goal.returns-in-4
unfolding row_of
returns-in-4 c = by_rs c.args.fun c.in-4.is

pub returns-then-fun-eq24 : goal.returns-then-fun-eq24
unfolding row_of
returns-then-fun-eq24 c = rw (← by_rs _ c.in-16.is, eq-eqb _ _ c.if-fun-eq24.true)

pub returns-else-fun-eq24 : goal.returns-else-fun-eq24
unfolding row_of
returns-else-fun-eq24 c = rw (← by_rs _ c.in-16.is, ne_eqb _ _ c.if-fun-eq24.false)

pub returns-in_default : goal.returns-in_default
unfolding row_of
returns-in_default c = simp (ne_eqb _ _ c.in_default.in_default-own.rest.1, ne_eqb _ _ c.in_default.in_default-own.rest.0.1, ne_eqb _ _ c.in_default.in_default-own.rest.0.0.1)
