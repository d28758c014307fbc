use borrow.Author.Tests.{eq-eqb, ne_eqb}
use Rattle.decode.specs.Table.{row_of}
use Rattle.decode.proofs.Rows.{by_rs}
use Rattle.forms.specs.Syntax.{syntax_of}
use Rattle.forms.specs.inner.Forms.{form_of}
use Rattle.forms.proofs.Rows.{shown}
use Rattle.forms.proofs.coprocessor.Goals as goal

pub returns-in-0 : goal.returns-in-0
unfolding row_of syntax_of form_of
returns-in-0 c = shown (by_rs c.args.fun c.in-0.is)

pub returns-in-4 : goal.returns-in-4
unfolding row_of syntax_of form_of
returns-in-4 c = shown (by_rs c.args.fun c.in-4.is)

pub returns-then-fun-eq24 : goal.returns-then-fun-eq24
unfolding row_of syntax_of form_of
returns-then-fun-eq24 c = rw (← by_rs _ c.in-16.is, eq-eqb _ _ c.if-fun-eq24.true)

pub returns-else-fun-eq24 : goal.returns-else-fun-eq24
unfolding row_of syntax_of form_of
returns-else-fun-eq24 c = rw (← by_rs _ c.in-16.is, ne_eqb _ _ c.if-fun-eq24.false)

pub returns-in-1-to-4294967295 : goal.returns-in-1-to-4294967295
unfolding row_of syntax_of form_of
returns-in-1-to-4294967295 c = let n = c.in-1-to-4294967295.in-1-to-4294967295-own.rest in simp (ne_eqb _ _ n.1, ne_eqb _ _ n.0.1, ne_eqb _ _ n.0.0.1)
