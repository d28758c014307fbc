use borrow.Author.Tests.{ne_eqb}
use Rattle.decode.specs.Table.{row_of}
use Rattle.decode.proofs.Rows.{by_rt}
use Rattle.forms.specs.Syntax.{syntax_of}
use Rattle.forms.specs.inner.Forms.{form_of}
use Rattle.forms.proofs.Rows.{shown}
use Rattle.forms.proofs.sign_branch.Goals as goal

pub returns-in-0 : goal.returns-in-0
unfolding row_of syntax_of form_of
returns-in-0 c = shown (by_rt c.in-0.is)

pub returns-in-1 : goal.returns-in-1
unfolding row_of syntax_of form_of
returns-in-1 c = shown (by_rt c.in-1.is)

pub returns-in-2-to-4294967295 : goal.returns-in-2-to-4294967295
unfolding row_of syntax_of form_of
returns-in-2-to-4294967295 c = let n = c.in-2-to-4294967295.in-2-to-4294967295-own.rest in simp (ne_eqb _ _ n.1, ne_eqb _ _ n.0.1)
