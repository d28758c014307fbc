use mathlib.Core.List.{[], ◌∷◌}
use Rattle.decode.specs.Table.{row_of}
use Rattle.decode.proofs.Rows.{by_fun, other_fun}
use Rattle.forms.specs.Syntax.{syntax_of}
use Rattle.forms.specs.inner.Forms.{form_of}
use Rattle.forms.proofs.Rows.{shown}
use Rattle.forms.proofs.multiplication.Goals as goal

pub returns-in-0 : goal.returns-in-0
unfolding row_of syntax_of form_of
returns-in-0 c = shown (by_fun 28 0 c.in-0.is)

pub returns-in-1 : goal.returns-in-1
unfolding row_of syntax_of form_of
returns-in-1 c = shown (by_fun 28 0 c.in-1.is)

pub returns-in-2 : goal.returns-in-2
unfolding row_of syntax_of form_of
returns-in-2 c = shown (by_fun 28 0 c.in-2.is)

pub returns-in-4 : goal.returns-in-4
unfolding row_of syntax_of form_of
returns-in-4 c = shown (by_fun 28 0 c.in-4.is)

pub returns-in-5 : goal.returns-in-5
unfolding row_of syntax_of form_of
returns-in-5 c = shown (by_fun 28 0 c.in-5.is)

pub returns-in-3-to-4294967295 : goal.returns-in-3-to-4294967295
unfolding row_of syntax_of form_of
returns-in-3-to-4294967295 c = shown (by_fun 28 0 c.in-3-to-4294967295.in-3-to-4294967295-own.keys6)

pub returns-in-3-to-4294967295-2 : goal.returns-in-3-to-4294967295-2
unfolding row_of syntax_of form_of
returns-in-3-to-4294967295-2 c = shown (other_fun 28 c.args.fun 0 (5 ∷ 4 ∷ 2 ∷ 1 ∷ 0 ∷ []) tt c.in-3-to-4294967295.in-3-to-4294967295-own.rest.0)
