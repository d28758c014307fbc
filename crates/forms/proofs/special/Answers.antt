use mathlib.Core.List.{[], ◌∷◌}
use mathlib.Core.Logic.{⊎_elim}
use Rattle.decode.specs.Table.{row_of}
use Rattle.decode.proofs.Rows.{by_fun, other_fun}
use Rattle.forms.specs.Syntax.{syntax_of}
use Rattle.forms.specs.inner.Forms.{form_of}
use Rattle.forms.proofs.Rows.{shown}
use Rattle.forms.proofs.special.Goals as goal

pub returns-in-0 : goal.returns-in-0
unfolding row_of syntax_of form_of
returns-in-0 c = shown (by_fun 0 0 c.in-0.is)

pub returns-in-2 : goal.returns-in-2
unfolding row_of syntax_of form_of
returns-in-2 c = shown (by_fun 0 0 c.in-2.is)

pub returns-in-3 : goal.returns-in-3
unfolding row_of syntax_of form_of
returns-in-3 c = shown (by_fun 0 0 c.in-3.is)

pub returns-in-4 : goal.returns-in-4
unfolding row_of syntax_of form_of
returns-in-4 c = shown (by_fun 0 0 c.in-4.is)

pub returns-in-6 : goal.returns-in-6
unfolding row_of syntax_of form_of
returns-in-6 c = shown (by_fun 0 0 c.in-6.is)

pub returns-in-7 : goal.returns-in-7
unfolding row_of syntax_of form_of
returns-in-7 c = shown (by_fun 0 0 c.in-7.is)

pub returns-in-8 : goal.returns-in-8
unfolding row_of syntax_of form_of
returns-in-8 c = shown (by_fun 0 0 c.in-8.is)

pub returns-in-9 : goal.returns-in-9
unfolding row_of syntax_of form_of
returns-in-9 c = shown (by_fun 0 0 c.in-9.is)

pub returns-in-12 : goal.returns-in-12
unfolding row_of syntax_of form_of
returns-in-12 c = shown (by_fun 0 0 c.in-12.is)

pub returns-in-16 : goal.returns-in-16
unfolding row_of syntax_of form_of
returns-in-16 c = shown (by_fun 0 0 c.in-16.is)

pub returns-in-17 : goal.returns-in-17
unfolding row_of syntax_of form_of
returns-in-17 c = shown (by_fun 0 0 c.in-17.is)

pub returns-in-18 : goal.returns-in-18
unfolding row_of syntax_of form_of
returns-in-18 c = shown (by_fun 0 0 c.in-18.is)

pub returns-in-19 : goal.returns-in-19
unfolding row_of syntax_of form_of
returns-in-19 c = shown (by_fun 0 0 c.in-19.is)

pub returns-in-24 : goal.returns-in-24
unfolding row_of syntax_of form_of
returns-in-24 c = shown (by_fun 0 0 c.in-24.is)

pub returns-in-25 : goal.returns-in-25
unfolding row_of syntax_of form_of
returns-in-25 c = shown (by_fun 0 0 c.in-25.is)

pub returns-in-32 : goal.returns-in-32
unfolding row_of syntax_of form_of
returns-in-32 c = shown (by_fun 0 0 c.in-32.is)

pub returns-in-33 : goal.returns-in-33
unfolding row_of syntax_of form_of
returns-in-33 c = shown (by_fun 0 0 c.in-33.is)

pub returns-in-34 : goal.returns-in-34
unfolding row_of syntax_of form_of
returns-in-34 c = shown (by_fun 0 0 c.in-34.is)

pub returns-in-35 : goal.returns-in-35
unfolding row_of syntax_of form_of
returns-in-35 c = shown (by_fun 0 0 c.in-35.is)

pub returns-in-36 : goal.returns-in-36
unfolding row_of syntax_of form_of
returns-in-36 c = shown (by_fun 0 0 c.in-36.is)

pub returns-in-37 : goal.returns-in-37
unfolding row_of syntax_of form_of
returns-in-37 c = shown (by_fun 0 0 c.in-37.is)

pub returns-in-38 : goal.returns-in-38
unfolding row_of syntax_of form_of
returns-in-38 c = shown (by_fun 0 0 c.in-38.is)

pub returns-in-39 : goal.returns-in-39
unfolding row_of syntax_of form_of
returns-in-39 c = shown (by_fun 0 0 c.in-39.is)

pub returns-in-42 : goal.returns-in-42
unfolding row_of syntax_of form_of
returns-in-42 c = shown (by_fun 0 0 c.in-42.is)

pub returns-in-43 : goal.returns-in-43
unfolding row_of syntax_of form_of
returns-in-43 c = shown (by_fun 0 0 c.in-43.is)

pub returns-in-60 : goal.returns-in-60
unfolding row_of syntax_of form_of
returns-in-60 c = shown (by_fun 0 0 c.in-60.is)

pub returns-in-61 : goal.returns-in-61
unfolding row_of syntax_of form_of
returns-in-61 c = shown (by_fun 0 0 c.in-61.is)

pub returns-in-62 : goal.returns-in-62
unfolding row_of syntax_of form_of
returns-in-62 c = shown (by_fun 0 0 c.in-62.is)

pub returns-in-63 : goal.returns-in-63
unfolding row_of syntax_of form_of
returns-in-63 c = shown (by_fun 0 0 c.in-63.is)

pub returns-in-1-to-4294967295 : goal.returns-in-1-to-4294967295
unfolding row_of syntax_of form_of
returns-in-1-to-4294967295 c = ⊎_elim (λ e. shown (by_fun 0 0 e)) (λ e. shown (by_fun 0 0 e)) c.in-1-to-4294967295.in-1-to-4294967295-own.keys30

pub returns-in-1-to-4294967295-2 : goal.returns-in-1-to-4294967295-2
unfolding row_of syntax_of form_of
returns-in-1-to-4294967295-2 c = shown (other_fun 0 c.args.fun 0 (63 ∷ 62 ∷ 61 ∷ 60 ∷ 43 ∷ 42 ∷ 39 ∷ 38 ∷ 37 ∷ 36 ∷ 35 ∷ 34 ∷ 33 ∷ 32 ∷ 25 ∷ 24 ∷ 19 ∷ 18 ∷ 17 ∷ 16 ∷ 12 ∷ 9 ∷ 8 ∷ 7 ∷ 6 ∷ 4 ∷ 3 ∷ 2 ∷ 0 ∷ []) tt c.in-1-to-4294967295.in-1-to-4294967295-own.rest.0)
