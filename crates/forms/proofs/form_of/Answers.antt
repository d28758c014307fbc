use mathlib.Core.Path.{◌∙◌}
use mathlib.Core.List.{[], ◌∷◌}
use mathlib.Core.Logic.{⊎_elim}
use borrow.Author.Tests.{eq-eqb, ne_eqb}
use Rattle.decode.specs.Table.{row_of}
use Rattle.decode.proofs.Rows.{by_opcode, other_opcode}
use Rattle.forms.specs.Syntax.{syntax_of}
use Rattle.forms.specs.inner.Forms.{form_of}
use Rattle.forms.proofs.Rows.{shown}
use Rattle.forms.proofs.form_of.Goals as goal

pub returns-in-0 : goal.returns-in-0
unfolding row_of syntax_of form_of
returns-in-0 c = c.special.ensures ∙ shown (by_opcode _ c.in-0.is)

pub returns-in-1 : goal.returns-in-1
unfolding row_of syntax_of form_of
returns-in-1 c = c.sign_branch.ensures ∙ shown (by_opcode _ c.in-1.is)

pub returns-in-2 : goal.returns-in-2
unfolding row_of syntax_of form_of
returns-in-2 c = shown (by_opcode _ c.in-2.is)

pub returns-in-3 : goal.returns-in-3
unfolding row_of syntax_of form_of
returns-in-3 c = shown (by_opcode _ c.in-3.is)

pub returns-in-4 : goal.returns-in-4
unfolding row_of syntax_of form_of
returns-in-4 c = shown (by_opcode _ c.in-4.is)

pub returns-in-5 : goal.returns-in-5
unfolding row_of syntax_of form_of
returns-in-5 c = shown (by_opcode _ c.in-5.is)

pub returns-then-rt-eq0 : goal.returns-then-rt-eq0
unfolding row_of syntax_of form_of
returns-then-rt-eq0 c = rw (← by_opcode _ c.in-6.is, eq-eqb _ _ c.if-rt-eq0.true)

pub returns-else-rt-eq0 : goal.returns-else-rt-eq0
unfolding row_of syntax_of form_of
returns-else-rt-eq0 c = rw (← by_opcode _ c.in-6.is, ne_eqb _ _ c.if-rt-eq0.false)

pub returns-then-rt-eq0-2 : goal.returns-then-rt-eq0-2
unfolding row_of syntax_of form_of
returns-then-rt-eq0-2 c = rw (← by_opcode _ c.in-7.is, eq-eqb _ _ c.if-rt-eq0-2.true)

pub returns-else-rt-eq0-2 : goal.returns-else-rt-eq0-2
unfolding row_of syntax_of form_of
returns-else-rt-eq0-2 c = rw (← by_opcode _ c.in-7.is, ne_eqb _ _ c.if-rt-eq0-2.false)

pub returns-in-8 : goal.returns-in-8
unfolding row_of syntax_of form_of
returns-in-8 c = shown (by_opcode _ c.in-8.is)

pub returns-in-9 : goal.returns-in-9
unfolding row_of syntax_of form_of
returns-in-9 c = shown (by_opcode _ c.in-9.is)

pub returns-in-10 : goal.returns-in-10
unfolding row_of syntax_of form_of
returns-in-10 c = shown (by_opcode _ c.in-10.is)

pub returns-in-11 : goal.returns-in-11
unfolding row_of syntax_of form_of
returns-in-11 c = shown (by_opcode _ c.in-11.is)

pub returns-in-12 : goal.returns-in-12
unfolding row_of syntax_of form_of
returns-in-12 c = shown (by_opcode _ c.in-12.is)

pub returns-in-13 : goal.returns-in-13
unfolding row_of syntax_of form_of
returns-in-13 c = shown (by_opcode _ c.in-13.is)

pub returns-in-14 : goal.returns-in-14
unfolding row_of syntax_of form_of
returns-in-14 c = shown (by_opcode _ c.in-14.is)

pub returns-in-15 : goal.returns-in-15
unfolding row_of syntax_of form_of
returns-in-15 c = shown (by_opcode _ c.in-15.is)

pub returns-in-16 : goal.returns-in-16
unfolding row_of syntax_of form_of
returns-in-16 c = c.coprocessor.ensures ∙ shown (by_opcode _ c.in-16.is)

pub returns-in-28 : goal.returns-in-28
unfolding row_of syntax_of form_of
returns-in-28 c = c.multiplication.ensures ∙ shown (by_opcode _ c.in-28.is)

pub returns-in-32 : goal.returns-in-32
unfolding row_of syntax_of form_of
returns-in-32 c = shown (by_opcode _ c.in-32.is)

pub returns-in-33 : goal.returns-in-33
unfolding row_of syntax_of form_of
returns-in-33 c = shown (by_opcode _ c.in-33.is)

pub returns-in-35 : goal.returns-in-35
unfolding row_of syntax_of form_of
returns-in-35 c = shown (by_opcode _ c.in-35.is)

pub returns-in-36 : goal.returns-in-36
unfolding row_of syntax_of form_of
returns-in-36 c = shown (by_opcode _ c.in-36.is)

pub returns-in-37 : goal.returns-in-37
unfolding row_of syntax_of form_of
returns-in-37 c = shown (by_opcode _ c.in-37.is)

pub returns-in-40 : goal.returns-in-40
unfolding row_of syntax_of form_of
returns-in-40 c = shown (by_opcode _ c.in-40.is)

pub returns-in-41 : goal.returns-in-41
unfolding row_of syntax_of form_of
returns-in-41 c = shown (by_opcode _ c.in-41.is)

pub returns-in-43 : goal.returns-in-43
unfolding row_of syntax_of form_of
returns-in-43 c = shown (by_opcode _ c.in-43.is)

pub returns-in-17-to-4294967295 : goal.returns-in-17-to-4294967295
unfolding row_of syntax_of form_of
returns-in-17-to-4294967295 c = ⊎_elim (λ e. shown (by_opcode _ e)) (λ e. shown (by_opcode _ e)) c.in-17-to-4294967295.in-17-to-4294967295-own.keys27

pub returns-in-17-to-4294967295-2 : goal.returns-in-17-to-4294967295-2
unfolding row_of syntax_of form_of
returns-in-17-to-4294967295-2 c = shown (other_opcode _ (43 ∷ 41 ∷ 40 ∷ 37 ∷ 36 ∷ 35 ∷ 33 ∷ 32 ∷ 28 ∷ 16 ∷ 15 ∷ 14 ∷ 13 ∷ 12 ∷ 11 ∷ 10 ∷ 9 ∷ 8 ∷ 7 ∷ 6 ∷ 5 ∷ 4 ∷ 3 ∷ 2 ∷ 1 ∷ 0 ∷ []) tt c.in-17-to-4294967295.in-17-to-4294967295-own.rest.0)
