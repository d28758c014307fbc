use Rattle.decode.proofs.Rows.{by_opcode, other_opcode}
use mathlib.Core.List.{[], ◌∷◌}
use borrow.Author.Tests.{ne_eqb, eq-eqb}
use mathlib.Core.Path.{◌∙◌}
use Rattle.decode.specs.Table.{row_of}
use Rattle.decode.proofs.decode.Goals as goal

pub returns-in-0 : goal.returns-in-0
unfolding row_of
returns-in-0 c = c.special.ensures ∙ by_opcode _ c.in-0.is

pub returns-in-1 : goal.returns-in-1
unfolding row_of
returns-in-1 c = c.sign_branch.ensures ∙ by_opcode _ c.in-1.is

pub returns-in-2 : goal.returns-in-2
unfolding row_of
returns-in-2 c = by_opcode _ c.in-2.is

pub returns-in-3 : goal.returns-in-3
unfolding row_of
returns-in-3 c = by_opcode _ c.in-3.is

pub returns-in-4 : goal.returns-in-4
unfolding row_of
returns-in-4 c = by_opcode _ c.in-4.is

pub returns-in-5 : goal.returns-in-5
unfolding row_of
returns-in-5 c = by_opcode _ c.in-5.is

pub returns-then-rt-eq0 : goal.returns-then-rt-eq0
unfolding row_of
returns-then-rt-eq0 c = rw (← by_opcode _ c.in-6.is, eq-eqb _ _ c.if-rt-eq0.true)

pub returns-else-rt-eq0 : goal.returns-else-rt-eq0
unfolding row_of
returns-else-rt-eq0 c = rw (← by_opcode _ c.in-6.is, ne_eqb _ _ c.if-rt-eq0.false)

pub returns-then-rt-eq0-2 : goal.returns-then-rt-eq0-2
unfolding row_of
returns-then-rt-eq0-2 c = rw (← by_opcode _ c.in-7.is, eq-eqb _ _ c.if-rt-eq0-2.true)

pub returns-else-rt-eq0-2 : goal.returns-else-rt-eq0-2
unfolding row_of
returns-else-rt-eq0-2 c = rw (← by_opcode _ c.in-7.is, ne_eqb _ _ c.if-rt-eq0-2.false)

pub returns-in-8 : goal.returns-in-8
unfolding row_of
returns-in-8 c = by_opcode _ c.in-8.is

pub returns-in-9 : goal.returns-in-9
unfolding row_of
returns-in-9 c = by_opcode _ c.in-9.is

pub returns-in-10 : goal.returns-in-10
unfolding row_of
returns-in-10 c = by_opcode _ c.in-10.is

pub returns-in-11 : goal.returns-in-11
unfolding row_of
returns-in-11 c = by_opcode _ c.in-11.is

pub returns-in-12 : goal.returns-in-12
unfolding row_of
returns-in-12 c = by_opcode _ c.in-12.is

pub returns-in-13 : goal.returns-in-13
unfolding row_of
returns-in-13 c = by_opcode _ c.in-13.is

pub returns-in-14 : goal.returns-in-14
unfolding row_of
returns-in-14 c = by_opcode _ c.in-14.is

pub returns-in-15 : goal.returns-in-15
unfolding row_of
returns-in-15 c = by_opcode _ c.in-15.is

pub returns-in-16 : goal.returns-in-16
unfolding row_of
returns-in-16 c = c.coprocessor.ensures ∙ by_opcode _ c.in-16.is

pub returns-in-28 : goal.returns-in-28
unfolding row_of
returns-in-28 c = c.multiplication.ensures ∙ by_opcode _ c.in-28.is

pub returns-in-32 : goal.returns-in-32
unfolding row_of
returns-in-32 c = by_opcode _ c.in-32.is

pub returns-in-33 : goal.returns-in-33
unfolding row_of
returns-in-33 c = by_opcode _ c.in-33.is

pub returns-in-35 : goal.returns-in-35
unfolding row_of
returns-in-35 c = by_opcode _ c.in-35.is

pub returns-in-36 : goal.returns-in-36
unfolding row_of
returns-in-36 c = by_opcode _ c.in-36.is

pub returns-in-37 : goal.returns-in-37
unfolding row_of
returns-in-37 c = by_opcode _ c.in-37.is

pub returns-in-40 : goal.returns-in-40
unfolding row_of
returns-in-40 c = by_opcode _ c.in-40.is

pub returns-in-41 : goal.returns-in-41
unfolding row_of
returns-in-41 c = by_opcode _ c.in-41.is

pub returns-in-43 : goal.returns-in-43
unfolding row_of
returns-in-43 c = by_opcode _ c.in-43.is

pub returns-in_default : goal.returns-in_default
returns-in_default c = other_opcode _ (43 ∷ 41 ∷ 40 ∷ 37 ∷ 36 ∷ 35 ∷ 33 ∷ 32 ∷ 28 ∷ 16 ∷ 15 ∷ 14 ∷ 13 ∷ 12 ∷ 11 ∷ 10 ∷ 9 ∷ 8 ∷ 7 ∷ 6 ∷ 5 ∷ 4 ∷ 3 ∷ 2 ∷ 1 ∷ 0 ∷ []) tt c.in_default.in_default-own.rest
