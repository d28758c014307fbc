use Rattle.decode.proofs.Rows.{by_fun, other_fun}
use mathlib.Core.List.{[], ◌∷◌}
use Rattle.decode.specs.Table.{row_of}
use Rattle.decode.proofs.multiplication.Goals as goal

pub returns-in-0 : goal.returns-in-0
unfolding row_of
returns-in-0 c = by_fun 28 0 c.in-0.is

pub returns-in-1 : goal.returns-in-1
unfolding row_of
returns-in-1 c = by_fun 28 0 c.in-1.is

pub returns-in-2 : goal.returns-in-2
unfolding row_of
returns-in-2 c = by_fun 28 0 c.in-2.is

pub returns-in-4 : goal.returns-in-4
unfolding row_of
returns-in-4 c = by_fun 28 0 c.in-4.is

pub returns-in-5 : goal.returns-in-5
unfolding row_of
returns-in-5 c = by_fun 28 0 c.in-5.is

pub returns-in_default : goal.returns-in_default
returns-in_default c = other_fun 28 c.args.fun 0 (5 ∷ 4 ∷ 2 ∷ 1 ∷ 0 ∷ []) tt c.in_default.in_default-own.rest
