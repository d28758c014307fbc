use Rattle.decode.proofs.Rows.{by_rt}
use borrow.Author.Tests.{ne_eqb}
use Rattle.decode.specs.Table.{row_of}
use Rattle.decode.proofs.sign_branch.Goals as goal

pub returns-in-0 : goal.returns-in-0
unfolding row_of
returns-in-0 c = by_rt c.in-0.is

pub returns-in-1 : goal.returns-in-1
unfolding row_of
returns-in-1 c = by_rt c.in-1.is

pub returns-in_default : goal.returns-in_default
unfolding row_of
returns-in_default c = simp (ne_eqb _ _ c.in_default.in_default-own.rest.1, ne_eqb _ _ c.in_default.in_default-own.rest.0.1)
