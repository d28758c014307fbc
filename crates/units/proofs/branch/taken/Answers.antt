use Rattle.units.specs.Branch.{conditions, bcres}
use Rattle.word.proofs.Laws.{not_less}
use Rattle.word.specs.Word.{signed}
use lib.IntN.{pos}
use mathlib.Core.Bool.{not, false}
use Rattle.units.proofs.Lines.{by_control, unlisted}
use mathlib.Core.List.{[], ◌∷◌}
use mathlib.Core.Path.{◌∙◌, ap}
use Rattle.units.proofs.branch.taken.Goals as goal

pub returns-in-2 : goal.returns-in-2
unfolding bcres signed
returns-in-2 c = c.less.ensures ∙ by_control false (conditions c.args.a c.args.b) c.in-2.is

pub returns-in-3 : goal.returns-in-3
unfolding bcres signed
returns-in-3 c = ap not c.less-in-3.ensures ∙ not_less (signed 32 c.args.a) (pos 0) ∙ by_control false (conditions c.args.a c.args.b) c.in-3.is

pub returns-in-8 : goal.returns-in-8
unfolding bcres
returns-in-8 c = by_control false (conditions c.args.a c.args.b) c.in-8.is

pub returns-in-9 : goal.returns-in-9
unfolding bcres
returns-in-9 c = by_control false (conditions c.args.a c.args.b) c.in-9.is

pub returns-in-10 : goal.returns-in-10
unfolding bcres
returns-in-10 c = by_control false (conditions c.args.a c.args.b) c.in-10.is

pub returns-in-11 : goal.returns-in-11
unfolding bcres
returns-in-11 c = by_control false (conditions c.args.a c.args.b) c.in-11.is

pub returns-in-12 : goal.returns-in-12
unfolding bcres signed
returns-in-12 c = ap not c.less-in-12.ensures ∙ not_less (pos 0) (signed 32 c.args.a) ∙ by_control false (conditions c.args.a c.args.b) c.in-12.is

pub returns-in-13 : goal.returns-in-13
unfolding bcres signed
returns-in-13 c = ap not c.less-in-13.ensures ∙ not_less (pos 0) (signed 32 c.args.a) ∙ by_control false (conditions c.args.a c.args.b) c.in-13.is

pub returns-in-14 : goal.returns-in-14
unfolding bcres signed
returns-in-14 c = c.less-in-14.ensures ∙ by_control false (conditions c.args.a c.args.b) c.in-14.is

pub returns-in-15 : goal.returns-in-15
unfolding bcres signed
returns-in-15 c = c.less-in-15.ensures ∙ by_control false (conditions c.args.a c.args.b) c.in-15.is

pub returns-in_default : goal.returns-in_default
unfolding bcres
returns-in_default c = unlisted false (conditions c.args.a c.args.b) c.args.con (15 ∷ 14 ∷ 13 ∷ 12 ∷ 11 ∷ 10 ∷ 9 ∷ 8 ∷ 3 ∷ 2 ∷ []) tt c.in_default.in_default-own.rest
