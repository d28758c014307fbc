use Rattle.std.specs.Prelude.{if◌then◌else◌}
use mathlib.Core.List.{[], ◌∷◌}
use Rattle.units.specs.Alu.{alures, results}
use Rattle.units.proofs.Lines.{by_control, unlisted}
use mathlib.Core.Path.{◌∙◌, ap}
use mathlib.Core.Bool.{Bool}
use Rattle.units.proofs.alu.result.Goals as goal

pub returns-in-0 : goal.returns-in-0
unfolding alures
returns-in-0 c = c.add.ensures ∙ by_control 0 (results c.args.a c.args.b c.args.itype) c.in-0.is

pub returns-in-1 : goal.returns-in-1
unfolding alures
returns-in-1 c = c.add-in-1.ensures ∙ by_control 0 (results c.args.a c.args.b c.args.itype) c.in-1.is

pub returns-in-2 : goal.returns-in-2
unfolding alures
returns-in-2 c = c.sub.ensures ∙ by_control 0 (results c.args.a c.args.b c.args.itype) c.in-2.is

pub returns-in-3 : goal.returns-in-3
unfolding alures
returns-in-3 c = c.sub-in-3.ensures ∙ by_control 0 (results c.args.a c.args.b c.args.itype) c.in-3.is

pub returns-in-4 : goal.returns-in-4
unfolding alures
returns-in-4 c = by_control 0 (results c.args.a c.args.b c.args.itype) c.in-4.is

pub returns-in-5 : goal.returns-in-5
unfolding alures
returns-in-5 c = by_control 0 (results c.args.a c.args.b c.args.itype) c.in-5.is

pub returns-in-6 : goal.returns-in-6
unfolding alures
returns-in-6 c = by_control 0 (results c.args.a c.args.b c.args.itype) c.in-6.is

pub returns-in-7 : goal.returns-in-7
unfolding alures
returns-in-7 c = c.nor_or_high.ensures ∙ by_control 0 (results c.args.a c.args.b c.args.itype) c.in-7.is

pub returns-in-10 : goal.returns-in-10
unfolding alures
returns-in-10 c = c.flag.ensures.0 ∙ ap (λ (t : Bool). if t then 1 else 0) c.less.ensures ∙ by_control 0 (results c.args.a c.args.b c.args.itype) c.in-10.is

pub returns-in-11 : goal.returns-in-11
unfolding alures
returns-in-11 c = c.flag-in-11.ensures.0 ∙ by_control 0 (results c.args.a c.args.b c.args.itype) c.in-11.is

pub returns-in_default : goal.returns-in_default
unfolding alures
returns-in_default c = unlisted 0 (results c.args.a c.args.b c.args.itype) c.args.con (11 ∷ 10 ∷ 7 ∷ 6 ∷ 5 ∷ 4 ∷ 3 ∷ 2 ∷ 1 ∷ 0 ∷ []) tt c.in_default.in_default-own.rest
