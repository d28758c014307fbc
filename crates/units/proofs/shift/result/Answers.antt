use Rattle.units.specs.Shift.{shifts, sures}
use Rattle.units.proofs.Lines.{by_control, unlisted}
use mathlib.Core.List.{[], ◌∷◌}
use mathlib.Core.Path.{◌∙◌}
use Rattle.units.proofs.shift.result.Goals as goal

pub returns-in-0 : goal.returns-in-0
unfolding sures
returns-in-0 c = c.shift_left.ensures ∙ by_control 0 (shifts c.args.a c.args.i) c.in-0.is

pub returns-in-2 : goal.returns-in-2
unfolding sures
returns-in-2 c = c.shift_right.ensures ∙ by_control 0 (shifts c.args.a c.args.i) c.in-2.is

pub returns-in-3 : goal.returns-in-3
unfolding sures
returns-in-3 c = c.shift_signed.ensures ∙ by_control 0 (shifts c.args.a c.args.i) c.in-3.is

pub returns-in_default : goal.returns-in_default
unfolding sures
returns-in_default c = unlisted 0 (shifts c.args.a c.args.i) c.args.sf (3 ∷ 2 ∷ 0 ∷ []) tt c.in_default.in_default-own.rest
