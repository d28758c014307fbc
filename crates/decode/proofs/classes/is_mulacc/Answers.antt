use Rattle.std.proofs.Common.{sym, ap, ◌∙◌}
use Rattle.decode.proofs.Ranges.{mulacc_shape, mulacc_same, not_mulacc}
use Rattle.decode.proofs.classes.is_mulacc.Goals as goal

pub returns-in-Multiply : goal.returns-in-Multiply
returns-in-Multiply c = c.ne.ensures ∙ ap mulacc_shape (sym c.in-Multiply.is) ∙ mulacc_same c.args.i

pub returns-in_default : goal.returns-in_default
returns-in_default c = not_mulacc c.args.i c.in_default.not-Multiply
