use Rattle.std.proofs.Common.{sym, ap, ◌∙◌}
use Rattle.decode.proofs.Ranges.{load_shape, load_same, not_load}
use Rattle.decode.proofs.classes.is_load.Goals as goal

pub returns-in-Load : goal.returns-in-Load
returns-in-Load c = ap load_shape (sym c.in-Load.is) ∙ load_same c.args.i

pub returns-in_default : goal.returns-in_default
returns-in_default c = not_load c.args.i c.in_default.not-Load
