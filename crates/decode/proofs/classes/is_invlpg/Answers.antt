use Rattle.std.proofs.Common.{◌∙◌}
use Rattle.decode.proofs.Ranges.{invlpg_same}
use Rattle.decode.proofs.classes.is_invlpg.Goals as goal

pub returns : goal.returns
returns c = c.eq.ensures ∙ invlpg_same c.args.i
