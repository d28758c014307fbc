use Rattle.std.proofs.Common.{◌∙◌}
use Rattle.decode.proofs.Ranges.{mfence_same}
use Rattle.decode.proofs.classes.is_mfence.Goals as goal

pub returns : goal.returns
returns c = c.eq.ensures ∙ mfence_same c.args.i
