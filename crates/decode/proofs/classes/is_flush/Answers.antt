use Rattle.std.proofs.Common.{◌∙◌}
use Rattle.decode.proofs.Ranges.{flush_same}
use Rattle.decode.proofs.classes.is_flush.Goals as goal

pub returns : goal.returns
returns c = c.eq.ensures ∙ flush_same c.args.i
