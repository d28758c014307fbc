use Rattle.std.proofs.Common.{◌∙◌}
use Rattle.decode.proofs.Ranges.{cas_same}
use Rattle.decode.proofs.classes.is_cas.Goals as goal

pub returns : goal.returns
returns c = c.eq.ensures ∙ cas_same c.args.i
