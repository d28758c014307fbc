use Rattle.decode.proofs.Ranges.{rtype_range}
use Rattle.decode.proofs.classes.is_rtype.Goals as goal

pub returns : goal.returns
returns c = rw c.number-n.ensures (rtype_range _)
