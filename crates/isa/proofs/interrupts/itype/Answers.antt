use Rattle.decode.proofs.Ranges.{itype_range}
use Rattle.isa.proofs.interrupts.itype.Goals as goal

pub returns : goal.returns
returns c = rw c.number.ensures (itype_range _)
