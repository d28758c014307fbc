use Rattle.isa.proofs.Lowest.{trailing_lowest}
use Rattle.isa.proofs.interrupts.level.Goals as goal

pub returns : goal.returns
returns c = trailing_lowest 32 c.args.causes
