use Rattle.std.proofs.Common.{◌∙◌}
use Rattle.decode.proofs.Ranges.{eret_same}
use Rattle.isa.proofs.interrupts.is_return.Goals as goal

pub returns : goal.returns
returns c = c.eq.ensures ∙ eret_same c.args.i
