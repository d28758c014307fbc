use Rattle.std.proofs.Common.{◌∙◌}
use Rattle.decode.proofs.Ranges.{ill_same}
use Rattle.isa.proofs.interrupts.illegal.Goals as goal

pub returns : goal.returns
returns c = c.eq.ensures ∙ ill_same c.args.i
