use Rattle.std.proofs.Common.{◌∙◌}
use Rattle.decode.proofs.Ranges.{sysc_same}
use Rattle.isa.proofs.interrupts.calls.Goals as goal

pub returns : goal.returns
returns c = c.eq.ensures ∙ sysc_same c.args.i
