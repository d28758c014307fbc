-- `apic::local::end` meets its contract.
use mathlib.Core.Path.{◌∙◌}
use Rattle.apic.specs.LocalApic.{eoi_written}
use Rattle.apic.proofs.local.end.Goals as goal

pub returns : goal.returns
unfolding eoi_written
returns c = c.mark-2.ensures ∙ rw (c.mark.ensures, c.lowest-f.ensures)
