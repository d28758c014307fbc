-- `apic::local::jisr` meets its contract.
use mathlib.Core.Path.{◌∙◌}
use Rattle.apic.specs.LocalApic.{on_jisr}
use Rattle.apic.proofs.local.jisr.Goals as goal

pub returns : goal.returns
unfolding on_jisr
returns c = c.mark-2.ensures ∙ rw (c.mark.ensures, c.lowest-f.ensures)
