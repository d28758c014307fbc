-- `apic::local::rfe` meets its contract.
use mathlib.Core.Path.{◌∙◌}
use Rattle.apic.specs.LocalApic.{on_rfe}
use Rattle.apic.proofs.local.rfe.Goals as goal

pub returns : goal.returns
unfolding on_rfe
returns c = c.mark.ensures ∙ rw c.lowest-f.ensures
