-- `tlb::fault` meets its contract: the entry matters where an incomplete walk is a hit.
-- Assumes nothing.
use mathlib.Core.Path.{ap, ◌∙◌}
use Rattle.tlb.specs.Walks.{entry_fault}
use Rattle.tlb.proofs.Faults.{fault_asked, fault_passed}
use Rattle.tlb.proofs.fault.Goals as goal

pub returns-then-complete-hit : goal.returns-then-complete-hit
returns-then-complete-hit c = c.entry_fault.ensures ∙ ap (entry_fault _) c.pte.ensures ∙ fault_asked _ _ _ c.complete.ensures c.hit.ensures c.if-complete-hit.true

pub returns-else-complete-hit : goal.returns-else-complete-hit
returns-else-complete-hit c = fault_passed _ _ _ c.complete.ensures c.hit.ensures c.if-complete-hit.false
