-- `tlb::wext_faults` meets its contract: it is the definition, at the fields.
-- Assumes nothing.
use Rattle.tlb.specs.Walks.{wext_fault}
use Rattle.tlb.proofs.wext_faults.Goals as goal

pub returns : goal.returns
unfolding wext_fault
returns c = rw (c.suffices.ensures, c.entry_rights.ensures, c.present.ensures)
