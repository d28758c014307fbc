-- `tlb::hit` meets its contract: it is the definition, at the fields.
-- Assumes nothing.
use Rattle.tlb.specs.Walks.{hit}
use Rattle.tlb.proofs.hit.Goals as goal

pub returns : goal.returns
unfolding hit
returns c = rw (c.suffices.ensures, c.asid.ensures, c.va.ensures, c.rights.ensures)
