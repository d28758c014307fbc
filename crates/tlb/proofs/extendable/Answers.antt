-- `tlb::extendable` meets its contract: it is the definition, at what the calls give.
-- Assumes nothing.
use Rattle.tlb.specs.Steps.{extendable}
use Rattle.tlb.proofs.extendable.Goals as goal

pub returns : goal.returns
unfolding extendable
returns c = rw (c.holds_walk.ensures, c.complete.ensures, c.asid.ensures, c.asid-2.ensures.0)
