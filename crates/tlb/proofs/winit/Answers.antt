-- `tlb::winit` meets its contract: it is the definition.
-- Assumes nothing.
use Rattle.tlb.specs.Walks.{winit}
use Rattle.tlb.proofs.winit.Goals as goal

pub returns : goal.returns
unfolding winit
returns c = c.walk_of.ensures
