-- `tlb::suffices` meets its contract: it is the definition.
-- Assumes nothing.
use mathlib.Core.Path.{refl}
use Rattle.tlb.specs.Walks.{suffices}
use Rattle.tlb.proofs.suffices.Goals as goal

pub returns : goal.returns
unfolding suffices
returns c = refl
