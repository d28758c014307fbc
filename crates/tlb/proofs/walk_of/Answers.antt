-- `tlb::walk_of` meets its contract: it is the definition.
-- Assumes nothing.
use mathlib.Core.Path.{refl}
use Rattle.tlb.specs.Walks.{walk_of}
use Rattle.tlb.proofs.walk_of.Goals as goal

pub returns : goal.returns
unfolding walk_of
returns c = refl
