-- The list of walks after a walk was added, and after some were dropped. It serves proofs alone: `add_law` and
-- `drop_law` of proofs/Laws tie it to what `add_walk` and `drop_walks` do to a block.
-- Assumes nothing.
use Rattle.std.specs.Prelude.{ℕ, Bool, true, false, List, [], ◌∷◌}
use Rattle.records.specs.declared.Walk.{Walk}
use Rattle.records.specs.Records.{among}

-- a walk held already is not added again
unfoldable pub with_walk : Walk → List Walk → List Walk
with_walk w l = elim (among w l) [ true ↦ l | false ↦ w ∷ l ]

-- the walks that stay
unfoldable pub staying : (ℕ → Bool) → List Walk → List Walk
staying hit [] = []
staying hit (w ∷ l) = elim (hit w.first) [ true ↦ staying hit l | false ↦ w ∷ staying hit l ]
