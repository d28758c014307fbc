-- The parts that a report is made of. They serve contracts and proofs inside alone (`sides_made` of proofs/Answers
-- ends with the text of the sides).
-- Assumes nothing.
use Rattle.std.specs.Prelude.{◌≡◌, List, ℕ}
use Rattle.tables.specs.Views.{cores_of}
use Rattle.reach.specs.Reach.{members, map_for}
use Rattle.separation.specs.Apart.{rest}

-- the others are the rest of the group g, and the two maps are filled
pub record Maps (g o : ℕ) (t m own other : List ℕ) : Type 0 where
  pub others : members o (cores_of t) ≡ rest g t
  pub own_map : own ≡ map_for (members g (cores_of t)) t m
  pub other_map : other ≡ map_for (members o (cores_of t)) t m
