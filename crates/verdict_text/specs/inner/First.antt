-- The first of the arguments in bytes, and what follows it. It serves contracts and proofs inside alone
-- (`first_argument` of proofs/Named ties it to the arguments).
-- Assumes nothing.
use Rattle.std.specs.Prelude.{if◌then◌else◌, List, [], ◌∷◌, ℕ, eqb, Option, Some, None}

unfoldable pub first : List ℕ → List ℕ
first [] = []
first (x ∷ b) = if eqb x 0 then [] else x ∷ first b

unfoldable pub after_first : List ℕ → List ℕ
after_first [] = []
after_first (x ∷ b) = if eqb x 0 then b else after_first b

-- a core as `named_core` gives it, where 4 stands for none
abbrev pub core_of : ℕ → Option ℕ
core_of n = if eqb n 4 then None else Some n
