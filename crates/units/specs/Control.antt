-- A table by control bits, as the report prints it: an entry for each line.
-- Assumes nothing.
use Rattle.std.specs.Prelude.{if◌then◌else◌, List, [], ◌∷◌, ℕ, eqb}

pub record Line (A : Type 0) : Type 0 where
  pub control : ℕ
  pub value : A

abbrev pub line : {A : Type 0} → ℕ → A → Line A
line k v = record { control = k; value = v }

-- what the line with these control bits has; d where no line has them: 0 in the overflow column (report), which leaves
-- lines out; of the other tables no instruction asks for such bits (`all_asked` of proofs/Asked)
abbrev pub choose : {A : Type 0} → A → List (Line A) → ℕ → A
choose d [] k = d
choose d (l ∷ ls) k = if eqb k l.control then l.value else choose d ls k
