-- How the program's arguments are read: bytes, in which each argument ends in a zero byte.
-- Assumes nothing.
use Rattle.std.specs.Prelude.{if◌then◌else◌, ◌&&◌, List, [], ◌∷◌, ℕ, ◌-◌, eqb, leb, length, get_or}
use Rattle.word.specs.Word.{with_bit}

-- one byte more before the first of some arguments, or a first one that is this byte
abbrev pub before : ℕ → List (List ℕ) → List (List ℕ)
before x [] = (x ∷ []) ∷ []
before x (s ∷ l) = (x ∷ s) ∷ l

-- the arguments, without their zero bytes; a last one that has none counts too
unfoldable pub arguments_in : List ℕ → List (List ℕ)
arguments_in [] = []
arguments_in (x ∷ b) = if eqb x 0 then [] ∷ arguments_in b else before x (arguments_in b)

-- the core that an argument names: one digit from 0 to 3, of code 48 to 51; 4 stands for none
unfoldable pub named_core : List ℕ → ℕ
named_core s = if eqb (length s) 1 && (leb 48 (get_or s 0 0) && leb (get_or s 0 0) 51) then get_or s 0 0 - 48 else 4

-- the cores that arguments name, as a group; or the first argument that names none
pub data Question : Type 0 where
  Cores : ℕ → Question
  NoCore : List ℕ → Question

-- where the arguments before these named the cores of g
unfoldable pub asked_from : ℕ → List (List ℕ) → Question
asked_from g [] = Cores g
asked_from g (s ∷ l) = if eqb (named_core s) 4 then NoCore s else asked_from (with_bit g (named_core s) 1) l
