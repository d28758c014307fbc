-- Registers of 256 bits in a list of words: vector v is bit v mod 32 of the word at place + v div 32.
-- Assumes nothing.
use Rattle.std.specs.Prelude.{Bool, true, false, ◌||◌, List, ℕ, zero, suc, ◌+◌, ◌/◌, ◌%◌, get_or, set, eqb, ltb, Option, Some, None}
use Rattle.word.specs.Word.{bit, with_bit}

-- ---- a vector of the register at place p

abbrev pub bit_at : List ℕ → ℕ → ℕ → ℕ
bit_at b p v = bit (get_or b (p + v / 32) 0) (v % 32)

unfoldable pub with_vector : List ℕ → ℕ → ℕ → ℕ → List ℕ
with_vector b p v x = set b (p + v / 32) (with_bit (get_or b (p + v / 32) 0) (v % 32) x)

-- ---- the lowest vector that is set

-- min { k | f k = 1 } among the n numbers from v on
unfoldable pub least : (ℕ → ℕ) → ℕ → ℕ → Option ℕ
least f zero v = None
least f (suc n) v = elim (eqb (f v) 1) [ true ↦ Some v | false ↦ least f n (v + 1) ]

-- min { k | reg[k] = 1 } of the register at place p
abbrev pub lowest : List ℕ → ℕ → Option ℕ
lowest b p = least (λ (k : ℕ). bit_at b p k) 256 0

-- x at the vector found; where none is, no bit changes
abbrev pub marked : List ℕ → ℕ → Option ℕ → ℕ → List ℕ
marked b p None x = b
marked b p (Some v) x = with_vector b p v x

-- the vector found, if any, is one of the 256
abbrev pub is_vector : Option ℕ → Bool
is_vector None = true
is_vector (Some v) = ltb v 256

-- ---- definition 66: ∃ k ≤ j : f k = 1

unfoldable pub some_up_to : (ℕ → ℕ) → ℕ → Bool
some_up_to f zero = eqb (f 0) 1
some_up_to f (suc j) = eqb (f (suc j)) 1 || some_up_to f j
