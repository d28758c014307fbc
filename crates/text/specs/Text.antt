-- Texts as bytes, numbers in them, and what it is to put a text into a buffer.
-- Assumes nothing.
use Rattle.std.specs.Prelude.{if◌then◌else◌, ◌≡◌, List, [], ◌∷◌, ◌++◌, ℕ, zero, suc, ◌+◌, ◌-◌, ◌/◌, ◌%◌, ltb, length, take, drop}
use Prim.Native.Char.{code}
use Prim.Native.String.{String, [] as none, ◌∷◌ as ◌then◌}
use Rattle.io.specs.Digits.{hex_digit_ascii}

-- the bytes of a text in ASCII
abbrev pub ascii : String → List ℕ
ascii none = []
ascii (c then s) = code c ∷ ascii s

-- the decimal digits of a number below 10 ^ f, the most significant first
unfoldable pub decimal_in : ℕ → ℕ → List ℕ
decimal_in zero n = []
decimal_in (suc f) n = if ltb n 10 then hex_digit_ascii n ∷ [] else decimal_in f (n / 10) ++ (hex_digit_ascii (n % 10) ∷ [])

-- every number of 64 bits has at most 20 digits
abbrev pub decimal : ℕ → List ℕ
decimal n = decimal_in 20 n

unfoldable pub blanks : ℕ → List ℕ
blanks zero = []
blanks (suc n) = blanks n ++ (32 ∷ [])

-- a number with blanks before it up to a width
unfoldable pub padded : ℕ → ℕ → List ℕ
padded width n = blanks (width - length (decimal n)) ++ decimal n

-- bytes b are c after a text was put at a place; r is the place after the text. What stands before and beyond it stays.
pub record Put (b : List ℕ) (at : ℕ) (text : List ℕ) (r : ℕ) (c : List ℕ) : Type 0 where
  pub place : r ≡ at + length text
  pub kept : length c ≡ length b
  pub front : take r c ≡ take at b ++ text
  pub beyond : drop r c ≡ drop r b
