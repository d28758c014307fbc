-- The decimal text of a number: how long it is, which bytes it has not, and that it tells the number.
-- Assumes nothing.
use Rattle.std.specs.Prelude.{if◌then◌else◌}
use mathlib.Core.Path.{◌≡◌, refl, sym, ap, ◌∙◌}
use mathlib.Core.Bool.{Bool, true, false, not, ◌&&◌}
use mathlib.Core.List.{List, [], ◌∷◌, ◌++◌}
use Prim.Native.Nat.{ℕ, zero, suc, ◌+◌, ◌-◌, ◌*◌, ◌/◌, ◌%◌, ◌^◌, ◌≤◌, ◌<◌}
use native.Mathlib.Nat.{pow-suc}
use native.Mathlib.Omega.{arith}
use lib.Dec.{eqb, ltb}
use lib.ListN.{length, length-append}
use borrow.Author.Tests.{lt-ltb, ltb-true, ne_eqb}
use Rattle.io.specs.Digits.{hex_digit_ascii}
use Rattle.text.specs.Text.{decimal_in, decimal}

-- ---- how long it is

pub decimal_length : (f n : ℕ) → length (decimal_in f n) ≤ f
unfolding decimal_in
decimal_length zero n = omega arith
decimal_length (suc f) n = go (ltb n 10) (decimal_length f (n / 10))
  where
    go : (b : Bool) → length (decimal_in f (n / 10)) ≤ f → length (if b then hex_digit_ascii n ∷ [] else decimal_in f (n / 10) ++ (hex_digit_ascii (n % 10) ∷ [])) ≤ suc f
    go true h = omega arith
    go false h = omega (arith, length-append (decimal_in f (n / 10)) (hex_digit_ascii (n % 10) ∷ []))

pub decimal_short : (f k n : ℕ) → 0 < k → n < 10 ^ k → length (decimal_in f n) ≤ k
unfolding decimal_in
decimal_short zero k n h l = omega arith
decimal_short (suc f) zero n h l = absurd (omega arith)
decimal_short (suc f) (suc zero) n h l = rw (lt-ltb n 10 l) (omega arith)
decimal_short (suc f) (suc (suc k)) n h l =
    go (ltb n 10) (decimal_short f (suc k) (n / 10) (omega arith) (omega (arith, pow-suc 10 (suc k))))
  where
    go : (b : Bool) → length (decimal_in f (n / 10)) ≤ suc k → length (if b then hex_digit_ascii n ∷ [] else decimal_in f (n / 10) ++ (hex_digit_ascii (n % 10) ∷ [])) ≤ suc (suc k)
    go true u = omega arith
    go false u = omega (arith, length-append (decimal_in f (n / 10)) (hex_digit_ascii (n % 10) ∷ []))

-- ---- a byte that it has not

abbrev pub free : ℕ → List ℕ → Bool
free k [] = true
free k (x ∷ l) = not (eqb x k) && free k l

pub free_append : (k : ℕ) (a b : List ℕ) → free k a ≡ true → free k b ≡ true → free k (a ++ b) ≡ true
free_append k [] b p q = q
free_append k (x ∷ a) b p q = go (not (eqb x k)) (free k a) p (free_append k a b)
  where
    go : (t u : Bool) → t && u ≡ true → (u ≡ true → free k b ≡ true → free k (a ++ b) ≡ true) → t && free k (a ++ b) ≡ true
    go true u e f = f e q
    go false u e f = e

glyph_digit : (d : ℕ) → d < 10 → hex_digit_ascii d ≡ 48 + d
glyph_digit d h = rw (lt-ltb d 10 h) refl

glyph_free : (k d : ℕ) → k < 48 → d < 10 → free k (hex_digit_ascii d ∷ []) ≡ true
glyph_free k d h l = rw (glyph_digit d l, ne_eqb (48 + d) k (λ e. absurd (omega arith))) refl

-- it has no byte below 48: no blank, no minus
pub decimal_free : (f k n : ℕ) → k < 48 → free k (decimal_in f n) ≡ true
unfolding decimal_in
decimal_free zero k n h = refl
decimal_free (suc f) k n h = go (ltb n 10) refl (decimal_free f k (n / 10) h)
  where
    go : (b : Bool) → ltb n 10 ≡ b → free k (decimal_in f (n / 10)) ≡ true → free k (if b then hex_digit_ascii n ∷ [] else decimal_in f (n / 10) ++ (hex_digit_ascii (n % 10) ∷ [])) ≡ true
    go true e u = glyph_free k n h (ltb-true n 10 e)
    go false e u = free_append k (decimal_in f (n / 10)) (hex_digit_ascii (n % 10) ∷ []) u (glyph_free k (n % 10) h (omega arith))

-- ---- it tells the number

-- the number that digits say, after those that say a
abbrev pub value_from : ℕ → List ℕ → ℕ
value_from a [] = a
value_from a (x ∷ l) = value_from (10 * a + (x - 48)) l

value_last : (a : ℕ) (l : List ℕ) (x : ℕ) → value_from a (l ++ (x ∷ [])) ≡ 10 * value_from a l + (x - 48)
value_last a [] x = refl
value_last a (y ∷ l) x = value_last (10 * a + (y - 48)) l x

glyph_value : (d : ℕ) → d < 10 → hex_digit_ascii d - 48 ≡ d
glyph_value d h = rw (glyph_digit d h) (omega arith)

pub decimal_value : (f n : ℕ) → n < 10 ^ f → value_from 0 (decimal_in f n) ≡ n
unfolding decimal_in
decimal_value zero n h = omega arith
decimal_value (suc f) n h = go (ltb n 10) refl (decimal_value f (n / 10) (omega (arith, pow-suc 10 f)))
  where
    go : (b : Bool) → ltb n 10 ≡ b → value_from 0 (decimal_in f (n / 10)) ≡ n / 10 → value_from 0 (if b then hex_digit_ascii n ∷ [] else decimal_in f (n / 10) ++ (hex_digit_ascii (n % 10) ∷ [])) ≡ n
    go true e u = omega (arith, glyph_value n (ltb-true n 10 e))
    go false e u = value_last 0 (decimal_in f (n / 10)) (hex_digit_ascii (n % 10)) ∙ omega (arith, glyph_value (n % 10) (omega arith))

pub decimal_tells : (m n : ℕ) → m < 10 ^ 20 → n < 10 ^ 20 → decimal m ≡ decimal n → m ≡ n
decimal_tells m n h k e = sym (decimal_value 20 m h) ∙ ap (value_from 0) e ∙ decimal_value 20 n k
