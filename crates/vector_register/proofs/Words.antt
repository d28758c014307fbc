-- The lowest vector of a register, word by word.
-- Assumes nothing.
use Rattle.std.specs.Prelude.{Some}
use Rattle.std.specs.Bool.{MatchBool}
use Rattle.std.specs.List.{HoldsAt, AllWithin}
use mathlib.Core.Bool.{Bool, true, false}
use mathlib.Core.Path.{◌≡◌, refl, sym, ap, ap₂, ◌∙◌, subst}
use mathlib.Core.List.{List}
use mathlib.Core.Logic.{⊎_elim}
use Prim.Native.Nat.{ℕ, ◌+◌, ◌*◌, ◌/◌, ◌%◌, ◌^◌, ◌≤◌, ◌<◌}
use native.Mathlib.Omega.{arith}
use lib.Count.{count_trailing_zeros}
use lib.ListN.{length, get_or}
use Rattle.word.proofs.Laws.{side}
use Rattle.word.proofs.Bits.{bit_zero, zeros_clear, zeros_set}
use Rattle.word.specs.Word.{bit}
use Rattle.vector_register.specs.Vectors.{bit_at, lowest, some_up_to}
use Rattle.vector_register.proofs.Least.{Unset, found_at}
use Rattle.vector_register.proofs.Some.{some_no, some_yes}

module _ (b : List ℕ) (p i : ℕ) where
  abbrev word : ℕ → ℕ
  word k = bit (get_or b (p + i) 0) k

  in_word : (k q : ℕ) → k / 32 ≡ i → k % 32 ≡ q → bit_at b p k ≡ word q
  in_word k q d r = ap₂ (λ (m n : ℕ). bit (get_or b (p + m) 0) n) d r

  -- below 32 i + n, where the words before are clear, and the bits below n of this one
  clear_part : (n : ℕ) → n ≤ 32 → Unset (λ (k : ℕ). bit_at b p k) (32 * i) → Unset word n → Unset (λ (k : ℕ). bit_at b p k) (32 * i + n)
  clear_part n l before c k h e =
      ⊎_elim (λ m. before k m e)
      (λ m. c (k % 32) (omega arith) (sym (in_word k (k % 32) (omega arith) refl) ∙ e))
      (side k (32 * i))

  module _ (before : Unset (λ (k : ℕ). bit_at b p k) (32 * i)) where
    pub word_clear : get_or b (p + i) 0 ≡ 0 → Unset (λ (k : ℕ). bit_at b p k) (32 * (i + 1))
    word_clear z =
        let n : 32 * i + 32 ≡ 32 * (i + 1) = omega arith in
        let c : Unset word 32 = λ k l e. let o : word k ≡ 0 = ap (λ (w : ℕ). bit w k) z ∙ bit_zero k in omega arith in
        subst (λ (m : ℕ). Unset (λ (k : ℕ). bit_at b p k) m) n (clear_part 32 (omega arith) before c)

    pub word_found : i < 8 → 0 < get_or b (p + i) 0 → get_or b (p + i) 0 < 2 ^ 32 → lowest b p ≡ Some (32 * i + count_trailing_zeros 32 (get_or b (p + i) 0))
    word_found l h m =
        let w = get_or b (p + i) 0 in
        let v = count_trailing_zeros 32 w in
        let s = zeros_set 32 w h m in
        found_at (λ (k : ℕ). bit_at b p k) 256 (32 * i + v) (omega (arith, s.0))
        (in_word (32 * i + v) v (omega (arith, s.0)) (omega (arith, s.0)) ∙ s.1)
        (clear_part v (omega (arith, s.0)) before (zeros_clear 32 w))

-- ---- whether a vector is set, by the eight words

module _ (b : List ℕ) (p : ℕ) where
  abbrev answer : Bool
  answer = some_up_to (λ (k : ℕ). bit_at b p k) 255

  word_set : (i : ℕ) → i < 8 → 0 < get_or b (p + i) 0 → get_or b (p + i) 0 < 2 ^ 32 → answer ≡ true
  word_set i l h m =
      let v = count_trailing_zeros 32 (get_or b (p + i) 0) in
      let s = zeros_set 32 (get_or b (p + i) 0) h m in
      some_yes (λ (k : ℕ). bit_at b p k) 255 (32 * i + v) (omega (arith, s.0))
      (in_word b p i (32 * i + v) v (omega (arith, s.0)) (omega (arith, s.0)) ∙ s.1)

  words_clear : ((i : ℕ) → i < 8 → get_or b (p + i) 0 ≡ 0) → answer ≡ false
  words_clear z =
      some_no (λ (k : ℕ). bit_at b p k) 255
      (λ k l e. let o : bit_at b p k ≡ 0 = ap (λ (w : ℕ). bit w (k % 32)) (z (k / 32) (omega arith)) ∙ bit_zero (k % 32) in omega arith)

  -- what a search through the words answers
  module _ (ws : List ℕ) (long : length ws ≡ 8) (same : (i : ℕ) → i < 8 → get_or ws i 0 ≡ get_or b (p + i) 0)
      (low : (i : ℕ) → get_or b (p + i) 0 < 2 ^ 32) where
    pub some_word : (r : Bool) →
        MatchBool r ((i : ℕ) × (i < length ws) × HoldsAt (λ (w : ℕ). 0 < w) ws i) (AllWithin (λ (w : ℕ). w ≡ 0) ws 0 (length ws)) → r ≡ answer
    some_word true h = sym (word_set h.0 (omega (arith, h.1, long)) (omega (arith, h.2 0, same h.0 (omega (arith, h.1, long)))) (low h.0))
    some_word false h = sym (words_clear (λ i l. sym (same i l) ∙ h i 0 (omega arith) (omega (arith, long))))
