-- Two copies of 32 words and three words: the registers of a block.
-- Assumes nothing.
use mathlib.Core.Path.{◌≡◌, sym, ap, ◌∙◌}
use Prim.Native.Nat.{ℕ, zero, suc, ◌+◌}
use mathlib.Core.List.{List, [], ◌∷◌, ◌++◌, append_assoc}
use native.Mathlib.Omega.{arith}
use lib.ListN.{length, set, drop, length-append}
use lib.Seq.{paste, drop-cons, drop-drop, drop-append-add, take_at, take_all}

-- ---- three words after 64 others

set_right : (p q : List ℕ) (n k a : ℕ) → n ≡ length p + k → set (p ++ q) n a ≡ p ++ set q k a
set_right [] q n k a e = let f : n ≡ k = omega arith in ap (λ (m : ℕ). set q m a) f
set_right (x ∷ p) q zero k a e = absurd (omega arith)
set_right (x ∷ p) q (suc n) k a e = ap (λ (l : List ℕ). x ∷ l) (set_right p q n k a (omega arith))

three : (b : List ℕ) (x y z : ℕ) → length b ≡ 256 → set (set (set (drop 64 b) 0 x) 1 y) 2 z ≡ x ∷ y ∷ z ∷ drop 67 b
three b x y z e = rw (drop-cons b 64 0 (omega arith), drop-cons b 65 0 (omega arith), drop-cons b 66 0 (omega arith))

module _ (b g s : List ℕ) (long : length b ≡ 256) (lg : length g ≡ 32) (ls : length s ≡ 32) where
  first_words : paste b 0 g 32 ≡ g ++ drop 32 b
  first_words = ap (λ (l : List ℕ). l ++ drop 32 b) (take_all 32 g (omega arith))

  rest_words : drop 64 (g ++ drop 32 b) ≡ drop 64 b
  rest_words = ap (λ (k : ℕ). drop (k + 32) (g ++ drop 32 b)) (sym lg) ∙ drop-append-add g (drop 32 b) 32 ∙ drop-drop 32 32 b

  both_words : paste (paste b 0 g 32) 32 s 32 ≡ (g ++ s) ++ drop 64 b
  both_words =
      ap (λ (l : List ℕ). paste l 32 s 32) first_words
      ∙ (λ i. (take_at g (drop 32 b) 32 lg i ++ take_all 32 s (omega arith) i) ++ rest_words i)

  pub all_words : (x y z : ℕ) → set (set (set (paste (paste b 0 g 32) 32 s 32) 64 x) 65 y) 66 z ≡ g ++ (s ++ (x ∷ y ∷ z ∷ drop 67 b))
  all_words x y z =
      let d = drop 64 b in
      let n : length (g ++ s) ≡ 64 = length-append g s ∙ omega arith in
      ap (λ (l : List ℕ). set (set (set l 64 x) 65 y) 66 z) both_words
      ∙ ap (λ (l : List ℕ). set (set l 65 y) 66 z) (set_right (g ++ s) d 64 0 x (omega arith))
      ∙ ap (λ (l : List ℕ). set l 66 z) (set_right (g ++ s) (set d 0 x) 65 1 y (omega arith))
      ∙ set_right (g ++ s) (set (set d 0 x) 1 y) 66 2 z (omega arith)
      ∙ ap (λ (l : List ℕ). (g ++ s) ++ l) (three b x y z long)
      ∙ append_assoc g s (x ∷ y ∷ z ∷ drop 67 b)
