-- One vector put into a register, seen vector by vector.
-- Assumes nothing.
use Rattle.std.specs.Prelude.{Option, Some, None}
use mathlib.Core.Path.{◌≡◌, refl, sym, ap, ◌∙◌}
use mathlib.Core.Bool.{Bool, true, false}
use mathlib.Core.List.{List}
use Prim.Native.Nat.{ℕ, ◌+◌, ◌/◌, ◌%◌, ◌≤◌, ◌<◌}
use native.Mathlib.Omega.{arith}
use lib.ListN.{get_or, set, length, length-set}
use lib.Seq.{get_or-set_same, get_or-set_other}
use lib.Dec.{eqb}
use borrow.Author.Tests.{eqb-true, eqb-false}
use Rattle.word.specs.Word.{bit, with_bit}
use Rattle.vector_register.specs.Vectors.{bit_at, with_vector, marked}
use Rattle.word.proofs.Bits.{bit_same, bit_other}

-- ---- one vector put

module _ (b : List ℕ) (p v x : ℕ) (long : p + 8 ≤ length b) (hv : v < 256) (hx : x < 2) where
  pub vector_same : bit_at (with_vector b p v x) p v ≡ x
  unfolding with_vector
  vector_same =
      ap (λ (w : ℕ). bit w (v % 32)) (get_or-set_same b (p + v / 32) (with_bit (get_or b (p + v / 32) 0) (v % 32) x) 0 (omega arith))
      ∙ bit_same (get_or b (p + v / 32) 0) (v % 32) x hx

  -- in another word, or at another bit of the same
  pub vector_other : (j : ℕ) → (j ≡ v → ⊥) → bit_at (with_vector b p v x) p j ≡ bit_at b p j
  unfolding with_vector
  vector_other j n = go (eqb (j / 32) (v / 32)) refl
    where
      go : (t : Bool) → eqb (j / 32) (v / 32) ≡ t → bit_at (with_vector b p v x) p j ≡ bit_at b p j
      go true e =
          let d : j / 32 ≡ v / 32 = eqb-true (j / 32) (v / 32) e in
          ap (λ (k : ℕ). bit (get_or (set b (p + v / 32) (with_bit (get_or b (p + v / 32) 0) (v % 32) x)) (p + k) 0) (j % 32)) d
          ∙ ap (λ (w : ℕ). bit w (j % 32)) (get_or-set_same b (p + v / 32) (with_bit (get_or b (p + v / 32) 0) (v % 32) x) 0 (omega arith))
          ∙ bit_other (get_or b (p + v / 32) 0) (v % 32) x hx (j % 32) (λ q. n (omega arith))
          ∙ ap (λ (k : ℕ). bit (get_or b (p + k) 0) (j % 32)) (sym d)
      go false e =
          let d : j / 32 ≡ v / 32 → ⊥ = eqb-false (j / 32) (v / 32) e in
          ap (λ (w : ℕ). bit w (j % 32)) (get_or-set_other b (p + v / 32) (p + j / 32) (with_bit (get_or b (p + v / 32) 0) (v % 32) x) 0 (λ q. d (omega arith)))

-- ---- the vector found, if any

pub marked_long : (b : List ℕ) (p : ℕ) (f : Option ℕ) (x : ℕ) → length (marked b p f x) ≡ length b
unfolding with_vector
marked_long b p None x = refl
marked_long b p (Some v) x = length-set b (p + v / 32) (with_bit (get_or b (p + v / 32) 0) (v % 32) x)
