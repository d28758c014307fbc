-- How many bytes of an access a store writes, byte by byte.
-- Assumes nothing.
use mathlib.Core.Path.{◌≡◌}
use mathlib.Core.Logic.{◌≢◌, ⊎_elim}
use Prim.Native.Nat.{ℕ, ◌+◌, ◌-◌, ◌^◌, ◌<◌, ◌≤◌}
use mathlib.Core.Bool.{true, false}
use native.Mathlib.Omega.{arith}
use native.Mathlib.Decide.{ℕ_discrete}
use borrow.Author.Tests.{lt-ltb, le-ltb, le-leb, lt-leb, eq-eqb, ne_eqb}
use Rattle.word.specs.Word.{plus, minus}
use Rattle.word.proofs.Laws.{side}
use Rattle.records.specs.declared.Store.{Store}
use Rattle.records.proofs.Counts.{either}
use Rattle.store_buffer.specs.Buffer.{sbehit}
use Rattle.store_buffer.specs.declared.Cover.{Cover}
use Rattle.store_buffer.specs.declared.Cover.TheVariants.{Whole, Part, Outside}
use Rattle.store_buffer.specs.inner.Pass.{cover}

-- ---- distances modulo 2 ^ 32

module _ (a s : ℕ) (f : a < 2 ^ 32) (g : s < 2 ^ 32) where
  pub distance_more : (j : ℕ) → minus 32 a s + j < 2 ^ 32 → minus 32 (plus 32 a j) s ≡ minus 32 a s + j
  distance_more j h = omega arith

  -- the two ways round
  pub distance_round : minus 32 s a ≢ 0 → minus 32 a s + minus 32 s a ≡ 2 ^ 32
  distance_round h = omega arith

  pub distance_there : minus 32 (plus 32 a (minus 32 s a)) s ≡ 0
  distance_there = omega arith

module _ (s : Store) (a d : ℕ) (f : a < 2 ^ 32) (g : s.address < 2 ^ 32) (w : s.width < 2 ^ 32) where
  abbrev δ : ℕ
  δ = minus 32 a s.address

  abbrev σ : ℕ
  σ = minus 32 s.address a

  hits : (j : ℕ) → minus 32 (plus 32 a j) s.address < s.width → sbehit s (plus 32 a j) ≡ true
  unfolding sbehit
  hits j h = lt-ltb _ _ h

  misses : (j : ℕ) → s.width ≤ minus 32 (plus 32 a j) s.address → sbehit s (plus 32 a j) ≡ false
  unfolding sbehit
  misses j h = le-ltb _ _ h

  module _ (P : Cover → Type 0)
      (all : ((j : ℕ) → j < d → sbehit s (plus 32 a j) ≡ true) → P Whole)
      (some : (j k : ℕ) → j < d → k < d → sbehit s (plus 32 a j) ≡ true → sbehit s (plus 32 a k) ≡ false → P Part)
      (none : ((j : ℕ) → j < d → sbehit s (plus 32 a j) ≡ false) → P Outside)
      (pos : 0 < d)
    where
      -- a's byte is written
      first : δ < s.width → P (cover s.address s.width a d)
      unfolding cover
      first p =
          rw (lt-ltb δ s.width p)
          (⊎_elim
          (λ (q : s.width - δ < d).
          rw (lt-leb d (s.width - δ) q)
          (some 0 (s.width - δ) (omega arith) (omega arith) (hits 0 (omega (arith, distance_more a s.address f g 0 (omega arith))))
          (misses (s.width - δ) (omega (arith, distance_more a s.address f g (s.width - δ) (omega arith))))))
          (λ (q : d ≤ s.width - δ). rw (le-leb d (s.width - δ) q) (all (λ j h. hits j (omega (arith, distance_more a s.address f g j (omega arith))))))
          (side (s.width - δ) d))

      -- it is not, but the store begins further on
      later : s.width ≤ δ → σ < d → P (cover s.address s.width a d)
      unfolding cover
      later p q =
          rw (le-ltb δ s.width p, lt-ltb σ d q)
          (either (ℕ_discrete s.width 0)
          (λ (e : s.width ≡ 0). rw (eq-eqb s.width 0 e) (none (λ j h. misses j (omega arith))))
          (λ (e : s.width ≢ 0).
          rw (ne_eqb s.width 0 e)
          (some σ 0 q pos (hits σ (omega (arith, distance_there a s.address f g))) (misses 0 (omega (arith, distance_more a s.address f g 0 (omega arith)))))))

      neither : s.width ≤ δ → d ≤ σ → P (cover s.address s.width a d)
      unfolding cover
      neither p q =
          rw (le-ltb δ s.width p, le-ltb σ d q)
          (let r : δ + σ ≡ 2 ^ 32 = distance_round a s.address f g (λ e. omega arith) in none (λ j h. misses j (omega (arith, distance_more a s.address f g j (omega arith)))))

      -- all of the bytes, some and not all, or none
      pub cover_cases : P (cover s.address s.width a d)
      cover_cases = ⊎_elim first (λ p. ⊎_elim (later p) (neither p) (side σ d)) (side δ s.width)
