-- No two rows of the table can be met by the same codes, so the first that is met is the only one.
-- Assumes nothing.
use mathlib.Core.Path.{◌≡◌, refl, sym, ◌∙◌}
use mathlib.Core.Bool.{Bool, true, false, not, ◌&&◌}
use mathlib.Core.List.{List, [], ◌∷◌}
use Prim.Native.Nat.{ℕ, ◌+◌, ◌≤◌}
use native.Mathlib.Omega.{arith}
use lib.Dec.{eqb}
use borrow.Author.Tests.{eqb-true, eq-eqb}
use Rattle.word.specs.Word.{flag}
use Rattle.word.proofs.Tests.{true_false}
use Rattle.word.proofs.Truth.{and_left, and_right, and_both}
use Rattle.decode.specs.Table.{Column, blank, is, meets, met, Row, table}

-- two columns that one code can meet
abbrev shared : Column → Column → Bool
shared blank c = true
shared (is j) blank = true
shared (is j) (is k) = eqb j k

abbrev both : Row → Row → Bool
both r q = shared r.opcode q.opcode && (shared r.rs q.rs && (shared r.rt q.rt && shared r.fun q.fun))

abbrev alone : Row → List Row → Bool
alone r [] = true
alone r (q ∷ l) = not (both r q) && alone r l

abbrev apart : List Row → Bool
apart [] = true
apart (r ∷ l) = alone r l && apart l

-- how many rows are met
abbrev pub met_count : List Row → ℕ → ℕ → ℕ → ℕ → ℕ
met_count [] o f s t = 0
met_count (r ∷ l) o f s t = flag (met r o f s t) + met_count l o f s t

meets_shared : (c d : Column) (x : ℕ) → meets c x ≡ true → meets d x ≡ true → shared c d ≡ true
meets_shared blank d x p q = refl
meets_shared (is j) blank x p q = refl
meets_shared (is j) (is k) x p q = eq-eqb j k (sym (eqb-true x j p) ∙ eqb-true x k q)

module _ (o f s t : ℕ) where
  abbrev rest₁ : Row → Bool
  rest₁ r = meets r.rs s && (meets r.rt t && meets r.fun f)

  abbrev rest₂ : Row → Bool
  rest₂ r = meets r.rt t && meets r.fun f

  met_both : (r q : Row) → met r o f s t ≡ true → met q o f s t ≡ true → both r q ≡ true
  met_both r q a b =
      let a₁ : rest₁ r ≡ true = and_right (meets r.opcode o) (rest₁ r) a in
      let b₁ : rest₁ q ≡ true = and_right (meets q.opcode o) (rest₁ q) b in
      let a₂ : rest₂ r ≡ true = and_right (meets r.rs s) (rest₂ r) a₁ in
      let b₂ : rest₂ q ≡ true = and_right (meets q.rs s) (rest₂ q) b₁ in
      and_both (shared r.opcode q.opcode) (shared r.rs q.rs && (shared r.rt q.rt && shared r.fun q.fun))
      (meets_shared r.opcode q.opcode o (and_left (meets r.opcode o) (rest₁ r) a) (and_left (meets q.opcode o) (rest₁ q) b))
      (and_both (shared r.rs q.rs) (shared r.rt q.rt && shared r.fun q.fun)
      (meets_shared r.rs q.rs s (and_left (meets r.rs s) (rest₂ r) a₁) (and_left (meets q.rs s) (rest₂ q) b₁))
      (and_both (shared r.rt q.rt) (shared r.fun q.fun)
      (meets_shared r.rt q.rt t (and_left (meets r.rt t) (meets r.fun f) a₂) (and_left (meets q.rt t) (meets q.fun f) b₂))
      (meets_shared r.fun q.fun f (and_right (meets r.rt t) (meets r.fun f) a₂) (and_right (meets q.rt t) (meets q.fun f) b₂))))

  not_both : (b : Bool) → not b ≡ true → b ≡ true → ⊥
  not_both true p q = true_false (sym p)
  not_both false p q = true_false (sym q)

  missed : (m : Bool) (r q : Row) → met q o f s t ≡ m → met r o f s t ≡ true → not (both r q) ≡ true → flag m ≡ 0
  missed true r q e a n = absurd (not_both (both r q) n (met_both r q a e))
  missed false r q e a n = refl

  alone_count : (r : Row) (l : List Row) → alone r l ≡ true → met r o f s t ≡ true → met_count l o f s t ≡ 0
  alone_count r [] h a = refl
  alone_count r (q ∷ l) h a =
      let n : flag (met q o f s t) ≡ 0 = missed (met q o f s t) r q refl a (and_left (not (both r q)) (alone r l) h) in
      let k : met_count l o f s t ≡ 0 = alone_count r l (and_right (not (both r q)) (alone r l) h) a in
      omega arith

  step : (m : Bool) (r : Row) (l : List Row) → met r o f s t ≡ m → alone r l ≡ true → met_count l o f s t ≤ 1 → flag m + met_count l o f s t ≤ 1
  step true r l e h k = omega (arith, alone_count r l h e)
  step false r l e h k = omega arith

  apart_count : (l : List Row) → apart l ≡ true → met_count l o f s t ≤ 1
  apart_count [] h = omega arith
  apart_count (r ∷ l) h =
      step (met r o f s t) r l refl (and_left (alone r l) (apart l) h) (apart_count l (and_right (alone r l) (apart l) h))

-- at most one row is met
pub one_row : (o f s t : ℕ) → met_count table o f s t ≤ 1
one_row o f s t = apart_count o f s t table refl
