-- Sound stores and walks as facts.
-- Assumes nothing.
use mathlib.Core.Path.{◌≡◌, sym, ap, ◌∙◌}
use mathlib.Core.Logic.{◌⊎◌, inl, inr, ⊎_elim}
use Prim.Native.Nat.{ℕ, zero, suc, ◌/◌, ◌%◌, ◌^◌, ◌<◌, ◌≤◌}
use mathlib.Core.Bool.{Bool, true, ◌||◌, false≢true}
use mathlib.Core.List.{List, [], ◌∷◌}
use native.Mathlib.Omega.{arith}
use lib.ListN.{length, get_or}
use lib.Dec.{eqb, ltb, leb}
use borrow.Author.Tests.{eqb-true, ltb-true, leb-true}
use Rattle.records.specs.declared.Store.{Store}
use Rattle.records.specs.declared.Walk.{Walk}
use Rattle.records.specs.Records.{all, same, among, level_of}
use Rattle.records.specs.Contents.{all_there, store_sound, walk_sound}
use Rattle.word.proofs.Truth.{and_left, and_right, or_cases}

-- what is said of every element holds of the one at a place
pub all_at : {A : Type 0} (p : A → Bool) (l : List A) (i : ℕ) (d : A) → all p l ≡ true → i < length l → p (get_or l i d) ≡ true
unfolding all
all_at p [] i d e h = absurd (omega arith)
all_at p (x ∷ l) zero d e h = and_left (p x) (all p l) e
all_at p (x ∷ l) (suc i) d e h = all_at p l i d (and_right (p x) (all p l) e) (omega arith)

-- two walks that are the same
pub same_walk : (v w : Walk) → same v w ≡ true → v ≡ w
same_walk v w e =
    let p : v.first ≡ w.first = eqb-true v.first w.first (and_left (eqb v.first w.first) _ e) in
    let q : v.second ≡ w.second = eqb-true v.second w.second (and_right (eqb v.first w.first) _ e) in
    λ i. record { first = p i; second = q i }

-- what is said of every walk holds of one that is held
pub all_among : (p : Walk → Bool) (w : Walk) (l : List Walk) → all p l ≡ true → among w l ≡ true → p w ≡ true
unfolding all among
all_among p w [] e h = absurd (false≢true h)
all_among p w (v ∷ l) e h =
    ⊎_elim (λ q. ap p (sym (same_walk v w q)) ∙ and_left (p v) (all p l) e) (λ q. all_among p w l (and_right (p v) (all p l) e) q)
    (or_cases (same v w) (among w l) h)

pub record StoreFacts (n : ℕ) (s : Store) : Type 0 where
  pub wide : (s.width ≡ 1) ⊎ ((s.width ≡ 2) ⊎ (s.width ≡ 4))
  pub aligned : s.address % s.width ≡ 0
  pub fits : s.value < 256 ^ s.width
  pub inside : all_there s.width n s.address ≡ true

module _ (n : ℕ) (s : Store) where
  pub store_facts : store_sound n s ≡ true → StoreFacts n s
  unfolding store_sound
  store_facts e =
      let w = and_left (eqb s.width 1 || (eqb s.width 2 || eqb s.width 4)) _ e in
      let e₁ = and_right (eqb s.width 1 || (eqb s.width 2 || eqb s.width 4)) _ e in
      let e₂ = and_right (eqb (s.address % s.width) 0) _ e₁ in
      record {
        wide =
            ⊎_elim (λ p. inl (eqb-true s.width 1 p))
            (λ p. inr (⊎_elim (λ q. inl (eqb-true s.width 2 q)) (λ q. inr (eqb-true s.width 4 q)) (or_cases (eqb s.width 2) (eqb s.width 4) p)))
            (or_cases (eqb s.width 1) (eqb s.width 2 || eqb s.width 4) w);
        aligned = eqb-true (s.address % s.width) 0 (and_left (eqb (s.address % s.width) 0) _ e₁);
        fits = ltb-true s.value (256 ^ s.width) (and_left (ltb s.value (256 ^ s.width)) _ e₂);
        inside = and_right (ltb s.value (256 ^ s.width)) _ e₂;
      }

pub record WalkFacts (w : Walk) : Type 0 where
  pub level : level_of w.first ≤ 2
  pub clear : w.first / 32 % 2 ≡ 0
  pub base : w.second < 2 ^ 20

module _ (w : Walk) where
  pub walk_facts : walk_sound w ≡ true → WalkFacts w
  unfolding walk_sound
  walk_facts e =
      let e₁ = and_right (leb (level_of w.first) 2) _ e in
      record {
        level = leb-true (level_of w.first) 2 (and_left (leb (level_of w.first) 2) _ e);
        clear = eqb-true (w.first / 32 % 2) 0 (and_left (eqb (w.first / 32 % 2) 0) _ e₁);
        base = ltb-true w.second (2 ^ 20) (and_right (eqb (w.first / 32 % 2) 0) _ e₁);
      }
