-- The newest hit is the last store of the list that hits, and there is none exactly where no store hits.
-- Assumes nothing.
use Rattle.std.specs.Prelude.{if◌then◌else◌, Option, Some, None}
use mathlib.Core.Path.{◌≡◌, refl, sym, ap, ◌∙◌}
use mathlib.Core.Logic.{◌⊎◌, inl, inr, ⊎_elim}
use Prim.Native.Nat.{ℕ, zero, suc, ◌+◌, ◌<◌, ◌≤◌}
use mathlib.Core.Bool.{Bool, true, false, ◌||◌, not, false≢true}
use mathlib.Core.List.{List, [], ◌∷◌}
use native.Mathlib.Omega.{arith}
use lib.ListN.{length, get_or}
use borrow.Author.Tests.{not-false, eqb-true}
use Rattle.word.specs.Word.{plus}
use Rattle.word.proofs.Laws.{side}
use Rattle.records.specs.declared.Store.{Store}
use Rattle.records.specs.Records.{no_store}
use Rattle.store_buffer.specs.Buffer.{sbehit, sbhit, newest_from, maxsbhit, same_hit, some, sbhazard}

pub at_miss : {A : Type 0} (p : ℕ) → None ≡ Some p → A
at_miss p e = let z : ◌≡◌ {A = ℕ} 0 1 = cc in absurd (omega arith)

module _ (x : ℕ) where
  -- a hit is not lost
  from_hit : (sb : List Store) (i q : ℕ) → (p : ℕ) × (newest_from i (Some q) sb x ≡ Some p)
  unfolding newest_from
  from_hit [] i q = (q, refl)
  from_hit (s ∷ sb) i q = go (sbehit s x) (from_hit sb (i + 1))
    where
      go : (t : Bool) → ((r : ℕ) → (p : ℕ) × (newest_from (i + 1) (Some r) sb x ≡ Some p)) → (p : ℕ) × (newest_from (i + 1) (if t then Some i else Some q) sb x ≡ Some p)
      go true rest = rest i
      go false rest = rest q

  from_none : (sb : List Store) (i : ℕ) (h : Option ℕ) → sbhit sb x ≡ false → newest_from i h sb x ≡ h
  unfolding newest_from sbhit
  from_none [] i h e = refl
  from_none (s ∷ sb) i h e = go (sbehit s x) e (from_none sb (i + 1) h)
    where
      go : (t : Bool) → t || sbhit sb x ≡ false → (sbhit sb x ≡ false → newest_from (i + 1) h sb x ≡ h) → newest_from (i + 1) (if t then Some i else h) sb x ≡ h
      go true f rest = absurd (false≢true (sym f))
      go false f rest = rest f

  from_some : (sb : List Store) (i : ℕ) (h : Option ℕ) → sbhit sb x ≡ true → (p : ℕ) × (newest_from i h sb x ≡ Some p)
  unfolding newest_from sbhit
  from_some [] i h e = absurd (false≢true e)
  from_some (s ∷ sb) i h e = go (sbehit s x) e (from_some sb (i + 1) h)
    where
      go : (t : Bool) → t || sbhit sb x ≡ true → (sbhit sb x ≡ true → (p : ℕ) × (newest_from (i + 1) h sb x ≡ Some p)) → (p : ℕ) × (newest_from (i + 1) (if t then Some i else h) sb x ≡ Some p)
      go true f rest = from_hit sb (i + 1) i
      go false f rest = rest f

  -- a hit that is found is an earlier one, or that of a store which hits
  from_at : (sb : List Store) (i : ℕ) (h : Option ℕ) (p : ℕ) → newest_from i h sb x ≡ Some p
      → (h ≡ Some p) ⊎ ((k : ℕ) × (p ≡ i + k) × (k < length sb) × (sbehit (get_or sb k no_store) x ≡ true))
  unfolding newest_from
  from_at [] i h p e = inl e
  from_at (s ∷ sb) i h p e =
      ⊎_elim (go (sbehit s x) refl) (λ w. inr (suc w.0, omega (arith, w.1), omega (arith, w.2), w.3)) (from_at sb (i + 1) (if sbehit s x then Some i else h) p e)
    where
      go : (t : Bool) → sbehit s x ≡ t → (if t then Some i else h) ≡ Some p
          → (h ≡ Some p) ⊎ ((k : ℕ) × (p ≡ i + k) × (k < suc (length sb)) × (sbehit (get_or (s ∷ sb) k no_store) x ≡ true))
      go true f q = let r : i ≡ p = cc in inr (0, omega arith, omega arith, f)
      go false f q = inl q

  -- no store after it hits
  from_last : (sb : List Store) (i : ℕ) (h : Option ℕ) (p k : ℕ) → newest_from i h sb x ≡ Some p → k < length sb → p < i + k → sbehit (get_or sb k no_store) x ≡ false
  unfolding newest_from
  from_last [] i h p k e l q = absurd (omega arith)
  from_last (s ∷ sb) i h p (suc k) e l q = from_last sb (i + 1) (if sbehit s x then Some i else h) p k e (omega arith) (omega arith)
  from_last (s ∷ sb) i h p zero e l q = go (sbehit s x) refl (from_at sb (i + 1) (if sbehit s x then Some i else h) p e)
    where
      go : (t : Bool) → sbehit s x ≡ t → ((if t then Some i else h) ≡ Some p) ⊎ ((k : ℕ) × (p ≡ i + 1 + k) × (k < length sb) × (sbehit (get_or sb k no_store) x ≡ true)) → sbehit s x ≡ false
      go true f w = ⊎_elim (λ g. let r : i ≡ p = cc in absurd (omega arith)) (λ g. absurd (omega (arith, g.1))) w
      go false f w = f

-- definition 59 in words: the store at p hits, and none after it does
pub record Newest (sb : List Store) (x p : ℕ) : Type 0 where
  pub below : p < length sb
  pub hit : sbehit (get_or sb p no_store) x ≡ true
  pub last : (k : ℕ) → p < k → k < length sb → sbehit (get_or sb k no_store) x ≡ false

pub newest_law : (sb : List Store) (x p : ℕ) → maxsbhit sb x ≡ Some p → Newest sb x p
newest_law sb x p e =
    ⊎_elim (at_miss p)
    (λ w.
    let q : w.0 ≡ p = omega (arith, w.1) in
    record {
      below = omega (arith, w.2);
      hit = ap (λ (k : ℕ). sbehit (get_or sb k no_store) x) (sym q) ∙ w.3;
      last = λ k l h. from_last x sb 0 None p k e h (omega arith);
    })
    (from_at x sb 0 None p e)

-- there is none exactly where no store hits
pub newest_none : (sb : List Store) (x : ℕ) → sbhit sb x ≡ false → maxsbhit sb x ≡ None
newest_none sb x e = from_none x sb 0 None e

pub none_hits : (sb : List Store) (x : ℕ) → maxsbhit sb x ≡ None → sbhit sb x ≡ false
none_hits sb x e = go (sbhit sb x) refl
  where
    go : (t : Bool) → sbhit sb x ≡ t → t ≡ false
    go true f = let w = from_some x sb 0 None f in at_miss w.0 (sym e ∙ w.1)
    go false f = refl

pub one_hits : (sb : List Store) (x p : ℕ) → maxsbhit sb x ≡ Some p → sbhit sb x ≡ true
one_hits sb x p e = go (sbhit sb x) refl
  where
    go : (t : Bool) → sbhit sb x ≡ t → t ≡ true
    go true f = refl
    go false f = at_miss p (sym (newest_none sb x f) ∙ e)

-- ---- without a hazard all bytes have the same newest hit

same_eq : (g h : Option ℕ) → same_hit g h ≡ true → g ≡ h
same_eq (Some i) (Some j) e = ap Some (eqb-true i j e)
same_eq (Some i) None e = absurd (false≢true e)
same_eq None (Some j) e = absurd (false≢true e)
same_eq None None e = refl

some_elim : (k : ℕ) (p : ℕ → Bool) (j : ℕ) → some k p ≡ false → j < k → p j ≡ false
unfolding some
some_elim zero p j e h = absurd (omega arith)
some_elim (suc k) p j e h = go (p k) refl e (some_elim k p j)
  where
    go : (t : Bool) → p k ≡ t → t || some k p ≡ false → (some k p ≡ false → j < k → p j ≡ false) → p j ≡ false
    go true f g rest = absurd (false≢true (sym g))
    go false f g rest = ⊎_elim (rest g) (λ (q : k ≤ j). let r : j ≡ k = omega arith in ap p r ∙ f) (side j k)

pub no_hazard : (sb : List Store) (a d j : ℕ) → sbhazard sb a d ≡ false → j < d → maxsbhit sb (plus 32 a j) ≡ maxsbhit sb (plus 32 a 0)
unfolding sbhazard
no_hazard sb a d zero e h = refl
no_hazard sb a d (suc j) e h =
    sym (same_eq (maxsbhit sb (plus 32 a 0)) (maxsbhit sb (plus 32 a (suc j)))
    (not-false _ (some_elim (suc j) (λ i. not (same_hit (maxsbhit sb (plus 32 a i)) (maxsbhit sb (plus 32 a (suc j))))) 0
    (some_elim d (λ k. some k (λ i. not (same_hit (maxsbhit sb (plus 32 a i)) (maxsbhit sb (plus 32 a k))))) (suc j) e h) (omega arith))))
