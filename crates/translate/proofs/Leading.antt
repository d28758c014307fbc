-- Where a walk leads, entry by entry, and what it asks for.
-- Assumes nothing.
use Rattle.std.specs.Prelude.{if◌then◌else◌, Option, Some, None}
use mathlib.Core.Path.{◌≡◌, refl, sym, ap, subst, ◌∙◌}
use mathlib.Core.Bool.{Bool, true, false}
use mathlib.Core.List.{List, [], ◌∷◌}
use Prim.Native.Nat.{ℕ, zero, suc, ◌+◌, ◌≤◌}
use native.Mathlib.Omega.{arith}
use lib.ListN.{length, take}
use Rattle.records.specs.declared.Walk.{Walk}
use Rattle.tlb.specs.Walks.{walk_level, walk_r, walk_ba, ptea, entry_at, pte, pte_p, wext}
use Rattle.tlb.proofs.Fields.{wext_fields}
use Rattle.translate.specs.declared.Translation.TheVariants.{Mapped, Absent, Beyond}
use Rattle.translate.specs.Translate.{leads_by, leads, needs_by, needs}
use Rattle.translate.specs.inner.Cache.{cache_all, Cached, Asked}
use Rattle.translate.proofs.Different.{grows}

-- ---- one level

module _ (m : List ℕ) (w : Walk) (n : ℕ) where
  module _ (h : None ≡ pte m w) where
    leads_beyond : Beyond ≡ leads (suc n) m w
    unfolding leads leads_by
    leads_beyond = ap (leads_by (leads n m) w) h

    needs_beyond : ptea w ∷ [] ≡ needs (suc n) m w
    unfolding needs needs_by
    needs_beyond = ap (λ (e : Option ℕ). ptea w ∷ needs_by (needs n m) w e) h

  module _ (e : ℕ) (h : Some e ≡ pte m w) where
    leads_absent : pte_p e ≡ false → Absent (walk_level w) ≡ leads (suc n) m w
    unfolding leads leads_by
    leads_absent p = rw (← h, p)

    needs_absent : pte_p e ≡ false → ptea w ∷ [] ≡ needs (suc n) m w
    unfolding needs needs_by
    needs_absent p = rw (← h, p)

    leads_on : pte_p e ≡ true → leads n m (wext w e) ≡ leads (suc n) m w
    unfolding leads leads_by
    leads_on p = rw (← h, p)

    needs_on : pte_p e ≡ true → ptea w ∷ needs n m (wext w e) ≡ needs (suc n) m w
    unfolding needs needs_by
    needs_on p = rw (← h, p)

-- a walk needs no more entries than it has levels to go
pub needs_few : (n : ℕ) (m : List ℕ) (w : Walk) → length (needs n m w) ≤ n
unfolding needs needs_by
needs_few zero m w = omega arith
needs_few (suc n) m w = go (pte m w) (needs_few n m)
  where
    go : (e : Option ℕ) → ((v : Walk) → length (needs n m v) ≤ n) → suc (length (needs_by (needs n m) w e)) ≤ suc n
    go (Some e) f = by (pte_p e) (f (wext w e))
      where
        by : (b : Bool) → length (needs n m (wext w e)) ≤ n → suc (length (if b then needs n m (wext w e) else [])) ≤ suc n
        by true h = omega (arith, h)
        by false h = omega arith
    go None f = omega arith

-- by the memory and the address that the code has at hand
module _ (m o : List ℕ) (z : o ≡ m) (w : Walk) (a : ℕ) (q : a ≡ ptea w) where
  pub at_entry : {r e : Option ℕ} → r ≡ entry_at o a → r ≡ e → e ≡ pte m w
  at_entry f g = sym g ∙ f ∙ ap (λ (x : List ℕ). entry_at x a) z ∙ ap (entry_at m) q

  pub at_asked : {c : ℕ} {keys : List ℕ} {c' : ℕ} {keys' words' slots' : List ℕ} → Asked o (a ∷ []) c keys c' keys' words' slots' → Asked m (ptea w ∷ []) c keys c' keys' words' slots'
  at_asked {c} {keys} {c'} {keys'} {words'} {slots'} A =
      subst (λ (x : ℕ). Asked m (x ∷ []) c keys c' keys' words' slots') q (subst (λ (x : List ℕ). Asked x (a ∷ []) c keys c' keys' words' slots') z A)

-- ---- the levels of a walk: what is left of it gives the whole

pub record Leading (m : List ℕ) (start : Walk) (n : ℕ) (keys : List ℕ) (w : Walk) (left c : ℕ) (keys' words' slots' : List ℕ) : Type 0 where
  pub kept : Cached m c keys' words' slots'
  pub level : walk_level w ≡ left
  pub room : c + left ≤ n + 2
  pub whole : leads left m w ≡ leads 2 m start
  pub addresses : cache_all m (take c keys') (needs left m w) ≡ cache_all m (take n keys) (needs 2 m start)

module _ {m : List ℕ} {start : Walk} {n : ℕ} {keys : List ℕ} where
  pub lead_start : {words slots : List ℕ} → Cached m n keys words slots → walk_level start ≡ 2 → Leading m start n keys start 2 n keys words slots
  lead_start K e = record { kept = K; level = e; room = omega arith; whole = refl; addresses = refl }

  module _ {w : Walk} {c : ℕ} {keys₁ words₁ slots₁ : List ℕ} where
    pub lead_end : (left : ℕ) → left ≡ 0 → Leading m start n keys w left c keys₁ words₁ slots₁ → Asked m (needs 2 m start) n keys c keys₁ words₁ slots₁
    unfolding needs cache_all
    lead_end left z L = record { kept = L.kept; addresses = ap (λ (j : ℕ). cache_all m (take c keys₁) (needs j m w)) (sym z) ∙ L.addresses }

    pub lead_mapped : (left : ℕ) → left ≡ 0 → Leading m start n keys w left c keys₁ words₁ slots₁ → Mapped (walk_ba w) (walk_r w) ≡ leads 2 m start
    unfolding leads
    lead_mapped left z L = ap (λ (j : ℕ). leads j m w) (sym z) ∙ L.whole

    -- one more level
    module _ (left l : ℕ) (s : left ≡ suc l) (L : Leading m start n keys w left c keys₁ words₁ slots₁) where
      whole_here : leads (suc l) m w ≡ leads 2 m start
      whole_here = ap (λ (j : ℕ). leads j m w) (sym s) ∙ L.whole

      asked_here : cache_all m (take c keys₁) (needs (suc l) m w) ≡ cache_all m (take n keys) (needs 2 m start)
      asked_here = ap (λ (j : ℕ). cache_all m (take c keys₁) (needs j m w)) (sym s) ∙ L.addresses

      pub lead_beyond : None ≡ pte m w → Beyond ≡ leads 2 m start
      lead_beyond h = leads_beyond m w l h ∙ whole_here

      pub lead_absent : (e : ℕ) → Some e ≡ pte m w → pte_p e ≡ false → Absent left ≡ leads 2 m start
      lead_absent e h p = ap Absent (sym L.level) ∙ leads_absent m w l e h p ∙ whole_here

      module _ {c' : ℕ} {keys₂ words₂ slots₂ : List ℕ} (A : Asked m (ptea w ∷ []) c keys₁ c' keys₂ words₂ slots₂) where
        stops : ptea w ∷ [] ≡ needs (suc l) m w → Asked m (needs 2 m start) n keys c' keys₂ words₂ slots₂
        stops h = record { kept = A.kept; addresses = A.addresses ∙ ap (cache_all m (take c keys₁)) h ∙ asked_here }

        pub asked_to_beyond : None ≡ pte m w → Asked m (needs 2 m start) n keys c' keys₂ words₂ slots₂
        asked_to_beyond h = stops (needs_beyond m w l h)

        pub asked_to_absent : (e : ℕ) → Some e ≡ pte m w → pte_p e ≡ false → Asked m (needs 2 m start) n keys c' keys₂ words₂ slots₂
        asked_to_absent e h p = stops (needs_absent m w l e h p)

        pub lead_next : (e : ℕ) → Some e ≡ pte m w → pte_p e ≡ true → Leading m start n keys (wext w e) l c' keys₂ words₂ slots₂
        unfolding cache_all
        lead_next e h p = record {
          kept = A.kept;
          level = omega (arith, (wext_fields w e p).level, L.level, s);
          room = omega (arith, L.room, s, grows A (omega (arith, L.kept.few, L.kept.keys_long)));
          whole = leads_on m w l e h p ∙ whole_here;
          addresses = ap (λ (k : List ℕ). cache_all m k (needs l m (wext w e))) A.addresses ∙ ap (cache_all m (take c keys₁)) (needs_on m w l e h p) ∙ asked_here;
        }

-- the walk as the code extended it
pub again : {m : List ℕ} {start : Walk} {n : ℕ} {keys : List ℕ} {v w : Walk} {left c : ℕ} {keys' words' slots' : List ℕ} → v ≡ w → Leading m start n keys w left c keys' words' slots' → Leading m start n keys v left c keys' words' slots'
again {m} {start} {n} {keys} {v} {w} {left} {c} {keys'} {words'} {slots'} e L = subst (λ (u : Walk). Leading m start n keys u left c keys' words' slots') (sym e) L
