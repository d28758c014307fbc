-- What the code's cases show of the decisions of the TLB's own steps.
-- Assumes nothing.
use Rattle.std.specs.Prelude.{Ok, Err, Option, Some, None}
use mathlib.Core.Path.{◌≡◌, sym, ap, ◌∙◌}
use mathlib.Core.Bool.{Bool, true, false, not, ◌&&◌}
use mathlib.Core.List.{List}
use Prim.Native.Nat.{ℕ}
use lib.Dec.{eqb}
use borrow.Author.Tests.{not-true}
use Rattle.word.proofs.Truth.{and_left, and_right}
use Rattle.refusals.specs.declared.Refusal.TheVariants.{NoNextState, ByteNowhere}
use Rattle.records.specs.declared.Walk.{Walk}
use Rattle.records.specs.Records.{among}
use Rattle.tlb.specs.declared.Change.TheVariants.{Adds, Marks}
use Rattle.tlb.specs.Walks.{complete, walk_asid, pte_a, pte_p, ptea, wext, wext_fault, winit, set_d}
use Rattle.tlb.specs.Steps.{tlb_create, tlb_extend, tlb_accessed, extendable, on_extend, on_accessed}

-- two tests of a step's guards, as the code has them
module _ {u s : Bool} (p q : Bool) (e : p ≡ u) (f : q ≡ s) where
  pub both : {t : Bool} → (p && q) ≡ t → (u && s) ≡ t
  both h = (λ i. sym e i && sym f i) ∙ h

pub created : (u r : Bool) (o a v : ℕ) → (u && r) ≡ true → Ok (Adds (winit v o a)) ≡ tlb_create u r o a v
unfolding tlb_create
created u r o a v h = rw h

pub not_created : (u r : Bool) (o a v : ℕ) → (u && r) ≡ false → Err NoNextState ≡ tlb_create u r o a v
unfolding tlb_create
not_created u r o a v h = rw h

module _ (r : Bool) (a : ℕ) (tlb : List Walk) (w : Walk) (e : Option ℕ) where
  pub extends : (r && extendable a tlb w) ≡ true → on_extend w e ≡ tlb_extend r a tlb w e
  unfolding tlb_extend
  extends h = rw h

  pub not_extends : (r && extendable a tlb w) ≡ false → Err NoNextState ≡ tlb_extend r a tlb w e
  unfolding tlb_extend
  not_extends h = rw h

  pub accesses : (r && extendable a tlb w) ≡ true → on_accessed w e ≡ tlb_accessed r a tlb w e
  unfolding tlb_accessed
  accesses h = rw h

  pub not_accesses : (r && extendable a tlb w) ≡ false → Err NoNextState ≡ tlb_accessed r a tlb w e
  unfolding tlb_accessed
  not_accesses h = rw h

-- a walk that can be extended is not complete
pub open_walk : (r : Bool) (a : ℕ) (tlb : List Walk) (w : Walk) → (r && extendable a tlb w) ≡ true → complete w ≡ false
unfolding extendable
open_walk r a tlb w h =
    not-true (complete w) (and_left (not (complete w)) (eqb (walk_asid w) a) (and_right (among w tlb) _ (and_right r _ h)))

-- by the entry
module _ (w : Walk) {e : Option ℕ} {v : ℕ} (p : e ≡ Some v) where
  pub added : {x : Walk} → x ≡ wext w v → (pte_a v && not (wext_fault v 0)) ≡ true → Ok (Adds x) ≡ on_extend w e
  unfolding on_extend
  added q h = rw (p, h) (ap (λ (y : Walk). Ok (Adds y)) q)

  pub not_added : (pte_a v && not (wext_fault v 0)) ≡ false → Err NoNextState ≡ on_extend w e
  unfolding on_extend
  not_added h = rw (p, h)

  pub marked : {a n : ℕ} → a ≡ ptea w → n ≡ set_d v → pte_p v ≡ true → Ok (Marks a n) ≡ on_accessed w e
  unfolding on_accessed
  marked q s h = rw (p, h) (λ i. Ok (Marks (q i) (s i)))

  pub not_marked : pte_p v ≡ false → Err NoNextState ≡ on_accessed w e
  unfolding on_accessed
  not_marked h = rw (p, h)

module _ (w : Walk) {e : Option ℕ} (p : e ≡ None) where
  pub extend_missing : Err ByteNowhere ≡ on_extend w e
  unfolding on_extend
  extend_missing = rw p

  pub accessed_missing : Err ByteNowhere ≡ on_accessed w e
  unfolding on_accessed
  accessed_missing = rw p
