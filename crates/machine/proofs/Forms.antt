-- What the words of a step bound: cores, lines, a page and a level.
-- Assumes nothing.
use Rattle.std.specs.Prelude.{if◌then◌else◌, Option, Some, None, IfSome}
use Rattle.std.specs.Bool.{then_some}
use mathlib.Core.Path.{◌≡◌, refl, subst}
use mathlib.Core.Bool.{Bool, true, false, ◌&&◌}
use mathlib.Core.List.{List}
use Prim.Native.Nat.{ℕ, ◌^◌}
use lib.Dec.{eqb, ltb}
use lib.ListN.{length}
use Rattle.word.proofs.Truth.{and_left, and_both}
use Rattle.steps.specs.declared.Step.{Step}
use Rattle.steps.specs.declared.Step.TheVariants.{ByProcessor, ByApic}
use Rattle.steps.specs.declared.ProcessorStep.TheVariants.{Core, TlbCreate, TlbExtend, TlbAccessed, StoreBuffer}
use Rattle.steps.specs.declared.ApicStep.TheVariants.{SendIpi, SendEoi, InitCore, StartCore, Sample, Deliver, SetLine}
use Rattle.machine.specs.inner.Formed.{formed}
use Rattle.steps.specs.Form.{step_of, step_of_core, step_of_line, word, walk_at, zero_from}

module _ (n : ℕ) where
  -- of words that are a step
  abbrev pub Formed : Option Step → Type 0
  Formed x = IfSome x (λ y. formed n y ≡ true)

  by_if : (t : Bool) (x y : Option Step) → (t ≡ true → Formed x) → Formed y → Formed (if t then x else y)
  by_if true x y p q = p refl
  by_if false x y p q = q

  if_step : (t : Bool) (x : Step) → (t ≡ true → formed n x ≡ true) → Formed (then_some t x)
  if_step true x p = p refl
  if_step false x p = tt

  core_formed : (kind k : ℕ) (s : List ℕ) → ltb k n ≡ true → Formed (step_of_core kind k s)
  core_formed kind k s h =
      by_if (eqb kind 0) (Some (ByProcessor k (Core (walk_at s 2) (walk_at s 4)))) _ (λ e. h)
      (by_if (eqb kind 1) _ _
      (λ e. if_step (ltb (word s 2) (2 ^ 20) && zero_from 3 s) (ByProcessor k (TlbCreate (word s 2))) (λ f. and_both (ltb k n) _ h (and_left (ltb (word s 2) (2 ^ 20)) (zero_from 3 s) f)))
      (by_if (eqb kind 2) _ _ (λ e. if_step (ltb (word s 4) (2 ^ 3) && zero_from 5 s) (ByProcessor k (TlbExtend (walk_at s 2))) (λ f. h))
      (by_if (eqb kind 3) _ _ (λ e. if_step (zero_from 4 s) (ByProcessor k (TlbAccessed (walk_at s 2))) (λ f. h))
      (by_if (eqb kind 4) _ _ (λ e. if_step (zero_from 2 s) (ByProcessor k StoreBuffer) (λ f. h))
      (by_if (eqb kind 5) _ _ (λ e. if_step (zero_from 2 s) (ByApic (SendIpi k)) (λ f. h))
      (by_if (eqb kind 6) _ _ (λ e. if_step (zero_from 2 s) (ByApic (SendEoi k)) (λ f. h))
      (by_if (eqb kind 7) _ _ (λ e. if_step (zero_from 2 s) (ByApic (InitCore k)) (λ f. h)) (if_step (zero_from 2 s) (ByApic (StartCore k)) (λ f. h)))))))))

  line_formed : (kind l : ℕ) (s : List ℕ) → ltb l 24 ≡ true → Formed (step_of_line kind l s)
  line_formed kind l s h =
      by_if (eqb kind 9) _ _ (λ e. if_step (zero_from 2 s) (ByApic (Sample l)) (λ f. h))
      (by_if (eqb kind 10) _ _ (λ e. if_step (zero_from 2 s) (ByApic (Deliver l)) (λ f. h))
      (if_step (ltb (word s 2) 2 && zero_from 3 s) (ByApic (SetLine l (word s 2))) (λ f. and_both (ltb l 24) _ h (and_left (ltb (word s 2) 2) (zero_from 3 s) f))))

  pub step_formed : (s : List ℕ) → Formed (step_of n s)
  unfolding step_of
  step_formed s =
      by_if (eqb (length s) 6) _ None
      (λ e. by_if (ltb (word s 0) 9) _ _
      (λ f. by_if (ltb (word s 1) n) (step_of_core (word s 0) (word s 1) s) None (core_formed (word s 0) (word s 1) s) tt)
      (by_if (ltb (word s 0) 12) _ None
      (λ f. by_if (ltb (word s 1) 24) (step_of_line (word s 0) (word s 1) s) None (line_formed (word s 0) (word s 1) s) tt) tt))
      tt

  -- of a step whose kind is known
  pub found : {p x : Step} → formed n p ≡ true → p ≡ x → formed n x ≡ true
  found f e = subst (λ y. formed n y ≡ true) e f
