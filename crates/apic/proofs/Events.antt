-- The external event (definition 66) by the lowest vectors of IRR and ISR.
-- Assumes nothing.
use Rattle.std.specs.Prelude.{if◌then◌else◌, Some, None}
use mathlib.Core.Path.{◌≡◌, refl, sym}
use mathlib.Core.Bool.{Bool, true, false}
use mathlib.Core.List.{List}
use mathlib.Core.Logic.{⊎_elim}
use Prim.Native.Nat.{ℕ, suc, ◌≤◌, ◌<◌}
use native.Mathlib.Omega.{arith}
use Rattle.word.proofs.Laws.{side}
use Rattle.word.proofs.Truth.{clash}
use Rattle.vector_register.specs.Vectors.{bit_at, least, lowest, some_up_to}
use Rattle.apic.specs.LocalApic.{isr, irr, event}
use Rattle.vector_register.proofs.Least.{Unset, found_at, found_none, set_below, set_there, unset_below, unset_all}
use Rattle.vector_register.proofs.Some.{some_no, some_yes}

-- ---- what is in service, f, hides requests, g

module _ (f g : ℕ → ℕ) where
  abbrev seen : ℕ → ℕ
  seen j = if some_up_to f j then 0 else g j

  asked : (t : Bool) (j : ℕ) → (if t then 0 else g j) ≡ 1 → (t ≡ false) × (g j ≡ 1)
  asked true j e = absurd (omega arith)
  asked false j e = (refl, e)

  unseen : (n : ℕ) → Unset g n → Unset seen n
  unseen n c k l e = c k l (asked (some_up_to f k) k e).1

  -- no vector up to v is in service
  open_at : (v : ℕ) → v < 256 → g v ≡ 1 → Unset g v → Unset f (suc v) → least seen 256 0 ≡ Some v
  open_at v l e c s =
      found_at seen 256 v l (rw (some_no f v s) e) (unseen v c)

  -- one is
  shut_at : (v s : ℕ) → s ≤ v → f s ≡ 1 → Unset g v → least seen 256 0 ≡ None
  shut_at v s l e c =
      found_none seen 256
      (λ k m q. ⊎_elim (λ h. c k h (asked (some_up_to f k) k q).1) (λ h. clash _ (some_yes f k s (omega arith) e) (asked (some_up_to f k) k q).0) (side k v))

module _ (b : List ℕ) where
  abbrev served : ℕ → ℕ
  served k = bit_at b isr k

  abbrev wanted : ℕ → ℕ
  wanted k = bit_at b irr k

  pub event_none : lowest b irr ≡ None → None ≡ event b
  unfolding event
  event_none e = sym (found_none (seen served wanted) 256 (unseen served wanted 256 (unset_all wanted 256 e)))

  module _ (v : ℕ) (e : lowest b irr ≡ Some v) where
    pub event_free : lowest b isr ≡ None → Some v ≡ event b
    unfolding event
    event_free s =
        sym (open_at served wanted v (set_below wanted 256 v e) (set_there wanted 256 v e) (unset_below wanted 256 v e) (λ k l. unset_all served 256 s k (omega (arith, set_below wanted 256 v e))))

    pub event_below : (s : ℕ) → lowest b isr ≡ Some s → v < s → Some v ≡ event b
    unfolding event
    event_below s h l =
        sym (open_at served wanted v (set_below wanted 256 v e) (set_there wanted 256 v e) (unset_below wanted 256 v e) (λ k m. unset_below served 256 s h k (omega arith)))

    pub event_masked : (s : ℕ) → lowest b isr ≡ Some s → s ≤ v → None ≡ event b
    unfolding event
    event_masked s h l = sym (shut_at served wanted v s l (set_there served 256 s h) (unset_below wanted 256 v e))
