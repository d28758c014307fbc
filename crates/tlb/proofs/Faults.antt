-- What the code's cases show of faults.
-- Assumes nothing.
use Rattle.std.specs.Prelude.{Option, Some, None}
use mathlib.Core.Path.{◌≡◌}
use mathlib.Core.Bool.{Bool, true, false, not, ◌&&◌}
use mathlib.Core.List.{List}
use Prim.Native.Nat.{ℕ}
use Rattle.records.specs.declared.Walk.{Walk}
use Rattle.tlb.specs.declared.Request.{Request}
use Rattle.tlb.specs.declared.Faulting.TheVariants.{Faults, Passes, Undecided}
use Rattle.tlb.specs.Walks.{complete, hit, pte, wext_fault, entry_fault, fault_by, fault}

-- what an extension gives, by the entry and its fault f
module _ (r : ℕ) {e : Option ℕ} {v : ℕ} (p : e ≡ Some v) {f : Bool} (q : f ≡ wext_fault v r) where
  pub word_faults : f ≡ true → Faults ≡ entry_fault r e
  unfolding entry_fault
  word_faults t = rw (p, ← q, t)

  pub word_passes : f ≡ false → Passes ≡ entry_fault r e
  unfolding entry_fault
  word_passes t = rw (p, ← q, t)

pub missing_undecided : (r : ℕ) {e : Option ℕ} → e ≡ None → Undecided ≡ entry_fault r e
unfolding entry_fault
missing_undecided r p = rw p

-- the fault, by the tests of the walk
module _ (m : List ℕ) (t : Request) (w : Walk) {k h : Bool} (p : k ≡ complete w) (q : h ≡ hit t w) where
  pub fault_asked : (not k && h) ≡ true → entry_fault t.r (pte m w) ≡ fault m t w
  unfolding fault_by
  fault_asked e = rw (← p, ← q, e)

  pub fault_passed : (not k && h) ≡ false → Passes ≡ fault m t w
  unfolding fault_by
  fault_passed e = rw (← p, ← q, e)
