-- Laws of the TLB's own steps: what an accepted one has shown, that what it adds is sound, and what it writes.
-- Assumes nothing.
use Rattle.std.specs.Prelude.{if◌then◌else◌, Ok, Err, Option, Some, None}
use mathlib.Core.Path.{◌≡◌, refl, subst}
use mathlib.Core.Bool.{Bool, true, false, ◌&&◌, ◌||◌, not}
use mathlib.Core.List.{List, [], ◌∷◌}
use Prim.Native.Nat.{ℕ, ◌+◌, ◌^◌, ◌≤◌, ◌<◌}
use native.Mathlib.Omega.{arith}
use lib.ListN.{length}
use lib.Dec.{eqb, leb}
use borrow.Author.Tests.{eqb-true, leb-true, not-true}
use Rattle.word.specs.Bytes.{bytes_at}
use Rattle.word.proofs.Bytes.{Bytes, bytes_lt}
use Rattle.word.proofs.Truth.{and_left, and_right}
use Rattle.refusals.specs.declared.Refusal.{Refusal}
use Rattle.refusals.specs.declared.Refusal.TheVariants.{NoNextState}
use Rattle.records.specs.declared.Walk.{Walk}
use Rattle.records.specs.Records.{all, same, among}
use Rattle.records.specs.Contents.{walk_sound}
use Rattle.tlb.specs.declared.Change.{Change}
use Rattle.tlb.specs.declared.Change.TheVariants.{Adds, Marks}
use Rattle.tlb.specs.Walks.{pte_a, pte_p, ptea, entry_at, complete, winit, wext, wext_fault, set_d}
use Rattle.tlb.specs.Steps.{tlb_create, extendable, on_extend, tlb_extend, on_accessed, tlb_accessed}
use Rattle.tlb.proofs.Fields.{same_walk}

-- a refusal changes nothing
refused_ok : {r : Refusal} {x : Change} → Err r ≡ Ok x → ⊥
refused_ok e = let z : ◌≡◌ {A = ℕ} 0 1 = cc in omega arith

-- ---- entries that are there

pub entry_word : (m : List ℕ) (a : ℕ) {v : ℕ} → entry_at m a ≡ Some v → (v ≡ bytes_at 4 m a) × (a + 4 ≤ length m)
unfolding entry_at
entry_word m a {v} = go (leb (a + 4) (length m)) refl
  where
    go : (t : Bool) → leb (a + 4) (length m) ≡ t → (if t then Some (bytes_at 4 m a) else None) ≡ Some v → (v ≡ bytes_at 4 m a) × (a + 4 ≤ length m)
    go true p e = let q : v ≡ bytes_at 4 m a = cc in (q, leb-true (a + 4) (length m) p)
    go false p e = absurd (let z : ◌≡◌ {A = ℕ} 0 1 = cc in omega arith)

pub entry_lt : (m : List ℕ) (a : ℕ) {v : ℕ} → Bytes m → entry_at m a ≡ Some v → v < 2 ^ 32
entry_lt m a h e = omega (arith, (entry_word m a e).0, bytes_lt 4 m a h)

-- ---- what an accepted step has shown

pub create_adds : (u r : Bool) (o a v : ℕ) {x : Walk} → tlb_create u r o a v ≡ Ok (Adds x) → ((u && r) ≡ true) × (x ≡ winit v o a)
unfolding tlb_create
create_adds u r o a v {x} = go (u && r) refl
  where
    go : (t : Bool) → (u && r) ≡ t → (if t then Ok (Adds (winit v o a)) else Err NoNextState) ≡ Ok (Adds x) → ((u && r) ≡ true) × (x ≡ winit v o a)
    go true p e = (p, let q : x ≡ winit v o a = cc in q)
    go false p e = absurd (refused_ok e)

pub record Extended (r : Bool) (a : ℕ) (tlb : List Walk) (w : Walk) (e : Option ℕ) (x : Walk) : Type 0 where
  pub guards : (r && extendable a tlb w) ≡ true
  pub word : ℕ
  pub entry : e ≡ Some word
  pub accessed : pte_a word ≡ true
  pub present : pte_p word ≡ true
  pub walk : x ≡ wext w word

-- an extension with rights 000 faults only where the entry is absent
no_fault : (v : ℕ) → not (wext_fault v 0) ≡ true → pte_p v ≡ true
unfolding wext_fault
no_fault v = go (pte_p v) _
  where
    go : (t s : Bool) → not (not t || s) ≡ true → t ≡ true
    go true s e = refl
    go false s e = e

pub extend_adds : (r : Bool) (a : ℕ) (tlb : List Walk) (w : Walk) (e : Option ℕ) {x : Walk} → tlb_extend r a tlb w e ≡ Ok (Adds x) → Extended r a tlb w e x
unfolding tlb_extend on_extend
extend_adds r a tlb w e {x} = outer (r && extendable a tlb w) refl
  where
    inner : (v : ℕ) (t : Bool) → (r && extendable a tlb w) ≡ true → (pte_a v && not (wext_fault v 0)) ≡ t → (if t then Ok (Adds (wext w v)) else Err NoNextState) ≡ Ok (Adds x) → Extended r a tlb w (Some v) x
    inner v true g p q =
        record {
          guards = g;
          word = v;
          entry = refl;
          accessed = and_left (pte_a v) _ p;
          present = no_fault v (and_right (pte_a v) _ p);
          walk = let s : x ≡ wext w v = cc in s;
        }
    inner v false g p q = absurd (refused_ok q)

    by_entry : (e : Option ℕ) → (r && extendable a tlb w) ≡ true → on_extend w e ≡ Ok (Adds x) → Extended r a tlb w e x
    by_entry (Some v) g q = inner v (pte_a v && not (wext_fault v 0)) g refl q
    by_entry None g q = absurd (refused_ok q)

    outer : (t : Bool) → (r && extendable a tlb w) ≡ t → (if t then on_extend w e else Err NoNextState) ≡ Ok (Adds x) → Extended r a tlb w e x
    outer true g q = by_entry e g q
    outer false g q = absurd (refused_ok q)

pub record Marked (u : Bool) (a : ℕ) (tlb : List Walk) (w : Walk) (e : Option ℕ) (at v : ℕ) : Type 0 where
  pub guards : (u && extendable a tlb w) ≡ true
  pub word : ℕ
  pub entry : e ≡ Some word
  pub present : pte_p word ≡ true
  pub address : at ≡ ptea w
  pub value : v ≡ set_d word

pub accessed_marks : (u : Bool) (a : ℕ) (tlb : List Walk) (w : Walk) (e : Option ℕ) {at v : ℕ} → tlb_accessed u a tlb w e ≡ Ok (Marks at v) → Marked u a tlb w e at v
unfolding tlb_accessed on_accessed
accessed_marks u a tlb w e {at} {v} = outer (u && extendable a tlb w) refl
  where
    inner : (n : ℕ) (t : Bool) → (u && extendable a tlb w) ≡ true → pte_p n ≡ t → (if t then Ok (Marks (ptea w) (set_d n)) else Err NoNextState) ≡ Ok (Marks at v) → Marked u a tlb w (Some n) at v
    inner n true g p q =
        record {
          guards = g;
          word = n;
          entry = refl;
          present = p;
          address = let s : at ≡ ptea w = cc in s;
          value = let s : v ≡ set_d n = cc in s;
        }
    inner n false g p q = absurd (refused_ok q)

    by_entry : (e : Option ℕ) → (u && extendable a tlb w) ≡ true → on_accessed w e ≡ Ok (Marks at v) → Marked u a tlb w e at v
    by_entry (Some n) g q = inner n (pte_p n) g refl q
    by_entry None g q = absurd (refused_ok q)

    outer : (t : Bool) → (u && extendable a tlb w) ≡ t → (if t then on_accessed w e else Err NoNextState) ≡ Ok (Marks at v) → Marked u a tlb w e at v
    outer true g q = by_entry e g q
    outer false g q = absurd (refused_ok q)

-- ---- what is added is sound

pub held_sound : (w : Walk) (tlb : List Walk) → among w tlb ≡ true → all walk_sound tlb ≡ true → walk_sound w ≡ true
unfolding among all
held_sound w [] e s = absurd (let z : ◌≡◌ {A = ℕ} 0 1 = cc in omega arith)
held_sound w (v ∷ l) e s = go (same v w) refl e (λ q. held_sound w l q (and_right (walk_sound v) _ s))
  where
    go : (t : Bool) → same v w ≡ t → t || among w l ≡ true → (among w l ≡ true → walk_sound w ≡ true) → walk_sound w ≡ true
    go true p q i =
        subst (λ (x : Walk). walk_sound x ≡ true)
        (same_walk (eqb-true _ _ (and_left (eqb v.first w.first) _ p)) (eqb-true _ _ (and_right (eqb v.first w.first) _ p)))
        (and_left (walk_sound v) _ s)
    go false p q i = i q

-- a walk that can be extended: held, incomplete, of the address space
module _ (r : Bool) (a : ℕ) (tlb : List Walk) (w : Walk) (g : (r && extendable a tlb w) ≡ true) where
  pub is_held : among w tlb ≡ true
  unfolding extendable
  is_held = and_left (among w tlb) _ (and_right r _ g)

  pub is_incomplete : complete w ≡ false
  unfolding extendable
  is_incomplete = not-true (complete w) (and_left (not (complete w)) _ (and_right (among w tlb) _ (and_right r _ g)))
