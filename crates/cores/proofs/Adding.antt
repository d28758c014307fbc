-- A walk that is added, and a store's bytes.
-- Assumes nothing.
use Rattle.std.specs.Prelude.{Ok, Err}
use Rattle.refusals.specs.declared.Refusal.TheVariants.{WalksFull, NoFreeRecord}
use mathlib.Core.Path.{◌≡◌, refl, sym, ◌∙◌}
use mathlib.Core.Logic.{⊎_elim}
use mathlib.Core.Bool.{Bool, true, false, ◌&&◌, ◌||◌}
use mathlib.Core.List.{List}
use Prim.Native.Nat.{ℕ, zero, suc, ◌+◌, ◌*◌, ◌/◌, ◌%◌, ◌^◌, ◌<◌, ◌≤◌}
use lib.Dec.{eqb, leb, ltb}
use lib.ListN.{length}
use native.Mathlib.Omega.{arith}
use borrow.Author.Tests.{ne_eqb, eqb-true, lt-ltb, le-ltb, le-leb, lt-leb}
use Rattle.word.proofs.Laws.{side}
use Rattle.word.proofs.Truth.{and-true, or_other}
use Rattle.records.specs.declared.Walk.{Walk}
use Rattle.records.specs.Records.{among}
use Rattle.records.specs.Contents.{there, all_there, local_port, io_port}
use Rattle.layout.specs.Layout.{local_ports, local_port_bytes, io_ports, io_port_bytes}
use Rattle.store_buffer.specs.System.{is_port, sized, aligned}
use Rattle.store_buffer.proofs.Access.{aligned_word}
use Rattle.cores.specs.declared.BufferChange.{BufferChange}
use Rattle.cores.specs.declared.WalkChange.TheVariants.{Add}
use Rattle.cores.specs.declared.Write.{Write}
use Rattle.cores.specs.Plans.{done}
use Rattle.cores.specs.TlbSteps.{adding}

module _ (tlb : List Walk) (free : Bool) (w : Walk) where
  pub adding_held : among w tlb ≡ true → Ok (done BufferChange.Nothing (Add w) Write.Nothing) ≡ adding tlb free w
  unfolding adding
  adding_held a = rw (a) refl

  pub adding_full : among w tlb ≡ false → leb 23 (length tlb) ≡ true → Err WalksFull ≡ adding tlb free w
  unfolding adding
  adding_full a l = rw (a, l) refl

  pub adding_none : among w tlb ≡ false → leb 23 (length tlb) ≡ false → free ≡ false → Err NoFreeRecord ≡ adding tlb free w
  unfolding adding
  adding_none a l f = rw (a, l, f) refl

  room : (a : Bool) → among w tlb ≡ a → leb 23 (length tlb) ≡ false → free ≡ true → Ok (done BufferChange.Nothing (Add w) Write.Nothing) ≡ adding tlb free w
  unfolding adding
  room true a l f = adding_held a
  room false a l f = rw (a, l, f) refl

  pub adding_room : leb 23 (length tlb) ≡ false → free ≡ true → Ok (done BufferChange.Nothing (Add w) Write.Nothing) ≡ adding tlb free w
  adding_room = room (among w tlb) refl

-- ---- the bytes of a store

module _ (a b n : ℕ) (p : a / 4 ≡ b / 4) (q : n % 4 ≡ 0) where
  same_ltb : ltb a n ≡ ltb b n
  same_ltb = ⊎_elim (λ h. rw (lt-ltb a n h) (sym (lt-ltb b n (omega (arith, h, p, q))))) (λ h. rw (le-ltb a n h) (sym (le-ltb b n (omega (arith, h, p, q))))) (side a n)

  same_leb : leb n a ≡ leb n b
  same_leb = ⊎_elim (λ h. rw (lt-leb n a h) (sym (lt-leb n b (omega (arith, h, p, q))))) (λ h. rw (le-leb n a h) (sym (le-leb n b (omega (arith, h, p, q))))) (side a n)

-- a byte of the same aligned word is there, or not, with the first
there_same : (n a b : ℕ) → a / 4 ≡ b / 4 → n % 4 ≡ 0 → there n a ≡ there n b
there_same n a b p q =
    rw (same_ltb a b n p q, same_leb a b io_ports p refl, same_ltb a b (io_ports + io_port_bytes) p refl, same_leb a b local_ports p refl, same_ltb a b (local_ports + local_port_bytes) p refl) refl

and_same : (x : Bool) → (x && x) ≡ x
and_same true = refl
and_same false = refl

all_same : (d n a x : ℕ) → a % 4 + suc d ≤ 4 → n % 4 ≡ 0 → a / 4 ≡ x / 4 → all_there (suc d) n a ≡ there n x
all_same zero n a x f q p = and-true (there n a) ∙ there_same n a x p q
all_same (suc d) n a x f q p =
    rw (there_same n a x p q, all_same d n (a + 1) x (omega (arith, f)) q (omega (arith, f, p))) (and_same (there n x))

or_swap : (x y z : Bool) → (x || (y || z)) ≡ (x || (z || y))
or_swap true y z = refl
or_swap false true true = refl
or_swap false true false = refl
or_swap false false true = refl
or_swap false false false = refl

first_tells : (w n a : ℕ) → 0 < w → a % 4 + w ≤ 4 → n % 4 ≡ 0 → (ltb a n || is_port a) ≡ all_there w n a
first_tells zero n a z f q = absurd (omega (arith, z))
first_tells (suc d) n a z f q = or_swap (ltb a n) (local_port a) (io_port a) ∙ sym (all_same d n a a f q refl)

pub all_there_lem : (w n a : ℕ) → aligned a w ≡ true → n % 4 ≡ 0 → (ltb a n || is_port a) ≡ all_there w n a
all_there_lem w n a e q = let W = aligned_word a w e in first_tells w n a W.some W.within q

-- a whole word
pub whole : (w v : ℕ) → sized w ≡ true → (w ≡ 1 → ⊥) → (w ≡ 2 → ⊥) → v < 2 ^ 32 → v ≡ v % 2 ^ (8 * w)
whole w v s p q h = four w (or_other (eqb w 2) (eqb w 4) (or_other (eqb w 1) _ s (ne_eqb w 1 p)) (ne_eqb w 2 q))
  where
    four : (n : ℕ) → eqb n 4 ≡ true → v ≡ v % 2 ^ (8 * n)
    four n e = rw (eqb-true n 4 e) (omega (arith, h))
