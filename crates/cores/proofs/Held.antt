-- A walk that a core uses: held and matching, with a base of 20 bits.
-- Assumes nothing.
use Rattle.std.specs.Prelude.{if◌then◌else◌}
use mathlib.Core.Path.{◌≡◌, refl, sym}
use mathlib.Core.Bool.{Bool, true, false, not, ◌&&◌, ◌||◌}
use mathlib.Core.List.{List}
use Prim.Native.Nat.{ℕ, ◌+◌, ◌*◌, ◌%◌, ◌^◌, ◌<◌}
use lib.Dec.{ltb}
use native.Mathlib.Omega.{arith}
use borrow.Author.Tests.{lt-ltb, ltb-true}
use Rattle.word.proofs.Tests.{true_false}
use Rattle.records.specs.declared.Walk.{Walk}
use Rattle.records.specs.Records.{walks, among, linked}
use Rattle.records.specs.Contents.{sound_records, walk_sound}
use Rattle.records.proofs.Contents.{parts_of}
use Rattle.records.proofs.Facts.{all_among, walk_facts}

pub not_hit : (u a h : Bool) → not u ≡ false → not h ≡ true → false ≡ (not u || (a && h))
not_hit true true true p q = q
not_hit true true false p q = refl
not_hit true false h p q = refl
not_hit false a h p q = absurd (true_false p)

pub held_hit : (u a h : Bool) → not u ≡ false → not h ≡ false → a ≡ (not u || (a && h))
held_hit true true true p q = refl
held_hit true true false p q = absurd (true_false q)
held_hit true false h p q = refl
held_hit false a h p q = absurd (true_false p)

pub records_linked : (n : ℕ) (b : List ℕ) → sound_records n b ≡ true → linked b ≡ true
records_linked n b e = (parts_of n b e).0

-- a held walk's base
base_of : (u a h : Bool) (x : ℕ) → (a ≡ true → x < 2 ^ 20) → (not u || (a && h)) ≡ true → (not u || ltb x (2 ^ 20)) ≡ true
base_of false a h x f e = refl
base_of true true h x f e = lt-ltb x (2 ^ 20) (f refl)
base_of true false h x f e = absurd (true_false (sym e))

pub held_base : (n : ℕ) (b : List ℕ) (w : Walk) (u h : Bool) → sound_records n b ≡ true → (not u || (among w (walks b) && h)) ≡ true → (not u || ltb w.second (2 ^ 20)) ≡ true
held_base n b w u h s e =
    base_of u (among w (walks b)) h w.second (λ a. (walk_facts w (all_among walk_sound w (walks b) (parts_of n b s).2 a)).base) e

pub used_base : (u : Bool) (x : ℕ) → u ≡ true → (not u || ltb x (2 ^ 20)) ≡ true → x < 2 ^ 20
used_base true x p e = ltb-true x (2 ^ 20) e
used_base false x p e = absurd (true_false (sym p))

-- a physical address keeps the offset
pub same_offset : (u : Bool) (k a : ℕ) → (if u then k * 2 ^ 12 + a % 2 ^ 12 else a) % 4 ≡ a % 4
same_offset false k a = refl
same_offset true k a = omega arith
