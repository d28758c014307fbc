-- Lists of records: what stands at a place, their lengths, and a walk added.
-- Assumes nothing.
use mathlib.Core.Path.{◌≡◌, refl, sym, ◌∙◌}
use Prim.Native.Nat.{ℕ, zero, suc, ◌<◌}
use mathlib.Core.Bool.{true, false}
use mathlib.Core.List.{List, [], ◌∷◌, map}
use native.Mathlib.Omega.{arith}
use lib.ListN.{length, get_or, length-map}
use borrow.Author.Tests.{ltb-true}
use Rattle.layout.specs.Layout.{store_head, walk_head}
use Rattle.records.specs.declared.Walk.{Walk}
use Rattle.records.specs.Records.{chain_at, all, small, store_in, walk_in, stores, walks, insert, add_walk, among}
use Rattle.records.proofs.Checking.{all_cons}
use Rattle.word.proofs.Truth.{and_left, and_right}

-- ---- the record at a place

low_next : (m : ℕ) (l : List ℕ) → all small (m ∷ l) ≡ true → (m < 32) × (all small l ≡ true)
low_next m l e = let f = sym (all_cons small m l) ∙ e in (ltb-true m 32 (and_left (small m) (all small l) f), and_right (small m) (all small l) f)

pub number_low : (l : List ℕ) (i : ℕ) → all small l ≡ true → get_or l i 0 < 32
number_low [] i e = omega arith
number_low (m ∷ l) zero e = (low_next m l e).0
number_low (m ∷ l) (suc i) e = number_low l i (low_next m l e).1

-- what the record at a place holds
pub at_map : {A : Type 0} (f : ℕ → A) (l : List ℕ) (i : ℕ) (e : A) → i < length l → get_or (map f l) i e ≡ f (get_or l i 0)
at_map f [] i e h = absurd (omega arith)
at_map f (m ∷ l) zero e h = refl
at_map f (m ∷ l) (suc i) e h = at_map f l i e (omega arith)

-- ---- adding a walk

pub add_held : (b : List ℕ) (w : Walk) → among w (walks b) ≡ true → b ≡ add_walk b w
unfolding add_walk
add_held b w e = rw (e, add_walk)

pub add_new : (b : List ℕ) (w : Walk) → among w (walks b) ≡ false → insert b walk_head w.first w.second 0 ≡ add_walk b w
unfolding add_walk
add_new b w e = rw (e, add_walk)

-- a list is as long as its chain
pub stores_length : (b : List ℕ) → length (stores b) ≡ length (chain_at b store_head)
unfolding stores
stores_length b = length-map (chain_at b store_head) (store_in b)

pub walks_length : (b : List ℕ) → length (walks b) ≡ length (chain_at b walk_head)
unfolding walks
walks_length b = length-map (chain_at b walk_head) (walk_in b)
