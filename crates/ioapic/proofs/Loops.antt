-- One more block, one more entry.
-- Assumes nothing.
use mathlib.Core.Path.{◌≡◌, refl, ap, subst}
use mathlib.Core.Bool.{Bool, true, false, ◌||◌}
use mathlib.Core.List.{List}
use Prim.Native.Nat.{ℕ, ◌+◌, ◌<◌}
use native.Mathlib.Numerals.{add-one}
use borrow.Author.Tests.{ltb-true}
use lib.Dec.{ltb}
use Rattle.ioapic.specs.Blocks.{on_block, on_blocks}
use Rattle.ioapic.specs.IoApic.{entry, with_entry, on_entries, writes}

pub one_more_block : (f : ℕ → List ℕ → List ℕ) (j : ℕ) (t : List ℕ) → on_blocks f (j + 1) t ≡ on_block (f j) j (on_blocks f j t)
unfolding on_blocks
one_more_block f j t = ap (λ (n : ℕ). on_blocks f n t) (add-one j)

pub one_more_entry : (f : ℕ → ℕ) (i : ℕ) (t : List ℕ) → on_entries f (i + 1) t ≡ with_entry (on_entries f i t) i (f (entry (on_entries f i t) i))
unfolding on_entries
one_more_entry f i t = ap (λ (n : ℕ). on_entries f n t) (add-one i)

-- a write that selects an entry
or_false : (s : Bool) → s || false ≡ true → s ≡ true
or_false true e = refl
or_false false e = e

pub selects : (a v : ℕ) → a ≡ 0 → writes a v ≡ true → v < 24
selects a v z e = ltb-true v 24 (or_false (ltb v 24) (subst (λ (n : ℕ). writes n v ≡ true) z e))
