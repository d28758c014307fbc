-- The registers of a block, by the places of their words.
-- Assumes nothing.
use mathlib.Core.Path.{◌≡◌, refl, ◌∙◌}
use mathlib.Core.List.{List}
use Prim.Native.Nat.{ℕ, ◌+◌, ◌<◌}
use lib.ListN.{get_or, drop}
use lib.Seq.{get_or-take, get_or-drop}
use Rattle.isa.specs.Core.{gpr_at, spr_at}
use Rattle.layout.specs.Layout as at
use Rattle.tables.specs.Views.{registers_of}

pub general_at : (b : List ℕ) (n : ℕ) → n < 32 → gpr_at (registers_of b) n ≡ get_or b n 0
unfolding registers_of
general_at b n h = get_or-take 32 b n 0 h

pub special_at : (b : List ℕ) (n : ℕ) → n < 32 → spr_at (registers_of b) n ≡ get_or b (at.spr + n) 0
unfolding registers_of
special_at b n h = get_or-take 32 (drop 32 b) n 0 h ∙ get_or-drop 32 b n 0

pub pc_at : (b : List ℕ) → (registers_of b).pc ≡ get_or b 64 0
unfolding registers_of
pc_at b = refl
