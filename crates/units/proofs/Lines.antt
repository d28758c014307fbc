-- A line of a table, looked up at control bits that a match has found, or that are none of a match's.
-- Assumes nothing.
use mathlib.Core.Path.{◌≡◌, refl, sym, ap}
use mathlib.Core.Bool.{Bool, true, ◌&&◌}
use mathlib.Core.List.{List, [], ◌∷◌}
use Prim.Native.Nat.{ℕ}
use lib.Dec.{T}
use Rattle.word.proofs.Tests.{NoneOf, elem, missed, and_left, and_right}
use Rattle.units.specs.Control.{Line, choose}

pub by_control : {A : Type 0} (d : A) (ls : List (Line A)) {k j : ℕ} → k ≡ j → choose d ls j ≡ choose d ls k
by_control d ls e = ap (λ (x : ℕ). choose d ls x) (sym e)

abbrev pub listed : {A : Type 0} → List (Line A) → List ℕ → Bool
listed [] ks = true
listed (l ∷ ls) ks = elem l.control ks && listed ls ks

-- control bits that no line has
pub unlisted : {A : Type 0} (d : A) (ls : List (Line A)) (k : ℕ) (ks : List ℕ) → T (listed ls ks) → NoneOf k ks → d ≡ choose d ls k
unlisted d [] k ks t n = refl
unlisted d (l ∷ ls) k ks t n =
    rw (missed k l.control ks (and_left (elem l.control ks) (listed ls ks) t) n)
    (unlisted d ls k ks (and_right (elem l.control ks) (listed ls ks) t) n)
