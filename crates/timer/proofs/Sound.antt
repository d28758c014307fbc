-- Which timers sound tables may have, at the edges.
-- Assumes nothing.
use mathlib.Core.Path.{◌≡◌, refl}
use mathlib.Core.Bool.{Bool, true, false}
use mathlib.Core.List.{List, [], ◌∷◌, map}
use Prim.Native.Nat.{ℕ}
use Rattle.timer.specs.Timer.{timer_sound}

-- the ticks left, 0 to 4, with these periods
abbrev row : ℕ → List Bool
row p = map (timer_sound p) (0 ∷ 1 ∷ 2 ∷ 3 ∷ 4 ∷ [])

pub edges :
    (row 0 ≡ true ∷ false ∷ false ∷ false ∷ false ∷ []) × (row 1 ≡ false ∷ true ∷ false ∷ false ∷ false ∷ [])
    × (row 2 ≡ false ∷ true ∷ true ∷ false ∷ false ∷ []) × (row 3 ≡ false ∷ true ∷ true ∷ true ∷ false ∷ [])
edges = (refl, refl, refl, refl)
