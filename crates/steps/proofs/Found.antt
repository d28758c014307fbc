-- The step of a kind that a match has found.
-- Assumes nothing.
use mathlib.Core.Path.{◌≡◌, sym, ap}
use mathlib.Core.List.{List}
use Prim.Native.Nat.{ℕ}
use Rattle.steps.specs.Form.{step_of_core, step_of_line}

pub by_kind : (k : ℕ) (s : List ℕ) {i j : ℕ} → i ≡ j → step_of_core j k s ≡ step_of_core i k s
by_kind k s e = ap (λ (x : ℕ). step_of_core x k s) (sym e)

pub by_line : (n : ℕ) (s : List ℕ) {i j : ℕ} → i ≡ j → step_of_line j n s ≡ step_of_line i n s
by_line n s e = ap (λ (x : ℕ). step_of_line x n s) (sym e)
