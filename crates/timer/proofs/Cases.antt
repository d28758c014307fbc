-- A tick and a write, case by case.
-- Assumes nothing.
use mathlib.Core.Path.{◌≡◌, ap, ◌∙◌}
use mathlib.Core.Logic.{◌≢◌}
use mathlib.Core.List.{List}
use Prim.Native.Nat.{ℕ, ◌-◌, ◌<◌, ◌≤◌}
use native.Mathlib.Omega.{arith}
use lib.ListN.{get_or, set}
use borrow.Author.Tests.{eq-eqb, ne_eqb}
use Rattle.layout.specs.Layout.{period, left}
use Rattle.layout.specs.Lines.{line_set}
use Rattle.timer.specs.Timer.{ticked, timer_written}

module _ (t : List ℕ) where
  pub tick_still : get_or t period 0 ≡ 0 → t ≡ ticked t
  unfolding ticked
  tick_still e = rw (eq-eqb (get_or t period 0) 0 e)

  pub tick_raised : {u : List ℕ} → get_or t period 0 ≢ 0 → get_or t left 0 ≤ 1 → u ≡ line_set t 0 1 → set u left (get_or t period 0) ≡ ticked t
  unfolding ticked
  tick_raised d h q =
      let z : get_or t left 0 - 1 ≡ 0 = omega arith in
      ap (λ (l : List ℕ). set l left (get_or t period 0)) q ∙ rw (ne_eqb (get_or t period 0) 0 d, eq-eqb (get_or t left 0 - 1) 0 z)

  pub tick_fallen : get_or t period 0 ≢ 0 → 1 < get_or t left 0 → set t left (get_or t left 0 - 1) ≡ ticked t
  unfolding ticked
  tick_fallen d h =
      let z : get_or t left 0 - 1 ≢ 0 = omega arith in
      rw (ne_eqb (get_or t period 0) 0 d, ne_eqb (get_or t left 0 - 1) 0 z)

  module _ (a v : ℕ) where
    pub period_written : a ≡ 0 → set (set t period v) left v ≡ timer_written t a v
    unfolding timer_written
    period_written e = rw (eq-eqb a 0 e)

    pub line_lowered : {u : List ℕ} → a ≢ 0 → u ≡ line_set t 0 0 → u ≡ timer_written t a v
    unfolding timer_written
    line_lowered d q = rw (ne_eqb a 0 d) q
