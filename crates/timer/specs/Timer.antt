-- The timer on the header words of the tables (02, 'A timer on line 0').
-- Assumes nothing.
use Rattle.std.specs.Prelude.{if◌then◌else◌, Bool, ◌&&◌, ◌||◌, List, ℕ, ◌-◌, get_or, set, eqb, leb}
use Rattle.layout.specs.Layout.{period, left}
use Rattle.layout.specs.Lines.{line_set}

-- sound tables: the ticks left are at most the period, and at least 1 unless the period is 0
abbrev pub timer_sound : ℕ → ℕ → Bool
timer_sound p l = leb l p && (leb 1 l || eqb p 0)

-- a tick: with period 0 nothing; else the ticks left fall by one, and where they reach 0 line 0 rises and they become
-- the period
unfoldable pub ticked : List ℕ → List ℕ
ticked t =
    if eqb (get_or t period 0) 0 then t else
    if eqb (get_or t left 0 - 1) 0 then set (line_set t 0 1) left (get_or t period 0) else
    set t left (get_or t left 0 - 1)

-- the word v written at port address a: at 0 the period, which sets the ticks left too; at 4 what lowers line 0
unfoldable pub timer_written : List ℕ → ℕ → ℕ → List ℕ
timer_written t a v = if eqb a 0 then set (set t period v) left v else line_set t 0 0
