-- The operation Run (01): single steps one after the other, up to the end, the limit or a refusal.
-- Assumes nothing.
use Rattle.std.specs.Prelude.{if◌then◌else◌, Bool, not, ◌||◌, ◌≡◌, List, ℕ, zero, suc, ◌+◌, ◌/◌, ◌%◌, eqb, ltb, length, take, drop, Result, Ok, Err}
use Rattle.refusals.specs.declared.Refusal.{Refusal}
use Rattle.refusals.specs.declared.Refusal.TheVariants.{Unsound, Schedule}
use Rattle.refusals.specs.Numbers.{number}
use Rattle.tables.specs.Sound.{sound}
use Rattle.steps.specs.declared.Answer.{Answer}
use Rattle.machine.specs.declared.run.Ran.{Ran}
use Rattle.machine.specs.declared.run.Stop.{Stop}
use Rattle.machine.specs.declared.run.Stop.TheVariants as stop
use Rattle.machine.specs.Step.{Stepped, step}

-- how many steps were accepted, why it stopped, and the machine after it
pub record RunResult : Type 0 where
  pub accepted : ℕ
  pub why : Stop
  pub tables : List ℕ
  pub memory : List ℕ

abbrev pub stops_with : ℕ → Stop → List ℕ → List ℕ → RunResult
stops_with n w t m = record { accepted = n; why = w; tables = t; memory = m }

-- the rest follows an accepted step; a refusal ends the run
abbrev pub on_answer : Result Answer Refusal → ℕ → List ℕ → List ℕ → RunResult → RunResult
on_answer (Ok a) n t m rest = rest
on_answer (Err r) n t m rest = stops_with n (stop.Refused r) t m

abbrev pub on_step : Stepped → ℕ → RunResult → RunResult
on_step r n rest = on_answer r.answer n r.tables r.memory rest

-- k steps are left in the schedule s, and n were accepted; the end is looked at before the limit
unfoldable pub run_from : ℕ → List ℕ → ℕ → ℕ → List ℕ → List ℕ → RunResult
run_from zero s limit n t m = stops_with n stop.End t m
run_from (suc k) s limit n t m =
    if eqb n limit then stops_with n stop.Limit t m
    else on_step (step t m (take 6 s)) n
    (run_from k (drop 6 s) limit (n + 1) (step t m (take 6 s)).tables (step t m (take 6 s)).memory)

-- a schedule has whole steps, at most 1,024
abbrev pub whole : List ℕ → Bool
whole s = not (not (eqb (length s % 6) 0) || ltb 6144 (length s))

unfoldable pub run : List ℕ → List ℕ → List ℕ → ℕ → RunResult
run t m s limit =
    if not (sound t (length m)) then stops_with 0 (stop.Refused Unsound) t m
    else if not (whole s) then stops_with 0 (stop.Refused Schedule) t m
    else run_from (length s / 6) s limit 0 t m

-- the number for each reason: 0 the end, 1 the limit is spent, 100 and 01's number of a refusal
abbrev pub stop_number : Stop → ℕ
stop_number stop.End = 0
stop_number stop.Limit = 1
stop_number (stop.Refused r) = 100 + number r

-- what the operation answers and leaves is a result
pub record Is (r : Ran) (t m : List ℕ) (x : RunResult) : Type 0 where
  pub same_accepted : r.accepted ≡ x.accepted
  pub same_why : r.stop ≡ x.why
  pub same_number : stop_number r.stop ≡ stop_number x.why
  pub same_tables : t ≡ x.tables
  pub same_memory : m ≡ x.memory
