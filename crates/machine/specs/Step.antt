-- The operation Step (01): it answers, and all words of the tables and bytes of memory are as they are after it.
-- Assumes nothing.
use Rattle.std.specs.Prelude.{if◌then◌else◌, List, ℕ, ◌+◌, ◌-◌, ◌^◌, ltb, set, length, get_or, Result, Ok, Err}
use Rattle.refusals.specs.declared.Refusal.{Refusal}
use Rattle.refusals.specs.declared.Refusal.TheVariants.{Unsound}
use Rattle.tables.specs.Views.{cores_of}
use Rattle.tables.specs.Sound.{sound}
use Rattle.steps.specs.declared.Answer.{Answer}
use Rattle.steps.specs.Form.{count_at}
use Rattle.machine.specs.Actions.{Effect, answer_by, tables_after, memory_after}
use Rattle.machine.specs.Decide.{decided}

-- an answer, and the machine after it
pub record Stepped : Type 0 where
  pub answer : Result Answer Refusal
  pub tables : List ℕ
  pub memory : List ℕ

-- one more in the word i, a count; it stays at its largest
unfoldable pub one_more : ℕ → List ℕ → List ℕ
one_more i t = if ltb (get_or t i 0) (2 ^ 32 - 1) then set t i (get_or t i 0 + 1) else t

-- a refusal of the words s is counted
unfoldable pub counted : List ℕ → List ℕ → List ℕ
counted s t = one_more (count_at (cores_of t) s) t

-- what was decided for the words s is done, or it is refused, which moves nothing but its count
unfoldable pub after : List ℕ → Result Effect Refusal → List ℕ → List ℕ → Stepped
after s (Ok x) t m = record { answer = Ok (answer_by x); tables = tables_after x t; memory = memory_after x m }
after s (Err r) t m = record { answer = Err r; tables = counted s t; memory = m }

-- on sound tables
unfoldable pub taken : List ℕ → List ℕ → List ℕ → Stepped
taken t m s = after s (decided t m s) t m

-- on any: on tables that are not sound nothing is written
unfoldable pub step : List ℕ → List ℕ → List ℕ → Stepped
step t m s = if sound t (length m) then taken t m s else record { answer = Err Unsound; tables = t; memory = m }
