-- A step before a refusal of it is counted: what was decided is done, or nothing is. It serves the contracts of the
-- functions that take a step; `step_accepted` and `step_refused` of proofs/Taking tie it to `step` of specs/Step.
-- Assumes nothing.
use Rattle.std.specs.Prelude.{List, ℕ, Result, Ok, Err}
use Rattle.refusals.specs.declared.Refusal.{Refusal}
use Rattle.machine.specs.Actions.{Effect, answer_by, tables_after, memory_after}
use Rattle.machine.specs.Step.{Stepped}

unfoldable pub tried : Result Effect Refusal → List ℕ → List ℕ → Stepped
tried (Ok x) t m = record { answer = Ok (answer_by x); tables = tables_after x t; memory = memory_after x m }
tried (Err r) t m = record { answer = Err r; tables = t; memory = m }
