-- What the interface for C answers, as one number. For a step it is answer_number (steps, specs/Answers), for a run
-- stop_number (machine, specs/Run), for reach reached_number, and beyond_of for the word at `beyond` (reach,
-- specs/Reach), for apart verdict_number (separation, specs/Apart), for why and its 18 words told, and told_number
-- (reasons, specs/Why), for translate translated_number, and reads_of for the word at `reads` (translate,
-- specs/Translate), for disassemble disassembled_number (disassemble, specs/Disassembly); for make it stands here.
-- Assumes nothing.
use Rattle.std.specs.Prelude.{◌≡◌, ℕ, ◌+◌, Result, Ok, Err, Option, Some, None}
use Rattle.refusals.specs.declared.Refusal.{Refusal}
use Rattle.refusals.specs.Numbers.{number}
use Rattle.std.specs.Result.{result_err}

-- 0 where there is no refusal, and 100 and the number of one
abbrev pub refusal_or0 : Option Refusal → ℕ
refusal_or0 None = 0
refusal_or0 (Some r) = 100 + number r

-- make: 0 made, 100 and the number of a refusal
abbrev pub made_number : Result (Unit {0}) Refusal → ℕ
made_number a = refusal_or0 (result_err a)

-- an answer's number: one that a relation gives of a success, or 100 and the number of a refusal
abbrev pub IsResultNumber : {T : Type 0} → (T → ℕ → Type 0) → Result T Refusal → ℕ → Type 0
IsResultNumber told (Ok x) n = told x n
IsResultNumber told (Err r) n = n ≡ 100 + number r
