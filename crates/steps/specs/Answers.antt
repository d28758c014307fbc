-- What a step answers, as one number: 0 done, 1 to 8 an interrupt of level 0 to 7, 100 and the number of a refusal.
-- Assumes nothing.
use Rattle.std.specs.Prelude.{ℕ, ◌+◌, Result, Ok, Err}
use Rattle.refusals.specs.declared.Refusal.{Refusal}
use Rattle.refusals.specs.Numbers.{number}
use Rattle.steps.specs.declared.Answer.{Answer}
use Rattle.steps.specs.declared.Answer.TheVariants.{Done, Interrupt}

abbrev pub answer_number : Result Answer Refusal → ℕ
answer_number (Ok Done) = 0
answer_number (Ok (Interrupt level)) = 1 + level
answer_number (Err r) = 100 + number r
