-- The number of each refusal (01, 'Operations'; 02).
-- Assumes nothing.
use Rattle.std.specs.Prelude.{ℕ}
use Rattle.refusals.specs.declared.Refusal.{Refusal}
use Rattle.refusals.specs.declared.Refusal.TheVariants.{Cores, Memory, TableLength, Unsound, NotAStep, NoNextState, ByteNowhere, StoresFull, WalksFull, NoFreeRecord, Schedule, LentLength, Group, Core, Addresses, AnswersLength, TextLength}

abbrev pub number : Refusal → ℕ
number Cores = 1
number Memory = 2
number TableLength = 3
number Unsound = 4
number NotAStep = 5
number NoNextState = 6
number ByteNowhere = 7
number StoresFull = 8
number WalksFull = 9
number NoFreeRecord = 10
number Schedule = 11
number LentLength = 12
number Group = 13
number Core = 14
number Addresses = 15
number AnswersLength = 16
number TextLength = 17
