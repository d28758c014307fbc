-- The numbers of refusals are small.
-- Assumes nothing.
use Prim.Native.Nat.{◌≤◌}
use native.Mathlib.Omega.{arith}
use Rattle.refusals.specs.declared.Refusal.{Refusal}
use Rattle.refusals.specs.declared.Refusal.TheVariants.{Cores, Memory, TableLength, Unsound, NotAStep, NoNextState, ByteNowhere, StoresFull, WalksFull, NoFreeRecord, Schedule, LentLength, Group, Core, Addresses, AnswersLength, TextLength}
use Rattle.refusals.specs.Numbers.{number}

pub number_small : (r : Refusal) → number r ≤ 17
number_small Cores = omega arith
number_small Memory = omega arith
number_small TableLength = omega arith
number_small Unsound = omega arith
number_small NotAStep = omega arith
number_small NoNextState = omega arith
number_small ByteNowhere = omega arith
number_small StoresFull = omega arith
number_small WalksFull = omega arith
number_small NoFreeRecord = omega arith
number_small Schedule = omega arith
number_small LentLength = omega arith
number_small Group = omega arith
number_small Core = omega arith
number_small Addresses = omega arith
number_small AnswersLength = omega arith
number_small TextLength = omega arith
