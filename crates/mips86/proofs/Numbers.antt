-- The numbers of what the operations answer fit a word, and 1 is that of a yes.
-- Assumes nothing.
use Rattle.std.specs.Prelude.{if◌then◌else◌}
use mathlib.Core.Path.{◌≡◌, refl}
use mathlib.Core.Bool.{Bool, true, false}
use mathlib.Core.List.{List}
use Prim.Native.Nat.{ℕ, ◌+◌, ◌^◌, ◌<◌}
use native.Mathlib.Omega.{arith}
use lib.Dec.{eqb, ltb}
use lib.ListN.{length}
use borrow.Author.Tests.{ltb-true}
use Rattle.std.specs.Prelude.{Result, Ok, Err}
use Rattle.refusals.specs.declared.Refusal.{Refusal}
use Rattle.refusals.specs.declared.Refusal.TheVariants.{Unsound}
use Rattle.refusals.specs.Numbers.{number}
use Rattle.refusals.proofs.Bounds.{number_small}
use Rattle.tables.specs.Sound.{sound}
use Rattle.steps.specs.declared.Answer.{Answer}
use Rattle.steps.specs.declared.Answer.TheVariants.{Done, Interrupt}
use Rattle.steps.specs.Answers.{answer_number}
use Rattle.machine.specs.declared.run.Stop.{Stop}
use Rattle.machine.specs.declared.run.Stop.TheVariants as stop
use Rattle.machine.specs.Step.{taken, step}
use Rattle.machine.specs.Run.{stop_number, run}
use Rattle.machine.proofs.Levels.{known}
use Rattle.machine.proofs.Answers.{taken_known}
use Rattle.reach.specs.declared.Extent.{Extent}
use Rattle.reach.specs.Reach.{reach_on, reached_number}
use Rattle.separation.specs.Apart.{apart_on, verdict_number}
use Rattle.translate.specs.Translate.{translate_on, translated_number}
use Rattle.disassemble.specs.Disassembly.{disassemble_on, disassembled_number}
use Rattle.disassemble.proofs.Rows.{text_fits}

-- ---- a step: 0, 1 to 8, or 100 and the number of a refusal

known_fits : (x : Result Answer Refusal) → known x ≡ true → answer_number x < 2 ^ 32
unfolding known
known_fits (Ok Done) e = omega arith
known_fits (Ok (Interrupt level)) e = omega (arith, ltb-true level 8 e)
known_fits (Err r) e = omega (arith, number_small r)

pub answer_fits : (t m s : List ℕ) → answer_number (step t m s).answer < 2 ^ 32
unfolding step
answer_fits t m s = go (sound t (length m))
  where
    go : (b : Bool) → answer_number (if b then taken t m s else record { answer = Err Unsound; tables = t; memory = m }).answer < 2 ^ 32
    go true = known_fits (taken t m s).answer (taken_known t m s)
    go false = omega arith

-- ---- the others, whatever they answer

stop_small : (w : Stop) → stop_number w < 2 ^ 32
stop_small stop.End = omega arith
stop_small stop.Limit = omega arith
stop_small (stop.Refused r) = omega (arith, number_small r)

reached_small : (a : Result Extent Refusal) → reached_number a < 2 ^ 32
reached_small (Ok x) = omega arith
reached_small (Err r) = omega (arith, number_small r)

verdict_small : (a : Result Bool Refusal) → verdict_number a < 2 ^ 32
verdict_small (Ok true) = omega arith
verdict_small (Ok false) = omega arith
verdict_small (Err r) = omega (arith, number_small r)

translated_small : (a : Result ℕ Refusal) → translated_number a < 2 ^ 32
translated_small (Ok n) = omega arith
translated_small (Err r) = omega (arith, number_small r)

pub stop_fits : (t m s : List ℕ) (limit : ℕ) → stop_number (run t m s limit).why < 2 ^ 32
stop_fits t m s limit = stop_small (run t m s limit).why

pub reached_fits : (g : ℕ) (t m r : List ℕ) → reached_number (reach_on g t m r).answer < 2 ^ 32
reached_fits g t m r = reached_small (reach_on g t m r).answer

pub verdict_fits : (g : ℕ) (t m : List ℕ) → verdict_number (apart_on g t m) < 2 ^ 32
verdict_fits g t m = verdict_small (apart_on g t m)

pub translated_fits : (k : ℕ) (l t m r : List ℕ) → translated_number (translate_on k l t m r).answer < 2 ^ 32
translated_fits k l t m r = translated_small (translate_on k l t m r).answer

pub disassembled_fits : (w : ℕ) (b : List ℕ) → disassembled_number (disassemble_on w b).answer < 2 ^ 32
unfolding disassemble_on
disassembled_fits w b = go (eqb (length b) 32) refl
  where
    go : (e : Bool) → eqb (length b) 32 ≡ e → disassembled_number (disassemble_on w b).answer < 2 ^ 32
    go true p = rw p (omega (arith, text_fits w))
    go false p = rw p (omega arith)

-- ---- 1 is the number of a yes

pub yes_number : (v : Result Bool Refusal) → verdict_number v ≡ 1 → v ≡ Ok true
yes_number (Ok false) e = absurd (omega arith)
yes_number (Ok true) e = refl
yes_number (Err r) e = absurd (omega arith)
