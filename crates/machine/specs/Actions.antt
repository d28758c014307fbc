-- What a step is to do, what it answers, and what it makes of the tables and of memory.
-- Assumes nothing.
use Rattle.std.specs.Prelude.{List, ℕ, set, Result, Ok, Err}
use Rattle.word.specs.Word.{with_bit}
use Rattle.refusals.specs.declared.Refusal.{Refusal}
use Rattle.layout.specs.Layout.{lines}
use Rattle.tables.specs.Views.{cores_of, lines_of}
use Rattle.apic.specs.Active.{init_core, start_core}
use Rattle.ioapic.specs.Blocks.{on_block}
use Rattle.ioapic.specs.IoApic.{sampled}
use Rattle.ioapic.specs.Bus.{send_ipi, send_eoi, deliver}
use Rattle.steps.specs.declared.Answer.{Answer}
use Rattle.steps.specs.declared.Answer.TheVariants.{Done}
use Rattle.cores.specs.declared.Plan.{Plan}
use Rattle.cores.specs.Commit as cores
use Rattle.machine.specs.declared.action.Action.{Action}
use Rattle.machine.specs.declared.action.Action.TheVariants.{SendIpi, SendEoi, InitCore, StartCore, Sample, Deliver, SetLine}

-- what a step does that is not refused: a plan of a core, or an action of an APIC
pub data Effect : Type 0 where
  Planned : ℕ → Plan → Effect
  Acts : Action → Effect

abbrev pub answer_by : Effect → Answer
answer_by (Planned k p) = p.answer
answer_by (Acts a) = Done

abbrev pub answer_of : Result Effect Refusal → Result Answer Refusal
answer_of (Ok x) = Ok (answer_by x)
answer_of (Err r) = Err r

-- a line's level
abbrev pub line_set : List ℕ → ℕ → ℕ → List ℕ
line_set t l v = set t lines (with_bit (lines_of t) l v)

unfoldable pub tables_after : Effect → List ℕ → List ℕ
tables_after (Planned k p) t = cores.tables_by_plan k p t
tables_after (Acts (SendIpi k m)) t = send_ipi (cores_of t) k m t
tables_after (Acts (SendEoi k v)) t = send_eoi k v t
tables_after (Acts (InitCore k)) t = on_block init_core k t
tables_after (Acts (StartCore k)) t = on_block start_core k t
tables_after (Acts (Sample l)) t = sampled t l
tables_after (Acts (Deliver l)) t = deliver (cores_of t) l t
tables_after (Acts (SetLine l v)) t = line_set t l v

unfoldable pub memory_after : Effect → List ℕ → List ℕ
memory_after (Planned k p) m = cores.memory_by_plan p m
memory_after (Acts a) m = m
