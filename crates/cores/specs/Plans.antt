-- What a step of a core, of its TLB or of its store buffer does: a plan.
-- Assumes nothing.
use Rattle.std.specs.Prelude.{if◌then◌else◌, ℕ}
use Rattle.decode.specs.declared.Instruction.{Instruction}
use Rattle.decode.specs.Mnemonics.{eret}
use Rattle.isa.specs.Interrupts.{jisr, il}
use Rattle.steps.specs.declared.Answer.TheVariants.{Done, Interrupt}
use Rattle.cores.specs.declared.CoreChange.{CoreChange}
use Rattle.cores.specs.declared.CoreChange.TheVariants.{Return, Execute}
use Rattle.cores.specs.declared.BufferChange.{BufferChange}
use Rattle.cores.specs.declared.WalkChange.{WalkChange}
use Rattle.cores.specs.declared.Write.{Write}
use Rattle.cores.specs.declared.Plan.{Plan}

-- a step of the TLB or of the store buffer
abbrev pub done : BufferChange → WalkChange → Write → Plan
done b ws m = record { answer = Done; core = CoreChange.Nothing; buffer = b; walks = ws; write = m }

-- an interrupt at the word w, which has read R, by the masked causes; the lowest external event is k
abbrev pub interrupted : ℕ → ℕ → ℕ → ℕ → BufferChange → WalkChange → Write → Plan
interrupted w R ca k b ws m = record { answer = Interrupt (il ca); core = CoreChange.Interrupt (record { word = w; read = R; causes = ca; vector = k }); buffer = b; walks = ws; write = m }

abbrev pub changed : Instruction → ℕ → ℕ → CoreChange
changed i w R = if eret i then Return else Execute i w R

-- definition 22 at the instruction i: an interrupt, a return or the instruction, with what else it does
unfoldable pub finished : Instruction → ℕ → ℕ → ℕ → ℕ → BufferChange → WalkChange → Write → Plan
finished i w R ca k b ws m =
    if jisr ca then interrupted w R ca k b ws m
    else record { answer = Done; core = changed i w R; buffer = b; walks = ws; write = m }
