-- The step of the store buffer as a plan (11.3): the oldest store goes to a port or to memory.
-- Assumes nothing.
use Rattle.std.specs.Prelude.{if◌then◌else◌, List, ℕ, Option, Some, None, Result, Ok, Err}
use Rattle.refusals.specs.declared.Refusal.{Refusal}
use Rattle.refusals.specs.declared.Refusal.TheVariants.{NoNextState, ByteNowhere}
use Rattle.records.specs.declared.Store.{Store}
use Rattle.store_buffer.specs.declared.Place.{Place}
use Rattle.store_buffer.specs.declared.Place.TheVariants as to
use Rattle.store_buffer.specs.Leaving.{oldest, place_of}
use Rattle.ioapic.specs.IoApic.{writes}
use Rattle.cores.specs.declared.BufferChange.TheVariants.{Take}
use Rattle.cores.specs.declared.WalkChange.{WalkChange}
use Rattle.cores.specs.declared.Write.TheVariants.{Memory, LocalPort, IoPort}
use Rattle.cores.specs.declared.Plan.{Plan}
use Rattle.cores.specs.Plans.{done}

-- a byte or half has no place at a port, nor has a redirect entry of 24 or more
unfoldable pub leaves_to : Store → Place → Result Plan Refusal
leaves_to s (to.LocalPort a) = Ok (done Take WalkChange.Nothing (LocalPort a s.value))
leaves_to s (to.IoPort a) = if writes a s.value then Ok (done Take WalkChange.Nothing (IoPort a s.value)) else Err NoNextState
leaves_to s to.Narrow = Err NoNextState
leaves_to s to.Memory = Ok (done Take WalkChange.Nothing (Memory s.address s.width s.value))
leaves_to s to.Beyond = Err ByteNowhere

-- beside a memory of n bytes
unfoldable pub on_oldest : ℕ → Option Store → Result Plan Refusal
on_oldest n None = Err NoNextState
on_oldest n (Some s) = leaves_to s (place_of n s)

abbrev pub buffer_step : List Store → ℕ → Result Plan Refusal
buffer_step sb n = on_oldest n (oldest sb)
