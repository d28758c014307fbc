-- What the functions of this crate ask: a core's step of its block and memory, and a plan of a place in the block's
-- records, of a port and of bytes in memory. It serves contracts inside alone: `core_plan_lem` of proofs/Executions and
-- `create_plan`, `extend_plan`, `accessed_plan` and `drain_plan` of proofs/Decisions say that every plan that is
-- decided may be done.
-- Assumes nothing.
use Rattle.std.specs.Prelude.{◌≡◌, Bool, true, ◌&&◌, ◌||◌, List, ℕ, ◌+◌, ◌%◌, leb, ltb, length}
use Rattle.records.specs.Records.{stores, walks, among}
use Rattle.records.specs.Contents.{sound_records}
use Rattle.store_buffer.specs.System.{sized}
use Rattle.ioapic.specs.IoApic as ioapic
use Rattle.cores.specs.declared.BufferChange.{BufferChange}
use Rattle.cores.specs.declared.BufferChange.TheVariants.{Put, Take}
use Rattle.cores.specs.declared.WalkChange.{WalkChange}
use Rattle.cores.specs.declared.WalkChange.TheVariants.{Add, Drop}
use Rattle.cores.specs.declared.Write.{Write}
use Rattle.cores.specs.declared.Write.TheVariants.{Memory, LocalPort, IoPort}
use Rattle.cores.specs.declared.Plan.{Plan}

-- what a core's step asks of its block b and of the memory m: 256 words, sound records, and whole words of memory
pub record SoundBeside (b m : List ℕ) : Type 0 where
  pub long : length b ≡ 256
  pub records : sound_records (length m) b ≡ true
  pub whole : length m % 4 ≡ 0

unfoldable pub buffer_ready : BufferChange → List ℕ → Bool
buffer_ready BufferChange.Nothing b = true
buffer_ready (Put s) b = ltb (length (stores b)) 8
buffer_ready Take b = ltb 0 (length (stores b))

unfoldable pub walks_ready : WalkChange → List ℕ → Bool
walks_ready WalkChange.Nothing b = true
walks_ready (Add w) b = among w (walks b) || ltb (length (walks b)) 23
walks_ready (Drop f) b = true

unfoldable pub port_ready : Write → Bool
port_ready Write.Nothing = true
port_ready (Memory a d v) = true
port_ready (LocalPort a v) = ltb a 128
port_ready (IoPort a v) = true

unfoldable pub ready : Plan → List ℕ → Bool
ready p b = buffer_ready p.buffer b && (walks_ready p.walks b && port_ready p.write)

unfoldable pub fits : Write → ℕ → Bool
fits Write.Nothing n = true
fits (Memory a d v) n = sized d && leb (a + d) n
fits (LocalPort a v) n = true
fits (IoPort a v) n = ioapic.writes a v
