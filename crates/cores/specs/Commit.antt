-- What a plan does to a core's block, to the tables and to memory.
-- Assumes nothing.
use Rattle.std.specs.Prelude.{List, ℕ}
use Rattle.word.specs.Bytes.{put}
use Rattle.layout.specs.Blocks.{block, with_block}
use Rattle.isa.specs.Core.{effect}
use Rattle.isa.specs.Interrupts.{delta_jisr, delta_rfe}
use Rattle.records.specs.Records.{put_store, take_store, add_walk, drop_walks}
use Rattle.tables.specs.Views.{registers_of, with_registers}
use Rattle.apic.specs.LocalApic as apic
use Rattle.ioapic.specs.IoApic as ioapic
use Rattle.cores.specs.declared.CoreChange.{CoreChange}
use Rattle.cores.specs.declared.CoreChange.TheVariants.{Interrupt, Return, Execute}
use Rattle.cores.specs.declared.BufferChange.{BufferChange}
use Rattle.cores.specs.declared.BufferChange.TheVariants.{Put, Take}
use Rattle.cores.specs.declared.WalkChange.{WalkChange}
use Rattle.cores.specs.declared.WalkChange.TheVariants.{Add, Drop}
use Rattle.cores.specs.declared.Write.{Write}
use Rattle.cores.specs.declared.Write.TheVariants.{Memory, LocalPort, IoPort}
use Rattle.cores.specs.declared.Plan.{Plan}

-- ---- the block

-- an interrupt and a return are also signals to the local APIC
unfoldable pub core_after : CoreChange → List ℕ → List ℕ
core_after CoreChange.Nothing b = b
core_after (Interrupt x) b = apic.on_jisr (with_registers b (delta_jisr (registers_of b) x.word x.read x.causes x.vector))
core_after Return b = apic.on_rfe (with_registers b (delta_rfe (registers_of b)))
core_after (Execute i w R) b = with_registers b (effect i (registers_of b) w R)

unfoldable pub buffer_after : BufferChange → List ℕ → List ℕ
buffer_after BufferChange.Nothing b = b
buffer_after (Put s) b = put_store b s
buffer_after Take b = take_store b

unfoldable pub walks_after : WalkChange → List ℕ → List ℕ
walks_after WalkChange.Nothing b = b
walks_after (Add w) b = add_walk b w
walks_after (Drop f) b = drop_walks f b

unfoldable pub port_after : Write → List ℕ → List ℕ
port_after Write.Nothing b = b
port_after (Memory a d v) b = b
port_after (LocalPort a v) b = apic.port_written b a v
port_after (IoPort a v) b = b

unfoldable pub block_after : Plan → List ℕ → List ℕ
block_after p b = port_after p.write (walks_after p.walks (buffer_after p.buffer (core_after p.core b)))

-- ---- the tables and memory

unfoldable pub header_after : Write → List ℕ → List ℕ
header_after Write.Nothing t = t
header_after (Memory a d v) t = t
header_after (LocalPort a v) t = t
header_after (IoPort a v) t = ioapic.io_written t a v

-- a plan of core k
unfoldable pub tables_by_plan : ℕ → Plan → List ℕ → List ℕ
tables_by_plan k p t = header_after p.write (with_block t k (block_after p (block t k)))

unfoldable pub written_to : Write → List ℕ → List ℕ
written_to Write.Nothing m = m
written_to (Memory a d v) m = put d m a v
written_to (LocalPort a v) m = m
written_to (IoPort a v) m = m

abbrev pub memory_by_plan : Plan → List ℕ → List ℕ
memory_by_plan p m = written_to p.write m
