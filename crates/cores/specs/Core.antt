-- A step of a core (11.3, a = (core, w_i, w_r, i)), on what its block, the I/O APIC's ports and memory show.
-- Assumes nothing.
use Rattle.std.specs.Prelude.{if◌then◌else◌, Bool, true, false, not, ◌&&◌, ◌||◌, List, [], ◌∷◌, ℕ, ◌+◌, ◌*◌, ◌%◌, ◌^◌, eqb, leb, length, get_or, Option, Some, None, is_some, unwrap_or, Result, Ok, Err}
use Rattle.refusals.specs.declared.Refusal.{Refusal}
use Rattle.refusals.specs.declared.Refusal.TheVariants.{NoNextState, ByteNowhere, StoresFull, NoFreeRecord}
use Rattle.layout.specs.Layout as layout
use Rattle.decode.specs.declared.Instruction.{Instruction}
use Rattle.decode.specs.Fields.{rs, rd, rt}
use Rattle.decode.specs.Table.{decoded}
use Rattle.decode.specs.Mnemonics.{load, store, cas, mfence, flush, invlpg}
use Rattle.isa.specs.declared.registers.Registers.{Registers}
use Rattle.isa.specs.Core.{gpr_at, ea, d, sv}
use Rattle.isa.specs.Interrupts.{user, asid, events_as, events_without, causes_of, jisr, il, continues}
use Rattle.records.specs.declared.Walk.{Walk}
use Rattle.records.specs.declared.Store.{Store}
use Rattle.records.specs.declared.Flush.TheVariants.{All, Page, Incomplete}
use Rattle.records.specs.Records.{among, stores, walks}
use Rattle.records.specs.Contents.{all_there}
use Rattle.tlb.specs.declared.Request.{Request}
use Rattle.tlb.specs.declared.Faulting.{Faulting}
use Rattle.tlb.specs.declared.Faulting.TheVariants.{Faults, Passes, Undecided}
use Rattle.tlb.specs.Walks.{walk_ba, complete, hit, fault, fetch_r, load_r, store_r, base_address, page_key}
use Rattle.tables.specs.Views.{registers_of, runs, ioregsel_of, iowin_of, port_words_of}
use Rattle.store_buffer.specs.declared.Loaded.{Loaded}
use Rattle.store_buffer.specs.declared.LoadError.{LoadError}
use Rattle.store_buffer.specs.Buffer.{sbhazard}
use Rattle.store_buffer.specs.System.{Ports, is_port, memory_byte, reads, loaded}
use Rattle.apic.specs.LocalApic.{event}
use Rattle.cores.specs.declared.IoPorts.{IoPorts}
use Rattle.cores.specs.declared.BufferChange.{BufferChange}
use Rattle.cores.specs.declared.BufferChange.TheVariants.{Put}
use Rattle.cores.specs.declared.WalkChange.{WalkChange}
use Rattle.cores.specs.declared.WalkChange.TheVariants.{Drop}
use Rattle.cores.specs.declared.Write.{Write}
use Rattle.cores.specs.declared.Write.TheVariants.{Memory}
use Rattle.cores.specs.declared.Plan.{Plan}
use Rattle.cores.specs.Guards.{Guard, undecided, test, Judged, yield, ask, settle}
use Rattle.cores.specs.Plans.{interrupted, finished}

-- what a core shows: its registers, whether it runs, pending stores, walks, whether a record is free, external event,
-- and the port words of its local APIC
pub record View : Type 0 where
  pub core : Registers
  pub running : Bool
  pub sb : List Store
  pub tlb : List Walk
  pub free : Bool
  pub eev : Option ℕ
  pub apic : List ℕ

abbrev pub is_free : List ℕ → Bool
is_free b = not (eqb (get_or b layout.free_head 0) 0)

-- of a block
abbrev pub view_of : List ℕ → View
view_of b =
    record {
      core = registers_of b;
      running = runs b;
      sb = stores b;
      tlb = walks b;
      free = is_free b;
      eev = event b;
      apic = port_words_of b;
    }

-- the I/O APIC's port words in the tables
abbrev pub io_ports_of : List ℕ → IoPorts
io_ports_of t = record { select = ioregsel_of t; window = iowin_of t }

-- the port words that a core sees
abbrev pub ports_beside : View → IoPorts → Ports
ports_beside v io = record { apic = v.apic; select = io.select; window = io.window }

-- ∨ eev[i], and min { j | eev[j] = 1 }
abbrev pub is_event : Option ℕ → Bool
is_event e = is_some e

abbrev pub vector_of : Option ℕ → ℕ
vector_of e = unwrap_or e 0

-- ---- causes

-- of the instruction i with its word w; pfls is a page fault of its load or store
abbrev pub causes : View → Instruction → ℕ → Bool → ℕ
causes v i w pfls = causes_of v.core (events_as i v.core w (is_event v.eev) pfls)

-- where there is no instruction
abbrev pub causes_without : View → Bool → Bool → ℕ
causes_without v mal pff = causes_of v.core (events_without (is_event v.eev) mal pff)

-- an interrupt that is not of continue type suppresses all effects of the instruction
abbrev pub suppressed : ℕ → Bool
suppressed ca = jisr ca && not (continues (il ca))

-- such an interrupt at the word w, and the walks that go
abbrev pub stopped : View → ℕ → ℕ → WalkChange → Plan
stopped v w ca ws = interrupted w 0 ca (vector_of v.eev) BufferChange.Nothing ws Write.Nothing

-- ---- translation

-- the walks of a faulting page go
abbrev pub faulted : Registers → ℕ → WalkChange
faulted c a = Drop (Page (page_key (base_address a) (asid c)))

-- in user mode the walk is held and matches the request
abbrev pub walk_guard : View → Request → Walk → Guard
walk_guard v trq w = test (not (user v.core) || (among w v.tlb && hit trq w))

abbrev pub fault_of : View → List ℕ → Request → Walk → Faulting
fault_of v m trq w = if user v.core then fault m trq w else Passes

abbrev pub complete_guard : View → Walk → Guard
complete_guard v w = test (not (user v.core) || complete w)

-- pma_i and pma_ea
abbrev pub physical : View → Walk → ℕ → ℕ
physical v w a = if user v.core then walk_ba w * 2 ^ 12 + a % 2 ^ 12 else a

-- ---- the effect of an instruction i with its word w and masked causes ca that do not suppress it

abbrev pub on_load : View → Instruction → ℕ → ℕ → Result Loaded LoadError → Result Plan Refusal
on_load v i w ca (Ok l) = Ok (finished i w l.value ca (vector_of v.eev) BufferChange.Nothing WalkChange.Nothing Write.Nothing)
on_load v i w ca (Err LoadError.Nowhere) = Err ByteNowhere
on_load v i w ca (Err LoadError.Hazard) = Err NoNextState

-- at most eight stores are pending
abbrev pub on_store : View → Instruction → ℕ → ℕ → Store → Bool → Result Plan Refusal
on_store v i w ca s there =
    if not there then Err ByteNowhere
    else if leb 8 (length v.sb) then Err StoresFull
    else if not v.free then Err NoFreeRecord
    else Ok (finished i w 0 ca (vector_of v.eev) (Put s) WalkChange.Nothing Write.Nothing)

-- definition 5, the access with a compare value: rd receives the old word; rt is written where rd was equal to it
abbrev pub exchanged : Registers → ℕ → ℕ → ℕ → Write
exchanged c w x a = if eqb x (gpr_at c (rd w)) then Memory a 4 (gpr_at c (rt w)) else Write.Nothing

abbrev pub on_cas : View → Instruction → ℕ → ℕ → ℕ → Option ℕ → Result Plan Refusal
on_cas v i w ca a (Some x) = Ok (finished i w x ca (vector_of v.eev) BufferChange.Nothing WalkChange.Nothing (exchanged v.core w x a))
on_cas v i w ca a None = Err ByteNowhere

-- what a store puts into the buffer
abbrev pub stored_from : Registers → Instruction → ℕ → ℕ → Store
stored_from c i w a = record { address = a; value = sv i c w; width = d i }

-- a load, store or cas at the physical address a
unfoldable pub performed : View → IoPorts → List ℕ → Instruction → ℕ → ℕ → ℕ → Result Plan Refusal
performed v io m i w ca a =
    if load i then on_load v i w ca (loaded v.sb (ports_beside v io) m a (d i))
    else if store i then on_store v i w ca (stored_from v.core i w a) (all_there (d i) (length m) a)
    else on_cas v i w ca a (reads 4 (memory_byte m) a)

-- the walks that flush and invlpg drop
abbrev pub dropped_by : Registers → Instruction → ℕ → WalkChange
dropped_by c i w =
    if flush i then Drop All
    else if invlpg i then Drop (Incomplete (page_key (base_address (gpr_at c (rd w))) (gpr_at c (rs w) % 2 ^ 6)))
    else WalkChange.Nothing

-- any other instruction
abbrev pub plain : View → Instruction → ℕ → ℕ → Plan
plain v i w ca = finished i w 0 ca (vector_of v.eev) BufferChange.Nothing (dropped_by v.core i w) Write.Nothing

abbrev pub unless_suppressed : View → ℕ → ℕ → Result Plan Refusal → Result Plan Refusal
unless_suppressed v w ca p = if suppressed ca then Ok (stopped v w ca WalkChange.Nothing) else p

abbrev pub without_access : View → Instruction → ℕ → Result Plan Refusal
without_access v i w = let ca : ℕ = causes v i w false in unless_suppressed v w ca (Ok (plain v i w ca))

-- ---- the guards of an instruction

abbrev pub is_access : Instruction → Bool
is_access i = load i || (store i || cas i)

-- cas and mfence ask for an empty buffer
abbrev pub finds_buffer : List Store → Instruction → Bool
finds_buffer sb i = not (cas i || mfence i) || eqb (length sb) 0

abbrev pub data_request_of : Registers → Instruction → ℕ → Request
data_request_of c i w = record { asid = asid c; va = ea i c w; r = if store i || cas i then store_r else load_r }

-- no cas, byte or half at a port
abbrev pub avoids_ports : Instruction → Bool
avoids_ports i = cas i || not (eqb (d i) 4)

-- no load with a hazard
abbrev pub has_hazard : List Store → Instruction → ℕ → Bool
has_hazard sb i a = load i && sbhazard sb a (d i)

-- without a fault, at the physical address a
unfoldable pub on_address : View → IoPorts → List ℕ → Instruction → ℕ → ℕ → Judged (Result Plan Refusal)
on_address v io m i w a =
    let ca : ℕ = causes v i w false in
    ask (test (not (avoids_ports i && is_port a)) ∷ test (not (has_hazard v.sb i a)) ∷ []) (yield (unless_suppressed v w ca (performed v io m i w ca a)))

unfoldable pub on_data : View → IoPorts → List ℕ → Walk → Instruction → ℕ → Faulting → Judged (Result Plan Refusal)
on_data v io m w_r i w Passes = ask (complete_guard v w_r ∷ []) (on_address v io m i w (physical v w_r (ea i v.core w)))
on_data v io m w_r i w Faults = yield (Ok (stopped v w (causes v i w true) (faulted v.core (ea i v.core w))))
on_data v io m w_r i w Undecided = ask (undecided ∷ []) (yield (Err ByteNowhere))

-- a load, store or cas by the data walk
unfoldable pub on_access : View → IoPorts → List ℕ → Walk → Instruction → ℕ → Judged (Result Plan Refusal)
on_access v io m w_r i w = ask (walk_guard v (data_request_of v.core i w) w_r ∷ []) (on_data v io m w_r i w (fault_of v m (data_request_of v.core i w) w_r))

unfoldable pub on_instruction : View → IoPorts → List ℕ → Walk → Instruction → ℕ → Judged (Result Plan Refusal)
on_instruction v io m w_r i w =
    ask (test (finds_buffer v.sb i) ∷ []) (if is_access i then on_access v io m w_r i w else yield (without_access v i w))

-- ---- the fetch

abbrev pub fetch_request_of : Registers → Request
fetch_request_of c = record { asid = asid c; va = c.pc; r = fetch_r }

unfoldable pub on_word : View → IoPorts → List ℕ → Walk → Option ℕ → Judged (Result Plan Refusal)
on_word v io m w_r (Some w) = on_instruction v io m w_r (decoded w) w
on_word v io m w_r None = ask (undecided ∷ []) (yield (Err ByteNowhere))

-- instructions are read from memory alone, and never at a port
unfoldable pub on_fetch_address : View → IoPorts → List ℕ → Walk → ℕ → Judged (Result Plan Refusal)
on_fetch_address v io m w_r a = ask (test (not (is_port a)) ∷ []) (on_word v io m w_r (reads 4 (memory_byte m) a))

unfoldable pub on_fetch : View → IoPorts → List ℕ → Walk → Walk → Faulting → Judged (Result Plan Refusal)
on_fetch v io m w_i w_r Passes = ask (complete_guard v w_i ∷ []) (on_fetch_address v io m w_r (physical v w_i v.core.pc))
on_fetch v io m w_i w_r Faults = yield (Ok (stopped v 0 (causes_without v false true) (faulted v.core v.core.pc)))
on_fetch v io m w_i w_r Undecided = ask (undecided ∷ []) (yield (Err ByteNowhere))

-- a fetch by the fetch walk
unfoldable pub fetch : View → IoPorts → List ℕ → Walk → Walk → Judged (Result Plan Refusal)
fetch v io m w_i w_r = ask (walk_guard v (fetch_request_of v.core) w_i ∷ []) (on_fetch v io m w_i w_r (fault_of v m (fetch_request_of v.core) w_i))

-- a pc that is not divisible by four gives no fetch
unfoldable pub judged : View → IoPorts → List ℕ → Walk → Walk → Judged (Result Plan Refusal)
judged v io m w_i w_r =
    ask (test v.running ∷ [])
    (if eqb (v.core.pc % 4) 0 then fetch v io m w_i w_r
    else yield (Ok (stopped v 0 (causes_without v true false) WalkChange.Nothing)))

unfoldable pub core_plan : View → IoPorts → List ℕ → Walk → Walk → Result Plan Refusal
core_plan v io m w_i w_r = settle (judged v io m w_i w_r)
