-- Refusal 7 (01, 'Step'): a byte to be read, written or put in the store buffer is in neither memory nor a port that
-- the report allows there.
-- Assumes nothing.
use Rattle.std.specs.Prelude.{Bool, false, not, ◌&&◌, ◌||◌, List, [], ◌∷◌, ℕ, ltb, Option, Some, None}
use Rattle.decode.specs.Mnemonics.{load, store, cas}
use Rattle.records.specs.declared.Store.{Store}
use Rattle.records.specs.declared.Walk.{Walk}
use Rattle.records.specs.Contents.{there}
use Rattle.tlb.specs.Walks.{complete, hit, ptea}
use Rattle.store_buffer.specs.Buffer.{sbhit}
use Rattle.steps.specs.declared.Step.{Step}
use Rattle.steps.specs.declared.Step.TheVariants.{ByProcessor, ByApic}
use Rattle.steps.specs.declared.ProcessorStep.TheVariants.{Core, TlbCreate, TlbExtend, TlbAccessed, StoreBuffer}
use Rattle.steps.specs.declared.ApicStep.TheVariants.{SendIpi, SendEoi, InitCore, StartCore, Sample, Deliver, SetLine}
use Rattle.report.specs.Configuration.{Configuration}
use Rattle.report.specs.Components.{inside}
use Rattle.report.specs.Delta.{by_table, uses_i, uses_r, trq_i, trq_ea, fetched, pma_i, pma_ea, d_i, does, sbᵢ}

-- beside a memory of n bytes: x is to be in memory, where no port will do; in memory or a port
abbrev pub no_byte : ℕ → Bool → ℕ → Bool
no_byte n needed x = needed && not (ltb x n)

abbrev pub no_place : ℕ → Bool → ℕ → Bool
no_place n needed x = needed && not (there n x)

-- a core step: the entries that decide pff and pfls, the instruction, and the bytes of a load, store or cas that takes
-- effect
unfoldable pub core_misses : Configuration → ℕ → Walk → Walk → ℕ → ℕ → Bool
core_misses c i w_i w_r n x =
    no_byte n (uses_i c i w_i w_r && not (complete w_i) && hit (trq_i c i w_i w_r) w_i && inside x (ptea w_i) 4) x
    || no_byte n (fetched c i w_i w_r && inside x (pma_i c i w_i w_r) 4) x
    || no_byte n (uses_r c i w_i w_r && not (complete w_r) && hit (trq_ea c i w_i w_r) w_r && inside x (ptea w_r) 4) x
    || no_place n (does c i w_i w_r by_table load && not (sbhit (sbᵢ c i) x) && inside x (pma_ea c i w_i w_r) (d_i c i w_i w_r)) x
    || no_place n (does c i w_i w_r by_table store && inside x (pma_ea c i w_i w_r) (d_i c i w_i w_r)) x
    || no_byte n (does c i w_i w_r by_table cas && inside x (pma_ea c i w_i w_r) 4) x

-- the oldest store
abbrev pub buffer_misses : List Store → ℕ → ℕ → Bool
buffer_misses [] n x = false
buffer_misses (s ∷ sb) n x = no_place n (inside x s.address s.width) x

-- the byte at x is needed, and is nowhere
unfoldable pub misses : Configuration → Option Step → ℕ → ℕ → Bool
misses c (Some (ByProcessor i (Core w_i w_r))) n x = core_misses c i w_i w_r n x
misses c (Some (ByProcessor i (TlbCreate va))) n x = false
misses c (Some (ByProcessor i (TlbExtend w))) n x = no_byte n (inside x (ptea w) 4) x
misses c (Some (ByProcessor i (TlbAccessed w))) n x = no_byte n (inside x (ptea w) 4) x
misses c (Some (ByProcessor i StoreBuffer)) n x = buffer_misses (sbᵢ c i) n x
misses c (Some (ByApic (SendIpi i))) n x = false
misses c (Some (ByApic (SendEoi i))) n x = false
misses c (Some (ByApic (InitCore i))) n x = false
misses c (Some (ByApic (StartCore i))) n x = false
misses c (Some (ByApic (Sample k))) n x = false
misses c (Some (ByApic (Deliver k))) n x = false
misses c (Some (ByApic (SetLine k level))) n x = false
misses c None n x = false
