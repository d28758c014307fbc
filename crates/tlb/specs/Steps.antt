-- What the TLB's own steps decide (the report, 11.3: tlb-create, tlb-extend, tlb-set-accessed). A guard that is decided
-- and fails is refusal 6; where none fails and the entry that one needs is not in memory, 7.
-- Assumes nothing.
use Rattle.std.specs.Prelude.{if◌then◌else◌, Bool, ◌&&◌, not, List, ℕ, ◌+◌, get_or, eqb, Result, Ok, Err, Option, Some, None}
use Rattle.refusals.specs.declared.Refusal.{Refusal}
use Rattle.refusals.specs.declared.Refusal.TheVariants.{NoNextState, ByteNowhere}
use Rattle.layout.specs.Layout.{spr, pto}
use Rattle.records.specs.declared.Walk.{Walk}
use Rattle.records.specs.Records.{among, walks}
use Rattle.tables.specs.Views.{runs, user_mode, asid_of}
use Rattle.tlb.specs.declared.Change.{Change}
use Rattle.tlb.specs.declared.Change.TheVariants.{Adds, Marks}
use Rattle.tlb.specs.Walks.{walk_asid, base_address, pte_a, pte_p, ptea, pte, winit, wext, wext_fault, complete, set_d}

-- ---- a core's block

-- the page table origin's page
abbrev pub origin_of : List ℕ → ℕ
origin_of b = base_address (get_or b (spr + pto) 0)

-- ---- decisions

-- tlb-create: in user mode, while the core runs
unfoldable pub tlb_create : Bool → Bool → ℕ → ℕ → ℕ → Result Change Refusal
tlb_create user run origin a va = if user && run then Ok (Adds (winit va origin a)) else Err NoNextState

-- w ∈ tlb, incomplete, and of the current address space
unfoldable pub extendable : ℕ → List Walk → Walk → Bool
extendable a tlb w = among w tlb && (not (complete w) && eqb (walk_asid w) a)

-- tlb-extend: the accessed bit is set, and extension with rights 000 does not fault
unfoldable pub on_extend : Walk → Option ℕ → Result Change Refusal
on_extend w (Some e) = if pte_a e && not (wext_fault e 0b000) then Ok (Adds (wext w e)) else Err NoNextState
on_extend w None = Err ByteNowhere

unfoldable pub tlb_extend : Bool → ℕ → List Walk → Walk → Option ℕ → Result Change Refusal
tlb_extend run a tlb w e = if run && extendable a tlb w then on_extend w e else Err NoNextState

-- tlb-accessed: the entry is present
unfoldable pub on_accessed : Walk → Option ℕ → Result Change Refusal
on_accessed w (Some e) = if pte_p e then Ok (Marks (ptea w) (set_d e)) else Err NoNextState
on_accessed w None = Err ByteNowhere

unfoldable pub tlb_accessed : Bool → ℕ → List Walk → Walk → Option ℕ → Result Change Refusal
tlb_accessed user a tlb w e = if user && extendable a tlb w then on_accessed w e else Err NoNextState

-- ---- the decisions on a block and a memory

abbrev pub create_on : List ℕ → ℕ → Result Change Refusal
create_on b va = tlb_create (user_mode b) (runs b) (origin_of b) (asid_of b) va

abbrev pub extend_on : List ℕ → List ℕ → Walk → Result Change Refusal
extend_on b m w = tlb_extend (runs b) (asid_of b) (walks b) w (pte m w)

abbrev pub accessed_on : List ℕ → List ℕ → Walk → Result Change Refusal
accessed_on b m w = tlb_accessed (user_mode b) (asid_of b) (walks b) w (pte m w)
