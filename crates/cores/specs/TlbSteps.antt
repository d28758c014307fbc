-- The TLB's own steps as plans (11.3: tlb-create, tlb-extend, tlb-set-accessed).
-- Assumes nothing.
use Rattle.std.specs.Prelude.{if◌then◌else◌, Bool, not, ◌&&◌, List, leb, length, Result, Ok, Err}
use Rattle.refusals.specs.declared.Refusal.{Refusal}
use Rattle.refusals.specs.declared.Refusal.TheVariants.{WalksFull, NoFreeRecord}
use Rattle.records.specs.declared.Walk.{Walk}
use Rattle.records.specs.Records.{among}
use Rattle.tlb.specs.declared.Change.{Change}
use Rattle.tlb.specs.declared.Change.TheVariants.{Adds, Marks}
use Rattle.cores.specs.declared.BufferChange.{BufferChange}
use Rattle.cores.specs.declared.WalkChange.{WalkChange}
use Rattle.cores.specs.declared.WalkChange.TheVariants.{Add}
use Rattle.cores.specs.declared.Write.{Write}
use Rattle.cores.specs.declared.Write.TheVariants.{Memory}
use Rattle.cores.specs.declared.Plan.{Plan}
use Rattle.cores.specs.Plans.{done}

-- at most 23 walks are held; one that is held already needs no record
unfoldable pub adding : List Walk → Bool → Walk → Result Plan Refusal
adding tlb free w =
    if not (among w tlb) && leb 23 (length tlb) then Err WalksFull
    else if not (among w tlb) && not free then Err NoFreeRecord
    else Ok (done BufferChange.Nothing (Add w) Write.Nothing)

-- what was decided on walks tlb; free says whether there is a free record
unfoldable pub planned : List Walk → Bool → Result Change Refusal → Result Plan Refusal
planned tlb free (Err r) = Err r
planned tlb free (Ok (Adds w)) = adding tlb free w
planned tlb free (Ok (Marks a e)) = Ok (done BufferChange.Nothing WalkChange.Nothing (Memory a 4 e))
