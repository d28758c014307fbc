-- The walks that stay after the flushes of definition 20, as lists. It serves proofs alone: `flush_page_lem` and
-- `flush_incomplete_lem` of proofs/Flushes tie it to what records drop, and proofs/Flushed of the crate report to the
-- report's own δtlb on sets.
-- Assumes nothing.
use Rattle.std.specs.Prelude.{if◌then◌else◌, Bool, ◌&&◌, not, List, [], ◌∷◌, ℕ, eqb}
use Rattle.records.specs.declared.Walk.{Walk}
use Rattle.tlb.specs.Walks.{walk_va, walk_asid, complete}

unfoldable pub keep : (Walk → Bool) → List Walk → List Walk
keep p [] = []
keep p (w ∷ l) = if p w then w ∷ keep p l else keep p l

abbrev pub page_flushed : ℕ → ℕ → List Walk → List Walk
page_flushed asid va tlb = keep (λ w. not (eqb (walk_asid w) asid && eqb (walk_va w) va)) tlb

abbrev pub incomplete_flushed : List Walk → List Walk
incomplete_flushed tlb = keep complete tlb
