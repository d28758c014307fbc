-- The operation Make (01, 'Make a machine'; the report, 12.1).
-- Assumes nothing.
use Rattle.std.specs.Prelude.{ℕ, zero, suc, ◌*◌, ◌/◌, ◌%◌, ◌^◌, Bool, true, false, ◌&&◌, List, [], ◌∷◌, ◌++◌, set, replicate, eqb, Option, Some, None}
use Rattle.layout.specs.Layout as at
use Rattle.refusals.specs.declared.Refusal.{Refusal}
use Rattle.refusals.specs.Numbers.{number}
use Rattle.tables.specs.Sound.{up_to}

-- 12.1, second clause: only core 0, the boot-strap processor, is running
abbrev pub made_running : ℕ → ℕ
made_running zero = 1
made_running (suc k) = 0

-- records 1 to r each name the next one
unfoldable pub chained : ℕ → List ℕ → List ℕ
chained zero b = b
chained (suc r) b = set (chained r b) (at.record_at (suc r)) (suc (suc r))

-- core k's block: zero but for running, the APIC's ID in port byte 3, and all 31 records free in rising order. So by
-- 12.1: pc 0, system mode, no pending store, no walk, IRR, ISR and ICR zero, and the ID.
unfoldable pub made_block : ℕ → List ℕ
made_block k =
    chained 30 (set (set (set (replicate at.block_words 0) at.running (made_running k)) at.free_head 1) at.ports (k * 2 ^ 24))

unfoldable pub made_blocks : ℕ → List ℕ
made_blocks zero = []
made_blocks (suc k) = made_blocks k ++ made_block k

-- tables of n cores and p pages; the I/O APIC's words are zero, so that by 12.1 no redirect entry has an interrupt to
-- deliver
unfoldable pub made : ℕ → ℕ → List ℕ
made n p = n ∷ p ∷ replicate 30 0 ++ made_blocks n

-- 1 to 4,096 whole pages
abbrev pub whole_pages : ℕ → Bool
whole_pages m = eqb (m % at.page_bytes) 0 && up_to at.most_pages (m / at.page_bytes)

-- the refusal for a number of cores, a memory of m bytes and tables of l words, none where the machine is made: the
-- first that applies of cores not 1 to 4; memory not 1 to 4,096 whole pages; table length not that of the cores
unfoldable pub refusal : ℕ → ℕ → ℕ → Option Refusal
refusal n m l =
    elim (up_to at.most_cores n) [
      | false ↦ Some Refusal.Cores
      | true ↦ elim (whole_pages m) [ false ↦ Some Refusal.Memory | true ↦ elim (eqb l (at.table_words n)) [ false ↦ Some Refusal.TableLength | true ↦ None ] ]
    ]

-- the tables after it: a refusal writes nothing
abbrev pub made_or : Option Refusal → ℕ → ℕ → List ℕ → List ℕ
made_or None n m t = made n (m / at.page_bytes)
made_or (Some r) n m t = t

-- 01's number for each answer, 0 where the machine is made
abbrev pub number_of : Option Refusal → ℕ
number_of None = 0
number_of (Some r) = number r
