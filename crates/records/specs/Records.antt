-- The records of a core's block: chains of record numbers and what they hold (01, 'The machine in lent memory').
-- Assumes nothing.
use Rattle.std.specs.Prelude.{ℕ, zero, suc, ◌+◌, ◌/◌, ◌%◌, Bool, true, false, ◌&&◌, ◌||◌, not, List, [], ◌∷◌, ◌++◌, map, length, get_or, set, eqb, ltb, leb}
use Rattle.word.specs.Word.{flag}
use Rattle.layout.specs.Layout.{record_at, store_head, walk_head, free_head}
use Rattle.records.specs.declared.Store.{Store}
use Rattle.records.specs.declared.Walk.{Walk}
use Rattle.records.specs.declared.Flush.{Flush}
use Rattle.records.specs.declared.Flush.TheVariants.{All, Page, Incomplete}

-- ---- chains

-- the record numbers along the links from n: at most `fuel` of them, and zero ends the chain
unfoldable pub chain : ℕ → List ℕ → ℕ → List ℕ
chain zero b n = []
chain (suc fuel) b zero = []
chain (suc fuel) b (suc m) = suc m ∷ chain fuel b (get_or b (record_at (suc m)) 0)

-- the chain whose head stands in a word; a chain has at most 31 records, so 32 visits repeat one
abbrev pub chain_at : List ℕ → ℕ → List ℕ
chain_at b h = chain 32 b (get_or b h 0)

abbrev pub store_numbers : List ℕ → List ℕ
store_numbers b = chain_at b store_head

abbrev pub walk_numbers : List ℕ → List ℕ
walk_numbers b = chain_at b walk_head

abbrev pub free_numbers : List ℕ → List ℕ
free_numbers b = chain_at b free_head

-- ---- views

-- a pending store holds address, value and width
abbrev pub store_in : List ℕ → ℕ → Store
store_in b n = record { address = get_or b (record_at n + 1) 0; value = get_or b (record_at n + 2) 0; width = get_or b (record_at n + 3) 0 }

-- a walk holds a pair
abbrev pub walk_in : List ℕ → ℕ → Walk
walk_in b n = record { first = get_or b (record_at n + 1) 0; second = get_or b (record_at n + 2) 0 }

-- the pending stores, oldest first
unfoldable pub stores : List ℕ → List Store
stores b = map (store_in b) (store_numbers b)

-- the walks, in chain order
unfoldable pub walks : List ℕ → List Walk
walks b = map (walk_in b) (walk_numbers b)

-- what stands past the end of a list of stores
abbrev pub no_store : Store
no_store = record { address = 0; value = 0; width = 0 }

-- ---- lists

-- a test of every number from 1 to k, and of every element of a list
unfoldable pub each : ℕ → (ℕ → Bool) → Bool
each zero p = true
each (suc k) p = p (suc k) && each k p

unfoldable pub all : {A : Type 0} → (A → Bool) → List A → Bool
all p [] = true
all p (x ∷ l) = p x && all p l

-- how often n stands in a list
unfoldable pub count : ℕ → List ℕ → ℕ
count n [] = 0
count n (x ∷ l) = flag (eqb n x) + count n l

-- two walks are the same pair of words
abbrev pub same : Walk → Walk → Bool
same v w = eqb v.first w.first && eqb v.second w.second

unfoldable pub among : Walk → List Walk → Bool
among w [] = false
among w (v ∷ l) = same v w || among w l

-- no two walks are the same
unfoldable pub differing : List Walk → Bool
differing [] = true
differing (w ∷ l) = not (among w l) && differing l

-- ---- the chains are sound

-- all records that are on a chain, chain after chain
abbrev pub numbers : List ℕ → List ℕ
numbers b = store_numbers b ++ (walk_numbers b ++ free_numbers b)

-- each of records 1 to 31 is on exactly one chain, once
abbrev pub once_each : List ℕ → Bool
once_each b = each 31 (λ n. eqb (count n (numbers b)) 1)

-- and no other is
abbrev pub small : ℕ → Bool
small n = ltb n 32

abbrev pub no_other : List ℕ → Bool
no_other b = all small (numbers b)

-- at most 8 stores and 23 walks
abbrev pub few_stores : List ℕ → Bool
few_stores b = leb (length (store_numbers b)) 8

abbrev pub few_walks : List ℕ → Bool
few_walks b = leb (length (walk_numbers b)) 23

-- free records are zero after the link, walks in their last word, and record 0 is zero
abbrev pub blank : List ℕ → ℕ → Bool
blank b n = eqb (get_or b (record_at n + 1) 0) 0 && (eqb (get_or b (record_at n + 2) 0) 0 && eqb (get_or b (record_at n + 3) 0) 0)

abbrev pub last_blank : List ℕ → ℕ → Bool
last_blank b n = eqb (get_or b (record_at n + 3) 0) 0

abbrev pub free_blank : List ℕ → Bool
free_blank b = all (blank b) (free_numbers b)

abbrev pub walks_blank : List ℕ → Bool
walks_blank b = all (last_blank b) (walk_numbers b)

abbrev pub first_blank : List ℕ → Bool
first_blank b = eqb (get_or b (record_at 0) 0) 0 && blank b 0

unfoldable pub linked : List ℕ → Bool
linked b = once_each b && (no_other b && (few_stores b && (few_walks b && (free_blank b && (walks_blank b && first_blank b)))))

-- ---- the operations

-- the word `at`, the four words of record r and the free chain's head are written
abbrev pub moved : List ℕ → ℕ → ℕ → ℕ → ℕ → ℕ → ℕ → ℕ → ℕ → List ℕ
moved b at r next link x y z head =
    set (set (set (set (set (set b at next) (record_at r) link) (record_at r + 1) x) (record_at r + 2) y) (record_at r + 3) z) free_head head

-- the record whose number stands in the word `at` leaves its chain and goes, blank, to the front of the free chain
unfoldable pub release : List ℕ → ℕ → List ℕ
release b at = moved b at (get_or b at 0) (get_or b (record_at (get_or b at 0)) 0) (get_or b free_head 0) 0 0 0 (get_or b at 0)

-- the first free record takes three words and goes in where the word `at` points
unfoldable pub insert : List ℕ → ℕ → ℕ → ℕ → ℕ → List ℕ
insert b at x y z =
    moved b at (get_or b free_head 0) (get_or b free_head 0) (get_or b at 0) x y z (get_or b (record_at (get_or b free_head 0)) 0)

-- the word that holds the zero at the end of the chain that the word `at` starts
unfoldable pub end_of : ℕ → List ℕ → ℕ
end_of at [] = at
end_of at (x ∷ l) = end_of (record_at x) l

-- a new store goes last
unfoldable pub put_store : List ℕ → Store → List ℕ
put_store b s = insert b (end_of store_head (store_numbers b)) s.address s.value s.width

-- the oldest store goes
unfoldable pub take_store : List ℕ → List ℕ
take_store b = release b store_head

-- a new walk goes first; one already held is not added again
unfoldable pub add_walk : List ℕ → Walk → List ℕ
add_walk b w = elim (among w (walks b)) [ true ↦ b | false ↦ insert b walk_head w.first w.second 0 ]

-- a walk's first word is va * 4096 + asid * 64 + level * 8 + rights; its page and address space are one number, va * 64
-- + asid
abbrev pub walk_key : ℕ → ℕ
walk_key first = first / 64

abbrev pub level_of : ℕ → ℕ
level_of first = first / 8 % 4

-- definition 20, which walks a flush takes: all; those of a page and address space; those and the incomplete ones
abbrev pub goes : Flush → ℕ → Bool
goes All first = true
goes (Page p) first = eqb (walk_key first) p
goes (Incomplete p) first = not (eqb (level_of first) 0) || eqb (walk_key first) p

-- over the records of a chain, whose first link stands in the word `at`: each whose first word is hit is released, one
-- after the other
unfoldable pub sweep : (ℕ → Bool) → List ℕ → ℕ → List ℕ → List ℕ
sweep hit b at [] = b
sweep hit b at (x ∷ l) =
    elim (hit (get_or b (record_at x + 1) 0)) [ true ↦ sweep hit (release b at) at l | false ↦ sweep hit b (record_at x) l ]

unfoldable pub drop_walks : Flush → List ℕ → List ℕ
drop_walks f b = sweep (goes f) b walk_head (walk_numbers b)
