-- Ways: how a core names a page (01, 'Reach'). A way begins at the page in pto, at a walk or at a pending store, and
-- goes through present entries.
-- Assumes nothing.
use Rattle.std.specs.Prelude.{if◌then◌else◌, ◌≡◌, Bool, false, true, ℕ, zero, suc, ◌+◌, ◌-◌, ◌/◌, ◌%◌, eqb, ltb, Option, Some, None}
use mathlib.Core.List.{List, [], ◌∷◌, ◌++◌, map, flat_map}
use Rattle.layout.specs.Blocks.{block}
use Rattle.records.specs.declared.Store.{Store}
use Rattle.records.specs.declared.Walk.{Walk}
use Rattle.records.specs.Records.{store_in, walk_in, store_numbers, walk_numbers}
use Rattle.tlb.specs.Walks.{walk_level, walk_r, walk_ba, base_address, entry_at, ptea_at, pte_p, pte_r, pte_ba}
use Rattle.tlb.specs.Steps.{origin_of}
use Rattle.reach.specs.Lists.{range, has}
use Rattle.reach.specs.Reach.{grants_write}
use Rattle.ways.specs.declared.Named.{Named}
use Rattle.ways.specs.declared.Root.{Root}
use Rattle.ways.specs.declared.Root.TheVariants.{AtOrigin, AtWalk, AtStore}
use Rattle.ways.specs.declared.Way.{Way}
use Rattle.std.specs.Prelude.{Option, None, Some}

abbrev pub naming : ℕ → ℕ → Bool → Named
naming l p w = record { level = l; page = p; write = w }

-- what a walk and a pending store name
abbrev pub walk_named : Walk → Named
walk_named w = naming (walk_level w) (walk_ba w) (grants_write (walk_r w))

abbrev pub store_named : Store → Named
store_named s = naming 0 (base_address s.address) true

-- what a root of the block b names
abbrev pub root_named : List ℕ → Root → Named
root_named b AtOrigin = naming 2 (origin_of b) false
root_named b (AtWalk n) = walk_named (walk_in b n)
root_named b (AtStore n) = store_named (store_in b n)

-- the roots of a block
unfoldable pub roots : List ℕ → List Root
roots b = AtOrigin ∷ (map AtWalk (walk_numbers b) ++ map AtStore (store_numbers b))

-- a root that the block holds
abbrev pub is_root : List ℕ → Root → Bool
is_root b AtOrigin = true
is_root b (AtWalk n) = has n (walk_numbers b)
is_root b (AtStore n) = has n (store_numbers b)

-- what an entry of a table names, which is itself named x
abbrev pub entry_named : Named → Option ℕ → List Named
entry_named x (Some e) = if pte_p e then naming (x.level - 1) (pte_ba e) (grants_write (pte_r e)) ∷ [] else []
entry_named x None = []

-- entry i of the table
abbrev pub next_named : List ℕ → Named → ℕ → List Named
next_named m x i = entry_named x (entry_at m (ptea_at x.page i))

-- ---- ways

-- the addresses of the entries that a way goes through
abbrev pub entries_of : ℕ → ℕ → ℕ → List ℕ
entries_of zero a b = []
entries_of (suc zero) a b = a ∷ []
entries_of (suc (suc n)) a b = a ∷ (b ∷ [])

-- the place in its table of the entry at address a; what that entry names, if it is one of the table that is named x
abbrev pub entry_place : ℕ → ℕ
entry_place a = a / 4 % 1024

abbrev pub named_at : List ℕ → Named → ℕ → List Named
named_at m x a = if eqb (ptea_at x.page (entry_place a)) a then next_named m x (entry_place a) else []

-- what stands at the end of a way, followed entry by entry: nothing where an entry is absent, or none of the table
unfoldable pub follow : List ℕ → Named → List ℕ → List Named
follow m x [] = x ∷ []
follow m x (a ∷ l) = flat_map (λ (y : Named). follow m y l) (named_at m x a)

abbrev pub followed : List ℕ → List ℕ → Way → List Named
followed t m w = follow m (root_named (block t w.core) w.root) (entries_of w.entries w.first w.second)

-- the way that ends where it begins, at a root of core k's block b; one that goes on by entry i, which names x
abbrev pub root_way : List ℕ → ℕ → Root → Way
root_way b k r = record { core = k; root = r; entries = 0; first = 0; second = 0; names = root_named b r }

abbrev pub further : Way → ℕ → Named → Way
further w i x =
    record {
      core = w.core;
      root = w.root;
      entries = w.entries + 1;
      first = if eqb w.entries 0 then ptea_at w.names.page i else w.first;
      second = if eqb w.entries 0 then 0 else ptea_at w.names.page i;
      names = x;
    }

-- the ways that go on from w by one entry
unfoldable pub next_ways : List ℕ → Way → List Way
next_ways m w = flat_map (λ (i : ℕ). map (further w i) (next_named m w.names i)) (range 1024)

-- w and all that go on from it, n levels down
unfoldable pub onward : List ℕ → ℕ → Way → List Way
onward m zero w = w ∷ []
onward m (suc n) w = w ∷ flat_map (onward m n) (next_ways m w)

-- w and all that go on from it; a walk of level 3 names nothing
unfoldable pub all_from : List ℕ → Way → List Way
all_from m w = if ltb w.names.level 3 then onward m w.names.level w else []

-- the ways that begin in the block of core k; those of the cores cs
unfoldable pub core_ways : List ℕ → List ℕ → ℕ → List Way
core_ways t m k = flat_map (λ (r : Root). all_from m (root_way (block t k) k r)) (roots (block t k))

unfoldable pub ways : List ℕ → List ℕ → List ℕ → List Way
ways cs t m = flat_map (core_ways t m) cs

-- ---- the way to the lowest page, the first of them

abbrev pub page : Way → ℕ
page w = w.names.page

unfoldable pub lower : Option Way → Option Way → Option Way
lower None b = b
lower (Some v) None = Some v
lower (Some v) (Some w) = if ltb (page w) (page v) then Some w else Some v

unfoldable pub lowest_way : List Way → Option Way
lowest_way [] = None
lowest_way (w ∷ l) = lower (Some w) (lowest_way l)

-- ---- every way is real (`ways_real` of proofs/Real)

-- A way of one of the cores cs begins at a root that the core's block holds and goes one level down with each entry;
-- followed from there, through present entries, it comes to what it names.
pub record Real (cs t m : List ℕ) (w : Way) : Type 0 where
  pub of_core : has w.core cs ≡ true
  pub begins : is_root (block t w.core) w.root ≡ true
  pub depth : w.names.level + w.entries ≡ (root_named (block t w.core) w.root).level
  pub follows : followed t m w ≡ w.names ∷ []
