-- How the code searches: each way that is looked for is held against the lowest so far, and a second-level table is
-- gone through once. Contracts of `ways` and of the judge in `reasons` alone speak of it: `find` ends with `sought`,
-- the lowest of the ways selected, and `find_faulty` and `itself_is` (reasons, proofs/Reasons) tie it to
-- specs/Why.antt.
-- Assumes nothing.
use Rattle.std.specs.Prelude.{if◌then◌else◌, ◌≡◌, Bool, true, false, ◌&&◌, ◌||◌, not, ℕ, ◌-◌, eqb, ltb, leb, length, get_or, Option}
use mathlib.Core.List.{List, [], map, flat_map}
use Rattle.word.specs.Word.{is_set}
use Rattle.records.specs.declared.Record.{Record}
use Rattle.records.specs.inner.Chains.{store_of, walk_of}
use Rattle.records.specs.Records.{all}
use Rattle.tlb.specs.Walks.{pte_p, pte_r, pte_ba}
use Rattle.reach.specs.Lists.{range, select}
use Rattle.reach.specs.Reach.{grants_write}
use Rattle.ways.specs.declared.Named.{Named}
use Rattle.ways.specs.declared.Root.{Root}
use Rattle.ways.specs.declared.Root.TheVariants.{AtWalk, AtStore}
use Rattle.ways.specs.declared.Way.{Way}
use Rattle.ways.specs.declared.want.Fault.{Fault}
use Rattle.ways.specs.declared.want.Fault.TheVariants.{Table, Touch}
use Rattle.ways.specs.declared.want.Want.{Want}
use Rattle.ways.specs.declared.want.Want.TheVariants.{Beyond, Marked, Page}
use Rattle.ways.specs.declared.query.Query.{Query}
use Rattle.ways.specs.Ways.{naming, store_named, walk_named, roots, entry_named, next_named, root_way, further, onward, all_from, core_ways, page, lower, lowest_way}
use Rattle.std.specs.Prelude.{Option, None, Some}

-- what names a page shows that it is at fault: it grants write; it grants write or is of a table
abbrev pub shows : Fault → Named → Bool
shows Table x = eqb x.level 0 && x.write
shows Touch x = not (eqb x.level 0) || x.write

-- What is looked for beside a memory of n pages and marks c of pages: a page beyond memory; from page l on a page that
-- is marked, by what shows its fault; page p itself.
unfoldable pub wanted : Want → ℕ → List ℕ → Named → Bool
wanted Beyond n c x = not (ltb x.page n)
wanted (Marked f l) n c x =
    if ltb x.page l then false
    else if ltb x.page n then shows f x && eqb (get_or c x.page 0) 1
    else false
wanted (Page p) n c x = eqb x.page p

-- no lower page is looked for
abbrev pub least_page : Want → ℕ
least_page Beyond = 0
least_page (Marked f l) = l
least_page (Page p) = p

-- what a query looks for
abbrev pub looked_for : Query → Named → Bool
looked_for q = wanted q.want q.pages q.map.now

-- what was found is at page p or lower
abbrev pub is_lowest : Option Way → ℕ → Bool
is_lowest None p = false
is_lowest (Some v) p = leb (page v) p

-- an entry e of a table of level l names a page that is looked for
unfoldable pub hits : (Named → Bool) → ℕ → ℕ → Bool
hits P l e = if pte_p e then P (naming (l - 1) (pte_ba e) (grants_write (pte_r e))) else false

-- the lowest of those that are looked for
unfoldable pub sought : (Named → Bool) → List Way → Option Way
sought P l = lowest_way (select (λ w. P w.names) l)

-- what the entries of the second-level table in page q name
unfoldable pub table_names : List ℕ → ℕ → List Named
table_names m q = flat_map (next_named m (naming 1 q false)) (range 1024)

-- page p is not lower than what was found
abbrev pub not_lower : Option Way → ℕ → Bool
not_lower None p = false
not_lower (Some v) p = not (ltb p (page v))

-- a table that is marked in s has nothing lower than what was found
abbrev pub Known : (Named → Bool) → List ℕ → List ℕ → Option Way → Type 0
Known P m s f = (q : ℕ) → get_or s q 0 ≡ 1 → all (λ (x : Named). not_lower f x.page) (select P (table_names m q)) ≡ true

-- the ways l were searched: what was found and the marks were f and s, and are g and e
pub record Searched (P : Named → Bool) (m : List ℕ) (f : Option Way) (s : List ℕ) (g : Option Way) (e : List ℕ) (l : List Way) : Type 0 where
  pub best : g ≡ lower f (sought P l)
  pub long : length e ≡ length s
  pub known : Known P m e g

-- the ways that go on by entry i of a first-level table
unfoldable pub through_entry : List ℕ → Way → ℕ → Option ℕ → List Way
through_entry m w i e = flat_map (onward m 1) (map (further w i) (entry_named w.names e))

-- the root in record n
abbrev pub record_root : Bool → ℕ → Root
record_root true n = AtStore n
record_root false n = AtWalk n

-- the way that ends at what a record lists, of core k
abbrev pub way_in : ℕ → Bool → Record → Way
way_in k true r =
    record { core = k; root = AtStore r.number; entries = 0; first = 0; second = 0; names = store_named (store_of r) }
way_in k false r =
    record { core = k; root = AtWalk r.number; entries = 0; first = 0; second = 0; names = walk_named (walk_of r) }

-- the ways from record n of core k's block b, from the block, and of core k where it is in the group g
unfoldable pub record_ways : List ℕ → List ℕ → ℕ → Bool → ℕ → List Way
record_ways m b k store n = all_from m (root_way b k (record_root store n))

unfoldable pub block_ways : List ℕ → List ℕ → ℕ → List Way
block_ways m b k = flat_map (λ (r : Root). all_from m (root_way b k r)) (roots b)

unfoldable pub member_ways : ℕ → List ℕ → List ℕ → ℕ → List Way
member_ways g t m k = if is_set g k then core_ways t m k else []
