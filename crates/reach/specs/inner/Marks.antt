-- How the code keeps sets of pages: as marks in one array of bytes. It serves the contracts inside this crate alone:
-- `filled_map` and `filled_beyond` of proofs/Closing tie the marks to specs/Reach.antt, and the contracts of fill and
-- reach speak of that file only.
-- Assumes nothing.
use Rattle.std.specs.Prelude.{if◌then◌else◌, ◌≡◌, Bool, true, false, ◌||◌, not, ℕ, ◌+◌, ◌-◌, ◌*◌, ◌/◌, ◌%◌, eqb, ltb, get_or, set, replicate, Option, Some, None}
use mathlib.Core.List.{List, [], ◌∷◌, ◌++◌, flat_map}
use Rattle.word.specs.Word.{flag, is_set}
use Rattle.word.specs.Bytes.{bytes_at}
use Rattle.layout.specs.Layout.{walk_head, store_head}
use Rattle.layout.specs.Blocks.{block}
use Rattle.records.specs.declared.Record.{Record}
use Rattle.records.specs.Records.{level_of, walk_in, store_in, chain_at}
use Rattle.tlb.specs.Walks.{base_address, entry_at, ptea_at, pte_p, pte_ba}
use Rattle.tlb.specs.Steps.{origin_of}
use Rattle.reach.specs.declared.marks.Level.{Level}
use Rattle.reach.specs.declared.marks.Level.TheVariants.{First, Second}
use Rattle.reach.specs.declared.marks.Marks.{Marks}
use Rattle.reach.specs.declared.marks.Set.{Set}
use Rattle.reach.specs.declared.marks.Set.TheVariants.{Firsts, Seconds, Datas}
use Rattle.reach.specs.declared.roots.Content.{Content}
use Rattle.reach.specs.declared.roots.Content.TheVariants.{Walks, Stores}
use Rattle.reach.specs.Lists.{range}

-- ---- names

-- the number of a set; that of the set of a level's tables
abbrev pub number_of : Set → ℕ
number_of Firsts = 0
number_of Seconds = 1
number_of Datas = 2

abbrev pub order : Level → ℕ
order First = 0
order Second = 1

-- a page that is named: in set 0, 1 or 2, with the write right or without it (1 or 0)
pub record Name : Type 0 where
  pub kind : ℕ
  pub page : ℕ
  pub write : ℕ

abbrev pub name : ℕ → ℕ → ℕ → Name
name k p w = record { kind = k; page = p; write = w }

-- ---- marks: byte 8192 * k + p is 1 where page p is named in set k without the write right, byte 8192 * k + 4096 + p
-- where it is named with it

abbrev pub place : Name → ℕ
place y = 8192 * y.kind + 4096 * y.write + y.page

-- a page beyond a memory of n pages leaves no mark
unfoldable pub mark : ℕ → List ℕ → Name → List ℕ
mark n s y = if ltb y.page n then set s (place y) 1 else s

unfoldable pub marks : ℕ → List ℕ → List Name → List ℕ
marks n s [] = s
marks n s (y ∷ l) = marks n (mark n s y) l

-- a page beyond memory is named
unfoldable pub strays : ℕ → List Name → Bool
strays n [] = false
strays n (y ∷ l) = not (ltb y.page n) || strays n l

-- no page is marked or named yet, beside a memory m of n pages
pub record Blank (n : ℕ) (m : List ℕ) (s : Marks) : Type 0 where
  pub pages : s.pages ≡ n
  pub memory : s.memory.now ≡ m
  pub beyond : s.beyond ≡ false
  pub bytes : s.bytes ≡ replicate 24576 0

-- the names l are marked in s, which becomes e; whether a page beyond memory is among them, or was named before
pub record Marked (s e : Marks) (l : List Name) : Type 0 where
  pub pages : e.pages ≡ s.pages
  pub memory : e.memory.now ≡ s.memory.now
  pub left : e.bytes ≡ marks s.pages s.bytes l
  pub beyond : e.beyond ≡ s.beyond || strays s.pages l

-- page x is in set k with the write right; with or without it
abbrev pub is_written : List ℕ → ℕ → ℕ → Bool
is_written s k x = eqb (get_or s (8192 * k + 4096 + x) 0) 1

abbrev pub is_marked : List ℕ → ℕ → ℕ → Bool
is_marked s k x = eqb (get_or s (8192 * k + x) 0) 1 || is_written s k x

-- ---- what is named

-- by an entry of a table whose entries go to set k
abbrev pub entry_name : ℕ → Option ℕ → List Name
entry_name k (Some e) = if pte_p e then name k (pte_ba e) (e / 256 % 2) ∷ [] else []
entry_name k None = []

-- by the entry at address a; by the four entries from there on
abbrev pub name_from : ℕ → List ℕ → ℕ → List Name
name_from k m a = entry_name k (Some (bytes_at 4 m a))

unfoldable pub four_names : ℕ → List ℕ → ℕ → List Name
four_names k m a = name_from k m a ++ (name_from k m (a + 4) ++ (name_from k m (a + 8) ++ name_from k m (a + 12)))

-- by the 1,024 entries of the table in page x
unfoldable pub entry_names : ℕ → List ℕ → ℕ → List Name
entry_names k m x = flat_map (λ (i : ℕ). entry_name k (entry_at m (ptea_at x i))) (range 1024)

-- by the table in page x, if it is in set k; by all of those below n
unfoldable pub marked_names : ℕ → List ℕ → List ℕ → ℕ → List Name
marked_names k m s x = if is_marked s k x then entry_names (k + 1) m x else []

unfoldable pub pass_names : ℕ → ℕ → List ℕ → List ℕ → List Name
pass_names n k m s = flat_map (marked_names k m s) (range n)

-- by a walk of two words: its base, at level 2, 1 or 0 in set 0, 1 or 2
unfoldable pub walk_name : ℕ → ℕ → List Name
walk_name first second = if ltb (level_of first) 3 then name (2 - level_of first) second (first % 2) ∷ [] else []

-- by a record, a walk or a pending store; by record i of a block
abbrev pub named_by : Content → Record → List Name
named_by Walks r = walk_name r.first r.second
named_by Stores r = name 2 (base_address r.first) 1 ∷ []

unfoldable pub record_name : Content → List ℕ → ℕ → List Name
record_name Walks b i = walk_name (walk_in b i).first (walk_in b i).second
record_name Stores b i = name 2 (base_address (store_in b i).address) 1 ∷ []

-- by the records of a chain, from the word where it begins; by a core's block
abbrev pub head_of : Content → ℕ
head_of Walks = walk_head
head_of Stores = store_head

abbrev pub chain_names : Content → List ℕ → List Name
chain_names c b = flat_map (record_name c b) (chain_at b (head_of c))

unfoldable pub core_names : List ℕ → List Name
core_names b = (name 0 (origin_of b) 0 ∷ []) ++ (chain_names Walks b ++ chain_names Stores b)

-- by the block of core k, if it is in the group g; by those of all cores below n
unfoldable pub member_names : ℕ → List ℕ → ℕ → List Name
member_names g t k = if is_set g k then core_names (block t k) else []

unfoldable pub root_names : ℕ → List ℕ → ℕ → List Name
root_names g t n = flat_map (member_names g t) (range n)

-- ---- the map's byte of page x, read off the marks

unfoldable pub byte_of : List ℕ → ℕ → ℕ
byte_of s x = flag (is_marked s 0 x || is_marked s 1 x) * 2 + flag (is_marked s 2 x) + flag (is_written s 2 x) * 4
