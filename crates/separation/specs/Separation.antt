-- Demand 3 (01, 'What demand 3 compares'): whatever the other cores hold and do, a group of cores found apart observes
-- the same. A core's count of refusals, word 115 of its block (02, 'Whose refusals?'), is among what its group sees,
-- and another group's refusals never show there: `Refusals`, below.
-- Assumes nothing.
use Rattle.std.specs.Prelude.{if◌then◌else◌, ◌≡◌, ◌⊎◌, Bool, true, false, ◌&&◌, ◌||◌, not, List, [], ◌∷◌, map, ℕ, ◌+◌, ◌*◌, ◌/◌, ◌%◌, ◌^◌, ◌<◌, eqb, leb, length, Result, Ok, get_or, take, drop, Err}
use Rattle.refusals.specs.declared.Refusal.{Refusal}
use Rattle.word.specs.Word.{is_set}
use Rattle.layout.specs.Layout.{page_bytes, block_at, core_refusals}
use Rattle.layout.specs.Blocks.{block}
use Rattle.tables.specs.Views.{cores_of, pages_of, user_mode, core_refusals_of}
use Rattle.tlb.specs.Walks.{set_d}
use Rattle.steps.specs.declared.Answer.{Answer}
use Rattle.steps.specs.declared.Answer.TheVariants.{Done, Interrupt}
use Rattle.steps.specs.Form.{word, count_at}
use Rattle.machine.specs.Step as operation
use Rattle.reach.specs.Lists.{range, has, select}
use Rattle.reach.specs.Reach.{members, map_for}
use Rattle.refusals.specs.declared.Refusal.{Refusal}
use Rattle.separation.specs.Apart.{apart_on, running_cores, rest}

-- A machine is its table words, each of 32 bits, and its memory bytes.
pub record Machine : Type 0 where
  pub tables : List ℕ
  pub memory : List ℕ

abbrev pub machine_of : List ℕ → List ℕ → Machine
machine_of t m = record { tables = t; memory = m }

pub record Given (M : Machine) : Type 0 where
  pub words : (i : ℕ) → get_or M.tables i 0 < 2 ^ 32
  pub bytes : (i : ℕ) → get_or M.memory i 0 < 2 ^ 8

-- what the operation Apart answers for a group
abbrev pub verdict : ℕ → Machine → Result Bool Refusal
verdict g M = apart_on g M.tables M.memory

-- ---- The sides are the group and the rest, the other running cores; an empty rest reaches nothing.

abbrev pub group : ℕ → Machine → List ℕ
group g M = members g (cores_of M.tables)

abbrev pub others : ℕ → Machine → List ℕ
others g M = rest g M.tables

-- the byte of page p in the map that Reach fills for some cores; 0 beyond memory
abbrev pub map_byte_of : List ℕ → Machine → ℕ → ℕ
map_byte_of cs M p = get_or (map_for cs M.tables M.memory) p 0

-- A page is reachable if its byte in the map isn't 0.
unfoldable pub reachable : ℕ → Machine → List ℕ
reachable g M = select (λ p. not (eqb (map_byte_of (group g M) M p) 0)) (range (pages_of M.tables))

-- the byte of page p has 2, a table page (bit 1), or 4, a writable page (bit 2), for either side
abbrev pub table_bit : ℕ
table_bit = 1

abbrev pub writable_bit : ℕ
writable_bit = 2

abbrev pub either : ℕ → ℕ → Machine → ℕ → Bool
either bit g M p = is_set (map_byte_of (group g M) M p) bit || is_set (map_byte_of (others g M) M p) bit

-- ---- A list holds calls of step, none or any number, and goes on past a refused one. A call is its words, the first
-- two kind and core.

-- Within a list: the tables and memory that the last call left, and the cores that a call may name.
pub record Point : Type 0 where
  pub machine : Machine
  pub going : List ℕ

-- The first call gets the machine that was judged; it names one of the cores running there,
abbrev pub start : Machine → Point
start M = record { machine = M; going = running_cores M.tables }

abbrev pub called : Point → List ℕ → operation.Stepped
called x s = operation.step x.machine.tables x.machine.memory s

abbrev pub is_interrupt : Result Answer Refusal → Bool
is_interrupt (Ok Done) = false
is_interrupt (Ok (Interrupt level)) = true
is_interrupt (Err r) = false

-- and each later one gets what the last one left, and names a core for which no earlier step of that list answered
-- interrupt.
abbrev pub next : Point → List ℕ → Point
next x s =
    record {
      machine = record { tables = (called x s).tables; memory = (called x s).memory };
      going = if is_interrupt (called x s).answer then select (λ k. not (eqb k (word s 1))) x.going else x.going;
    }

unfoldable pub after_calls : Point → List (List ℕ) → Point
after_calls x [] = x
after_calls x (s ∷ l) = after_calls (next x s) l

-- Each step has kind 0 to 4 and names such a core; its other words are free (a call of more or fewer than six words is
-- refused 5).
abbrev pub may : Point → List ℕ → Bool
may x s = leb (word s 0) 4 && has (word s 1) x.going

unfoldable pub admitted : Point → List (List ℕ) → Bool
admitted x [] = true
admitted x (s ∷ l) = may x s && admitted (next x s) l

-- The group's steps are those whose core is in the group.
abbrev pub is_own : ℕ → List ℕ → Bool
is_own g s = is_set g (word s 1)

-- ---- What a group of cores cs sees: all words of their blocks, and all bytes of the pages ps with their numbers;

pub record Observation : Type 0 where
  pub blocks : List (List ℕ)
  pub pages : List (ℕ × List ℕ)

abbrev pub page_of : List ℕ → ℕ → List ℕ
page_of m p = take page_bytes (drop (page_bytes * p) m)

abbrev pub seen : List ℕ → List ℕ → Machine → Observation
seen cs ps M = record { blocks = map (block M.tables) cs; pages = map (λ p. (p, page_of M.memory p)) ps }

-- and after each of the group's steps: the answer, level or number included, and what it sees.
unfoldable pub observed : ℕ → List ℕ → List ℕ → Point → List (List ℕ) → List (Result Answer Refusal × Observation)
observed g cs ps x [] = []
observed g cs ps x (s ∷ l) =
    if is_own g s then ((called x s).answer, seen cs ps (next x s).machine) ∷ observed g cs ps (next x s) l
    else observed g cs ps (next x s) l

-- what the group observes in a list that begins with M: its cores and pages are those of the machine that was judged
abbrev pub observes : ℕ → Machine → List (List ℕ) → List (Result Answer Refusal × Observation)
observes g M l = observed g (group g M) (reachable g M) (start M) l

-- Alike: all words of the blocks of the group's cores and all bytes of the pages it reaches in M are equal (that it
-- reaches the same in N follows: pages, below); all else may differ, the header too.
abbrev pub Alike : ℕ → Machine → Machine → Type 0
Alike g M N = seen (group g M) (reachable g M) M ≡ seen (group g M) (reachable g M) N

-- ---- The list that began with M has come to x.

pub record Framed (g : ℕ) (M : Machine) (x : Point) : Type 0 where
  pub size : length x.machine.memory ≡ length M.memory
  -- a byte of a page that is neither table nor writable for either side is as it was;
  pub still : (a : ℕ) → either table_bit g M (a / page_bytes) || either writable_bit g M (a / page_bytes) ≡ false
      → get_or x.machine.memory a 0 ≡ get_or M.memory a 0
  -- a table byte is as it was but for the accessed bit, its entry's: bit 7 of the entry's first byte;
  pub table : (a : ℕ) → either table_bit g M (a / page_bytes) ≡ true
      → (get_or x.machine.memory a 0 ≡ get_or M.memory a 0) ⊎ ((a % 4 ≡ 0) × (get_or x.machine.memory a 0 ≡ set_d (get_or M.memory a 0)))
  -- a core that may step is in user mode.
  pub user : (k : ℕ) → has k x.going ≡ true → user_mode (block x.machine.tables k) ≡ true

-- ---- A single claim about the two whole lists: the group reaches the same pages in both and observes the same, its
-- n-th step in one list held against its n-th in the other, and the frame holds after any number of calls of each.
pub record Separated (g : ℕ) (M N : Machine) (l r : List (List ℕ)) : Type 0 where
  pub pages : reachable g M ≡ reachable g N
  pub same : observes g M l ≡ observes g N r
  pub first : (n : ℕ) → Framed g M (after_calls (start M) (take n l))
  pub second : (n : ℕ) → Framed g N (after_calls (start N) (take n r))

-- what a verdict of yes on M promises, beside any other machine with that verdict that is alike for the group
abbrev pub Promised : ℕ → Machine → Type 0
Promised g M =
    (N : Machine) → Given N → verdict g N ≡ Ok true → Alike g M N
    → (l r : List (List ℕ)) → admitted (start M) l ≡ true → admitted (start N) r ≡ true → select (is_own g) l ≡ select (is_own g) r
    → Separated g M N l r

abbrev pub Demand3 : Type 0
Demand3 = (g : ℕ) (M : Machine) → Given M → verdict g M ≡ Ok true → Promised g M

-- ---- Whose refusals, on any tables, sound or not, and for calls of any kind and length

pub record Refusals : Type 0 where
  -- What the cores cs see includes their counts.
  pub included : (cs ps : List ℕ) (M N : Machine) → seen cs ps M ≡ seen cs ps N
      → (k : ℕ) → has k cs ≡ true → core_refusals_of (block M.tables k) ≡ core_refusals_of (block N.tables k)
  -- Whose refusal it is agrees with whose step it is: the core whose own word counts it is in the group exactly where
  -- the step is the group's.
  pub agrees : (g n k : ℕ) (s : List ℕ) → count_at n s ≡ block_at k + core_refusals → is_own g s ≡ is_set g k
  -- A refused step of a core outside the group leaves every block of the group.
  pub unseen : (g : ℕ) (t m s : List ℕ) (r : Refusal) → (operation.step t m s).answer ≡ Err r → is_own g s ≡ false
      → (k : ℕ) → is_set g k ≡ true → block (operation.step t m s).tables k ≡ block t k
