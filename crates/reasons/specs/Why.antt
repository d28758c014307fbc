-- Why a group is not apart: the first reason in the order of 01's conditions ('Apart'), with the lowest page at fault
-- and a way to it.
-- Assumes nothing.
use Rattle.std.specs.Prelude.{if◌then◌else◌, Bool, ◌&&◌, ◌||◌, not, List, [], ◌∷◌, ◌++◌, ℕ, zero, suc, ◌+◌, ◌-◌, eqb, ltb, length, Result, Ok, Err}
use Rattle.word.specs.Word.{is_set, flag}
use Rattle.layout.specs.Blocks.{block}
use Rattle.tables.specs.Views.{cores_of, pages_of, runs}
use Rattle.tables.specs.Sound.{sound}
use Rattle.reach.specs.Lists.{range, has, select}
use Rattle.reach.specs.Reach.{is_group, members, reach, table_pages, reached}
use Rattle.separation.specs.Apart.{rest, runs_as_user}
use Rattle.ways.specs.declared.Root.{Root}
use Rattle.ways.specs.declared.Root.TheVariants.{AtOrigin, AtWalk, AtStore}
use Rattle.ways.specs.declared.Way.{Way}
use Rattle.std.specs.Prelude.{Option, None, Some}
use Rattle.refusals.specs.declared.Refusal.{Refusal}
use Rattle.refusals.specs.declared.Refusal.TheVariants.{Unsound, LentLength}
use Rattle.refusals.specs.declared.Refusal.TheVariants as refusal
use Rattle.refusals.specs.Numbers.{number}
use Rattle.reasons.specs.declared.Side.{Side}
use Rattle.reasons.specs.declared.Side.TheVariants.{Group, Rest}
use Rattle.reasons.specs.declared.Reason.{Reason}
use Rattle.reasons.specs.declared.Reason.TheVariants.{NotUser, BeyondMemory, OwnTable, Touches}
use Rattle.ways.specs.Ways.{ways, page, lowest_way}

-- ---- reasons

-- a way that comes to a data page and grants write; one that grants write or comes to a table
abbrev pub grants : Way → Bool
grants w = eqb w.names.level 0 && w.names.write

abbrev pub spoils : Way → Bool
spoils w = not (eqb w.names.level 0) || w.names.write

abbrev pub by_way : (Way → Reason) → Option Way → Option Reason
by_way f None = None
by_way f (Some w) = Some (f w)

-- the first way to page p
unfoldable pub way_to : ℕ → List Way → Option Way
way_to p l = lowest_way (select (λ w. eqb (page w) p) l)

-- with the way found, of the rest, the first of the group's ways l to the same page
abbrev pub with_own : List Way → Option Way → Option Reason
with_own l None = None
with_own l (Some w) = by_way (Touches w) (way_to (page w) l)

-- a core of either side that is not running in user mode
abbrev pub fails : ℕ → List ℕ → ℕ → Bool
fails g t k = (is_set g k || runs (block t k)) && not (runs_as_user t k)

unfoldable pub first_failing : ℕ → List ℕ → List ℕ → Option Reason
first_failing g t [] = None
first_failing g t (k ∷ l) = if fails g t k then Some (NotUser k) else first_failing g t l

unfoldable pub mode_reason : ℕ → List ℕ → Option Reason
mode_reason g t = first_failing g t (range (cores_of t))

-- a side is its cores cs
unfoldable pub beyond_reason : Side → List ℕ → List ℕ → List ℕ → Option Reason
beyond_reason s cs t m = by_way (BeyondMemory s) (lowest_way (select (λ w. not (ltb (page w) (pages_of t))) (ways cs t m)))

-- a page beyond memory has a reason of its own, so the others are about pages in memory
unfoldable pub table_reason : Side → List ℕ → List ℕ → List ℕ → Option Reason
table_reason s cs t m =
    by_way (OwnTable s)
    (lowest_way (select (λ w. grants w && (ltb (page w) (pages_of t) && has (page w) (table_pages (reach cs t m)))) (ways cs t m)))

-- the group's cores and the others'
unfoldable pub touch_reason : List ℕ → List ℕ → List ℕ → List ℕ → Option Reason
touch_reason cs os t m =
    with_own (ways cs t m)
    (lowest_way (select (λ w. spoils w && (ltb (page w) (pages_of t) && has (page w) (reached (reach cs t m)))) (ways os t m)))

-- the reasons in their order, by numbers 1 to 6
unfoldable pub reason_at : ℕ → List ℕ → List ℕ → ℕ → Option Reason
reason_at g t m n =
    if eqb n 1 then mode_reason g t
    else if eqb n 2 then beyond_reason Group (members g (cores_of t)) t m
    else if eqb n 3 then beyond_reason Rest (rest g t) t m
    else if eqb n 4 then table_reason Group (members g (cores_of t)) t m
    else if eqb n 5 then table_reason Rest (rest g t) t m
    else touch_reason (members g (cores_of t)) (rest g t) t m

-- the number for each reason, 1 to 6, and 0 for none
abbrev pub side_number : Side → ℕ
side_number Group = 0
side_number Rest = 1

abbrev pub reason_number : Option Reason → ℕ
reason_number None = 0
reason_number (Some (NotUser k)) = 1
reason_number (Some (BeyondMemory s w)) = 2 + side_number s
reason_number (Some (OwnTable s w)) = 4 + side_number s
reason_number (Some (Touches w v)) = 6

abbrev pub or_else : Option Reason → Option Reason → Option Reason
or_else None b = b
or_else (Some a) b = Some a

-- the first of d reasons after reason a
unfoldable pub first_after : ℕ → List ℕ → List ℕ → ℕ → ℕ → Option Reason
first_after g t m zero a = None
first_after g t m (suc d) a = or_else (reason_at g t m (a + 1)) (first_after g t m d (a + 1))

-- the first reason after reason a; after 0, the first of all
unfoldable pub why_after : ℕ → ℕ → List ℕ → List ℕ → Result (Option Reason) Refusal
why_after a g t m =
    if not (sound t (length m)) then Err Unsound
    else if not (is_group g (cores_of t)) then Err refusal.Group
    else Ok (first_after g t m (6 - a) a)

-- the number for each answer: that of a reason, 100 and 01's number of a refusal; and the reason, none where there is a
-- refusal
abbrev pub why_number : Result (Option Reason) Refusal → ℕ
why_number (Ok a) = reason_number a
why_number (Err r) = 100 + number r

abbrev pub why_reason : Result (Option Reason) Refusal → Option Reason
why_reason (Ok a) = a
why_reason (Err r) = None

-- ---- an answer in words

abbrev pub root_number : Root → ℕ
root_number AtOrigin = 0
root_number (AtWalk n) = 1
root_number (AtStore n) = 2

abbrev pub record_number : Root → ℕ
record_number AtOrigin = 0
record_number (AtWalk n) = n
record_number (AtStore n) = n

-- core, page, level, write right, where the way begins (0 pto, 1 walk, 2 pending store) and in which record, number and
-- addresses of the entries
unfoldable pub way_words : Way → List ℕ
way_words w =
    w.core
    ∷ (page w
    ∷ (w.names.level
    ∷ (flag w.names.write
    ∷ (root_number w.root ∷ (record_number w.root ∷ (w.entries ∷ (w.first ∷ (w.second ∷ []))))))))

-- of a core alone, the core
unfoldable pub core_words : ℕ → List ℕ
core_words k = k ∷ (0 ∷ (0 ∷ (0 ∷ (0 ∷ (0 ∷ (0 ∷ (0 ∷ (0 ∷ []))))))))

unfoldable pub first_words : Option Reason → List ℕ
first_words None = core_words 0
first_words (Some (NotUser k)) = core_words k
first_words (Some (BeyondMemory s w)) = way_words w
first_words (Some (OwnTable s w)) = way_words w
first_words (Some (Touches w v)) = way_words w

-- the way of the group that reason 6 has besides; zeros elsewhere
unfoldable pub second_words : Option Reason → List ℕ
second_words None = core_words 0
second_words (Some (NotUser k)) = core_words 0
second_words (Some (BeyondMemory s w)) = core_words 0
second_words (Some (OwnTable s w)) = core_words 0
second_words (Some (Touches w v)) = way_words v

abbrev pub why_words : Option Reason → List ℕ
why_words a = first_words a ++ second_words a

-- the operation: the number of the reason, and the rest of it in 18 lent words; a refusal writes nothing
pub record Told : Type 0 where
  pub answer : Result ℕ Refusal
  pub words : List ℕ

unfoldable pub told : ℕ → ℕ → List ℕ → List ℕ → List ℕ → Told
told a g t m o =
    if not (sound t (length m)) then record { answer = Err Unsound; words = o }
    else if not (eqb (length o) 18) then record { answer = Err LentLength; words = o }
    else if not (is_group g (cores_of t)) then record { answer = Err refusal.Group; words = o }
    else record { answer = Ok (reason_number (first_after g t m (6 - a) a)); words = why_words (first_after g t m (6 - a) a) }

-- the number for each answer: that of the reason, 100 and 01's number of a refusal
abbrev pub told_number : Result ℕ Refusal → ℕ
told_number (Ok n) = n
told_number (Err r) = 100 + number r
