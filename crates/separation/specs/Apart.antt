-- The operation Apart (01).
-- Assumes nothing.
use Rattle.std.specs.Prelude.{if◌then◌else◌, Bool, ◌&&◌, not, List, ◌++◌, ℕ, zero, suc, ◌+◌, length, Result, Ok, Err}
use Rattle.word.specs.Word.{is_set, flag, with_bit}
use Rattle.layout.specs.Blocks.{block}
use Rattle.records.specs.Records.{all}
use Rattle.tables.specs.Views.{cores_of, pages_of, user_mode, runs}
use Rattle.tables.specs.Sound.{sound}
use Rattle.reach.specs.Lists.{range, has, select}
use Rattle.reach.specs.Reach.{Pages, is_group, members, reach, table_pages, reached, in_memory}
use Rattle.refusals.specs.declared.Refusal.{Refusal}
use Rattle.refusals.specs.declared.Refusal.TheVariants.{Unsound, Group}
use Rattle.refusals.specs.Numbers.{number}

-- the running cores
unfoldable pub running_cores : List ℕ → List ℕ
running_cores t = select (λ k. runs (block t k)) (range (cores_of t))

-- the rest: the other running cores
unfoldable pub rest : ℕ → List ℕ → List ℕ
rest g t = select (λ k. not (is_set g k)) (running_cores t)

-- the same as a group, a number whose bit k stands for core k: of the first n cores, and of all
unfoldable pub rest_below : ℕ → List ℕ → ℕ → ℕ
rest_below g t zero = 0
rest_below g t (suc k) = with_bit (rest_below g t k) k (flag (not (is_set g k) && runs (block t k)))

abbrev pub rest_group : ℕ → List ℕ → ℕ
rest_group g t = rest_below g t (cores_of t)

-- a core is running in user mode
abbrev pub runs_as_user : List ℕ → ℕ → Bool
runs_as_user t k = runs (block t k) && user_mode (block t k)

-- no page is in both lists
unfoldable pub disjoint : List ℕ → List ℕ → Bool
disjoint l r = all (λ x. not (has x r)) l

-- no page is both writable and table for one side
abbrev pub closed : Pages → Bool
closed S = disjoint S.writables (table_pages S)

-- the group's pages S and the rest's T, beside a memory of n pages: neither side reaches a page beyond memory, no page
-- is both writable and table for one side, and no page reached by the group is writable or table for the rest
unfoldable pub pages_apart : ℕ → Pages → Pages → Bool
pages_apart n S T =
    (in_memory S n && in_memory T n) && ((closed S && closed T) && disjoint (reached S) (T.writables ++ table_pages T))

-- every core of both sides is running in user mode, and their pages are so
unfoldable pub apart : ℕ → List ℕ → List ℕ → Bool
apart g t m =
    all (runs_as_user t) (members g (cores_of t) ++ rest g t)
    && pages_apart (pages_of t) (reach (members g (cores_of t)) t m) (reach (rest g t) t m)

-- ---- the operation

unfoldable pub apart_on : ℕ → List ℕ → List ℕ → Result Bool Refusal
apart_on g t m =
    if not (sound t (length m)) then Err Unsound
    else if not (is_group g (cores_of t)) then Err Group
    else Ok (apart g t m)

-- the number for each verdict: 0 no, 1 yes, 100 and 01's number of a refusal
abbrev pub verdict_number : Result Bool Refusal → ℕ
verdict_number (Ok b) = flag b
verdict_number (Err r) = 100 + number r
