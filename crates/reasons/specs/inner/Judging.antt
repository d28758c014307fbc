-- What the functions of the judge answer: pages at fault by their bytes in two maps, and what each reason finds. It
-- serves the contracts inside this crate alone; those of why and tell speak of specs/Why.antt only (proofs/Reasons ties
-- the two).
-- Assumes nothing.
use Rattle.std.specs.Prelude.{◌≡◌, Bool, true, ◌&&◌, ◌||◌, not, List, ℕ, ◌<◌, ◌≤◌, eqb, ltb, length, get_or}
use Rattle.word.specs.Word.{is_set, flag}
use Rattle.tables.specs.Views.{pages_of}
use Rattle.reach.specs.Lists.{has, select}
use Rattle.reach.specs.Reach.{reach, table_pages, reached}
use Rattle.ways.specs.declared.Named.{Named}
use Rattle.ways.specs.declared.Way.{Way}
use Rattle.ways.specs.declared.want.Fault.{Fault}
use Rattle.ways.specs.declared.want.Fault.TheVariants.{Table, Touch}
use Rattle.ways.specs.inner.Search.{shows}
use Rattle.std.specs.Prelude.{Option}
use Rattle.ways.specs.Ways.{ways, page, lowest_way}
use Rattle.reasons.specs.Why.{grants, spoils}

-- ---- pages at fault

-- a page whose bytes in two maps are x and y: writable and a table in the first; or in the first, and writable or a
-- table in the second
unfoldable pub fault_at : Fault → ℕ → ℕ → Bool
fault_at Table x y = is_set x 1 && is_set x 2
fault_at Touch x y = not (eqb x 0) && (is_set y 2 || is_set y 1)

-- they are marked in s, and none is lower than page low
pub record Faults (f : Fault) (own other s : List ℕ) (low : ℕ) : Type 0 where
  pub marks : (p : ℕ) → p < length s → get_or s p 0 ≡ flag (fault_at f (get_or own p 0) (get_or other p 0))
  pub least : (p : ℕ) → p < length s → fault_at f (get_or own p 0) (get_or other p 0) ≡ true → low ≤ p

-- marks s have become those
pub record FaultsMarked (f : Fault) (own other s e : List ℕ) (low : ℕ) : Type 0 where
  pub long : length e ≡ length s
  pub faults : Faults f own other e low

-- a way to such a page that shows its fault
unfoldable pub faulty : Fault → ℕ → List ℕ → List ℕ → Named → Bool
faulty f n own other x = shows f x && (ltb x.page n && fault_at f (get_or own x.page 0) (get_or other x.page 0))

-- ---- what each reason finds

unfoldable pub beyond_found : List ℕ → List ℕ → List ℕ → Option Way
beyond_found cs t m = lowest_way (select (λ w. not (ltb (page w) (pages_of t))) (ways cs t m))

unfoldable pub table_found : List ℕ → List ℕ → List ℕ → Option Way
table_found cs t m = lowest_way (select (λ w. grants w && (ltb (page w) (pages_of t) && has (page w) (table_pages (reach cs t m)))) (ways cs t m))

unfoldable pub touch_found : List ℕ → List ℕ → List ℕ → List ℕ → Option Way
touch_found cs os t m = lowest_way (select (λ w. spoils w && (ltb (page w) (pages_of t) && has (page w) (reached (reach cs t m)))) (ways os t m))
