-- What the functions inside apart answer, core by core and page by page. It serves contracts inside alone:
-- `users_are` and `pages_decide` of proofs/Deciding tie it to Apart.
-- Assumes nothing.
use Rattle.std.specs.Prelude.{Bool, ◌&&◌, ◌||◌, not, List, ℕ, eqb}
use Rattle.word.specs.Word.{is_set}
use Rattle.layout.specs.Blocks.{block}
use Rattle.tables.specs.Views.{runs, user_mode}
use Rattle.separation.specs.Apart.{runs_as_user}

-- a core, by whether it is of the group and by its block, is of neither side, or it is running in user mode
abbrev pub block_passes : Bool → List ℕ → Bool
block_passes member b = not (member || runs b) || (runs b && user_mode b)

-- core k is of neither side, or it is running in user mode
abbrev pub passes : ℕ → List ℕ → ℕ → Bool
passes g t k = not (is_set g k || runs (block t k)) || runs_as_user t k

-- a byte of the map has 2 and 4
abbrev pub both : ℕ → Bool
both x = is_set x 1 && is_set x 2

-- a page whose byte is x for the group and y for the rest: not writable and table for one, nor reached by the group and
-- writable or table for the rest
unfoldable pub page_apart : ℕ → ℕ → Bool
page_apart x y = not (both x) && (not (both y) && not (not (eqb x 0) && (is_set y 2 || is_set y 1)))
