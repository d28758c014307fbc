-- The lines of a report on a group: each side, and what the marks mean.
-- Assumes nothing.
use Rattle.std.specs.Prelude.{if◌then◌else◌, List, [], ◌∷◌, ◌++◌, ℕ, ◌+◌, eqb, length}
use Rattle.text.specs.Text.{ascii, decimal}
use Rattle.picture.specs.Pages.{count_of, is_reached, can_write, is_table}

-- a core's number is a digit; each has a blank before it
unfoldable pub listed : List ℕ → List ℕ
listed [] = []
listed (k ∷ l) = 32 ∷ (48 + k) ∷ listed l

abbrev pub core_word : ℕ → List ℕ
core_word n = if eqb n 0 then ascii "no cores" else if eqb n 1 then ascii "core" else ascii "cores"

unfoldable pub cores_text : List ℕ → List ℕ
cores_text l = core_word (length l) ++ listed l

abbrev pub pages_text : ℕ → List ℕ
pages_text n = decimal n ++ (if eqb n 1 then ascii " page" else ascii " pages")

abbrev pub tables_text : ℕ → List ℕ
tables_text n = decimal n ++ (if eqb n 1 then ascii " as a table" else ascii " as tables")

-- how many pages of a map are reached, written and used as tables
unfoldable pub tally_text : List ℕ → List ℕ
tally_text map =
    ascii "; reaches " ++ pages_text (count_of is_reached map) ++ ascii ", writes " ++ decimal (count_of can_write map) ++ ascii ", uses "
    ++ tables_text (count_of is_table map)
    ++ ascii "\n"

-- a side by its name, its cores and its map
unfoldable pub side_text : List ℕ → List ℕ → List ℕ → List ℕ
side_text name cores map = name ++ cores_text cores ++ tally_text map

unfoldable pub legend_text : List ℕ
legend_text =
    ascii "r w t: the group reads it, writes it, uses it as a table; R W T: the rest does\n"
    ++ ascii "=: both read it; +: the group writes it or uses it as a table, the rest reads it\n"
    ++ ascii "!: it spoils the verdict; .: neither the group nor the rest reaches it\n"
