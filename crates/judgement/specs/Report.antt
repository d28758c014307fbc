-- What is said of a group: the report, or the one line of a refusal.
-- Assumes nothing.
use Rattle.std.specs.Prelude.{if◌then◌else◌, Bool, true, false, ◌&&◌, not, List, [], ◌∷◌, ◌++◌, ℕ, eqb, Result, Ok, Err}
use Rattle.word.specs.Word.{is_set}
use Rattle.layout.specs.Blocks.{block}
use Rattle.text.specs.Text.{ascii, decimal}
use Rattle.tables.specs.Views.{cores_of, runs}
use Rattle.reach.specs.Lists.{range, select}
use Rattle.reach.specs.Reach.{members, map_for}
use Rattle.separation.specs.Apart.{rest, apart_on}
use Rattle.refusals.specs.declared.Refusal.{Refusal}
use Rattle.refusals.specs.Numbers.{number}
use Rattle.picture.specs.Pages.{picture}
use Rattle.picture.specs.Lines.{cores_text, side_text, legend_text}
use Rattle.reason_lines.specs.Reasons.{reason_lines}

-- ---- a refusal

abbrev pub refused_why : ℕ → List ℕ
refused_why n =
    if eqb n 4 then ascii ": the tables are not sound\n"
    else if eqb n 13 then ascii ": a core of the group is not there\n"
    else ascii "\n"

unfoldable pub refused_text : ℕ → List ℕ
refused_text n = ascii "refused " ++ decimal n ++ refused_why n

-- ---- the report

-- the lines of the sides, by their cores, and the picture of their maps
abbrev pub shown_sides : List ℕ → List ℕ → List ℕ → List ℕ → List ℕ
shown_sides group others own other =
    side_text (ascii "group: ") group own ++ side_text (ascii "rest: ") others other ++ picture own other ++ legend_text

unfoldable pub sides_text : ℕ → List ℕ → List ℕ → List ℕ
sides_text g t m =
    shown_sides (members g (cores_of t)) (rest g t) (map_for (members g (cores_of t)) t m) (map_for (rest g t) t m)

-- core k is outside the group and does not run: it is of neither side, so it is not judged
abbrev pub is_stopped : ℕ → List ℕ → ℕ → Bool
is_stopped g t k = not (is_set g k) && not (runs (block t k))

unfoldable pub not_judged : ℕ → List ℕ → List ℕ
not_judged g t = select (is_stopped g t) (range (cores_of t))

-- their line, where there are any
unfoldable pub stopped_text : List ℕ → List ℕ
stopped_text [] = []
stopped_text (k ∷ l) = ascii "not running, so not judged: " ++ cores_text (k ∷ l) ++ ascii "\n"

-- the words of the verdict, below the line of the cores that are not judged
abbrev pub closing_text : ℕ → List ℕ → List ℕ → List ℕ
closing_text g t words = stopped_text (not_judged g t) ++ words

-- what is said of a verdict; there are at most six reasons
unfoldable pub said_of : Result Bool Refusal → ℕ → List ℕ → List ℕ → List ℕ
said_of (Err r) g t m = refused_text (number r)
said_of (Ok true) g t m = sides_text g t m ++ closing_text g t (ascii "apart\n")
said_of (Ok false) g t m = sides_text g t m ++ reason_lines 6 0 g t m ++ closing_text g t (ascii "not apart\n")

-- the report on the group g of the machine with tables t and memory m
unfoldable pub report_text : ℕ → List ℕ → List ℕ → List ℕ
report_text g t m = said_of (apart_on g t m) g t m
