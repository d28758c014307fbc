-- The lines for a reason why a group is not apart.
-- Assumes nothing.
use Rattle.std.specs.Prelude.{if◌then◌else◌, List, [], ◌++◌, ℕ, zero, suc, ◌+◌, ◌*◌, eqb, get_or}
use Rattle.io.specs.Digits.{last_digits}
use Rattle.text.specs.Text.{ascii, decimal}
use Rattle.ways.specs.Ways.{entry_place}
use Rattle.reasons.specs.Why.{why_number, why_after, why_reason, first_words, second_words}
use Rattle.reason_lines.specs.declared.Way.{Way}

-- the nine words of a way in an answer (`way_words`)
abbrev pub way_of : List ℕ → Way
way_of w =
    record {
      core = get_or w 0 0;
      page = get_or w 1 0;
      level = get_or w 2 0;
      start = get_or w 4 0;
      number = get_or w 5 0;
      entries = get_or w 6 0;
      first = get_or w 7 0;
      second = get_or w 8 0;
    }

-- the virtual page, or the first and the last, that entries of the tables from pto on translate
abbrev pub virtual_text : Way → List ℕ
virtual_text w =
    if eqb w.entries 0 then ascii ", the page in pto"
    else if eqb w.entries 1 then
    ascii ", virtual pages " ++ last_digits 16 5 (entry_place w.first * 1024) ++ ascii " to " ++ last_digits 16 5 (entry_place w.first * 1024 + 1023)
    else ascii ", virtual page " ++ last_digits 16 5 (entry_place w.first * 1024 + entry_place w.second)

-- where a way begins
unfoldable pub start_text : Way → List ℕ
start_text w =
    if eqb w.start 0 then virtual_text w
    else if eqb w.start 1 then ascii ", the walk in record " ++ decimal w.number
    else ascii ", the pending store in record " ++ decimal w.number

-- the addresses of the entries that it goes through
unfoldable pub entries_text : Way → List ℕ
entries_text w =
    if eqb w.entries 0 then []
    else if eqb w.entries 1 then ascii ", entry at " ++ last_digits 16 8 w.first
    else ascii ", entries at " ++ last_digits 16 8 w.first ++ ascii " and " ++ last_digits 16 8 w.second

unfoldable pub way_text : Way → List ℕ
way_text w = ascii "core " ++ decimal w.core ++ start_text w ++ entries_text w ++ ascii "\n"

-- a side, what it does, a page, and more of it; then the way
unfoldable pub spoil_text : List ℕ → List ℕ → Way → List ℕ
spoil_text does more w = does ++ decimal w.page ++ more ++ way_text w

abbrev pub user_text : Way → List ℕ
user_text w = ascii "core " ++ decimal w.core ++ ascii " is not running in user mode\n"

-- reason 6: the rest writes a page that the group reaches, or uses it as a table
abbrev pub touch_text : Way → List ℕ
touch_text w =
    if eqb w.level 0 then spoil_text (ascii "the rest can write page ") (ascii ", which the group reaches: ") w
    else spoil_text (ascii "the rest uses page ") (ascii ", which the group reaches, as a table: ") w

-- the line of a reason by its number
unfoldable pub fault_text : ℕ → Way → List ℕ
fault_text n w =
    if eqb n 1 then user_text w
    else if eqb n 2 then spoil_text (ascii "the group reaches page ") (ascii ", beyond memory: ") w
    else if eqb n 3 then spoil_text (ascii "the rest reaches page ") (ascii ", beyond memory: ") w
    else if eqb n 4 then spoil_text (ascii "the group can write its own table page ") (ascii ": ") w
    else if eqb n 5 then spoil_text (ascii "the rest can write its own table page ") (ascii ": ") w
    else touch_text w

-- reason 6 has a second line: how the group reaches the page
abbrev pub own_text : ℕ → Way → List ℕ
own_text n v = if eqb n 6 then spoil_text (ascii "the group reaches page ") (ascii ": ") v else []

unfoldable pub reason_text : ℕ → Way → Way → List ℕ
reason_text n w v = fault_text n w ++ own_text n v

-- the lines of the reasons after reason a, at most d of them
unfoldable pub reason_lines : ℕ → ℕ → ℕ → List ℕ → List ℕ → List ℕ
reason_lines zero a g t m = []
reason_lines (suc d) a g t m =
    if eqb (why_number (why_after a g t m)) 0 then []
    else
    reason_text (why_number (why_after a g t m)) (way_of (first_words (why_reason (why_after a g t m)))) (way_of (second_words (why_reason (why_after a g t m))))
    ++ reason_lines d (why_number (why_after a g t m)) g t m
