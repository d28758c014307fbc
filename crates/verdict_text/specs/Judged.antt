-- All that the program `verdict` says, but for two lines about its stack: a text by its arguments and its input.
-- Assumes nothing.
use Rattle.std.specs.Prelude.{if◌then◌else◌, Bool, false, not, ◌&&◌, List, ℕ, ◌+◌, ◌*◌, eqb, ltb, length, take, drop}
use Rattle.word.specs.Bytes.{bytes_at, words_in}
use Rattle.layout.specs.Layout.{table_words, page_bytes, most_cores, most_pages}
use Rattle.tables.specs.Sound.{up_to}
use Rattle.judgement.specs.Report.{report_text}
use Rattle.verdict_text.specs.Arguments.{arguments_in, Question, Cores, NoCore, asked_from}
use Rattle.verdict_text.specs.Wrong as wrong

-- ---- the input: the table words of a machine, low byte first, and then its memory

-- words 0 and 1, the numbers of cores and of pages
abbrev pub input_cores : List ℕ → ℕ
input_cores input = bytes_at 4 input 0

abbrev pub input_pages : List ℕ → ℕ
input_pages input = bytes_at 4 input 4

-- how many bytes a machine has
abbrev pub machine_bytes : ℕ → ℕ → ℕ
machine_bytes cores pages = 4 * table_words cores + page_bytes * pages

-- what is said of the group g where words 0 and 1 are good
unfoldable pub of_machine : ℕ → List ℕ → ℕ → ℕ → List ℕ
of_machine g input cores pages =
    if ltb (length input) (machine_bytes cores pages) then wrong.cut_text (length input) cores pages (machine_bytes cores pages)
    else if ltb (machine_bytes cores pages) (length input) then wrong.long_text cores pages (machine_bytes cores pages)
    else report_text g (words_in (table_words cores) input) (drop (4 * table_words cores) input)

-- what is said of the group g
unfoldable pub of_input : ℕ → List ℕ → List ℕ
of_input g input =
    if ltb (length input) 8 then wrong.cut_head_text (length input)
    else if not (up_to most_cores (input_cores input)) then wrong.bad_cores_text (input_cores input)
    else if not (up_to most_pages (input_pages input)) then wrong.bad_pages_text (input_pages input)
    else of_machine g input (input_cores input) (input_pages input)

-- ---- the arguments: the cores of the group

-- with a zero byte after each
abbrev pub most_arguments : ℕ
most_arguments = 4096

-- what is said of an argument that names no core; of a long one 16 bytes are shown
abbrev pub no_core : List ℕ → List ℕ
no_core s = wrong.no_core_text (take 16 s) (ltb 16 (length s))

unfoldable pub answered : Question → List ℕ → List ℕ
answered (NoCore s) input = no_core s
answered (Cores g) input = if eqb g 0 then wrong.no_group_text else of_input g input

unfoldable pub judged : List ℕ → List ℕ → List ℕ
judged arguments input =
    if ltb most_arguments (length arguments) then wrong.long_arguments_text else answered (asked_from 0 (arguments_in arguments)) input

-- ---- whether the input counts: the law `unasked` of proofs/Said says that it does not elsewhere

abbrev pub names_group : Question → Bool
names_group (NoCore s) = false
names_group (Cores g) = not (eqb g 0)

unfoldable pub asks_input : List ℕ → Bool
asks_input arguments = not (ltb most_arguments (length arguments)) && names_group (asked_from 0 (arguments_in arguments))
