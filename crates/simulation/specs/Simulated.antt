-- All that the run program says: a text by its input (01, 'The run program reads from standard input').
-- Assumes nothing.
use Rattle.std.specs.Prelude.{if◌then◌else◌, Bool, ◌&&◌, List, [], ◌++◌, ℕ, zero, suc, ◌+◌, ◌-◌, ◌*◌, ◌/◌, ◌%◌, eqb, leb, length, take, drop, get_or, is_ok}
use Rattle.word.specs.Word.{flag}
use Rattle.word.specs.Bytes.{words_in}
use Rattle.text.specs.Text.{ascii}
use Rattle.layout.specs.Layout.{page_bytes, most_cores}
use Rattle.tables.specs.Sound.{up_to}
use Rattle.tables.specs.Make.{made}
use Rattle.machine.specs.Step.{Stepped, step}
use Rattle.lines.specs.Lines.{line_text, end_text}

-- ---- the front of the input: a byte of cores, one of pages, 1 to 8, and the memory

abbrev pub cores_byte : List ℕ → ℕ
cores_byte input = get_or input 0 0

abbrev pub pages_byte : List ℕ → ℕ
pages_byte input = get_or input 1 0

abbrev pub memory_bytes : List ℕ → ℕ
memory_bytes input = page_bytes * pages_byte input

-- two bytes in their ranges
unfoldable pub is_sized : List ℕ → Bool
is_sized input = leb 2 (length input) && (up_to most_cores (cores_byte input) && up_to 8 (pages_byte input))

-- and a whole memory after them
unfoldable pub is_started : List ℕ → Bool
is_started input = is_sized input && leb (2 + memory_bytes input) (length input)

-- ---- the steps, 24 bytes each

-- a machine, and how many steps it has accepted
pub record Progress : Type 0 where
  pub tables : List ℕ
  pub memory : List ℕ
  pub accepted : ℕ

abbrev pub from : List ℕ → List ℕ → ℕ → Progress
from t m n = record { tables = t; memory = m; accepted = n }

-- the step whose six words begin at a byte
abbrev pub step_at : Progress → List ℕ → ℕ → Stepped
step_at p b at = step p.tables p.memory (words_in 6 (drop at b))

abbrev pub stepped : Progress → Stepped → Progress
stepped p s = from s.tables s.memory (p.accepted + flag (is_ok s.answer))

-- after the first n steps
unfoldable pub after_steps : ℕ → Progress → List ℕ → Progress
after_steps zero p b = p
after_steps (suc n) p b = stepped (after_steps n p b) (step_at (after_steps n p b) b (24 * n))

-- a line for each of the first n steps, of which the first has the number `place`
unfoldable pub step_lines : ℕ → ℕ → Progress → List ℕ → List ℕ
step_lines zero place p b = []
step_lines (suc n) place p b = step_lines n place p b ++ line_text (place + n) (step_at (after_steps n p b) b (24 * n)).answer

-- ---- the text

-- the first line
abbrev pub first_text : List ℕ → List ℕ
first_text input = if is_started input then ascii "step answer\n" else ascii "bad\n"

-- below the lines of n steps, some bytes that are no whole step may be left
unfoldable pub last_text : ℕ → ℕ → ℕ → List ℕ
last_text n accepted left = (if eqb left 0 then [] else ascii "cut\n") ++ end_text accepted (n - accepted)

-- at the start: tables as they are made, the memory of the input, no step accepted
abbrev pub started : List ℕ → Progress
started input = from (made (cores_byte input) (pages_byte input)) (take (memory_bytes input) (drop 2 input)) 0

-- what is said of n steps in b
abbrev pub steps_text : ℕ → Progress → List ℕ → List ℕ
steps_text n p b = step_lines n 0 p b ++ last_text n (after_steps n p b).accepted (length b % 24)

-- where the steps stand
abbrev pub steps_in : List ℕ → List ℕ
steps_in input = drop (2 + memory_bytes input) input

unfoldable pub simulated : List ℕ → List ℕ
simulated input = first_text input ++ (if is_started input then steps_text (length (steps_in input) / 24) (started input) (steps_in input) else [])
