-- What the two sides do with each page, by the bytes of their maps: how many pages, and a picture with one mark a page.
-- Assumes nothing.
use Rattle.std.specs.Prelude.{if◌then◌else◌, Bool, ◌&&◌, ◌||◌, not, List, [], ◌∷◌, ◌++◌, ℕ, zero, suc, ◌+◌, ◌-◌, ◌*◌, ◌/◌, min, eqb, length, get_or}
use Prim.Native.Char.{code}
use Rattle.word.specs.Word.{is_set, flag}
use Rattle.text.specs.Text.{ascii, padded}

-- a byte of a map: 2 for a table, 1 for a data page, 4 for a writable page
abbrev pub is_reached : ℕ → Bool
is_reached x = not (eqb x 0)

abbrev pub can_write : ℕ → Bool
can_write x = is_set x 2

abbrev pub is_table : ℕ → Bool
is_table x = is_set x 1

-- how many pages pass a test
unfoldable pub count_of : (ℕ → Bool) → List ℕ → ℕ
count_of p [] = 0
count_of p (x ∷ l) = flag (p x) + count_of p l

-- a page whose byte is x for the group and y for the rest spoils the verdict: one side both writes it and uses it as a
-- table, or the group reaches it and the rest writes it or uses it as a table
unfoldable pub page_spoils : ℕ → ℕ → Bool
page_spoils x y = (can_write x && is_table x) || ((can_write y && is_table y) || (is_reached x && (can_write y || is_table y)))

-- what one side does with a page that it reaches: a table before a writable page before any other
unfoldable pub letter_of : ℕ → ℕ → ℕ → ℕ → ℕ
letter_of x t w r = if is_table x then t else if can_write x then w else r

-- the mark of such a page
unfoldable pub mark_of : ℕ → ℕ → ℕ
mark_of x y =
    if page_spoils x y then code "!"
    else if is_reached x then
    if is_reached y then
    if can_write x || is_table x then code "+"
    else code "="
    else letter_of x (code "t") (code "w") (code "r")
    else if is_reached y then letter_of y (code "T") (code "W") (code "R")
    else code "."

-- the marks of n pages from page a on
unfoldable pub mark_row : List ℕ → List ℕ → ℕ → ℕ → List ℕ
mark_row own other a zero = []
mark_row own other a (suc n) = mark_row own other a n ++ (mark_of (get_or own (a + n) 0) (get_or other (a + n) 0) ∷ [])

-- row n: the number of its first page and the marks of up to 64
unfoldable pub row : List ℕ → List ℕ → ℕ → List ℕ
row own other n = padded 4 (64 * n) ++ ascii " " ++ mark_row own other (64 * n) (min 64 (length own - 64 * n)) ++ ascii "\n"

-- the first n rows, and all
unfoldable pub rows : List ℕ → List ℕ → ℕ → List ℕ
rows own other zero = []
rows own other (suc n) = rows own other n ++ row own other n

abbrev pub picture : List ℕ → List ℕ → List ℕ
picture own other = rows own other ((length own + 63) / 64)
