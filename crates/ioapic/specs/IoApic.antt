-- The I/O APIC on the header words of the tables (section 10).
-- Assumes nothing.
use Rattle.std.specs.Prelude.{if◌then◌else◌, Bool, ◌&&◌, ◌||◌, List, ℕ, zero, suc, ◌+◌, ◌/◌, ◌%◌, ◌^◌, get_or, set, eqb, ltb}
use Rattle.word.specs.Word.{bit, with_bit}
use Rattle.layout.specs.Layout.{lines, ioregsel, iowin, redirect}

-- ---- 10.1: the redirect table and its fields

abbrev pub entry : List ℕ → ℕ → ℕ
entry t i = get_or t (redirect + i) 0

abbrev pub with_entry : List ℕ → ℕ → ℕ → List ℕ
with_entry t i e = set t (redirect + i) e

abbrev pub dest : ℕ → ℕ
dest e = e / 2 ^ 24

abbrev pub vect : ℕ → ℕ
vect e = e % 2 ^ 8

-- the places of three bits
abbrev pub mask : ℕ
mask = 16

abbrev pub rirr : ℕ
rirr = 14

abbrev pub ds : ℕ
ds = 12

-- ---- 10.2: the passive steps

-- whether a write of v at port a has a next state
abbrev pub writes : ℕ → ℕ → Bool
writes a v = (eqb a 0 && ltb v 24) || eqb a 4

-- (0, v): the select register, where v is below 24
unfoldable pub selected : List ℕ → ℕ → List ℕ
selected t v = set (set t ioregsel v) iowin (entry t v)

-- (4, v): the data register, and the entry that is selected, if it is one of the 24
unfoldable pub windowed : List ℕ → ℕ → List ℕ
windowed t v = set (if ltb (get_or t ioregsel 0) 24 then with_entry t (get_or t ioregsel 0) v else t) iowin v

unfoldable pub io_written : List ℕ → ℕ → ℕ → List ℕ
io_written t a v = if eqb a 0 then selected t v else windowed t v

-- f at each of the first n entries
unfoldable pub on_entries : (ℕ → ℕ) → ℕ → List ℕ → List ℕ
on_entries f zero t = t
on_entries f (suc i) t = with_entry (on_entries f i t) i (f (entry (on_entries f i t) i))

abbrev pub acknowledged : ℕ → ℕ → ℕ
acknowledged v e = if eqb (vect e) v then with_bit e rirr 0 else e

-- vect: an EOI message
unfoldable pub eoi_received : List ℕ → ℕ → List ℕ
eoi_received t v = on_entries (acknowledged v) 24 t

-- ---- 11.3: ioapic-sample, and what ioapic-deliver does to the I/O APIC

abbrev pub may_sample : List ℕ → ℕ → Bool
may_sample t k = eqb (bit (get_or t lines 0) k) 1 && eqb (bit (entry t k) mask) 0 && eqb (bit (entry t k) rirr) 0

unfoldable pub sampled : List ℕ → ℕ → List ℕ
sampled t k = with_entry t k (with_bit (entry t k) ds 1)

abbrev pub may_deliver : List ℕ → ℕ → Bool
may_deliver t k = eqb (bit (entry t k) ds) 1

unfoldable pub handed : List ℕ → ℕ → List ℕ
handed t k = with_entry t k (with_bit (with_bit (entry t k) ds 0) rirr 1)
