-- The local APIC of a core, on the words of the core's block (section 9).
-- Assumes nothing.
use Rattle.std.specs.Prelude.{if◌then◌else◌, List, ℕ, ◌+◌, ◌/◌, ◌%◌, ◌^◌, get_or, set, eqb, Option}
use Rattle.layout.specs.Layout.{ports, eoipending, sipirr, sipivect, initrr}
use Rattle.apic.specs.declared.local.Kind.{Kind}
use Rattle.apic.specs.declared.local.Kind.TheVariants.{Fixed, Init, Startup}
use Rattle.vector_register.specs.Vectors.{bit_at, with_vector, least, lowest, marked, some_up_to}

-- ---- 9.1.1: the ports; a word port at byte a is one word

abbrev pub port_at : ℕ → ℕ
port_at a = ports + a / 4

abbrev pub apic_id : ℕ
apic_id = port_at 0

-- 64 bits: this word and the next
abbrev pub icr : ℕ
icr = port_at 4

abbrev pub eoi : ℕ
eoi = port_at 12

abbrev pub isr : ℕ
isr = port_at 16

abbrev pub irr : ℕ
irr = port_at 48

-- the local APIC ID: bits 27 to 24
abbrev pub id_of : List ℕ → ℕ
id_of b = get_or b apic_id 0 / 2 ^ 24 % 16

-- ---- definition 66: the external event signals

abbrev pub eev : List ℕ → ℕ → ℕ
eev b j = if some_up_to (λ (k : ℕ). bit_at b isr k) j then 0 else bit_at b irr j

-- min { j | eev[j] = 1 }: whether there is an external event, and which (definition 54)
unfoldable pub event : List ℕ → Option ℕ
event b = least (λ (j : ℕ). eev b j) 256 0

-- ---- 9.2: the passive steps

-- (12, v): a write of EOI
unfoldable pub eoi_written : List ℕ → ℕ → List ℕ
eoi_written b v = marked (marked (set b eoi v) isr (lowest b isr) 0) eoipending (lowest b isr) 1

-- (a, v): a word written at port byte a, a multiple of four
unfoldable pub port_written : List ℕ → ℕ → ℕ → List ℕ
port_written b a v = if eqb a 12 then eoi_written b v else set b (port_at a) v

-- (Fixed, vect)
abbrev pub fixed : List ℕ → ℕ → List ℕ
fixed b v = with_vector b irr v 1

-- (SIPI, vect): discarded while one is pending
unfoldable pub startup : List ℕ → ℕ → List ℕ
startup b v = if eqb (get_or b sipirr 0) 0 then set (set b sipirr 1) sipivect v else b

-- (INIT, vect): discarded while one is pending
unfoldable pub init : List ℕ → List ℕ
init b = if eqb (get_or b initrr 0) 0 then set b initrr 1 else b

abbrev pub received : List ℕ → Kind → ℕ → List ℕ
received b Fixed v = fixed b v
received b Init v = init b
received b Startup v = startup b v

unfoldable pub on_jisr : List ℕ → List ℕ
on_jisr b = marked (marked b irr (lowest b irr) 0) isr (lowest b irr) 1

unfoldable pub on_rfe : List ℕ → List ℕ
on_rfe b = marked b isr (lowest b isr) 0
