-- What pending stores and walks may hold (01, 'Sound tables'; the report, section 5 and definitions 56, 71 and 73).
-- Assumes nothing.
use Rattle.std.specs.Prelude.{ℕ, zero, suc, ◌+◌, ◌/◌, ◌%◌, ◌^◌, Bool, true, ◌&&◌, ◌||◌, List, eqb, ltb, leb}
use Rattle.layout.specs.Layout.{local_ports, local_port_bytes, io_ports, io_port_bytes}
use Rattle.records.specs.declared.Store.{Store}
use Rattle.records.specs.declared.Walk.{Walk}
use Rattle.records.specs.Records.{all, linked, stores, walks, differing, level_of}

-- definition 71: a byte of a local APIC's ports; definition 73: of the I/O APIC's
abbrev pub local_port : ℕ → Bool
local_port a = leb local_ports a && ltb a (local_ports + local_port_bytes)

abbrev pub io_port : ℕ → Bool
io_port a = leb io_ports a && ltb a (io_ports + io_port_bytes)

-- a byte in memory of n bytes, or in a port
abbrev pub there : ℕ → ℕ → Bool
there n a = ltb a n || (io_port a || local_port a)

-- each of the d bytes from a
abbrev pub all_there : ℕ → ℕ → ℕ → Bool
all_there zero n a = true
all_there (suc d) n a = there n a && all_there d n (a + 1)

-- a store is 1, 2 or 4 bytes wide, aligned, its unused high value bits are zero, and each of its bytes is there
unfoldable pub store_sound : ℕ → Store → Bool
store_sound n s =
    (eqb s.width 1 || (eqb s.width 2 || eqb s.width 4))
    && (eqb (s.address % s.width) 0 && (ltb s.value (256 ^ s.width) && all_there s.width n s.address))

-- a walk's level is 0 to 2, bit 5 of its first word is zero, and its base page has 20 bits
unfoldable pub walk_sound : Walk → Bool
walk_sound w = leb (level_of w.first) 2 && (eqb (w.first / 32 % 2) 0 && ltb w.second (2 ^ 20))

-- the records of a block are sound, where memory has n bytes
unfoldable pub sound_records : ℕ → List ℕ → Bool
sound_records n b = linked b && (all (store_sound n) (stores b) && (all walk_sound (walks b) && differing (walks b)))
