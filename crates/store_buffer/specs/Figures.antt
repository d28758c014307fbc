-- The starred figures of the store buffer (01, 'Figures at the edges').
-- Assumes nothing.
use Rattle.std.specs.Prelude.{ℕ, ◌^◌, List, [], ◌∷◌, Result, Ok, Err}
use Rattle.records.specs.declared.Store.{Store}
use Rattle.store_buffer.specs.declared.Loaded.{Loaded}
use Rattle.store_buffer.specs.declared.LoadError.{LoadError}
use Rattle.store_buffer.specs.System.{loaded}

-- word 11223344 stored at 100, then byte AA at 101
abbrev pub pending : List Store
pending =
    record { address = 0x100; value = 0x11223344; width = 4 }
    ∷ record { address = 0x101; value = 0xaa; width = 1 }
    ∷ []

-- what a load of d bytes at a gives, with no memory beneath
abbrev pub pending_load : ℕ → ℕ → Result Loaded LoadError
pending_load a d = loaded pending (record { apic = []; select = 0; window = 0 }) [] a d

-- the value as a row of a table of figures; no word where there is none
abbrev pub value_of : Result Loaded LoadError → ℕ
value_of (Ok l) = l.value
value_of (Err e) = 2 ^ 32
