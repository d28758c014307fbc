-- What the starred figure of the local APIC finds: ISR holds vectors 5 and 9, and an EOI clears 5. The crate starred
-- has its row.
-- Assumes nothing.
use Rattle.std.specs.Prelude.{List, ℕ, ◌+◌, ◌^◌, get_or, set, replicate}
use Rattle.apic.specs.LocalApic.{isr, port_written}

-- a block with both in service
abbrev pub in_service : List ℕ
in_service = set (replicate 256 0) isr (2 ^ 5 + 2 ^ 9)

-- the word of ISR that holds them, after EOI has been written at its port
abbrev pub isr_after_eoi : ℕ
isr_after_eoi = get_or (port_written in_service 12 0) isr 0
