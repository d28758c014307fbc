-- The active steps of 11.3 that go over the interrupt bus, on the tables of n cores.
-- Assumes nothing.
use Rattle.std.specs.Prelude.{if◌then◌else◌, List, ℕ, eqb}
use Rattle.apic.specs.declared.active.Ipi.{Ipi}
use Rattle.apic.specs.LocalApic.{id_of, fixed}
use Rattle.apic.specs.Active.{idle, received_by, eoi_sent}
use Rattle.ioapic.specs.Blocks.{on_block, on_blocks}
use Rattle.ioapic.specs.IoApic.{entry, dest, vect, eoi_received, handed}

-- an interrupt from core i reaches its targets
unfoldable pub broadcast : ℕ → ℕ → Ipi → List ℕ → List ℕ
broadcast n i m t = on_blocks (λ (j : ℕ) (b : List ℕ). received_by m (eqb j i) b) n t

-- apic-sendIPI: core i sends m
unfoldable pub send_ipi : ℕ → ℕ → Ipi → List ℕ → List ℕ
send_ipi n i m t = broadcast n i m (on_block idle i t)

-- apic-sendEOI: core i sends the EOI message for vector v
unfoldable pub send_eoi : ℕ → ℕ → List ℕ → List ℕ
send_eoi i v t = eoi_received (on_block (λ (b : List ℕ). eoi_sent b v) i t) v

-- ioapic-deliver: the interrupt of line k goes to every local APIC whose ID is the entry's destination
unfoldable pub deliver : ℕ → ℕ → List ℕ → List ℕ
deliver n k t =
    on_blocks (λ (j : ℕ) (b : List ℕ). if eqb (id_of b) (dest (entry t k)) then fixed b (vect (entry t k)) else b) n (handed t k)
