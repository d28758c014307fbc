-- `ioapic::bus::send_eoi` meets its contract.
use mathlib.Core.Path.{ap, ◌∙◌}
use mathlib.Core.List.{List}
use Prim.Native.Nat.{ℕ}
use Rattle.apic.specs.Active.{eoi_sent}
use Rattle.ioapic.specs.IoApic.{eoi_received}
use Rattle.ioapic.specs.Bus.{send_eoi}
use Rattle.layout.proofs.Blocks.{part_done}
use Rattle.ioapic.proofs.bus.send_eoi.Goals as goal

pub returns : goal.returns
unfolding send_eoi
returns c =
    let a = c.args in
    c.end.ensures ∙ ap (eoi_received _) c.from.ensures
    ∙ ap (λ (t : List ℕ). eoi_received t a.v) (part_done a.t.now a.i c.block_at-a.result c.block_at-a.ensures (λ (b : List ℕ). eoi_sent b a.v) c.eoi_sent.new.b c.eoi_sent.ensures)
