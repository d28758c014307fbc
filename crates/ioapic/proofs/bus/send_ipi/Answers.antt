-- `ioapic::bus::send_ipi` meets its contract.
use mathlib.Core.Path.{ap, ◌∙◌}
use Rattle.apic.specs.Active.{idle}
use Rattle.ioapic.specs.Bus.{broadcast, send_ipi}
use Rattle.layout.proofs.Blocks.{part_done}
use Rattle.ioapic.proofs.bus.send_ipi.Goals as goal

pub returns : goal.returns
unfolding send_ipi
returns c =
    let a = c.args in
    c.broadcast.ensures
    ∙ ap (broadcast a.n a.i a.m) (part_done a.t.now a.i c.block_at-a.result c.block_at-a.ensures idle c.idle.new.b c.idle.ensures)
