-- `ioapic::ports::window` meets its contract.
use mathlib.Core.Path.{refl}
use borrow.Author.Tests.{lt-ltb, le-ltb}
use Rattle.ioapic.specs.IoApic.{windowed}
use Rattle.ioapic.proofs.ports.window.Goals.{then-i-lt24, else-i-lt24}
use Rattle.ioapic.proofs.ports.window.Goals as goal

pub returns : goal.returns
unfolding windowed
returns c =
    elim c.if-i-lt24.branch [ then-i-lt24 w ↦ rw (lt-ltb _ _ w.if-i-lt24.true, w.t-is) refl | else-i-lt24 w ↦ rw (le-ltb _ _ w.if-i-lt24.false, w.t-is) refl ]
