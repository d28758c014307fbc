-- `ioapic::ports::end` meets its contract. The invariant: the entries below i are done.
use mathlib.Core.Path.{◌≡◌}
use Rattle.ioapic.specs.IoApic.{on_entries, acknowledged}
use Rattle.ioapic.proofs.ports.end.Given as goal

abbrev pub invariant-loop-i : goal.invariant-loop-i
invariant-loop-i l = l.t ≡ on_entries (acknowledged l.v) l.i l.initial.t
