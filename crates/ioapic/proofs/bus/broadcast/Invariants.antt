-- `ioapic::bus::broadcast` meets its contract. The invariant: the cores below j are done.
use mathlib.Core.Path.{◌≡◌}
use mathlib.Core.List.{List}
use Prim.Native.Nat.{ℕ}
use lib.Dec.{eqb}
use Rattle.apic.specs.Active.{received_by}
use Rattle.ioapic.specs.Blocks.{on_blocks}
use Rattle.ioapic.proofs.bus.broadcast.Given as goal

abbrev pub invariant-loop-j : goal.invariant-loop-j
invariant-loop-j l =
    l.t ≡ on_blocks (λ (k : ℕ) (b : List ℕ). received_by l.m (eqb k l.i) b) l.j l.initial.t
