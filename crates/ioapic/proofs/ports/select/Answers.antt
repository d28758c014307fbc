-- `ioapic::ports::select` meets its contract.
use mathlib.Core.Path.{refl}
use Prim.Native.Nat.{◌+◌}
use native.Mathlib.Omega.{arith}
use lib.Seq.{get_or-set_other}
use Rattle.ioapic.specs.IoApic.{selected}
use Rattle.ioapic.proofs.ports.select.Goals as goal

pub returns : goal.returns
unfolding selected
returns c = rw (get_or-set_other c.args.t.now 4 (6 + c.args.v) c.args.v 0 (λ q. omega arith)) refl
