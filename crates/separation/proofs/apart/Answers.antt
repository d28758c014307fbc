-- `separation::apart` meets its contract: what a yes promises is demand 3.
-- Assumes nothing.
use mathlib.Core.Path.{sym, ap, ◌∙◌}
use native.Mathlib.Omega.{arith}
use Rattle.separation.specs.Apart.{verdict_number}
use Rattle.separation.specs.Separation.{machine_of}
use Rattle.separation.proofs.Separation.{separation}
use Rattle.separation.proofs.apart.Goals as goal

pub returns : goal.returns
returns c = record { value = c.judged.ensures; promised = λ h. separation c.args.group (machine_of c.args.t.now c.args.m.now) (record { words = λ i. omega (arith, c.type_inv.t i); bytes = λ i. omega (arith, c.type_inv.m i) }) (sym c.judged.ensures ∙ h); number = ap verdict_number c.judged.ensures }
