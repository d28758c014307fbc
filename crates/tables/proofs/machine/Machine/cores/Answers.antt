-- `tables::machine::Machine::cores` meets its contract.
-- Assumes nothing.
use mathlib.Core.Path.{refl}
use native.Mathlib.Omega.{arith}
use Rattle.tables.proofs.Lift.{header}
use Rattle.tables.proofs.machine.Machine.cores.Goals as goal

pub bounds-self-0 : goal.bounds-self-0
bounds-self-0 c = omega (arith, (header _ _ c.args.self.now.is_sound).long)

pub returns : goal.returns
returns c = let h = header _ _ c.args.self.now.is_sound in (refl, h.some_cores, h.few_cores)
