-- `tables::machine::Machine::pages` meets its contract.
-- Assumes nothing.
use mathlib.Core.Path.{refl}
use native.Mathlib.Omega.{arith}
use Rattle.tables.proofs.Lift.{header}
use Rattle.tables.proofs.machine.Machine.pages.Goals as goal

pub bounds-self-1 : goal.bounds-self-1
bounds-self-1 c = omega (arith, (header _ _ c.args.self.now.is_sound).long)

pub returns : goal.returns
returns c = let h = header _ _ c.args.self.now.is_sound in (refl, h.some_pages, h.few_pages, h.bytes)
