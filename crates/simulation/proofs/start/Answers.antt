use native.Mathlib.Omega.{arith}
use mathlib.Core.Path.{◌∙◌}
use Rattle.simulation.proofs.Fronts.{start_of, makes, memory_length}
use Rattle.simulation.proofs.start.Goals as goal

pub bounds-input-0 : goal.bounds-input-0
bounds-input-0 c = omega (arith, (start_of _ c.requires.0).long)

pub slice_bounds-make-end : goal.slice_bounds-make-end
slice_bounds-make-end c = omega (arith, (start_of _ c.requires.0).whole, (start_of _ c.requires.0).asked_is, c.memory_bytes-end.ensures.0)

pub returns : goal.returns
returns c = let S = start_of _ c.requires.0 in c.make.ensures.tables_after ∙ makes _ S _ _ _ _ c.wide-cores.ensures.0 (memory_length _ S c.args.t.now _ c.memory_bytes-end.ensures.0) c.requires.1
