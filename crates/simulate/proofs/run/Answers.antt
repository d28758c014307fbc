use native.Mathlib.Omega.{arith}
use Rattle.simulation.proofs.Fronts.{start_of}
use Rattle.simulate.proofs.run.Goals as goal

pub slice_bounds-take_input-end : goal.slice_bounds-take_input-end
slice_bounds-take_input-end g c = let S = start_of _ c.requires.0 in omega (arith, S.whole, S.asked_is, c.memory_bytes-end.ensures.0)
