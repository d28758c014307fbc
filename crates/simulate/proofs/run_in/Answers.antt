use native.Mathlib.Omega.{arith}
use mathlib.Core.Path.{sym, ap, ◌∙◌}
use Prim.Native.Nat.{ℕ, ◌+◌, ◌*◌}
use lib.Seq.{length-take-le}
use Rattle.simulation.proofs.Fronts.{start_of}
use Rattle.simulate.proofs.run_in.Goals as goal

pub bounds-front-0 : goal.bounds-front-0
bounds-front-0 g c = omega (arith, (start_of _ c.requires).long)

pub slice_bounds-run-end : goal.slice_bounds-run-end
slice_bounds-run-end g c = omega (arith, c.wide.ensures.0, (start_of _ c.requires).few_cores)

pub slice_bounds-run-end-2 : goal.slice_bounds-run-end-2
slice_bounds-run-end-2 g c = sym (length-take-le _ _ (omega (arith, c.wide.ensures.0, (start_of _ c.requires).few_cores)))

pub run-requires : goal.run-requires
run-requires g c = (c.requires, length-take-le _ _ (omega (arith, c.wide.ensures.0, (start_of _ c.requires).few_cores)) ∙ ap (λ (k : ℕ). 32 + 256 * k) c.wide.ensures.0)
