use mathlib.Core.Path.{refl}
use borrow.Author.Tests.{eq-eqb, ne_eqb}
use Rattle.cores.specs.Plans.{finished}
use Rattle.cores.proofs.finish.finished.Goals as goal

pub returns-then-f-ne0 : goal.returns-then-f-ne0
unfolding finished
returns-then-f-ne0 c = rw (c.interrupted.ensures, ne_eqb _ _ c.if-f-ne0.true) refl

pub returns : goal.returns
unfolding finished
returns c = rw (c.change-core.ensures, eq-eqb _ _ c.if-f-ne0.false) refl
