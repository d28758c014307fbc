use mathlib.Core.Path.{refl}
use borrow.Author.Tests.{eq-eqb, ne_eqb}
use Rattle.cores.proofs.access.exchanged.Goals as goal

pub returns-then-read-general : goal.returns-then-read-general
returns-then-read-general c = rw (c.general-then-read-general.ensures, c.rt.ensures, ← c.rd.ensures, ← c.general.ensures, eq-eqb _ _ c.if-read-general.true) refl

pub returns : goal.returns
returns c = rw (← c.rd.ensures, ← c.general.ensures, ne_eqb _ _ c.if-read-general.false) refl
