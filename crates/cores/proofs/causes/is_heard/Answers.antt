use mathlib.Core.Path.{refl}
use borrow.Author.Tests.{ne_eqb}
use Rattle.word.proofs.Tests.{and_false}
use Rattle.apic.specs.LocalApic.{event}
use Rattle.cores.specs.Core.{is_event}
use Rattle.cores.proofs.causes.is_heard.Goals as goal

pub returns-then-status-eq1 : goal.returns-then-status-eq1
returns-then-status-eq1 c = rw (c.is_some.ensures, c.event.ensures) refl

pub returns : goal.returns
returns c = rw (ne_eqb _ _ c.if-status-eq1.false, and_false (is_event (event _))) refl
