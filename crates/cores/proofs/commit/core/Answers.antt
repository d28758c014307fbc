use mathlib.Core.Path.{◌∙◌, refl}
use Rattle.cores.specs.Commit.{core_after}
use Rattle.cores.proofs.commit.core.Goals as goal

pub returns-in-Nothing : goal.returns-in-Nothing
unfolding core_after
returns-in-Nothing c = rw c.in-Nothing.is refl

pub returns-in-Interrupt : goal.returns-in-Interrupt
unfolding core_after
returns-in-Interrupt c = c.interrupt.ensures ∙ rw c.in-Interrupt.is refl

pub returns-in-Return : goal.returns-in-Return
unfolding core_after
returns-in-Return c = c.return_from.ensures ∙ rw c.in-Return.is refl

pub returns-in-Execute : goal.returns-in-Execute
unfolding core_after
returns-in-Execute c = c.execute.ensures ∙ rw c.in-Execute.is refl
