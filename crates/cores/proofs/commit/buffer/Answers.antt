use mathlib.Core.Path.{◌∙◌, refl}
use Rattle.cores.specs.Commit.{buffer_after}
use Rattle.cores.proofs.commit.buffer.Goals as goal

pub returns-in-Nothing : goal.returns-in-Nothing
unfolding buffer_after
returns-in-Nothing c = rw c.in-Nothing.is refl

pub returns-in-Put : goal.returns-in-Put
unfolding buffer_after
returns-in-Put c = c.put_store.ensures ∙ rw c.in-Put.is refl

pub returns-in-Take : goal.returns-in-Take
unfolding buffer_after
returns-in-Take c = c.take_store.ensures ∙ rw c.in-Take.is refl
