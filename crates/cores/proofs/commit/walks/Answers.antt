use mathlib.Core.Path.{◌∙◌, refl}
use Rattle.cores.specs.Commit.{walks_after}
use Rattle.cores.proofs.commit.walks.Goals as goal

pub returns-in-Nothing : goal.returns-in-Nothing
unfolding walks_after
returns-in-Nothing c = rw c.in-Nothing.is refl

pub returns-in-Add : goal.returns-in-Add
unfolding walks_after
returns-in-Add c = c.add_walk.ensures ∙ rw c.in-Add.is refl

pub returns-in-Drop : goal.returns-in-Drop
unfolding walks_after
returns-in-Drop c = c.drop_walks.ensures ∙ rw c.in-Drop.is refl
