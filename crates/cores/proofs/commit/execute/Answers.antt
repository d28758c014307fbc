use mathlib.Core.Path.{◌∙◌, refl}
use Rattle.cores.specs.Commit.{core_after}
use Rattle.cores.proofs.commit.execute.Goals as goal

pub returns : goal.returns
unfolding core_after
returns c = c.put_registers.ensures.b_after ∙ rw (c.execute.ensures, c.registers-c.ensures) refl
