use mathlib.Core.Path.{◌∙◌, refl}
use Rattle.cores.specs.Commit.{core_after}
use Rattle.cores.proofs.commit.return_from.Goals as goal

pub returns : goal.returns
unfolding core_after
returns c = c.rfe.ensures ∙ rw (c.put_registers.ensures.b_after, c.eret.ensures, c.registers-c.ensures) refl
