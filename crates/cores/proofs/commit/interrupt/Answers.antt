use mathlib.Core.Path.{◌∙◌, refl}
use Rattle.cores.proofs.commit.interrupt.Goals as goal

pub returns : goal.returns
returns c = c.jisr.ensures ∙ rw (c.put_registers.ensures.b_after, c.interrupt.ensures, c.registers-c.ensures) refl
