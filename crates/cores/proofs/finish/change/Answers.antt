use mathlib.Core.Path.{refl}
use Rattle.cores.proofs.finish.change.Goals as goal

pub returns-then-is_return : goal.returns-then-is_return
returns-then-is_return c = rw (← c.is_return.ensures, c.if-is_return.true) refl

pub returns : goal.returns
returns c = rw (← c.is_return.ensures, c.if-is_return.false) refl
