use mathlib.Core.Path.{refl}
use Rattle.cores.proofs.finish.interrupted.Goals as goal

pub returns : goal.returns
returns c = rw (c.from.ensures, c.unwrap_or.ensures, c.event.ensures, c.level.ensures) refl
