use Rattle.cores.proofs.Adding.{whole}
use native.Mathlib.Omega.{arith}
use Rattle.cores.proofs.access.low.Goals as goal

pub returns-in_default : goal.returns-in_default
returns-in_default c = whole c.args.width c.args.v c.requires (λ e. omega arith) (λ e. omega arith) (omega arith)
