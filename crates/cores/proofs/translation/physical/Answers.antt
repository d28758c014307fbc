use Rattle.cores.proofs.Held.{used_base}
use mathlib.Core.Path.{refl}
use native.Mathlib.Omega.{arith}
use Rattle.cores.proofs.translation.physical.Goals as goal

pub overflow_mul-result : goal.overflow_mul-result
overflow_mul-result c = let h = used_base c.args.user c.args.w.second c.if-user.true c.requires in omega (arith, h)

pub overflow_add-result : goal.overflow_add-result
overflow_add-result c = let h = used_base c.args.user c.args.w.second c.if-user.true c.requires in omega (arith, h)

pub returns-then-user : goal.returns-then-user
returns-then-user c = rw c.if-user.true refl
