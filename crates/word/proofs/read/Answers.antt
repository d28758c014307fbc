use Rattle.word.proofs.Bytes.{bytes_fit}
use Rattle.std.proofs.Common.{◌+◌, ◌-◌, arith}
use Rattle.word.proofs.read.Goals as goal

pub overflow_mul-v : goal.overflow_mul-v
overflow_mul-v c = record { fits = omega (arith, bytes_fit 3 (c.args.d - c.loop-i.i) c.args.m.now (c.args.at + c.loop-i.i) (λ i. (c.type_inv.m i).fits) (omega arith)) }

pub overflow_add-v : goal.overflow_add-v
overflow_add-v c = record { fits = omega (arith, bytes_fit 3 (c.args.d - c.loop-i.i) c.args.m.now (c.args.at + c.loop-i.i) (λ i. (c.type_inv.m i).fits) (omega arith)) }
