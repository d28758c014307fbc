use Rattle.std.proofs.Common.{arith, length-append, rules}
use Rattle.text.specs.Text.{decimal}
use Rattle.text.proofs.Decimals.{decimal_length}
use Rattle.text.proofs.Text.put_number.Goals as goal

pub put_decimal-requires : goal.put_decimal-requires
put_decimal-requires g c = (search rules, omega (arith, decimal_length 20 c.args.n, c.requires.room))

pub returns-clause-bound : goal.returns-clause-bound
returns-clause-bound g c =
    rw c.put_decimal.ensures (omega (arith, length-append c.args.self.now (decimal c.args.n), decimal_length 20 c.args.n))
