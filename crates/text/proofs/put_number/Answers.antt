use Rattle.std.proofs.Common.{arith}
use Rattle.text.proofs.Decimals.{decimal_length}
use Rattle.text.proofs.put_number.Goals as goal

pub put_decimal-requires : goal.put_decimal-requires
put_decimal-requires c = omega (arith, decimal_length 20 c.args.n)

pub returns : goal.returns
returns c =
    let p = c.put_decimal.ensures in
    (p, omega (arith, p.place, decimal_length 20 c.args.n))
