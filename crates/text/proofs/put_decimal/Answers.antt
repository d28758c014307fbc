use Rattle.std.proofs.Common.{ap, ◌^◌, ◌<◌, length, arith}
use Rattle.text.proofs.Texts.{numbered, reworded}
use Rattle.text.proofs.put_decimal.Goals as goal

pub put-requires : goal.put-requires
put-requires c = let h : c.args.n < 2 ^ 64 = omega arith in
    let d = c.decimal-k.ensures in
    omega (arith, ap length (numbered _ _ h d.digits d.len))

pub returns : goal.returns
returns c = let h : c.args.n < 2 ^ 64 = omega arith in
    let d = c.decimal-k.ensures in
    reworded (numbered _ _ h d.digits d.len) c.put.ensures
