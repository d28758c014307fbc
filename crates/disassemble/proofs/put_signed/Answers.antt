use borrow.Author.Rules.{rules}
use mathlib.Core.Path.{ap, sym}
use mathlib.Core.List.{[], ◌∷◌}
use Prim.Native.Nat.{◌-◌}
use native.Mathlib.Omega.{arith}
use lib.ListN.{length}
use Rattle.std.proofs.lemmas.List.{length_push}
use Rattle.text.specs.Text.{decimal}
use Rattle.text.proofs.Texts.{grown, told}
use Rattle.disassemble.proofs.Rows.{signed_low, signed_high}
use Rattle.disassemble.proofs.put_signed.Goals as goal

pub put_decimal-requires : goal.put_decimal-requires
put_decimal-requires g c =
    (search rules, omega (arith, ap length (signed_low c.args.x c.if-x-lt32768.true), c.requires.room))

pub returns-then-x-lt32768 : goal.returns-then-x-lt32768
returns-then-x-lt32768 g c = told _ _ c.put_decimal.ensures (sym (signed_low c.args.x c.if-x-lt32768.true))

pub put_byte-requires : goal.put_byte-requires
put_byte-requires g c =
    (search rules, omega (arith, ap length (signed_high c.args.x c.if-x-lt32768.false c.requires.half), c.requires.room))

pub put_decimal-requires-2 : goal.put_decimal-requires-2
put_decimal-requires-2 g c =
    let high = signed_high c.args.x c.if-x-lt32768.false c.requires.half in
    (search rules, omega (arith, ap length high, c.requires.room, ap length c.put_byte.ensures, length_push c.args.text.now 45))

pub returns : goal.returns
returns g c =
    let high = signed_high c.args.x c.if-x-lt32768.false c.requires.half in
    grown c.args.text.now (45 ∷ []) (decimal (65536 - c.args.x)) c.put_byte.ensures c.put_decimal-2.ensures (sym high)
