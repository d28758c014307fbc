use Rattle.std.proofs.Common.{w64, ◌∙◌, ◌*ℤ◌}
use Rattle.std.proofs.lemmas.Int.{to_z-of_z}
use Rattle.word.proofs.Laws.{value_as, value_wide, product_fits, twoc_cast}
use Rattle.word.specs.Word.{signed}
use Rattle.word.proofs.signed_product.Goals as goal

pub returns : goal.returns
returns c =
    let a = c.args.a in
    let b = c.args.b in
    let p = value_wide a _ c.ranges.a.fits (c.from.ensures ∙ value_as a _ c.ranges.a.fits c.cast_signed.ensures) in
    let q = value_wide b _ c.ranges.b.fits (c.from-2.ensures ∙ value_as b _ c.ranges.b.fits c.cast_signed-2.ensures) in
    let f = product_fits a b c.ranges.a.fits c.ranges.b.fits in
    rw (c.cast_unsigned.ensures, p, q, to_z-of_z w64 (signed 32 a *ℤ signed 32 b) f) (twoc_cast (signed 32 a *ℤ signed 32 b) f)
