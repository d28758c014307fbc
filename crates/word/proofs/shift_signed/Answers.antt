use Rattle.std.proofs.Common.{w32}
use Rattle.std.proofs.lemmas.Int.{to_z-of_z}
use Rattle.word.proofs.Laws.{value_as, shr_fits, shr_sra}
use Rattle.word.proofs.shift_signed.Goals as goal

pub returns : goal.returns
returns c =
    let f = shr_fits c.args.a c.args.i c.ranges.a.fits c.requires in
    rw (c.cast_unsigned.ensures, value_as c.args.a _ c.ranges.a.fits c.cast_signed.ensures, to_z-of_z w32 _ f) (shr_sra c.args.a c.args.i c.ranges.a.fits c.requires)
