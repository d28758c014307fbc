use Rattle.word.proofs.Laws.{value_as}
use Rattle.word.proofs.less.Goals as goal

pub returns : goal.returns
returns c = rw (value_as c.args.a _ c.ranges.a.fits c.cast_signed.ensures, value_as c.args.b _ c.ranges.b.fits c.cast_signed-2.ensures)
