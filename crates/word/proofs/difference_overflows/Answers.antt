use Rattle.word.proofs.Laws.{value_as, none_within}
use Rattle.word.proofs.difference_overflows.Goals as goal

pub returns : goal.returns
returns c =
    none_within c.checked_sub.result _ _
    (rw (value_as c.args.a _ c.ranges.a.fits c.cast_signed.ensures, value_as c.args.b _ c.ranges.b.fits c.cast_signed-2.ensures) at c.checked_sub.ensures)
    c.is_none.ensures
