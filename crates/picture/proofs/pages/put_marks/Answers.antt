use Rattle.std.proofs.Common.{refl, ap, length, arith}
use Rattle.std.proofs.lemmas.List.{length_push}
use Rattle.text.proofs.Texts.{grown, as_it_was}
use Rattle.picture.specs.Pages.{mark_row}
use Rattle.picture.proofs.Marks.{marks_more}
use Rattle.picture.proofs.pages.put_marks.Goals as goal

pub loop-i-init : goal.loop-i-init
unfolding mark_row
loop-i-init g c = (as_it_was _ refl, omega arith)

pub loop-i-preserved : goal.loop-i-preserved
loop-i-preserved g c = (
  grown _ _ _ c.loop-i.invariant.0 c.put_byte.ensures (marks_more _ _ _ c.loop-i.i c.mark.ensures),
  omega (arith, ap length c.put_byte.ensures, length_push c.loop-i.text c.mark.result, c.loop-i.invariant.1),
)
