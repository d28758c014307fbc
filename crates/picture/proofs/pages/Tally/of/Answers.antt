use native.Mathlib.Omega.{arith}
use lib.ListN.{get_or}
use Rattle.picture.specs.Pages as pages
use Rattle.picture.proofs.Marks.{count_more, count_ends, flag_small}
use Rattle.picture.proofs.pages.Tally.of.Goals as goal

pub loop-byte-preserved : goal.loop-byte-preserved
loop-byte-preserved c =
    let h = c.loop-byte.invariant in
    let e = c.count.ensures in
    let i = c.loop-byte.byte-index in
    let byte = get_or c.args.map.now i 0 in (
      omega (arith, e.0, flag_small (pages.is_reached byte), h.0),
      omega (arith, e.1, flag_small (pages.can_write byte), h.1),
      omega (arith, e.2, flag_small (pages.is_table byte), h.2),
      count_more _ _ i _ (omega arith) e.0 h.3,
      count_more _ _ i _ (omega arith) e.1 h.4,
      count_more _ _ i _ (omega arith) e.2 h.5,
    )

pub returns : goal.returns
returns c = let h = c.loop-byte.invariant in
    (count_ends _ c.args.map.now c.loop-byte.byte-index _ (omega arith) h.3, count_ends _ c.args.map.now c.loop-byte.byte-index _ (omega arith) h.4, count_ends _ c.args.map.now c.loop-byte.byte-index _ (omega arith) h.5)
