use mathlib.Core.Path.{◌∙◌}
use native.Mathlib.Omega.{arith}
use Rattle.ways.specs.inner.Search.{looked_for}
use Rattle.ways.proofs.Searches.{hit_taken, hit_left, scan_start, scan_next, scan_end}
use Rattle.ways.proofs.search.scan.Goals as goal
use Rattle.ways.proofs.search.scan.Goals.{then-is_hit, else-is_hit}

pub loop-i-init : goal.loop-i-init
loop-i-init c = scan_start _ _ c.args.query.now.whole c.args.query.now.few (looked_for c.args.query.now) _ c.args.way c.requires.0

pub is_hit-requires : goal.is_hit-requires
is_hit-requires c = c.requires.2

pub take_entry-found-requires : goal.take_entry-found-requires
take_entry-found-requires c = (c.requires.1, c.requires.2, c.loop-i-test.true)

pub loop-i-preserved : goal.loop-i-preserved
loop-i-preserved c =
    let l = c.loop-i in
    let i = l.i in
    let v = c.read_word-e.result in
    let f = looked_for c.args.query.now in
    let way = c.args.way in
    let next = scan_next _ _ c.args.query.now.whole c.args.query.now.few f _ way c.requires.0 in
    let seen = c.read_word-e.ensures in
    next _ _ i v c.loop-i-test.true seen l.invariant (elim c.if-is_hit.branch [
      | then-is_hit w ↦
          hit_taken f way i v l.found _ _ c.is_hit.ensures w.if-is_hit.true (w.found-is ∙ w.take_entry-found.ensures)
      | else-is_hit w ↦ w.found-is ∙ hit_left f way i v l.found _ c.is_hit.ensures w.if-is_hit.false
    ])

pub returns : goal.returns
returns c = let l = c.loop-i in scan_end _ _ c.args.query.now.whole c.args.query.now.few (looked_for c.args.query.now) _ c.args.way c.requires.0 _ l.i (omega arith) l.invariant
