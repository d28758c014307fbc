use Rattle.cores.proofs.Held.{not_hit, held_hit}
use mathlib.Core.Path.{sym, ◌∙◌, ap}
use mathlib.Core.Bool.{not}
use Rattle.records.specs.Records.{walks, among}
use Rattle.tlb.specs.Walks.{hit}
use Rattle.cores.proofs.translation.fits.Goals as goal

pub returns-then-not-hit : goal.returns-then-not-hit
returns-then-not-hit c = not_hit c.args.user (among c.args.w (walks c.args.b.now)) (hit c.args.request c.args.w) (ap not c.if-not-user.false) (ap not (sym c.hit.ensures ∙ c.if-not-hit.true))

pub returns : goal.returns
returns c = c.holds_walk.ensures ∙ held_hit c.args.user (among c.args.w (walks c.args.b.now)) (hit c.args.request c.args.w) (ap not c.if-not-user.false) (ap not (sym c.hit.ensures ∙ c.if-not-hit.false))
