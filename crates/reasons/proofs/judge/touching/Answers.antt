-- `reasons::judge::touching` meets its contract.
-- Assumes nothing.
use mathlib.Core.Path.{sym, ap, ◌∙◌}
use lib.ListN.{length}
use Rattle.tables.specs.Views.{cores_of}
use Rattle.reach.specs.Reach.{members}
use Rattle.reasons.specs.declared.Reason.TheVariants.{Touches}
use Rattle.reasons.specs.Why.{by_way}
use Rattle.reasons.proofs.Reasons.{map_size, touch_nothing, touch_both}
use Rattle.reasons.proofs.judge.touching.Goals as goal

pub touched-requires : goal.touched-requires
touched-requires c = record { own_value = c.args.sides.now.own_map; other_value = c.args.sides.now.other_map }

pub way_to-requires : goal.way_to-requires
way_to-requires c =
    let V = c.args.sides.now in
    record { map_len = ap length V.own_map ∙ map_size (members V.group (cores_of V.machine.tables.now)) V.machine.tables.now V.machine.memory.now }

pub returns-in_err-way : goal.returns-in_err-way
returns-in_err-way c =
    let V = c.args.sides.now in
    c.from_residual.ensures
    ∙ touch_nothing (members V.group (cores_of V.machine.tables.now)) (members V.others (cores_of V.machine.tables.now)) V.machine.tables.now V.machine.memory.now _ c.touched.ensures c.in_err-way.was

pub returns-in_err-first : goal.returns-in_err-first
returns-in_err-first c =
    let V = c.args.sides.now in
    touch_both (members V.group (cores_of V.machine.tables.now)) (members V.others (cores_of V.machine.tables.now)) V.machine.tables.now V.machine.memory.now _ c.touched.ensures _ _ _ c.in_ok-way.was
    c.way_to.ensures (c.from_residual-in_err-first.ensures ∙ ap (by_way (Touches c.in_ok-way.way)) (sym c.in_err-first.was))

pub returns : goal.returns
returns c =
    let V = c.args.sides.now in
    touch_both (members V.group (cores_of V.machine.tables.now)) (members V.others (cores_of V.machine.tables.now)) V.machine.tables.now V.machine.memory.now _ c.touched.ensures _ _ _ c.in_ok-way.was
    c.way_to.ensures (ap (by_way (Touches c.in_ok-way.way)) (sym c.in_ok-first.was))
