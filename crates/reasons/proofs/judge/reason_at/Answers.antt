-- `reasons::judge::reason_at` meets its contract.
-- Assumes nothing.
use borrow.Author.Rules.{rules}
use Rattle.reasons.specs.declared.Side.TheVariants.{Group, Rest}
use Rattle.reasons.specs.declared.Reason.TheVariants.{BeyondMemory, OwnTable}
use mathlib.Core.Path.{◌≡◌, ap, sym, ◌∙◌}
use lib.ListN.{length}
use Rattle.tables.specs.Views.{cores_of}
use Rattle.reach.specs.Reach.{members}
use Rattle.reasons.specs.Why.{by_way, reason_at}
use Rattle.reasons.proofs.Reasons.{map_size, at_1, at_2, at_3, at_4, at_5, at_6}
use Rattle.reasons.proofs.judge.reason_at.Goals as goal

pub returns-in-1 : goal.returns-in-1
returns-in-1 c = let V = c.args.sides.now in c.modes.ensures ∙ at_1 V.group V.machine.tables.now V.machine.memory.now ∙ ap (reason_at V.group V.machine.tables.now V.machine.memory.now) (sym c.in-1.is)

pub beyond-found-requires : goal.beyond-found-requires
beyond-found-requires c = let V = c.args.sides.now in record { map_len = ap length V.own_map ∙ map_size (members V.group (cores_of V.machine.tables.now)) V.machine.tables.now V.machine.memory.now; strays_value = V.own_strays }

pub returns-in-2 : goal.returns-in-2
returns-in-2 c =
    let V = c.args.sides.now in
    let q : c.map.result ≡ by_way (BeyondMemory Group) c.beyond-found.result = search rules in
    at_2 V.group V.others V.machine.tables.now V.machine.memory.now V.others_are _ _ c.beyond-found.ensures q ∙ ap (reason_at V.group V.machine.tables.now V.machine.memory.now) (sym c.in-2.is)

pub beyond-found-requires-in-3 : goal.beyond-found-requires-in-3
beyond-found-requires-in-3 c = let V = c.args.sides.now in record { map_len = ap length V.other_map ∙ map_size (members V.others (cores_of V.machine.tables.now)) V.machine.tables.now V.machine.memory.now; strays_value = V.other_strays }

pub returns-in-3 : goal.returns-in-3
returns-in-3 c =
    let V = c.args.sides.now in
    let q : c.map-in-3.result ≡ by_way (BeyondMemory Rest) c.beyond-found-in-3.result = search rules in
    at_3 V.group V.others V.machine.tables.now V.machine.memory.now V.others_are _ _ c.beyond-found-in-3.ensures q ∙ ap (reason_at V.group V.machine.tables.now V.machine.memory.now) (sym c.in-3.is)

pub own_table-found-requires : goal.own_table-found-requires
own_table-found-requires c = record { map_value = c.args.sides.now.own_map }

pub returns-in-4 : goal.returns-in-4
returns-in-4 c =
    let V = c.args.sides.now in
    let q : c.map-in-4.result ≡ by_way (OwnTable Group) c.own_table-found.result = search rules in
    at_4 V.group V.others V.machine.tables.now V.machine.memory.now V.others_are _ _ c.own_table-found.ensures q ∙ ap (reason_at V.group V.machine.tables.now V.machine.memory.now) (sym c.in-4.is)

pub own_table-found-requires-in-5 : goal.own_table-found-requires-in-5
own_table-found-requires-in-5 c = record { map_value = c.args.sides.now.other_map }

pub returns-in-5 : goal.returns-in-5
returns-in-5 c =
    let V = c.args.sides.now in
    let q : c.map-in-5.result ≡ by_way (OwnTable Rest) c.own_table-found-in-5.result = search rules in
    at_5 V.group V.others V.machine.tables.now V.machine.memory.now V.others_are _ _ c.own_table-found-in-5.ensures q ∙ ap (reason_at V.group V.machine.tables.now V.machine.memory.now) (sym c.in-5.is)

pub returns-in_default : goal.returns-in_default
returns-in_default c =
    let V = c.args.sides.now in
    at_6 V.group V.others V.machine.tables.now V.machine.memory.now V.others_are _ c.args.n (search rules) (search rules) (search rules) (search rules) (search rules) c.touching.ensures
