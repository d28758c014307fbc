-- `separation::maps_apart` meets its contract.
-- Assumes nothing.
use mathlib.Core.Path.{ap, ◌∙◌}
use Prim.Native.Nat.{ℕ}
use lib.ListN.{get_or}
use Rattle.records.specs.Records.{all}
use Rattle.reach.specs.Lists.{range}
use Rattle.separation.specs.inner.Sides.{page_apart}
use Rattle.separation.proofs.Deciding.{group_fails, rest_fails, maps_decide}
use Rattle.separation.proofs.maps_apart.Goals as goal

pub returns-then-fill : goal.returns-then-fill
returns-then-fill c = let M = c.args.machine.now in group_fails M.tables.now M.memory.now c.args.group _ c.fill.ensures.value c.if-fill.true

pub returns-then-fill-2 : goal.returns-then-fill-2
returns-then-fill-2 c = let M = c.args.machine.now in rest_fails M.tables.now M.memory.now c.args.group _ c.rest-rest.ensures.members _ c.fill-2.ensures.value c.if-fill-2.true

pub returns : goal.returns
returns c =
    let M = c.args.machine.now in
    let n = c.pages.ensures.0 in
    maps_decide M.tables.now M.memory.now c.args.group _ c.rest-rest.ensures.members _ _ _ _ _ c.fill.ensures.value c.if-fill.false c.fill-2.ensures.value c.if-fill-2.false c.fill.ensures.map_after c.fill-2.ensures.map_after
    (c.pages_apart.ensures ∙ ap (λ (k : ℕ). all (λ i. page_apart (get_or c.fill.new.map i 0) (get_or c.fill-2.new.map i 0)) (range k)) n)
