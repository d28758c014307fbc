-- `reach::reach` meets its contract.
-- Assumes nothing.
use mathlib.Core.Path.{sym, ap, ◌∙◌}
use Prim.Native.Nat.{ℕ}
use native.Mathlib.Omega.{arith}
use Rattle.std.proofs.lemmas.Result.{err_from_is_err_and}
use Rattle.reach.specs.Reach.{is_group}
use Rattle.reach.proofs.Answers.{numbered, unsound, other_map, no_group, strayed, stayed}
use Rattle.reach.proofs.reach.Goals as goal

pub returns-in_err-machine : goal.returns-in_err-machine
returns-in_err-machine c =
    let r = err_from_is_err_and c.from_residual.result c.from_residual.ensures.1 in
    let e = c.in_err-machine.ensures in
    let p = unsound c.args.group c.args.t.now c.args.m.now c.args.map.now e.1 in
    numbered c.args.group c.args.t.now c.args.m.now c.args.map.now (rw (r.1, r.2, e.0) p.0, p.1)

pub returns-then-map-pages : goal.returns-then-map-pages
returns-then-map-pages c =
    let M = c.in_ok-machine.machine in
    let e = c.in_ok-machine.ensures in
    let p = other_map c.args.group M.tables.now M.memory.now c.args.map.now M.is_sound (omega (arith, c.if-map-pages.true, c.pages.ensures.0)) in
    rw (sym e.0, sym e.1) (numbered c.args.group M.tables.now M.memory.now c.args.map.now p)

pub returns-then-not-is_group : goal.returns-then-not-is_group
returns-then-not-is_group c =
    let M = c.in_ok-machine.machine in
    let e = c.in_ok-machine.ensures in
    let g = c.is_group.ensures ∙ ap (λ (n : ℕ). is_group c.args.group n) c.cores.ensures.0 in
    let p = no_group c.args.group M.tables.now M.memory.now c.args.map.now M.is_sound (omega (arith, c.if-map-pages.false, c.pages.ensures.0)) _ g c.if-not-is_group.true in
    rw (sym e.0, sym e.1) (numbered c.args.group M.tables.now M.memory.now c.args.map.now p)

pub returns-then-fill : goal.returns-then-fill
returns-then-fill c =
    let M = c.in_ok-machine.machine in
    let e = c.in_ok-machine.ensures in
    let g = c.is_group.ensures ∙ ap (λ (n : ℕ). is_group c.args.group n) c.cores.ensures.0 in
    let p = strayed c.args.group M.tables.now M.memory.now c.args.map.now M.is_sound (omega (arith, c.if-map-pages.false, c.pages.ensures.0)) _ g c.if-not-is_group.false
    _ c.fill.ensures.value _ c.fill.ensures.map_after c.if-fill.true in
    rw (sym e.0, sym e.1) (numbered c.args.group M.tables.now M.memory.now c.args.map.now p)

pub returns : goal.returns
returns c =
    let M = c.in_ok-machine.machine in
    let e = c.in_ok-machine.ensures in
    let g = c.is_group.ensures ∙ ap (λ (n : ℕ). is_group c.args.group n) c.cores.ensures.0 in
    let p = stayed c.args.group M.tables.now M.memory.now c.args.map.now M.is_sound (omega (arith, c.if-map-pages.false, c.pages.ensures.0)) _ g c.if-not-is_group.false
    _ c.fill.ensures.value _ c.fill.ensures.map_after c.if-fill.false in
    rw (sym e.0, sym e.1) (numbered c.args.group M.tables.now M.memory.now c.args.map.now p)
