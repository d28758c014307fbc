use mathlib.Core.Path.{sym, ap, subst, ◌∙◌}
use mathlib.Core.List.{List}
use Prim.Native.Nat.{ℕ}
use native.Mathlib.Omega.{arith}
use Rattle.translate.specs.Translate.{leads, needs}
use Rattle.translate.specs.inner.Cache.{Asked}
use Rattle.translate.proofs.Filling.{walk_for_lem, first_level, fill_begin, fill_next, fill_answers, fill_reads}
use Rattle.translate.proofs.fill.Goals as goal

pub loop-i-init : goal.loop-i-init
loop-i-init c = let e = c.new-cache.ensures in (fill_begin _ _ _ c.requires.2 e.0 e.1 c.new-cache.result.cached, e.0)

pub winit-w-requires : goal.winit-w-requires
winit-w-requires c = (omega (arith, c.page.ensures, c.type_inv.addresses c.loop-i.i), c.asid-asid.ensures.1)

pub lead-requires : goal.lead-requires
lead-requires c = let l = c.loop-i in (omega (arith, l.invariant.0.few, c.requires.1), first_level _ _ _ c.winit-w.ensures c.asid-asid.ensures.1)

pub put-requires : goal.put-requires
put-requires c = let l = c.loop-i in omega (arith, l.invariant.0.long)

pub loop-i-preserved : goal.loop-i-preserved
loop-i-preserved c =
    let l = c.loop-i in
    let w = c.winit-w.result in
    let n = c.lead.new.cache in
    let e = c.lead.ensures in
    let to = e.to_value ∙ ap (λ (x : List ℕ). leads 2 x w) l.invariant.1 in
    let asked = subst (λ (x : List ℕ). Asked x (needs 2 x w) l.cache.kept l.cache.keys n.kept n.keys n.words n.slots) l.invariant.1 e.asked in (
      fill_next _ _ _ l.invariant.0 c.loop-i-test.true (walk_for_lem _ _ c.winit-w.ensures c.page.ensures c.origin-origin.ensures c.asid-asid.ensures.0) to asked c.put.ensures,
      e.same ∙ l.invariant.1,
    )

pub shape_of-answers : goal.shape_of-answers
shape_of-answers c = c.loop-i.invariant.0.long ∙ sym c.requires.2

pub returns : goal.returns
returns c = let l = c.loop-i in record { value = fill_reads _ _ _ l.invariant.0 c.loop-i-test.false; answers_after = fill_answers _ _ _ l.invariant.0 c.loop-i-test.false }
