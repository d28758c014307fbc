use mathlib.Core.Path.{refl, sym, ap, ◌∙◌}
use Prim.Native.Nat.{ℕ, ◌-◌}
use native.Mathlib.Omega.{arith}
use borrow.Author.Tests.{ne_eqb}
use Rattle.tlb.specs.Walks.{walk_level}
use Rattle.translate.specs.declared.Translation.TheVariants.{Mapped}
use Rattle.translate.proofs.Leading.{at_entry, at_asked, again, lead_start, lead_end, lead_mapped, lead_beyond, lead_absent, asked_to_beyond, asked_to_absent, lead_next}
use Rattle.translate.proofs.lead.Goals as goal

pub loop-level-init : goal.loop-level-init
loop-level-init c = (lead_start c.args.cache.now.cached c.requires.1, refl)

pub entry-requires : goal.entry-requires
entry-requires c = omega (arith, c.loop-level.invariant.0.room, c.requires.0)

pub returns-in_default : goal.returns-in_default
returns-in_default c =
    let l = c.loop-level in
    let g = c.entry.ensures in
    let h = at_entry _ _ l.invariant.1 _ _ c.ptea.ensures g.value c.in_default.is in
    record {
      to_value = lead_beyond l.level (l.level - 1) (omega arith) l.invariant.0 h;
      asked = asked_to_beyond l.level (l.level - 1) (omega arith) l.invariant.0 (at_asked _ _ l.invariant.1 _ _ c.ptea.ensures g.asked) h;
      same = g.same ∙ l.invariant.1;
    }

pub returns-then-not-present : goal.returns-then-not-present
returns-then-not-present c =
    let l = c.loop-level in
    let g = c.entry.ensures in
    let h = at_entry _ _ l.invariant.1 _ _ c.ptea.ensures g.value c.in-Some.is in
    let p = sym c.present.ensures ∙ c.if-not-present.true in
    record {
      to_value = lead_absent l.level (l.level - 1) (omega arith) l.invariant.0 _ h p;
      asked = asked_to_absent l.level (l.level - 1) (omega arith) l.invariant.0 (at_asked _ _ l.invariant.1 _ _ c.ptea.ensures g.asked) _ h p;
      same = g.same ∙ l.invariant.1;
    }

pub wext-w-requires : goal.wext-w-requires
wext-w-requires c = let l = c.loop-level in ne_eqb (walk_level l.w) 0 (λ z. omega (arith, l.invariant.0.level))

pub loop-level-preserved : goal.loop-level-preserved
loop-level-preserved c =
    let l = c.loop-level in
    let g = c.entry.ensures in
    let h = at_entry _ _ l.invariant.1 _ _ c.ptea.ensures g.value c.in-Some.is in
    let p = sym c.present.ensures ∙ c.if-not-present.false in
    (again c.wext-w.ensures (lead_next l.level (l.level - 1) (omega arith) l.invariant.0 (at_asked _ _ l.invariant.1 _ _ c.ptea.ensures g.asked) _ h p), g.same ∙ l.invariant.1)

pub returns : goal.returns
returns c =
    let l = c.loop-level in
    record {
      to_value = ap (λ (r : ℕ). Mapped l.w.second r) c.rights.ensures ∙ lead_mapped l.level (omega arith) l.invariant.0;
      asked = lead_end l.level (omega arith) l.invariant.0;
      same = l.invariant.1;
    }
