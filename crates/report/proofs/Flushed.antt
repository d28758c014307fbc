-- The walks that flushes leave, as a set (definition 20).
-- Assumes nothing.
use Rattle.std.specs.Prelude.{if◌then◌else◌}
use mathlib.Core.Path.{◌≡◌, refl, sym, ◌∙◌, ap}
use mathlib.Core.Bool.{Bool, true, false, not, ◌&&◌, ◌||◌}
use mathlib.Core.List.{List, [], ◌∷◌}
use Prim.Native.Nat.{ℕ, ◌^◌, ◌<◌}
use lib.Dec.{eqb}
use borrow.Author.Tests.{eqb-true}
use Rattle.word.proofs.Tests.{true_false, and_false}
use Rattle.word.proofs.Truth.{and_left, and_right}
use Rattle.records.specs.declared.Walk.{Walk}
use Rattle.records.specs.declared.Flush.TheVariants.{All, Page, Incomplete}
use Rattle.records.specs.Records.{same, among, goes}
use Rattle.records.specs.inner.Walks.{staying}
use Rattle.tlb.specs.Walks.{walk_va, walk_asid, complete, page_key}
use Rattle.tlb.specs.inner.Flushes.{keep}
use Rattle.tlb.proofs.Fields.{same_walk}
use Rattle.tlb.proofs.Flushes.{flush_all, flush_page_lem, flush_incomplete_lem}
use Rattle.report.specs.Components.{ΣTlb, δtlb}

keep_among : (p : Walk → Bool) (l : List Walk) (w : Walk) → among w (keep p l) ≡ (among w l && p w)
unfolding among keep
keep_among p [] w = refl
keep_among p (v ∷ l) w = go (same v w) refl (p v) refl (p w) refl (keep_among p l w)
  where
    walk : same v w ≡ true → v ≡ w
    walk e = same_walk (eqb-true v.first w.first (and_left (eqb v.first w.first) _ e)) (eqb-true v.second w.second (and_right (eqb v.first w.first) _ e))

    go : (s : Bool) → same v w ≡ s → (x : Bool) → p v ≡ x → (y : Bool) → p w ≡ y → among w (keep p l) ≡ (among w l && p w) →
        among w (if x then v ∷ keep p l else keep p l) ≡ ((same v w || among w l) && p w)
    go true e true f true g i = ap (λ (t : Bool). t || among w (keep p l)) e ∙ sym (ap (λ (t : Bool). (t || among w l) && p w) e ∙ g)
    go true e true f false g i = absurd (true_false (sym f ∙ (ap p (walk e) ∙ g)))
    go true e false f true g i = absurd (true_false (sym g ∙ (sym (ap p (walk e)) ∙ f)))
    go true e false f false g i = i ∙ (ap (λ (t : Bool). among w l && t) g ∙ (and_false (among w l) ∙ sym (ap (λ (t : Bool). (t || among w l) && p w) e ∙ g)))
    go false e true f y g i = ap (λ (t : Bool). t || among w (keep p l)) e ∙ (i ∙ sym (ap (λ (t : Bool). (t || among w l) && p w) e))
    go false e false f y g i = i ∙ sym (ap (λ (t : Bool). (t || among w l) && p w) e)

pub all_flushed : (l : List Walk) (w : Walk) → false ≡ among w (staying (goes All) l)
unfolding among
all_flushed l w = sym (ap (among w) (flush_all l))

module _ (va asid : ℕ) (h : asid < 2 ^ 6) (l : List Walk) (w : Walk) where
  pub page_flushed : δtlb (λ x. among x l) (ΣTlb.flush_page asid va) w ≡ among w (staying (goes (Page (page_key va asid))) l)
  unfolding δtlb
  page_flushed = sym (ap (among w) (flush_page_lem va asid h l) ∙ keep_among _ l w)

  pub incomplete_flushed : δtlb (δtlb (λ x. among x l) (ΣTlb.flush_page asid va)) ΣTlb.flush_incomplete w ≡ among w (staying (goes (Incomplete (page_key va asid))) l)
  unfolding δtlb
  incomplete_flushed =
      sym (ap (among w) (flush_incomplete_lem va asid h l) ∙ (keep_among complete _ w ∙ ap (λ (t : Bool). t && complete w) (keep_among (λ x. not (eqb (walk_asid x) asid && eqb (walk_va x) va)) l w)))
