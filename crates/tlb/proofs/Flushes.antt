-- Flushes of the records are those of definition 20.
-- Assumes nothing.
use Rattle.std.specs.Prelude.{if◌then◌else◌}
use mathlib.Core.Path.{◌≡◌, refl, sym, ap, ◌∙◌}
use mathlib.Core.Bool.{Bool, true, false, ◌&&◌, ◌||◌, not, true≢false}
use mathlib.Core.List.{List, [], ◌∷◌}
use Prim.Native.Nat.{ℕ, ◌/◌, ◌%◌, ◌^◌, ◌<◌}
use native.Mathlib.Omega.{arith}
use lib.Dec.{eqb}
use borrow.Author.Tests.{eq-eqb, eqb-true}
use Rattle.word.proofs.Truth.{and_left, and_right, and_both}
use Rattle.records.specs.declared.Walk.{Walk}
use Rattle.records.specs.declared.Flush.TheVariants.{All, Page, Incomplete}
use Rattle.records.specs.Records.{goes}
use Rattle.records.specs.inner.Walks.{staying}
use Rattle.tlb.specs.Walks.{walk_va, walk_asid, complete, page_key}
use Rattle.tlb.specs.inner.Flushes.{keep, page_flushed, incomplete_flushed}

-- a test that holds exactly if two numbers are equal
test_eqb : (a b : ℕ) (t : Bool) → (a ≡ b → t ≡ true) → (t ≡ true → a ≡ b) → eqb a b ≡ t
test_eqb a b t f g = go (eqb a b) t refl refl
  where
    go : (u s : Bool) → eqb a b ≡ u → t ≡ s → u ≡ s
    go true true p q = refl
    go false false p q = refl
    go true false p q = sym (f (eqb-true a b p)) ∙ q
    go false true p q = sym p ∙ eq-eqb a b (g q)

-- the page of an address space that a walk is of
pub page_split : (va asid : ℕ) → asid < 2 ^ 6 → (f : ℕ) → eqb (f / 64) (page_key va asid) ≡ eqb (f / 2 ^ 6 % 2 ^ 6) asid && eqb (f / 2 ^ 12) va
page_split va asid h f =
    test_eqb (f / 64) (page_key va asid) (eqb (f / 2 ^ 6 % 2 ^ 6) asid && eqb (f / 2 ^ 12) va)
    (λ e. and_both (eqb (f / 2 ^ 6 % 2 ^ 6) asid) _ (eq-eqb (f / 2 ^ 6 % 2 ^ 6) asid (omega arith)) (eq-eqb (f / 2 ^ 12) va (omega arith)))
    (λ e.
    let p = eqb-true (f / 2 ^ 6 % 2 ^ 6) asid (and_left (eqb (f / 2 ^ 6 % 2 ^ 6) asid) _ e) in
    let q = eqb-true (f / 2 ^ 12) va (and_right (eqb (f / 2 ^ 6 % 2 ^ 6) asid) _ e) in
    omega arith)

-- the walks that stay are those kept by the opposite test
keeps : (hit : ℕ → Bool) (p : Walk → Bool) → ((w : Walk) → not (hit w.first) ≡ p w) → (tlb : List Walk) → staying hit tlb ≡ keep p tlb
unfolding staying keep
keeps hit p f [] = refl
keeps hit p f (w ∷ l) = go (hit w.first) (p w) (f w) (keeps hit p f l)
  where
    go : (t u : Bool) → not t ≡ u → staying hit l ≡ keep p l → (elim t [ true ↦ staying hit l | false ↦ w ∷ staying hit l ]) ≡ (if u then w ∷ keep p l else keep p l)
    go true true e i = absurd (true≢false (sym e))
    go true false e i = i
    go false true e i = ap (λ (k : List Walk). w ∷ k) i
    go false false e i = absurd (true≢false e)

keep_keep : (p q : Walk → Bool) (tlb : List Walk) → keep (λ w. q w && p w) tlb ≡ keep p (keep q tlb)
unfolding keep
keep_keep p q [] = refl
keep_keep p q (w ∷ l) = go (q w) (keep_keep p q l)
  where
    go : (t : Bool) → keep (λ w. q w && p w) l ≡ keep p (keep q l) → (if t && p w then w ∷ keep (λ w. q w && p w) l else keep (λ w. q w && p w) l) ≡ keep p (if t then w ∷ keep q l else keep q l)
    go true i = ap (λ (k : List Walk). if p w then w ∷ k else k) i
    go false i = i

not_or : (a b : Bool) → not (not a || b) ≡ not b && a
not_or true true = refl
not_or true false = refl
not_or false true = refl
not_or false false = refl

pub flush_all : (tlb : List Walk) → staying (goes All) tlb ≡ []
unfolding staying
flush_all [] = refl
flush_all (w ∷ l) = flush_all l

module _ (va asid : ℕ) (h : asid < 2 ^ 6) (tlb : List Walk) where
  -- a page of an address space
  pub flush_page_lem : staying (goes (Page (page_key va asid))) tlb ≡ page_flushed asid va tlb
  flush_page_lem = keeps (goes (Page (page_key va asid))) _ (λ w. ap not (page_split va asid h w.first)) tlb

  -- that page and the incomplete walks
  pub flush_incomplete_lem : staying (goes (Incomplete (page_key va asid))) tlb ≡ incomplete_flushed (page_flushed asid va tlb)
  flush_incomplete_lem =
      keeps (goes (Incomplete (page_key va asid))) _
      (λ w. not_or (complete w) _ ∙ ap (λ (t : Bool). not t && complete w) (page_split va asid h w.first)) tlb
      ∙ keep_keep complete (λ w. not (eqb (walk_asid w) asid && eqb (walk_va w) va)) tlb
