-- The test of sound records, put together from its parts.
-- Assumes nothing.
use mathlib.Core.Path.{◌≡◌, refl, sym, ap, ◌∙◌}
use Prim.Native.Nat.{ℕ, ◌≤◌}
use mathlib.Core.Bool.{Bool, true, false, ◌&&◌}
use mathlib.Core.List.{List, [], ◌∷◌, ◌++◌, map}
use native.Mathlib.Omega.{arith}
use lib.ListN.{length}
use lib.Dec.{leb}
use borrow.Author.Tests.{le-leb}
use Rattle.layout.specs.Layout.{store_head, walk_head, free_head}
use Rattle.records.specs.Records.{all, chain_at, small, last_blank, store_in, walk_in, stores, walks, linked, once_each, no_other, few_stores, few_walks, free_blank, walks_blank, first_blank, differing}
use Rattle.records.specs.Contents.{store_sound, walk_sound, sound_records}
use Rattle.records.specs.declared.check.Rule.TheVariants.{Blank, Store, Walk}
use Rattle.records.specs.inner.Rules.{obeys, fits_rule, chain_fits, ruled}
use Rattle.records.proofs.Counts.{all_append, all_both, all_left, all_right}
use Rattle.records.proofs.Good.{parts, all_of}
use Rattle.records.proofs.Whole.{fails, ruled_of, ruled_all}
use Rattle.word.proofs.Truth.{and_left, and_right, and_both}

pub all_map : {A : Type 0} (p : A → Bool) (f : ℕ → A) (l : List ℕ) → all (λ n. p (f n)) l ≡ all p (map f l)
unfolding all
all_map p f [] = refl
all_map p f (x ∷ l) = ap (λ (t : Bool). p (f x) && t) (all_map p f l)

module _ (n : ℕ) (b : List ℕ) where
  -- the parts of sound records
  pub parts_of : sound_records n b ≡ true → (linked b ≡ true) × (all (store_sound n) (stores b) ≡ true) × (all walk_sound (walks b) ≡ true) × (differing (walks b) ≡ true)
  unfolding sound_records
  parts_of e =
      let f = and_right (linked b) _ e in
      let g = and_right (all (store_sound n) (stores b)) _ f in
      (and_left (linked b) _ e, and_left (all (store_sound n) (stores b)) _ f, and_left (all walk_sound (walks b)) _ g, and_right (all walk_sound (walks b)) _ g)

  -- and all of them make the records sound
  pub parts_all : linked b ≡ true → all (store_sound n) (stores b) ≡ true → all walk_sound (walks b) ≡ true → differing (walks b) ≡ sound_records n b
  unfolding sound_records
  parts_all e f g = rw (e, f, g)

  stores_all : all (λ m. store_sound n (store_in b m)) (chain_at b store_head) ≡ all (store_sound n) (stores b)
  unfolding stores
  stores_all = all_map (store_sound n) (store_in b) (chain_at b store_head)

  walks_all : all (λ m. walk_sound (walk_in b m)) (chain_at b walk_head) ≡ all walk_sound (walks b)
  unfolding walks
  walks_all = all_map walk_sound (walk_in b) (chain_at b walk_head)

  -- no other record is on a chain
  other_of : no_other b ≡ true → (all small (chain_at b store_head) ≡ true) × (all small (chain_at b walk_head) ≡ true) × (all small (chain_at b free_head) ≡ true)
  other_of e =
      let f = sym (all_append small (chain_at b store_head) (chain_at b walk_head ++ chain_at b free_head)) ∙ e in
      let g = sym (all_append small (chain_at b walk_head) (chain_at b free_head)) ∙ and_right (all small (chain_at b store_head)) _ f in
      (and_left (all small (chain_at b store_head)) _ f, and_left (all small (chain_at b walk_head)) _ g, and_right (all small (chain_at b walk_head)) _ g)

  other_all : all small (chain_at b store_head) ≡ true → all small (chain_at b walk_head) ≡ true → all small (chain_at b free_head) ≡ true → no_other b ≡ true
  other_all e f g =
      all_append small (chain_at b store_head) (chain_at b walk_head ++ chain_at b free_head)
      ∙ and_both (all small (chain_at b store_head)) _ e
      (all_append small (chain_at b walk_head) (chain_at b free_head) ∙ and_both (all small (chain_at b walk_head)) _ f g)

  -- sound records pass each test of the check
  rules_of : sound_records n b ≡ true → ruled n b ≡ true
  rules_of e =
      let p = parts_of e in
      let q = parts b p.0 in
      let o = other_of q.1 in
      let walk = all_both (λ m. walk_sound (walk_in b m)) (last_blank b) (chain_at b walk_head) (walks_all ∙ p.2) q.5 in
      let few : length (chain_at b free_head) ≤ 31 = omega (arith, all_of b p.0) in
      ruled_all n b
      (and_both (few_stores b) _ q.2 (all_both small (obeys (Store n) b) (chain_at b store_head) o.0 (stores_all ∙ p.1)))
      (and_both (few_walks b) _ q.3 (all_both small (obeys Walk b) (chain_at b walk_head) o.1 walk))
      (and_both (leb (length (chain_at b free_head)) 31) _ (le-leb _ 31 few) (all_both small (obeys Blank b) (chain_at b free_head) o.2 q.4))

  module _ (r : Bool) (f : r ≡ false) where
    pub fails_once : r ≡ ruled n b && once_each b → false ≡ sound_records n b
    fails_once e = fails (ruled n b && once_each b) (sound_records n b) (λ h. and_both (ruled n b) (once_each b) (rules_of h) (parts b (parts_of h).0).0) (sym e ∙ f)

    pub fails_first : r ≡ first_blank b → false ≡ sound_records n b
    fails_first e = fails (first_blank b) (sound_records n b) (λ h. (parts b (parts_of h).0).6) (sym e ∙ f)

  -- and records that pass each are sound
  module _ (e : ruled n b && once_each b ≡ true) where
    chains : (chain_fits (Store n) 8 b store_head ≡ true) × (chain_fits Walk 23 b walk_head ≡ true) × (chain_fits Blank 31 b free_head ≡ true)
    chains = ruled_of n b (and_left (ruled n b) (once_each b) e)

    fit_stores : all (fits_rule (Store n) b) (chain_at b store_head) ≡ true
    fit_stores = and_right (few_stores b) _ chains.0

    fit_walks : all (fits_rule Walk b) (chain_at b walk_head) ≡ true
    fit_walks = and_right (few_walks b) _ chains.1

    fit_free : all (fits_rule Blank b) (chain_at b free_head) ≡ true
    fit_free = and_right (leb (length (chain_at b free_head)) 31) _ chains.2

    walk_parts : all (obeys Walk b) (chain_at b walk_head) ≡ true
    walk_parts = all_right small (obeys Walk b) (chain_at b walk_head) fit_walks

    pub walks_low : all small (chain_at b walk_head) ≡ true
    walks_low = all_left small (obeys Walk b) (chain_at b walk_head) fit_walks

    tested_linked : first_blank b ≡ true → linked b ≡ true
    unfolding linked
    tested_linked f =
        and_both (once_each b) _ (and_right (ruled n b) (once_each b) e)
        (and_both (no_other b) _ (other_all (all_left small (obeys (Store n) b) (chain_at b store_head) fit_stores) walks_low (all_left small (obeys Blank b) (chain_at b free_head) fit_free))
        (and_both (few_stores b) _ (and_left (few_stores b) _ chains.0)
        (and_both (few_walks b) _ (and_left (few_walks b) _ chains.1)
        (and_both (free_blank b) _ (all_right small (obeys Blank b) (chain_at b free_head) fit_free)
        (and_both (walks_blank b) _ (all_right (λ m. walk_sound (walk_in b m)) (last_blank b) (chain_at b walk_head) walk_parts) f)))))

    pub tested_all : first_blank b ≡ true → differing (walks b) ≡ sound_records n b
    tested_all f =
        parts_all (tested_linked f) (sym stores_all ∙ all_right small (obeys (Store n) b) (chain_at b store_head) fit_stores)
        (sym walks_all ∙ all_left (λ m. walk_sound (walk_in b m)) (last_blank b) (chain_at b walk_head) walk_parts)
