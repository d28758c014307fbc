-- What release and insert do to linked records and to what the chains hold.
-- Assumes nothing.
use mathlib.Core.Path.{◌≡◌, refl, ap, ◌∙◌}
use mathlib.Core.Logic.{⊎_elim, ◌≢◌}
use Prim.Native.Nat.{ℕ, ◌<◌}
use mathlib.Core.Bool.{Bool, true, ◌&&◌}
use mathlib.Core.List.{List, [], ◌∷◌, ◌++◌, map}
use native.Mathlib.Omega.{arith}
use native.Mathlib.Decide.{ℕ_discrete}
use lib.ListN.{length, length-append}
use lib.Dec.{eqb}
use borrow.Author.Tests.{ne_eqb}
use Rattle.layout.specs.Layout.{store_head, walk_head}
use Rattle.word.specs.Word.{flag}
use Rattle.records.specs.declared.Store.{Store}
use Rattle.records.specs.declared.Walk.{Walk}
use Rattle.records.specs.Records.{count, blank, store_in, walk_in, stores, walks, end_of, release, insert}
use Rattle.records.proofs.Counts.{either, count_append, count_cases, count_head, count_more}
use Rattle.records.proofs.Three.{Held, held, Kept, Three, three_swap, differ, count_cons, r_out, released, release_three, release_kept, i_out, inserted, insert_three, insert_kept}
use Rattle.records.proofs.Good.{Good, good_chains}

-- ---- what the records of a list hold

abbrev pub store_of : Held → Store
store_of w = record { address = w.0; value = w.1; width = w.2 }

abbrev pub walk_of : Held → Walk
walk_of w = record { first = w.0; second = w.1 }

abbrev blank_of : Held → Bool
blank_of w = eqb w.0 0 && (eqb w.1 0 && eqb w.2 0)

abbrev last_of : Held → Bool
last_of w = eqb w.2 0

pub stores_good : {b ss ws fs : List ℕ} → Good b ss ws fs → stores b ≡ map (λ n. store_of (held b n)) ss
unfolding stores
stores_good {b} G = ap (map (store_in b)) (good_chains G).0

pub walks_good : {b ss ws fs : List ℕ} → Good b ss ws fs → walks b ≡ map (λ n. walk_of (held b n)) ws
unfolding walks
walks_good {b} G = ap (map (walk_in b)) (good_chains G).1

pub map-append : {A : Type 0} (f : ℕ → A) (s t : List ℕ) → map f (s ++ t) ≡ map f s ++ map f t
map-append f [] t = refl
map-append f (x ∷ s) t = ap (λ l. f x ∷ l) (map-append f s t)

-- a list without r holds what it held, and passes the tests that it passed
module _ {b c : List ℕ} {r : ℕ} (K : Kept b c r) where
  pub map_kept : {A : Type 0} (f : Held → A) (l : List ℕ) → count r l ≡ 0 → map (λ n. f (held c n)) l ≡ map (λ n. f (held b n)) l
  map_kept f l e = go l (λ n p. differ l n r p e)
    where
      go : (l : List ℕ) → ((n : ℕ) → 0 < count n l → n ≢ r) → map (λ n. f (held c n)) l ≡ map (λ n. f (held b n)) l
      go [] d = refl
      go (x ∷ l) d = λ i. f (K.other x (d x (count_head x l)) i) ∷ go l (λ n p. d n (count_more n x l p)) i

  rule_kept : (q : Held → Bool) (l : List ℕ) → count r l ≡ 0 → ((n : ℕ) → 0 < count n l → q (held b n) ≡ true) → (n : ℕ) → 0 < count n l → q (held c n) ≡ true
  rule_kept q l e f n p = ap q (K.other n (differ l n r p e)) ∙ f n p

  zero_kept : {ss ws fs : List ℕ} → Good b ss ws fs → blank c 0 ≡ true
  zero_kept G = let d : 0 ≢ r = omega (arith, K.positive) in ap blank_of (K.other 0 d) ∙ G.zero_blank

-- ---- a store's record is released

module _ (b : List ℕ) (r : ℕ) (s t os fs : List ℕ) (G : Good b (s ++ (r ∷ t)) os fs) where
  abbrev pub kept_rs : Kept b (release b (end_of store_head s)) r
  kept_rs = release_kept b store_head walk_head r s t os fs G.three

  abbrev pub out_rs : (count r s ≡ 0) × (count r t ≡ 0) × (count r os ≡ 0) × (count r fs ≡ 0)
  out_rs = r_out b store_head walk_head r s t os fs G.three

  pub good_release_store : Good (release b (end_of store_head s)) (s ++ t) os (r ∷ fs)
  good_release_store =
      let m = released b store_head walk_head r s t os fs G.three in
      record {
        three = release_three b store_head walk_head r s t os fs G.three;
        few_s = omega (arith, G.few_s, length-append s (r ∷ t), length-append s t);
        few_w = G.few_w;
        free_blank_lem = λ n p. ⊎_elim (λ e. rw e (simp (m.at_1, m.at_2, m.at_3))) (rule_kept kept_rs blank_of fs out_rs.3 G.free_blank_lem n) (count_cases n r fs p);
        walk_blank = rule_kept kept_rs last_of os out_rs.2 G.walk_blank;
        zero_link = kept_rs.zero_link ∙ G.zero_link;
        zero_blank = zero_kept kept_rs G;
      }

-- ---- a walk's record is released

module _ (b : List ℕ) (r : ℕ) (s t os fs : List ℕ) (G : Good b os (s ++ (r ∷ t)) fs) where
  abbrev T1 : Three b walk_head (s ++ (r ∷ t)) store_head os fs
  T1 = three_swap G.three

  abbrev pub kept_rw : Kept b (release b (end_of walk_head s)) r
  kept_rw = release_kept b walk_head store_head r s t os fs T1

  abbrev pub out_rw : (count r s ≡ 0) × (count r t ≡ 0) × (count r os ≡ 0) × (count r fs ≡ 0)
  out_rw = r_out b walk_head store_head r s t os fs T1

  pub good_release_walk : Good (release b (end_of walk_head s)) os (s ++ t) (r ∷ fs)
  good_release_walk =
      let m = released b walk_head store_head r s t os fs T1 in
      record {
        three = three_swap (release_three b walk_head store_head r s t os fs T1);
        few_s = G.few_s;
        few_w = omega (arith, G.few_w, length-append s (r ∷ t), length-append s t);
        free_blank_lem = λ n p. ⊎_elim (λ e. rw e (simp (m.at_1, m.at_2, m.at_3))) (rule_kept kept_rw blank_of fs out_rw.3 G.free_blank_lem n) (count_cases n r fs p);
        walk_blank =
            rule_kept kept_rw last_of (s ++ t) (omega (arith, count_append r s t, out_rw))
            (λ n q. G.walk_blank n (omega (arith, q, count_append n s t, count_append n s (r ∷ t), count_cons n r t)));
        zero_link = kept_rw.zero_link ∙ G.zero_link;
        zero_blank = zero_kept kept_rw G;
      }

-- ---- a record is put in as a store

module _ (b : List ℕ) (r : ℕ) (s t os fs : List ℕ) (x y z : ℕ) (G : Good b (s ++ t) os (r ∷ fs)) where
  abbrev pub kept_is : Kept b (insert b (end_of store_head s) x y z) r
  kept_is = insert_kept b store_head walk_head r s t os fs x y z G.three

  abbrev pub out_is : (count r s ≡ 0) × (count r t ≡ 0) × (count r os ≡ 0) × (count r fs ≡ 0)
  out_is = i_out b store_head walk_head r s t os fs x y z G.three

  pub new_store : held (insert b (end_of store_head s) x y z) r ≡ (x, y, z)
  new_store = let m = inserted b store_head walk_head r s t os fs x y z G.three in λ i. (m.at_1 i, m.at_2 i, m.at_3 i)

  pub good_insert_store : length (s ++ t) < 8 → Good (insert b (end_of store_head s) x y z) (s ++ (r ∷ t)) os fs
  good_insert_store few =
      record {
        three = insert_three b store_head walk_head r s t os fs x y z G.three;
        few_s = omega (arith, few, length-append s (r ∷ t), length-append s t);
        few_w = G.few_w;
        free_blank_lem = rule_kept kept_is blank_of fs out_is.3 (λ n q. G.free_blank_lem n (count_more n r fs q));
        walk_blank = rule_kept kept_is last_of os out_is.2 G.walk_blank;
        zero_link = kept_is.zero_link ∙ G.zero_link;
        zero_blank = zero_kept kept_is G;
      }

-- ---- a record is put in as a walk

module _ (b : List ℕ) (r : ℕ) (s t os fs : List ℕ) (x y : ℕ) (G : Good b os (s ++ t) (r ∷ fs)) where
  abbrev T3 : Three b walk_head (s ++ t) store_head os (r ∷ fs)
  T3 = three_swap G.three

  abbrev pub kept_iw : Kept b (insert b (end_of walk_head s) x y 0) r
  kept_iw = insert_kept b walk_head store_head r s t os fs x y 0 T3

  abbrev pub out_iw : (count r s ≡ 0) × (count r t ≡ 0) × (count r os ≡ 0) × (count r fs ≡ 0)
  out_iw = i_out b walk_head store_head r s t os fs x y 0 T3

  pub new_walk : held (insert b (end_of walk_head s) x y 0) r ≡ (x, y, 0)
  new_walk = let m = inserted b walk_head store_head r s t os fs x y 0 T3 in λ i. (m.at_1 i, m.at_2 i, m.at_3 i)

  pub good_insert_walk : length (s ++ t) < 23 → Good (insert b (end_of walk_head s) x y 0) os (s ++ (r ∷ t)) fs
  good_insert_walk few =
      record {
        three = three_swap (insert_three b walk_head store_head r s t os fs x y 0 T3);
        few_s = G.few_s;
        few_w = omega (arith, few, length-append s (r ∷ t), length-append s t);
        free_blank_lem = rule_kept kept_iw blank_of fs out_iw.3 (λ n q. G.free_blank_lem n (count_more n r fs q));
        walk_blank = λ n q. either (ℕ_discrete n r)
            (λ e. rw e (ap last_of new_walk))
            (λ d. ap last_of (kept_iw.other n d) ∙ G.walk_blank n (omega (arith, q, count_append n s t, count_append n s (r ∷ t), count_cons n r t, ap flag (ne_eqb n r d))));
        zero_link = kept_iw.zero_link ∙ G.zero_link;
        zero_blank = zero_kept kept_iw G;
      }
