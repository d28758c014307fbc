-- The iterator over a chain's records: its steps, and what is asked of all records.
-- Assumes nothing.
use mathlib.Core.Path.{◌≡◌, refl, sym, ap, ◌∙◌}
use mathlib.Core.Logic.{◌≢◌}
use Prim.Native.Nat.{ℕ, zero, suc, ◌-◌, ◌+◌, ◌<◌, ◌≤◌}
use mathlib.Core.Bool.{Bool, true, false, not, ◌&&◌, ◌||◌}
use mathlib.Core.List.{List, [], ◌∷◌, map}
use native.Mathlib.Omega.{arith}
use lib.ListN.{length, get_or, take, drop, length-take, length-drop, length-map}
use lib.Dec.{eqb}
use lib.Seq.{get_or-take, get_or-drop}
use borrow.Author.Tests.{eq-eqb, eqb-true, ne_eqb, ltb-true}
use Rattle.std.proofs.lemmas.Bool.{false_from_ne_true}
use Rattle.records.proofs.Counts.{each_elim, each_intro}
use Rattle.word.proofs.Tests.{true_false}
use Rattle.layout.specs.Layout.{record_at}
use Rattle.std.specs.Bool.{MatchBool}
use Rattle.std.specs.List.{AllWithin, HoldsAt, fold}
use Rattle.std.proofs.lemmas.List.Recursion.{or_is}
use Rattle.records.specs.declared.Record.{Record}
use Rattle.records.specs.declared.Store.{Store}
use Rattle.records.specs.declared.Walk.{Walk}
use Rattle.records.specs.inner.Chains.{record_in, records_from, store_of, walk_of}
use Rattle.records.specs.Records.{chain, each, all, small, store_in, walk_in, same, among, differing, end_of}
use Rattle.records.proofs.Checking.{all_cons, chain_step}
use Rattle.word.proofs.Truth.{and_left, and_right}

-- no visit is left, or the chain ends
pub chain_ends : (k : ℕ) (b : List ℕ) (n : ℕ) → eqb k 0 || eqb n 0 ≡ true → chain k b n ≡ []
unfolding chain
chain_ends zero b n e = refl
chain_ends (suc k) b zero e = refl
chain_ends (suc k) b (suc n) e = absurd (true_false (sym e ∙ rw (ne_eqb (suc k) 0 (λ p. omega arith), ne_eqb (suc n) 0 (λ p. omega arith)) refl))

pub records_end : (k : ℕ) (b : List ℕ) (n : ℕ) → eqb k 0 || eqb n 0 ≡ true → records_from b k n ≡ []
records_end k b n e = ap (map (record_in b)) (chain_ends k b n e)

some_left : (k n : ℕ) → eqb k 0 || eqb n 0 ≡ false → 0 < k
some_left zero n e = absurd (true_false e)
some_left (suc k) n e = omega arith

some_next : (k n : ℕ) → eqb k 0 || eqb n 0 ≡ false → n ≢ 0
some_next zero n e = absurd (true_false e)
some_next (suc k) zero e = absurd (true_false (sym (rw (ne_eqb (suc k) 0 (λ p. omega arith)) refl) ∙ e))
some_next (suc k) (suc n) e = λ p. omega arith

-- else a record, and the rest of the chain
module _ (k : ℕ) (b : List ℕ) (n : ℕ) (e : eqb k 0 || eqb n 0 ≡ false) where
  pub chain_goes : chain k b n ≡ n ∷ chain (k - 1) b (get_or b (record_at n) 0)
  chain_goes = chain_step k b n (some_left k n e) (some_next k n e)

  pub records_go : records_from b k n ≡ record_in b n ∷ records_from b (k - 1) (get_or b (record_at n) 0)
  records_go = ap (map (record_in b)) chain_goes

  pub records_fewer : length (records_from b (k - 1) (get_or b (record_at n) 0)) < length (records_from b k n)
  records_fewer = omega (arith, ap (λ (l : List Record). length l) records_go)

  module _ (s : all small (chain k b n) ≡ true) where
    low_parts : small n && all small (chain (k - 1) b (get_or b (record_at n) 0)) ≡ true
    low_parts = sym (all_cons small n (chain (k - 1) b (get_or b (record_at n) 0))) ∙ ap (all small) (sym chain_goes) ∙ s

    pub member_low : n < 32
    member_low = ltb-true n 32 (and_left (small n) _ low_parts)

    pub rest_low : all small (chain (k - 1) b (get_or b (record_at n) 0)) ≡ true
    rest_low = and_right (small n) _ low_parts

pub chain_few : (k : ℕ) (b : List ℕ) (n : ℕ) → length (chain k b n) ≤ k
unfolding chain
chain_few zero b n = omega arith
chain_few (suc k) b zero = omega arith
chain_few (suc k) b (suc n) = omega (arith, chain_few k b (get_or b (record_at (suc n)) 0))

pub records_few : (k : ℕ) (b : List ℕ) (n : ℕ) → length (records_from b k n) ≤ k
records_few k b n = omega (arith, length-map (chain k b n) (record_in b), chain_few k b n)

-- a record is a store, a walk
pub store_in_of : (b : List ℕ) (l : List ℕ) → map store_of (map (record_in b) l) ≡ map (store_in b) l
store_in_of b [] = refl
store_in_of b (n ∷ l) = ap (λ (m : List Store). store_in b n ∷ m) (store_in_of b l)

pub walk_in_of : (b : List ℕ) (l : List ℕ) → map walk_of (map (record_in b) l) ≡ map (walk_in b) l
walk_in_of b [] = refl
walk_in_of b (n ∷ l) = ap (λ (m : List Walk). walk_in b n ∷ m) (walk_in_of b l)

-- whether one of the records is the walk
none : Record
none = record { number = 0; first = 0; second = 0; last = 0 }

pub any_among : (w : Walk) (l : List Record) (r : Bool) →
    MatchBool r ((k : ℕ) × (k < length l) × HoldsAt (λ x. same (walk_of x) w ≡ true) l k) (AllWithin (λ x. same (walk_of x) w ≡ false) l 0 (length l))
    → r ≡ among w (map walk_of l)
unfolding among
any_among w l true (k, h, m) =
    or_is (λ l. among w (map walk_of l)) (λ x. same (walk_of x) w) refl (λ x l. refl) l none true (λ e. (k, h, m none)) (λ e. absurd (true_false e))
any_among w l false m =
    or_is (λ l. among w (map walk_of l)) (λ x. same (walk_of x) w) refl (λ x l. refl) l none false (λ e. absurd (true_false (sym e))) (λ e i h. m i none (omega arith) h)

-- the word with the zero at the end
pub fold_end : (b : List ℕ) (at : ℕ) (l : List ℕ) → fold (λ (a : ℕ) (x : Record). record_at x.number) at (map (record_in b) l) ≡ end_of at l
unfolding end_of
fold_end b at [] = refl
fold_end b at (n ∷ l) = fold_end b (record_at n) l

-- no two of the walks are the same: the first is none of the others, and they differ
pub differ_first : (x : Record) (l m : List Record) {t : Bool} → l ≡ x ∷ m → t ≡ among (walk_of x) (map walk_of m) → differing (map walk_of l) ≡ not t && differing (map walk_of m)
unfolding differing
differ_first x l m e f = rw (e, f) refl

pub differ_none : (l : List Record) → l ≡ [] → true ≡ differing (map walk_of l)
unfolding differing
differ_none l e = rw e refl

-- each of 1 to 31 was counted once
module _ (s : List ℕ) (long : length s ≡ 32) where
  once_at : (j : ℕ) → j < 31 → get_or (take 31 (drop 1 s)) j 0 ≡ get_or s (1 + j) 0
  once_at j h = get_or-take 31 (drop 1 s) j 0 h ∙ get_or-drop 1 s j 0

  once_long : length (take 31 (drop 1 s)) ≡ 31
  once_long = omega (arith, length-take 31 (drop 1 s), length-drop 1 s)

  pub once_by : (r : Bool) →
      MatchBool r (AllWithin (λ x. x ≡ 1) (take 31 (drop 1 s)) 0 (length (take 31 (drop 1 s)))) ((k : ℕ) × (k < length (take 31 (drop 1 s))) × HoldsAt (λ x. x ≢ 1) (take 31 (drop 1 s)) k)
      → r ≡ each 31 (λ n. eqb (get_or s n 0) 1)
  once_by true m =
      sym (each_intro (λ n. eqb (get_or s n 0) 1) 31 (λ n p q. let e : 1 + (n - 1) ≡ n = omega arith in
      eq-eqb (get_or s n 0) 1 (ap (λ (i : ℕ). get_or s i 0) (sym e) ∙ sym (once_at (n - 1) (omega arith)) ∙ m (n - 1) 0 (omega arith) (omega (arith, once_long)))))
  once_by false (k, h, m) =
      let q : k < 31 = omega (arith, once_long) in
      sym (false_from_ne_true (each 31 (λ n. eqb (get_or s n 0) 1)) (λ y. m 0 (once_at k q ∙ eqb-true (get_or s (1 + k) 0) 1 (each_elim (λ n. eqb (get_or s n 0) 1) 31 (1 + k) y (omega arith) (omega arith)))))
