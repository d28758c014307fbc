-- What the test of soundness is put together from.
use mathlib.Core.Path.{◌≡◌, refl, sym, ap, ◌∙◌}
use mathlib.Core.Logic.{◌≢◌}
use Prim.Native.Nat.{ℕ, zero, suc, ◌+◌, ◌-◌, ◌<◌, ◌≤◌}
use mathlib.Core.Bool.{Bool, true, false, ◌&&◌, false≢true}
use mathlib.Core.List.{List, [], ◌∷◌}
use native.Mathlib.Omega.{arith}
use native.Mathlib.Decide.{ℕ_discrete}
use lib.ListN.{length, get_or, set, length-set}
use lib.Seq.{get_or-set_same, get_or-set_other}
use lib.Dec.{leb}
use borrow.Author.Tests.{ltb-true, lt-ltb, le-ltb, le-leb, lt-leb, eq-eqb, ne_eqb}
use Rattle.layout.specs.Layout.{record_at}
use Rattle.word.specs.Word.{flag}
use Rattle.word.proofs.Truth.{and_left, and_both}
use Rattle.records.specs.Records.{chain, chain_at, count, each, all, small}
use Rattle.records.specs.declared.check.Rule.{Rule}
use Rattle.records.specs.inner.Rules.{obeys, fits_rule, chain_fits}
use Rattle.records.specs.inner.Tallied.{Tallied}
use Rattle.records.proofs.Counts.{either}
use Rattle.records.proofs.Three.{count_cons}

-- one step of a chain, with k - 1 of the fuel left
pub chain_step : (k : ℕ) (b : List ℕ) (n : ℕ) → 0 < k → n ≢ 0 → chain k b n ≡ n ∷ chain (k - 1) b (get_or b (record_at n) 0)
unfolding chain
chain_step zero b n p d = absurd (omega arith)
chain_step (suc k) b zero p d = absurd (d refl)
chain_step (suc k) b (suc m) p d =
    let e : k ≡ suc k - 1 = omega arith in
    ap (λ (j : ℕ). suc m ∷ chain j b (get_or b (record_at (suc m)) 0)) e

pub chain_zero : (k : ℕ) (b : List ℕ) (n : ℕ) → n ≡ 0 → chain k b n ≡ []
unfolding chain
chain_zero zero b n e = refl
chain_zero (suc k) b n e = rw e

pub chain_none : (k : ℕ) (b : List ℕ) (n : ℕ) → k ≡ 0 → chain k b n ≡ []
unfolding chain
chain_none k b n e = rw e

pub all_cons : (q : ℕ → Bool) (x : ℕ) (l : List ℕ) → all q (x ∷ l) ≡ q x && all q l
unfolding all
all_cons q x l = refl

all_nil : (q : ℕ → Bool) (l : List ℕ) → l ≡ [] → all q l ≡ true
unfolding all
all_nil q l e = rw e

count_nil : (m : ℕ) (l : List ℕ) → l ≡ [] → count m l ≡ 0
unfolding count
count_nil m l e = rw e

-- a test over a chain: what is left decides
pub record Checking (q : ℕ → Bool) (b : List ℕ) (h n k : ℕ) : Type 0 where
  pub fuel : k ≤ 32
  pub left : all q (chain k b n) ≡ all q (chain_at b h)

module _ (q : ℕ → Bool) (b : List ℕ) (h : ℕ) where
  pub check_start : Checking q b h (get_or b h 0) 32
  check_start = record { fuel = omega arith; left = refl }

  module _ (n k : ℕ) (C : Checking q b h n k) where
    check_at : 0 < k → n ≢ 0 → q n && all q (chain (k - 1) b (get_or b (record_at n) 0)) ≡ all q (chain_at b h)
    check_at p d = sym (all_cons q n (chain (k - 1) b (get_or b (record_at n) 0))) ∙ ap (all q) (sym (chain_step k b n p d)) ∙ C.left

    pub check_next : 0 < k → n ≢ 0 → q n ≡ true → Checking q b h (get_or b (record_at n) 0) (k - 1)
    check_next p d e = record { fuel = omega (arith, C.fuel); left = rw e at (check_at p d) }

    pub check_fail : 0 < k → n ≢ 0 → q n ≡ false → false ≡ all q (chain_at b h)
    check_fail p d e = rw e at (check_at p d)

    pub check_zero : n ≡ 0 → true ≡ all q (chain_at b h)
    check_zero e = sym (all_nil q (chain k b n) (chain_zero k b n e)) ∙ C.left

-- where every member is below 32, so is the next
pub check_low : (b : List ℕ) (h n k : ℕ) → all small (chain_at b h) ≡ true → Checking small b h n k → 0 < k → n ≢ 0 → n < 32
check_low b h n k e C p d = ltb-true n 32 (and_left (small n) (all small (chain (k - 1) b (get_or b (record_at n) 0))) (check_at small b h n k C p d ∙ e))

pub check_low_next : (b : List ℕ) (h n k : ℕ) → all small (chain_at b h) ≡ true → Checking small b h n k → 0 < k → n ≢ 0 → Checking small b h (get_or b (record_at n) 0) (k - 1)
check_low_next b h n k e C p d = check_next small b h n k C p d (lt-ltb n 32 (check_low b h n k e C p d))

and_false : (p q : Bool) → false ≡ q → false ≡ p && q
and_false true q e = e
and_false false q e = refl

-- a count of the members, which must be few and fit: k more may come, with `fuel` of the chain's fuel left
pub record Tallying (b : List ℕ) (h : ℕ) (rule : Rule) (most : ℕ) (s t : List ℕ) (n k : ℕ) : Type 0 where
  pub fuel : ℕ
  pub few : most < 32
  pub spare : k + 32 ≡ fuel + most
  pub check : Checking (fits_rule rule b) b h n fuel
  pub size : length (chain fuel b n) + most ≡ length (chain_at b h) + k
  pub long : length t ≡ 32
  pub counts : (m : ℕ) → m < 32 → get_or t m 0 + count m (chain fuel b n) ≡ get_or s m 0 + count m (chain_at b h)
  pub bound : (m : ℕ) → get_or t m 0 + k ≤ 96

module _ (b : List ℕ) (h : ℕ) (rule : Rule) (most : ℕ) (s : List ℕ) where
  pub tally_start : most < 32 → length s ≡ 32 → ((m : ℕ) → get_or s m 0 ≤ 64) → Tallying b h rule most s s (get_or b h 0) most
  tally_start w l f =
      record {
        fuel = 32;
        few = w;
        spare = omega arith;
        check = check_start (fits_rule rule b) b h;
        size = refl;
        long = l;
        counts = λ m p. refl;
        bound = λ m. omega (arith, f m);
      }

  module _ (t : List ℕ) (n k : ℕ) (C : Tallying b h rule most s t n k) where
    some : 0 < C.fuel
    some = omega (arith, C.few, C.spare)

    pub tally_next : n ≢ 0 → k ≢ 0 → n < 32 → obeys rule b n ≡ true → Tallying b h rule most s (set t n (get_or t n 0 + 1)) (get_or b (record_at n) 0) (k - 1)
    tally_next d q l o =
        record {
          fuel = C.fuel - 1;
          few = C.few;
          spare = omega (arith, C.spare, some);
          check = check_next (fits_rule rule b) b h n C.fuel C.check some d (and_both (small n) (obeys rule b n) (lt-ltb n 32 l) o);
          size = omega (arith, C.size, ap (λ (r : List ℕ). length r) step);
          long = length-set t n (get_or t n 0 + 1) ∙ C.long;
          counts = λ m q. either (ℕ_discrete m n)
              (λ e. omega (arith, C.counts m q, ap (count m) step, count_cons m n rest, ap flag (eq-eqb m n e), same m e))
              (λ e. omega (arith, C.counts m q, ap (count m) step, count_cons m n rest, ap flag (ne_eqb m n e), get_or-set_other t n m (get_or t n 0 + 1) 0 e));
          bound = λ m. either (ℕ_discrete m n)
              (λ e. omega (arith, C.bound m, same m e))
              (λ e. omega (arith, C.bound m, get_or-set_other t n m (get_or t n 0 + 1) 0 e));
        }
      where
        rest : List ℕ
        rest = chain (C.fuel - 1) b (get_or b (record_at n) 0)

        step : chain C.fuel b n ≡ n ∷ rest
        step = chain_step C.fuel b n some d

        same : (m : ℕ) → m ≡ n → get_or (set t n (get_or t n 0 + 1)) m 0 ≡ get_or t m 0 + 1
        same m e = rw e (get_or-set_same t n (get_or t n 0 + 1) 0 (omega (arith, C.long)))

    pub tally_end : n ≡ 0 → Tallied b h rule most s t true
    tally_end e =
        record {
          long = C.long;
          result =
              check_zero (fits_rule rule b) b h n C.fuel C.check e
              ∙ ap (λ (r : Bool). r && all (fits_rule rule b) (chain_at b h)) (sym (le-leb (length (chain_at b h)) most (omega (arith, C.size, ap (λ (r : List ℕ). length r) none))));
          counts = λ _ m q. omega (arith, C.counts m q, count_nil m (chain C.fuel b n) none);
        }
      where
        none : chain C.fuel b n ≡ []
        none = chain_zero C.fuel b n e

    fail : false ≡ chain_fits rule most b h → Tallied b h rule most s t false
    fail e = record { long = C.long; result = e; counts = λ f. absurd (false≢true f) }

    pub tally_many : n ≢ 0 → k ≡ 0 → Tallied b h rule most s t false
    tally_many d e =
        fail (ap (λ (r : Bool). r && all (fits_rule rule b) (chain_at b h))
        (sym (lt-leb (length (chain_at b h)) most (omega (arith, C.size, ap (λ (r : List ℕ). length r) (chain_step C.fuel b n some d))))))

    unfit : n ≢ 0 → fits_rule rule b n ≡ false → Tallied b h rule most s t false
    unfit d e = fail (and_false (leb (length (chain_at b h)) most) _ (check_fail (fits_rule rule b) b h n C.fuel C.check some d e))

    pub tally_big : n ≢ 0 → 32 ≤ n → Tallied b h rule most s t false
    tally_big d l = unfit d (rw (le-ltb n 32 l))

    pub tally_bad : n ≢ 0 → n < 32 → obeys rule b n ≡ false → Tallied b h rule most s t false
    tally_bad d l o = unfit d (rw (lt-ltb n 32 l, o))

-- a test of each number
pub each_step : (q : ℕ → Bool) (k : ℕ) → 0 < k → each k q ≡ q k && each (k - 1) q
unfolding each
each_step q zero p = absurd (omega arith)
each_step q (suc k) p =
    let e : k ≡ suc k - 1 = omega arith in
    ap (λ (j : ℕ). q (suc k) && each j q) e

pub each_none : (q : ℕ → Bool) (k : ℕ) → k ≤ 0 → each k q ≡ true
unfolding each
each_none q zero p = refl
each_none q (suc k) p = absurd (omega arith)

pub each_fail : (q : ℕ → Bool) (k : ℕ) → 0 < k → q k ≡ false → each k q ≡ false
each_fail q k p e = rw e at (each_step q k p)

pub each_next : (q : ℕ → Bool) (k : ℕ) → 0 < k → q k ≡ true → each (k - 1) q ≡ each k q
each_next q k p e = sym (rw e at (each_step q k p))
