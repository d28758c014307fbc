-- Three chains over the records of a block, and what release and insert do to them.
-- Assumes nothing.
use mathlib.Core.Path.{◌≡◌, refl, sym, ap}
use mathlib.Core.Logic.{◌⊎◌, inl, inr, ⊎_elim, ◌≢◌}
use Prim.Native.Nat.{ℕ, zero, suc, ◌+◌, ◌<◌, ◌≤◌}
use mathlib.Core.List.{List, [], ◌∷◌, ◌++◌}
use native.Mathlib.Omega.{arith}
use lib.ListN.{length, get_or}
use lib.Dec.{eqb}
use Rattle.layout.specs.Layout.{record_at, free_head}
use Rattle.word.specs.Word.{flag}
use Rattle.records.specs.Records.{count, end_of, release, insert}
use Rattle.records.proofs.Counts.{count_append, count_here}
use Rattle.records.proofs.Links.{Links, links_frame, links_drop, links_splice, end_member}
use Rattle.records.proofs.Words.{Place, Moved, at_words}

-- the three words after a record's link
abbrev pub Held : Type 0
Held = ℕ × ℕ × ℕ

abbrev pub held : List ℕ → ℕ → Held
held b n = (get_or b (record_at n + 1) 0, get_or b (record_at n + 2) 0, get_or b (record_at n + 3) 0)

-- the words h and g hold the heads of the chains ms and os, free_head that of fs; each of records 1 to 31 is on one of
-- them, once
pub record Three (b : List ℕ) (h : ℕ) (ms : List ℕ) (g : ℕ) (os fs : List ℕ) : Type 0 where
  pub long : length b ≡ 256
  pub low_h : h < free_head
  pub low_g : g < free_head
  pub apart : g ≢ h
  pub one : Links b h ms
  pub two : Links b g os
  pub free : Links b free_head fs
  pub once : (n : ℕ) → 0 < n → n < 32 → count n ms + (count n os + count n fs) ≡ 1
  pub below : (n : ℕ) → 0 < count n ms + (count n os + count n fs) → (0 < n) × (n < 32)

pub three_swap : {b : List ℕ} {h g : ℕ} {ms os fs : List ℕ} → Three b h ms g os fs → Three b g os h ms fs
three_swap t =
    record {
      long = t.long;
      low_h = t.low_g;
      low_g = t.low_h;
      apart = λ e. t.apart (sym e);
      one = t.two;
      two = t.one;
      free = t.free;
      once = λ n p q. omega (arith, t.once n p q);
      below = λ n p. t.below n (omega arith);
    }

pub at_most : {b : List ℕ} {h g : ℕ} {ms os fs : List ℕ} → Three b h ms g os fs → (n : ℕ) → count n ms + (count n os + count n fs) ≤ 1
at_most {ms = ms} {os = os} {fs = fs} t n = go (count n ms + (count n os + count n fs)) refl
  where
    go : (k : ℕ) → count n ms + (count n os + count n fs) ≡ k → k ≤ 1
    go zero e = omega arith
    go (suc k) e = let w = t.below n (omega arith) in omega (arith, t.once n w.0 w.1)

-- record 0 is on no chain
pub no_zero : {b : List ℕ} {h g : ℕ} {ms os fs : List ℕ} → Three b h ms g os fs → count 0 ms + (count 0 os + count 0 fs) ≡ 0
no_zero {ms = ms} {os = os} {fs = fs} t = go (count 0 ms + (count 0 os + count 0 fs)) refl
  where
    go : (k : ℕ) → count 0 ms + (count 0 os + count 0 fs) ≡ k → k ≡ 0
    go zero e = refl
    go (suc k) e = absurd (omega (arith, t.below 0 (omega arith)))

-- the word at the end of a chain is its head's, or a member's
pub end_cases : (h : ℕ) (l : List ℕ) → (end_of h l ≡ h) ⊎ ((y : ℕ) × (end_of h l ≡ record_at y) × (0 < count y l))
unfolding end_of
end_cases h [] = inl refl
end_cases h (x ∷ l) = inr (end_member x l)

pub differ : (l : List ℕ) (y r : ℕ) → 0 < count y l → count r l ≡ 0 → y ≢ r
differ l y r p e q = omega (arith, ap (λ (n : ℕ). count n l) q)

-- a link outside a list of records is not the word at its end
pub off_end : (h : ℕ) (s : List ℕ) (y : ℕ) → h < free_head → count y s ≡ 0 → record_at y ≢ end_of h s
off_end h s y lo z q =
    ⊎_elim (λ e. omega arith) (λ w. differ s w.0 y w.2 z (omega (arith, w.1))) (end_cases h s)

-- one record r moves at the seam behind the front s of a chain
module _ (b c : List ℕ) (h r : ℕ) (s : List ℕ) (lo : h < free_head) {next link x y z head : ℕ} (m : Moved b c (end_of h s) r next link x y z head) where
  pub kept_link : (n : ℕ) → n ≢ r → record_at n ≢ end_of h s → get_or c (record_at n) 0 ≡ get_or b (record_at n) 0
  kept_link n d e = m.other (record_at n) (record { not_at = e; not_free = omega arith; not_0 = omega arith; not_1 = omega arith; not_2 = omega arith; not_3 = omega arith })

  kept_head : (g : ℕ) → g < free_head → g ≢ h → get_or c g 0 ≡ get_or b g 0
  kept_head g l d =
      m.other g
      (record { not_at = ⊎_elim (λ e. omega arith) (λ w. omega (arith, w.1)) (end_cases h s); not_free = omega arith; not_0 = omega arith; not_1 = omega arith; not_2 = omega arith; not_3 = omega arith })

  kept_own : h ≢ end_of h s → get_or c h 0 ≡ get_or b h 0
  kept_own d = m.other h (record { not_at = d; not_free = omega arith; not_0 = omega arith; not_1 = omega arith; not_2 = omega arith; not_3 = omega arith })

  pub kept_word : (n j : ℕ) → n ≢ r → 0 < j → j < 4 → get_or c (record_at n + j) 0 ≡ get_or b (record_at n + j) 0
  kept_word n j d p q =
      m.other (record_at n + j)
      (record { not_at = ⊎_elim (λ e. omega arith) (λ w. omega (arith, w.1)) (end_cases h s); not_free = omega arith; not_0 = omega arith; not_1 = omega arith; not_2 = omega arith; not_3 = omega arith })

  pub kept_held : (n : ℕ) → n ≢ r → held c n ≡ held b n
  kept_held n d = λ i. (kept_word n 1 d (omega arith) (omega arith) i, kept_word n 2 d (omega arith) (omega arith) i, kept_word n 3 d (omega arith) (omega arith) i)

pub count_cons : (n x : ℕ) (l : List ℕ) → count n (x ∷ l) ≡ flag (eqb n x) + count n l
unfolding count
count_cons n x l = refl

-- another block in which only record r holds something else
pub record Kept (b c : List ℕ) (r : ℕ) : Type 0 where
  pub positive : 0 < r
  pub other : (n : ℕ) → n ≢ r → held c n ≡ held b n
  pub zero_link : get_or c (record_at 0) 0 ≡ get_or b (record_at 0) 0

-- the seam behind s is a place at which record r, not in s, can be linked out or in
module _ {b : List ℕ} {h : ℕ} {ms : List ℕ} {g : ℕ} {os fs : List ℕ} (T : Three b h ms g os fs) where
  seam : (s : List ℕ) (r : ℕ) → ((y : ℕ) → count y s ≤ count y ms) → r < 32 → count r s ≡ 0 → Place b (end_of h s) r
  seam s r sub lt z =
      ⊎_elim
      (λ e. record { long = T.long; in_block = omega (arith, T.low_h); in_records = lt; not_free = omega (arith, T.low_h); not_0 = omega (arith, T.low_h); not_1 = omega (arith, T.low_h); not_2 = omega (arith, T.low_h); not_3 = omega (arith, T.low_h) })
      (λ w.
      let d : w.0 ≢ r = differ s w.0 r w.2 z in
      let e : end_of h s ≡ record_at w.0 = w.1 in
      let l : w.0 < 32 = (T.below w.0 (omega (arith, sub w.0, w.2))).1 in
      record { long = T.long; in_block = omega arith; in_records = lt; not_free = omega arith; not_0 = omega arith; not_1 = omega arith; not_2 = omega arith; not_3 = omega arith })
      (end_cases h s)

-- the record r behind the front s goes to the front of the free chain
module _ (b : List ℕ) (h g r : ℕ) (s t os fs : List ℕ) (T : Three b h (s ++ (r ∷ t)) g os fs) where
  pub at_r : get_or b (end_of h s) 0 ≡ r
  at_r = (links_drop b h s (r ∷ t) T.one).0

  pub r_in : (0 < r) × (r < 32)
  r_in = T.below r (omega (arith, count_append r s (r ∷ t), count_here r t))

  -- r is nowhere else
  pub r_out : (count r s ≡ 0) × (count r t ≡ 0) × (count r os ≡ 0) × (count r fs ≡ 0)
  r_out = omega (arith, at_most T r, count_append r s (r ∷ t), count_here r t)

  sums : (n : ℕ) → count n (s ++ (r ∷ t)) ≡ count n s + (flag (eqb n r) + count n t)
  sums n = omega (arith, count_append n s (r ∷ t), count_cons n r t)

  pub released : Moved b (release b (end_of h s)) (end_of h s) r (get_or b (record_at r) 0) (get_or b free_head 0) 0 0 0 r
  unfolding release
  released =
      rw at_r (at_words b (end_of h s) r (get_or b (record_at r) 0) (get_or b free_head 0) 0 0 0 r
      (seam T s r (λ y. omega (arith, sums y)) r_in.1 r_out.0))

  pub release_kept : Kept b (release b (end_of h s)) r
  release_kept =
      record {
        positive = r_in.0;
        other = kept_held b (release b (end_of h s)) h r s T.low_h released;
        zero_link =
            kept_link b (release b (end_of h s)) h r s T.low_h released 0 (omega (arith, r_in))
            (off_end h s 0 T.low_h (omega (arith, no_zero T, count_append 0 s (r ∷ t))));
      }

  -- the links of the records that are not in s, nor r, are as they were
  elsewhere : (l : List ℕ) → count r l ≡ 0 → ((y : ℕ) → 0 < count y l → count y s ≡ 0) → (y : ℕ) → 0 < count y l → get_or (release b (end_of h s)) (record_at y) 0 ≡ get_or b (record_at y) 0
  elsewhere l z f y p = kept_link b (release b (end_of h s)) h r s T.low_h released y (differ l y r p z) (off_end h s y T.low_h (f y p))

  pub release_three : Three (release b (end_of h s)) h (s ++ t) g os (r ∷ fs)
  release_three =
      record {
        long = released.long;
        low_h = T.low_h;
        low_g = T.low_g;
        apart = T.apart;
        one =
            links_splice b (release b (end_of h s)) h (end_of h s) s (r ∷ t) t refl
            (λ d. kept_own b (release b (end_of h s)) h r s T.low_h released d)
            (λ y p d. kept_link b (release b (end_of h s)) h r s T.low_h released y (differ s y r p r_out.0) d)
            (λ y p q. omega (arith, T.low_h))
            (λ y. omega (arith, at_most T y, sums y))
            T.one
            (links_frame b (release b (end_of h s)) (record_at r) (end_of h s) t released.at_at (elsewhere t r_out.1 (λ y p. omega (arith, at_most T y, sums y)))
            (links_drop b h s (r ∷ t) T.one).2);
        two =
            links_frame b (release b (end_of h s)) g g os (kept_head b (release b (end_of h s)) h r s T.low_h released g T.low_g T.apart)
            (elsewhere os r_out.2 (λ y p. omega (arith, at_most T y, sums y))) T.two;
        free = (
          released.at_free,
          r_in.0,
          links_frame b (release b (end_of h s)) free_head (record_at r) fs released.at_0 (elsewhere fs r_out.3 (λ y p. omega (arith, at_most T y, sums y))) T.free,
        );
        once = λ n p q. omega (arith, T.once n p q, sums n, count_append n s t, count_cons n r fs);
        below = λ n p. T.below n (omega (arith, p, sums n, count_append n s t, count_cons n r fs));
      }

-- the first free record r goes in behind the front s
module _ (b : List ℕ) (h g r : ℕ) (s t os fs : List ℕ) (x y z : ℕ) (T : Three b h (s ++ t) g os (r ∷ fs)) where
  pub i_in : (0 < r) × (r < 32)
  i_in = T.below r (omega (arith, count_here r fs))

  pub i_out : (count r s ≡ 0) × (count r t ≡ 0) × (count r os ≡ 0) × (count r fs ≡ 0)
  i_out = omega (arith, at_most T r, count_append r s t, count_here r fs)

  pub inserted : Moved b (insert b (end_of h s) x y z) (end_of h s) r r (get_or b (end_of h s) 0) x y z (get_or b (record_at r) 0)
  unfolding insert
  inserted =
      rw T.free.0 (at_words b (end_of h s) r r (get_or b (end_of h s) 0) x y z (get_or b (record_at r) 0)
      (seam T s r (λ n. omega (arith, count_append n s t)) i_in.1 i_out.0))

  pub insert_kept : Kept b (insert b (end_of h s) x y z) r
  insert_kept =
      record {
        positive = i_in.0;
        other = kept_held b (insert b (end_of h s) x y z) h r s T.low_h inserted;
        zero_link =
            kept_link b (insert b (end_of h s) x y z) h r s T.low_h inserted 0 (omega (arith, i_in))
            (off_end h s 0 T.low_h (omega (arith, no_zero T, count_append 0 s t)));
      }

  i_elsewhere : (l : List ℕ) → count r l ≡ 0 → ((n : ℕ) → 0 < count n l → count n s ≡ 0) → (n : ℕ) → 0 < count n l → get_or (insert b (end_of h s) x y z) (record_at n) 0 ≡ get_or b (record_at n) 0
  i_elsewhere l e f n p = kept_link b (insert b (end_of h s) x y z) h r s T.low_h inserted n (differ l n r p e) (off_end h s n T.low_h (f n p))

  pub insert_three : Three (insert b (end_of h s) x y z) h (s ++ (r ∷ t)) g os fs
  insert_three =
      record {
        long = inserted.long;
        low_h = T.low_h;
        low_g = T.low_g;
        apart = T.apart;
        one =
            links_splice b (insert b (end_of h s) x y z) h (end_of h s) s t (r ∷ t) refl
            (λ d. kept_own b (insert b (end_of h s) x y z) h r s T.low_h inserted d)
            (λ n p d. kept_link b (insert b (end_of h s) x y z) h r s T.low_h inserted n (differ s n r p i_out.0) d)
            (λ n p q. omega (arith, T.low_h))
            (λ n. omega (arith, at_most T n, count_append n s t))
            T.one (
              inserted.at_at,
              i_in.0,
              links_frame b (insert b (end_of h s) x y z) (end_of h s) (record_at r) t inserted.at_0
                  (i_elsewhere t i_out.1 (λ n p. omega (arith, at_most T n, count_append n s t)))
                  (links_drop b h s t T.one),
            );
        two =
            links_frame b (insert b (end_of h s) x y z) g g os (kept_head b (insert b (end_of h s) x y z) h r s T.low_h inserted g T.low_g T.apart)
            (i_elsewhere os i_out.2 (λ n p. omega (arith, at_most T n, count_append n s t))) T.two;
        free =
            links_frame b (insert b (end_of h s) x y z) (record_at r) free_head fs inserted.at_free (i_elsewhere fs i_out.3 (λ n p. omega (arith, at_most T n, count_append n s t, count_cons n r fs))) T.free.2;
        once = λ n p q. omega (arith, T.once n p q, count_append n s t, count_append n s (r ∷ t), count_cons n r t, count_cons n r fs);
        below = λ n p. T.below n (omega (arith, p, count_append n s t, count_append n s (r ∷ t), count_cons n r t, count_cons n r fs));
      }
