-- One pass over the pending stores finds what the definitions say of each byte.
-- Assumes nothing.
use Rattle.std.specs.Prelude.{if◌then◌else◌, Option, Some, None}
use mathlib.Core.Path.{◌≡◌, refl, sym, ap, ◌∙◌}
use mathlib.Core.Logic.{◌≢◌, ⊎_elim}
use Prim.Native.Nat.{ℕ, zero, suc, ◌+◌, ◌^◌, ◌<◌, ◌≤◌}
use mathlib.Core.Bool.{Bool, true, false, ◌||◌, not, false≢true}
use mathlib.Core.List.{List, [], ◌∷◌, map}
use native.Mathlib.Omega.{arith}
use native.Mathlib.Decide.{ℕ_discrete}
use lib.ListN.{length, get_or}
use borrow.Author.Tests.{eq-eqb, ne_eqb}
use Rattle.word.specs.Word.{plus}
use Rattle.word.proofs.Laws.{side}
use Rattle.word.proofs.Truth.{or_true}
use Rattle.records.specs.declared.Store.{Store}
use Rattle.layout.specs.Layout.{record_at, store_head}
use Rattle.records.specs.Records.{chain, stores, store_numbers, store_in, linked}
use Rattle.records.proofs.Counts.{either}
use Rattle.records.proofs.Along.{Along, along_start, along_first, along_next, along_chain, along_less, along_end, store_chain}
use Rattle.store_buffer.specs.declared.Source.{Source}
use Rattle.store_buffer.specs.declared.Source.TheVariants.{Nothing, One, Mixed}
use Rattle.store_buffer.specs.Buffer.{sbehit, newest_from, maxsbhit, same_hit, some, sbhazard}
use Rattle.store_buffer.specs.inner.Pass.{cover, on_cover, source_of}
use Rattle.store_buffer.proofs.Covers.{cover_cases}

-- ---- hits

pub same_refl : (h : Option ℕ) → same_hit h h ≡ true
same_refl (Some i) = eq-eqb i i refl
same_refl None = refl

pub same_sym : (g h : Option ℕ) → same_hit g h ≡ false → same_hit h g ≡ false
same_sym (Some i) (Some j) e = ne_eqb j i (λ q. false≢true (sym e ∙ eq-eqb i j (sym q)))
same_sym (Some i) None e = refl
same_sym None (Some j) e = refl
same_sym None None e = absurd (false≢true (sym e))

-- a place that was not passed yet is different
fresh_differs : (i : ℕ) (h : Option ℕ) → ((p : ℕ) → h ≡ Some p → p < i) → same_hit (Some i) h ≡ false
fresh_differs i (Some j) f = ne_eqb i j (λ e. omega (arith, f j refl))
fresh_differs i None f = refl

-- ---- a test of some number

pub some_intro : (k : ℕ) (p : ℕ → Bool) (j : ℕ) → j < k → p j ≡ true → some k p ≡ true
unfolding some
some_intro zero p j h e = absurd (omega arith)
some_intro (suc k) p j h e =
    either (ℕ_discrete j k)
    (λ (q : j ≡ k). ap (λ (t : Bool). t || some k p) (ap p (sym q) ∙ e))
    (λ q. ap (λ (t : Bool). p k || t) (some_intro k p j (omega arith) e) ∙ or_true (p k))

pub some_none : (k : ℕ) (p : ℕ → Bool) → ((j : ℕ) → j < k → p j ≡ false) → some k p ≡ false
unfolding some
some_none zero p f = refl
some_none (suc k) p f = ap (λ (t : Bool). t || some k p) (f k (omega arith)) ∙ some_none k p (λ j h. f j (omega arith))

-- ---- hazards

module _ (sb : List Store) (a d : ℕ) where
  abbrev hit_of : ℕ → Option ℕ
  hit_of j = maxsbhit sb (plus 32 a j)

  -- two bytes with different newest hits make a hazard
  pub hazard_yes : (j k : ℕ) → j < d → k < d → same_hit (hit_of j) (hit_of k) ≡ false → sbhazard sb a d ≡ true
  unfolding sbhazard
  hazard_yes j k p q e =
      ⊎_elim
      (λ (h : j < k). some_intro d _ k q (some_intro k (λ i. not (same_hit (hit_of i) (hit_of k))) j h (ap not e)))
      (λ (h : k ≤ j). some_intro d _ j p (some_intro j (λ i. not (same_hit (hit_of i) (hit_of j))) k (omega (arith, apart_of)) (ap not (same_sym (hit_of j) (hit_of k) e))))
      (side j k)
    where
      apart_of : j ≢ k
      apart_of q = false≢true (sym e ∙ ap (λ (i : ℕ). same_hit (hit_of j) (hit_of i)) (sym q) ∙ same_refl (hit_of j))

  -- bytes with the same newest hit make none
  pub hazard_no : (h : Option ℕ) → ((j : ℕ) → j < d → hit_of j ≡ h) → sbhazard sb a d ≡ false
  unfolding sbhazard
  hazard_no h f =
      some_none d _ (λ k q. some_none k _ (λ j p. ap not (ap (λ (g : Option ℕ). same_hit g (hit_of k)) (f j (omega arith)) ∙ ap (λ (g : Option ℕ). same_hit h g) (f k q) ∙ same_refl h)))

-- ---- the pass

-- what is found after the stores in the records l, of which the first has place i
unfoldable pub pass : List ℕ → ℕ → ℕ → ℕ → Source → List ℕ → Source
pass b a d i f [] = f
pass b a d i f (n ∷ l) = pass b a d (i + 1) (on_cover (cover (store_in b n).address (store_in b n).width a d) i n f) l

-- what is found says of the hits h of the d bytes, where the stores stand in the records N
unfoldable Summed : (ℕ → Option ℕ) → ℕ → List ℕ → Source → Type 0
Summed h d N Nothing = (j : ℕ) → j < d → h j ≡ None
Summed h d N (One i n) = ((j : ℕ) → j < d → h j ≡ Some i) × (n ≡ get_or N i 0)
Summed h d N Mixed = (j : ℕ) × (k : ℕ) × (j < d) × (k < d) × (same_hit (h j) (h k) ≡ false)

-- pointwise equal hits
same_sum : (g h : ℕ → Option ℕ) (d : ℕ) (N : List ℕ) (f : Source) → ((j : ℕ) → j < d → g j ≡ h j) → Summed h d N f → Summed g d N f
unfolding Summed
same_sum g h d N Nothing e s = λ j p. e j p ∙ s j p
same_sum g h d N (One i n) e s = ((λ j p. e j p ∙ s.0 j p), s.1)
same_sum g h d N Mixed e s =
    let j = s.0 in
    let k = s.1 in
    (j, k, s.2, s.3, ap (λ (x : Option ℕ). same_hit x (g k)) (e j s.2) ∙ ap (λ (x : Option ℕ). same_hit (h j) x) (e k s.3) ∙ s.4)

-- the places of the hits are below i
abbrev Fresh : ℕ → (ℕ → Option ℕ) → Type 0
Fresh i h = (j p : ℕ) → h j ≡ Some p → p < i

module _ (b N : List ℕ) (a d : ℕ) (words : (m : ℕ) → get_or b m 0 < 2 ^ 32) (low : a < 2 ^ 32) (pos : 0 < d) where
  -- the hits after one more store
  abbrev next : ℕ → Store → (ℕ → Option ℕ) → ℕ → Option ℕ
  next i s h j = if sbehit s (plus 32 a j) then Some i else h j

  next_fresh : (i : ℕ) (s : Store) (h : ℕ → Option ℕ) → Fresh i h → Fresh (i + 1) (next i s h)
  next_fresh i s h f j p = go (sbehit s (plus 32 a j))
    where
      go : (t : Bool) → (if t then Some i else h j) ≡ Some p → p < i + 1
      go true e = let q : i ≡ p = cc in omega arith
      go false e = omega (arith, f j p e)

  next_hit : (i : ℕ) (s : Store) (h : ℕ → Option ℕ) (j : ℕ) → sbehit s (plus 32 a j) ≡ true → next i s h j ≡ Some i
  next_hit i s h j e = rw e

  next_miss : (i : ℕ) (s : Store) (h : ℕ → Option ℕ) (j : ℕ) → sbehit s (plus 32 a j) ≡ false → next i s h j ≡ h j
  next_miss i s h j e = rw e

  sum_step : (i n : ℕ) (h : ℕ → Option ℕ) (f : Source) → Fresh i h → n ≡ get_or N i 0 → Summed h d N f
      → Summed (next i (store_in b n) h) d N (on_cover (cover (store_in b n).address (store_in b n).width a d) i n f)
  unfolding Summed
  sum_step i n h f fresh e s =
      cover_cases (store_in b n) a d low (words _) (words _) (λ c. Summed (next i (store_in b n) h) d N (on_cover c i n f))
      (λ all. ((λ j p. next_hit i (store_in b n) h j (all j p)), e))
      (λ j k p q yes no.
      (j, k, p, q, ap (λ (x : Option ℕ). same_hit x (next i (store_in b n) h k)) (next_hit i (store_in b n) h j yes) ∙ ap (same_hit (Some i)) (next_miss i (store_in b n) h k no) ∙ fresh_differs i (h k) (fresh k)))
      (λ none. same_sum (next i (store_in b n) h) h d N f (λ j p. next_miss i (store_in b n) h j (none j p)) s)
      pos

  pass_sum : (l : List ℕ) (i : ℕ) (h : ℕ → Option ℕ) (f : Source) → Fresh i h → ((k : ℕ) → k < length l → get_or l k 0 ≡ get_or N (i + k) 0) → Summed h d N f
      → Summed (λ j. newest_from i (h j) (map (store_in b) l) (plus 32 a j)) d N (pass b a d i f l)
  unfolding pass newest_from
  pass_sum [] i h f fresh here s = s
  pass_sum (n ∷ l) i h f fresh here s =
      pass_sum l (i + 1) (next i (store_in b n) h) _ (next_fresh i (store_in b n) h fresh)
      (λ k p. let e : i + suc k ≡ i + 1 + k = omega arith in here (suc k) (omega arith) ∙ ap (λ (m : ℕ). get_or N m 0) e)
      (sum_step i n h f fresh (let e : i + 0 ≡ i = omega arith in here 0 (omega arith) ∙ ap (λ (m : ℕ). get_or N m 0) e) s)

-- the pass over all pending stores
module _ (b : List ℕ) (a d : ℕ) (words : (m : ℕ) → get_or b m 0 < 2 ^ 32) (low : a < 2 ^ 32) (pos : 0 < d) where
  whole_sum : Summed (hit_of (stores b) a d) d (store_numbers b) (pass b a d 0 Nothing (store_numbers b))
  unfolding Summed stores
  whole_sum =
      pass_sum b (store_numbers b) a d words low pos (store_numbers b) 0 (λ j. None) Nothing
      (λ j p e. let z : ◌≡◌ {A = ℕ} 0 1 = cc in omega arith)
      (λ k p. let e : k ≡ 0 + k = omega arith in ap (λ (m : ℕ). get_or (store_numbers b) m 0) e)
      (λ j p. refl)

  first_byte : (h : Option ℕ) → ((j : ℕ) → j < d → hit_of (stores b) a d j ≡ h) → maxsbhit (stores b) a ≡ h
  first_byte h f = let e : a ≡ plus 32 a 0 = omega arith in ap (maxsbhit (stores b)) e ∙ f 0 pos

  sum_found : (f : Source) → Summed (hit_of (stores b) a d) d (store_numbers b) f → f ≡ source_of b a d
  unfolding Summed source_of
  sum_found Nothing s = rw (hazard_no (stores b) a d None s, first_byte None s)
  sum_found (One i n) s = rw (hazard_no (stores b) a d (Some i) s.0, first_byte (Some i) s.0, s.1)
  sum_found Mixed s = rw (hazard_yes (stores b) a d s.0 s.1 s.2 s.3 s.4)

  pub pass_found : pass b a d 0 Nothing (store_numbers b) ≡ source_of b a d
  pass_found = sum_found (pass b a d 0 Nothing (store_numbers b)) whole_sum

-- ---- along the chain

-- the invariant of `find`: at record n, whose store has the place given, what is to come decides
pub record Passing (b : List ℕ) (a d : ℕ) (f : Source) (place n : ℕ) : Type 0 where
  pub at : ℕ
  pub along : Along b store_head (store_numbers b) at n
  pub few : place + length (chain 32 b n) < 32
  pub same : pass b a d place f (chain 32 b n) ≡ pass b a d 0 Nothing (store_numbers b)

pub passing_start : (b : List ℕ) (a d : ℕ) → length b ≡ 256 → linked b ≡ true → Passing b a d Nothing 0 (get_or b store_head 0)
passing_start b a d long e =
    let C = store_chain b long e in
    record { at = store_head; along = along_start b store_head (store_numbers b) C; few = omega (arith, C.short); same = refl }

module _ {b : List ℕ} {a d : ℕ} {f : Source} {place n : ℕ} (P : Passing b a d f place n) where
  pub passing_low : n < 32
  passing_low = P.along.below

  pub passing_place : place < 32
  passing_place = omega (arith, P.few)

  module _ (z : n ≢ 0) where
    chain_next : chain 32 b n ≡ n ∷ chain 32 b (get_or b (record_at n) 0)
    unfolding along_next
    chain_next = along_chain P.along ∙ (along_first P.along z).1 ∙ ap (λ (l : List ℕ). n ∷ l) (sym (along_chain (along_next P.along z)))

    pub passing_less : length (chain 32 b (get_or b (record_at n) 0)) < length (chain 32 b n)
    passing_less = along_less P.along z

    pub passing_next : {g : Source} → g ≡ on_cover (cover (store_in b n).address (store_in b n).width a d) place n f → Passing b a d g (place + 1) (get_or b (record_at n) 0)
    unfolding pass
    passing_next {g} e =
        record {
          at = record_at n;
          along = along_next P.along z;
          few = omega (arith, P.few, passing_less);
          same =
              ap (λ (h : Source). pass b a d (place + 1) h (chain 32 b (get_or b (record_at n) 0))) e
              ∙ ap (λ (l : List ℕ). pass b a d place f l) (sym chain_next)
              ∙ P.same;
        }

  pub passing_end : n ≡ 0 → ((m : ℕ) → get_or b m 0 < 2 ^ 32) → a < 2 ^ 32 → 0 < d → f ≡ source_of b a d
  unfolding pass
  passing_end z words low pos =
      ap (λ (l : List ℕ). pass b a d place f l) (sym (along_chain P.along ∙ along_end P.along z)) ∙ P.same ∙ pass_found b a d words low pos
