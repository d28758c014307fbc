-- The answers and the entries kept, address by address.
-- Assumes nothing.
use mathlib.Core.Path.{◌≡◌, refl, sym, ap, ap₂, subst, ◌∙◌}
use mathlib.Core.List.{List, [], ◌∷◌, ◌++◌, flat_map}
use Prim.Native.Nat.{ℕ, suc, ◌+◌, ◌*◌, ◌^◌, ◌≤◌, ◌<◌}
use native.Mathlib.Omega.{arith}
use lib.ListN.{length, get_or, take, drop, length-append}
use lib.Seq.{take-suc, take_all, take_at, sets, sets-eq, length-sets, length-take-le}
use Rattle.records.specs.declared.Walk.{Walk}
use Rattle.tables.specs.Views.{asid_of}
use Rattle.tlb.specs.Walks.{walk_level, base_address, winit}
use Rattle.tlb.specs.Steps.{origin_of}
use Rattle.tlb.proofs.Fields.{winit_fields}
use Rattle.reach.proofs.Lists.{flat_map_append, flat_map_one}
use Rattle.translate.specs.declared.Translation.{Translation}
use Rattle.translate.specs.declared.Translation.TheVariants.{Mapped, Absent, Beyond}
use Rattle.translate.specs.Translate.{walk_for, leads, needs, translation_words, answers_for, needs_for, reads_for}
use Rattle.translate.specs.inner.Cache.{cache_all, Cached, Asked}
use Rattle.translate.proofs.Different.{asked_append, grows, counted}
use Rattle.translate.proofs.Leading.{needs_few}

-- ---- the walk of an address

module _ (b : List ℕ) (a : ℕ) where
  pub walk_for_lem : {w : Walk} {p o s : ℕ} → w ≡ winit p o s → p ≡ base_address a → o ≡ origin_of b → s ≡ asid_of b → w ≡ walk_for b a
  unfolding walk_for
  walk_for_lem e p o s = e ∙ (λ i. winit (p i) (o i) (s i))

pub first_level : {w : Walk} (p o s : ℕ) → w ≡ winit p o s → s < 2 ^ 6 → walk_level w ≡ 2
first_level p o s e h = ap (λ (v : Walk). walk_level v) e ∙ (winit_fields p o s h).level

-- ---- one address more

-- the words of an answer, by the case that it is
pub put_case : (r : List ℕ) (at : ℕ) {o : List ℕ} (t u : Translation) → t ≡ u → o ≡ sets r at (translation_words u) → o ≡ sets r at (translation_words t)
put_case r at t u e f = f ∙ ap (λ (v : Translation). sets r at (translation_words v)) (sym e)

three : (t : Translation) → length (translation_words t) ≡ 3
three (Mapped page rights) = refl
three (Absent level) = refl
three Beyond = refl

module _ (b m l : List ℕ) where
  module _ (i : ℕ) (h : i < length l) where
    one_more : take (i + 1) l ≡ take i l ++ (get_or l i 0 ∷ [])
    one_more = let e : i + 1 ≡ suc i = omega arith in ap (λ (j : ℕ). take j l) e ∙ take-suc l i 0 h

    flat_next : (f : ℕ → List ℕ) → flat_map f (take (i + 1) l) ≡ flat_map f (take i l) ++ f (get_or l i 0)
    flat_next f = ap (flat_map f) one_more ∙ flat_map_append f (take i l) (get_or l i 0 ∷ []) ∙ ap (λ (z : List ℕ). flat_map f (take i l) ++ z) (flat_map_one f (get_or l i 0))

    answers_next : answers_for b m (take (i + 1) l) ≡ answers_for b m (take i l) ++ translation_words (leads 2 m (walk_for b (get_or l i 0)))
    unfolding answers_for
    answers_next = flat_next (λ (a : ℕ). translation_words (leads 2 m (walk_for b a)))

    needs_next : needs_for b m (take (i + 1) l) ≡ needs_for b m (take i l) ++ needs 2 m (walk_for b (get_or l i 0))
    unfolding needs_for
    needs_next = flat_next (λ (a : ℕ). needs 2 m (walk_for b a))

  -- the answers are written, and the entries asked for, up to address i
  pub record Filling (keys₀ : List ℕ) (i n : ℕ) (r keys words slots : List ℕ) : Type 0 where
    pub long : length r ≡ 3 * length l
    pub answered : take (3 * i) r ≡ answers_for b m (take i l)
    pub asked : Asked m (needs_for b m (take i l)) 0 keys₀ n keys words slots
    pub few : n ≤ 2 * i

  pub fill_start : {keys words slots r : List ℕ} → length r ≡ 3 * length l → Cached m 0 keys words slots → Filling keys 0 0 r keys words slots
  unfolding answers_for needs_for cache_all flat_map
  fill_start e K = record { long = e; answered = refl; asked = record { kept = K; addresses = refl }; few = omega arith }

  -- with the memory and the count as a new cache has them
  pub fill_begin : {o keys words slots r : List ℕ} {k : ℕ} → length r ≡ 3 * length l → o ≡ m → k ≡ 0 → Cached o k keys words slots → Filling keys 0 k r keys words slots
  fill_begin {o} {keys} {words} {slots} {r} {k} e z n K =
      subst (λ (j : ℕ). Filling keys 0 j r keys words slots) (sym n)
      (fill_start e (subst (λ (j : ℕ). Cached m j keys words slots) n (subst (λ (x : List ℕ). Cached x k keys words slots) z K)))

  module _ {keys₀ : List ℕ} {i n : ℕ} {r keys words slots : List ℕ} (F : Filling keys₀ i n r keys words slots) (h : i < length l) where
    -- the walk, and the words of its answer
    abbrev v : Walk
    v = walk_for b (get_or l i 0)

    abbrev T : List ℕ
    T = translation_words (leads 2 m v)

    put_at : take (3 * (i + 1)) (sets r (3 * i) T) ≡ take (3 * i) r ++ T
    put_at =
        let t = three (leads 2 m v) in
        let k = length-take-le (3 * i) r (omega (arith, F.long)) in
        let e : length (take (3 * i) r ++ T) ≡ 3 * (i + 1) = omega (arith, length-append (take (3 * i) r) T, t, k) in
        ap (take (3 * (i + 1))) (sets-eq T r (3 * i) (omega (arith, F.long, t)))
        ∙ take_at (take (3 * i) r ++ T) (drop (3 * i + length T) r) (3 * (i + 1)) e

    pub fill_next : {w : Walk} {to : Translation} {n' : ℕ} {keys' words' slots' r' : List ℕ} → w ≡ v → to ≡ leads 2 m w → Asked m (needs 2 m w) n keys n' keys' words' slots'
        → r' ≡ sets r (3 * i) (translation_words to) → Filling keys₀ (i + 1) n' r' keys' words' slots'
    fill_next {w} {to} {n'} {keys'} {words'} {slots'} {r'} e f A g =
        let q : r' ≡ sets r (3 * i) T = g ∙ ap (λ (t : Translation). sets r (3 * i) (translation_words t)) (f ∙ ap (leads 2 m) e) in
        record {
          long = ap (length {A = ℕ}) q ∙ length-sets r (3 * i) T ∙ F.long;
          answered = ap (take (3 * (i + 1))) q ∙ put_at ∙ ap (λ (z : List ℕ). z ++ T) F.answered ∙ sym (answers_next i h);
          asked = record {
            kept = A.kept;
            addresses = A.addresses ∙ ap₂ (λ (k : List ℕ) (u : Walk). cache_all m k (needs 2 m u)) F.asked.addresses e
                ∙ sym (asked_append m (take 0 keys₀) (needs_for b m (take i l)) (needs 2 m v)) ∙ ap (cache_all m (take 0 keys₀)) (sym (needs_next i h));
          };
          few = omega (arith, F.few, needs_few 2 m w, grows A (omega (arith, F.asked.kept.few, F.asked.kept.keys_long)));
        }

  -- all addresses
  module _ {keys₀ : List ℕ} {i n : ℕ} {r keys words slots : List ℕ} (F : Filling keys₀ i n r keys words slots) (h : length l ≤ i) where
    all_taken : take i l ≡ l
    all_taken = take_all i l h

    pub fill_answers : r ≡ answers_for b m l
    fill_answers = sym (take_all (3 * i) r (omega (arith, F.long))) ∙ F.answered ∙ ap (answers_for b m) all_taken

    pub fill_reads : n ≡ reads_for b m l
    unfolding reads_for
    fill_reads = counted F.asked ∙ ap (reads_for b m) all_taken
