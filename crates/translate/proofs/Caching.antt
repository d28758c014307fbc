-- Entries that are kept: where an address stands among them, and what is kept after one more was asked for.
-- Assumes nothing.
use Rattle.std.specs.Prelude.{Some}
use mathlib.Core.Path.{◌≡◌, refl, sym, ap, subst, ◌∙◌}
use mathlib.Core.Bool.{Bool, true, false, ◌||◌}
use mathlib.Core.List.{List, [], ◌∷◌, ◌++◌}
use Prim.Native.Nat.{ℕ, zero, suc, ◌+◌, ◌≤◌, ◌<◌}
use native.Mathlib.Omega.{arith}
use lib.Dec.{eqb}
use lib.ListN.{length, get_or, take, set, length-set}
use lib.Seq.{take-suc, take-suc-set, get_or-take, get_or-set_same, get_or-set_other}
use borrow.Author.Tests.{eq-eqb, ne_eqb, eqb-true, eqb-false, le-leb, lt-leb}
use Rattle.word.specs.Bytes.{bytes_at}
use Rattle.word.proofs.Truth.{or_off, or_first, or_second, and_none}
use Rattle.reach.specs.Lists.{has}
use Rattle.reach.proofs.Lists.{has_append}
use Rattle.tlb.specs.Walks.{entry_at}
use Rattle.tlb.proofs.Entries.{entry_in}
use Rattle.std.specs.Prelude.{Option, None, Some}
use Rattle.std.proofs.Common.{length-take-le}
use Rattle.std.specs.List.{position, position_or_len}
use Rattle.std.proofs.lemmas.Grind.{common_steps}
use Rattle.std.proofs.lemmas.List.Quantifiers.{position-Some}
use Rattle.std.proofs.lemmas.List.Sums.{fails_before_first}
use Rattle.translate.specs.Translate.{is_there}
use Rattle.translate.specs.inner.Cache.{cache, cache_all, slot_of, Slotted, Cached, Finds, Asked}

-- what holds of each place before n, and of n
pub places : (P : ℕ → Type 0) (n : ℕ) → ((i : ℕ) → i < n → P i) → P n → (i : ℕ) → i < n + 1 → P i
places P n old new i p = go (eqb i n) refl
  where
    go : (t : Bool) → eqb i n ≡ t → P i
    go true q = subst P (sym (eqb-true i n q)) new
    go false q = let d = eqb-false i n q in old i (omega arith)

-- ---- the first n addresses

module _ (a : ℕ) (keys : List ℕ) where
  one_more : (n : ℕ) → n < length keys → has a (take (suc n) keys) ≡ has a (take n keys ++ (get_or keys n 0 ∷ []))
  one_more n h = ap (has a) (take-suc keys n 0 h)

  pub none_among : (n : ℕ) → n ≤ length keys → ((i : ℕ) → i < n → get_or keys i 0 ≡ a → ⊥) → has a (take n keys) ≡ false
  unfolding has
  none_among zero h f = refl
  none_among (suc n) h f =
      one_more n (omega arith) ∙ has_append a (take n keys) (get_or keys n 0 ∷ [])
      ∙ or_off (has a (take n keys)) _ (none_among n (omega arith) (λ i p. f i (omega arith))) (or_off (eqb a (get_or keys n 0)) false (ne_eqb a (get_or keys n 0) (λ e. f n (omega arith) (sym e))) refl)

  pub one_among : (n i : ℕ) → n ≤ length keys → i < n → get_or keys i 0 ≡ a → has a (take n keys) ≡ true
  unfolding has
  one_among zero i h p e = let no : ⊥ = omega arith in absurd no
  one_among (suc n) i h p e =
      one_more n (omega arith) ∙ has_append a (take n keys) (get_or keys n 0 ∷ []) ∙ go (eqb i n) refl (λ q. one_among n i (omega arith) q e)
    where
      go : (t : Bool) → eqb i n ≡ t → (i < n → has a (take n keys) ≡ true) → has a (take n keys) || has a (get_or keys n 0 ∷ []) ≡ true
      go true q f = or_second (has a (take n keys)) _ (or_first (eqb a (get_or keys n 0)) false (eq-eqb a (get_or keys n 0) (sym e ∙ ap (λ (j : ℕ). get_or keys j 0) (eqb-true i n q))))
      go false q f = let d = eqb-false i n q in or_first (has a (take n keys)) _ (f (omega arith))

  -- an address whose slot is free is new
  pub free_slot : (n : ℕ) (slots : List ℕ) → n ≤ length keys → Slotted n keys slots → get_or slots (slot_of a) 0 ≡ 0 → has a (take n keys) ≡ false
  free_slot n slots h s e = none_among n h (λ i p q. let u = subst (λ (x : ℕ). 0 < get_or slots (slot_of x) 0) q (s i p) in omega arith)

-- what a search found, by the case that it answered
pub found : (a n : ℕ) (keys : List ℕ) (p q : Option ℕ) → p ≡ q → Finds a n keys p → Finds a n keys q
found a n keys p q e f = subst (Finds a n keys) e f

-- the first place of an address
pub found_at : (a n : ℕ) (keys : List ℕ) → n ≤ length keys → (p : Option ℕ) → p ≡ position (λ (x : ℕ). eqb x a) (take n keys) → Finds a n keys p
found_at a n keys h (Some i) e =
    let f = position-Some (λ (x : ℕ). eqb x a) (take n keys) i 0 (sym e) in
    let lt : i < n = omega (arith, f.0, length-take-le n keys h) in
    (lt, sym (get_or-take n keys i 0 lt) ∙ eqb-true _ a f.1)
found_at a n keys h None e =
    none_among a keys n h (λ i lt q.
    let none : length (take n keys) ≤ position_or_len (λ (x : ℕ). eqb x a) (take n keys) = grind (arith, common_steps) in
    let d = fails_before_first (λ (x : ℕ). eqb x a) (take n keys) i 0 (omega (arith, none, lt, length-take-le n keys h)) in
    eqb-false _ a d (get_or-take n keys i 0 lt ∙ q))

-- ---- one more is asked for

module _ (m k : List ℕ) (a : ℕ) where
  cache_beyond : is_there m a ≡ false → cache m k a ≡ k
  unfolding cache
  cache_beyond e = rw e

  cache_again : has a k ≡ true → cache m k a ≡ k
  unfolding cache
  cache_again e = rw (e, and_none (is_there m a) false refl)

  cache_new : is_there m a ≡ true → has a k ≡ false → cache m k a ≡ k ++ (a ∷ [])
  unfolding cache
  cache_new e f = rw (e, f)

cache_one : (m k : List ℕ) (a : ℕ) → cache m k a ≡ cache_all m k (a ∷ [])
unfolding cache_all
cache_one m k a = refl

module _ (m : List ℕ) (a n : ℕ) (keys words slots : List ℕ) (K : Cached m n keys words slots) where
  same_kept : take n keys ≡ cache m (take n keys) a → Asked m (a ∷ []) n keys n keys words slots
  same_kept e = record { kept = K; addresses = e ∙ cache_one m (take n keys) a }

  pub asked_beyond : length m < a + 4 → Asked m (a ∷ []) n keys n keys words slots
  asked_beyond h = same_kept (sym (cache_beyond m (take n keys) a (lt-leb (a + 4) (length m) h)))

  module _ (i : ℕ) (p : i < n) (e : get_or keys i 0 ≡ a) where
    pub asked_again : Asked m (a ∷ []) n keys n keys words slots
    asked_again = same_kept (sym (cache_again m (take n keys) a (one_among a keys n i (omega (arith, K.few, K.keys_long)) p e)))

    pub again_word : a + 4 ≤ length m → Some (get_or words i 0) ≡ entry_at m a
    again_word h = ap Some (K.read i p ∙ ap (bytes_at 4 m) e) ∙ entry_in m a h

  module _ (h : n < 128) (there : a + 4 ≤ length m) (f : has a (take n keys) ≡ false) (e v : ℕ) (r : e ≡ bytes_at 4 m a) (pos : 0 < v) where
    keys_here : get_or (set keys n a) n 0 ≡ a
    keys_here = get_or-set_same keys n a 0 (omega (arith, K.keys_long))

    keys_other : (i : ℕ) → i < n → get_or (set keys n a) i 0 ≡ get_or keys i 0
    keys_other i p = get_or-set_other keys n i a 0 (λ q. omega arith)

    slot_low : slot_of a < length slots
    slot_low = omega (arith, K.slots_long)

    slot_kept : (x : ℕ) → 0 < get_or slots (slot_of x) 0 → 0 < get_or (set slots (slot_of a) v) (slot_of x) 0
    slot_kept x u = go (eqb (slot_of x) (slot_of a)) refl
      where
        go : (t : Bool) → eqb (slot_of x) (slot_of a) ≡ t → 0 < get_or (set slots (slot_of a) v) (slot_of x) 0
        go true q = let z = ap (λ (j : ℕ). get_or (set slots (slot_of a) v) j 0) (eqb-true (slot_of x) (slot_of a) q) ∙ get_or-set_same slots (slot_of a) v 0 slot_low in subst (λ (j : ℕ). 0 < j) (sym z) pos
        go false q = subst (λ (j : ℕ). 0 < j) (sym (get_or-set_other slots (slot_of a) (slot_of x) v 0 (eqb-false (slot_of x) (slot_of a) q))) u

    kept_new : Cached m (n + 1) (set keys n a) (set words n e) (set slots (slot_of a) v)
    kept_new = record {
      few = omega arith;
      keys_long = length-set keys n a ∙ K.keys_long;
      words_long = length-set words n e ∙ K.words_long;
      slots_long = length-set slots (slot_of a) v ∙ K.slots_long;
      read = places (λ (i : ℕ). get_or (set words n e) i 0 ≡ bytes_at 4 m (get_or (set keys n a) i 0)) n
          (λ i p. get_or-set_other words n i e 0 (λ q. omega arith) ∙ K.read i p ∙ ap (bytes_at 4 m) (sym (keys_other i p)))
          (get_or-set_same words n e 0 (omega (arith, K.words_long)) ∙ r ∙ ap (bytes_at 4 m) (sym keys_here));
      slotted = places (λ (i : ℕ). 0 < get_or (set slots (slot_of a) v) (slot_of (get_or (set keys n a) i 0)) 0) n
          (λ i p. subst (λ (x : ℕ). 0 < get_or (set slots (slot_of a) v) (slot_of x) 0) (sym (keys_other i p)) (slot_kept (get_or keys i 0) (K.slotted i p)))
          (subst (λ (x : ℕ). 0 < get_or (set slots (slot_of a) v) (slot_of x) 0) (sym keys_here) (subst (λ (j : ℕ). 0 < j) (sym (get_or-set_same slots (slot_of a) v 0 slot_low)) pos));
    }

    asked_new : Asked m (a ∷ []) n keys (n + 1) (set keys n a) (set words n e) (set slots (slot_of a) v)
    asked_new = let u : n + 1 ≡ suc n = omega arith in record {
      kept = kept_new;
      addresses = ap (λ (j : ℕ). take j (set keys n a)) u ∙ take-suc-set keys n a (omega (arith, K.keys_long))
          ∙ sym (cache_new m (take n keys) a (le-leb (a + 4) (length m) there) f) ∙ cache_one m (take n keys) a;
    }

    -- with the slot as it was computed
    pub asked_new_at : (s : ℕ) → s ≡ slot_of a → Asked m (a ∷ []) n keys (n + 1) (set keys n a) (set words n e) (set slots s v)
    asked_new_at s q = subst (λ (j : ℕ). Asked m (a ∷ []) n keys (n + 1) (set keys n a) (set words n e) (set slots j v)) (sym q) asked_new
