-- A load is served by one pending store, or by none.
-- Assumes nothing.
use Rattle.std.specs.Prelude.{if◌then◌else◌, Option, Some, None, Ok, Err}
use mathlib.Core.Path.{◌≡◌, refl, sym, ap, ◌∙◌}
use Prim.Native.Nat.{ℕ, ◌+◌, ◌-◌, ◌*◌, ◌/◌, ◌%◌, ◌^◌, ◌<◌, ◌≤◌}
use mathlib.Core.Bool.{Bool, true, false}
use mathlib.Core.List.{List, []}
use native.Mathlib.Omega.{arith}
use lib.ListN.{length, get_or}
use lib.Dec.{eqb}
use borrow.Author.Tests.{ltb-true}
use Rattle.word.specs.Word.{plus, minus}
use Rattle.word.specs.Bytes.{byte}
use Rattle.word.proofs.Truth.{and_left, and_right, and_both}
use Rattle.records.proofs.Facts.{all_at}
use Rattle.records.specs.declared.Store.{Store}
use Rattle.records.specs.Records.{stores, store_numbers, store_in, no_store, linked}
use Rattle.records.specs.Contents.{store_sound, sound_records}
use Rattle.records.proofs.Along.{stores_small}
use Rattle.records.proofs.Fold.{number_low, at_map, stores_length}
use Rattle.records.proofs.Contents.{parts_of}
use Rattle.store_buffer.specs.declared.Source.{Source}
use Rattle.store_buffer.specs.declared.Source.TheVariants.{Nothing, One, Mixed}
use Rattle.store_buffer.specs.declared.LoadError.{LoadError}
use Rattle.store_buffer.specs.Buffer.{sbehit, sbhit, sbv, maxsbhit, sbhazard}
use Rattle.store_buffer.specs.System.{Ports, ms_of, ms, reads, aligned, sized, on_read, loaded}
use Rattle.store_buffer.specs.inner.Pass.{source_of, source_by}
use Rattle.store_buffer.proofs.Access.{InWord, aligned_word, reads_same, reads_part}
use Rattle.store_buffer.proofs.Hits.{Newest, newest_law, none_hits, one_hits, no_hazard}

-- ---- one byte

ms_hit : (sb : List Store) (p : Ports) (m : List ℕ) (x i : ℕ) → maxsbhit sb x ≡ Some i
    → ms sb p m x ≡ Some (byte (x - (get_or sb i no_store).address) (get_or sb i no_store).value)
unfolding ms_of sbv
ms_hit sb p m x i e = rw (one_hits sb x i e, e)

ms_miss : (sb : List Store) (p : Ports) (m : List ℕ) (x : ℕ) → maxsbhit sb x ≡ None → ms sb p m x ≡ ms [] p m x
unfolding ms_of sbhit
ms_miss sb p m x e = rw (none_hits sb x e)

-- ---- a sound store lies in one word

pub sound_word : (n : ℕ) (s : Store) → store_sound n s ≡ true → InWord s.address s.width
unfolding store_sound aligned
sound_word n s e =
    aligned_word s.address s.width
    (and_both (sized s.width) (eqb (s.address % s.width) 0) (and_left (sized s.width) _ e) (and_left (eqb (s.address % s.width) 0) _ (and_right (sized s.width) _ e)))

-- the bytes that it writes are those from its address on
module _ (s : Store) (low : s.address < 2 ^ 32) (w : InWord s.address s.width) where
  pub hit_from : (x : ℕ) → x < 2 ^ 32 → sbehit s x ≡ true → (s.address ≤ x) × (x < s.address + s.width)
  unfolding sbehit
  hit_from x h e = let p : minus 32 x s.address < s.width = ltb-true _ _ e in (omega (arith, w.within), omega (arith, w.within))

-- ---- an access without a hazard

module _ (sb : List Store) (p : Ports) (m : List ℕ) (a d : ℕ) (low : a < 2 ^ 32) (w : InWord a d) (safe : sbhazard sb a d ≡ false) where
  room : a + d ≤ 2 ^ 32
  room = omega (arith, w.within, w.some)

  -- all its bytes have the same newest hit
  pub alike : (j : ℕ) → j < d → maxsbhit sb (a + j) ≡ maxsbhit sb a
  alike j h =
      let e : a + j ≡ plus 32 a j = omega (arith, room) in
      let z : plus 32 a 0 ≡ a = omega arith in
      ap (maxsbhit sb) e ∙ no_hazard sb a d j safe h ∙ ap (maxsbhit sb) z

  -- where there is none, the bytes are those beneath
  pub served_by_none : maxsbhit sb a ≡ None → reads d (ms sb p m) a ≡ reads d (ms [] p m) a
  served_by_none e = reads_same d (ms sb p m) (ms [] p m) a room (λ j h. ms_miss sb p m (a + j) (alike j h ∙ e))

  module _ (i : ℕ) (e : maxsbhit sb a ≡ Some i) where
    abbrev s : Store
    s = get_or sb i no_store

    module _ (v : InWord s.address s.width) (f : s.address < 2 ^ 32) where
      pub served_from : (s.address ≤ a) × (a < s.address + s.width)
      served_from = hit_from s f v a low (newest_law sb a i e).hit

      -- else all its bytes are those of the one store's value, from where the access begins in it
      pub served_by_one : reads d (ms sb p m) a ≡ Some (s.value / 256 ^ (a - s.address) % 256 ^ d)
      served_by_one =
          reads_part d (ms sb p m) s.value a (a - s.address) room
          (λ j h.
          let q : a + j - s.address ≡ a - s.address + j = omega (arith, served_from.0) in
          ms_hit sb p m (a + j) i (alike j h ∙ e) ∙ ap (λ (k : ℕ). Some (byte k s.value)) q)

-- ---- what one pass finds, and the load

module _ (b : List ℕ) where
  by_nothing : (t : Bool) (h : Option ℕ) → Nothing ≡ (if t then Mixed else source_by b h) → (t ≡ false) × (h ≡ None)
  by_nothing true h e = let z : ◌≡◌ {A = ℕ} 0 1 = cc in absurd (omega arith)
  by_nothing false (Some i) e = let z : ◌≡◌ {A = ℕ} 0 1 = cc in absurd (omega arith)
  by_nothing false None e = (refl, refl)

  by_one : (i n : ℕ) (t : Bool) (h : Option ℕ) → One i n ≡ (if t then Mixed else source_by b h) → (t ≡ false) × (h ≡ Some i) × (n ≡ get_or (store_numbers b) i 0)
  by_one i n true h e = let z : ◌≡◌ {A = ℕ} 0 1 = cc in absurd (omega arith)
  by_one i n false (Some k) e =
      let p : i ≡ k = cc in
      let q : n ≡ get_or (store_numbers b) k 0 = cc in
      (refl, ap Some (sym p), q ∙ ap (λ (j : ℕ). get_or (store_numbers b) j 0) (sym p))
  by_one i n false None e = let z : ◌≡◌ {A = ℕ} 0 1 = cc in absurd (omega arith)

  by_mixed : (t : Bool) (h : Option ℕ) → Mixed ≡ (if t then Mixed else source_by b h) → t ≡ true
  by_mixed true h e = refl
  by_mixed false (Some i) e = let z : ◌≡◌ {A = ℕ} 0 1 = cc in absurd (omega arith)
  by_mixed false None e = let z : ◌≡◌ {A = ℕ} 0 1 = cc in absurd (omega arith)

module _ (b : List ℕ) (a d : ℕ) where
  pub found_nothing : Nothing ≡ source_of b a d → (sbhazard (stores b) a d ≡ false) × (maxsbhit (stores b) a ≡ None)
  unfolding source_of
  found_nothing e = by_nothing b (sbhazard (stores b) a d) (maxsbhit (stores b) a) e

  pub found_one : (i n : ℕ) → One i n ≡ source_of b a d → (sbhazard (stores b) a d ≡ false) × (maxsbhit (stores b) a ≡ Some i) × (n ≡ get_or (store_numbers b) i 0)
  unfolding source_of
  found_one i n e = by_one b i n (sbhazard (stores b) a d) (maxsbhit (stores b) a) e

  pub found_mixed : Mixed ≡ source_of b a d → sbhazard (stores b) a d ≡ true
  unfolding source_of
  found_mixed e = by_mixed b (sbhazard (stores b) a d) (maxsbhit (stores b) a) e

  pub found_other : (f : Source) → f ≡ source_of b a d → (f ≡ Mixed → ⊥) → false ≡ sbhazard (stores b) a d
  found_other Nothing e n = sym (found_nothing e).0
  found_other (One i k) e n = sym (found_one i k e).0
  found_other Mixed e n = absurd (n refl)

  module _ (p : Ports) (m : List ℕ) (low : a < 2 ^ 32) (w : InWord a d) where
    pub load_mixed : Mixed ≡ source_of b a d → Err LoadError.Hazard ≡ loaded (stores b) p m a d
    unfolding loaded
    load_mixed e =
        sym (ap (λ (t : Bool). if t then Err LoadError.Hazard else on_read (maxsbhit (stores b) a) (reads d (ms (stores b) p m) a)) (found_mixed e))

    pub load_beneath : {r : Option ℕ} → Nothing ≡ source_of b a d → r ≡ reads d (ms [] p m) a → on_read None r ≡ loaded (stores b) p m a d
    unfolding loaded
    load_beneath {r} e f =
        let s = found_nothing e in
        rw (s.0, s.1, f, served_by_none (stores b) p m a d low w s.0 s.1)

    module _ (long : length b ≡ 256) (sound : sound_records (length m) b ≡ true) (words : (k : ℕ) → get_or b k 0 < 2 ^ 32) (i n : ℕ) (e : One i n ≡ source_of b a d) where
      chains : linked b ≡ true
      chains = (parts_of (length m) b sound).0

      at_i : Newest (stores b) a i
      at_i = newest_law (stores b) a i (found_one i n e).1

      pub one_low : n < 32
      one_low = omega (arith, (found_one i n e).2, number_low (store_numbers b) i (stores_small b long chains))

      -- the record holds the store
      held : get_or (stores b) i no_store ≡ store_in b n
      unfolding stores
      held = at_map (store_in b) (store_numbers b) i no_store (omega (arith, at_i.below, stores_length b)) ∙ ap (store_in b) (sym (found_one i n e).2)

      in_word : InWord (get_or (stores b) i no_store).address (get_or (stores b) i no_store).width
      in_word = sound_word (length m) (get_or (stores b) i no_store) (all_at (store_sound (length m)) (stores b) i no_store (parts_of (length m) b sound).1 at_i.below)

      in_range : (get_or (stores b) i no_store).address < 2 ^ 32
      in_range = omega (arith, ap (λ (s : Store). s.address) held, words (128 + 4 * n + 1))

      starts : ((get_or (stores b) i no_store).address ≤ a) × (a < (get_or (stores b) i no_store).address + (get_or (stores b) i no_store).width)
      starts = served_from (stores b) p m a d low w (found_one i n e).0 i (found_one i n e).1 in_word in_range

      offset : minus 32 a (store_in b n).address ≡ a - (get_or (stores b) i no_store).address
      offset = omega (arith, ap (λ (s : Store). s.address) held, starts.0, in_range)

      pub one_near : minus 32 a (store_in b n).address < 4
      one_near = omega (arith, offset, starts.1, in_word.within)

      pub load_one : {v : ℕ} → v ≡ (store_in b n).value / 256 ^ minus 32 a (store_in b n).address % 256 ^ d → Ok (record { value = v; served_by = Some i }) ≡ loaded (stores b) p m a d
      unfolding loaded
      load_one {v} f =
          let s = found_one i n e in
          let r : v ≡ (get_or (stores b) i no_store).value / 256 ^ (a - (get_or (stores b) i no_store).address) % 256 ^ d =
          f ∙ ap (λ (k : ℕ). (store_in b n).value / 256 ^ k % 256 ^ d) offset ∙ ap (λ (t : Store). t.value / 256 ^ (a - (get_or (stores b) i no_store).address) % 256 ^ d) (sym held) in
          rw (s.0, s.1, served_by_one (stores b) p m a d low w s.0 i s.1 in_word in_range, ← r)
