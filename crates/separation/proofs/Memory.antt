-- Memory: agreement on some pages, and what writes change.
-- Assumes nothing.
use mathlib.Core.Path.{◌≡◌, refl, sym, ap, subst, ◌∙◌}
use mathlib.Core.List.{List}
use Prim.Native.Nat.{ℕ, zero, suc, ◌+◌, ◌-◌, ◌*◌, ◌/◌, ◌%◌, ◌<◌, ◌≤◌, min}
use native.Mathlib.Omega.{arith}
use native.Mathlib.Decide.{ℕ_discrete}
use lib.ListN.{length, get_or, set, take, drop, length-set, length-take, length-drop}
use lib.Seq.{get_or-set_same, get_or-set_other, set_out, get_or-take, get_or-drop, ext_get_or}
use lib.Dec.{ltb, leb}
use borrow.Author.Tests.{ltb-true, ltb-false, lt-ltb, le-ltb, le-leb, lt-leb}
use Rattle.word.specs.Bytes.{put, bytes_at}
use Rattle.word.proofs.Bytes.{Bytes}
use Rattle.word.proofs.Truth.{tested, clash}
use Rattle.word.proofs.Laws.{ltb_same}
use Rattle.records.proofs.Counts.{either}
use Rattle.tlb.specs.Walks.{set_d, entry_at}
use Rattle.tlb.proofs.Entries.{set_d_twice, mark_memory, entry_same}
use Rattle.reach.proofs.Lists.{In}

abbrev pub page : ℕ → ℕ
page a = a / 4096

-- ---- two memories agree on some pages

pub record Same (m n : List ℕ) (a : ℕ) : Type 0 where
  pub byte : get_or m a 0 ≡ get_or n a 0
  pub there : ltb a (length m) ≡ ltb a (length n)

abbrev pub Agree : List ℕ → List ℕ → List ℕ → Type 0
Agree ps m n = (a : ℕ) → In (page a) ps → Same m n a

-- an access of n bytes at a stays in the page of a
abbrev pub Fits : ℕ → ℕ → Type 0
Fits a n = (0 < n) × (a % 4096 + n ≤ 4096)

pub same_page : (a n j : ℕ) → Fits a n → a ≤ j → j < a + n → page j ≡ page a
same_page a n j f p q = omega arith

pub leb_same : (a b c : ℕ) → 0 < a → ltb (a - 1) b ≡ ltb (a - 1) c → leb a b ≡ leb a c
leb_same a b c p e =
    tested (ltb (a - 1) b)
    (λ t. le-leb a b (omega (arith, ltb-true (a - 1) b t)) ∙ sym (le-leb a c (omega (arith, ltb-true (a - 1) c (sym e ∙ t)))))
    (λ t. lt-leb a b (omega (arith, ltb-false (a - 1) b t)) ∙ sym (lt-leb a c (omega (arith, ltb-false (a - 1) c (sym e ∙ t)))))

module _ (ps m n : List ℕ) (g : Agree ps m n) where
  pub inside_same : (a k : ℕ) → In (page a) ps → Fits a k → leb (a + k) (length m) ≡ leb (a + k) (length n)
  inside_same a k h f =
      leb_same (a + k) (length m) (length n) (omega arith)
      (g (a + k - 1) (subst (λ (p : ℕ). In p ps) (sym (same_page a k (a + k - 1) f (omega arith) (omega arith))) h)).there

  pub all_pages : (a k : ℕ) → In (page a) ps → Fits a k → (j : ℕ) → a ≤ j → j < a + k → In (page j) ps
  all_pages a k h f j p q = subst (λ (x : ℕ). In x ps) (sym (same_page a k j f p q)) h

  pub entry_at_same : (a : ℕ) → In (page a) ps → Fits a 4 → entry_at m a ≡ entry_at n a
  entry_at_same a h f = entry_same m n a (λ j p q. (g j (all_pages a 4 h f j p q)).byte) (inside_same a 4 h f)

-- the same bytes written to both
set_same : (m n : List ℕ) (i v a : ℕ) → Same m n a → Same (set m i v) (set n i v) a
set_same m n i v a s =
    record {
      byte = either (ℕ_discrete a i) here (λ d. get_or-set_other m i a v 0 d ∙ s.byte ∙ sym (get_or-set_other n i a v 0 d));
      there = ap (ltb a) (length-set m i v) ∙ s.there ∙ sym (ap (ltb a) (length-set n i v));
    }
  where
    here : a ≡ i → get_or (set m i v) a 0 ≡ get_or (set n i v) a 0
    here e =
        subst (λ (j : ℕ). get_or (set m j v) a 0 ≡ get_or (set n j v) a 0) e
        (tested (ltb a (length m))
        (λ t. get_or-set_same m a v 0 (ltb-true _ _ t) ∙ sym (get_or-set_same n a v 0 (ltb-true _ _ (sym s.there ∙ t))))
        (λ t. ap (λ (l : List ℕ). get_or l a 0) (set_out m a v (ltb-false _ _ t)) ∙ s.byte
        ∙ sym (ap (λ (l : List ℕ). get_or l a 0) (set_out n a v (ltb-false _ _ (sym s.there ∙ t))))))

pub put_same : (d : ℕ) (m n : List ℕ) (i v a : ℕ) → Same m n a → Same (put d m i v) (put d n i v) a
put_same zero m n i v a s = s
put_same (suc d) m n i v a s = put_same d (set m i (v % 256)) (set n i (v % 256)) (i + 1) (v / 256) a (set_same m n i (v % 256) a s)

pub agree_sym : (ps m n : List ℕ) → Agree ps m n → Agree ps n m
agree_sym ps m n g a h = record { byte = sym (g a h).byte; there = sym (g a h).there }

pub agree_trans : (ps k m n : List ℕ) → Agree ps k m → Agree ps m n → Agree ps k n
agree_trans ps k m n f g a h = record { byte = (f a h).byte ∙ (g a h).byte; there = (f a h).there ∙ (g a h).there }

-- ---- what steps may do to a byte x at a, so that it becomes y: pages ws are written, tables ts marked

pub data Moved (ts ws : List ℕ) (a x y : ℕ) : Type 0 where
  still : y ≡ x → Moved ts ws a x y
  free : In (page a) ws → Moved ts ws a x y
  marked : In (page a) ts → a % 4 ≡ 0 → y ≡ set_d x → Moved ts ws a x y

pub record Kept (ts ws m n : List ℕ) : Type 0 where
  pub size : length n ≡ length m
  pub byte : (a : ℕ) → Moved ts ws a (get_or m a 0) (get_or n a 0)

moved_trans : (ts ws : List ℕ) (a x y z : ℕ) → Moved ts ws a x y → Moved ts ws a y z → Moved ts ws a x z
moved_trans ts ws a x y z (still e) (still f) = still (f ∙ e)
moved_trans ts ws a x y z (still e) (free h) = free h
moved_trans ts ws a x y z (still e) (marked h p f) = marked h p (f ∙ ap set_d e)
moved_trans ts ws a x y z (free h) g = free h
moved_trans ts ws a x y z (marked h p e) (still f) = marked h p (f ∙ e)
moved_trans ts ws a x y z (marked h p e) (free k) = free k
moved_trans ts ws a x y z (marked h p e) (marked k q f) = marked h p (f ∙ ap set_d e ∙ set_d_twice x)

pub kept_refl : (ts ws m : List ℕ) → Kept ts ws m m
kept_refl ts ws m = record { size = refl; byte = λ a. still refl }

pub kept_trans : (ts ws k m n : List ℕ) → Kept ts ws k m → Kept ts ws m n → Kept ts ws k n
kept_trans ts ws k m n f g =
    record { size = g.size ∙ f.size; byte = λ a. moved_trans ts ws a (get_or k a 0) (get_or m a 0) (get_or n a 0) (f.byte a) (g.byte a) }

pub kept_more : (ts ws us vs m n : List ℕ) → ((p : ℕ) → In p ts → In p us) → ((p : ℕ) → In p ws → In p vs) → Kept ts ws m n → Kept us vs m n
kept_more ts ws us vs m n f g k = record { size = k.size; byte = λ a. more a (k.byte a) }
  where
    more : (a : ℕ) → Moved ts ws a (get_or m a 0) (get_or n a 0) → Moved us vs a (get_or m a 0) (get_or n a 0)
    more a (still e) = still e
    more a (free h) = free (g _ h)
    more a (marked h p e) = marked (f _ h) p e

-- a byte in a page that is not written and not a table, or that is not the first of its entry, is as it was
pub kept_still : (ts ws m n : List ℕ) (a : ℕ) → Kept ts ws m n → (In (page a) ws → ⊥) → (In (page a) ts → a % 4 ≡ 0 → ⊥) → get_or n a 0 ≡ get_or m a 0
kept_still ts ws m n a k f g = go (k.byte a)
  where
    go : Moved ts ws a (get_or m a 0) (get_or n a 0) → get_or n a 0 ≡ get_or m a 0
    go (still e) = e
    go (free h) = absurd (f h)
    go (marked h p e) = absurd (g h p)

pub kept_agree : (ts ws ps m n : List ℕ) → Kept ts ws m n → ((p : ℕ) → In p ps → In p ws → ⊥) → ((p : ℕ) → In p ps → In p ts → ⊥) → Agree ps m n
kept_agree ts ws ps m n k f g a h =
    record { byte = sym (kept_still ts ws m n a k (f (page a) h) (λ q _. g (page a) h q)); there = sym (ap (ltb a) k.size) }

-- one byte written
set_moved : (ts ws m : List ℕ) (i v : ℕ) → Moved ts ws i (get_or m i 0) v → Kept ts ws m (set m i v)
set_moved ts ws m i v h =
    record {
      size = length-set m i v;
      byte = λ a. either (ℕ_discrete a i) (here a) (λ d. still (get_or-set_other m i a v 0 d));
    }
  where
    here : (a : ℕ) → a ≡ i → Moved ts ws a (get_or m a 0) (get_or (set m i v) a 0)
    here a e =
        subst (λ (j : ℕ). Moved ts ws j (get_or m j 0) (get_or (set m i v) j 0)) (sym e)
        (tested (ltb i (length m))
        (λ t. subst (λ (y : ℕ). Moved ts ws i (get_or m i 0) y) (sym (get_or-set_same m i v 0 (ltb-true _ _ t))) h)
        (λ t. still (ap (λ (l : List ℕ). get_or l i 0) (set_out m i v (ltb-false _ _ t)))))

-- bytes written to writable pages
pub put_free : (ts ws : List ℕ) (d : ℕ) (m : List ℕ) (i v : ℕ) → ((j : ℕ) → i ≤ j → j < i + d → In (page j) ws) → Kept ts ws m (put d m i v)
put_free ts ws zero m i v h = kept_refl ts ws m
put_free ts ws (suc d) m i v h =
    kept_trans ts ws m (set m i (v % 256)) (put d (set m i (v % 256)) (i + 1) (v / 256))
    (set_moved ts ws m i (v % 256) (free (h i (omega arith) (omega arith))))
    (put_free ts ws d (set m i (v % 256)) (i + 1) (v / 256) (λ j p q. h j (omega arith) (omega arith)))

-- an entry of a table written with its accessed bit
pub put_mark : (ts ws m : List ℕ) (a : ℕ) → Bytes m → In (page a) ts → a % 4 ≡ 0 → Kept ts ws m (put 4 m a (set_d (bytes_at 4 m a)))
put_mark ts ws m a b h p = rw (mark_memory m a b) (set_moved ts ws m a (set_d (get_or m a 0)) (marked h p refl))

-- bytes stay bytes
set_bytes : (m : List ℕ) (i v : ℕ) → Bytes m → v < 256 → Bytes (set m i v)
set_bytes m i v b h j =
    either (ℕ_discrete j i)
    (λ e. tested (ltb i (length m))
    (λ t. let f : get_or (set m i v) j 0 ≡ v = ap (λ (x : ℕ). get_or (set m i v) x 0) e ∙ get_or-set_same m i v 0 (ltb-true _ _ t) in omega (arith, f))
    (λ t. let f : get_or (set m i v) j 0 ≡ get_or m j 0 = ap (λ (l : List ℕ). get_or l j 0) (set_out m i v (ltb-false _ _ t)) in omega (arith, f, b j)))
    (λ d. omega (arith, get_or-set_other m i j v 0 d, b j))

pub put_bytes : (d : ℕ) (m : List ℕ) (a v : ℕ) → Bytes m → Bytes (put d m a v)
put_bytes zero m a v b = b
put_bytes (suc d) m a v b = put_bytes d (set m a (v % 256)) (a + 1) (v / 256) (set_bytes m a (v % 256) b (omega arith))

-- ---- equal bytes of pages, and agreement of memories on them

abbrev pub bytes_of : List ℕ → ℕ → List ℕ
bytes_of m p = take 4096 (drop (4096 * p) m)

bytes_at_lem : (m : List ℕ) (p i : ℕ) → i < 4096 → get_or (bytes_of m p) i 0 ≡ get_or m (4096 * p + i) 0
bytes_at_lem m p i h = get_or-take 4096 (drop (4096 * p) m) i 0 h ∙ get_or-drop (4096 * p) m i 0

bytes_length : (m : List ℕ) (p : ℕ) → length (bytes_of m p) ≡ min 4096 (length m - 4096 * p)
bytes_length m p = length-take 4096 (drop (4096 * p) m) ∙ ap (min 4096) (length-drop (4096 * p) m)

pub page_same : (m n : List ℕ) (p a : ℕ) → bytes_of m p ≡ bytes_of n p → page a ≡ p → Same m n a
page_same m n p a e q =
    record {
      byte = at m ∙ ap (λ (l : List ℕ). get_or l (a % 4096) 0) e ∙ sym (at n);
      there =
          ltb_same a (length m) a (length n)
          (λ h. omega (arith, bytes_length m p, bytes_length n p, ap (λ (l : List ℕ). length l) e))
          (λ h. omega (arith, bytes_length m p, bytes_length n p, ap (λ (l : List ℕ). length l) e));
    }
  where
    at : (l : List ℕ) → get_or l a 0 ≡ get_or (bytes_of l p) (a % 4096) 0
    at l = let z : a ≡ 4096 * p + a % 4096 = omega arith in ap (λ (x : ℕ). get_or l x 0) z ∙ sym (bytes_at_lem l p (a % 4096) (omega arith))

module _ (m n : List ℕ) (p : ℕ) (f : (a : ℕ) → page a ≡ p → Same m n a) where
  at_most : (x y : List ℕ) → ((a : ℕ) → page a ≡ p → ltb a (length x) ≡ ltb a (length y)) → min 4096 (length x - 4096 * p) ≤ min 4096 (length y - 4096 * p)
  at_most x y g =
      tested (ltb (min 4096 (length y - 4096 * p)) (min 4096 (length x - 4096 * p)))
      (λ t. let l : min 4096 (length y - 4096 * p) < min 4096 (length x - 4096 * p) = ltb-true _ _ t in
      let r : ℕ = 4096 * p + min 4096 (length y - 4096 * p) in
      absurd (clash (ltb r (length y)) (sym (g r (omega arith)) ∙ lt-ltb r (length x) (omega arith)) (le-ltb r (length y) (omega arith))))
      (λ t. ltb-false _ _ t)

  pub bytes_same : bytes_of m p ≡ bytes_of n p
  bytes_same =
      ext_get_or 0 (bytes_of m p) (bytes_of n p) long
      (λ i h. bytes_at_lem m p i (short i h) ∙ (f (4096 * p + i) (in_page i (short i h))).byte ∙ sym (bytes_at_lem n p i (short i h)))
    where
      long : length (bytes_of m p) ≡ length (bytes_of n p)
      long =
          omega (arith, bytes_length m p, bytes_length n p, at_most m n (λ a q. (f a q).there), at_most n m (λ a q. sym (f a q).there))

      short : (i : ℕ) → i < length (bytes_of m p) → i < 4096
      short i h = omega (arith, bytes_length m p)

      in_page : (i : ℕ) → i < 4096 → page (4096 * p + i) ≡ p
      in_page i h = omega arith
