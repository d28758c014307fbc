-- Laws of page table entries: the accessed bit and the other fields, and the bytes of an entry in memory.
-- Assumes nothing.
use Rattle.std.specs.Prelude.{if◌then◌else◌, Some, None}
use mathlib.Core.Path.{◌≡◌, refl, sym, ap, ap₂, subst, ◌∙◌}
use mathlib.Core.Bool.{Bool, true, false}
use mathlib.Core.List.{List}
use Prim.Native.Nat.{ℕ, zero, suc, ◌+◌, ◌*◌, ◌/◌, ◌%◌, ◌^◌, ◌≤◌, ◌<◌}
use native.Mathlib.Omega.{arith}
use lib.ListN.{length, get_or, set}
use lib.Seq.{set-get_or, get_or-set_other}
use lib.Dec.{eqb, leb}
use borrow.Author.Tests.{eq-eqb, ne_eqb, eqb-true, eqb-false, le-leb, lt-leb}
use Rattle.word.specs.Bytes.{bytes_at, put}
use Rattle.word.proofs.Bytes.{Bytes}
use Rattle.tlb.specs.Walks.{pte_ba, pte_p, pte_r, pte_a, set_d, entry_at}

-- ---- the accessed bit

module _ (e : ℕ) where
  pub set_d_set : pte_a e ≡ true → set_d e ≡ e
  unfolding set_d
  set_d_set p = rw p

  pub set_d_clear : pte_a e ≡ false → set_d e ≡ e + 2 ^ 7
  unfolding set_d
  set_d_clear p = rw p

  -- what holds of a set bit and of a clear one
  by_bit : (P : ℕ → Type 0) → (pte_a e ≡ true → P e) → (pte_a e ≡ false → P (e + 2 ^ 7)) → P (set_d e)
  by_bit P f g = go (pte_a e) refl
    where
      go : (t : Bool) → pte_a e ≡ t → P (set_d e)
      go true p = subst P (sym (set_d_set p)) (f p)
      go false p = subst P (sym (set_d_clear p)) (g p)

  pub clear : pte_a e ≡ false → e / 2 ^ 7 % 2 ≡ 0
  clear p = let n = eqb-false (e / 2 ^ 7 % 2) 1 p in omega arith

  -- it is set, and every bit but it is as before
  pub set_d_a : pte_a (set_d e) ≡ true
  set_d_a = by_bit (λ (n : ℕ). pte_a n ≡ true) (λ p. p) (λ p. eq-eqb ((e + 2 ^ 7) / 2 ^ 7 % 2) 1 (omega (arith, clear p)))

  pub set_d_high : set_d e / 2 ^ 8 ≡ e / 2 ^ 8
  set_d_high = by_bit (λ (n : ℕ). n / 2 ^ 8 ≡ e / 2 ^ 8) (λ p. refl) (λ p. omega (arith, clear p))

  -- of an entry: the lowest byte is that of the lowest byte
  pub set_d_byte : set_d e % 2 ^ 8 ≡ set_d (e % 2 ^ 8)
  unfolding set_d
  set_d_byte = go (pte_a e) refl
    where
      go : (t : Bool) → pte_a e ≡ t → set_d e % 2 ^ 8 ≡ set_d (e % 2 ^ 8)
      go true p = rw (p, eq-eqb (e % 2 ^ 8 / 2 ^ 7 % 2) 1 (omega (arith, eqb-true (e / 2 ^ 7 % 2) 1 p)))
      go false p = rw (p, ne_eqb (e % 2 ^ 8 / 2 ^ 7 % 2) 1 (λ q. omega (arith, clear p))) (omega (arith, clear p))

pub set_d_twice : (e : ℕ) → set_d (set_d e) ≡ set_d e
set_d_twice e = set_d_set (set_d e) (set_d_a e)

-- ---- base, present and rights stand in the upper three bytes

module _ (e f : ℕ) (h : e / 2 ^ 8 ≡ f / 2 ^ 8) where
  pub same_ba : pte_ba e ≡ pte_ba f
  same_ba = omega arith

  pub same_p : pte_p e ≡ pte_p f
  same_p = let k : e / 2 ^ 11 % 2 ≡ f / 2 ^ 11 % 2 = omega arith in ap (λ (n : ℕ). eqb n 1) k

  pub same_r : pte_r e ≡ pte_r f
  same_r = ap (λ (n : ℕ). n % 2 ^ 3) h

-- ---- entries in memory

pub entry_in : (m : List ℕ) (a : ℕ) → a + 4 ≤ length m → Some (bytes_at 4 m a) ≡ entry_at m a
unfolding entry_at
entry_in m a h = rw (le-leb (a + 4) (length m) h)

module _ (m : List ℕ) {a b : ℕ} (e : b ≡ a) where
  pub read_in : {v : ℕ} → v ≡ bytes_at 4 m b → b + 4 ≤ length m → Some v ≡ entry_at m a
  read_in f h = ap Some f ∙ entry_in m b h ∙ ap (entry_at m) e

  pub read_out : length m < b + 4 → None ≡ entry_at m a
  unfolding entry_at
  read_out h = rw (← e, lt-leb (b + 4) (length m) h)

-- an entry is what its four bytes are, and whether they are there
pub entry_same : (m n : List ℕ) (a : ℕ) → ((j : ℕ) → a ≤ j → j < a + 4 → get_or m j 0 ≡ get_or n j 0) → leb (a + 4) (length m) ≡ leb (a + 4) (length n) → entry_at m a ≡ entry_at n a
unfolding entry_at
entry_same m n a f e = ap₂ (λ (t : Bool) (v : ℕ). if t then Some v else None) e (go 4 a (λ j p q. f j p q))
  where
    go : (d i : ℕ) → ((j : ℕ) → i ≤ j → j < i + d → get_or m j 0 ≡ get_or n j 0) → bytes_at d m i ≡ bytes_at d n i
    go zero i g = refl
    go (suc d) i g = ap₂ (λ (x y : ℕ). x + 256 * y) (g i (omega arith) (omega arith)) (go d (i + 1) (λ j p q. g j (omega arith) (omega arith)))

-- ---- bytes written

-- a byte before the place does not matter
pub bytes_after : (d : ℕ) (m : List ℕ) (i v a : ℕ) → i < a → bytes_at d (set m i v) a ≡ bytes_at d m a
bytes_after zero m i v a h = refl
bytes_after (suc d) m i v a h =
    ap₂ (λ (x y : ℕ). x + 256 * y) (get_or-set_other m i a v 0 (omega arith)) (bytes_after d m i v (a + 1) (omega arith))

-- bytes written back as they were
pub put_back : (d : ℕ) (m : List ℕ) (a : ℕ) → ((j : ℕ) → a ≤ j → get_or m j 0 < 2 ^ 8) → put d m a (bytes_at d m a) ≡ m
put_back zero m a h = refl
put_back (suc d) m a h =
    let p : bytes_at (suc d) m a % 256 ≡ get_or m a 0 = omega (arith, h a (omega arith)) in
    let q : bytes_at (suc d) m a / 256 ≡ bytes_at d m (a + 1) = omega (arith, h a (omega arith)) in
    ap₂ (λ (x y : ℕ). put d (set m a x) (a + 1) y) p q
    ∙ ap (λ (l : List ℕ). put d l (a + 1) (bytes_at d m (a + 1))) (set-get_or m a 0)
    ∙ put_back d m (a + 1) (λ j k. h j (omega arith))

-- an entry written with its accessed bit set: only its lowest byte changes, and of that only the accessed bit
pub mark_memory : (m : List ℕ) (a : ℕ) → Bytes m → put 4 m a (set_d (bytes_at 4 m a)) ≡ set m a (set_d (get_or m a 0))
mark_memory m a h =
    ap₂ (λ (x y : ℕ). put 3 (set m a x) (a + 1) y) low high
    ∙ ap (put 3 (set m a (set_d (get_or m a 0))) (a + 1)) (sym (bytes_after 3 m a (set_d (get_or m a 0)) (a + 1) (omega arith)))
    ∙ put_back 3 (set m a (set_d (get_or m a 0))) (a + 1) later
  where
    low : set_d (bytes_at 4 m a) % 256 ≡ set_d (get_or m a 0)
    low = let p : bytes_at 4 m a % 2 ^ 8 ≡ get_or m a 0 = omega (arith, h a) in set_d_byte (bytes_at 4 m a) ∙ ap set_d p

    high : set_d (bytes_at 4 m a) / 256 ≡ bytes_at 3 m (a + 1)
    high = omega (arith, h a, set_d_high (bytes_at 4 m a))

    later : (j : ℕ) → a + 1 ≤ j → get_or (set m a (set_d (get_or m a 0))) j 0 < 2 ^ 8
    later j k = rw (get_or-set_other m a j (set_d (get_or m a 0)) 0 (omega arith)) (h j)

-- an entry without its lowest byte: where base, present and rights stand
pub entry_high : (m : List ℕ) (a : ℕ) → Bytes m → bytes_at 4 m a / 2 ^ 8 ≡ bytes_at 3 m (a + 1)
entry_high m a h = omega (arith, h a)
