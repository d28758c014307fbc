-- Several bytes read from a view of memory, for every number of them.
-- Assumes nothing.
use Rattle.std.specs.Prelude.{Option, Some, None}
use mathlib.Core.Path.{◌≡◌, refl, sym, ap, ◌∙◌}
use mathlib.Core.Logic.{◌≢◌, ◌⊎◌, inl, inr, ⊎_elim}
use Prim.Native.Nat.{ℕ, zero, suc, ◌+◌, ◌-◌, ◌*◌, ◌/◌, ◌%◌, ◌^◌, ◌<◌, ◌≤◌}
use mathlib.Core.Bool.{Bool, true, false, ◌||◌, false≢true}
use mathlib.Core.List.{List}
use native.Mathlib.Omega.{arith}
use native.Mathlib.Nat.{pow-succ', div-div-eq-div-mul, mod-add-div, mod-one, mul-add-mod_self_left, mod-lt, mod-eq_of_lt, pow-le-pow_right, mul_comm, mul_assoc, div-le_self}
use lib.ListN.{length, get_or}
use lib.Dec.{eqb}
use borrow.Author.Tests.{lt-ltb, le-ltb, eqb-true}
use Rattle.word.specs.Word.{plus}
use Rattle.word.specs.Bytes.{byte, bytes_at}
use Rattle.word.proofs.Truth.{and_left, and_right}
use Rattle.store_buffer.specs.System.{join, reads, memory_byte, sized, aligned}

-- ---- accesses of 1, 2 or 4 bytes lie in one word

sized_cases : (d : ℕ) → sized d ≡ true → (d ≡ 1) ⊎ ((d ≡ 2) ⊎ (d ≡ 4))
sized_cases d e = go (eqb d 1) (eqb d 2) (eqb d 4) refl refl refl e
  where
    go : (p q r : Bool) → eqb d 1 ≡ p → eqb d 2 ≡ q → eqb d 4 ≡ r → p || (q || r) ≡ true → (d ≡ 1) ⊎ ((d ≡ 2) ⊎ (d ≡ 4))
    go true q r e₁ e₂ e₃ h = inl (eqb-true d 1 e₁)
    go false true r e₁ e₂ e₃ h = inr (inl (eqb-true d 2 e₂))
    go false false true e₁ e₂ e₃ h = inr (inr (eqb-true d 4 e₃))
    go false false false e₁ e₂ e₃ h = absurd (false≢true h)

pub record InWord (a d : ℕ) : Type 0 where
  pub some : 0 < d
  pub within : a % 4 + d ≤ 4

pub aligned_sized : (a d : ℕ) → aligned a d ≡ true → sized d ≡ true
unfolding aligned
aligned_sized a d e = and_left (sized d) (eqb (a % d) 0) e

pub aligned_word : (a d : ℕ) → aligned a d ≡ true → InWord a d
unfolding aligned
aligned_word a d e =
    ⊎_elim
    (λ (h : d ≡ 1). record { some = omega arith; within = omega arith })
    (⊎_elim
    (λ (h : d ≡ 2). let m : a % 2 ≡ 0 = ap (λ (k : ℕ). a % k) (sym h) ∙ rest in record { some = omega arith; within = omega arith })
    (λ (h : d ≡ 4). let m : a % 4 ≡ 0 = ap (λ (k : ℕ). a % k) (sym h) ∙ rest in record { some = omega arith; within = omega arith }))
    (sized_cases d (aligned_sized a d e))
  where
    rest : a % d ≡ 0
    rest = eqb-true (a % d) 0 (and_right (sized d) (eqb (a % d) 0) e)

-- ---- one byte and the rest

pub reads_step : (d : ℕ) (f : ℕ → Option ℕ) (a : ℕ) → a + suc d ≤ 2 ^ 32 → reads (suc d) f a ≡ join (f a) (reads d f (a + 1))
unfolding reads
reads_step zero f a h = refl
reads_step (suc d) f a h =
    let e : plus 32 a 1 ≡ a + 1 = omega arith in
    ap (λ (k : ℕ). join (f a) (reads (suc d) f k)) e

-- the bytes asked are all that matters
pub reads_same : (d : ℕ) (f g : ℕ → Option ℕ) (a : ℕ) → a + d ≤ 2 ^ 32 → ((j : ℕ) → j < d → f (a + j) ≡ g (a + j)) → reads d f a ≡ reads d g a
unfolding reads
reads_same zero f g a h e = refl
reads_same (suc d) f g a h e =
    let z : a ≡ a + 0 = omega arith in
    reads_step d f a h
    ∙ ap (λ (r : Option ℕ). join r (reads d f (a + 1))) (ap f z ∙ e 0 (omega arith) ∙ ap g (sym z))
    ∙ ap (join (g a)) (reads_same d f g (a + 1) (omega arith) (λ j p. let q : a + 1 + j ≡ a + suc j = omega arith in ap f q ∙ e (suc j) (omega arith) ∙ ap g (sym q)))
    ∙ sym (reads_step d g a h)

join_nowhere : (r : Option ℕ) → join r None ≡ None
join_nowhere (Some v) = refl
join_nowhere None = refl

pub reads_nowhere : (d : ℕ) (f : ℕ → Option ℕ) (a j : ℕ) → a + d ≤ 2 ^ 32 → j < d → f (a + j) ≡ None → reads d f a ≡ None
reads_nowhere zero f a j h p e = absurd (omega arith)
reads_nowhere (suc d) f a zero h p e =
    let z : a ≡ a + 0 = omega arith in
    reads_step d f a h ∙ ap (λ (r : Option ℕ). join r (reads d f (a + 1))) (ap f z ∙ e)
reads_nowhere (suc d) f a (suc j) h p e =
    let q : a + 1 + j ≡ a + suc j = omega arith in
    reads_step d f a h ∙ ap (join (f a)) (reads_nowhere d f (a + 1) j (omega arith) (omega arith) (ap f q ∙ e)) ∙ join_nowhere (f a)

-- bytes of a list
pub reads_list : (d : ℕ) (f : ℕ → Option ℕ) (m : List ℕ) (a : ℕ) → a + d ≤ 2 ^ 32 → ((j : ℕ) → j < d → f (a + j) ≡ Some (get_or m (a + j) 0)) → reads d f a ≡ Some (bytes_at d m a)
unfolding reads
reads_list zero f m a h e = refl
reads_list (suc d) f m a h e =
    let z : a ≡ a + 0 = omega arith in
    reads_step d f a h
    ∙ ap (λ (r : Option ℕ). join r (reads d f (a + 1))) (ap f z ∙ e 0 (omega arith) ∙ ap (λ (k : ℕ). Some (get_or m k 0)) (sym z))
    ∙ ap (join (Some (get_or m a 0))) (reads_list d f m (a + 1) (omega arith) (λ j p. let q : a + 1 + j ≡ a + suc j = omega arith in ap f q ∙ e (suc j) (omega arith) ∙ ap (λ (k : ℕ). Some (get_or m k 0)) (sym q)))

-- bytes of a word, from byte k on
low_byte : (u p : ℕ) → 0 < p → u % 256 + 256 * (u / 256 % p) ≡ u % (256 * p)
low_byte u p h =
    let q = u / 256 in
    let t : p * (q / p) + q % p ≡ q = omega (arith, mod-add-div q p) in
    let l : q % p < p = mod-lt q h in
    let x : 256 * p * (q / p) ≡ 256 * (p * (q / p)) = mul_assoc 256 p (q / p) in
    let y : u ≡ 256 * p * (q / p) + (u % 256 + 256 * (q % p)) = omega arith in
    let z : u % 256 + 256 * (q % p) < 256 * p = omega arith in
    sym (ap (λ (n : ℕ). n % (256 * p)) y ∙ mul-add-mod_self_left (256 * p) (q / p) (u % 256 + 256 * (q % p)) ∙ mod-eq_of_lt z)

power_pos : (d : ℕ) → 0 < 256 ^ d
power_pos d =
    let z : 0 ≤ d = omega arith in
    let q : 256 ^ 0 ≤ 256 ^ d = pow-le-pow_right (omega arith) z in
    omega arith

pub reads_part : (d : ℕ) (f : ℕ → Option ℕ) (v a k : ℕ) → a + d ≤ 2 ^ 32 → ((j : ℕ) → j < d → f (a + j) ≡ Some (byte (k + j) v)) → reads d f a ≡ Some (v / 256 ^ k % 256 ^ d)
unfolding reads
reads_part zero f v a k h e = ap Some (sym (mod-one (v / 256 ^ k)))
reads_part (suc d) f v a k h e =
    let z : a ≡ a + 0 = omega arith in
    let y : k + 0 ≡ k = omega arith in
    reads_step d f a h
    ∙ ap (λ (r : Option ℕ). join r (reads d f (a + 1))) (ap f z ∙ e 0 (omega arith) ∙ ap (λ (i : ℕ). Some (byte i v)) y)
    ∙ ap (join (Some (byte k v)))
    (reads_part d f v (a + 1) (suc k) (omega arith)
    (λ j p.
    let q : a + 1 + j ≡ a + suc j = omega arith in
    let r : k + suc j ≡ suc k + j = omega arith in
    ap f q ∙ e (suc j) (omega arith) ∙ ap (λ (i : ℕ). Some (byte i v)) r))
    ∙ ap Some (ap (λ (u : ℕ). v / 256 ^ k % 256 + 256 * (u % 256 ^ d)) higher ∙ low_byte (v / 256 ^ k) (256 ^ d) (power_pos d) ∙ ap (λ (p : ℕ). v / 256 ^ k % p) (sym (pow-succ' 256 d)))
  where
    higher : v / 256 ^ suc k ≡ v / 256 ^ k / 256
    higher = ap (λ (n : ℕ). v / n) (pow-succ' 256 k ∙ mul_comm 256 (256 ^ k)) ∙ sym (div-div-eq-div-mul v (256 ^ k) 256)

-- ---- memory

module _ (m : List ℕ) (a d : ℕ) (h : a + d ≤ 2 ^ 32) where
  pub memory_there : a + d ≤ length m → reads d (memory_byte m) a ≡ Some (bytes_at d m a)
  memory_there p = reads_list d (memory_byte m) m a h (λ j q. rw (lt-ltb (a + j) (length m) (omega arith)))

  pub memory_beyond : 0 < d → length m < a + d → reads d (memory_byte m) a ≡ None
  memory_beyond p q =
      reads_nowhere d (memory_byte m) a (d - 1) h (omega arith) (rw (le-ltb (a + (d - 1)) (length m) (omega arith)))

-- ---- parts of a word

pub shifted : (v k : ℕ) → k < 4 → v / 2 ^ (8 * k) ≡ v / 256 ^ k
shifted v zero h = refl
shifted v (suc zero) h = refl
shifted v (suc (suc zero)) h = refl
shifted v (suc (suc (suc zero))) h = refl
shifted v (suc (suc (suc (suc k)))) h = absurd (omega arith)

-- a part of four bytes is all that is left
pub part_all : (v k d : ℕ) → v < 2 ^ 32 → sized d ≡ true → d ≢ 1 → d ≢ 2 → v / 256 ^ k % 256 ^ d ≡ v / 256 ^ k
part_all v k d h e p q =
    let four : d ≡ 4 = ⊎_elim (λ r. absurd (p r)) (⊎_elim (λ r. absurd (q r)) (λ r. r)) (sized_cases d e) in
    ap (λ (n : ℕ). v / 256 ^ k % 256 ^ n) four ∙ mod-eq_of_lt (omega (arith, div-le_self v (256 ^ k)))

-- ---- which bytes are there

-- a constructor is no other
pub never : {A : Type 0} {v : ℕ} → None ≡ Some v → A
never e = absurd (let z : ◌≡◌ {A = ℕ} 0 1 = cc in omega arith)

-- each byte of a read that is there is there
pub reads_each : (f : ℕ → Option ℕ) (d a v : ℕ) → a + d ≤ 2 ^ 32 → reads d f a ≡ Some v → (j : ℕ) → j < d → (x : ℕ) × (f (a + j) ≡ Some x)
reads_each f zero a v l e j h = absurd (omega arith)
reads_each f (suc d) a v l e j h =
    go (f a) (reads d f (a + 1)) refl (λ y q. reads_each f d (a + 1) y (omega arith) q) (sym (reads_step d f a l) ∙ e) j h
  where
    go : (r s : Option ℕ) → f a ≡ r → ((y : ℕ) → s ≡ Some y → (j : ℕ) → j < d → (x : ℕ) × (f (a + 1 + j) ≡ Some x)) → join r s ≡ Some v →
        (j : ℕ) → j < suc d → (x : ℕ) × (f (a + j) ≡ Some x)
    go (Some x) (Some y) p q k zero h = let z : a + 0 ≡ a = omega arith in (x, ap f z ∙ p)
    go (Some x) (Some y) p q k (suc j) h =
        let z : a + suc j ≡ a + 1 + j = omega arith in
        let r = q y refl j (omega arith) in
        (r.0, ap f z ∙ r.1)
    go (Some x) None p q k j h = never k
    go None s p q k j h = never k

-- of one that is nowhere, some byte is
pub reads_missing : (f : ℕ → Option ℕ) (d a : ℕ) → a + d ≤ 2 ^ 32 → reads d f a ≡ None → (j : ℕ) × (j < d) × (f (a + j) ≡ None)
unfolding reads
reads_missing f zero a l e = never (sym e)
reads_missing f (suc d) a l e =
    go (f a) (reads d f (a + 1)) refl (λ q. reads_missing f d (a + 1) (omega arith) q) (sym (reads_step d f a l) ∙ e)
  where
    go : (r s : Option ℕ) → f a ≡ r → (s ≡ None → (j : ℕ) × (j < d) × (f (a + 1 + j) ≡ None)) → join r s ≡ None →
        (j : ℕ) × (j < suc d) × (f (a + j) ≡ None)
    go None s p q k = let z : a + 0 ≡ a = omega arith in (0, omega arith, ap f z ∙ p)
    go (Some x) None p q k =
        let r = q refl in
        let z : a + suc r.0 ≡ a + 1 + r.0 = omega arith in
        (suc r.0, omega (arith, r.1), ap f z ∙ r.2)
    go (Some x) (Some y) p q k = never (sym k)
