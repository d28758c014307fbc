-- Bits of a word. Of a bit put into a word: that bit is the one put, every other bit is as before, and the word stays a
-- word.
-- Assumes nothing.
use Rattle.std.proofs.Common.{◌≡◌, ℕ, zero, suc, ◌+◌, ◌-◌, ◌*◌, ◌/◌, ◌%◌, ◌^◌, ◌<◌, Bool, true, false, not, eqb, sym, refl, ap, ◌∙◌, subst, ap₂, ⊎_elim, mod-lt, mul_assoc, mul_comm, one-mul, pow-suc, arith, pow_pos, pow-add, shl_exact, shr-shr, shr_lt, eqb-true}
use native.Mathlib.Nat.{mul-add-div_right, div-eq_of_lt}
use borrow.Author.Tests.{eqb-false}
use lib.Arith.{digits_lt}
use lib.Count.{count_trailing_zeros, under}
use lib.Pow.{split, high, field, mod-mod-pow}
use Rattle.word.specs.Word.{bit, is_set, flag, with_bit}
use Rattle.word.specs.Bytes.{byte}
use Rattle.word.proofs.Laws.{side}

pub bit_lt : (w i : ℕ) → bit w i < 2
bit_lt w i = omega arith

-- ---- a number below a power of two stays below it

module _ (j w i x : ℕ) (hw : w < 2 ^ j) (hi : i < j) (hx : x < 2) where
  split_at : j - i + i ≡ j
  split_at = omega arith

  half : 2 ^ (j - i) ≡ 2 ^ (j - suc i) * 2
  half = let e : j - i ≡ suc (j - suc i) = omega arith in ap (λ (n : ℕ). 2 ^ n) e ∙ pow-suc 2 (j - suc i)

  above_lt : w / 2 ^ i / 2 * 2 + x < 2 ^ (j - i)
  above_lt =
      let q : w / 2 ^ i < 2 ^ (j - i) = shr_lt (j - i) i (subst (λ (n : ℕ). w < 2 ^ n) (sym split_at) hw) in
      omega (arith, half)

  pub put_below : with_bit w i x < 2 ^ j
  unfolding with_bit
  put_below =
      subst (λ (n : ℕ). (w / 2 ^ i / 2 * 2 + x) * 2 ^ i + w % 2 ^ i < n) (sym (pow-add 2 (j - i) i) ∙ ap (λ (n : ℕ). 2 ^ n) split_at)
      (digits_lt above_lt (mod-lt w (pow_pos i)))

-- shifts by which a word is made lose nothing
module _ (w i x : ℕ) (hw : w < 2 ^ 32) (hi : i < 32) (hx : x < 2) where
  above_exact : (w / 2 ^ i / 2 * 2 + x) * 2 ^ i % 2 ^ 32 ≡ (w / 2 ^ i / 2 * 2 + x) * 2 ^ i
  above_exact = shl_exact (32 - i) i 32 (above_lt 32 w i x hw hi hx) (omega arith)

  pub one_exact : 1 * 2 ^ i % 2 ^ 32 ≡ 2 ^ i
  one_exact = let l : 1 < 2 ^ 1 = omega arith in shl_exact 1 i 32 l (omega arith) ∙ one-mul (2 ^ i)

  pub put_exact : (w / 2 ^ i / 2 * 2 + x) * 2 ^ i % 2 ^ 32 + w % (1 * 2 ^ i % 2 ^ 32) ≡ with_bit w i x
  unfolding with_bit
  put_exact = ap₂ (λ (m n : ℕ). m + w % n) above_exact one_exact

-- ---- bit by bit

-- what stands from bit i on does not show in a bit below i
module _ (i j : ℕ) (h : j < i) where
  scaled : (m : ℕ) → m * 2 ^ i ≡ m * 2 ^ (i - suc j) * 2 * 2 ^ j
  scaled m =
      let e : i ≡ i - suc j + suc j = omega arith in
      ap (λ (n : ℕ). m * 2 ^ n) e
      ∙ ap (λ (n : ℕ). m * n) (pow-add 2 (i - suc j) (suc j) ∙ ap (λ (n : ℕ). 2 ^ (i - suc j) * n) (pow-suc 2 j ∙ mul_comm (2 ^ j) 2))
      ∙ sym (mul_assoc m (2 ^ (i - suc j)) (2 * 2 ^ j)) ∙ sym (mul_assoc (m * 2 ^ (i - suc j)) 2 (2 ^ j))

  bit_below : (m l : ℕ) → bit (m * 2 ^ i + l) j ≡ bit l j
  bit_below m l =
      ap (λ (n : ℕ). (n + l) / 2 ^ j % 2) (scaled m)
      ∙ ap (λ (n : ℕ). n % 2) (mul-add-div_right (pow_pos j) (m * 2 ^ (i - suc j) * 2) l)
      ∙ omega arith

module _ (w i x : ℕ) (hx : x < 2) where
  shifted : with_bit w i x / 2 ^ i ≡ w / 2 ^ i / 2 * 2 + x
  unfolding with_bit
  shifted = high (w / 2 ^ i / 2 * 2 + x) i (mod-lt w (pow_pos i))

  pub bit_same : bit (with_bit w i x) i ≡ x
  bit_same = ap (λ (n : ℕ). n % 2) shifted ∙ omega arith

  lower : (j : ℕ) → j < i → bit (with_bit w i x) j ≡ bit w j
  unfolding with_bit
  lower j h =
      bit_below i j h (w / 2 ^ i / 2 * 2 + x) (w % 2 ^ i)
      ∙ sym (bit_below i j h (w / 2 ^ i) (w % 2 ^ i))
      ∙ ap (λ (n : ℕ). bit n j) (split w i)

  -- from bit i + 1 on
  upper : (d : ℕ) → with_bit w i x / 2 ^ (i + suc d) ≡ w / 2 ^ (i + suc d)
  upper d =
      let two : (n : ℕ) → n / 2 ^ (i + suc d) ≡ n / 2 ^ i / 2 / 2 ^ d = λ n. sym (shr-shr n i (suc d)) ∙ ap (λ (k : ℕ). n / 2 ^ i / k) (pow-suc 2 d ∙ mul_comm (2 ^ d) 2) ∙ sym (shr-shr (n / 2 ^ i) 1 d ∙ ap (λ (k : ℕ). n / 2 ^ i / k) (pow-add 2 1 d)) in
      let half : (w / 2 ^ i / 2 * 2 + x) / 2 ≡ w / 2 ^ i / 2 = omega arith in
      two (with_bit w i x) ∙ ap (λ (k : ℕ). k / 2 / 2 ^ d) shifted ∙ ap (λ (k : ℕ). k / 2 ^ d) half ∙ sym (two w)

  higher : (j : ℕ) → i < j → bit (with_bit w i x) j ≡ bit w j
  higher j h =
      let e : j ≡ i + suc (j - suc i) = omega arith in
      subst (λ (k : ℕ). bit (with_bit w i x) k ≡ bit w k) (sym e) (ap (λ (k : ℕ). k % 2) (upper (j - suc i)))

  pub bit_other : (j : ℕ) → (j ≡ i → ⊥) → bit (with_bit w i x) j ≡ bit w j
  bit_other j n = ⊎_elim (λ l. lower j l) (λ l. higher j (omega arith)) (side j i)

-- bits of 0
pub bit_zero : (i : ℕ) → bit 0 i ≡ 0
bit_zero i = ap (λ (n : ℕ). n % 2) (div-eq_of_lt (pow_pos i))

-- ---- a number is its bits

pub bit_half : (a s : ℕ) → bit (a / 2) s ≡ bit a (suc s)
bit_half a s =
    let e : 1 + s ≡ suc s = omega arith in
    ap (λ (n : ℕ). n % 2) (shr-shr a 1 s ∙ ap (λ (k : ℕ). a / 2 ^ k) e)

pub same_bits : (n a b : ℕ) → a < 2 ^ n → b < 2 ^ n → ((s : ℕ) → s < n → bit a s ≡ bit b s) → a ≡ b
same_bits zero a b p q f = omega arith
same_bits (suc n) a b p q f =
    let e : 2 ^ suc n ≡ 2 ^ n * 2 = pow-suc 2 n in
    let h : a / 2 ≡ b / 2 = same_bits n (a / 2) (b / 2) (omega arith) (omega arith) (λ s l. bit_half a s ∙ f (suc s) (omega arith) ∙ sym (bit_half b s)) in
    let l : bit a 0 ≡ bit b 0 = f 0 (omega arith) in
    omega arith

-- ---- the zeros below the lowest bit that is set, at every width: no bit below their number is set, and in a word that
-- is not zero the bit of that number is

pub zeros_clear : (n w k : ℕ) → k < count_trailing_zeros n w → bit w k ≡ 1 → ⊥
unfolding count_trailing_zeros
zeros_clear zero w k l e = absurd (omega arith)
zeros_clear (suc n) w k l e = go (w % 2) k refl (zeros_clear n (w / 2)) l e
  where
    go : {t : ℕ} (d k : ℕ) → w % 2 ≡ d → ((k : ℕ) → k < t → bit (w / 2) k ≡ 1 → ⊥) → k < under d t → bit w k ≡ 1 → ⊥
    go zero zero h c l e = omega arith
    go zero (suc k) h c l e = c k (omega arith) (bit_half w k ∙ e)
    go (suc d) k h c l e = absurd (omega arith)

pub zeros_set : (n w : ℕ) → 0 < w → w < 2 ^ n → (count_trailing_zeros n w < n) × (bit w (count_trailing_zeros n w) ≡ 1)
unfolding count_trailing_zeros
zeros_set zero w p q = absurd (omega arith)
zeros_set (suc n) w p q = go (w % 2) refl (zeros_set n (w / 2))
  where
    go : {t : ℕ} (d : ℕ) → w % 2 ≡ d → (0 < w / 2 → w / 2 < 2 ^ n → (t < n) × (bit (w / 2) t ≡ 1)) → (under d t < suc n) × (bit w (under d t) ≡ 1)
    go {t} zero h f =
        let e : 2 ^ suc n ≡ 2 ^ n * 2 = pow-suc 2 n in
        let s = f (omega arith) (omega arith) in
        (omega (arith, s.0), sym (bit_half w t) ∙ s.1)
    go (suc d) h f = (omega arith, omega arith)

-- ---- bytes of a word

pub byte_power : (q : ℕ) → 256 ^ q ≡ 2 ^ (8 * q)
byte_power zero = refl
byte_power (suc q) =
    let e : 8 * suc q ≡ 8 * q + 8 = omega arith in
    pow-suc 256 q ∙ ap (λ (n : ℕ). n * 256) (byte_power q) ∙ sym (ap (λ (k : ℕ). 2 ^ k) e ∙ pow-add 2 (8 * q) 8)

low_bit : (n s : ℕ) → s < 8 → bit (n % 256) s ≡ bit n s
low_bit n s h =
    let e : 8 - s + s ≡ 8 = omega arith in
    let f : 7 - s + 1 ≡ 8 - s = omega arith in
    ap (λ (k : ℕ). n % 2 ^ k / 2 ^ s % 2) (sym e)
    ∙ ap (λ (k : ℕ). k % 2) (field n (8 - s) s)
    ∙ ap (λ (k : ℕ). n / 2 ^ s % 2 ^ k % 2) (sym f)
    ∙ mod-mod-pow (n / 2 ^ s) (7 - s) 1

pub byte_bit : (w q s : ℕ) → s < 8 → bit (byte q w) s ≡ bit w (8 * q + s)
byte_bit w q s h =
    low_bit (w / 256 ^ q) s h
    ∙ ap (λ (k : ℕ). w / k / 2 ^ s % 2) (byte_power q)
    ∙ ap (λ (k : ℕ). k % 2) (shr-shr w (8 * q) s)

module _ (w q s x : ℕ) (hs : s < 8) (hx : x < 2) where
  -- the byte of the bit that is put, and the others
  pub byte_put : byte q (with_bit w (8 * q + s) x) ≡ with_bit (byte q w) s x
  byte_put =
      same_bits 8 (byte q (with_bit w (8 * q + s) x)) (with_bit (byte q w) s x) (omega arith) (put_below 8 (byte q w) s x (omega arith) hs hx)
      (λ j l. byte_bit (with_bit w (8 * q + s) x) q j l ∙ go j l (eqb j s) refl)
    where
      go : (j : ℕ) → j < 8 → (t : Bool) → eqb j s ≡ t → bit (with_bit w (8 * q + s) x) (8 * q + j) ≡ bit (with_bit (byte q w) s x) j
      go j l true e =
          let p : j ≡ s = eqb-true j s e in
          ap (λ (k : ℕ). bit (with_bit w (8 * q + s) x) (8 * q + k)) p ∙ bit_same w (8 * q + s) x hx ∙ sym (ap (bit (with_bit (byte q w) s x)) p ∙ bit_same (byte q w) s x hx)
      go j l false e =
          let d : j ≡ s → ⊥ = eqb-false j s e in
          bit_other w (8 * q + s) x hx (8 * q + j) (λ r. d (omega arith)) ∙ sym (byte_bit w q j l) ∙ sym (bit_other (byte q w) s x hx j d)

  pub byte_apart : (r : ℕ) → (r ≡ q → ⊥) → byte r (with_bit w (8 * q + s) x) ≡ byte r w
  byte_apart r d =
      same_bits 8 (byte r (with_bit w (8 * q + s) x)) (byte r w) (omega arith) (omega arith)
      (λ j l. byte_bit (with_bit w (8 * q + s) x) r j l ∙ bit_other w (8 * q + s) x hx (8 * r + j) (λ e. d (omega arith)) ∙ sym (byte_bit w r j l))

-- ---- bits as truth values

pub flag_set : (w k : ℕ) → flag (is_set w k) ≡ bit w k
flag_set w k = go (bit w k) (bit_lt w k)
  where
    go : (n : ℕ) → n < 2 → flag (eqb n 1) ≡ n
    go zero h = refl
    go (suc zero) h = refl
    go (suc (suc n)) h = absurd (omega arith)

-- a bit, or a flag, that is not 1 is 0
pub zero_not_one : (n : ℕ) → n < 2 → eqb n 0 ≡ not (eqb n 1)
zero_not_one zero h = refl
zero_not_one (suc zero) h = refl
zero_not_one (suc (suc n)) h = absurd (omega arith)

pub one_not_zero : (n : ℕ) → n < 2 → eqb n 1 ≡ not (eqb n 0)
one_not_zero zero h = refl
one_not_zero (suc zero) h = refl
one_not_zero (suc (suc n)) h = absurd (omega arith)
