-- Laws of texts: one byte more and one text after another, in a buffer and in a Text, and the digits of a number.
-- Assumes nothing.
use Rattle.std.specs.Prelude.{if◌then◌else◌}
use mathlib.Core.Path.{◌≡◌, refl, sym, ap, ap₂, ◌∙◌, subst}
use mathlib.Core.Bool.{Bool}
use mathlib.Core.Logic.{⊎_elim}
use mathlib.Core.List.{List, [], ◌∷◌, ◌++◌, append_assoc, append-nil}
use Prim.Native.Nat.{ℕ, zero, suc, ◌+◌, ◌-◌, ◌/◌, ◌%◌, ◌^◌, ◌≤◌, ◌<◌, min, max}
use native.Mathlib.Nat.{mod-eq_of_lt, pow-suc, one-le-pow, pow-le-pow_right}
use native.Mathlib.Numerals.{add-one}
use native.Mathlib.Omega.{arith}
use lib.ListN.{length, take, drop, get_or, set, length-append, length-set, length-drop}
use Rattle.std.proofs.Common.{replicate}
use Rattle.std.proofs.lemmas.List.{replicate_more, take-replicate, drop-replicate}
use lib.Seq.{take-suc, take-suc-set, length-take-le, take_all, drop-set-lt, drop-drop}
use borrow.Rule.Slice.PartMut.{put_mid}
use Rattle.std.proofs.lemmas.Slice.{take-put_mid, drop-put_mid}
use borrow.Author.Tests.{lt-ltb, le-ltb}
use Rattle.io.specs.Digits.{last_digits, hex_digit_ascii, IsDigitCount}
use Rattle.word.proofs.Laws.{side}
use Rattle.text.proofs.Decimals.{decimal_length}
use Rattle.text.specs.Text.{Put, decimal_in, decimal, blanks, padded}

pub nothing : (b : List ℕ) (at : ℕ) → Put b at [] at b
nothing b at = record { place = omega arith; kept = refl; front = sym (append-nil (take at b)); beyond = refl }

-- what agrees from a place on agrees from any later one
further : (c b : List ℕ) (r q : ℕ) → r ≤ q → drop r c ≡ drop r b → drop q c ≡ drop q b
further c b r q h e =
    let k : r + (q - r) ≡ q = omega arith in
    ap (λ (n : ℕ). drop n c) (sym k) ∙ sym (drop-drop (q - r) r c) ∙ ap (drop (q - r)) e ∙ drop-drop (q - r) r b ∙ ap (λ (n : ℕ). drop n b) k

-- a text and then another
pub follow : {b : List ℕ} {at : ℕ} {x : List ℕ} {r : ℕ} {c : List ℕ} {y : List ℕ} {q : ℕ} {d : List ℕ} → Put b at x r c → Put c r y q d → Put b at (x ++ y) q d
follow {b} {at} {x} {r} {c} {y} {q} {d} p s =
    record {
      place = omega (arith, length-append x y, p.place, s.place);
      kept = s.kept ∙ p.kept;
      front = s.front ∙ ap (λ (l : List ℕ). l ++ y) p.front ∙ append_assoc (take at b) x y;
      beyond = s.beyond ∙ further c b r q (omega (arith, s.place)) p.beyond;
    }

-- the fewest digits of a number are its decimal text
pub spelled : (f k n : ℕ) → k ≤ f → IsDigitCount 10 1 n k → last_digits 10 k n ≡ decimal_in f n
unfolding decimal_in
spelled f zero n h (l, s, g) = absurd (omega arith)
spelled zero (suc k) n h w = absurd (omega arith)
spelled (suc f) (suc zero) n h (l, s, g) =
    let t : n < 10 = s in
    ap (λ (x : ℕ). hex_digit_ascii x ∷ []) (mod-eq_of_lt {n = n} {m = 10} t)
    ∙ sym (ap (λ (b : Bool). if b then hex_digit_ascii n ∷ [] else decimal_in f (n / 10) ++ (hex_digit_ascii (n % 10) ∷ [])) (lt-ltb n 10 t))
spelled (suc f) (suc (suc k)) n h (l, s, g) =
    let e : suc (suc k) - 1 ≡ suc k = omega arith in
    let low : 10 ^ suc k ≤ n = rw e at (g (omega arith)) in
    let big : 10 ≤ n = omega (arith, pow-suc 10 k, one-le-pow k 10 (omega arith)) in
    rw (le-ltb n 10 big)
    (ap (λ (x : List ℕ). x ++ (hex_digit_ascii (n % 10) ∷ []))
    (spelled f (suc k) (n / 10) (omega arith) (omega arith, omega (arith, pow-suc 10 (suc k)), λ u. let o : suc k - 1 ≡ k = omega arith in rw o (omega (arith, pow-suc 10 k)))))

-- a number of 64 bits has at most 20 digits
pub few : (n k : ℕ) → n < 2 ^ 64 → IsDigitCount 10 1 n k → k ≤ 20
few n k h (l, s, g) =
    ⊎_elim (λ (u : k < 21). omega arith)
    (λ (u : 21 ≤ k). absurd (omega (arith, g (omega arith), pow-le-pow_right {n = 10} (omega arith) {i = 20} {j = k - 1} (omega arith))))
    (side k 21)

-- what io::decimal writes is the decimal text
pub numbered : {x : List ℕ} (n k : ℕ) → n < 2 ^ 64 → x ≡ last_digits 10 k n → IsDigitCount 10 1 n k → x ≡ decimal n
numbered n k h e w = e ∙ spelled 20 k n (few n k h w) w

pub length_blanks : (n : ℕ) → length (blanks n) ≡ n
unfolding blanks
length_blanks zero = refl
length_blanks (suc n) = length-append (blanks n) (32 ∷ []) ∙ omega (arith, length_blanks n)

-- the fewest digits that a width holds are as many as the width says
pub exact : (n w k : ℕ) → 0 < w → w ≤ 16 → n < 16 ^ w → IsDigitCount 16 (min (max w 1) 16) n k → k ≡ w
exact n w k low high h (l, s, g) =
    let e : min (max w 1) 16 ≡ w = omega arith in
    ⊎_elim (λ (u : k < w + 1). omega arith)
    (λ (u : w + 1 ≤ k). absurd (omega (arith, g (omega arith), pow-le-pow_right {n = 16} (omega arith) {i = w} {j = k - 1} (omega arith))))
    (side k (w + 1))

-- a text written over a part of a buffer
pub put_there :
    (b : List ℕ) (at : ℕ) (t : List ℕ) {l : List ℕ} → at + length t ≤ length b → l ≡ t
    → Put b at t (at + length t) (put_mid at (at + length t - at) b l)
put_there b at t h e =
    rw e record {
      place = refl;
      kept =
          let rest : List ℕ = drop (at + length t - at) (drop at b) in
          omega (
            arith,
            h,
            length-append (take at b) (t ++ rest),
            length-append t rest,
            length-take-le at b (omega (arith, h)),
            length-drop (at + length t - at) (drop at b),
            length-drop at b,
          );
      front = take-put_mid at (at + length t - at) b t (at + length t) refl (omega (arith, h));
      beyond = drop-put_mid at (at + length t - at) b t (at + length t) (omega arith) (omega (arith, h)) (omega arith);
    }

-- the same text in other words
pub reworded : {b : List ℕ} {at : ℕ} {x y : List ℕ} {r : ℕ} {c : List ℕ} → x ≡ y → Put b at x r c → Put b at y r c
reworded {b} {at} {x} {y} {r} {c} e p = subst (λ (t : List ℕ). Put b at t r c) e p

-- one byte after a text in a buffer, and alone
pub then_byte :
    (b : List ℕ) (at : ℕ) (x : List ℕ) (r : ℕ) (c : List ℕ) (v : ℕ) → Put b at x r c → r < length c
    → Put b at (x ++ (v ∷ [])) (r + 1) (set c r v)
then_byte b at x r c v p h =
    record {
      place = omega (arith, length-append x (v ∷ []), p.place);
      kept = length-set c r v ∙ p.kept;
      front = rw (add-one r, take-suc-set c r v h, p.front, append_assoc);
      beyond = drop-set-lt (r + 1) c r v (omega arith) ∙ further c b r (r + 1) (omega arith) p.beyond;
    }

pub single : (b : List ℕ) (at v : ℕ) → at < length b → Put b at (v ∷ []) (at + 1) (set b at v)
single b at v h = then_byte b at [] at b v (nothing b at) h

-- the next byte of a text; and all its bytes
pub one_more :
    (b : List ℕ) (at : ℕ) (t : List ℕ) (i : ℕ) (c : List ℕ) → Put b at (take i t) (at + i) c → i < length t → at + i < length c
    → Put b at (take (i + 1) t) (at + (i + 1)) (set c (at + i) (get_or t i 0))
one_more b at t i c p h k =
    let e : at + i + 1 ≡ at + (i + 1) = omega arith in
    let f : take i t ++ (get_or t i 0 ∷ []) ≡ take (i + 1) t = rw (add-one i, take-suc t i 0 h) refl in
    rw e at (reworded f (then_byte b at (take i t) (at + i) c (get_or t i 0) p k))

pub whole : (b : List ℕ) (at : ℕ) (t : List ℕ) (i r : ℕ) (c : List ℕ) → Put b at (take i t) r c → length t ≤ i → Put b at t r c
whole b at t i r c p h = reworded (take_all i t h) p

-- one blank more
pub blank_more :
    (b : List ℕ) (at i : ℕ) (c : List ℕ) → Put b at (blanks i) (at + i) c → at + i < length c → Put b at (blanks (i + 1)) (at + (i + 1)) (set c (at + i) 32)
unfolding blanks
blank_more b at i c p h =
    let e : at + i + 1 ≡ at + (i + 1) = omega arith in
    let f : blanks i ++ (32 ∷ []) ≡ blanks (i + 1) = ap blanks (sym (add-one i)) in
    rw e at (reworded f (then_byte b at (blanks i) (at + i) c 32 p h))

-- the digits that a width holds, counted as io::hex counts them
pub hex_digits :
    {x : List ℕ} (n w k : ℕ) → 0 < w → w ≤ 16 → n < 16 ^ w → x ≡ last_digits 16 k n → IsDigitCount 16 (min (max w 1) 16) n k → x ≡ last_digits 16 w n
hex_digits n w k low high h e f = e ∙ ap (λ (j : ℕ). last_digits 16 j n) (exact n w k low high h f)

-- those digits in a buffer
pub hexed :
    {b : List ℕ} {at : ℕ} {x : List ℕ} {r : ℕ} {c : List ℕ} (n w k : ℕ) → 0 < w → w ≤ 16 → n < 16 ^ w → Put b at x r c → x ≡ last_digits 16 k n → k ≡ length x
    → IsDigitCount 16 (min (max w 1) 16) n k → Put b at (last_digits 16 w n) r c × (r ≡ at + w)
hexed n w k low high h p e l f = (reworded (hex_digits n w k low high h e f) p, omega (arith, exact n w k low high h f, l, p.place))

pub blanks_is : (n : ℕ) → replicate n 32 ≡ blanks n
unfolding blanks
blanks_is zero = refl
blanks_is (suc n) = ap (λ (k : ℕ). replicate k 32) (sym (add-one n)) ∙ sym (replicate_more n 32) ∙ ap (λ (l : List ℕ). l ++ (32 ∷ [])) (blanks_is n)

-- some blanks of 20, and then a number's digits
pub padded_is :
    {x : List ℕ} (n w k : ℕ) → n < 2 ^ 64 → w ≤ 20 → x ≡ last_digits 10 k n → k ≡ length x → IsDigitCount 10 1 n k
    → take (w - k) (replicate 20 32) ++ x ≡ padded w n
unfolding padded
padded_is {x} n w k h v e l f =
    let t : x ≡ decimal n = numbered n k h e f in
    let u : w - k ≡ w - length (decimal n) = ap (λ (a : ℕ). w - a) (l ∙ ap length t) in
    ap (λ (b : List ℕ). b ++ x) (take-replicate (w - k) 20 32 (omega arith) ∙ blanks_is (w - k)) ∙ ap₂ (λ (i : ℕ) (d : List ℕ). blanks i ++ d) u t

-- the same put into a buffer, the blanks first
pub lined :
    {b : List ℕ} {at : ℕ} {i : ℕ} {q : ℕ} {d : List ℕ} {x : List ℕ} {r : ℕ} {c : List ℕ} (n w k : ℕ) → n < 2 ^ 64 → w ≤ 20 → Put b at (blanks i) q d
    → Put d q x r c → i ≡ w - k → x ≡ last_digits 10 k n → k ≡ length x → IsDigitCount 10 1 n k → Put b at (padded w n) r c × (r ≤ at + 20)
unfolding padded
lined {i} n w k h v p s j e l f =
    let t = numbered n k h e f in
    (follow (reworded (ap blanks (j ∙ ap (λ (a : ℕ). w - a) (l ∙ ap length t))) p) (reworded t s), omega (arith, few n k h f, j, l, p.place, s.place, length_blanks i))

pub padded_length : (w n : ℕ) → w ≤ 20 → length (padded w n) ≤ 20
unfolding padded
padded_length w n h = omega (arith, length-append (blanks (w - length (decimal n))) (decimal n), length_blanks (w - length (decimal n)), decimal_length 20 n)

-- a text that was begun, written and put into a buffer
pub written :
    {t u v x b c : List ℕ} {at r : ℕ} → t ≡ [] → u ≡ t ++ x → v ≡ u → Put b at v r c → Put b at x r c
written {t} {u} {v} {x} e f g p = reworded (g ∙ f ∙ ap (λ (l : List ℕ). l ++ x) e) p

-- a text that has grown twice; and one that has not
pub grown : (s x y : List ℕ) {t u z : List ℕ} → t ≡ s ++ x → u ≡ t ++ y → x ++ y ≡ z → u ≡ s ++ z
grown s x y e f g = f ∙ ap (λ (l : List ℕ). l ++ y) e ∙ append_assoc s x y ∙ ap (λ (l : List ℕ). s ++ l) g

pub as_it_was : (s : List ℕ) {x : List ℕ} → [] ≡ x → s ≡ s ++ x
as_it_was s e = sym (append-nil s) ∙ ap (λ (l : List ℕ). s ++ l) e

-- zeros from l on, of n bytes in all, are zeros from l + k on, where bytes beyond that place stay
pub zeros_left :
    (b c : List ℕ) (l k n : ℕ) → drop l b ≡ replicate (n - l) 0 → drop (l + k) c ≡ drop (l + k) b → drop (l + k) c ≡ replicate (n - (l + k)) 0
zeros_left b c l k n e f =
    let m : n - l - k ≡ n - (l + k) = omega arith in
    f ∙ sym (drop-drop k l b) ∙ ap (drop k) e ∙ drop-replicate k (n - l) 0 ∙ ap (λ (i : ℕ). replicate i 0) m

-- what was added, in other words
pub told : (s x : List ℕ) {u y : List ℕ} → u ≡ s ++ x → x ≡ y → u ≡ s ++ y
told s x e f = e ∙ ap (λ (l : List ℕ). s ++ l) f
