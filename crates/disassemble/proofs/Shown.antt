-- What the code writes, part by part: a mnemonic up to its first zero, an operand, and zeros behind.
-- Assumes nothing.
use mathlib.Core.Path.{◌≡◌, refl, ap, ap₂, sym, ◌∙◌, subst}
use mathlib.Core.List.{List, [], ◌∷◌, ◌++◌, append-nil, append_assoc}
use Prim.Native.Nat.{ℕ, zero, suc, ◌+◌, ◌-◌, ◌≤◌, ◌<◌}
use native.Mathlib.Numerals.{add-one}
use native.Mathlib.Omega.{arith}
use lib.ListN.{length, take, drop, get_or, set, replicate, length-set, length-drop, length-append}
use lib.Seq.{take_all, take-suc, take-suc-set, drop-set-lt}
use borrow.Rule.Slice.PartMut.{put_mid}
use Rattle.std.proofs.lemmas.List.{drop_all, take-replicate}
use Rattle.std.proofs.Math.Seq.{take-append-add}
use Rattle.text.specs.Text.{Put}
use Rattle.text.proofs.Texts.{follow, reworded}
use Rattle.forms.specs.declared.Operand.{Operand}
use Rattle.forms.specs.declared.OperandList.{OperandList}
use Rattle.forms.specs.declared.OperandList.TheVariants.{None, One, Two, Three}
use Rattle.forms.specs.inner.Forms.{as_list, letters}
use Rattle.disassemble.specs.Disassembly.{field_of, shown_as, operand_text, operands_text}

-- ---- a mnemonic

letters_fit : (l : List ℕ) → length (letters l) ≤ length l
unfolding letters
letters_fit [] = omega arith
letters_fit (zero ∷ l) = omega arith
letters_fit (suc c ∷ l) = omega (arith, letters_fit l)

-- past so many letters stands a zero, so that there are no more, or one more letter
no_letter : (l : List ℕ) (n : ℕ) → n < length l → n ≤ length (letters l) → get_or l n 0 ≡ 0 → length (letters l) ≤ n
unfolding letters
no_letter [] n h k e = absurd (omega arith)
no_letter (zero ∷ l) n h k e = omega arith
no_letter (suc c ∷ l) zero h k e = absurd (omega arith)
no_letter (suc c ∷ l) (suc n) h k e = omega (arith, no_letter l n (omega arith) (omega arith) e)

pub letters_next :
    (l : List ℕ) (n : ℕ) → n < length l → n ≤ length (letters l) → (get_or l n 0 ≡ 0 → ⊥)
    → (n < length (letters l)) × (get_or (letters l) n 0 ≡ get_or l n 0)
unfolding letters
letters_next [] n h k e = absurd (omega arith)
letters_next (zero ∷ l) zero h k e = absurd (e refl)
letters_next (zero ∷ l) (suc n) h k e = absurd (omega arith)
letters_next (suc c ∷ l) zero h k e = (omega arith, refl)
letters_next (suc c ∷ l) (suc n) h k e =
    let r : (n < length (letters l)) × (get_or (letters l) n 0 ≡ get_or l n 0) = letters_next l n (omega arith) (omega arith) e in
    (omega (arith, r.0), r.1)

-- one byte, set at its place
byte : (c : List ℕ) (i x : ℕ) → i < length c → Put c i (x ∷ []) (i + 1) (set c i x)
byte c i x h =
    record {
      place = omega arith;
      kept = length-set c i x;
      front = rw (add-one i) (take-suc-set c i x h);
      beyond = drop-set-lt (i + 1) c i x (omega arith);
    }

-- so many of a mnemonic's letters are written
abbrev pub Begun : List ℕ → List ℕ → ℕ → List ℕ → Type 0
Begun b m n c = Put b 0 (take n (letters m)) n c × (n ≤ length (letters m))

module _ (b m : List ℕ) (n : ℕ) (c : List ℕ) (p : Begun b m n c) where
  -- all of them
  all_written : length (letters m) ≤ n → Put b 0 (letters m) n c
  all_written h = reworded (take_all n (letters m) h) p.0

  pub letters_end : length m ≤ n → Put b 0 (letters m) (length m) c
  letters_end h =
      let e : n ≡ length m = omega (arith, p.1, letters_fit m) in
      subst (λ (k : ℕ). Put b 0 (letters m) k c) e (all_written (omega (arith, letters_fit m)))

  pub letters_zero : n < length m → get_or m n 0 ≡ 0 → Put b 0 (letters m) n c
  letters_zero h e = all_written (no_letter m n h p.1 e)

  -- one more
  pub letter_more : length (letters m) ≤ length b → n < length m → (get_or m n 0 ≡ 0 → ⊥) → Begun b m (n + 1) (set c n (get_or m n 0))
  letter_more h l d =
      let k : (n < length (letters m)) × (get_or (letters m) n 0 ≡ get_or m n 0) = letters_next m n l p.1 d in
      let t : take n (letters m) ++ (get_or m n 0 ∷ []) ≡ take (n + 1) (letters m) = rw (← k.1, add-one n) (sym (take-suc (letters m) n 0 k.0)) in
      (reworded t (follow p.0 (byte c n (get_or m n 0) (omega (arith, p.0.kept, k.0)))), omega (arith, k.0))

-- ---- operands

-- an operand that a match has found, and its field
pub as_shown : {o : Operand} (q : Operand) {x : ℕ} (w : ℕ) → o ≡ q → x ≡ field_of q w → shown_as q x ≡ shown_as o (field_of o w)
as_shown q w e f = ap (shown_as q) f ∙ ap (λ (p : Operand). shown_as p (field_of p w)) (sym e)

-- operands that a match has found: their texts one after the other, and how long they are
module _ (w : ℕ) {l : OperandList} where
  as_as_list : (k : OperandList) → l ≡ k → operands_text (as_list k) w ≡ operands_text (as_list l) w
  as_as_list k e = ap (λ (j : OperandList). operands_text (as_list j) w) (sym e)

  pub none_text : l ≡ None → [] ≡ operands_text (as_list l) w
  none_text e = as_as_list None e

  pub one_text : (a : Operand) → l ≡ One a → operand_text a w ≡ operands_text (as_list l) w
  one_text a e = sym (append-nil (operand_text a w)) ∙ as_as_list (One a) e

  pub two_text : (a b : Operand) → l ≡ Two a b → operand_text a w ++ operand_text b w ≡ operands_text (as_list l) w
  two_text a b e = ap (λ (t : List ℕ). operand_text a w ++ t) (sym (append-nil (operand_text b w))) ∙ as_as_list (Two a b) e

  pub three_text : (a b c : Operand) → l ≡ Three a b c → operand_text a w ++ (operand_text b w ++ operand_text c w) ≡ operands_text (as_list l) w
  three_text a b c e = ap (λ (t : List ℕ). operand_text a w ++ (operand_text b w ++ t)) (sym (append-nil (operand_text c w))) ∙ as_as_list (Three a b c) e

  pub two_length : (a b : Operand) → l ≡ Two a b → length (operands_text (as_list l) w) ≡ length (operand_text a w) + length (operand_text b w)
  two_length a b e = ap length (sym (two_text a b e)) ∙ length-append (operand_text a w) (operand_text b w)

  pub three_length :
      (a b c : Operand) → l ≡ Three a b c → length (operands_text (as_list l) w) ≡ length (operand_text a w) + (length (operand_text b w) + length (operand_text c w))
  three_length a b c e =
      ap length (sym (three_text a b c e))
      ∙ length-append (operand_text a w) (operand_text b w ++ operand_text c w)
      ∙ ap (λ (n : ℕ). length (operand_text a w) + n) (length-append (operand_text b w) (operand_text c w))

-- ---- zeros behind the text

-- the rest of a list from a place on, written over
pub written_behind : (n : ℕ) (c f z : List ℕ) → n ≤ length c → f ≡ z → put_mid n (length c - n) c f ≡ take n c ++ z
written_behind n c f z h e =
    let k : drop (length c - n) (drop n c) ≡ [] = drop_all (length c - n) (drop n c) (omega (arith, length-drop n c)) in
    rw k (ap (λ (l : List ℕ). take n c ++ l) (append-nil f ∙ e))

-- a mnemonic m at the front of 32 bytes, and zeros
pub alone : (n : ℕ) (c m f : List ℕ) → length c ≡ 32 → n ≡ length m → n ≤ 32 → take n c ≡ m → f ≡ replicate {A = ℕ} (length (take (length c - n) (drop n c))) 0
    → put_mid n (length c - n) c f ≡ m ++ replicate (32 - length m) 0
alone n c m f l p h e g =
    let k : length (take (length c - n) (drop n c)) ≡ 32 - length m =
    ap length (take_all (length c - n) (drop n c) (omega (arith, length-drop n c))) ∙ length-drop n c ∙ ap₂ ◌-◌ l p in
    written_behind n c f _ (omega (arith, l)) (g ∙ ap (λ (j : ℕ). replicate j 0) k) ∙ ap (λ (x : List ℕ). x ++ replicate (32 - length m) 0) e

-- the same with operands s behind it, and then zeros
pub beside : (n : ℕ) (c m s f : List ℕ) → length c ≡ 32 → n ≡ length m → n + length s ≤ 32 → take n c ≡ m → f ≡ take (32 - n) (s ++ replicate (32 - length s) 0)
    → put_mid n (length c - n) c f ≡ (m ++ s) ++ replicate (32 - length (m ++ s)) 0
beside n c m s f l p h e g =
    let k : ℕ = 32 - n - length s in
    let a : 32 - n ≡ length s + k = omega arith in
    let z : k ≡ 32 - length (m ++ s) = omega (arith, length-append m s, p) in
    written_behind n c f _ (omega (arith, l, h))
    (g ∙ ap (λ (j : ℕ). take j (s ++ replicate (32 - length s) 0)) a ∙ take-append-add s (replicate (32 - length s) 0) k
    ∙ ap (λ (x : List ℕ). s ++ x) (take-replicate k (32 - length s) 0 (omega arith)))
    ∙ ap (λ (x : List ℕ). x ++ (s ++ replicate k 0)) e
    ∙ sym (append_assoc m s (replicate k 0))
    ∙ ap (λ (j : ℕ). (m ++ s) ++ replicate j 0) z

-- the rest of a list from a place on, filled
pub filled : (n : ℕ) (c : List ℕ) (f : List ℕ) → n ≤ length c → f ≡ replicate {A = ℕ} (length (take (length c - n) (drop n c))) 0 → put_mid n (length c - n) c f ≡ take n c ++ replicate (length c - n) 0
filled n c f h e =
    let k : drop (length c - n) (drop n c) ≡ [] = drop_all (length c - n) (drop n c) (omega (arith, length-drop n c)) in
    let g : length (take (length c - n) (drop n c)) ≡ length c - n = ap length (take_all (length c - n) (drop n c) (omega (arith, length-drop n c))) ∙ length-drop n c in
    rw k (ap (λ (l : List ℕ). take n c ++ l) (append-nil f ∙ e ∙ ap (λ (j : ℕ). replicate j 0) g))
