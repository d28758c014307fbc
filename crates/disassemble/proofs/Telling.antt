-- A text tells the row and every field that the row names: it comes apart at its blanks, no two rows have the same
-- mnemonic, each field that a row names is shown, and each way in which a field is shown tells the field.
-- Assumes nothing.
use Rattle.std.specs.Prelude.{if◌then◌else◌}
use mathlib.Core.Path.{◌≡◌, refl, sym, ap, ◌∙◌}
use mathlib.Core.Bool.{Bool, true, false, not, ◌&&◌, ◌||◌}
use mathlib.Core.Logic.{⊎_elim}
use mathlib.Core.List.{List, [], ◌∷◌, ◌++◌}
use Prim.Native.Nat.{ℕ, ◌-◌, ◌≤◌, ◌<◌, ◌^◌}
use native.Mathlib.Nat.{mod-eq_of_lt}
use native.Mathlib.Omega.{arith}
use lib.Dec.{eqb}
use lib.IntN.{ℤ, pos, negsuc}
use lib.ListN.{get_or}
use borrow.Author.Tests.{eqb-true}
use Rattle.word.specs.Word.{signed, twoc}
use Rattle.word.proofs.Tests.{true_false}
use Rattle.word.proofs.Truth.{and_right as second}
use Rattle.word.proofs.Laws.{side}
use Rattle.text.specs.Text.{decimal}
use Rattle.text.proofs.Decimals.{free, decimal_free, value_from, decimal_value, decimal_tells}
use Rattle.decode.specs.declared.Instruction.{Instruction}
use Rattle.decode.specs.Fields.{rs, rt, rd, sa, imm, iindex}
use Rattle.decode.specs.Table.{decoded}
use Rattle.forms.specs.declared.Operand.{Operand}
use Rattle.forms.specs.declared.Operand.TheVariants.{Rs, Rt, Rd, Sa, Imm, Uimm, Iindex}
use Rattle.forms.specs.Syntax.{syntax_of}
use Rattle.forms.specs.Named.{SameNamed}
use Rattle.forms.proofs.Rows.{mnemonic, mnemonic_free, mnemonic_tells}
use Rattle.forms.proofs.Named.{field_number, shows, AllShown, all_shown}
use Rattle.disassemble.specs.Disassembly.{integer_text, field_of, shown_as, operand_text, operands_text, text_for, disassembly}
use Rattle.disassemble.proofs.Rows.{signed_low, signed_high}

-- ---- a text comes apart at its blanks

-- empty, or with a blank first
abbrev parted : List ℕ → Bool
parted [] = true
parted (x ∷ l) = eqb x 32

abbrev first : List ℕ → ℕ
first [] = 0
first (x ∷ l) = x

abbrev rest : List ℕ → List ℕ
rest [] = []
rest (x ∷ l) = l

not_both : (b c : Bool) → not b && c ≡ true → b ≡ true → ⊥
not_both true c p q = true_false (sym p)
not_both false c p q = true_false (sym q)

first_word :
    (a b x y : List ℕ) → free 32 a ≡ true → free 32 b ≡ true → parted x ≡ true → parted y ≡ true → a ++ x ≡ b ++ y → (a ≡ b) × (x ≡ y)
first_word [] [] x y p q s t e = (refl, e)
first_word [] (d ∷ b) x y p q s t e = absurd (not_both (eqb d 32) (free 32 b) q (ap parted (sym e) ∙ s))
first_word (c ∷ a) [] x y p q s t e = absurd (not_both (eqb c 32) (free 32 a) p (ap parted e ∙ t))
first_word (c ∷ a) (d ∷ b) x y p q s t e =
    let h : c ≡ d = ap first e in
    let r : (a ≡ b) × (x ≡ y) = first_word a b x y (second (not (eqb c 32)) (free 32 a) p) (second (not (eqb d 32)) (free 32 b) q) s t (ap rest e) in
    (rw (h, r.0) refl, r.1)

-- ---- each way in which a field is shown tells the field, and has no blank

-- what an integer's text says
abbrev read_integer : List ℕ → ℤ
read_integer [] = pos 0
read_integer (x ∷ l) = if eqb x 45 then negsuc (value_from 0 l - 1) else pos (value_from 0 (x ∷ l))

read_pos : (l : List ℕ) → free 45 l ≡ true → read_integer l ≡ pos (value_from 0 l)
read_pos [] p = refl
read_pos (x ∷ l) p = go (eqb x 45) p
  where
    go : (b : Bool) → not b && free 45 l ≡ true → (if b then negsuc (value_from 0 l - 1) else pos (value_from 0 (x ∷ l))) ≡ pos (value_from 0 (x ∷ l))
    go true p = absurd (true_false (sym p))
    go false p = refl

-- the number of 16 bits that an integer's text says
abbrev read_signed : List ℕ → ℕ
read_signed l = twoc 16 (read_integer l)

read_signed_lem : (x : ℕ) → x < 2 ^ 16 → read_signed (integer_text (signed 16 x)) ≡ x
read_signed_lem x h =
    ⊎_elim (λ (l : x < 2 ^ 15).
    rw (signed_low x l, read_pos (decimal x) (decimal_free 20 45 x (omega arith)), decimal_value 20 x (omega arith)) (mod-eq_of_lt {n = x} {m = 2 ^ 16} h))
    (λ (l : 2 ^ 15 ≤ x).
    rw (signed_high x l h, decimal_value 20 (2 ^ 16 - x) (omega arith)) (omega (arith, mod-eq_of_lt {n = 2 ^ 16 - x - 1} {m = 2 ^ 16} (omega arith))))
    (side x (2 ^ 15))

-- numbers of 26 bits, which all fields are
narrow : (m n : ℕ) → m < 2 ^ 26 → n < 2 ^ 26 → decimal m ≡ decimal n → m ≡ n
narrow m n h k e = decimal_tells m n (omega arith) (omega arith) e

shown_tells : (o : Operand) (v w : ℕ) → shown_as o (field_of o v) ≡ shown_as o (field_of o w) → field_of o v ≡ field_of o w
shown_tells Rs v w e = narrow (rs v) (rs w) (omega arith) (omega arith) (ap rest e)
shown_tells Rt v w e = narrow (rt v) (rt w) (omega arith) (omega arith) (ap rest e)
shown_tells Rd v w e = narrow (rd v) (rd w) (omega arith) (omega arith) (ap rest e)
shown_tells Sa v w e = narrow (sa v) (sa w) (omega arith) (omega arith) e
shown_tells Imm v w e = sym (read_signed_lem (imm v) (omega arith)) ∙ ap read_signed e ∙ read_signed_lem (imm w) (omega arith)
shown_tells Uimm v w e = narrow (imm v) (imm w) (omega arith) (omega arith) e
shown_tells Iindex v w e = narrow (iindex v) (iindex w) (omega arith) (omega arith) e

no_blank : (n : ℕ) → free 32 (decimal n) ≡ true
no_blank n = decimal_free 20 32 n (omega arith)

shown_free : (o : Operand) (w : ℕ) → free 32 (shown_as o (field_of o w)) ≡ true
shown_free Rs w = no_blank (rs w)
shown_free Rt w = no_blank (rt w)
shown_free Rd w = no_blank (rd w)
shown_free Sa w = no_blank (sa w)
shown_free Imm w =
    ⊎_elim (λ (h : imm w < 2 ^ 15). rw (signed_low (imm w) h) (no_blank (imm w)))
    (λ (h : 2 ^ 15 ≤ imm w). rw (signed_high (imm w) h (omega arith)) (no_blank (2 ^ 16 - imm w)))
    (side (imm w) (2 ^ 15))
shown_free Uimm w = no_blank (imm w)
shown_free Iindex w = no_blank (iindex w)

-- ---- operands

operands_parted : (l : List Operand) (w : ℕ) → parted (operands_text l w) ≡ true
unfolding operand_text
operands_parted [] w = refl
operands_parted (o ∷ l) w = refl

-- two words are equal in every field that operands name
abbrev SameFields : List Operand → ℕ → ℕ → Type 0
SameFields [] v w = Unit {0}
SameFields (o ∷ l) v w = (field_of o v ≡ field_of o w) × SameFields l v w

operands_tell : (l : List Operand) (v w : ℕ) → operands_text l v ≡ operands_text l w → SameFields l v w
unfolding operand_text
operands_tell [] v w e = tt
operands_tell (o ∷ l) v w e =
    let s : (shown_as o (field_of o v) ≡ shown_as o (field_of o w)) × (operands_text l v ≡ operands_text l w) =
    first_word (shown_as o (field_of o v)) (shown_as o (field_of o w)) (operands_text l v) (operands_text l w) (shown_free o v) (shown_free o w) (operands_parted l v) (operands_parted l w)
    (ap rest e) in
    (shown_tells o v w s.0, operands_tell l v w s.1)

-- ---- words that are equal in each operand's field are equal in a field that is among them

abbrev field_at : ℕ → ℕ → ℕ
field_at n w = get_or (rs w ∷ rt w ∷ rd w ∷ sa w ∷ imm w ∷ iindex w ∷ []) n 0

field_at_lem : (o : Operand) (w : ℕ) → field_of o w ≡ field_at (field_number o) w
field_at_lem Rs w = refl
field_at_lem Rt w = refl
field_at_lem Rd w = refl
field_at_lem Sa w = refl
field_at_lem Imm w = refl
field_at_lem Uimm w = refl
field_at_lem Iindex w = refl

same_shown : (n : ℕ) (l : List Operand) (v w : ℕ) → SameFields l v w → shows n l ≡ true → field_at n v ≡ field_at n w
same_shown n [] v w s e = absurd (true_false (sym e))
same_shown n (o ∷ l) v w s e = go (eqb n (field_number o)) refl e (same_shown n l v w s.1)
  where
    go : (b : Bool) → eqb n (field_number o) ≡ b → b || shows n l ≡ true → (shows n l ≡ true → field_at n v ≡ field_at n w) → field_at n v ≡ field_at n w
    go true q h r = let z : n ≡ field_number o = eqb-true n (field_number o) q in rw z (sym (field_at_lem o v) ∙ s.0 ∙ field_at_lem o w)
    go false q h r = r h

-- ---- the law: words with the same text are of the same row, or both illegal, and equal in every field that the row
-- names
pub text_tells : (v w : ℕ) → disassembly v ≡ disassembly w → (decoded v ≡ decoded w) × SameNamed (decoded v) v w
unfolding disassembly text_for
text_tells v w e =
    let s : (mnemonic (decoded v) ≡ mnemonic (decoded w)) × (operands_text (syntax_of (decoded v)).operands v ≡ operands_text (syntax_of (decoded w)).operands w) =
    first_word (mnemonic (decoded v)) (mnemonic (decoded w)) (operands_text (syntax_of (decoded v)).operands v) (operands_text (syntax_of (decoded w)).operands w)
    (mnemonic_free (decoded v)) (mnemonic_free (decoded w)) (operands_parted (syntax_of (decoded v)).operands v) (operands_parted (syntax_of (decoded w)).operands w) e in
    let i : decoded v ≡ decoded w = mnemonic_tells (decoded v) (decoded w) s.0 in
    let f : SameFields (syntax_of (decoded v)).operands v w =
    operands_tell (syntax_of (decoded v)).operands v w (s.1 ∙ ap (λ (j : Instruction). operands_text (syntax_of j).operands w) (sym i)) in
    let c : AllShown (decoded v) = all_shown (decoded v) in (
      i,
      record {
        same_rs = λ z. same_shown 0 (syntax_of (decoded v)).operands v w f (sym c.shown_rs ∙ z);
        same_rt = λ z. same_shown 1 (syntax_of (decoded v)).operands v w f (sym c.shown_rt ∙ z);
        same_rd = λ z. same_shown 2 (syntax_of (decoded v)).operands v w f (sym c.shown_rd ∙ z);
        same_sa = λ z. same_shown 3 (syntax_of (decoded v)).operands v w f (sym c.shown_sa ∙ z);
        same_imm = λ z. same_shown 4 (syntax_of (decoded v)).operands v w f (sym c.shown_imm ∙ z);
        same_iindex = λ z. same_shown 5 (syntax_of (decoded v)).operands v w f (sym c.shown_iindex ∙ z);
      },
    )
