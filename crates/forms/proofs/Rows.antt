-- What holds of the syntax of every row: each is a test that is computed on all rows.
-- Assumes nothing.
use Rattle.std.specs.Prelude.{if◌then◌else◌}
use mathlib.Core.Path.{◌≡◌, refl, sym, ap, ◌∙◌}
use mathlib.Core.Bool.{Bool, true, false, ◌&&◌}
use mathlib.Core.List.{List, [], ◌∷◌, map}
use Prim.Native.Nat.{ℕ, ◌≤◌}
use native.Mathlib.Omega.{arith}
use lib.Dec.{T, eqb, leb}
use lib.ListN.{length}
use borrow.Author.Tests.{eqb-true, leb-true}
use Rattle.word.proofs.Tests.{truth, and_left, and_right}
use Rattle.text.specs.Text.{ascii}
use Rattle.text.proofs.Decimals.{free}
use Rattle.decode.specs.declared.Instruction.{Instruction}
use Rattle.decode.specs.Table.{Row, table}
use Rattle.decode.specs.Mnemonics.{number}
use Rattle.decode.proofs.Numbers.{name_at, numbered, every}
use Rattle.forms.specs.declared.Operand.{Operand}
use Rattle.forms.specs.Syntax.{Syntax, syntaxes, syntax_of}
use Rattle.forms.specs.inner.Forms.{first_three, as_list, form_of, letters}

-- the column has the rows of tables 1 to 4, in their order
pub every_row : map (λ (s : Syntax). s.name) syntaxes ≡ map (λ (r : Row). r.name) table
every_row = refl

-- ---- lists of bytes, compared

abbrev same_bytes : List ℕ → List ℕ → Bool
same_bytes [] [] = true
same_bytes [] (y ∷ l) = false
same_bytes (x ∷ k) [] = false
same_bytes (x ∷ k) (y ∷ l) = eqb x y && same_bytes k l

same_bytes_lem : (k l : List ℕ) → T (same_bytes k l) → k ≡ l
same_bytes_lem [] [] t = refl
same_bytes_lem [] (y ∷ l) t = absurd t
same_bytes_lem (x ∷ k) [] t = absurd t
same_bytes_lem (x ∷ k) (y ∷ l) t =
    let e : x ≡ y = eqb-true x y (truth (eqb x y) (and_left (eqb x y) (same_bytes k l) t)) in
    rw (e, same_bytes_lem k l (and_right (eqb x y) (same_bytes k l) t)) refl

-- ---- the form that the code has is the row's

-- the form of a row that a match has found
pub shown : {i j : Instruction} → i ≡ j → form_of (syntax_of i) ≡ form_of (syntax_of j)
shown e = ap (λ (i : Instruction). form_of (syntax_of i)) e

abbrev formed : Instruction → Bool
formed i = same_bytes (letters (form_of (syntax_of i)).0) (ascii (syntax_of i).mnemonic) && leb (length (syntax_of i).operands) 3

all_formed : (i : Instruction) → T (formed i)
unfolding syntax_of form_of letters
all_formed = every formed tt

three : (l : List Operand) → length l ≤ 3 → as_list (first_three l) ≡ l
three [] h = refl
three (a ∷ []) h = refl
three (a ∷ b ∷ []) h = refl
three (a ∷ b ∷ c ∷ []) h = refl
three (a ∷ b ∷ c ∷ d ∷ l) h = absurd (omega arith)

-- its letters are the mnemonic, and its operands the row's
pub form_row : (i : Instruction) → (letters (form_of (syntax_of i)).0 ≡ ascii (syntax_of i).mnemonic) × (as_list (form_of (syntax_of i)).1 ≡ (syntax_of i).operands)
unfolding form_of
form_row i =
    let s : Bool = same_bytes (letters (form_of (syntax_of i)).0) (ascii (syntax_of i).mnemonic) in
    let n : Bool = leb (length (syntax_of i).operands) 3 in (
      same_bytes_lem (letters (form_of (syntax_of i)).0) (ascii (syntax_of i).mnemonic) (and_left s n (all_formed i)),
      three (syntax_of i).operands (leb-true (length (syntax_of i).operands) 3 (truth n (and_right s n (all_formed i)))),
    )

-- ---- mnemonics

-- the number of the row with a mnemonic
abbrev number_in : List Syntax → List ℕ → ℕ
number_in [] m = 61
number_in (s ∷ l) m = if same_bytes (ascii s.mnemonic) m then number s.name else number_in l m

abbrev named : Instruction → Bool
named i = eqb (number_in syntaxes (ascii (syntax_of i).mnemonic)) (number i) && free 32 (ascii (syntax_of i).mnemonic)

all_named : (i : Instruction) → T (named i)
unfolding syntax_of
all_named = every named tt

module _ (i : Instruction) where
  abbrev pub mnemonic : List ℕ
  mnemonic = ascii (syntax_of i).mnemonic

  mnemonic_number : number_in syntaxes mnemonic ≡ number i
  mnemonic_number = eqb-true (number_in syntaxes mnemonic) (number i) (truth (eqb (number_in syntaxes mnemonic) (number i)) (and_left (eqb (number_in syntaxes mnemonic) (number i)) (free 32 mnemonic) (all_named i)))

  pub mnemonic_free : free 32 mnemonic ≡ true
  mnemonic_free = truth (free 32 mnemonic) (and_right (eqb (number_in syntaxes mnemonic) (number i)) (free 32 mnemonic) (all_named i))

-- no two rows have the same mnemonic, and none has that of an illegal word
pub mnemonic_tells : (i j : Instruction) → mnemonic i ≡ mnemonic j → i ≡ j
mnemonic_tells i j e =
    sym (numbered i) ∙ ap (name_at table) (sym (mnemonic_number i) ∙ ap (number_in syntaxes) e ∙ mnemonic_number j) ∙ numbered j
