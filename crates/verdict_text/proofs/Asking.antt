-- What arguments mean: the decimal number of a core names it, and nothing else does; and the group that is judged has
-- the cores that are named, and no others.
-- Assumes nothing.
use mathlib.Core.Path.{◌≡◌, refl, sym, ap, ◌∙◌}
use mathlib.Core.Bool.{Bool, true, false, ◌||◌, true≢false}
use mathlib.Core.List.{List, [], ◌∷◌, ◌++◌}
use Prim.Native.Nat.{ℕ, ◌+◌, ◌-◌, ◌≤◌, ◌<◌}
use native.Mathlib.Decide.{ℕ_discrete}
use native.Mathlib.Omega.{arith}
use lib.Dec.{eqb}
use lib.ListN.{length}
use borrow.Author.Tests.{lt-ltb, eq-eqb, ne_eqb}
use Rattle.word.specs.Word.{is_set, with_bit}
use Rattle.word.proofs.Bits.{bit_same, bit_other, bit_zero}
use Rattle.records.proofs.Counts.{either}
use Rattle.text.specs.Text.{decimal_in, decimal}
use Rattle.reach.specs.Lists.{has}
use Rattle.verdict_text.specs.Arguments.{arguments_in, named_core, Cores, asked_from}
use Rattle.verdict_text.specs.Judged.{of_input, judged}
use Rattle.verdict_text.proofs.Named.{digit, digit_only, one_byte}
use Rattle.verdict_text.proofs.Said.{said_by_arguments, said_group}

-- the arguments for some cores, as bytes
abbrev pub naming : List ℕ → List ℕ
naming [] = []
naming (k ∷ ks) = decimal k ++ (0 ∷ naming ks)

abbrev pub AllCores : List ℕ → Type 0
AllCores [] = Unit {0}
AllCores (k ∷ ks) = (k < 4) × AllCores ks

-- the group g with these cores
abbrev pub with_cores : ℕ → List ℕ → ℕ
with_cores g [] = g
with_cores g (k ∷ ks) = with_cores (with_bit g k 1) ks

-- ---- one argument

one_digit : (k : ℕ) → k < 4 → decimal k ≡ (48 + k) ∷ []
unfolding decimal_in
one_digit k h = rw (lt-ltb k 10 (omega arith)) refl

pub core_named : (k : ℕ) → k < 4 → named_core (decimal k) ≡ k
core_named k h =
    let e : 48 + k - 48 ≡ k = omega arith in
    ap named_core (one_digit k h) ∙ digit (48 + k) (omega arith) (omega arith) ∙ e

named_only : (s : List ℕ) → length s ≡ 1 → named_core s < 4 → s ≡ decimal (named_core s)
named_only [] e h = absurd (omega arith)
named_only (x ∷ y ∷ s) e h = absurd (omega arith)
named_only (x ∷ []) e h =
    let r : (48 ≤ x) × (x ≤ 51) = digit_only x h in
    let n : named_core (x ∷ []) ≡ x - 48 = digit x r.0 r.1 in
    let k : 48 + (x - 48) ≡ x = omega arith in
    ap (λ (y : ℕ). y ∷ []) (sym k) ∙ sym (one_digit (x - 48) (omega arith)) ∙ ap decimal (sym n)

-- and nothing else names it
pub named_core_lem : (s : List ℕ) → named_core s < 4 → s ≡ decimal (named_core s)
named_core_lem s h = named_only s (one_byte s h) h

first_digit : (x : ℕ) (b : List ℕ) → (x ≡ 0 → ⊥) → arguments_in (x ∷ 0 ∷ b) ≡ (x ∷ []) ∷ arguments_in b
unfolding arguments_in
first_digit x b h = rw (ne_eqb x 0 h) refl

naming_first : (k : ℕ) (ks : List ℕ) → k < 4 → arguments_in (naming (k ∷ ks)) ≡ decimal k ∷ arguments_in (naming ks)
naming_first k ks h =
    ap (λ (d : List ℕ). arguments_in (d ++ (0 ∷ naming ks))) (one_digit k h)
    ∙ first_digit (48 + k) (naming ks) (λ u. absurd (omega arith))
    ∙ ap (λ (d : List ℕ). d ∷ arguments_in (naming ks)) (sym (one_digit k h))

-- ---- all arguments

all_named : (ks : List ℕ) (g : ℕ) → AllCores ks → asked_from g (arguments_in (naming ks)) ≡ Cores (with_cores g ks)
unfolding asked_from arguments_in
all_named [] g w = refl
all_named (k ∷ ks) g (h, w) =
    ap (asked_from g) (naming_first k ks h) ∙ rw (core_named k h, ne_eqb k 4 (λ u. absurd (omega arith))) (all_named ks (with_bit g k 1) w)

or_true : (b : Bool) → (b || true) ≡ true
or_true true = refl
or_true false = refl

or_false : (b : Bool) → (b || false) ≡ b
or_false true = refl
or_false false = refl

bit_here : (b : Bool) (g k j : ℕ) → j ≡ k → (b || is_set (with_bit g k 1) j) ≡ true
bit_here b g k j e =
    ap (λ (i : ℕ). b || is_set (with_bit g k 1) i) e ∙ ap (λ (x : ℕ). b || eqb x 1) (bit_same g k 1 (omega arith)) ∙ or_true b

bits_with : (ks : List ℕ) (g j : ℕ) → is_set (with_cores g ks) j ≡ (has j ks || is_set g j)
unfolding has
bits_with [] g j = refl
bits_with (k ∷ ks) g j =
    bits_with ks (with_bit g k 1) j
    ∙ either (ℕ_discrete j k) (λ e. rw (eq-eqb j k e) (bit_here (has j ks) g k j e))
    (λ d. rw (ne_eqb j k d) (ap (λ (x : ℕ). has j ks || eqb x 1) (bit_other g k 1 (omega arith) j d)))

-- the group has the cores that are named, and no others
pub group_cores : (ks : List ℕ) (j : ℕ) → is_set (with_cores 0 ks) j ≡ has j ks
group_cores ks j = bits_with ks 0 j ∙ ap (λ (x : ℕ). has j ks || eqb x 1) (bit_zero j) ∙ or_false (has j ks)

-- some core is in it
some_core : (k : ℕ) (ks : List ℕ) → with_cores 0 (k ∷ ks) ≡ 0 → ⊥
unfolding has
some_core k ks e =
    let s : true ≡ is_set 0 k = sym (group_cores (k ∷ ks) k ∙ rw (eq-eqb k k refl) refl) ∙ ap (λ (g : ℕ). is_set g k) e in
    let z : is_set 0 k ≡ false = ap (λ (x : ℕ). eqb x 1) (bit_zero k) in
    true≢false (s ∙ z)

-- what is said of arguments that name cores is said of the group of these
pub group_judged :
    (k : ℕ) (ks : List ℕ) (input : List ℕ) → AllCores (k ∷ ks) → length (naming (k ∷ ks)) ≤ 4096
    → judged (naming (k ∷ ks)) input ≡ of_input (with_cores 0 (k ∷ ks)) input
group_judged k ks input w h =
    said_by_arguments (naming (k ∷ ks)) h (Cores (with_cores 0 (k ∷ ks))) (all_named (k ∷ ks) 0 w) input
    ∙ said_group (with_cores 0 (k ∷ ks)) input (some_core k ks)
