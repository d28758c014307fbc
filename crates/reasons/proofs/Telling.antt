-- An answer in words, and its number.
-- Assumes nothing.
use mathlib.Core.Path.{◌≡◌, refl, sym, ap, ap₂, ◌∙◌}
use mathlib.Core.Bool.{true, false}
use mathlib.Core.List.{List, [], ◌∷◌, ◌++◌, append-nil}
use Prim.Native.Nat.{ℕ, zero, suc, ◌-◌, ◌≤◌}
use native.Mathlib.Omega.{arith}
use lib.Dec.{eqb}
use lib.ListN.{length, drop, length-append, length-drop}
use lib.Seq.{take_at, drop_at}
use borrow.Rule.Slice.PartMut.{put_mid}
use Rattle.tables.specs.Views.{cores_of}
use Rattle.tables.specs.Sound.{sound}
use Rattle.reach.specs.Reach.{is_group}
use Rattle.std.specs.Prelude.{Option, None, Some, Result, Ok, Err}
use Rattle.refusals.specs.declared.Refusal.{Refusal}
use Rattle.refusals.specs.declared.Refusal.TheVariants.{Unsound, LentLength}
use Rattle.refusals.specs.declared.Refusal.TheVariants as refusal
use Rattle.ways.specs.declared.Way.{Way}
use Rattle.reasons.specs.declared.Side.{Side}
use Rattle.reasons.specs.declared.Side.TheVariants.{Group, Rest}
use Rattle.reasons.specs.declared.Reason.{Reason}
use Rattle.reasons.specs.declared.Reason.TheVariants.{NotUser, BeyondMemory, OwnTable, Touches}
use Rattle.reasons.specs.Why.{reason_number, first_after, why_after, core_words, way_words, first_words, second_words, why_words, Told, told, told_number}

-- ---- only where one side touches a page of the other is there a second way

pub second_none : second_words None ≡ core_words 0
unfolding second_words
second_none = refl

pub second_core : (k : ℕ) → second_words (Some (NotUser k)) ≡ core_words 0
unfolding second_words
second_core k = refl

pub second_beyond : (s : Side) (w : Way) → second_words (Some (BeyondMemory s w)) ≡ core_words 0
unfolding second_words
second_beyond s w = refl

pub second_table : (s : Side) (w : Way) → second_words (Some (OwnTable s w)) ≡ core_words 0
unfolding second_words
second_table s w = refl

-- ---- both parts of 18 words, one after the other

first_long : (a : Option Reason) → length (first_words a) ≡ 9
unfolding first_words core_words way_words
first_long None = refl
first_long (Some (NotUser k)) = refl
first_long (Some (BeyondMemory s w)) = refl
first_long (Some (OwnTable s w)) = refl
first_long (Some (Touches w v)) = refl

none_left : (n : ℕ) (l : List ℕ) → length l ≤ n → drop n l ≡ []
none_left zero [] h = refl
none_left zero (x ∷ l) h = absurd (omega arith)
none_left (suc n) [] h = refl
none_left (suc n) (x ∷ l) h = none_left n l (omega arith)

pub both_written : (a : Option Reason) (f s w : List ℕ) → length w ≡ 18 → f ≡ first_words a → s ≡ second_words a → put_mid 9 (length (f ++ drop 9 w) - 9) (f ++ drop 9 w) s ≡ why_words a
both_written a f s w h p q =
    let l : length f ≡ 9 = ap length p ∙ first_long a in
    let e : drop 9 (f ++ drop 9 w) ≡ drop 9 w = drop_at f (drop 9 w) 9 l in
    ap₂ ◌++◌ (take_at f (drop 9 w) 9 l ∙ p)
    (ap₂ ◌++◌ q (ap (drop (length (f ++ drop 9 w) - 9)) e ∙ none_left (length (f ++ drop 9 w) - 9) (drop 9 w) (omega (arith, length-append f (drop 9 w), length-drop 9 w))) ∙ append-nil (second_words a))

-- ---- no reason has a number above 6

small : (r : Option Reason) → reason_number r ≤ 6
small None = omega arith
small (Some (NotUser k)) = omega arith
small (Some (BeyondMemory Group w)) = omega arith
small (Some (BeyondMemory Rest w)) = omega arith
small (Some (OwnTable Group w)) = omega arith
small (Some (OwnTable Rest w)) = omega arith
small (Some (Touches w v)) = omega arith

pub after_small : (g : ℕ) (t m : List ℕ) (d a : ℕ) → reason_number (first_after g t m d a) ≤ 6
after_small g t m d a = small (first_after g t m d a)

-- ---- the answers of the operation

module _ (a g : ℕ) (t m o : List ℕ) where
  pub tells_unsound : sound t (length m) ≡ false → told a g t m o ≡ record { answer = Err Unsound; words = o }
  unfolding told
  tells_unsound s = rw s refl

  module _ (s : sound t (length m) ≡ true) where
    pub tells_length : eqb (length o) 18 ≡ false → told a g t m o ≡ record { answer = Err LentLength; words = o }
    unfolding told
    tells_length l = rw (s, l) refl

    pub tells_group : eqb (length o) 18 ≡ true → is_group g (cores_of t) ≡ false → told a g t m o ≡ record { answer = Err refusal.Group; words = o }
    unfolding told
    tells_group l i = rw (s, l, i) refl

    pub tells : (r : Option Reason) → eqb (length o) 18 ≡ true → is_group g (cores_of t) ≡ true → r ≡ first_after g t m (6 - a) a → told a g t m o ≡ record { answer = Ok (reason_number r); words = why_words r }
    unfolding told
    tells r l i e = rw (s, l, i) (ap (λ (z : Option Reason). record { answer = Ok (reason_number z); words = why_words z }) (sym e))

module _ (a g : ℕ) (t m : List ℕ) where
  pub says_unsound : sound t (length m) ≡ false → Err Unsound ≡ why_after a g t m
  unfolding why_after
  says_unsound s = rw s refl

  module _ (s : sound t (length m) ≡ true) where
    pub says_group : is_group g (cores_of t) ≡ false → Err refusal.Group ≡ why_after a g t m
    unfolding why_after
    says_group i = rw (s, i) refl

    pub judged : is_group g (cores_of t) ≡ true → why_after a g t m ≡ Ok (first_after g t m (6 - a) a)
    unfolding why_after
    judged i = rw (s, i) refl

-- what `tell` promises of its answer, each clause by its name
pub promised_told : (z : Told) {r : Result ℕ Refusal} {o : List ℕ} → r ≡ z.answer → o ≡ z.words → record {
  value : r ≡ z.answer;
  words_after : o ≡ z.words;
  number : told_number r ≡ told_number z.answer;
}
promised_told z v w = record { value = v; words_after = w; number = ap told_number v }
