-- Truth values: what holds of and, or and choice, for every crate.
-- Assumes nothing.
use Rattle.std.proofs.Common.{◌≡◌, Bool, true, false, ◌&&◌, ◌||◌, ◌⊎◌, sym, refl, ◌∙◌, inl, inr}
use Rattle.word.proofs.Tests.{true_false}

-- ---- and

pub and_left : (a b : Bool) → a && b ≡ true → a ≡ true
and_left true b e = refl
and_left false b e = e

pub and_right : (a b : Bool) → a && b ≡ true → b ≡ true
and_right true b e = e
and_right false b e = absurd (true_false (sym e))

pub and_both : (a b : Bool) → a ≡ true → b ≡ true → a && b ≡ true
and_both true b p q = q
and_both false b p q = p

pub and_none : (a b : Bool) → b ≡ false → a && b ≡ false
and_none true b e = e
and_none false b e = refl

pub and-true : (a : Bool) → a && true ≡ a
and-true true = refl
and-true false = refl

pub and_assoc : (a b c : Bool) → a && (b && c) ≡ (a && b) && c
and_assoc true b c = refl
and_assoc false b c = refl

pub and_turn : (a b : Bool) → a && b ≡ b && a
and_turn true true = refl
and_turn true false = refl
and_turn false true = refl
and_turn false false = refl

-- ---- or

pub or_first : (a b : Bool) → a ≡ true → a || b ≡ true
or_first true b e = refl
or_first false b e = absurd (true_false (sym e))

pub or_second : (a b : Bool) → b ≡ true → a || b ≡ true
or_second true b e = refl
or_second false b e = e

pub or_other : (a b : Bool) → a || b ≡ true → a ≡ false → b ≡ true
or_other false b e p = e
or_other true b e p = absurd (true_false p)

pub or_cases : (a b : Bool) → a || b ≡ true → (a ≡ true) ⊎ (b ≡ true)
or_cases true b e = inl refl
or_cases false b e = inr e

-- none of the two
pub or_off : (a b : Bool) → a ≡ false → b ≡ false → a || b ≡ false
or_off false b e f = f
or_off true b e f = absurd (true_false e)

pub or_none_left : (a b : Bool) → a || b ≡ false → a ≡ false
or_none_left true b e = e
or_none_left false b e = refl

pub or_none_right : (a b : Bool) → a || b ≡ false → b ≡ false
or_none_right true b e = absurd (true_false e)
or_none_right false b e = e

pub or_none : (a b : Bool) → b ≡ false → a ≡ a || b
or_none true b e = refl
or_none false b e = sym e

pub or_true : (a : Bool) → a || true ≡ true
or_true true = refl
or_true false = refl

pub or_assoc : (a b c : Bool) → (a || b) || c ≡ a || (b || c)
or_assoc true b c = refl
or_assoc false b c = refl

pub or_turn : (a b : Bool) → a || b ≡ b || a
or_turn true true = refl
or_turn true false = refl
or_turn false true = refl
or_turn false false = refl

-- ---- by cases

pub tested : {B : Type 0} (t : Bool) → (t ≡ true → B) → (t ≡ false → B) → B
tested true f g = f refl
tested false f g = g refl

-- a truth value is not both
pub clash : {A : Type 0} (t : Bool) → t ≡ true → t ≡ false → A
clash t p q = absurd (true_false (sym p ∙ q))
