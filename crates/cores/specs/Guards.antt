-- The scheme of refusals 6 and 7: a guard that fails gives 6, wherever it stands; if none fails and one cannot be
-- decided, 7.
-- Assumes nothing.
use Rattle.std.specs.Prelude.{if◌then◌else◌, Bool, true, false, ◌||◌, List, [], ◌∷◌, ◌++◌, Result, Err}
use Rattle.refusals.specs.declared.Refusal.{Refusal}
use Rattle.refusals.specs.declared.Refusal.TheVariants.{NoNextState, ByteNowhere}

pub data Guard : Type 0 where
  holds : Guard
  fails : Guard
  undecided : Guard

abbrev pub test : Bool → Guard
test true = holds
test false = fails

abbrev pub is_failure : Guard → Bool
is_failure holds = false
is_failure fails = true
is_failure undecided = false

abbrev pub is_undecided : Guard → Bool
is_undecided holds = false
is_undecided fails = false
is_undecided undecided = true

unfoldable pub any_of : (Guard → Bool) → List Guard → Bool
any_of p [] = false
any_of p (g ∷ l) = p g || any_of p l

-- the guards of a step, and what it does if they hold
pub record Judged (A : Type 0) : Type 0 where
  pub guards : List Guard
  pub effect : A

abbrev pub yield : {A : Type 0} → A → Judged A
yield x = record { guards = []; effect = x }

abbrev pub ask : {A : Type 0} → List Guard → Judged A → Judged A
ask gs j = record { guards = gs ++ j.guards; effect = j.effect }

-- the effect, or a refusal
unfoldable pub settle : {A : Type 0} → Judged (Result A Refusal) → Result A Refusal
settle j =
    if any_of is_failure j.guards then Err NoNextState
    else if any_of is_undecided j.guards then Err ByteNowhere
    else j.effect
