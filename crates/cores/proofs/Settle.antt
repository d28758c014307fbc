-- Guards one after the other: the first that fails is the refusal that there is no next state.
-- Assumes nothing.
use Rattle.std.specs.Prelude.{Result, Err}
use Rattle.refusals.specs.declared.Refusal.{Refusal}
use Rattle.refusals.specs.declared.Refusal.TheVariants.{NoNextState, ByteNowhere}
use mathlib.Core.Path.{◌≡◌, refl, sym}
use mathlib.Core.Bool.{Bool, true, false}
use mathlib.Core.List.{[], ◌∷◌}
use Rattle.word.proofs.Tests.{true_false}
use Rattle.cores.specs.Guards.{undecided, test, Judged, yield, ask, settle, any_of}

pub ask_holds : {A : Type 0} (b : Bool) (j : Judged (Result A Refusal)) → b ≡ true → settle (ask (test b ∷ []) j) ≡ settle j
unfolding settle any_of
ask_holds true j e = refl
ask_holds false j e = absurd (true_false (sym e))

pub ask_fails : {A : Type 0} (b : Bool) (j : Judged (Result A Refusal)) → b ≡ false → settle (ask (test b ∷ []) j) ≡ Err NoNextState
unfolding settle any_of
ask_fails true j e = absurd (true_false e)
ask_fails false j e = refl

pub settle_yield : {A : Type 0} (x : Result A Refusal) → settle (yield x) ≡ x
unfolding settle any_of
settle_yield x = refl

pub settle_undecided : {A : Type 0} (x : Result A Refusal) → settle (ask (undecided ∷ []) (yield x)) ≡ Err ByteNowhere
unfolding settle any_of
settle_undecided x = refl
