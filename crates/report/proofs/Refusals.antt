-- Demand 1: step answers what 01 lists, 4 on tables that are not sound and on no others; a refusal leaves memory and
-- every word of the tables but its count; words stay words, bytes bytes, and sound tables sound.
-- Assumes nothing.
use Rattle.std.specs.Prelude.{if◌then◌else◌, Result, Ok, Err, is_ok}
use Rattle.refusals.specs.declared.Refusal.{Refusal}
use Rattle.refusals.specs.declared.Refusal.TheVariants.{Unsound}
use Rattle.refusals.specs.Numbers.{number}
use mathlib.Core.Path.{◌≡◌, refl, sym, ◌∙◌, ap}
use mathlib.Core.Bool.{Bool, true, false}
use mathlib.Core.List.{List}
use Prim.Native.Nat.{ℕ, ◌+◌, ◌-◌, ◌^◌}
use lib.Dec.{eqb, ltb, leb}
use lib.ListN.{length, get_or, set}
use lib.Seq.{get_or-set_same}
use native.Mathlib.Omega.{arith}
use borrow.Author.Tests.{leb-true, le-leb, ne_eqb, eq-eqb}
use Rattle.word.proofs.Tests.{true_false}
use Rattle.word.proofs.Truth.{and_left, and_right, and_both}
use Rattle.tables.specs.Views.{cores_of}
use Rattle.tables.specs.Sound.{sound}
use Rattle.steps.specs.declared.Answer.{Answer}
use Rattle.steps.specs.declared.Answer.TheVariants.{Done, Interrupt}
use Rattle.machine.specs.Actions.{Effect, answer_of}
use Rattle.machine.specs.Decide.{decided}
use Rattle.steps.specs.Form.{count_at}
use Rattle.machine.specs.Step.{Stepped, one_more, counted, after, taken, step}
use Rattle.machine.proofs.Fitting.{count_there}
use Rattle.machine.proofs.Keeping.{refused_count, step_sound}
use Rattle.machine.proofs.Words.{step_words, step_bytes}
use Rattle.machine.proofs.Taking.{not_sound, is_sound}
use Rattle.machine.proofs.Levels as levels
use Rattle.machine.proofs.Answers.{after_answer, taken_known}
use Rattle.report.specs.Demands.{count_after, Left, known, Demand1}

-- what is answered on sound tables is one of the answers, and no refusal 4
weaker : (x : Result Answer Refusal) → levels.known x ≡ true → known x ≡ true
unfolding levels.known
weaker (Ok Done) e = refl
weaker (Ok (Interrupt l)) e = e
weaker (Err r) e =
    and_both (leb 4 (number r)) _ (le-leb 4 (number r) (omega (arith, leb-true 5 (number r) (and_left (leb 5 (number r)) _ e)))) (and_right (leb 5 (number r)) _ e)

not_four : (r : Refusal) → levels.known (Err r) ≡ true → eqb (number r) 4 ≡ false
unfolding levels.known
not_four r e = ne_eqb (number r) 4 (λ q. omega (arith, leb-true 5 (number r) (and_left (leb 5 (number r)) _ e)))

-- the number of a refusal among the answers
abbrev number_of : Result Answer Refusal → ℕ
number_of (Ok a) = 0
number_of (Err r) = number r

module _ (t m s : List ℕ) where
  -- a refusal is counted
  refused_counts : (d : Result Effect Refusal) {r : Refusal} → answer_of d ≡ Err r → (after s d t m).tables ≡ counted s t
  unfolding after
  refused_counts (Ok y) q = absurd (true_false (ap is_ok q))
  refused_counts (Err y) q = refl

  answers : known (step t m s).answer ≡ true
  answers = go (sound t (length m)) refl
    where
      go : (b : Bool) → sound t (length m) ≡ b → known (step t m s).answer ≡ true
      go true e = ap (λ (r : Stepped). known r.answer) (sym (is_sound t m s e)) ∙ weaker _ (taken_known t m s)
      go false e = ap known (sym (not_sound t m s e).0)

  module _ (n : Refusal) (a : (step t m s).answer ≡ Err n) where
    abbrev i : ℕ
    i = count_at (cores_of t) s

    abbrev c : List ℕ → ℕ
    c u = get_or u i 0

    -- one more, but for the largest
    counts : sound t (length m) ≡ true → c (counted s t) ≡ (if ltb (c t) (2 ^ 32 - 1) then c t + 1 else c t)
    unfolding counted one_more
    counts e = go (ltb (c t) (2 ^ 32 - 1))
      where
        go : (b : Bool) → c (if b then set t i (c t + 1) else t) ≡ (if b then c t + 1 else c t)
        go true = get_or-set_same t i (c t + 1) 0 (count_there t (length m) e s)
        go false = refl

    count : c (step t m s).tables ≡ count_after (number n) (c t)
    unfolding taken
    count = go (sound t (length m)) refl
      where
        go : (b : Bool) → sound t (length m) ≡ b → c (step t m s).tables ≡ count_after (number n) (c t)
        go true e =
            let p : (taken t m s).answer ≡ Err n = ap (λ (r : Stepped). r.answer) (is_sound t m s e) ∙ a in
            ap (λ (r : Stepped). c r.tables) (sym (is_sound t m s e))
            ∙ ap c (refused_counts (decided t m s) (sym (after_answer s (decided t m s) t m) ∙ p))
            ∙ counts e
            ∙ ap (λ (b : Bool). if b then c t else if ltb (c t) (2 ^ 32 - 1) then c t + 1 else c t)
            (sym (not_four n (ap levels.known (sym p) ∙ taken_known t m s)))
        go false e =
            let q : number n ≡ 4 = let d : Err Unsound ≡ Err n = (not_sound t m s e).0 ∙ a in sym (ap number_of d) in
            ap c (sym (not_sound t m s e).1)
            ∙ ap (λ (b : Bool). if b then c t else if ltb (c t) (2 ^ 32 - 1) then c t + 1 else c t) (sym (eq-eqb (number n) 4 q))

    left : Left t m s (number n) (step t m s)
    left =
        let R = refused_count t m s n a in
        record { memory = R.0; long = R.1.long; words = R.1.same; count = count }

  four : sound t (length m) ≡ false → step t m s ≡ record { answer = Err Unsound; tables = t; memory = m }
  unfolding step
  four e = rw e refl

  no_four : sound t (length m) ≡ true → (step t m s).answer ≡ Err Unsound → ⊥
  no_four e a = true_false (not_four Unsound (ap levels.known (sym (ap (λ (r : Stepped). r.answer) (is_sound t m s e) ∙ a)) ∙ taken_known t m s))

pub demand1 : Demand1
demand1 t m s =
    record {
      answer = answers t m s;
      four = four t m s;
      not_four = no_four t m s;
      refused = left t m s;
      words = step_words t m s;
      bytes = step_bytes t m s;
      stays_sound = λ ws bs e. step_sound t m s e ws bs;
    }
