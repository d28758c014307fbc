-- A step by its answer.
-- Assumes nothing.
use Rattle.std.specs.Prelude.{if◌then◌else◌, Result, Ok, Err, is_err}
use Rattle.refusals.specs.declared.Refusal.{Refusal}
use Rattle.refusals.specs.declared.Refusal.TheVariants.{Unsound}
use mathlib.Core.Path.{◌≡◌, refl, sym, ◌∙◌, ap}
use mathlib.Core.Bool.{Bool, true, false}
use mathlib.Core.List.{List}
use Prim.Native.Nat.{ℕ, ◌≤◌, ◌<◌}
use lib.ListN.{length}
use Rattle.word.proofs.Tests.{true_false}
use Rattle.tables.specs.Views.{cores_of}
use Rattle.tables.specs.Sound.{sound}
use Rattle.steps.specs.declared.Answer.{Answer}
use Rattle.steps.specs.Answers.{answer_number}
use Rattle.steps.specs.Form.{count_at}
use Rattle.machine.specs.Actions.{Effect, answer_by, tables_after, memory_after}
use Rattle.machine.specs.Decide.{decided}
use Rattle.machine.specs.Step.{Stepped, counted, after, taken, step}
use Rattle.machine.specs.inner.Tried.{tried}
use Rattle.machine.proofs.Fitting.{header_words, count_there}

-- what is chosen by a test, by cases of it
pub by_test : {A : Type 0} (P : A → Type 0) (b : Bool) (x y : A) → (b ≡ true → P x) → (b ≡ false → P y) → P (if b then x else y)
by_test P true x y f g = f refl
by_test P false x y f g = g refl

module _ (t m s : List ℕ) where
  abbrev Is : Result Answer Refusal → List ℕ → List ℕ → Type 0
  Is r u v = (r ≡ (taken t m s).answer) × (u ≡ (taken t m s).tables) × (v ≡ (taken t m s).memory)

  pub taken_accepted : (x : Effect) → Ok x ≡ decided t m s → Is (Ok (answer_by x)) (tables_after x t) (memory_after x m)
  unfolding taken after
  taken_accepted x e = rw (← e) (refl, refl, refl)

  pub taken_refused : (r : Refusal) → Err r ≡ decided t m s → Is (Err r) (counted s t) m
  unfolding taken after
  taken_refused r e = rw (← e) (refl, refl, refl)

  pub not_sound : sound t (length m) ≡ false → (Err Unsound ≡ (step t m s).answer) × (t ≡ (step t m s).tables) × (m ≡ (step t m s).memory)
  unfolding step
  not_sound e = (rw (e) refl, rw (e) refl, rw (e) refl)

  pub is_sound : sound t (length m) ≡ true → taken t m s ≡ step t m s
  unfolding step
  is_sound e = rw (e) refl

-- ---- `take`, then the count

-- r, u and v are the answer, the tables and the memory that `take` leaves, and the operation Step
abbrev pub Takes : List ℕ → List ℕ → List ℕ → Result Answer Refusal → List ℕ → List ℕ → Type 0
Takes t m s r u v = (r ≡ (tried (decided t m s) t m).answer) × ((u ≡ (tried (decided t m s) t m).tables) × (v ≡ (tried (decided t m s) t m).memory))

abbrev pub Steps : List ℕ → List ℕ → List ℕ → Result Answer Refusal → List ℕ → List ℕ → Type 0
Steps t m s r u v = (r ≡ (step t m s).answer) × ((u ≡ (step t m s).tables) × ((v ≡ (step t m s).memory) × (answer_number r ≡ answer_number (step t m s).answer)))

module _ (t m s : List ℕ) {r : Result Answer Refusal} {u v : List ℕ} (e : sound t (length m) ≡ true) (y : Takes t m s r u v) where
  as_step : (w : List ℕ) → (r ≡ (taken t m s).answer) × (w ≡ (taken t m s).tables) × (v ≡ (taken t m s).memory) → Steps t m s r w v
  as_step w x =
      let z = is_sound t m s e in
      let a = x.0 ∙ ap (λ (r : Stepped). r.answer) z in
      (a, (x.1 ∙ ap (λ (r : Stepped). r.tables) z, (x.2 ∙ ap (λ (r : Stepped). r.memory) z, ap answer_number a)))

  -- by what was decided
  accepted_as : (d : Result Effect Refusal) → (r ≡ (tried d t m).answer) × ((u ≡ (tried d t m).tables) × (v ≡ (tried d t m).memory)) → is_err r ≡ false →
      (r ≡ (after s d t m).answer) × (u ≡ (after s d t m).tables) × (v ≡ (after s d t m).memory)
  unfolding tried after
  accepted_as (Ok x) z q = (z.0, z.1.0, z.1.1)
  accepted_as (Err x) z q = absurd (true_false (sym (ap is_err z.0) ∙ q))

  refused_as : (d : Result Effect Refusal) → (r ≡ (tried d t m).answer) × ((u ≡ (tried d t m).tables) × (v ≡ (tried d t m).memory)) → is_err r ≡ true → {w : List ℕ} → w ≡ counted s u →
      (u ≡ t) × ((r ≡ (after s d t m).answer) × (w ≡ (after s d t m).tables) × (v ≡ (after s d t m).memory))
  unfolding tried after
  refused_as (Ok x) z q f = absurd (true_false (sym q ∙ ap is_err z.0))
  refused_as (Err x) z q f = (z.1.0, (z.0, f ∙ ap (counted s) z.1.0, z.1.1))

  pub step_accepted : is_err r ≡ false → Steps t m s r u v
  unfolding taken
  step_accepted q = as_step u (accepted_as (decided t m s) y q)

  pub step_refused : is_err r ≡ true → {w : List ℕ} → w ≡ counted s u → Steps t m s r w v
  unfolding taken
  step_refused q {w} f = as_step w (refused_as (decided t m s) y q f).1

  -- what `count` asks, where the step is refused
  pub count_asks : is_err r ≡ true → (32 ≤ length u) × (count_at (cores_of u) s < length u)
  count_asks q = rw (refused_as (decided t m s) y q refl).0 (header_words t (length m) e, count_there t (length m) e s)
