-- What the operation answers, refusal by refusal.
-- Assumes nothing.
use mathlib.Core.Path.{◌≡◌, refl, ap, ◌∙◌}
use mathlib.Core.Logic.{◌≢◌}
use mathlib.Core.Bool.{true, false}
use mathlib.Core.List.{List}
use Prim.Native.Nat.{ℕ, ◌*◌, ◌≤◌, ◌<◌}
use lib.ListN.{length}
use borrow.Author.Tests.{eq-eqb, ne_eqb, lt-ltb, le-ltb, le-leb, lt-leb}
use Rattle.layout.specs.Blocks.{block}
use Rattle.tables.specs.Views.{cores_of}
use Rattle.tables.specs.Sound.{sound}
use Rattle.std.specs.Prelude.{Result, Ok, Err}
use Rattle.refusals.specs.declared.Refusal.{Refusal}
use Rattle.refusals.specs.declared.Refusal.TheVariants.{Unsound, Core, Addresses, AnswersLength}
use Rattle.translate.specs.Translate.{answers_for, reads_for, translate_on, translated_number, reads_of}

module _ (k : ℕ) (l t m r : List ℕ) where
  -- an answer, and the words that are left
  abbrev pub Gives : Result ℕ Refusal → List ℕ → Type 0
  Gives a o = (a ≡ (translate_on k l t m r).answer) × (o ≡ (translate_on k l t m r).words)

  -- the same, each clause by its name
  pub numbered : {a : Result ℕ Refusal} {o : List ℕ} → Gives a o → record {
    value : a ≡ (translate_on k l t m r).answer;
    answers_after : o ≡ (translate_on k l t m r).words;
    number : translated_number a ≡ translated_number (translate_on k l t m r).answer;
    reads : reads_of a ≡ reads_of (translate_on k l t m r).answer;
  }
  numbered g = record { value = g.0; answers_after = g.1; number = ap translated_number g.0; reads = ap reads_of g.0 }

  pub unsound : sound t (length m) ≡ false → Gives (Err Unsound) r
  unfolding translate_on
  unsound e = rw e (refl, refl)

  module _ (e : sound t (length m) ≡ true) where
    pub no_core : cores_of t ≤ k → Gives (Err Core) r
    unfolding translate_on
    no_core h = rw (e, le-ltb k (cores_of t) h) (refl, refl)

    module _ (h : k < cores_of t) where
      pub too_many : 64 < length l → Gives (Err Addresses) r
      unfolding translate_on
      too_many n = rw (e, lt-ltb k (cores_of t) h, lt-leb (length l) 64 n) (refl, refl)

      module _ (n : length l ≤ 64) where
        pub other_words : length r ≢ 3 * length l → Gives (Err AnswersLength) r
        unfolding translate_on
        other_words d = rw (e, lt-ltb k (cores_of t) h, le-leb (length l) 64 n, ne_eqb (length r) (3 * length l) d) (refl, refl)

        -- with the block as the code has it
        pub done : {b o : List ℕ} {c : ℕ} → length r ≡ 3 * length l → b ≡ block t k → c ≡ reads_for b m l → o ≡ answers_for b m l → Gives (Ok c) o
        unfolding translate_on
        done q p f g =
            rw (e, lt-ltb k (cores_of t) h, le-leb (length l) 64 n, eq-eqb (length r) (3 * length l) q)
            (ap Ok (f ∙ ap (λ (b : List ℕ). reads_for b m l) p), g ∙ ap (λ (b : List ℕ). answers_for b m l) p)
