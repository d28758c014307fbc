-- Laws of the scheme of refusals: what a decision needs of what follows a guard, it needs only where the guard does not
-- fail.
-- Assumes nothing.
use Rattle.std.specs.Prelude.{if◌then◌else◌, Result, Err}
use Rattle.refusals.specs.declared.Refusal.{Refusal}
use Rattle.refusals.specs.declared.Refusal.TheVariants.{NoNextState, ByteNowhere}
use mathlib.Core.Path.{◌≡◌, refl, sym, ap, ap₂, ◌∙◌}
use mathlib.Core.Bool.{Bool, true, false, ◌||◌, false≢true}
use mathlib.Core.List.{List, [], ◌∷◌, ◌++◌}
use Rattle.word.proofs.Truth.{tested, clash}
use Rattle.cores.specs.Guards.{Guard, test, is_failure, is_undecided, any_of, Judged, yield, ask, settle}

neither : (a b : Bool) → a || b ≡ false → (a ≡ false) × (b ≡ false)
neither true b e = absurd (false≢true (sym e))
neither false b e = (refl, e)

pub any_append : (p : Guard → Bool) (l r : List Guard) → any_of p (l ++ r) ≡ any_of p l || any_of p r
unfolding any_of
any_append p [] r = refl
any_append p (g ∷ l) r = go (p g) (any_append p l r)
  where
    go : (a : Bool) → any_of p (l ++ r) ≡ any_of p l || any_of p r → a || any_of p (l ++ r) ≡ (a || any_of p l) || any_of p r
    go true e = refl
    go false e = e

pub first_met : (t : Bool) (l : List Guard) → any_of is_failure (test t ∷ l) ≡ false → t ≡ true
unfolding any_of
first_met true l e = refl
first_met false l e = sym e

-- ---- two judgements give the same outcome

pub record Same {A : Type 0} (j k : Judged A) : Type 0 where
  pub breaks : any_of is_failure j.guards ≡ any_of is_failure k.guards
  pub opens : any_of is_failure j.guards ≡ false → any_of is_undecided j.guards ≡ any_of is_undecided k.guards
  pub effects : any_of is_failure j.guards ≡ false → j.effect ≡ k.effect

module _ {A : Type 0} where
  pub same_refl : (j : Judged A) → Same j j
  same_refl j = record { breaks = refl; opens = λ _. refl; effects = λ _. refl }

  pub same_yield : (o p : A) → o ≡ p → Same (yield o) (yield p)
  same_yield o p e = record { breaks = refl; opens = λ _. refl; effects = λ _. e }

  pub same_ask : (l : List Guard) (j k : Judged A) → (any_of is_failure l ≡ false → Same j k) → Same (ask l j) (ask l k)
  same_ask l j k f =
      tested (any_of is_failure l)
      (λ e. record {
        breaks = through j e ∙ sym (through k e);
        opens = λ h. clash (any_of is_failure (l ++ j.guards)) (through j e) h;
        effects = λ h. clash (any_of is_failure (l ++ j.guards)) (through j e) h;
      })
      (λ e. record {
        breaks = any_append is_failure l j.guards ∙ ap (λ (t : Bool). any_of is_failure l || t) (f e).breaks ∙ sym (any_append is_failure l k.guards);
        opens = λ h. any_append is_undecided l j.guards ∙ ap (λ (t : Bool). any_of is_undecided l || t) ((f e).opens (rest h)) ∙ sym (any_append is_undecided l k.guards);
        effects = λ h. (f e).effects (rest h);
      })
    where
      through : (i : Judged A) → any_of is_failure l ≡ true → any_of is_failure (l ++ i.guards) ≡ true
      through i e = any_append is_failure l i.guards ∙ ap (λ (t : Bool). t || any_of is_failure i.guards) e

      rest : any_of is_failure (l ++ j.guards) ≡ false → any_of is_failure j.guards ≡ false
      rest h = (neither (any_of is_failure l) (any_of is_failure j.guards) (sym (any_append is_failure l j.guards) ∙ h)).1

  -- one guard by a test
  pub same_test : (t : Bool) (j k : Judged A) → (t ≡ true → Same j k) → Same (ask (test t ∷ []) j) (ask (test t ∷ []) k)
  same_test t j k f = same_ask (test t ∷ []) j k (λ e. f (first_met t [] e))

  pub same_if : (t : Bool) (i j k l : Judged A) → (t ≡ true → Same i j) → (t ≡ false → Same k l) → Same (if t then i else k) (if t then j else l)
  same_if true i j k l f g = f refl
  same_if false i j k l f g = g refl

pub settle_same : {A : Type 0} (j k : Judged (Result A Refusal)) → Same j k → settle j ≡ settle k
unfolding settle
settle_same {A} j k s =
    tested (any_of is_failure j.guards)
    (λ e. let f : any_of is_failure k.guards ≡ true = sym s.breaks ∙ e in rw (e, f))
    (λ e. ap (λ (t : Bool). if t then Err NoNextState else if any_of is_undecided j.guards then Err ByteNowhere else j.effect) s.breaks
    ∙ ap₂ (λ (u : Bool) (o : Result A Refusal). if any_of is_failure k.guards then Err NoNextState else if u then Err ByteNowhere else o) (s.opens e) (s.effects e))

-- ---- what holds of the outcome

-- it need hold of the effect only where no guard fails
pub record Judges {A : Type 0} (P : A → Type 0) (j : Judged A) : Type 0 where
  pub met : any_of is_failure j.guards ≡ false → P j.effect

module _ {A : Type 0} (P : A → Type 0) where
  pub judges_yield : (o : A) → P o → Judges P (yield o)
  judges_yield o p = record { met = λ _. p }

  pub judges_ask : (l : List Guard) (j : Judged A) → (any_of is_failure l ≡ false → Judges P j) → Judges P (ask l j)
  judges_ask l j f =
      record {
        met = λ h.
            let e : any_of is_failure l || any_of is_failure j.guards ≡ false = sym (any_append is_failure l j.guards) ∙ h in
            let n = neither (any_of is_failure l) (any_of is_failure j.guards) e in (f n.0).met n.1;
      }

  pub judges_test : (t : Bool) (j : Judged A) → (t ≡ true → Judges P j) → Judges P (ask (test t ∷ []) j)
  judges_test t j f = judges_ask (test t ∷ []) j (λ e. f (first_met t [] e))

  pub judges_if : (t : Bool) (j k : Judged A) → (t ≡ true → Judges P j) → (t ≡ false → Judges P k) → Judges P (if t then j else k)
  judges_if true j k f g = f refl
  judges_if false j k f g = g refl

pub judges_settle : {A : Type 0} (P : Result A Refusal → Type 0) (j : Judged (Result A Refusal)) → ((r : Refusal) → P (Err r)) → Judges P j → P (settle j)
unfolding settle
judges_settle P j p f =
    tested (any_of is_failure j.guards) (λ e. rw e (p NoNextState))
    (λ e. rw e (tested (any_of is_undecided j.guards) (λ u. rw u (p ByteNowhere)) (λ u. rw u (f.met e))))
