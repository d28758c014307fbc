-- What holds of the answer of `why`: there is no reason exactly where the group is apart, and each way that is named is
-- real.
-- Assumes nothing.
use Rattle.std.specs.Prelude.{◌≡◌, true, false, List, ◌++◌, ℕ, ltb, Option, None, Some, Result, Ok, Err}
use Rattle.tables.specs.Views.{cores_of, pages_of}
use Rattle.reach.specs.Lists.{has}
use Rattle.reach.specs.Reach.{members, reach, table_pages, reached}
use Rattle.refusals.specs.declared.Refusal.{Refusal}
use Rattle.separation.specs.Apart.{rest, runs_as_user, apart_on}
use Rattle.ways.specs.declared.Way.{Way}
use Rattle.reasons.specs.declared.Side.{Side}
use Rattle.reasons.specs.declared.Side.TheVariants.{Group, Rest}
use Rattle.reasons.specs.declared.Reason.{Reason}
use Rattle.reasons.specs.declared.Reason.TheVariants.{NotUser, BeyondMemory, OwnTable, Touches}
use Rattle.ways.specs.Ways.{page, Real}
use Rattle.reasons.specs.Why.{grants, spoils, why_after}

abbrev pub cores_in : ℕ → List ℕ → Side → List ℕ
cores_in g t Group = members g (cores_of t)
cores_in g t Rest = rest g t

pub record Outside (cs t m : List ℕ) (w : Way) : Type 0 where
  pub real : Real cs t m w
  pub outside : ltb (page w) (pages_of t) ≡ false

pub record Written (cs t m : List ℕ) (w : Way) : Type 0 where
  pub real : Real cs t m w
  pub granting : grants w ≡ true
  pub is_table_lem : has (page w) (table_pages (reach cs t m)) ≡ true

-- w of the others os, v of the cores cs
pub record Met (cs os t m : List ℕ) (w v : Way) : Type 0 where
  pub real : Real os t m w
  pub spoiling : spoils w ≡ true
  pub is_reached_lem : has (page w) (reached (reach cs t m)) ≡ true
  pub own_real : Real cs t m v
  pub same_page : page v ≡ page w

-- what each answer rests on
abbrev pub Grounded : ℕ → List ℕ → List ℕ → Result (Option Reason) Refusal → Type 0
Grounded g t m (Ok None) = Unit {0}
Grounded g t m (Err r) = apart_on g t m ≡ Err r
Grounded g t m (Ok (Some (NotUser k))) = (has k (members g (cores_of t) ++ rest g t) ≡ true) × (runs_as_user t k ≡ false)
Grounded g t m (Ok (Some (BeyondMemory s w))) = Outside (cores_in g t s) t m w
Grounded g t m (Ok (Some (OwnTable s w))) = Written (cores_in g t s) t m w
Grounded g t m (Ok (Some (Touches w v))) = Met (members g (cores_of t)) (rest g t) t m w v

-- the law of `why`
pub record Law (g : ℕ) (t m : List ℕ) : Type 0 where
  pub grounded : (a : ℕ) → Grounded g t m (why_after a g t m)
  pub none_where_apart : apart_on g t m ≡ Ok true → why_after 0 g t m ≡ Ok None
  pub apart_where_none : why_after 0 g t m ≡ Ok None → apart_on g t m ≡ Ok true
