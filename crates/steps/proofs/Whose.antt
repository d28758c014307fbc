-- Where a refusal is counted, once more by what the step is. The laws leave no other definition: words 2 to 5 have no
-- part in it, so six words of kind 0 to 8 that name a core count as the well-formed step with that kind and core does;
-- all other words count in the header.
-- Assumes nothing.
use Rattle.std.specs.Prelude.{if◌then◌else◌, Option, Some, None, is_none}
use Rattle.std.specs.Bool.{then_some}
use mathlib.Core.Path.{◌≡◌, refl, ap, ◌∙◌}
use mathlib.Core.Logic.{◌≢◌}
use mathlib.Core.Bool.{Bool, true, false, ◌&&◌}
use mathlib.Core.List.{List, [], ◌∷◌}
use Prim.Native.Nat.{ℕ, ◌+◌, ◌^◌, ◌<◌, ◌≤◌}
use lib.Dec.{eqb, ltb}
use lib.ListN.{length}
use borrow.Author.Tests.{ltb-true, ne_eqb, le-ltb}
use Rattle.word.proofs.Tests.{true_false}
use Rattle.word.proofs.Truth.{and_right, and_none}
use Rattle.layout.specs.Layout.{block_at, refusals, core_refusals}
use Rattle.steps.specs.declared.Step.{Step}
use Rattle.steps.specs.declared.Step.TheVariants.{ByProcessor, ByApic}
use Rattle.steps.specs.declared.ProcessorStep.TheVariants.{Core, TlbCreate, TlbExtend, TlbAccessed, StoreBuffer}
use Rattle.steps.specs.declared.ApicStep.TheVariants.{SendIpi, SendEoi, InitCore, StartCore, Sample, Deliver, SetLine}
use Rattle.steps.specs.Form.{word, zero_from, walk_at, step_of_core, step_of_line, step_of, line_count, names_core, count_at}

-- words 2 to 5 have no part in it: a step that is misformed there counts as one that is not
pub any_words : (n kind k : ℕ) (a b c d x y z w : ℕ) → count_at n (kind ∷ k ∷ a ∷ b ∷ c ∷ d ∷ []) ≡ count_at n (kind ∷ k ∷ x ∷ y ∷ z ∷ w ∷ [])
unfolding count_at
any_words n kind k a b c d x y z w = refl

-- more or fewer words, a core that is not there, kinds 9 and above: the header
module _ (n : ℕ) (s : List ℕ) where
  header : names_core n s ≡ false → count_at n s ≡ refusals
  unfolding count_at
  header e = rw e refl

  pub other_length : length s ≢ 6 → count_at n s ≡ refusals
  other_length d = header (rw (ne_eqb (length s) 6 d) refl)

  pub other_kind : 9 ≤ word s 0 → count_at n s ≡ refusals
  other_kind h = header (and_none (eqb (length s) 6) _ (rw (le-ltb (word s 0) 9 h) refl))

  pub no_core : n ≤ word s 1 → count_at n s ≡ refusals
  no_core h = header (and_none (eqb (length s) 6) _ (and_none (ltb (word s 0) 9) _ (le-ltb (word s 1) n h)))

-- ---- a well-formed step: the word of the core that it names, and the header's for a step on a line

abbrev count_of : Step → ℕ
count_of (ByProcessor k x) = block_at k + core_refusals
count_of (ByApic (SendIpi k)) = block_at k + core_refusals
count_of (ByApic (SendEoi k)) = block_at k + core_refusals
count_of (ByApic (InitCore k)) = block_at k + core_refusals
count_of (ByApic (StartCore k)) = block_at k + core_refusals
count_of (ByApic (Sample l)) = refusals
count_of (ByApic (Deliver l)) = refusals
count_of (ByApic (SetLine l v)) = refusals

-- if x is a step, it is counted at c
abbrev Counts : ℕ → Option Step → Type 0
Counts c x = (y : Step) → x ≡ Some y → c ≡ count_of y

one : (c : ℕ) (x : Step) → c ≡ count_of x → Counts c (Some x)
one c x e y q = let p : x ≡ y = cc in e ∙ ap count_of p

no_step : (c : ℕ) → Counts c None
no_step c y q = absurd (none_some q)
  where
    none_some : None ≡ Some y → ⊥
    none_some e = true_false (ap is_none e)

if_step : (c : ℕ) (t : Bool) (x : Step) → c ≡ count_of x → Counts c (then_some t x)
if_step c true x e = one c x e
if_step c false x e = no_step c

chosen : (c : ℕ) (t : Bool) (x y : Option Step) → Counts c x → Counts c y → Counts c (if t then x else y)
chosen c true x y f g = f
chosen c false x y f g = g

core_counts : (kind k : ℕ) (s : List ℕ) → Counts (block_at k + core_refusals) (step_of_core kind k s)
core_counts kind k s =
    let c : ℕ = block_at k + core_refusals in
    chosen c (eqb kind 0) _ _ (one c (ByProcessor k (Core (walk_at s 2) (walk_at s 4))) refl)
    (chosen c (eqb kind 1) _ _ (if_step c (ltb (word s 2) (2 ^ 20) && zero_from 3 s) (ByProcessor k (TlbCreate (word s 2))) refl)
    (chosen c (eqb kind 2) _ _ (if_step c (ltb (word s 4) (2 ^ 3) && zero_from 5 s) (ByProcessor k (TlbExtend (walk_at s 2))) refl)
    (chosen c (eqb kind 3) _ _ (if_step c (zero_from 4 s) (ByProcessor k (TlbAccessed (walk_at s 2))) refl)
    (chosen c (eqb kind 4) _ _ (if_step c (zero_from 2 s) (ByProcessor k StoreBuffer) refl)
    (chosen c (eqb kind 5) _ _ (if_step c (zero_from 2 s) (ByApic (SendIpi k)) refl)
    (chosen c (eqb kind 6) _ _ (if_step c (zero_from 2 s) (ByApic (SendEoi k)) refl)
    (chosen c (eqb kind 7) _ _ (if_step c (zero_from 2 s) (ByApic (InitCore k)) refl) (if_step c (zero_from 2 s) (ByApic (StartCore k)) refl))))))))

line_counts : (kind l : ℕ) (s : List ℕ) → Counts refusals (step_of_line kind l s)
line_counts kind l s =
    chosen refusals (eqb kind 9) _ _ (if_step refusals (zero_from 2 s) (ByApic (Sample l)) refl)
    (chosen refusals (eqb kind 10) _ _ (if_step refusals (zero_from 2 s) (ByApic (Deliver l)) refl) (if_step refusals (ltb (word s 2) 2 && zero_from 3 s) (ByApic (SetLine l (word s 2))) refl))

pub well_formed : (n : ℕ) (s : List ℕ) (x : Step) → step_of n s ≡ Some x → count_at n s ≡ count_of x
unfolding step_of count_at
well_formed n s = go (eqb (length s) 6) (ltb (word s 0) 9) (ltb (word s 1) n) (ltb (word s 0) 12) (ltb (word s 1) line_count)
  where
    go : (six core there line known : Bool)
        → Counts (if six && (core && there) then block_at (word s 1) + core_refusals else refusals)
        (if six then (if core then (if there then step_of_core (word s 0) (word s 1) s else None) else if line then (if known then step_of_line (word s 0) (word s 1) s else None) else None) else None)
    go false core there line known = no_step refusals
    go true true true line known = core_counts (word s 0) (word s 1) s
    go true true false line known = no_step refusals
    go true false there true true = line_counts (word s 0) (word s 1) s
    go true false there true false = no_step refusals
    go true false there false known = no_step refusals

-- ---- by cases

-- what holds of the header's word, and of the word of a core that is there
pub by_count : (P : ℕ → Type 0) (n : ℕ) (s : List ℕ) → P refusals → (word s 1 < n → P (block_at (word s 1) + core_refusals)) → P (count_at n s)
unfolding count_at
by_count P n s h c = go (names_core n s) refl
  where
    go : (b : Bool) → names_core n s ≡ b → P (if b then block_at (word s 1) + core_refusals else refusals)
    go true e = c (ltb-true (word s 1) n (and_right (ltb (word s 0) 9) _ (and_right (eqb (length s) 6) _ e)))
    go false e = h
