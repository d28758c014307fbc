-- The guards of a core's step in the report (11.3), by what was fetched: when all hold, and when one fails.
-- Assumes nothing.
use Rattle.std.specs.Prelude.{if◌then◌else◌}
use mathlib.Core.Path.{◌≡◌, refl, sym, ◌∙◌, ap}
use mathlib.Core.Bool.{Bool, true, false, not, ◌&&◌, ◌||◌}
use Prim.Native.Nat.{ℕ}
use lib.Dec.{eqb}
use lib.ListN.{length}
use Rattle.word.proofs.Tests.{true_false, and_false}
use Rattle.word.proofs.Truth.{and_both, and_none}
use Rattle.decode.specs.declared.Instruction.{Instruction}
use Rattle.decode.specs.Table.{decoded}
use Rattle.decode.specs.Mnemonics.{load, store, cas, mfence}
use Rattle.isa.specs.Core.{ea, d}
use Rattle.records.specs.declared.Walk.{Walk}
use Rattle.tlb.specs.declared.Request.{Request}
use Rattle.tlb.specs.Walks.{complete, hit, load_r, store_r}
use Rattle.store_buffer.specs.Buffer.{sbhazard}
use Rattle.store_buffer.specs.System.{is_port}
use Rattle.report.specs.Configuration.{Configuration}
use Rattle.report.specs.Delta.{◌⇒◌, cᵢ, tlbᵢ, sbᵢ, userᵢ, asidᵢ, uses_i, trq_i, pff, pma_i, I, fetched, pfls, pma_ea, core_guards}

-- ---- implications and conjunctions

pub holds_unasked : (a b : Bool) → a ≡ false → (a ⇒ b) ≡ true
holds_unasked false b e = refl
holds_unasked true b e = absurd (true_false e)

pub fails_so : (a b : Bool) → a ≡ true → b ≡ false → (a ⇒ b) ≡ false
fails_so false b e f = absurd (true_false (sym e))
fails_so true b e f = f

pub off : (a b : Bool) → a ≡ false → (a && b) ≡ false
off false b e = refl
off true b e = absurd (true_false e)

-- ---- the guards at a word w, where there is one if f

module _ (c : Configuration) (i : ℕ) (w_i w_r : Walk) (f : Bool) (w : ℕ) where
  abbrev pub x : Instruction
  x = decoded w

  abbrev pub accesses : Bool
  accesses = f && store x || f && load x || f && cas x

  abbrev pub trq : Request
  trq = record { asid = asidᵢ c i; va = ea x (cᵢ c i) w; r = if f && store x || f && cas x then store_r else load_r }

  abbrev pub G₁ : Bool
  G₁ = uses_i c i w_i w_r ⇒ tlbᵢ c i w_i && hit (trq_i c i w_i w_r) w_i

  abbrev pub G₂ : Bool
  G₂ = userᵢ c i && accesses ⇒ tlbᵢ c i w_r && hit trq w_r

  abbrev pub G₃ : Bool
  G₃ = uses_i c i w_i w_r && not (pff c i w_i w_r) ⇒ complete w_i

  abbrev pub G₄ : Bool
  G₄ = userᵢ c i && accesses && not (pfls c i w_i w_r) ⇒ complete w_r

  abbrev pub G₅ : Bool
  G₅ = f && cas x || f && mfence x ⇒ eqb (length (sbᵢ c i)) 0

  abbrev pub G₆ : Bool
  G₆ = f && load x && not (pfls c i w_i w_r) ⇒ not (sbhazard (sbᵢ c i) (pma_ea c i w_i w_r) (d x))

  abbrev pub G₇ : Bool
  G₇ = f ⇒ not (is_port (pma_i c i w_i w_r))

  abbrev pub G₈ : Bool
  G₈ = (f && cas x || not (eqb (d x) 4) && (f && load x || f && store x)) && not (pfls c i w_i w_r) ⇒ not (is_port (pma_ea c i w_i w_r))

  abbrev pub G₉ : Bool
  G₉ = c.running i

  abbrev pub guards_at : Bool
  guards_at = G₁ && G₂ && G₃ && G₄ && G₅ && G₆ && G₇ && G₈ && G₉

  pub all_hold : G₁ ≡ true → G₂ ≡ true → G₃ ≡ true → G₄ ≡ true → G₅ ≡ true → G₆ ≡ true → G₇ ≡ true → G₈ ≡ true → G₉ ≡ true → guards_at ≡ true
  all_hold e₁ e₂ e₃ e₄ e₅ e₆ e₇ e₈ e₉ =
      and_both (G₁ && G₂ && G₃ && G₄ && G₅ && G₆ && G₇ && G₈) G₉
      (and_both (G₁ && G₂ && G₃ && G₄ && G₅ && G₆ && G₇) G₈
      (and_both (G₁ && G₂ && G₃ && G₄ && G₅ && G₆) G₇
      (and_both (G₁ && G₂ && G₃ && G₄ && G₅) G₆
      (and_both (G₁ && G₂ && G₃ && G₄) G₅
      (and_both (G₁ && G₂ && G₃) G₄
      (and_both (G₁ && G₂) G₃
      (and_both G₁ G₂ e₁ e₂) e₃) e₄) e₅) e₆) e₇) e₈) e₉

  -- one that fails
  past₉ : (G₁ && G₂ && G₃ && G₄ && G₅ && G₆ && G₇ && G₈) ≡ false → guards_at ≡ false
  past₉ = off (G₁ && G₂ && G₃ && G₄ && G₅ && G₆ && G₇ && G₈) G₉

  past₈ : (G₁ && G₂ && G₃ && G₄ && G₅ && G₆ && G₇) ≡ false → guards_at ≡ false
  past₈ e = past₉ (off (G₁ && G₂ && G₃ && G₄ && G₅ && G₆ && G₇) G₈ e)

  past₇ : (G₁ && G₂ && G₃ && G₄ && G₅ && G₆) ≡ false → guards_at ≡ false
  past₇ e = past₈ (off (G₁ && G₂ && G₃ && G₄ && G₅ && G₆) G₇ e)

  past₆ : (G₁ && G₂ && G₃ && G₄ && G₅) ≡ false → guards_at ≡ false
  past₆ e = past₇ (off (G₁ && G₂ && G₃ && G₄ && G₅) G₆ e)

  past₅ : (G₁ && G₂ && G₃ && G₄) ≡ false → guards_at ≡ false
  past₅ e = past₆ (off (G₁ && G₂ && G₃ && G₄) G₅ e)

  past₄ : (G₁ && G₂ && G₃) ≡ false → guards_at ≡ false
  past₄ e = past₅ (off (G₁ && G₂ && G₃) G₄ e)

  past₃ : (G₁ && G₂) ≡ false → guards_at ≡ false
  past₃ e = past₄ (off (G₁ && G₂) G₃ e)

  pub fails₁ : G₁ ≡ false → guards_at ≡ false
  fails₁ e = past₃ (off G₁ G₂ e)

  pub fails₂ : G₂ ≡ false → guards_at ≡ false
  fails₂ e = past₃ (and_none G₁ G₂ e)

  pub fails₃ : G₃ ≡ false → guards_at ≡ false
  fails₃ e = past₄ (and_none (G₁ && G₂) G₃ e)

  pub fails₄ : G₄ ≡ false → guards_at ≡ false
  fails₄ e = past₅ (and_none (G₁ && G₂ && G₃) G₄ e)

  pub fails₅ : G₅ ≡ false → guards_at ≡ false
  fails₅ e = past₆ (and_none (G₁ && G₂ && G₃ && G₄) G₅ e)

  pub fails₆ : G₆ ≡ false → guards_at ≡ false
  fails₆ e = past₇ (and_none (G₁ && G₂ && G₃ && G₄ && G₅) G₆ e)

  pub fails₇ : G₇ ≡ false → guards_at ≡ false
  fails₇ e = past₈ (and_none (G₁ && G₂ && G₃ && G₄ && G₅ && G₆) G₇ e)

  pub fails₈ : G₈ ≡ false → guards_at ≡ false
  fails₈ e = past₉ (and_none (G₁ && G₂ && G₃ && G₄ && G₅ && G₆ && G₇) G₈ e)

  pub fails₉ : G₉ ≡ false → guards_at ≡ false
  fails₉ e = and_none (G₁ && G₂ && G₃ && G₄ && G₅ && G₆ && G₇ && G₈) G₉ e

-- the report's guards are those at what is fetched
module _ (c : Configuration) (i : ℕ) (w_i w_r : Walk) where
  pub guards_at_lem : (w : ℕ) → fetched c i w_i w_r ≡ true → I c i w_i w_r ≡ w → core_guards c i w_i w_r ≡ guards_at c i w_i w_r true w
  unfolding core_guards
  guards_at_lem w e g = ap (λ (t : Bool). guards_at c i w_i w_r t (I c i w_i w_r)) e ∙ ap (λ (n : ℕ). guards_at c i w_i w_r true n) g

  pub guards_are : core_guards c i w_i w_r ≡ guards_at c i w_i w_r (fetched c i w_i w_r) (I c i w_i w_r)
  unfolding core_guards
  guards_are = refl

  pub guards_without : fetched c i w_i w_r ≡ false → core_guards c i w_i w_r ≡ guards_at c i w_i w_r false (I c i w_i w_r)
  unfolding core_guards
  guards_without e = ap (λ (t : Bool). guards_at c i w_i w_r t (I c i w_i w_r)) e

  -- without an instruction
  pub hold_without : fetched c i w_i w_r ≡ false → (uses_i c i w_i w_r && not (pff c i w_i w_r)) ≡ false →
      (uses_i c i w_i w_r ⇒ tlbᵢ c i w_i && hit (trq_i c i w_i w_r) w_i) ≡ true → c.running i ≡ true → core_guards c i w_i w_r ≡ true
  hold_without e n g r =
      guards_without e
      ∙ all_hold c i w_i w_r false (I c i w_i w_r) g (holds_unasked (userᵢ c i && false) _ (and_false (userᵢ c i))) (holds_unasked (uses_i c i w_i w_r && not (pff c i w_i w_r)) _ n)
      (holds_unasked (userᵢ c i && false && not (pfls c i w_i w_r)) _ (off (userᵢ c i && false) _ (and_false (userᵢ c i)))) refl refl refl
      (holds_unasked ((false || not (eqb (d (decoded (I c i w_i w_r))) 4) && false) && not (pfls c i w_i w_r)) _ (off (not (eqb (d (decoded (I c i w_i w_r))) 4) && false) _ (and_false (not (eqb (d (decoded (I c i w_i w_r))) 4))))) r
