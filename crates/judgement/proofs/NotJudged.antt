-- Laws of the cores that are not judged and of their line.
-- Assumes nothing.
use mathlib.Core.Path.{◌≡◌, refl, sym, ap, ap₂, ◌∙◌}
use mathlib.Core.Bool.{Bool, ◌&&◌, not}
use mathlib.Core.Logic.{◌≢◌}
use mathlib.Core.List.{List, [], ◌∷◌, ◌++◌}
use Prim.Native.Nat.{ℕ, ◌+◌}
use native.Mathlib.Omega.{arith}
use mir.Val.{bool_byte}
use lib.ListN.{length}
use Rattle.word.specs.Word.{is_set, with_bit}
use Rattle.layout.specs.Blocks.{block}
use Rattle.text.specs.Text.{ascii}
use Rattle.tables.specs.Views.{cores_of, runs}
use Rattle.reach.specs.Reach.{members}
use Rattle.separation.proofs.Members.{Bits, bits_put, bits_members}
use Rattle.picture.specs.Lines.{cores_text}
use Rattle.judgement.specs.Report.{is_stopped, not_judged, stopped_text}

-- the bit that the code puts
pub stopped_put :
    (g : ℕ) (t : List ℕ) (r s k : ℕ) (i u : Bool) → i ≡ is_set g k → u ≡ runs (block t k)
    → s ≡ with_bit r k (bool_byte (not i && not u)) → Bits (is_stopped g t) r k → Bits (is_stopped g t) s (k + 1)
stopped_put g t r s k i u p q e o =
    bits_put (is_stopped g t) r s k (not i && not u) (ap₂ (λ (a b : Bool). not a && not b) p q) e o

pub stopped_members : (g : ℕ) (t : List ℕ) (r : ℕ) → Bits (is_stopped g t) r (cores_of t) → members r (cores_of t) ≡ not_judged g t
unfolding not_judged
stopped_members g t r o = bits_members (is_stopped g t) r (cores_of t) o

no_cores : (k : List ℕ) → length k ≡ 0 → [] ≡ stopped_text k
unfolding stopped_text
no_cores [] q = refl
no_cores (x ∷ k) q = absurd (omega arith)

some_cores : (k : List ℕ) → length k ≢ 0 → ascii "not running, so not judged: " ++ cores_text k ++ ascii "\n" ≡ stopped_text k
unfolding stopped_text
some_cores [] q = absurd (q refl)
some_cores (x ∷ k) q = refl

-- the line of the cores k, where the code has them as l and counted n of them
module _ {l k : List ℕ} {n : ℕ} (e : l ≡ k) (c : n ≡ length l) where
  pub no_line : n ≡ 0 → [] ≡ stopped_text k
  no_line z = no_cores k (sym (c ∙ ap length e) ∙ z)

  pub a_line : n ≢ 0 → ascii "not running, so not judged: " ++ cores_text l ++ ascii "\n" ≡ stopped_text k
  a_line d =
      ap (λ (x : List ℕ). ascii "not running, so not judged: " ++ cores_text x ++ ascii "\n") e
      ∙ some_cores k (λ q. d (c ∙ ap length e ∙ q))
