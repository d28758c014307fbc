-- Laws of an argument as it is shown.
-- Assumes nothing.
use mathlib.Core.Path.{◌≡◌, sym, ap, ◌∙◌}
use mathlib.Core.List.{List, [], ◌∷◌, ◌++◌, map}
use Prim.Native.Nat.{ℕ, ◌+◌, ◌≤◌, ◌<◌}
use lib.ListN.{length, take, get_or}
use lib.Seq.{take_all}
use Rattle.std.proofs.lemmas.List.{map_more}
use Rattle.verdict_text.specs.Wrong.{shown}

pub shown_more : (s : List ℕ) (i : ℕ) {v : ℕ} → i < length s → v ≡ shown (get_or s i 0) → map shown (take i s) ++ (v ∷ []) ≡ map shown (take (i + 1) s)
shown_more s i h e = ap (λ (w : ℕ). map shown (take i s) ++ (w ∷ [])) e ∙ sym (map_more shown s i 0 h)

-- past the last byte all is shown
pub shown_all : (s : List ℕ) (i : ℕ) → length s ≤ i → map shown (take i s) ≡ map shown s
shown_all s i h = ap (map shown) (take_all i s h)
