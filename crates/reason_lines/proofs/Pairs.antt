-- Laws of the lines of reasons.
-- Assumes nothing.
use mathlib.Core.List.{List, ◌++◌, append_assoc}
use mathlib.Core.Path.{sym}
use Prim.Native.Nat.{ℕ}
use Rattle.text.specs.Text.{Put}
use Rattle.text.proofs.Texts.{follow, reworded}

-- a text, and then a word with a number after it
pub pair :
    {b : List ℕ} {at : ℕ} {x : List ℕ} {r : ℕ} {c : List ℕ} {q : ℕ} {d : List ℕ} (z w : List ℕ) → Put b at x r c → Put c r (z ++ w) q d
    → Put b at (x ++ z ++ w) q d
pair {b} {at} {x} z w p s = reworded (sym (append_assoc x z w)) (follow p s)
