-- The store buffer (the report, section 7: definitions 56 to 61), on the list of a core's pending stores, oldest first.
-- Places count from the oldest, so that the newest has the highest, as in the report.
-- Assumes nothing.
use Rattle.std.specs.Prelude.{if◌then◌else◌, ℕ, zero, suc, ◌+◌, ◌-◌, Bool, true, false, ◌||◌, not, List, [], ◌∷◌, get_or, eqb, ltb, Option, Some, None}
use Rattle.word.specs.Word.{plus, minus}
use Rattle.word.specs.Bytes.{byte}
use Rattle.records.specs.declared.Store.{Store}
use Rattle.records.specs.Records.{no_store}

-- definition 57: the store writes the byte at x
unfoldable pub sbehit : Store → ℕ → Bool
sbehit s x = ltb (minus 32 x s.address) s.width

-- definition 58
unfoldable pub sbhit : List Store → ℕ → Bool
sbhit [] x = false
sbhit (s ∷ sb) x = sbehit s x || sbhit sb x

-- definition 59: the place of the newest store that writes the byte at x; None, the report's ⊥, if there is none.
-- The stores before place i are passed, and h is the newest hit among them.
unfoldable pub newest_from : ℕ → Option ℕ → List Store → ℕ → Option ℕ
newest_from i h [] x = h
newest_from i h (s ∷ sb) x = newest_from (i + 1) (if sbehit s x then Some i else h) sb x

abbrev pub maxsbhit : List Store → ℕ → Option ℕ
maxsbhit sb x = newest_from 0 None sb x

-- definition 60: the byte that the newest hit forwards; undefined, here nowhere, if there is none. No aligned store
-- runs past the last address.
abbrev pub forwarded_by : List Store → ℕ → Option ℕ → Option ℕ
forwarded_by sb x (Some j) = Some (byte (x - (get_or sb j no_store).address) (get_or sb j no_store).value)
forwarded_by sb x None = None

unfoldable pub sbv : List Store → ℕ → Option ℕ
sbv sb x = forwarded_by sb x (maxsbhit sb x)

-- two hits are the same; no store is different from any store
abbrev pub same_hit : Option ℕ → Option ℕ → Bool
same_hit (Some i) (Some j) = eqb i j
same_hit (Some i) None = false
same_hit None (Some j) = false
same_hit None None = true

-- a test holds of a number below k
unfoldable pub some : ℕ → (ℕ → Bool) → Bool
some zero p = false
some (suc k) p = p k || some k p

-- definition 61: two of the d bytes at a have different newest hits
unfoldable pub sbhazard : List Store → ℕ → ℕ → Bool
sbhazard sb a d = some d (λ j. some j (λ i. not (same_hit (maxsbhit sb (plus 32 a i)) (maxsbhit sb (plus 32 a j)))))
