-- Whose refusals: the count of a refused step lies in the block of the core that the step names, or in the header.
-- Assumes nothing.
use Rattle.std.specs.Prelude.{Err}
use Rattle.refusals.specs.declared.Refusal.{Refusal}
use mathlib.Core.Path.{◌≡◌, sym, ap, ◌∙◌}
use mathlib.Core.Logic.{◌≢◌}
use mathlib.Core.Bool.{true, false}
use mathlib.Core.List.{List}
use Prim.Native.Nat.{ℕ, ◌+◌, ◌<◌, ◌≤◌}
use native.Mathlib.Omega.{arith}
use Rattle.word.specs.Word.{is_set}
use Rattle.word.proofs.Tests.{true_false}
use Rattle.layout.specs.Layout as at
use Rattle.layout.specs.Blocks.{block}
use Rattle.tables.specs.Views.{cores_of, core_refusals_of}
use Rattle.tables.proofs.Places.{run_same}
use Rattle.steps.specs.Form.{word, count_at}
use Rattle.steps.proofs.Whose.{by_count}
use Rattle.machine.specs.Step as operation
use Rattle.machine.proofs.Keeping.{refused_count}
use Rattle.reach.specs.Lists.{has}
use Rattle.reach.proofs.Lists.{same_map}
use Rattle.separation.specs.Separation.{Machine, Observation, seen, is_own, Refusals}

included : (cs ps : List ℕ) (M N : Machine) → seen cs ps M ≡ seen cs ps N
    → (k : ℕ) → has k cs ≡ true → core_refusals_of (block M.tables k) ≡ core_refusals_of (block N.tables k)
included cs ps M N e k h = ap core_refusals_of (same_map (block M.tables) (block N.tables) cs (ap (λ (x : Observation). x.blocks) e) k h)

-- the core that counts it is the one that the step names
counts : (n k : ℕ) (s : List ℕ) → count_at n s ≡ at.block_at k + at.core_refusals → word s 1 ≡ k
counts n k s = by_count (λ (i : ℕ). i ≡ at.block_at k + at.core_refusals → word s 1 ≡ k) n s (λ e. absurd (omega arith)) (λ h e. omega arith)

-- so no word of another core's block counts it
elsewhere : (n k i : ℕ) (s : List ℕ) → word s 1 ≢ k → at.block_at k ≤ i → i < at.block_at k + at.block_words → i ≢ count_at n s
elsewhere n k i s d p q = by_count (λ (j : ℕ). i ≢ j) n s (omega arith) (λ h. omega (arith, d))

unseen : (g : ℕ) (t m s : List ℕ) (r : Refusal) → (operation.step t m s).answer ≡ Err r → is_own g s ≡ false
    → (k : ℕ) → is_set g k ≡ true → block (operation.step t m s).tables k ≡ block t k
unfolding block
unseen g t m s r e o k h =
    let R = (refused_count t m s r e).1 in
    let d : word s 1 ≢ k = λ q. true_false (sym h ∙ ap (is_set g) (sym q) ∙ o) in
    run_same t (operation.step t m s).tables (at.block_at k) at.block_words R.long (λ i p q. R.same i (elsewhere (cores_of t) k i s d p q))

pub refusals : Refusals
refusals = record { included = included; agrees = λ g n k s e. ap (is_set g) (counts n k s e); unseen = unseen }
