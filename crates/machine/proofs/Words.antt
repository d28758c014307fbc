-- Every step leaves the words of the tables words and the bytes of memory bytes, whatever the tables, the memory and
-- the words of the step are.
-- Assumes nothing.
use Rattle.std.specs.Prelude.{if◌then◌else◌, Result, Ok, Err, IfOk}
use Rattle.refusals.specs.declared.Refusal.{Refusal}
use Rattle.refusals.specs.declared.Refusal.TheVariants.{Unsound}
use mathlib.Core.Path.{◌≡◌, refl}
use mathlib.Core.Bool.{Bool, true, false}
use mathlib.Core.List.{List}
use Prim.Native.Nat.{ℕ, ◌+◌, ◌-◌, ◌^◌}
use lib.ListN.{length, get_or, set}
use lib.Dec.{ltb}
use native.Mathlib.Omega.{arith}
use borrow.Author.Tests.{ltb-true}
use Rattle.word.specs.Word.{with_bit}
use Rattle.word.proofs.Bytes.{Bytes}
use Rattle.word.proofs.Words.{Words, set_below}
use Rattle.layout.specs.Layout as at
use Rattle.tables.specs.Views.{cores_of, lines_of}
use Rattle.tables.specs.Sound.{sound}
use Rattle.tables.proofs.Lift.{header}
use Rattle.apic.specs.Active.{init_core, start_core}
use Rattle.word.proofs.Bits.{put_below}
use Rattle.apic.proofs.Kept.{kept_init_core, kept_start_core}
use Rattle.ioapic.proofs.Blocks.{on_block_words}
use Rattle.ioapic.proofs.Header.{kept_sampled}
use Rattle.ioapic.proofs.Steps.{ipi_words, eoi_words, deliver_words}
use Rattle.steps.specs.Form.{count_at}
use Rattle.cores.proofs.Locals.{plan_words, written_bytes}
use Rattle.machine.specs.declared.action.Action.TheVariants.{SendIpi, SendEoi, InitCore, StartCore, Sample, Deliver, SetLine}
use Rattle.machine.specs.Actions.{Effect, Planned, Acts, tables_after, memory_after}
use Rattle.machine.specs.Decide.{decided}
use Rattle.machine.specs.Step.{one_more, counted, after, taken, step}
use Rattle.machine.proofs.Deciding.{Able, decided_able}
use Rattle.std.proofs.lemmas.Result.{IfOk-weaker}

-- ---- words

action_words : (t m : List ℕ) → sound t (length m) ≡ true → (a : Effect) → Able t m a → Words t → Words (tables_after a t)
unfolding tables_after
action_words t m e (Planned k p) A w = plan_words t m k p e A.0 A.1 w
action_words t m e (Acts (SendIpi k i)) A w = ipi_words (cores_of t) t (header t (length m) e).long k A.0 i A.1 w
action_words t m e (Acts (SendEoi k v)) A w = eoi_words (cores_of t) t (header t (length m) e).long k A.0 v A.1 w
action_words t m e (Acts (InitCore k)) A w = on_block_words init_core (λ b. (kept_init_core b).words) t k w
action_words t m e (Acts (StartCore k)) A w = on_block_words start_core (λ b. (kept_start_core b).words) t k w
action_words t m e (Acts (Sample l)) A w = (kept_sampled t l A).words w
action_words t m e (Acts (Deliver l)) A w = deliver_words (cores_of t) t (header t (length m) e).long l A w
action_words t m e (Acts (SetLine l v)) A w = set_below t at.lines (with_bit (lines_of t) l v) w (put_below 32 (lines_of t) l v (w at.lines) (omega arith) A.1)

more_words : (i : ℕ) (t : List ℕ) → Words t → Words (one_more i t)
unfolding one_more
more_words i t w = go (ltb (get_or t i 0) (2 ^ 32 - 1)) refl
  where
    go : (b : Bool) → ltb (get_or t i 0) (2 ^ 32 - 1) ≡ b → Words (if b then set t i (get_or t i 0 + 1) else t)
    go true q = set_below t i (get_or t i 0 + 1) w (omega (arith, ltb-true (get_or t i 0) (2 ^ 32 - 1) q))
    go false q = w

after_words : (s : List ℕ) (d : Result Effect Refusal) (t m : List ℕ) → Words t → IfOk d (λ x. Words (tables_after x t)) → Words (after s d t m).tables
unfolding after counted
after_words s (Ok x) t m w v = v
after_words s (Err r) t m w v = more_words (count_at (cores_of t) s) t w

pub step_words : (t m s : List ℕ) → Words t → Bytes m → Words (step t m s).tables
unfolding step taken
step_words t m s w b = go (sound t (length m)) refl
  where
    go : (x : Bool) → sound t (length m) ≡ x → Words (if x then taken t m s else record { answer = Err Unsound; tables = t; memory = m }).tables
    go true e = after_words s (decided t m s) t m w (IfOk-weaker (decided t m s) (Able t m) (λ x. Words (tables_after x t)) (λ x A. action_words t m e x A w) (decided_able t m e w b s))
    go false e = w

-- ---- bytes

action_bytes : (a : Effect) (m : List ℕ) → Bytes m → Bytes (memory_after a m)
unfolding memory_after
action_bytes (Planned k p) m b = written_bytes p.write m b
action_bytes (Acts a) m b = b

after_bytes : (s : List ℕ) (d : Result Effect Refusal) (t m : List ℕ) → Bytes m → Bytes (after s d t m).memory
unfolding after
after_bytes s (Ok x) t m b = action_bytes x m b
after_bytes s (Err r) t m b = b

pub step_bytes : (t m s : List ℕ) → Bytes m → Bytes (step t m s).memory
unfolding step taken
step_bytes t m s b = go (sound t (length m))
  where
    go : (x : Bool) → Bytes (if x then taken t m s else record { answer = Err Unsound; tables = t; memory = m }).memory
    go true = after_bytes s (decided t m s) t m b
    go false = b
