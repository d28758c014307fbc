-- `machine::decide::plan` meets its contract.
-- Assumes nothing.
use mathlib.Core.Path.{◌≡◌, refl, ap, subst, ◌∙◌}
use mathlib.Core.Bool.{true}
use Prim.Native.Nat.{ℕ, ◌+◌, ◌*◌, ◌^◌, ◌<◌, ◌≤◌}
use mathlib.Core.List.{List}
use lib.ListN.{length}
use lib.Dec.{ltb}
use borrow.Author.Tests.{ltb-true}
use Rattle.word.proofs.Truth.{and_left, and_right}
use Rattle.layout.specs.Blocks.{block}
use Rattle.records.specs.Records.{linked}
use Rattle.tables.specs.Views.{cores_of}
use Rattle.steps.specs.declared.Step.TheVariants.{ByProcessor}
use Rattle.steps.specs.declared.ProcessorStep.{ProcessorStep}
use Rattle.steps.specs.declared.ProcessorStep.TheVariants.{TlbCreate}
use Rattle.machine.specs.Decide.{by_processor}
use Rattle.machine.specs.inner.Formed.{formed}
use Rattle.machine.proofs.Fitting.{has, records_sound, chains, quarters}
use Rattle.machine.proofs.decide.plan.Goals as goal
use Rattle.machine.proofs.decide.plan.Goals.{Start}

-- what the step of an arm has: a core that is there, its block and its chains
formed_at : (s : Start) {x : ProcessorStep} → s.args.p ≡ x → formed (cores_of s.args.t.now) (ByProcessor s.args.k x) ≡ true
formed_at s q = subst (λ (x : ProcessorStep). formed (cores_of s.args.t.now) (ByProcessor s.args.k x) ≡ true) q s.requires.p_value

create_formed : (s : Start) {va : ℕ} → s.args.p ≡ TlbCreate va → (ltb s.args.k (cores_of s.args.t.now) ≡ true) × (va < 2 ^ 20)
create_formed s {va} q =
    let f = formed_at s q in
    (and_left (ltb s.args.k (cores_of s.args.t.now)) _ f, ltb-true va (2 ^ 20) (and_right (ltb s.args.k (cores_of s.args.t.now)) _ f))

block_in : (s : Start) (k : ℕ) → ltb k (cores_of s.args.t.now) ≡ true → 32 + 256 * k + 256 ≤ length s.args.t.now
block_in s k h = has s.args.t.now (length s.args.m.now) s.requires.m_value k h

chains_in : (s : Start) (k : ℕ) {b : List ℕ} → ltb k (cores_of s.args.t.now) ≡ true → b ≡ block s.args.t.now k → linked b ≡ true
chains_in s k h q = ap linked q ∙ chains s.args.t.now (length s.args.m.now) s.requires.m_value k h

pub core-requires : goal.core-requires
core-requires c =
    let s = (goal.at.core-requires c).Start in
    let f = formed_at s c.in-Core.is in
    let n = length c.args.m.now in
    record {
      k_in_bounds = block_in s _ f;
      k_value = records_sound c.args.t.now n c.requires.m_value _ f;
      m_len = quarters c.args.t.now n c.requires.m_value;
    }

pub block-requires : goal.block-requires
block-requires c =
    let s = (goal.at.block-requires c).Start in
    block_in s _ (create_formed s c.in-TlbCreate.is).0

pub create-requires : goal.create-requires
create-requires c =
    let s = (goal.at.create-requires c).Start in
    let f = create_formed s c.in-TlbCreate.is in
    record { b_len = c.block.ensures.1; b_value = chains_in s _ f.0 c.block.ensures.0; va_bound = f.1 }

pub block-requires-in-TlbExtend : goal.block-requires-in-TlbExtend
block-requires-in-TlbExtend c =
    let s = (goal.at.block-requires-in-TlbExtend c).Start in
    block_in s _ (formed_at s c.in-TlbExtend.is)

pub extend-requires : goal.extend-requires
extend-requires c =
    let s = (goal.at.extend-requires c).Start in
    let b = c.block-in-TlbExtend.ensures in
    record { b_len = b.1; b_value = chains_in s _ (formed_at s c.in-TlbExtend.is) b.0 }

pub block-requires-in-TlbAccessed : goal.block-requires-in-TlbAccessed
block-requires-in-TlbAccessed c =
    let s = (goal.at.block-requires-in-TlbAccessed c).Start in
    block_in s _ (formed_at s c.in-TlbAccessed.is)

pub accessed-requires : goal.accessed-requires
accessed-requires c =
    let s = (goal.at.accessed-requires c).Start in
    let b = c.block-in-TlbAccessed.ensures in
    record { b_len = b.1; b_value = chains_in s _ (formed_at s c.in-TlbAccessed.is) b.0 }

pub block-requires-in-StoreBuffer : goal.block-requires-in-StoreBuffer
block-requires-in-StoreBuffer c =
    let s = (goal.at.block-requires-in-StoreBuffer c).Start in
    block_in s _ (formed_at s c.in-StoreBuffer.is)

pub drain-requires : goal.drain-requires
drain-requires c =
    let s = (goal.at.drain-requires c).Start in
    let b = c.block-in-StoreBuffer.ensures in
    record { b_len = b.1; b_value = chains_in s _ (formed_at s c.in-StoreBuffer.is) b.0 }

pub returns-in-Core : goal.returns-in-Core
unfolding by_processor
returns-in-Core c = rw (c.in-Core.is, c.core.ensures) refl

pub returns-in-TlbCreate : goal.returns-in-TlbCreate
unfolding by_processor
returns-in-TlbCreate c = rw (c.in-TlbCreate.is, c.create.ensures, c.block.ensures.0) refl

pub returns-in-TlbExtend : goal.returns-in-TlbExtend
unfolding by_processor
returns-in-TlbExtend c = rw (c.in-TlbExtend.is, c.extend.ensures, c.block-in-TlbExtend.ensures.0) refl

pub returns-in-TlbAccessed : goal.returns-in-TlbAccessed
unfolding by_processor
returns-in-TlbAccessed c = rw (c.in-TlbAccessed.is, c.accessed.ensures, c.block-in-TlbAccessed.ensures.0) refl

pub returns-in-StoreBuffer : goal.returns-in-StoreBuffer
unfolding by_processor
returns-in-StoreBuffer c = rw (c.in-StoreBuffer.is, c.drain.ensures, c.block-in-StoreBuffer.ensures.0) refl
