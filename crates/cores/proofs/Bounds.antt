-- A plan that brings words into a block of words leaves words there, and in the header.
-- Assumes nothing.
use mathlib.Core.Path.{◌≡◌}
use mathlib.Core.Bool.{true}
use mathlib.Core.List.{List}
use Prim.Native.Nat.{ℕ, ◌^◌, ◌<◌, ◌≤◌}
use native.Mathlib.Omega.{arith}
use borrow.Author.Tests.{ltb-true}
use Rattle.word.proofs.Words.{Words}
use Rattle.word.proofs.Truth.{and_left, and_right}
use Rattle.isa.proofs.Words.{effect_words, jisr_words, rfe_words}
use Rattle.records.proofs.Bounds.{put_words, take_words, add_words, drop_words, store_words}
use Rattle.records.proofs.Facts.{walk_facts}
use Rattle.tables.specs.Views.{registers_of}
use Rattle.tables.proofs.Words.{block_registers, with_words}
use Rattle.apic.proofs.Kept.{kept_jisr, kept_rfe, kept_written}
use Rattle.ioapic.proofs.Header as ioapic
use Rattle.cores.specs.declared.CoreChange.{CoreChange}
use Rattle.cores.specs.declared.CoreChange.TheVariants.{Interrupt, Return, Execute}
use Rattle.cores.specs.declared.BufferChange.{BufferChange}
use Rattle.cores.specs.declared.BufferChange.TheVariants.{Put, Take}
use Rattle.cores.specs.declared.WalkChange.{WalkChange}
use Rattle.cores.specs.declared.WalkChange.TheVariants.{Add, Drop}
use Rattle.cores.specs.declared.Write.{Write}
use Rattle.cores.specs.declared.Write.TheVariants.{Memory, LocalPort, IoPort}
use Rattle.cores.specs.declared.Plan.{Plan}
use Rattle.cores.specs.Commit.{core_after, buffer_after, walks_after, port_after, block_after, header_after}
use Rattle.cores.specs.inner.Ready.{port_ready}
use Rattle.cores.proofs.Sounds.{store_brought, walk_brought, plan_sound}

-- ---- what a plan brings

-- the causes and the event of an interrupt
abbrev pub CoreWords : CoreChange → Type 0
CoreWords CoreChange.Nothing = Unit {0}
CoreWords (Interrupt x) = (x.causes < 2 ^ 32) × (x.vector < 2 ^ 32)
CoreWords Return = Unit {0}
CoreWords (Execute i w R) = Unit {0}

-- the first word of a walk that is added; that it is sound bounds the second
abbrev pub AddWords : WalkChange → Type 0
AddWords WalkChange.Nothing = Unit {0}
AddWords (Add w) = w.first < 2 ^ 32
AddWords (Drop f) = Unit {0}

-- the value for a port
abbrev pub PortWords : Write → Type 0
PortWords Write.Nothing = Unit {0}
PortWords (Memory a d v) = Unit {0}
PortWords (LocalPort a v) = v < 2 ^ 32
PortWords (IoPort a v) = v < 2 ^ 32

pub record PlanWords (p : Plan) : Type 0 where
  pub in_core : CoreWords p.core
  pub in_walks : AddWords p.walks
  pub in_port : PortWords p.write

-- ---- what it leaves

core_words_lem : (c : CoreChange) (b : List ℕ) → CoreWords c → Words b → Words (core_after c b)
unfolding core_after
core_words_lem CoreChange.Nothing b h w = w
core_words_lem (Interrupt x) b h w = (kept_jisr _).words (with_words b _ w (jisr_words (registers_of b) x.word x.read x.causes x.vector h.0 h.1 (block_registers b w)))
core_words_lem Return b h w = (kept_rfe _).words (with_words b _ w (rfe_words (registers_of b) (block_registers b w)))
core_words_lem (Execute i x R) b h w = with_words b _ w (effect_words i (registers_of b) x (block_registers b w) R)

buffer_words : (n : ℕ) (c : BufferChange) (b : List ℕ) → n ≤ 2 ^ 32 → store_brought n c ≡ true → Words b → Words (buffer_after c b)
unfolding buffer_after
buffer_words n BufferChange.Nothing b l e w = w
buffer_words n (Put s) b l e w = put_words b w s (store_words n s e l)
buffer_words n Take b l e w = take_words b w

walks_words : (c : WalkChange) (b : List ℕ) → walk_brought c ≡ true → AddWords c → Words b → Words (walks_after c b)
unfolding walks_after
walks_words WalkChange.Nothing b e h w = w
walks_words (Add v) b e h w = add_words b w v (h, omega (arith, (walk_facts v e).base))
walks_words (Drop f) b e h w = drop_words b w f

port_words : (x : Write) (b : List ℕ) → port_ready x ≡ true → PortWords x → Words b → Words (port_after x b)
unfolding port_after port_ready
port_words Write.Nothing b r h w = w
port_words (Memory a d v) b r h w = w
port_words (LocalPort a v) b r h w = (kept_written b a v (ltb-true a 128 r) h).words w
port_words (IoPort a v) b r h w = w

pub header_words : (x : Write) (t : List ℕ) → PortWords x → Words t → Words (header_after x t)
unfolding header_after
header_words Write.Nothing t h w = w
header_words (Memory a d v) t h w = w
header_words (LocalPort a v) t h w = w
header_words (IoPort a v) t h w = (ioapic.kept_written t a v h).words w

-- the whole block, beside a memory of n bytes
pub after_words : (n : ℕ) (p : Plan) (b : List ℕ) → n ≤ 2 ^ 32 → plan_sound n p ≡ true → port_ready p.write ≡ true → PlanWords p → Words b → Words (block_after p b)
unfolding block_after plan_sound
after_words n p b l e r P w =
    let b₁ : List ℕ = core_after p.core b in
    let b₂ : List ℕ = buffer_after p.buffer b₁ in
    let w₂ : Words b₂ = buffer_words n p.buffer b₁ l (and_left (store_brought n p.buffer) _ e) (core_words_lem p.core b P.in_core w) in
    port_words p.write (walks_after p.walks b₂) r P.in_port (walks_words p.walks b₂ (and_right (store_brought n p.buffer) _ e) P.in_walks w₂)
