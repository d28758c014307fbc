-- What the parts of a plan leave of a block: its length, its stores and its walks.
-- Assumes nothing.
use Rattle.std.specs.Prelude.{if◌then◌else◌}
use mathlib.Core.Path.{◌≡◌, refl, ◌∙◌}
use mathlib.Core.Logic.{inl, inr}
use mathlib.Core.Bool.{Bool, true, false}
use mathlib.Core.List.{List}
use Prim.Native.Nat.{ℕ}
use lib.ListN.{length, set, length-set}
use lib.Dec.{ltb, eqb}
use native.Mathlib.Omega.{arith}
use borrow.Author.Tests.{ltb-true}
use Rattle.word.proofs.Truth.{or_other}
use Rattle.isa.specs.declared.registers.Registers.{Registers}
use Rattle.isa.specs.Core.{gpr_at, put_at, effect, gprw, cad, gprdin, delta_instr}
use Rattle.isa.specs.Interrupts.{delta_jisr, delta_rfe, continues, il}
use Rattle.decode.specs.declared.Instruction.{Instruction}
use Rattle.decode.specs.Fields.{rd, rt}
use Rattle.decode.specs.Mnemonics.{movg2s}
use Rattle.decode.specs.Table.{decoded}
use Rattle.records.specs.Records.{linked, stores, walks, among}
use Rattle.records.proofs.Frame.{Alike, same_stores, same_walks, same_linked}
use Rattle.records.proofs.Laws.{take_law, put_law, add_law, drop_law}
use Rattle.tables.specs.Views.{registers_of, with_registers}
use Rattle.tables.proofs.Bank.{registers_size, put_long, put_above}
use Rattle.apic.proofs.Kept.{Kept, Passive, kept_jisr, kept_rfe}
use Rattle.cores.specs.declared.CoreChange.{CoreChange}
use Rattle.cores.specs.declared.CoreChange.TheVariants.{Interrupt, Return, Execute}
use Rattle.cores.specs.declared.BufferChange.{BufferChange}
use Rattle.cores.specs.declared.BufferChange.TheVariants.{Put, Take}
use Rattle.cores.specs.declared.WalkChange.{WalkChange}
use Rattle.cores.specs.declared.WalkChange.TheVariants.{Add, Drop}
use Rattle.cores.specs.Commit.{core_after, buffer_after, walks_after}
use Rattle.cores.specs.inner.Ready.{buffer_ready, walks_ready}

-- ---- 32 registers of each kind

abbrev pub Full : Registers → Type 0
Full r = (length r.gpr ≡ 32) × (length r.spr ≡ 32)

if_length : (t : Bool) (l m : List ℕ) (n : ℕ) → length l ≡ n → length m ≡ n → length (if t then l else m) ≡ n
if_length true l m n p q = p
if_length false l m n p q = q

put_length : (l : List ℕ) (x v n : ℕ) → length l ≡ n → length (put_at l x v) ≡ n
put_length l x v n p = if_length (eqb x 0) l (set l x v) n p (length-set l x v ∙ p)

pub effect_full : (i : Instruction) (c : Registers) (w R : ℕ) → Full c → Full (effect i c w R)
effect_full i c w R f =
    (if_length (gprw i) _ c.gpr 32 (put_length c.gpr (cad i w) (gprdin i c w R) 32 f.0) f.0, if_length (movg2s i) _ c.spr 32 (length-set c.spr (rd w) (gpr_at c (rt w)) ∙ f.1) f.1)

pub jisr_full : (c : Registers) (w R ca k : ℕ) → Full c → Full (delta_jisr c w R ca k)
unfolding delta_jisr delta_instr
jisr_full c w R ca k f =
    (if_length (continues (il ca)) (delta_instr c w R).gpr c.gpr 32 (effect_full (decoded w) c w R f).0 f.0, simp (length-set) f.1)

pub rfe_full : (c : Registers) → Full c → Full (delta_rfe c)
unfolding delta_rfe
rfe_full c f = (f.0, simp (length-set) f.1)

-- ---- the parts

-- a block whose records are those of another
pub record Left (b c : List ℕ) : Type 0 where
  pub long : length c ≡ 256
  pub chains : linked c ≡ true
  pub same_sb : stores c ≡ stores b
  pub same_tlb : walks c ≡ walks b

by_alike : {b c : List ℕ} → linked b ≡ true → length c ≡ 256 → Alike b c → Left b c
by_alike e l A = record { long = l; chains = same_linked A ∙ e; same_sb = same_stores A; same_tlb = same_walks A }

next : {a b c : List ℕ} → Left a b → Left b c → Left a c
next L M = record { long = M.long; chains = M.chains; same_sb = M.same_sb ∙ L.same_sb; same_tlb = M.same_tlb ∙ L.same_tlb }

passive : {b c : List ℕ} → length b ≡ 256 → linked b ≡ true → Kept Passive b c → Left b c
passive l e K =
    by_alike e (K.long ∙ l)
    (record { heads = λ i p q. K.same i (inl (omega arith)); records = λ i p. K.same i (inr (omega arith)) })

module _ (b : List ℕ) (long : length b ≡ 256) (e : linked b ≡ true) where
  registers_left : (r : Registers) → Full r → Left b (with_registers b r)
  registers_left r f =
      by_alike e (put_long b r long f.0 f.1)
      (record { heads = λ i p q. put_above b r long f.0 f.1 i (omega arith); records = λ i p. put_above b r long f.0 f.1 i (omega arith) })

  pub core_left : (c : CoreChange) → Left b (core_after c b)
  unfolding core_after
  core_left CoreChange.Nothing = record { long = long; chains = e; same_sb = refl; same_tlb = refl }
  core_left (Interrupt x) =
      let L = registers_left _ (jisr_full (registers_of b) x.word x.read x.causes x.vector (registers_size b long)) in
      next L (passive L.long L.chains (kept_jisr _))
  core_left Return =
      let L = registers_left _ (rfe_full (registers_of b) (registers_size b long)) in
      next L (passive L.long L.chains (kept_rfe _))
  core_left (Execute i w R) = registers_left _ (effect_full i (registers_of b) w R (registers_size b long))

  pub buffer_after_lem : (c : BufferChange) → buffer_ready c b ≡ true → (length (buffer_after c b) ≡ 256) × (linked (buffer_after c b) ≡ true) × (walks (buffer_after c b) ≡ walks b)
  unfolding buffer_after buffer_ready
  buffer_after_lem BufferChange.Nothing r = (long, e, refl)
  buffer_after_lem (Put s) r = let A = put_law b long e s (ltb-true (length (stores b)) 8 r) in (A.long, A.chains, A.walks_view)
  buffer_after_lem Take r = let A = take_law b long e (ltb-true 0 (length (stores b)) r) in (A.long, A.chains, A.walks_view)

  pub walks_after_lem : (c : WalkChange) → walks_ready c b ≡ true → (length (walks_after c b) ≡ 256) × (linked (walks_after c b) ≡ true) × (stores (walks_after c b) ≡ stores b)
  unfolding walks_after walks_ready
  walks_after_lem WalkChange.Nothing r = (long, e, refl)
  walks_after_lem (Add w) r =
      let A = add_law b long e w (λ q. ltb-true (length (walks b)) 23 (or_other (among w (walks b)) (ltb (length (walks b)) 23) r q)) in (A.long, A.chains, A.stores_view)
  walks_after_lem (Drop f) r = let A = drop_law b long e f in (A.long, A.chains, A.stores_view)

-- what a change asks depends on the stores, or on the walks, alone
pub buffer_asks : (c : BufferChange) (a b : List ℕ) → stores a ≡ stores b → buffer_ready c a ≡ buffer_ready c b
unfolding buffer_ready
buffer_asks BufferChange.Nothing a b p = refl
buffer_asks (Put s) a b p = rw (p) refl
buffer_asks Take a b p = rw (p) refl

pub walks_ask : (c : WalkChange) (a b : List ℕ) → walks a ≡ walks b → walks_ready c a ≡ walks_ready c b
unfolding walks_ready
walks_ask WalkChange.Nothing a b p = refl
walks_ask (Add w) a b p = rw (p) refl
walks_ask (Drop f) a b p = refl
