-- A plan that is done on a sound block leaves a sound block, and what the block shows then.
-- Assumes nothing.
use Rattle.std.specs.Prelude.{if◌then◌else◌}
use mathlib.Core.Path.{◌≡◌, refl, ◌∙◌, ap}
use mathlib.Core.Logic.{◌⊎◌, inl, inr, ⊎_elim}
use mathlib.Core.Bool.{Bool, true, false, ◌&&◌}
use mathlib.Core.List.{List, [], ◌∷◌, ◌++◌}
use Prim.Native.Nat.{ℕ, ◌<◌, ◌≤◌}
use lib.ListN.{length, get_or, set, drop, length-set}
use lib.Seq.{get_or-set_other}
use lib.Dec.{eqb}
use native.Mathlib.Omega.{arith}
use borrow.Author.Tests.{ltb-true}
use Rattle.word.proofs.Truth.{and_left, and_right, or_other}
use Rattle.layout.specs.Layout as at
use Rattle.decode.specs.declared.Instruction.{Instruction}
use Rattle.isa.specs.declared.registers.Registers.{Registers}
use Rattle.isa.specs.Core.{gpr_at, effect, gprw, cad, gprdin, put_at}
use Rattle.isa.specs.Interrupts.{delta_jisr, delta_rfe}
use Rattle.isa.proofs.Laws.{put_zero, jisr_zero, rfe_zero}
use Rattle.records.specs.declared.Store.{Store}
use Rattle.records.specs.declared.Walk.{Walk}
use Rattle.records.specs.Records.{stores, walks, among, goes}
use Rattle.records.specs.inner.Walks.{staying, with_walk}
use Rattle.records.specs.Contents.{store_sound, walk_sound}
use Rattle.records.proofs.Frame.{Alike, same_stores, same_walks, same_sound}
use Rattle.records.proofs.Laws.{After}
use Rattle.tables.specs.Views.{registers_of, with_registers}
use Rattle.tables.specs.Sound.{sound_block}
use Rattle.tables.proofs.Parts.{words_of, records_of, of_parts}
use Rattle.tables.proofs.Places.{words_facts, facts_words, registers_same, any_allowed, set_sound, set_stores, set_walks, set_registers}
use Rattle.tables.proofs.Bank.{registers_size, registers_zero, put_long, put_above, put_registers_view, put_stores, put_walks, put_sound}
use Rattle.tables.proofs.Steps.{after_registers, take_after, take_block, put_after, put_block, add_after, add_block, drop_after, drop_block}
use Rattle.apic.specs.LocalApic as apic
use Rattle.vector_register.specs.Vectors.{lowest, marked}
use Rattle.apic.proofs.Kept.{Kept, Passive, kept_marked, kept_jisr, kept_rfe}
use Rattle.cores.specs.declared.CoreChange.{CoreChange}
use Rattle.cores.specs.declared.CoreChange.TheVariants.{Interrupt, Return, Execute}
use Rattle.cores.specs.declared.BufferChange.{BufferChange}
use Rattle.cores.specs.declared.BufferChange.TheVariants.{Put, Take}
use Rattle.cores.specs.declared.WalkChange.{WalkChange}
use Rattle.cores.specs.declared.WalkChange.TheVariants.{Add, Drop}
use Rattle.cores.specs.declared.Write.{Write}
use Rattle.cores.specs.declared.Write.TheVariants.{Memory, LocalPort, IoPort}
use Rattle.cores.specs.declared.Plan.{Plan}
use Rattle.cores.specs.Commit.{core_after, buffer_after, walks_after, port_after, block_after}
use Rattle.cores.specs.inner.Ready.{buffer_ready, walks_ready, port_ready, ready}
use Rattle.cores.proofs.Changes.{Full, effect_full, jisr_full, rfe_full, buffer_asks, walks_ask}

-- ---- what a plan brings into the block, and what the block shows after it

-- a store and a walk that are sound, where memory has n bytes
abbrev pub store_brought : ℕ → BufferChange → Bool
store_brought n BufferChange.Nothing = true
store_brought n (Put s) = store_sound n s
store_brought n Take = true

abbrev pub walk_brought : WalkChange → Bool
walk_brought WalkChange.Nothing = true
walk_brought (Add w) = walk_sound w
walk_brought (Drop f) = true

unfoldable pub plan_sound : ℕ → Plan → Bool
plan_sound n p = store_brought n p.buffer && walk_brought p.walks

abbrev pub registers_after : CoreChange → Registers → Registers
registers_after CoreChange.Nothing r = r
registers_after (Interrupt x) r = delta_jisr r x.word x.read x.causes x.vector
registers_after Return r = delta_rfe r
registers_after (Execute i w R) r = effect i r w R

abbrev pub stores_after : BufferChange → List Store → List Store
stores_after BufferChange.Nothing l = l
stores_after (Put s) l = l ++ (s ∷ [])
stores_after Take l = drop 1 l

abbrev pub tlb_after : WalkChange → List Walk → List Walk
tlb_after WalkChange.Nothing l = l
tlb_after (Add w) l = with_walk w l
tlb_after (Drop f) l = staying (goes f) l

-- the words of a block that no plan writes: whether the core runs, and its refusal count
abbrev pub Still : ℕ → Type 0
Still i = (i ≡ at.running) ⊎ (i ≡ at.core_refusals)

-- a sound block c with these registers, pending stores and walks, and with the words of b that no plan writes
pub record Shows (n : ℕ) (b c : List ℕ) (r : Registers) (ss : List Store) (ws : List Walk) : Type 0 where
  pub long : length c ≡ 256
  pub sound : sound_block n c ≡ true
  pub registers_view : registers_of c ≡ r
  pub still : (i : ℕ) → Still i → get_or c i 0 ≡ get_or b i 0
  pub stores_view : stores c ≡ ss
  pub walks_view : walks c ≡ ws

-- an operation on records leaves these words
after_still : {b c : List ℕ} {ss : List Store} {ws : List Walk} → After b c ss ws → (i : ℕ) → Still i → get_or c i 0 ≡ get_or b i 0
after_still A i (inl e) = A.low i (omega arith) (omega arith) (omega arith) (omega arith)
after_still A i (inr e) = A.low i (omega arith) (omega arith) (omega arith) (omega arith)

-- an instruction leaves general register 0
effect_zero : (i : Instruction) (c : Registers) (w R : ℕ) → gpr_at (effect i c w R) 0 ≡ gpr_at c 0
effect_zero i c w R = either_zero (gprw i) (put_at c.gpr (cad i w) (gprdin i c w R)) c.gpr (put_zero c.gpr (cad i w) (gprdin i c w R))
  where
    either_zero : (t : Bool) (l k : List ℕ) → get_or l 0 0 ≡ get_or k 0 0 → get_or (if t then l else k) 0 0 ≡ get_or k 0 0
    either_zero true l k e = e
    either_zero false l k e = refl

-- a block that shows what another one shows
next : {n : ℕ} {a b c : List ℕ} {r : Registers} {ss : List Store} {ws : List Walk} → Shows n a b r ss ws →
    Shows n b c (registers_of b) (stores b) (walks b) → Shows n a c r ss ws
next S T =
    record {
      long = T.long;
      sound = T.sound;
      registers_view = T.registers_view ∙ S.registers_view;
      still = λ i h. T.still i h ∙ S.still i h;
      stores_view = T.stores_view ∙ S.stores_view;
      walks_view = T.walks_view ∙ S.walks_view;
    }

module _ (n : ℕ) (b : List ℕ) (long : length b ≡ 256) (e : sound_block n b ≡ true) where
  itself : Shows n b b (registers_of b) (stores b) (walks b)
  itself = record { long = long; sound = e; registers_view = refl; still = λ i h. refl; stores_view = refl; walks_view = refl }

  -- ---- the local APIC

  -- a step of its own words
  passive : {c : List ℕ} → Kept Passive b c → Shows n b c (registers_of b) (stores b) (walks b)
  passive {c} K =
      let W = words_facts b (words_of n b e) in
      let A : Alike b c = record { heads = λ i p q. K.same i (inl (omega arith)); records = λ i p. K.same i (inr (omega arith)) } in
      record {
        long = K.long ∙ long;
        sound =
            of_parts n c
            (facts_words c
            (record {
              zero_register = K.same 0 (inl (omega arith)) ∙ W.zero_register;
              gap = K.same 71 (inl (omega arith)) ∙ W.gap;
              rest = λ i p q. K.same i (inr (omega arith)) ∙ W.rest i p q;
              running = omega (arith, K.running_flag (omega (arith, W.running)));
              sipirr = omega (arith, K.sipirr_flag (omega (arith, W.sipirr)));
              initrr = omega (arith, K.initrr_flag (omega (arith, W.initrr)));
              vector = K.sipivect_small W.vector;
            }))
            (same_sound A n ∙ records_of n b e);
        registers_view = registers_same b c K.long (λ j p. K.same j (inl (omega arith)));
        still = λ i h. K.same i (⊎_elim (λ q. inl (omega arith)) (λ q. inr (omega arith)) h);
        stores_view = same_stores A;
        walks_view = same_walks A;
      }

  -- any word at its ports
  port_shows : (i v : ℕ) → at.ports ≤ i → i < at.sipirr → Shows n b (set b i v) (registers_of b) (stores b) (walks b)
  port_shows i v p q =
      let A = any_allowed i v (inr (p, q)) in
      record {
        long = length-set b i v ∙ long;
        sound = set_sound b i v A n long e;
        registers_view = set_registers b i v (omega arith);
        still = λ j h. get_or-set_other b i j v 0 (⊎_elim (λ e. omega arith) (λ e. omega arith) h);
        stores_view = set_stores b i v A;
        walks_view = set_walks b i v A;
      }

  -- ---- the registers

  registers_shows : (r : Registers) → Full r → gpr_at r 0 ≡ 0 → Shows n b (with_registers b r) r (stores b) (walks b)
  registers_shows r f z =
      record {
        long = put_long b r long f.0 f.1;
        sound = put_sound b r long f.0 f.1 n e z;
        registers_view = put_registers_view b r long f.0 f.1;
        still = λ i h. put_above b r long f.0 f.1 i (⊎_elim (λ e. omega arith) (λ e. omega arith) h);
        stores_view = put_stores b r long f.0 f.1;
        walks_view = put_walks b r long f.0 f.1;
      }

-- a step of the APIC's words after another
then_passive : {n : ℕ} {a b c : List ℕ} {r : Registers} {ss : List Store} {ws : List Walk} → Shows n a b r ss ws → Kept Passive b c → Shows n a c r ss ws
then_passive {n} {a} {b} S K = next S (passive n b S.long S.sound K)

module _ (n : ℕ) (b : List ℕ) (long : length b ≡ 256) (e : sound_block n b ≡ true) where
  ended_shows : (v : ℕ) → Shows n b (apic.eoi_written b v) (registers_of b) (stores b) (walks b)
  unfolding apic.eoi_written
  ended_shows v =
      then_passive
      (then_passive (port_shows n b long e apic.eoi v (omega arith) (omega arith)) (kept_marked (set b apic.eoi v) b apic.isr apic.isr 0 (omega arith) (omega arith) (omega arith)))
      (kept_marked (marked (set b apic.eoi v) apic.isr (lowest b apic.isr) 0) b at.eoipending apic.isr 1 (omega arith) (omega arith) (omega arith))

  if_shows : (t : Bool) {c d : List ℕ} → Shows n b c (registers_of b) (stores b) (walks b) → Shows n b d (registers_of b) (stores b) (walks b) → Shows n b (if t then c else d) (registers_of b) (stores b) (walks b)
  if_shows true S T = S
  if_shows false S T = T

  written_shows : (a v : ℕ) → a < 128 → Shows n b (apic.port_written b a v) (registers_of b) (stores b) (walks b)
  unfolding apic.port_written
  written_shows a v h = if_shows (eqb a 12) (ended_shows v) (port_shows n b long e (apic.port_at a) v (omega arith) (omega arith))

  -- ---- the parts of a plan

  zero_kept : gpr_at (registers_of b) 0 ≡ 0
  zero_kept = registers_zero b long n e

  core_shows : (c : CoreChange) → Shows n b (core_after c b) (registers_after c (registers_of b)) (stores b) (walks b)
  unfolding core_after
  core_shows CoreChange.Nothing = itself n b long e
  core_shows (Interrupt x) =
      then_passive
      (registers_shows n b long e (delta_jisr (registers_of b) x.word x.read x.causes x.vector) (jisr_full (registers_of b) x.word x.read x.causes x.vector (registers_size b long)) (jisr_zero (registers_of b) x.word x.read x.causes x.vector ∙ zero_kept))
      (kept_jisr _)
  core_shows Return =
      then_passive
      (registers_shows n b long e (delta_rfe (registers_of b)) (rfe_full (registers_of b) (registers_size b long)) (rfe_zero (registers_of b) ∙ zero_kept))
      (kept_rfe _)
  core_shows (Execute i w R) =
      registers_shows n b long e (effect i (registers_of b) w R) (effect_full i (registers_of b) w R (registers_size b long))
      (effect_zero i (registers_of b) w R ∙ zero_kept)

  buffer_shows : (c : BufferChange) → buffer_ready c b ≡ true → store_brought n c ≡ true → Shows n b (buffer_after c b) (registers_of b) (stores_after c (stores b)) (walks b)
  unfolding buffer_after buffer_ready
  buffer_shows BufferChange.Nothing r s = itself n b long e
  buffer_shows (Put s) r f =
      let few = ltb-true (length (stores b)) 8 r in
      let A = put_after n b e long s few in
      record { long = A.long; sound = put_block n b e long s few f; registers_view = after_registers A long; still = after_still A; stores_view = A.stores_view; walks_view = A.walks_view }
  buffer_shows Take r f =
      let some = ltb-true 0 (length (stores b)) r in
      let A = take_after n b e long some in
      record { long = A.long; sound = take_block n b e long some; registers_view = after_registers A long; still = after_still A; stores_view = A.stores_view; walks_view = A.walks_view }

  walks_shows : (c : WalkChange) → walks_ready c b ≡ true → walk_brought c ≡ true → Shows n b (walks_after c b) (registers_of b) (stores b) (tlb_after c (walks b))
  unfolding walks_after walks_ready
  walks_shows WalkChange.Nothing r s = itself n b long e
  walks_shows (Add w) r f =
      let few : among w (walks b) ≡ false → length (walks b) < 23 = λ q. ltb-true (length (walks b)) 23 (or_other (among w (walks b)) _ r q) in
      let A = add_after n b e long w few in
      record { long = A.long; sound = add_block n b e long w few f; registers_view = after_registers A long; still = after_still A; stores_view = A.stores_view; walks_view = A.walks_view }
  walks_shows (Drop f) r s =
      let A = drop_after n b e long f in
      record { long = A.long; sound = drop_block n b e long f; registers_view = after_registers A long; still = after_still A; stores_view = A.stores_view; walks_view = A.walks_view }

  write_shows : (x : Write) → port_ready x ≡ true → Shows n b (port_after x b) (registers_of b) (stores b) (walks b)
  unfolding port_after port_ready
  write_shows Write.Nothing r = itself n b long e
  write_shows (Memory a d v) r = itself n b long e
  write_shows (LocalPort a v) r = written_shows a v (ltb-true a 128 r)
  write_shows (IoPort a v) r = itself n b long e

  -- ---- a plan

  module _ (p : Plan) (r : ready p b ≡ true) (s : plan_sound n p ≡ true) where
    asks : (buffer_ready p.buffer b ≡ true) × (walks_ready p.walks b ≡ true) × (port_ready p.write ≡ true)
    unfolding ready
    asks =
        let q = and_right (buffer_ready p.buffer b) _ r in
        (and_left (buffer_ready p.buffer b) _ r, and_left (walks_ready p.walks b) _ q, and_right (walks_ready p.walks b) _ q)

    brings : (store_brought n p.buffer ≡ true) × (walk_brought p.walks ≡ true)
    unfolding plan_sound
    brings = (and_left (store_brought n p.buffer) _ s, and_right (store_brought n p.buffer) _ s)

pub plan_shows : (n : ℕ) (p : Plan) (b : List ℕ) → length b ≡ 256 → sound_block n b ≡ true → ready p b ≡ true → plan_sound n p ≡ true →
    Shows n b (block_after p b) (registers_after p.core (registers_of b)) (stores_after p.buffer (stores b)) (tlb_after p.walks (walks b))
unfolding block_after
plan_shows n p b long e r s =
    let ask = asks n b long e p r s in
    let bring = brings n b long e p r s in
    let C = core_shows n b long e p.core in
    let b₁ : List ℕ = core_after p.core b in
    let B = buffer_shows n b₁ C.long C.sound p.buffer (buffer_asks p.buffer b₁ b C.stores_view ∙ ask.0) bring.0 in
    let b₂ : List ℕ = buffer_after p.buffer b₁ in
    let W = walks_shows n b₂ B.long B.sound p.walks (walks_ask p.walks b₂ b (B.walks_view ∙ C.walks_view) ∙ ask.1) bring.1 in
    let P = write_shows n (walks_after p.walks b₂) W.long W.sound p.write ask.2 in
    record {
      long = P.long;
      sound = P.sound;
      registers_view = P.registers_view ∙ (W.registers_view ∙ (B.registers_view ∙ C.registers_view));
      still = λ i h. P.still i h ∙ (W.still i h ∙ (B.still i h ∙ C.still i h));
      stores_view = P.stores_view ∙ (W.stores_view ∙ (B.stores_view ∙ ap (stores_after p.buffer) C.stores_view));
      walks_view = P.walks_view ∙ (W.walks_view ∙ ap (tlb_after p.walks) (B.walks_view ∙ C.walks_view));
    }
