-- A machine as made is as the report has it after reset (12.1).
-- Assumes nothing.
use mathlib.Core.Path.{◌≡◌, refl, sym, ◌∙◌, ap}
use mathlib.Core.Bool.{true, false}
use mathlib.Core.List.{List}
use Prim.Native.Nat.{ℕ, zero, suc, ◌+◌, ◌-◌, ◌/◌, ◌%◌, ◌^◌, ◌<◌, ◌≤◌}
use native.Mathlib.Nat.{zero-div}
use native.Mathlib.Omega.{arith}
use lib.Dec.{eqb}
use lib.ListN.{get_or, take, drop, replicate, length-take, length-drop, get_or-replicate, get_or-append}
use lib.Seq.{get_or-take, get_or-drop}
use borrow.Author.Tests.{eqb-true}
use Rattle.word.specs.Word.{bit}
use Rattle.word.proofs.Bits.{bit_zero}
use Rattle.layout.specs.Layout as at
use Rattle.layout.specs.Blocks.{block}
use Rattle.isa.specs.declared.registers.Registers.{Registers}
use Rattle.isa.specs.Core.{spr_at}
use Rattle.records.specs.Records.{all, stores, walks, among}
use Rattle.records.proofs.Facts.{all_at}
use Rattle.tables.specs.Views.{registers_of, running_of, port_byte, core_refusals_of}
use Rattle.tables.specs.Make.{chained, made_block, made_blocks, made}
use Rattle.tables.proofs.Fresh.{block_long}
use Rattle.tables.proofs.Reset.{made_sound, made_block_lem, made_registers, made_running_lem, made_stores, made_walks}
use Rattle.report.specs.Components.{bytes, ID, ICR, bit_at, irr, isr}
use Rattle.report.specs.View.{apic_of, processor_of, ioapic_of, view}
use Rattle.report.specs.Demands.{Reset, Resets}
use Rattle.report.proofs.Frames.{redirect_at}

-- ---- a block: the ports but for the ID

port_words : (i : ℕ) → all (λ x. eqb x 0) (take 31 (drop 73 (made_block i))) ≡ true
unfolding all made_block chained
port_words i = refl

port_word : (i x : ℕ) → 73 ≤ x → x < 104 → get_or (made_block i) x 0 ≡ 0
port_word i x l h =
    let k : ℕ = x - 73 in
    let q : 73 + k ≡ x = omega arith in
    let z : get_or (take 31 (drop 73 (made_block i))) k 0 ≡ 0 = eqb-true _ 0 (all_at (λ x. eqb x 0) (take 31 (drop 73 (made_block i))) k 0 (port_words i) (omega (arith, length-take 31 (drop 73 (made_block i)), length-drop 73 (made_block i), block_long i))) in
    sym (get_or-take 31 (drop 73 (made_block i)) k 0 (omega arith) ∙ (get_or-drop 73 (made_block i) k 0 ∙ ap (λ (y : ℕ). get_or (made_block i) y 0) q)) ∙ z

no_port : (i x : ℕ) → 4 ≤ x → x < 128 → port_byte (made_block i) x ≡ 0
no_port i x l h =
    ap (λ (n : ℕ). n / 256 ^ (x % 4) % 256) (port_word i (at.ports + x / 4) (omega arith) (omega arith))
    ∙ ap (λ (n : ℕ). n % 256) (zero-div (256 ^ (x % 4)))

no_vector : (r i j : ℕ) → 4 ≤ r → r ≤ 48 → j < 256 → bit_at r (apic_of (made_block i)) j ≡ 0
unfolding apic_of
no_vector r i j l h k = ap (λ (n : ℕ). bit n (j % 8)) (no_port i (r + j / 8) (omega arith) (omega arith)) ∙ bit_zero (j % 8)

no_icr : (i : ℕ) → ICR (apic_of (made_block i)) ≡ 0
unfolding bytes apic_of made_block chained
no_icr i = refl

id_is : (i : ℕ) → i < 4 → ID (apic_of (made_block i)) ≡ i
unfolding bytes apic_of made_block chained
id_is zero h = refl
id_is (suc zero) h = refl
id_is (suc (suc zero)) h = refl
id_is (suc (suc (suc zero))) h = refl
id_is (suc (suc (suc (suc i)))) h = absurd (omega arith)

-- ---- the header

header_word : (n p x : ℕ) → 2 ≤ x → x < 32 → get_or (made n p) x 0 ≡ 0
unfolding made
header_word n p zero l h = absurd (omega arith)
header_word n p (suc zero) l h = absurd (omega arith)
header_word n p (suc (suc x)) l h = get_or-append (replicate 30 0) (made_blocks n) 0 x (omega arith) ∙ get_or-replicate 30 x 0 0 (omega arith)

entry_bit : (n p k j : ℕ) → k < 24 → bit ((ioapic_of (made n p)).redirect k) j ≡ 0
entry_bit n p k j h = ap (λ (x : ℕ). bit x j) (redirect_at (made n p) k h ∙ header_word n p (6 + k) (omega arith) (omega arith)) ∙ bit_zero j

module _ (n p : ℕ) (some : 1 ≤ n) (few : n ≤ 4) (m : List ℕ) (M : ℕ → ℕ) where
  is : (i : ℕ) → i < n → block (made n p) i ≡ made_block i
  is i h = made_block_lem n p i h

  on : {A : Type 0} (i : ℕ) → i < n → (f : List ℕ → A) → f (block (made n p) i) ≡ f (made_block i)
  on i h f = ap f (is i h)

  core : (i : ℕ) → i < n → (f : Registers → ℕ) → f (registers_of (block (made n p) i)) ≡ f (record { gpr = replicate 32 0; spr = replicate 32 0; pc = 0; hi = 0; lo = 0 })
  core i h f = ap (λ (b : List ℕ). f (registers_of b)) (is i h) ∙ ap f (made_registers i)

  waits : (i : ℕ) → 1 ≤ i → i < n → eqb (running_of (block (made n p) i)) 1 ≡ false
  waits zero l h = absurd (omega arith)
  waits (suc i) l h = ap (λ (b : List ℕ). eqb (running_of b) 1) (is (suc i) h) ∙ ap (λ (x : ℕ). eqb x 1) (made_running_lem (suc i))

  after_reset : Reset (view (made n p) m M)
  unfolding view processor_of made among
  after_reset =
      record {
        pc = λ i h. core i h (λ r. r.pc);
        running = on 0 some (λ b. eqb (running_of b) 1) ∙ ap (λ (x : ℕ). eqb x 1) (made_running_lem 0);
        waiting = waits;
        mode = λ i h. core i h (λ r. spr_at r at.mode);
        sb = λ i h. ap stores (is i h) ∙ made_stores i;
        tlb = λ i h w. ap (λ (b : List ℕ). among w (walks b)) (is i h) ∙ ap (among w) (made_walks i);
        rirr = λ k h. entry_bit n p k 14 h;
        ds = λ k h. entry_bit n p k 12 h;
        mask = λ k h. entry_bit n p k 16 h;
        IRR = λ i h j l. ap (λ (b : List ℕ). bit_at irr (apic_of b) j) (is i h) ∙ no_vector irr i j (omega arith) (omega arith) l;
        ISR = λ i h j l. ap (λ (b : List ℕ). bit_at isr (apic_of b) j) (is i h) ∙ no_vector isr i j (omega arith) (omega arith) l;
        ICR_zero = λ i h. ap (λ (b : List ℕ). ICR (apic_of b)) (is i h) ∙ no_icr i;
        APIC_ID = λ i h. ap (λ (b : List ℕ). ID (apic_of b)) (is i h) ∙ id_is i (omega arith);
        dev = λ k h. ap (λ (x : ℕ). eqb x 1) (bit_zero k);
      }

made_count : (i : ℕ) → core_refusals_of (made_block i) ≡ 0
unfolding made_block chained
made_count i = refl

pub resets : Resets
unfolding view made
resets n p some few pages most =
    record {
      is_sound = made_sound n p some few pages most;
      np = λ m M. refl;
      reset = after_reset n p some few;
      count = refl;
      core_counts = λ k h. ap core_refusals_of (made_block_lem n p k h) ∙ made_count k;
    }
