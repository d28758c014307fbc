-- Demand 2 for the steps on a line: ioapic-sample, ioapic-deliver and set line.
-- Assumes nothing.
use Rattle.std.specs.Prelude.{if◌then◌else◌, Option, Some}
use mathlib.Core.Path.{◌≡◌, refl, sym, ◌∙◌, ap, ap₂, subst}
use mathlib.Core.Bool.{Bool, true, false, not, ◌&&◌}
use mathlib.Core.List.{List}
use mathlib.Core.Logic.{inl}
use Prim.Native.Nat.{ℕ, ◌+◌, ◌*◌, ◌/◌, ◌^◌, ◌<◌}
use lib.Dec.{eqb}
use lib.ListN.{length, get_or, set}
use lib.Seq.{get_or-set_same, get_or-set_other}
use native.Mathlib.Nat.{div-div-eq-div-mul}
use native.Mathlib.Omega.{arith}
use borrow.Author.Tests.{lt-ltb}
use Rattle.word.specs.Word.{bit, is_set, field, with_bit}
use Rattle.word.specs.Bytes.{byte}
use Rattle.layout.specs.Blocks.{block}
use Rattle.layout.proofs.Blocks.{set_block}
use Rattle.tables.specs.Views.{cores_of, lines_of, running_of}
use Rattle.tables.specs.Sound.{sound}
use Rattle.tables.proofs.Lift.{header, core_long}
use Rattle.apic.specs.LocalApic.{id_of, fixed, irr}
use Rattle.word.proofs.Bits.{bit_lt, bit_same, bit_other, zero_not_one}
use Rattle.word.proofs.Words.{Words}
use Rattle.apic.proofs.Kept.{Passive, kept_all, kept_vector, kept_if}
use Rattle.ioapic.specs.IoApic.{entry, dest, vect, rirr, ds, may_sample, sampled, may_deliver, handed}
use Rattle.ioapic.specs.Bus.{deliver}
use Rattle.ioapic.proofs.Blocks.{block_words}
use Rattle.ioapic.proofs.Steps.{deliver_header, deliver_block}
use Rattle.steps.specs.declared.Step.{Step}
use Rattle.steps.specs.declared.Step.TheVariants.{ByApic}
use Rattle.steps.specs.declared.ApicStep.TheVariants as kind
use Rattle.machine.specs.declared.action.Action.TheVariants as action
use Rattle.machine.specs.Actions.{Acts, tables_after, memory_after}
use Rattle.machine.specs.Decide.{if_allowed, by_apic, by_action, by_step}
use Rattle.machine.proofs.Fitting.{header_words}
use Rattle.report.specs.Configuration.{Apic, IoApic, Configuration, upd, with_p, with_apic, with_irq, with_ioapic, with_redirect}
use Rattle.report.specs.Components.{bytes, ID, ΣApic, δapic}
use Rattle.report.specs.Delta as report
use Rattle.report.specs.View.{apic_of, processor_of, ioapic_of, view, SameProcessor, Same}
use Rattle.report.specs.Needs.{misses}
use Rattle.report.proofs.Cases.{δx, adds_none, Case, is_a_step}
use Rattle.report.proofs.Apics.{upd_case, apic_refl, fixed_same}
use Rattle.report.proofs.Frames.{io_refl, io_then, io_kept, redirect_at, entry_same, processor_of_lem, processor_refl, passive, tables_same}

-- ---- a word of the header is written

module _ (t : List ℕ) (i w : ℕ) (h : i < 32) where
  set_processor : (j : ℕ) → SameProcessor (processor_of (block t j)) (processor_of (block (set t i w) j))
  set_processor j = processor_of_lem (sym (set_block t i w j h))

  set_running : (j : ℕ) → running_of (block (set t i w) j) ≡ running_of (block t j)
  set_running j = ap running_of (set_block t i w j h)

-- ---- set line

module _ (t m : List ℕ) (e : sound t (length m) ≡ true) (l v : ℕ) (h : l < 24) (hv : v < 2) where
  abbrev x₁ : Option Step
  x₁ = Some (ByApic (kind.SetLine l v))

  abbrev lined : (ℕ → ℕ) → Configuration
  lined M = with_irq (view t m M) (upd (is_set (lines_of t)) l (eqb v 1))

  outcome₁ : (M : ℕ → ℕ) → δx t m x₁ M ≡ report.next (lined M) report.done
  unfolding report.δBy report.set_line view
  outcome₁ M = rw (lt-ltb l 24 h)

  line_bit : (j : ℕ) → upd (is_set (lines_of t)) l (eqb v 1) j ≡ is_set (with_bit (lines_of t) l v) j
  line_bit j =
      upd_case (λ (z : Bool). z ≡ is_set (with_bit (lines_of t) l v) j) (is_set (lines_of t)) l j (eqb v 1)
      (λ q. sym (ap (λ (k : ℕ). is_set (with_bit (lines_of t) l v) k) q ∙ ap (λ (n : ℕ). eqb n 1) (bit_same (lines_of t) l v hv)))
      (λ d. ap (λ (n : ℕ). eqb n 1) (sym (bit_other (lines_of t) l v hv j d)))

  pub line_case : Case t m x₁ (by_step t m x₁)
  unfolding by_step by_apic misses tables_after memory_after view
  line_case =
      let w : ℕ = with_bit (lines_of t) l v in
      let s : get_or (set t 3 w) 3 0 ≡ w = get_or-set_same t 3 w 0 (omega (arith, header_words t (length m) e)) in
      Case.done refl (adds_none t m _ refl) (λ M y. refl)
      (λ M.
      record {
        to = lined M;
        is_next = outcome₁ M;
        agrees =
            tables_same t (set t 3 w) m M (λ j. processor_of (block t j)) (upd (is_set (lines_of t)) l (eqb v 1)) (ioapic_of t) (get_or-set_other t 3 0 w 0 (omega arith))
            (λ j g. set_processor t 3 w (omega arith) j) (λ j g. set_running t 3 w (omega arith) j)
            (λ j g. line_bit j ∙ ap (λ (n : ℕ). is_set n j) (sym s))
            (io_kept t (set t 3 w) (λ i p q. get_or-set_other t 3 i w 0 (omega arith)));
      })

-- ---- ioapic-sample

module _ (t m : List ℕ) (e : sound t (length m) ≡ true) (l : ℕ) (h : l < 24) where
  abbrev x₂ : Option Step
  x₂ = Some (ByApic (kind.Sample l))

  -- the I/O APIC with another entry l
  abbrev with_entry_lem : ℕ → IoApic
  with_entry_lem w = with_redirect (ioapic_of t) (upd (ioapic_of t).redirect l w)

  abbrev sample : (ℕ → ℕ) → Configuration
  sample M = with_ioapic (view t m M) (with_entry_lem (with_bit (entry t l) ds 1))

  outcome₂ : (M : ℕ → ℕ) (g : Bool) → may_sample t l ≡ g → δx t m x₂ M ≡ (if g then report.next (sample M) report.done else report.none)
  unfolding report.δBy report.sample view
  outcome₂ M g q =
      let r : is_set (lines_of t) l && not (is_set (entry t l) 16) && not (is_set (entry t l) 14) ≡ g =
      ap₂ (λ (y z : Bool). is_set (lines_of t) l && y && z) (sym (zero_not_one (bit (entry t l) 16) (bit_lt (entry t l) 16))) (sym (zero_not_one (bit (entry t l) 14) (bit_lt (entry t l) 14))) ∙ q in
      rw (lt-ltb l 24 h, redirect_at t l h, r)

  sample_same : (M : ℕ → ℕ) → Same (sample M) (view (tables_after (Acts (action.Sample l)) t) (memory_after (Acts (action.Sample l)) m) M)
  unfolding tables_after memory_after view sampled
  sample_same M =
      let i : ℕ = 6 + l in
      let w : ℕ = with_bit (entry t l) ds 1 in
      tables_same t (set t i w) m M (λ j. processor_of (block t j)) (is_set (lines_of t)) (with_entry_lem w) (get_or-set_other t i 0 w 0 (omega arith))
      (λ j g. set_processor t i w (omega arith) j) (λ j g. set_running t i w (omega arith) j)
      (λ j g. ap (λ (n : ℕ). is_set n j) (sym (get_or-set_other t i 3 w 0 (omega arith))))
      (entry_same (ioapic_of t) t l w (io_refl (ioapic_of t)) (header_words t (length m) e) h)

  pub sample_case : Case t m x₂ (by_step t m x₂)
  unfolding by_step by_apic misses
  sample_case = go (may_sample t l) refl
    where
      go : (g : Bool) → may_sample t l ≡ g → Case t m x₂ (by_action (if_allowed g (action.Sample l)))
      go true q = Case.done refl (adds_none t m _ refl) (λ M y. refl) (λ M. record { to = sample M; is_next = outcome₂ M true q; agrees = sample_same M })
      go false q = Case.undefined refl (is_a_step _ refl) (λ M. outcome₂ M false q)

-- ---- the words of the local APIC's ports

-- bytes w₀ to w₃ of a word
pub word_bytes : (w n : ℕ) → w < 2 ^ 32 → byte 0 w + 256 * (byte 1 w + 256 * (byte 2 w + 256 * (byte 3 w + 256 * n))) ≡ w + 2 ^ 32 * n
word_bytes w n h =
    let p : w / 256 / 256 ≡ w / 65536 = div-div-eq-div-mul w 256 256 in
    let q : w / 65536 / 256 ≡ w / 16777216 = div-div-eq-div-mul w 65536 256 in
    let a : byte 0 w + 256 * (w / 256) ≡ w = omega arith in
    let b : byte 1 w + 256 * (w / 65536) ≡ w / 256 = omega arith in
    let c : byte 2 w + 256 * (w / 16777216) ≡ w / 65536 = omega arith in
    let d : byte 3 w ≡ w / 16777216 = omega arith in
    joined (byte 0 w) (byte 1 w) (byte 2 w) (byte 3 w) (w / 256) (w / 65536) (w / 16777216) w n a b c d
  where
    joined : (x y z u a b c w n : ℕ) → x + 256 * a ≡ w → y + 256 * b ≡ a → z + 256 * c ≡ b → u ≡ c → x + 256 * (y + 256 * (z + 256 * (u + 256 * n))) ≡ w + 2 ^ 32 * n
    joined x y z u a b c w n p q r s = omega arith

module _ (b : List ℕ) (ws : Words b) where
  pub id_same : ID (apic_of b) ≡ id_of b
  unfolding bytes apic_of
  id_same = ap (field 27 24) (word_bytes (get_or b 72 0) 0 (ws 72)) ∙ omega arith

-- ---- ioapic-deliver

module _ (t m : List ℕ) (e : sound t (length m) ≡ true) (ws : Words t) (l : ℕ) (h : l < 24) where
  abbrev x₃ : Option Step
  x₃ = Some (ByApic (kind.Deliver l))

  abbrev n : ℕ
  n = cores_of t

  abbrev en : ℕ
  en = entry t l

  -- by the entry z
  abbrev given : ℕ → ℕ → Apic
  given z j = if eqb (ID (apic_of (block t j))) (field 31 24 z) then δapic (apic_of (block t j)) (ΣApic.Fixed (field 7 0 z)) else apic_of (block t j)

  abbrev delivers : (ℕ → ℕ) → ℕ → Configuration
  delivers M z = with_ioapic (with_p (view t m M) (λ j. with_apic (processor_of (block t j)) (given z j))) (with_entry_lem t m e l h (with_bit (with_bit z ds 0) rirr 1))

  outcome₃ : (M : ℕ → ℕ) (g : Bool) → may_deliver t l ≡ g → δx t m x₃ M ≡ (if g then report.next (delivers M en) report.done else report.none)
  unfolding report.δBy report.deliver report.delivered view processor_of
  outcome₃ M g q =
      ap (λ (y : Bool). if y then report.deliver (view t m M) l else report.none) (lt-ltb l 24 h)
      ∙ ap (λ (z : ℕ). if is_set z ds then report.next (delivers M z) report.done else report.none) (redirect_at t l h)
      ∙ ap (λ (y : Bool). if y then report.next (delivers M en) report.done else report.none) q

  gives : (j : ℕ) → j < n → SameProcessor (with_apic (processor_of (block t j)) (given en j)) (processor_of (block (deliver n l t) j))
  unfolding processor_of
  gives j g =
      let b : List ℕ = block t j in
      let w = block_words t j ws in
      let d : field 31 24 en ≡ dest en = omega (arith, ws (6 + l)) in
      let v : field 7 0 en ≡ vect en = omega arith in
      subst (λ (c : List ℕ). SameProcessor (with_apic (processor_of b) (given en j)) (processor_of c)) (sym (deliver_block n t (header t (length m) e).long l h j g))
      (rw (id_same b w, d, v) (go b (core_long t (length m) e j g) (eqb (id_of b) (dest en))))
    where
      go : (b : List ℕ) → length b ≡ 256 → (s : Bool) →
          SameProcessor (with_apic (processor_of b) (if s then δapic (apic_of b) (ΣApic.Fixed (vect en)) else apic_of b)) (processor_of (if s then fixed b (vect en) else b))
      go b long true =
          passive b (fixed b (vect en)) (δapic (apic_of b) (ΣApic.Fixed (vect en))) (kept_vector b irr (vect en) 1 (omega arith) (omega arith) (omega arith) (omega arith))
          (fixed_same (apic_of b) b (apic_refl (apic_of b)) long (vect en) (omega arith))
      go b long false = processor_refl (processor_of b)

  runs : (j : ℕ) → j < n → running_of (block (deliver n l t) j) ≡ running_of (block t j)
  runs j g =
      ap running_of (deliver_block n t (header t (length m) e).long l h j g)
      ∙ (kept_if Passive (eqb (id_of (block t j)) (dest en)) (kept_vector (block t j) irr (vect en) 1 (omega arith) (omega arith) (omega arith) (omega arith)) (kept_all Passive (block t j))).same 67 (inl (omega arith))

  deliver_same : (M : ℕ → ℕ) → Same (delivers M en) (view (tables_after (Acts (action.Deliver l)) t) (memory_after (Acts (action.Deliver l)) m) M)
  unfolding tables_after memory_after view handed
  deliver_same M =
      let i : ℕ = 6 + l in
      let w : ℕ = with_bit (with_bit en ds 0) rirr 1 in
      let u : List ℕ = deliver n l t in
      let H : (x : ℕ) → x < 32 → get_or u x 0 ≡ get_or (set t i w) x 0 = deliver_header n t (header t (length m) e).long l h in
      tables_same t u m M (λ j. with_apic (processor_of (block t j)) (given en j)) (is_set (lines_of t)) (with_entry_lem t m e l h w) (H 0 (omega arith) ∙ get_or-set_other t i 0 w 0 (omega arith))
      gives runs
      (λ j g. ap (λ (k : ℕ). is_set k j) (sym (H 3 (omega arith) ∙ get_or-set_other t i 3 w 0 (omega arith))))
      (io_then (entry_same (ioapic_of t) t l w (io_refl (ioapic_of t)) (header_words t (length m) e) h) (io_kept (set t i w) u (λ x p q. H x (omega arith))))

  pub deliver_case : Case t m x₃ (by_step t m x₃)
  unfolding by_step by_apic misses
  deliver_case = go (may_deliver t l) refl
    where
      go : (g : Bool) → may_deliver t l ≡ g → Case t m x₃ (by_action (if_allowed g (action.Deliver l)))
      go true q = Case.done refl (adds_none t m _ refl) (λ M y. refl) (λ M. record { to = delivers M en; is_next = outcome₃ M true q; agrees = deliver_same M })
      go false q = Case.undefined refl (is_a_step _ refl) (λ M. outcome₃ M false q)
