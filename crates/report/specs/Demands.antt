-- What is demanded of step, as types: demand 1, the answers and what a refusal leaves; demand 2, an accepted step is
-- one of the report's, with one exception, and a refusal has its ground; and the configuration of a machine as made.
--
-- To be believed are the report's side (Configuration, Components, Delta), the view, what a step needs (Needs), this
-- file, and the definitions that these share with the machine: of numbers and lists alone: words, bits and bytes,
-- with_bit among them (word); decoded and the mnemonics, a table's lines, alucon, overflow, lop, rop, user, asid, ea,
-- d, sv, signals, causes and delta_core (decode, units, isa); the fields of walks, addresses and entries, winit, wext,
-- wext_fault, set-d, complete, hit and ptea (tlb); sbhit, sbv, sbhazard, is_port, apicadr and ioapicadr (store_buffer);
-- least and some_up_to (vector_register); there, local_port, io_port, among and same (records); of words: step_of, the
-- form of a step, and count_at, the word that counts its refusal (steps); the views of words, sound and made (tables);
-- stores and walks (records); the number of a refusal (refusals). That they are not empty is shown in claims: made tables are sound, and there are steps
-- that are accepted and steps refused 5 to 9.
--
-- The numbers of records, the order of the walks and the free chain are no part of a configuration. Nothing here fixes
-- them but that tables stay sound: they are as step itself defines them (machine, specs/Step), and the code is proved
-- equal to that.
-- Assumes nothing.
use Rattle.std.specs.Prelude.{if◌then◌else◌, ◌≡◌, Bool, true, false, not, ◌&&◌, List, [], ◌∷◌, ℕ, ◌+◌, ◌-◌, ◌*◌, ◌^◌, ◌<◌, ◌≤◌, eqb, ltb, leb, ◌+ℤ◌, ◌-ℤ◌, length, get_or, Option, Some, None, Result, Ok, Err}
use Rattle.refusals.specs.declared.Refusal.{Refusal}
use Rattle.refusals.specs.declared.Refusal.TheVariants.{Unsound, NotAStep, NoNextState, ByteNowhere, StoresFull, WalksFull}
use Rattle.refusals.specs.Numbers.{number}
use Rattle.word.specs.Word.{bit, is_set, signed, within}
use Rattle.layout.specs.Layout as at
use Rattle.layout.specs.Blocks.{block}
use Rattle.decode.specs.declared.Immediate.TheVariants.{Addi, Addiu}
use Rattle.decode.specs.declared.Alu.TheVariants.{Add, Addu, Sub, Subu}
use Rattle.decode.specs.declared.Instruction.{Instruction}
use Rattle.decode.specs.Table.{decoded}
use Rattle.decode.specs.Mnemonics.{one_of, rtype, store}
use Rattle.isa.specs.declared.registers.Registers.{Registers}
use Rattle.isa.specs.Core.{spr_at, lop, rop}
use Rattle.isa.specs.Interrupts.{ovf_of}
use Rattle.records.specs.declared.Walk.{Walk}
use Rattle.records.specs.Records.{walks}
use Rattle.tables.specs.Views.{cores_of, pages_of, refusals_of, core_refusals_of}
use Rattle.tables.specs.Sound.{sound}
use Rattle.tables.specs.Make.{made}
use Rattle.steps.specs.declared.Answer.{Answer}
use Rattle.steps.specs.declared.Answer.TheVariants.{Done, Interrupt}
use Rattle.steps.specs.declared.Step.{Step}
use Rattle.steps.specs.declared.Step.TheVariants.{ByProcessor, ByApic}
use Rattle.steps.specs.declared.ProcessorStep.TheVariants.{Core, TlbCreate, TlbExtend, TlbAccessed, StoreBuffer}
use Rattle.steps.specs.declared.ApicStep.TheVariants.{SendIpi, SendEoi, InitCore, StartCore, Sample, Deliver, SetLine}
use Rattle.steps.specs.Form.{step_of, line_count, count_at}
use Rattle.machine.specs.Step.{Stepped, step}
use Rattle.report.specs.Configuration.{Configuration}
use Rattle.report.specs.Components.{ID, ICR, bit_at, isr, irr}
use Rattle.report.specs.Delta as report
use Rattle.report.specs.View.{view, Same}
use Rattle.report.specs.Needs.{misses}

-- words of 32 bits, and bytes
abbrev pub Words : List ℕ → Type 0
Words l = (i : ℕ) → get_or l i 0 < 2 ^ 32

abbrev pub Bytes : List ℕ → Type 0
Bytes l = (i : ℕ) → get_or l i 0 < 2 ^ 8

-- ---- demand 1: for any tables, memory and words of a step whatever

-- done, an interrupt of level 0 to 7, a refusal 4 to 10
abbrev pub known : Result Answer Refusal → Bool
known (Ok Done) = true
known (Ok (Interrupt level)) = ltb level 8
known (Err r) = leb 4 (number r) && leb (number r) 10

-- a count after refusal n: 4 leaves it, and it stays at its largest
abbrev pub count_after : ℕ → ℕ → ℕ
count_after n k = if eqb n 4 then k else if ltb k (2 ^ 32 - 1) then k + 1 else k

-- what refusal n of the words s leaves: all but the word that counts it, its core's or the header's (steps, specs/Form)
pub record Left (t m s : List ℕ) (n : ℕ) (r : Stepped) : Type 0 where
  pub memory : r.memory ≡ m
  pub long : length r.tables ≡ length t
  pub words : (i : ℕ) → (i ≡ count_at (cores_of t) s → ⊥) → get_or r.tables i 0 ≡ get_or t i 0
  pub count : get_or r.tables (count_at (cores_of t) s) 0 ≡ count_after n (get_or t (count_at (cores_of t) s) 0)

pub record Answered (t m s : List ℕ) : Type 0 where
  pub answer : known (step t m s).answer ≡ true
  -- 4 exactly where the tables are not sound, and then nothing moves at all
  pub four : sound t (length m) ≡ false → step t m s ≡ record { answer = Err Unsound; tables = t; memory = m }
  pub not_four : sound t (length m) ≡ true → (step t m s).answer ≡ Err Unsound → ⊥
  pub refused : (r : Refusal) → (step t m s).answer ≡ Err r → Left t m s (number r) (step t m s)
  -- words stay words, bytes bytes, and sound tables sound
  pub words : Words t → Bytes m → Words (step t m s).tables
  pub bytes : Bytes m → Bytes (step t m s).memory
  pub stays_sound : Words t → Bytes m → sound t (length m) ≡ true → sound (step t m s).tables (length (step t m s).memory) ≡ true

abbrev pub Demand1 : Type 0
Demand1 = (t m s : List ℕ) → Answered t m s

-- ---- the exception to demand 2 (docs/AGREEMENT.md, 1): overflow goes by the trade's rule in place of the table of
-- 6.1.2

-- it is not claimed for the words of these instructions
abbrev pub excepted : Instruction → Bool
excepted x =
    one_of x (Instruction.Alu Add ∷ Instruction.Alu Addu ∷ Instruction.Alu Sub ∷ Instruction.Alu Subu ∷ Instruction.Immediate Addi ∷ Instruction.Immediate Addiu ∷ [])

-- a core step on one of them
abbrev pub on_excepted : Configuration → Option Step → Bool
on_excepted c (Some (ByProcessor i (Core w_i w_r))) = report.is c i w_i w_r excepted
on_excepted c (Some (ByProcessor i (TlbCreate va))) = false
on_excepted c (Some (ByProcessor i (TlbExtend w))) = false
on_excepted c (Some (ByProcessor i (TlbAccessed w))) = false
on_excepted c (Some (ByProcessor i StoreBuffer)) = false
on_excepted c (Some (ByApic (SendIpi i))) = false
on_excepted c (Some (ByApic (SendEoi i))) = false
on_excepted c (Some (ByApic (InitCore i))) = false
on_excepted c (Some (ByApic (StartCore i))) = false
on_excepted c (Some (ByApic (Sample k))) = false
on_excepted c (Some (ByApic (Deliver k))) = false
on_excepted c (Some (ByApic (SetLine k level))) = false
on_excepted c None = false

-- what is claimed: δ, and instead of it, where it is not claimed, the same step but for iev[7], which is the trade's
unfoldable pub claimed : Configuration → Option Step → report.Outcome
claimed c a = if on_excepted c a then report.δBy ovf_of c a else report.δ c a

-- the printed table in the trade's words: addu, addiu and subu overflow; add, addi and sub never do, nor does any other
-- instruction
abbrev pub overflow_printed : Instruction → ℕ → ℕ → Bool
overflow_printed x a b =
    if one_of x (Instruction.Alu Addu ∷ Instruction.Immediate Addiu ∷ []) then not (within 32 (signed 32 a +ℤ signed 32 b))
    else if one_of x (Instruction.Alu Subu ∷ []) then not (within 32 (signed 32 a -ℤ signed 32 b))
    else false

-- how far the exception goes
pub record Exception : Type 0 where
  -- the table comes to that, and so differs from the rule on those words alone, and there only where the signed sum or
  -- difference does not fit 32 bits
  pub in_words : (c : Registers) (w : ℕ) → report.by_table (decoded w) c w ≡ overflow_printed (decoded w) (lop c w) (rop (rtype (decoded w)) c w)
  -- where it does not differ on the instruction, the claim is δ
  pub agreeing : (c : Configuration) (i : ℕ) (w_i w_r : Walk) →
      (let I = report.I c i w_i w_r in report.by_table (decoded I) (report.cᵢ c i) I ≡ ovf_of (decoded I) (report.cᵢ c i) I) → claimed c (Some (ByProcessor i (Core w_i w_r))) ≡ report.δ c (Some (ByProcessor i (Core w_i w_r)))
  -- and so it is where the status register masks overflow
  pub masked : (c : Configuration) (i : ℕ) (w_i w_r : Walk) → is_set (spr_at (report.cᵢ c i) at.sr) 7 ≡ false → claimed c (Some (ByProcessor i (Core w_i w_r))) ≡ report.δ c (Some (ByProcessor i (Core w_i w_r)))

-- ---- demand 2: for sound tables

-- δ has a next configuration; with that answer, and alike
pub record Allowed (o : report.Outcome) : Type 0 where
  pub to : Configuration
  pub answer : report.Answer
  pub is_next : o ≡ report.next to answer

pub record Next (o : report.Outcome) (answer : report.Answer) (c : Configuration) : Type 0 where
  pub to : Configuration
  pub is_next : o ≡ report.next to answer
  pub agrees : Same to c

-- the step a on the tables t beside the memory m, where M has the bytes beyond memory
module _ (t m : List ℕ) (a : Option Step) where
  abbrev pub outcome : (ℕ → ℕ) → report.Outcome
  outcome M = report.δ (view t m M) a

  -- every byte that is needed is there
  abbrev pub Present : Type 0
  Present = (M : ℕ → ℕ) (x : ℕ) → misses (view t m M) a (length m) x ≡ false

  -- a store that takes effect, with eight pending
  pub record Full (M : ℕ → ℕ) : Type 0 where
    pub i : ℕ
    pub w_i : Walk
    pub w_r : Walk
    pub is_core : a ≡ Some (ByProcessor i (Core w_i w_r))
    pub is_store : report.does (view t m M) i w_i w_r report.by_table store ≡ true
    pub eight : length ((view t m M).p i).sb ≡ 8

  -- the walk w that the step adds to processor i
  pub data Adds (M : ℕ → ℕ) : ℕ → Walk → Type 0 where
    creates : (i va : ℕ) → a ≡ Some (ByProcessor i (TlbCreate va)) → Adds M i (report.created (view t m M) i va)
    extends : (i : ℕ) (w : Walk) → a ≡ Some (ByProcessor i (TlbExtend w)) → Adds M i (report.extended (view t m M) i w)

  -- it is new, and 23 are held
  pub record Crowded (M : ℕ → ℕ) : Type 0 where
    pub i : ℕ
    pub w : Walk
    pub adds : Adds M i w
    pub new : ((view t m M).p i).tlb w ≡ false
    pub held : length (walks (block t i)) ≡ 23

-- what the view does not see of the tables t and the memory m, after which come u and n
pub record Kept (t m u n : List ℕ) : Type 0 where
  pub sound_after : sound u (length n) ≡ true
  pub long : length u ≡ length t
  pub memory_long : length n ≡ length m
  pub cores : cores_of u ≡ cores_of t
  pub pages : pages_of u ≡ pages_of t
  pub count : refusals_of u ≡ refusals_of t
  pub core_counts : (k : ℕ) → k < cores_of t → core_refusals_of (block u k) ≡ core_refusals_of (block t k)

module _ (t m s : List ℕ) where
  abbrev pub a : Option Step
  a = step_of (cores_of t) s

  -- accepted with the answer r: δ gives it, but for the exception, and the view of what step leaves with the same bytes
  -- beyond memory; nothing that would refuse it is there
  pub record Accepted (r : report.Answer) : Type 0 where
    pub next : (M : ℕ → ℕ) → Next (claimed (view t m M) a) r (view (step t m s).tables (step t m s).memory M)
    pub kept : Kept t m (step t m s).tables (step t m s).memory
    pub present : Present t m a
    pub not_full : (M : ℕ → ℕ) → Full t m a M → ⊥
    pub not_crowded : (M : ℕ → ℕ) → Crowded t m a M → ⊥

  -- what each answer of step rests on; there is no ground for any other, so 10 is never answered
  pub data Ground : Result Answer Refusal → Type 0 where
    done : Accepted report.done → Ground (Ok Done)
    interrupt : (level : ℕ) → Accepted (report.interrupt level) → Ground (Ok (Interrupt level))
    -- 5: not a step
    no_step : a ≡ None → Ground (Err NotAStep)
    -- 6: a step for which δ is not defined, whatever is beyond memory
    undefined : (a ≡ None → ⊥) → ((M : ℕ → ℕ) → outcome t m a M ≡ report.none) → Ground (Err NoNextState)
    -- 7: a byte that is needed is nowhere; with some bytes beyond memory δ is defined
    no_byte : (x : ℕ) → ((M : ℕ → ℕ) → misses (view t m M) a (length m) x ≡ true) → (M : ℕ → ℕ) → ((y : ℕ) → M y < 2 ^ 8) → Allowed (outcome t m a M) → Ground (Err ByteNowhere)
    -- 8: δ allows it, and it is a ninth store
    no_store : Present t m a → ((M : ℕ → ℕ) → Allowed (outcome t m a M)) → ((M : ℕ → ℕ) → Full t m a M) → Ground (Err StoresFull)
    -- 9: δ allows it, and it adds a twenty-fourth walk
    no_walk : Present t m a → ((M : ℕ → ℕ) → Allowed (outcome t m a M)) → ((M : ℕ → ℕ) → Crowded t m a M) → Ground (Err WalksFull)

abbrev pub Demand2 : Type 0
Demand2 = (t m s : List ℕ) → sound t (length m) ≡ true → Words t → Bytes m → Ground t m s (step t m s).answer

-- in the customer's words: what δ allows is accepted, or refused 7 to 10
abbrev pub limited : Result Answer Refusal → Bool
limited (Ok x) = true
limited (Err r) = leb 7 (number r) && leb (number r) 10

abbrev pub Unhindered : Type 0
Unhindered =
    (t m s : List ℕ) → sound t (length m) ≡ true → Words t → Bytes m
    → (M : ℕ → ℕ) → Allowed (outcome t m (step_of (cores_of t) s) M) → limited (step t m s).answer ≡ true

-- ---- reset: 12.1, clause by clause

pub record Reset (c : Configuration) : Type 0 where
  pub pc : (i : ℕ) → i < c.np → (c.p i).core.pc ≡ 0
  pub running : c.running 0 ≡ true
  pub waiting : (i : ℕ) → 1 ≤ i → i < c.np → c.running i ≡ false
  pub mode : (i : ℕ) → i < c.np → spr_at (c.p i).core at.mode ≡ 0
  pub sb : (i : ℕ) → i < c.np → (c.p i).sb ≡ []
  pub tlb : (i : ℕ) → i < c.np → (w : Walk) → (c.p i).tlb w ≡ false
  pub rirr : (k : ℕ) → k < line_count → bit (c.ioapic.redirect k) 14 ≡ 0
  pub ds : (k : ℕ) → k < line_count → bit (c.ioapic.redirect k) 12 ≡ 0
  pub mask : (k : ℕ) → k < line_count → bit (c.ioapic.redirect k) 16 ≡ 0  -- reading: the formula; the prose says masked
  pub IRR : (i : ℕ) → i < c.np → (j : ℕ) → j < 256 → bit_at irr (c.p i).apic j ≡ 0
  pub ISR : (i : ℕ) → i < c.np → (j : ℕ) → j < 256 → bit_at isr (c.p i).apic j ≡ 0
  pub ICR_zero : (i : ℕ) → i < c.np → ICR (c.p i).apic ≡ 0
  pub APIC_ID : (i : ℕ) → i < c.np → ID (c.p i).apic ≡ i
  pub dev : (k : ℕ) → k < line_count → c.irq k ≡ false  -- a device is its line (01)

-- a machine of n cores and p pages as made is sound, and beside any memory as after reset
pub record Fresh (n p : ℕ) : Type 0 where
  pub is_sound : sound (made n p) (at.page_bytes * p) ≡ true
  pub np : (m : List ℕ) (M : ℕ → ℕ) → (view (made n p) m M).np ≡ n
  pub reset : (m : List ℕ) (M : ℕ → ℕ) → Reset (view (made n p) m M)
  -- no refusal is counted yet
  pub count : refusals_of (made n p) ≡ 0
  pub core_counts : (k : ℕ) → k < n → core_refusals_of (block (made n p) k) ≡ 0

abbrev pub Resets : Type 0
Resets = (n p : ℕ) → 1 ≤ n → n ≤ at.most_cores → 1 ≤ p → p ≤ at.most_pages → Fresh n p
