-- The words of a block below the records, place by place: what a written word does to soundness and to the views.
-- Assumes nothing.
use mathlib.Core.Path.{◌≡◌, refl, sym, ap, ◌∙◌}
use mathlib.Core.Logic.{◌≢◌, ⊎_elim, ◌⊎◌, inl, inr}
use Prim.Native.Nat.{ℕ, zero, suc, ◌+◌, ◌-◌, ◌<◌, ◌≤◌}
use mathlib.Core.Bool.{Bool, true, false}
use mathlib.Core.List.{List}
use native.Mathlib.Omega.{arith}
use native.Mathlib.Decide.{ℕ_discrete}
use lib.ListN.{length, get_or, set, take, drop, length-set, length-take, length-drop}
use lib.Seq.{get_or-set_other, get_or-set_same, ext_get_or, get_or-take, get_or-drop}
use Rattle.std.specs.Bool.{MatchBool}
use Rattle.std.specs.List.{AllWithin, HoldsAt}
use Rattle.std.proofs.lemmas.Bool.{false_from_ne_true}
use lib.Dec.{eqb}
use borrow.Author.Tests.{eq-eqb, eqb-true, lt-ltb, ltb-true, le-leb, leb-true}
use Rattle.layout.specs.Layout as at
use Rattle.records.specs.Records.{stores, walks}
use Rattle.records.proofs.Counts.{either}
use Rattle.records.proofs.Frame.{Alike, set_alike, same_stores, same_walks, same_sound}
use Rattle.tables.specs.Views.{running_of, sipirr_of, sipivect_of, initrr_of, registers_of}
use Rattle.tables.specs.Sound.{zero_from, is_flag, sound_words, sound_block}
use Rattle.tables.proofs.Parts.{words_of, records_of, of_parts}
use Rattle.word.proofs.Truth.{and_left, and_right, and_both}

-- ---- sound words as facts

pub record Words (b : List ℕ) : Type 0 where
  pub zero_register : get_or b at.gpr 0 ≡ 0
  pub gap : get_or b at.block_gap 0 ≡ 0
  pub rest : (i : ℕ) → at.block_rest ≤ i → i < at.records → get_or b i 0 ≡ 0
  pub running : running_of b ≤ 1
  pub sipirr : sipirr_of b ≤ 1
  pub initrr : initrr_of b ≤ 1
  pub vector : sipivect_of b < 256

zeros_elim : (d i : ℕ) (b : List ℕ) → zero_from d i b ≡ true → (j : ℕ) → i ≤ j → j < i + d → get_or b j 0 ≡ 0
zeros_elim zero i b e j p q = absurd (omega arith)
zeros_elim (suc d) i b e j p q =
    either (ℕ_discrete j i) (λ r. ap (λ (k : ℕ). get_or b k 0) r ∙ eqb-true (get_or b i 0) 0 (and_left (eqb (get_or b i 0) 0) (zero_from d (i + 1) b) e))
    (λ r. zeros_elim d (i + 1) b (and_right (eqb (get_or b i 0) 0) (zero_from d (i + 1) b) e) j (omega arith) (omega arith))

zeros_intro : (d i : ℕ) (b : List ℕ) → ((j : ℕ) → i ≤ j → j < i + d → get_or b j 0 ≡ 0) → zero_from d i b ≡ true
zeros_intro zero i b f = refl
zeros_intro (suc d) i b f =
    and_both (eqb (get_or b i 0) 0) (zero_from d (i + 1) b) (eq-eqb (get_or b i 0) 0 (f i (omega arith) (omega arith))) (zeros_intro d (i + 1) b (λ j p q. f j (omega arith) (omega arith)))

-- a test of each of the d words from i
module _ (d i : ℕ) (b : List ℕ) (p : i + d ≤ length b) where
  abbrev part : List ℕ
  part = take (i + d - i) (drop i b)

  part_long : length part ≡ d
  part_long = omega (arith, length-take (i + d - i) (drop i b), length-drop i b)

  part_at : (j : ℕ) → j < d → get_or part j 0 ≡ get_or b (i + j) 0
  part_at j h = get_or-take (i + d - i) (drop i b) j 0 (omega arith) ∙ get_or-drop i b j 0

  pub zeros_by : (r : Bool) → MatchBool r (AllWithin (λ x. x ≡ 0) part 0 (length part)) ((k : ℕ) × (k < length part) × HoldsAt (λ x. x ≢ 0) part k) → r ≡ zero_from d i b
  zeros_by true m =
      sym (zeros_intro d i b (λ j g h. let e : i + (j - i) ≡ j = omega arith in
      ap (λ (n : ℕ). get_or b n 0) (sym e) ∙ sym (part_at (j - i) (omega arith)) ∙ m (j - i) 0 (omega arith) (omega (arith, part_long))))
  zeros_by false (k, h, m) =
      let q : k < d = omega (arith, part_long) in
      sym (false_from_ne_true (zero_from d i b) (λ y. m 0 (part_at k q ∙ zeros_elim d i b y (i + k) (omega arith) (omega arith))))

module _ (b : List ℕ) where
  pub words_facts : sound_words b ≡ true → Words b
  unfolding sound_words
  words_facts e =
      let e₁ = and_right (eqb (get_or b at.gpr 0) 0) _ e in
      let e₂ = and_right (eqb (get_or b at.block_gap 0) 0) _ e₁ in
      let z = and_left (zero_from at.block_rest_words at.block_rest b) _ e₂ in
      let e₃ = and_right (zero_from at.block_rest_words at.block_rest b) _ e₂ in
      let e₄ = and_right (is_flag (running_of b)) _ e₃ in
      let e₅ = and_right (is_flag (sipirr_of b)) _ e₄ in
      record {
        zero_register = eqb-true (get_or b at.gpr 0) 0 (and_left (eqb (get_or b at.gpr 0) 0) _ e);
        gap = eqb-true (get_or b at.block_gap 0) 0 (and_left (eqb (get_or b at.block_gap 0) 0) _ e₁);
        rest = λ i p q. zeros_elim at.block_rest_words at.block_rest b z i p (omega arith);
        running = leb-true (running_of b) 1 (and_left (is_flag (running_of b)) _ e₃);
        sipirr = leb-true (sipirr_of b) 1 (and_left (is_flag (sipirr_of b)) _ e₄);
        initrr = leb-true (initrr_of b) 1 (and_left (is_flag (initrr_of b)) _ e₅);
        vector = ltb-true (sipivect_of b) 256 (and_right (is_flag (initrr_of b)) _ e₅);
      }

  pub facts_words : Words b → sound_words b ≡ true
  unfolding sound_words
  facts_words W =
      and_both (eqb (get_or b at.gpr 0) 0) _ (eq-eqb (get_or b at.gpr 0) 0 W.zero_register)
      (and_both (eqb (get_or b at.block_gap 0) 0) _ (eq-eqb (get_or b at.block_gap 0) 0 W.gap)
      (and_both (zero_from at.block_rest_words at.block_rest b) _ (zeros_intro at.block_rest_words at.block_rest b (λ i p q. W.rest i p (omega arith)))
      (and_both (is_flag (running_of b)) _ (le-leb (running_of b) 1 W.running)
      (and_both (is_flag (sipirr_of b)) _ (le-leb (sipirr_of b) 1 W.sipirr)
      (and_both (is_flag (initrr_of b)) _ (le-leb (initrr_of b) 1 W.initrr) (lt-ltb (sipivect_of b) 256 W.vector))))))

-- another block whose words below the records are the same, but for the heads
pub words_same : (b c : List ℕ) → ((i : ℕ) → i < 128 → i ≢ at.store_head → i ≢ at.walk_head → i ≢ at.free_head → get_or c i 0 ≡ get_or b i 0) → sound_words b ≡ true → sound_words c ≡ true
words_same b c f e =
    let W = words_facts b e in
    let s : (i : ℕ) → (i < 68) ⊎ ((70 < i) × (i < 128)) → get_or c i 0 ≡ get_or b i 0 = λ i p. f i (⊎_elim (λ q. omega arith) (λ q. omega arith) p) (⊎_elim (λ q. omega arith) (λ q. omega arith) p) (⊎_elim (λ q. omega arith) (λ q. omega arith) p) (⊎_elim (λ q. omega arith) (λ q. omega arith) p) in
    facts_words c
    (record {
      zero_register = s 0 (inl (omega arith)) ∙ W.zero_register;
      gap = s 71 (inr (omega arith, omega arith)) ∙ W.gap;
      rest = λ i p q. s i (inr (omega arith, q)) ∙ W.rest i p q;
      running = omega (arith, W.running, s 67 (inl (omega arith)));
      sipirr = omega (arith, W.sipirr, s 112 (inr (omega arith, omega arith)));
      initrr = omega (arith, W.initrr, s 114 (inr (omega arith, omega arith)));
      vector = omega (arith, W.vector, s 113 (inr (omega arith, omega arith)));
    })

-- ---- a word is written

-- a value that word i may have
pub record Allowed (i v : ℕ) : Type 0 where
  pub low : i < 128
  pub no_head : (i < at.store_head) ⊎ (at.free_head < i)
  pub zero_register : i ≡ at.gpr → v ≡ 0
  pub gap : i ≡ at.block_gap → v ≡ 0
  pub rest : at.block_rest ≤ i → v ≡ 0
  pub running : i ≡ at.running → v ≤ 1
  pub sipirr : i ≡ at.sipirr → v ≤ 1
  pub initrr : i ≡ at.initrr → v ≤ 1
  pub vector : i ≡ at.sipivect → v < 256

-- any value: a register but general register 0, or the APIC's ports and eoipending
pub any_allowed : (i v : ℕ) → ((0 < i) × (i < at.running)) ⊎ ((at.ports ≤ i) × (i < at.sipirr)) → Allowed i v
any_allowed i v (inl p) =
    record { low = omega arith; no_head = inl (omega arith); zero_register = λ e. omega arith; gap = λ e. omega arith; rest = λ e. omega arith; running = λ e. omega arith; sipirr = λ e. omega arith; initrr = λ e. omega arith; vector = λ e. omega arith }
any_allowed i v (inr p) =
    record { low = omega arith; no_head = inr (omega arith); zero_register = λ e. omega arith; gap = λ e. omega arith; rest = λ e. omega arith; running = λ e. omega arith; sipirr = λ e. omega arith; initrr = λ e. omega arith; vector = λ e. omega arith }

-- and the refusal count
pub count_allowed : (v : ℕ) → Allowed at.core_refusals v
count_allowed v =
    record { low = omega arith; no_head = inr (omega arith); zero_register = λ e. omega arith; gap = λ e. omega arith; rest = λ e. omega arith; running = λ e. omega arith; sipirr = λ e. omega arith; initrr = λ e. omega arith; vector = λ e. omega arith }

module _ (b : List ℕ) (i v : ℕ) (A : Allowed i v) where
  pub set_same : Alike b (set b i v)
  set_same =
      set_alike b i v A.low (⊎_elim (λ q. omega arith) (λ q. omega arith) A.no_head) (⊎_elim (λ q. omega arith) (λ q. omega arith) A.no_head) (⊎_elim (λ q. omega arith) (λ q. omega arith) A.no_head)

  pub set_stores : stores (set b i v) ≡ stores b
  set_stores = same_stores set_same

  pub set_walks : walks (set b i v) ≡ walks b
  set_walks = same_walks set_same

  -- the word itself, and a test that it and the old word pass
  at_word : length b ≡ 256 → (P : ℕ → Type 0) (j : ℕ) → (i ≡ j → P v) → P (get_or b j 0) → P (get_or (set b i v) j 0)
  at_word long P j f g =
      either (ℕ_discrete i j)
      (λ e. rw (← e) (rw (get_or-set_same b i v 0 (omega (arith, A.low))) (f e)))
      (λ d. rw (get_or-set_other b i j v 0 (λ e. d (sym e))) g)

  pub set_sound : (n : ℕ) → length b ≡ 256 → sound_block n b ≡ true → sound_block n (set b i v) ≡ true
  set_sound n long e =
      let W = words_facts b (words_of n b e) in
      of_parts n (set b i v)
      (facts_words (set b i v)
      (record {
        zero_register = at_word long (λ x. x ≡ 0) at.gpr A.zero_register W.zero_register;
        gap = at_word long (λ x. x ≡ 0) at.block_gap A.gap W.gap;
        rest = λ j p q. at_word long (λ x. x ≡ 0) j (λ r. A.rest (omega arith)) (W.rest j p q);
        running = at_word long (λ x. x ≤ 1) at.running A.running W.running;
        sipirr = at_word long (λ x. x ≤ 1) at.sipirr A.sipirr W.sipirr;
        initrr = at_word long (λ x. x ≤ 1) at.initrr A.initrr W.initrr;
        vector = at_word long (λ x. x < 256) at.sipivect A.vector W.vector;
      }))
      (same_sound set_same n ∙ records_of n b e)

-- ---- runs of words

-- two blocks with the same words from i on have the same run there
pub run_same : (b c : List ℕ) (i k : ℕ) → length c ≡ length b → ((j : ℕ) → i ≤ j → j < i + k → get_or c j 0 ≡ get_or b j 0) → take k (drop i c) ≡ take k (drop i b)
run_same b c i k e f =
    ext_get_or 0 (take k (drop i c)) (take k (drop i b)) (simp (length-take, length-drop, e))
    (λ j p.
    let q : j < k = omega (arith, p, length-take k (drop i c)) in
    get_or-take k (drop i c) j 0 q ∙ get_or-drop i c j 0 ∙ f (i + j) (omega arith) (omega arith) ∙ sym (get_or-drop i b j 0) ∙ sym (get_or-take k (drop i b) j 0 q))

-- two blocks with the same words below running have the same registers
pub registers_same : (b c : List ℕ) → length c ≡ length b → ((j : ℕ) → j < at.running → get_or c j 0 ≡ get_or b j 0) → registers_of c ≡ registers_of b
unfolding registers_of
registers_same b c e f =
    λ i. record {
      gpr = run_same b c at.gpr 32 e (λ j p q. f j (omega arith)) i;
      spr = run_same b c at.spr 32 e (λ j p q. f j (omega arith)) i;
      pc = f 64 (omega arith) i;
      hi = f 65 (omega arith) i;
      lo = f 66 (omega arith) i;
    }

-- a word above the registers is written
pub set_registers : (b : List ℕ) (i v : ℕ) → at.running ≤ i → registers_of (set b i v) ≡ registers_of b
set_registers b i v h = registers_same b (set b i v) (length-set b i v) (λ j p. get_or-set_other b i j v 0 (omega arith))

-- a run that the written word is not in
pub set_run : (b : List ℕ) (i v from k : ℕ) → (i < from) ⊎ (from + k ≤ i) → take k (drop from (set b i v)) ≡ take k (drop from b)
set_run b i v from k p =
    run_same b (set b i v) from k (length-set b i v) (λ j l m. get_or-set_other b i j v 0 (⊎_elim (λ q. omega arith) (λ q. omega arith) p))
