-- The bytes that a core's step needs: which of them is missing, and when none is.
-- Assumes nothing.
use Rattle.std.specs.Prelude.{if◌then◌else◌}
use mathlib.Core.Path.{◌≡◌, refl, sym, ◌∙◌, ap}
use mathlib.Core.Bool.{Bool, true, false, not, ◌&&◌, ◌||◌}
use mathlib.Core.List.{List}
use Prim.Native.Nat.{ℕ, ◌+◌, ◌<◌, ◌≤◌}
use lib.ListN.{length}
use native.Mathlib.Omega.{arith}
use borrow.Author.Tests.{lt-ltb, le-ltb}
use Rattle.word.proofs.Tests.{true_false, and_false}
use Rattle.word.proofs.Truth.{and_left, and_right, and_both, or_first, or_second, or_off}
use Rattle.decode.specs.declared.Instruction.{Instruction}
use Rattle.decode.specs.Table.{decoded}
use Rattle.decode.specs.Mnemonics.{load, store, cas}
use Rattle.isa.specs.Core.{ea, d}
use Rattle.isa.specs.Interrupts.{user, ovf_of}
use Rattle.records.specs.declared.Walk.{Walk}
use Rattle.records.specs.Contents.{there, all_there}
use Rattle.tlb.specs.declared.Request.{Request}
use Rattle.tlb.specs.Walks.{complete, hit, ptea, load_r, store_r}
use Rattle.store_buffer.specs.Buffer.{sbhit}
use Rattle.tables.specs.Views.{cores_of}
use Rattle.cores.proofs.Accesses.{not_not}
use Rattle.cores.specs.Core.{View, physical, is_access, data_request_of, fetch_request_of}
use Rattle.report.specs.Configuration.{Configuration}
use Rattle.report.specs.Components.{inside}
use Rattle.report.specs.Delta as report
use Rattle.report.specs.View.{view, processor_of}
use Rattle.report.specs.Needs.{no_byte, no_place, core_misses}
use Rattle.report.proofs.Rules.{load_not, store_not, cas_not, does_same}
use Rattle.report.proofs.Memory.{consulted, inside_from, inside_is, all_there_at}
use Rattle.report.proofs.CoreGuards.{off}
use Rattle.report.proofs.CoreFacts as facts
use Rattle.report.proofs.CoreRefusals.{Fetched, is_fetched, is_word, at_address}

-- ---- a range of bytes that is needed if g

by_truth : (g : Bool) → (g ≡ true → g ≡ false) → g ≡ false
by_truth true e = e refl
by_truth false e = refl

module _ (n : ℕ) (g : Bool) (y a d : ℕ) where
  pub in_memory : (g ≡ true → a + d ≤ n) → no_byte n (g && inside y a d) y ≡ false
  in_memory h =
      by_truth (no_byte n (g && inside y a d) y)
      (λ e.
      let p = and_left (g && inside y a d) _ e in
      let r = inside_from y a d (and_right g _ p) in
      let l : y < n = omega (arith, h (and_left g _ p), r.1) in
      ap (λ (t : Bool). (g && inside y a d) && not t) (lt-ltb y n l) ∙ and_false (g && inside y a d))

  pub out_of_memory : g ≡ true → a ≤ y → y < a + d → n ≤ y → no_byte n (g && inside y a d) y ≡ true
  out_of_memory e l h k = and_both (g && inside y a d) _ (and_both g _ e (inside_is y a d l h)) (ap not (le-ltb y n k))

  pub in_place : (g ≡ true → a ≤ y → y < a + d → there n y ≡ true) → no_place n (g && inside y a d) y ≡ false
  in_place h =
      by_truth (no_place n (g && inside y a d) y)
      (λ e.
      let p = and_left (g && inside y a d) _ e in
      let r = inside_from y a d (and_right g _ p) in
      ap (λ (t : Bool). (g && inside y a d) && not t) (h (and_left g _ p) r.0 r.1) ∙ and_false (g && inside y a d))

  pub out_of_place : g ≡ true → a ≤ y → y < a + d → there n y ≡ false → no_place n (g && inside y a d) y ≡ true
  out_of_place e l h k = and_both (g && inside y a d) _ (and_both g _ e (inside_is y a d l h)) (ap not k)

-- ---- the six needs

module _ (c : Configuration) (i : ℕ) (w_i w_r : Walk) (n y : ℕ) where
  abbrev pub N₁ : Bool
  N₁ = no_byte n (report.uses_i c i w_i w_r && not (complete w_i) && hit (report.trq_i c i w_i w_r) w_i && inside y (ptea w_i) 4) y

  abbrev pub N₂ : Bool
  N₂ = no_byte n (report.fetched c i w_i w_r && inside y (report.pma_i c i w_i w_r) 4) y

  abbrev pub N₃ : Bool
  N₃ = no_byte n (report.uses_r c i w_i w_r && not (complete w_r) && hit (report.trq_ea c i w_i w_r) w_r && inside y (ptea w_r) 4) y

  abbrev pub N₄ : Bool
  N₄ = no_place n (report.does c i w_i w_r report.by_table load && not (sbhit (report.sbᵢ c i) y) && inside y (report.pma_ea c i w_i w_r) (report.d_i c i w_i w_r)) y

  abbrev pub N₅ : Bool
  N₅ = no_place n (report.does c i w_i w_r report.by_table store && inside y (report.pma_ea c i w_i w_r) (report.d_i c i w_i w_r)) y

  abbrev pub N₆ : Bool
  N₆ = no_byte n (report.does c i w_i w_r report.by_table cas && inside y (report.pma_ea c i w_i w_r) 4) y

  abbrev pub missing : Bool
  missing = core_misses c i w_i w_r n y

  pub none_missing : N₁ ≡ false → N₂ ≡ false → N₃ ≡ false → N₄ ≡ false → N₅ ≡ false → N₆ ≡ false → missing ≡ false
  unfolding core_misses
  none_missing e₁ e₂ e₃ e₄ e₅ e₆ =
      or_off (N₁ || N₂ || N₃ || N₄ || N₅) N₆ (or_off (N₁ || N₂ || N₃ || N₄) N₅ (or_off (N₁ || N₂ || N₃) N₄ (or_off (N₁ || N₂) N₃ (or_off N₁ N₂ e₁ e₂) e₃) e₄) e₅) e₆

  past₃ : (N₁ || N₂ || N₃) ≡ true → missing ≡ true
  unfolding core_misses
  past₃ e = or_first (N₁ || N₂ || N₃ || N₄ || N₅) N₆ (or_first (N₁ || N₂ || N₃ || N₄) N₅ (or_first (N₁ || N₂ || N₃) N₄ e))

  pub missing₁ : N₁ ≡ true → missing ≡ true
  missing₁ e = past₃ (or_first (N₁ || N₂) N₃ (or_first N₁ N₂ e))

  pub missing₂ : N₂ ≡ true → missing ≡ true
  missing₂ e = past₃ (or_first (N₁ || N₂) N₃ (or_second N₁ N₂ e))

  pub missing₃ : N₃ ≡ true → missing ≡ true
  missing₃ e = past₃ (or_second (N₁ || N₂) N₃ e)

  pub missing₄ : N₄ ≡ true → missing ≡ true
  unfolding core_misses
  missing₄ e = or_first (N₁ || N₂ || N₃ || N₄ || N₅) N₆ (or_first (N₁ || N₂ || N₃ || N₄) N₅ (or_second (N₁ || N₂ || N₃) N₄ e))

  pub missing₅ : N₅ ≡ true → missing ≡ true
  unfolding core_misses
  missing₅ e = or_first (N₁ || N₂ || N₃ || N₄ || N₅) N₆ (or_second (N₁ || N₂ || N₃ || N₄) N₅ e)

  pub missing₆ : N₆ ≡ true → missing ≡ true
  unfolding core_misses
  missing₆ e = or_second (N₁ || N₂ || N₃ || N₄ || N₅) N₆ e

  -- what does not take effect needs nothing
  pub idle₄ : report.does c i w_i w_r ovf_of load ≡ false → N₄ ≡ false
  idle₄ e = off (report.does c i w_i w_r report.by_table load && not (sbhit (report.sbᵢ c i) y) && inside y (report.pma_ea c i w_i w_r) (report.d_i c i w_i w_r)) _
      (off (report.does c i w_i w_r report.by_table load && not (sbhit (report.sbᵢ c i) y)) _ (off (report.does c i w_i w_r report.by_table load) _ (does_same c i w_i w_r load load_not ∙ e)))

  pub idle₅ : report.does c i w_i w_r ovf_of store ≡ false → N₅ ≡ false
  idle₅ e = off (report.does c i w_i w_r report.by_table store && inside y (report.pma_ea c i w_i w_r) (report.d_i c i w_i w_r)) _ (off (report.does c i w_i w_r report.by_table store) _ (does_same c i w_i w_r store store_not ∙ e))

  pub idle₆ : report.does c i w_i w_r ovf_of cas ≡ false → N₆ ≡ false
  idle₆ e = off (report.does c i w_i w_r report.by_table cas && inside y (report.pma_ea c i w_i w_r) 4) _ (off (report.does c i w_i w_r report.by_table cas) _ (does_same c i w_i w_r cas cas_not ∙ e))

-- ---- on tables and memory

walk_asks : (u a k h : Bool) → (((u && a) && not k) && h) ≡ true → (u && (not k && h)) ≡ true
walk_asks true true k h e = e
walk_asks true false k h e = absurd (true_false (sym e))
walk_asks false a k h e = e

walk_asked : (u a k h : Bool) → u ≡ true → a ≡ true → (not k && h) ≡ true → (((u && a) && not k) && h) ≡ true
walk_asked true true k h p q e = e
walk_asked true false k h p q e = absurd (true_false (sym q))
walk_asked false a k h p q e = absurd (true_false (sym p))

module _ (t m : List ℕ) (i : ℕ) (h : i < cores_of t) (w_i w_r : Walk) where
  abbrev v : View
  v = facts.v t m i w_i w_r

  abbrev u : Bool
  u = user v.core

  abbrev al : Bool
  al = facts.al t m i w_i w_r

  abbrev pma_i : ℕ
  pma_i = facts.pma_i t m i w_i w_r

  abbrev n : ℕ
  n = length m

  -- the entries that are consulted are in memory
  abbrev pub HasI : Type 0
  HasI = al ≡ true → (u && consulted (fetch_request_of v.core) w_i) ≡ true → ptea w_i + 4 ≤ n

  abbrev pub HasR : ℕ → Type 0
  HasR w = (u && consulted (data_request_of v.core (decoded w) w) w_r) ≡ true → ptea w_r + 4 ≤ n

  module _ (M : ℕ → ℕ) where
    abbrev c : Configuration
    c = view t m M

    -- no byte of the step is missing
    abbrev pub None : Type 0
    None = (y : ℕ) → missing c i w_i w_r n y ≡ false

    has₁ : HasI → (y : ℕ) → N₁ c i w_i w_r n y ≡ false
    unfolding view processor_of
    has₁ e y =
        in_memory n (((u && al) && not (complete w_i)) && hit (fetch_request_of v.core) w_i) y (ptea w_i) 4
        (λ k. e (and_right u _ (and_left (u && al) _ (and_left ((u && al) && not (complete w_i)) _ k))) (walk_asks u al (complete w_i) (hit (fetch_request_of v.core) w_i) k))

    -- the entry for the fetch is missing
    pub misses_entry : u ≡ true → al ≡ true → consulted (fetch_request_of v.core) w_i ≡ true → n ≤ ptea w_i → missing c i w_i w_r n (ptea w_i) ≡ true
    unfolding view processor_of
    misses_entry p q e l =
        missing₁ c i w_i w_r n (ptea w_i)
        (out_of_memory n (((u && al) && not (complete w_i)) && hit (fetch_request_of v.core) w_i) (ptea w_i) (ptea w_i) 4 (walk_asked u al (complete w_i) (hit (fetch_request_of v.core) w_i) p q e) (omega arith) (omega arith) l)

    -- the instruction is
    pub misses_word : report.fetched c i w_i w_r ≡ true → n ≤ pma_i → missing c i w_i w_r n pma_i ≡ true
    misses_word e l =
        let q = facts.pma_is t m i w_i w_r M in
        missing₂ c i w_i w_r n pma_i (out_of_memory n (report.fetched c i w_i w_r) pma_i (report.pma_i c i w_i w_r) 4 e (omega arith) (omega arith) l)

    -- without an instruction
    pub has_without : report.fetched c i w_i w_r ≡ false → HasI → None
    has_without e k y =
        none_missing c i w_i w_r n y (has₁ k y) (ap (λ (f : Bool). no_byte n (f && inside y (report.pma_i c i w_i w_r) 4) y) e)
        (off (report.uses_r c i w_i w_r && not (complete w_r) && hit (report.trq_ea c i w_i w_r) w_r && inside y (ptea w_r) 4) _
        (off (report.uses_r c i w_i w_r && not (complete w_r) && hit (report.trq_ea c i w_i w_r) w_r) _
        (off (report.uses_r c i w_i w_r && not (complete w_r)) _ (off (report.uses_r c i w_i w_r) _ (facts.uses_none t m i w_i w_r M e)))))
        (idle₄ c i w_i w_r n y (facts.does_nothing t m i w_i w_r M e load)) (idle₅ c i w_i w_r n y (facts.does_nothing t m i w_i w_r M e store)) (idle₆ c i w_i w_r n y (facts.does_nothing t m i w_i w_r M e cas))

    -- ---- at the word w that was fetched

    module _ (w : ℕ) (F : Fetched t m i h w_i w_r M w) where
      abbrev x : Instruction
      x = decoded w

      abbrev rq : Request
      rq = data_request_of v.core x w

      fetches : report.fetched c i w_i w_r ≡ true
      fetches = is_fetched t m i h w_i w_r M w F

      abbrev a : ℕ
      a = physical v w_r (ea x v.core w)

      -- the entry for the access
      N₃At : Bool → ℕ → ℕ → Bool
      N₃At f k y =
          no_byte n
          (u && (f && store (decoded k) || f && load (decoded k) || f && cas (decoded k)) && not (complete w_r)
          && hit (record { asid = report.asidᵢ c i; va = ea (decoded k) v.core k; r = if f && store (decoded k) || f && cas (decoded k) then store_r else load_r }) w_r
          && inside y (ptea w_r) 4) y

      at₃ : (y : ℕ) → N₃ c i w_i w_r n y ≡ no_byte n (((u && is_access x) && not (complete w_r)) && hit rq w_r && inside y (ptea w_r) 4) y
      unfolding view processor_of N₃At
      at₃ y =
          ap (λ (f : Bool). N₃At f (report.I c i w_i w_r) y) fetches
          ∙ (ap (λ (k : ℕ). N₃At true k y) (is_word t m i h w_i w_r M w F)
          ∙ ap (λ (a : Bool). no_byte n (((u && a) && not (complete w_r)) && hit rq w_r && inside y (ptea w_r) 4) y) (facts.accessing (store x) (load x) (cas x)))

      pub misses_data_entry : u ≡ true → is_access x ≡ true → consulted rq w_r ≡ true → n ≤ ptea w_r → missing c i w_i w_r n (ptea w_r) ≡ true
      misses_data_entry p q e l =
          missing₃ c i w_i w_r n (ptea w_r)
          (at₃ (ptea w_r) ∙ out_of_memory n (((u && is_access x) && not (complete w_r)) && hit rq w_r) (ptea w_r) (ptea w_r) 4 (walk_asked u (is_access x) (complete w_r) (hit rq w_r) p q e) (omega arith) (omega arith) l)

      -- where what takes effect has its bytes
      pub has_fetched : HasI → pma_i + 4 ≤ n → (is_access x ≡ true → HasR w) →
          ((y : ℕ) → N₄ c i w_i w_r n y ≡ false) → ((y : ℕ) → N₅ c i w_i w_r n y ≡ false) → ((y : ℕ) → N₆ c i w_i w_r n y ≡ false) → None
      has_fetched k l r e₄ e₅ e₆ y =
          none_missing c i w_i w_r n y (has₁ k y)
          (in_memory n (report.fetched c i w_i w_r) y (report.pma_i c i w_i w_r) 4 (λ q. let z = facts.pma_is t m i w_i w_r M in omega arith))
          (at₃ y ∙ in_memory n (((u && is_access x) && not (complete w_r)) && hit rq w_r) y (ptea w_r) 4
          (λ q. r (and_right u _ (and_left (u && is_access x) _ (and_left ((u && is_access x) && not (complete w_r)) _ q))) (walk_asks u (is_access x) (complete w_r) (hit rq w_r) q)))
          (e₄ y) (e₅ y) (e₆ y)

      -- ---- a load, store or cas that takes effect

      at₄ : (y : ℕ) → N₄ c i w_i w_r n y ≡ no_place n (report.does c i w_i w_r report.by_table load && not (sbhit v.sb y) && inside y a (d x)) y
      unfolding view processor_of
      at₄ y =
          ap (λ (k : ℕ). no_place n (report.does c i w_i w_r report.by_table load && not (sbhit v.sb y) && inside y (report.pma_ea c i w_i w_r) (d (decoded k))) y) (is_word t m i h w_i w_r M w F)
          ∙ ap (λ (z : ℕ). no_place n (report.does c i w_i w_r report.by_table load && not (sbhit v.sb y) && inside y z (d x)) y) (at_address t m i h w_i w_r M w F)

      at₅ : (y : ℕ) → N₅ c i w_i w_r n y ≡ no_place n (report.does c i w_i w_r report.by_table store && inside y a (d x)) y
      at₅ y =
          ap (λ (k : ℕ). no_place n (report.does c i w_i w_r report.by_table store && inside y (report.pma_ea c i w_i w_r) (d (decoded k))) y) (is_word t m i h w_i w_r M w F)
          ∙ ap (λ (z : ℕ). no_place n (report.does c i w_i w_r report.by_table store && inside y z (d x)) y) (at_address t m i h w_i w_r M w F)

      at₆ : (y : ℕ) → N₆ c i w_i w_r n y ≡ no_byte n (report.does c i w_i w_r report.by_table cas && inside y a 4) y
      at₆ y = ap (λ (z : ℕ). no_byte n (report.does c i w_i w_r report.by_table cas && inside y z 4) y) (at_address t m i h w_i w_r M w F)

      pub loads : ((y : ℕ) → a ≤ y → y < a + d x → (not (sbhit v.sb y) && not (there n y)) ≡ false) → (y : ℕ) → N₄ c i w_i w_r n y ≡ false
      loads f y =
          at₄ y
          ∙ in_place n (report.does c i w_i w_r report.by_table load && not (sbhit v.sb y)) y a (d x)
          (λ p l k. not_not (there n y) (sym (ap (λ (z : Bool). z && not (there n y)) (and_right (report.does c i w_i w_r report.by_table load) _ p)) ∙ f y l k))

      pub misses_load : (y : ℕ) → report.does c i w_i w_r ovf_of load ≡ true → a ≤ y → y < a + d x → sbhit v.sb y ≡ false → there n y ≡ false → missing c i w_i w_r n y ≡ true
      misses_load y e l k p q =
          missing₄ c i w_i w_r n y (at₄ y ∙ out_of_place n (report.does c i w_i w_r report.by_table load && not (sbhit v.sb y)) y a (d x) (and_both (report.does c i w_i w_r report.by_table load) _ (does_same c i w_i w_r load load_not ∙ e) (ap not p)) l k q)

      pub stored : all_there (d x) n a ≡ true → (y : ℕ) → N₅ c i w_i w_r n y ≡ false
      stored e y = at₅ y ∙ in_place n (report.does c i w_i w_r report.by_table store) y a (d x) (λ p l k. all_there_at (d x) n a y e l k)

      pub misses_store : (y : ℕ) → report.does c i w_i w_r ovf_of store ≡ true → a ≤ y → y < a + d x → there n y ≡ false → missing c i w_i w_r n y ≡ true
      misses_store y e l k q = missing₅ c i w_i w_r n y (at₅ y ∙ out_of_place n (report.does c i w_i w_r report.by_table store) y a (d x) (does_same c i w_i w_r store store_not ∙ e) l k q)

      pub swaps : a + 4 ≤ n → (y : ℕ) → N₆ c i w_i w_r n y ≡ false
      swaps l y = at₆ y ∙ in_memory n (report.does c i w_i w_r report.by_table cas) y a 4 (λ p. l)

      pub misses_swap : (y : ℕ) → report.does c i w_i w_r ovf_of cas ≡ true → a ≤ y → y < a + 4 → n ≤ y → missing c i w_i w_r n y ≡ true
      misses_swap y e l k q = missing₆ c i w_i w_r n y (at₆ y ∙ out_of_memory n (report.does c i w_i w_r report.by_table cas) y a 4 (does_same c i w_i w_r cas cas_not ∙ e) l k q)
