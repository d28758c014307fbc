-- A core's step that fetches an instruction: one without an access, an access that is refused, faults or is stopped,
-- and the frame of what takes effect.
-- Assumes nothing.
use Rattle.std.specs.Prelude.{if◌then◌else◌, Ok, Err}
use Rattle.refusals.specs.declared.Refusal.TheVariants.{NoNextState, ByteNowhere}
use mathlib.Core.Path.{◌≡◌, refl, sym, ◌∙◌, ap}
use mathlib.Core.Bool.{Bool, true, false, not, ◌&&◌, ◌||◌}
use mathlib.Core.List.{List}
use Prim.Native.Nat.{ℕ, ◌+◌, ◌%◌, ◌^◌, ◌<◌, ◌≤◌}
use lib.ListN.{length}
use native.Mathlib.Omega.{arith}
use Rattle.word.proofs.Truth.{and-true}
use Rattle.word.proofs.Tests.{true_false, and_false}
use Rattle.layout.specs.Blocks.{block}
use Rattle.decode.specs.declared.Instruction.{Instruction}
use Rattle.decode.specs.Fields.{rs, rd}
use Rattle.decode.specs.Table.{decoded}
use Rattle.decode.specs.Mnemonics.{load, store, cas, flush, invlpg, eret}
use Rattle.isa.specs.Core.{gpr_at, ea}
use Rattle.isa.specs.Interrupts.{ovf_of, user, jisr, il, delta_jisr}
use Rattle.records.specs.declared.Walk.{Walk}
use Rattle.records.specs.declared.Flush.TheVariants.{All, Incomplete}
use Rattle.records.specs.Records.{among, walks, stores}
use Rattle.tlb.specs.Walks.{hit, complete, base_address, ptea, page_key}
use Rattle.store_buffer.specs.System.{is_port}
use Rattle.tables.specs.Views.{cores_of}
use Rattle.tables.specs.Sound.{sound}
use Rattle.apic.specs.LocalApic.{event}
use Rattle.steps.specs.declared.Answer.TheVariants.{Done}
use Rattle.cores.specs.declared.BufferChange.{BufferChange}
use Rattle.cores.specs.declared.WalkChange.{WalkChange}
use Rattle.cores.specs.declared.WalkChange.TheVariants.{Drop}
use Rattle.cores.specs.declared.Write.{Write}
use Rattle.cores.specs.Plans.{interrupted, changed, finished}
use Rattle.cores.specs.Core.{View, vector_of, suppressed, stopped, causes, faulted, physical, plain, dropped_by, is_access, finds_buffer, avoids_ports, has_hazard, data_request_of}
use Rattle.cores.specs.Commit.{written_to}
use Rattle.cores.proofs.Decisions.{MayBeDone}
use Rattle.cores.proofs.Sounds.{stores_after, tlb_after}
use Rattle.report.specs.Configuration.{Configuration}
use Rattle.report.specs.Components.{fault, ΣTlb, δtlb}
use Rattle.report.specs.Delta as report
use Rattle.report.specs.View.{view, processor_of, memory_of}
use Rattle.report.specs.Demands.{Words}
use Rattle.report.proofs.Memory.{nothing, consulted}
use Rattle.report.proofs.Flushed.{all_flushed, incomplete_flushed}
use Rattle.report.proofs.CoreGuards.{off}
use Rattle.report.proofs.CoreFacts as facts
use Rattle.report.proofs.CoreRefusals as guards
use Rattle.report.proofs.CoreRefusals.{Fetched, K, guarded, refuse, is_word, no_pff}
use Rattle.report.proofs.CoreNeeds as needs
use Rattle.report.proofs.CoreNeeds.{None, HasI, HasR, has_fetched, idle₄, idle₅, idle₆}
use Rattle.report.proofs.CoreEffects.{pfls_stops, is_interrupt, stops_at, quiet, R', stopped_lands, finished_interrupts, finished_done}
use Rattle.report.proofs.CoreStops.{sb_still, memory_still, tlb_still, tlb_data, missed, interrupts, finishes, halts}

-- none of three
each : (l s k : Bool) → (l || (s || k)) ≡ false → (l ≡ false) × (s ≡ false) × (k ≡ false)
each false false false e = (refl, refl, refl)
each false false true e = absurd (true_false e)
each false true k e = absurd (true_false e)
each true s k e = absurd (true_false e)

-- ---- what is fetched, whatever is beyond memory

module _ (t m : List ℕ) (e : sound t (length m) ≡ true) (low : Words t) (i : ℕ) (h : i < cores_of t) (w_i w_r : Walk) where
  abbrev b : List ℕ
  b = block t i

  abbrev v : View
  v = facts.v t m i w_i w_r

  abbrev u : Bool
  u = user v.core

  abbrev c : (ℕ → ℕ) → Configuration
  c M = view t m M

  abbrev k : ℕ
  k = vector_of (event b)

  pub record Found (w : ℕ) : Type 0 where
    pub fetched : (M : ℕ → ℕ) → Fetched t m i h w_i w_r M w
    pub entry : HasI t m i h w_i w_r
    pub within : facts.pma_i t m i w_i w_r + 4 ≤ length m

  module _ (w : ℕ) (F : Found w) where
    abbrev x : Instruction
    x = decoded w

    abbrev EA : ℕ
    EA = ea x v.core w

    pub waits : finds_buffer v.sb x ≡ false → K t m i h w_i w_r (Err NoNextState)
    waits f = refuse t m i h w_i w_r (λ M. guards.stops_buffer t m i h w_i w_r M w (F.fetched M) f)

    pub no_pff' : (M : ℕ → ℕ) → report.pff (c M) i w_i w_r ≡ false
    no_pff' M = facts.pff_is t m i w_i w_r M ∙ no_pff t m i h w_i w_r M w (F.fetched M)

    pub is_at : (M : ℕ → ℕ) (p : Instruction → Bool) → report.is (c M) i w_i w_r p ≡ p x
    is_at M p = facts.is_at t m i w_i w_r M (F.fetched M).aligned (no_pff t m i h w_i w_r M w (F.fetched M)) w (F.fetched M).read p

    -- ---- the causes, where f says whether the access faults

    module _ (f : Bool) (faults : (M : ℕ → ℕ) → report.pfls (c M) i w_i w_r ≡ f) where
      abbrev ca : ℕ
      ca = causes v x w f

      is_ca : (M : ℕ → ℕ) → report.mca (c M) i w_i w_r ovf_of ≡ ca
      is_ca M = facts.causes_are t m i w_i w_r M (F.fetched M).aligned (no_pff t m i h w_i w_r M w (F.fetched M)) w (F.fetched M).read f (faults M)

      pub does_is : (M : ℕ → ℕ) (p : Instruction → Bool) → report.does (c M) i w_i w_r ovf_of p ≡ (p x && not (suppressed ca))
      does_is M p = facts.does_is t m i w_i w_r M (F.fetched M).aligned (no_pff t m i h w_i w_r M w (F.fetched M)) w (F.fetched M).read f (faults M) p

      -- one that stops it
      module _ (s : suppressed ca ≡ true) where
        none : (M : ℕ → ℕ) (p : Instruction → Bool) → report.does (c M) i w_i w_r ovf_of p ≡ false
        none M p = does_is M p ∙ (ap (λ (y : Bool). p x && not y) s ∙ and_false (p x))

        stops : (ws : WalkChange) → MayBeDone (length m) b (Ok (stopped v w ca ws)) → (is_access x ≡ true → HasR t m i h w_i w_r w) → ((M : ℕ → ℕ) → guarded t m i h w_i w_r M ≡ true) →
            ((M : ℕ → ℕ) (y : Walk) → report.tlb' (c M) i w_i w_r ovf_of y ≡ among y (tlb_after ws (walks b))) → K t m i h w_i w_r (Ok (stopped v w ca ws))
        stops ws D l g z =
            halts t m i h w_i w_r e w ca ws D g
            (λ M. has_fetched t m i h w_i w_r M w (F.fetched M) F.entry F.within l (λ y. idle₄ (c M) i w_i w_r (length m) y (none M load)) (λ y. idle₅ (c M) i w_i w_r (length m) y (none M store)) (λ y. idle₆ (c M) i w_i w_r (length m) y (none M cas)))
            (λ M.
            stopped_lands t m i h w_i w_r M ca (is_ca M) w ws s
            (ap (λ (n : ℕ). delta_jisr v.core n (R' t m i h w_i w_r M) ca k) (is_word t m i h w_i w_r M w (F.fetched M)) ∙ stops_at v.core w (R' t m i h w_i w_r M) ca k (is_interrupt ca s).1)
            (sb_still t m i h w_i w_r M (none M store)) (z M) (memory_still t m i h w_i w_r M (none M cas)))

      -- one that does not, or none
      module _ (s : suppressed ca ≡ false) (R : ℕ) (is-R : (M : ℕ → ℕ) → R' t m i h w_i w_r M ≡ R) (bf : BufferChange) (ws : WalkChange) (wr : Write)
          (D : MayBeDone (length m) b (Ok (finished x w R ca k bf ws wr))) (q : quiet wr ≡ true)
          (sb : (M : ℕ → ℕ) → report.sb' (c M) i w_i w_r ovf_of ≡ stores_after bf (stores b)) (tlb : (M : ℕ → ℕ) (y : Walk) → report.tlb' (c M) i w_i w_r ovf_of y ≡ among y (tlb_after ws (walks b)))
          (mem : (M : ℕ → ℕ) (y : ℕ) → y < 2 ^ 32 → report.m' (c M) i w_i w_r ovf_of y ≡ memory_of (written_to wr m) M y) where
        pub finish : ((M : ℕ → ℕ) → guarded t m i h w_i w_r M ≡ true) → ((M : ℕ → ℕ) → None t m i h w_i w_r M) → K t m i h w_i w_r (Ok (finished x w R ca k bf ws wr))
        unfolding finished
        finish g n = go (jisr ca) refl D
          where
            go : (j : Bool) → jisr ca ≡ j → MayBeDone (length m) b (Ok (if j then interrupted w R ca k bf ws wr else record { answer = Done; core = changed x w R; buffer = bf; walks = ws; write = wr })) →
                K t m i h w_i w_r (Ok (if j then interrupted w R ca k bf ws wr else record { answer = Done; core = changed x w R; buffer = bf; walks = ws; write = wr }))
            go true p D =
                interrupts t m i h w_i w_r e (interrupted w R ca k bf ws wr) D q g n (il ca) refl
                (λ M. finished_interrupts t m i h w_i w_r M ca (is_ca M) w R (is_word t m i h w_i w_r M w (F.fetched M)) (is_at M eret) (is-R M) bf ws wr (sb M) (tlb M) (mem M) p)
            go false p D =
                finishes t m i h w_i w_r e (record { answer = Done; core = changed x w R; buffer = bf; walks = ws; write = wr }) D q g n refl
                (λ M. finished_done t m i h w_i w_r M ca (is_ca M) w R (is_word t m i h w_i w_r M w (F.fetched M)) (is_at M eret) (is-R M) bf ws wr (sb M) (tlb M) (mem M) p)

    pub nothing_read : load x ≡ false → cas x ≡ false → (M : ℕ → ℕ) → R' t m i h w_i w_r M ≡ 0
    nothing_read p q M =
        ap (λ (y : Bool). if y || report.is (c M) i w_i w_r cas then report.R (c M) i w_i w_r else 0) (is_at M load ∙ p)
        ∙ ap (λ (y : Bool). if y then report.R (c M) i w_i w_r else 0) (is_at M cas ∙ q)

    -- ---- no access

    module _ (n : is_access x ≡ false) (f : finds_buffer v.sb x ≡ true) where
      no_pfls : (M : ℕ → ℕ) → report.pfls (c M) i w_i w_r ≡ false
      no_pfls M =
          facts.pfls_is t m i w_i w_r M (F.fetched M).aligned (no_pff t m i h w_i w_r M w (F.fetched M)) w (F.fetched M).read
          ∙ off (u && is_access x) _ (ap (λ (y : Bool). u && y) n ∙ and_false u)

      plain_holds : (M : ℕ → ℕ) → guarded t m i h w_i w_r M ≡ true
      plain_holds M = guards.holds_plain t m i h w_i w_r M w (F.fetched M) n f

      abbrev ca₀ : ℕ
      ca₀ = causes v x w false

      pub plain_stops : suppressed ca₀ ≡ true → MayBeDone (length m) b (Ok (stopped v w ca₀ WalkChange.Nothing)) → K t m i h w_i w_r (Ok (stopped v w ca₀ WalkChange.Nothing))
      plain_stops s D =
          stops false no_pfls s WalkChange.Nothing D (λ y. absurd (true_false (sym y ∙ n))) plain_holds
          (λ M. tlb_still t m i h w_i w_r M (none false no_pfls s M flush) (none false no_pfls s M invlpg) (no_pff' M) (no_pfls M))

      module _ (s : suppressed ca₀ ≡ false) where
        does_all : (M : ℕ → ℕ) (p : Instruction → Bool) → report.does (c M) i w_i w_r ovf_of p ≡ p x
        does_all M p = does_is false no_pfls M p ∙ (ap (λ (y : Bool). p x && not y) s ∙ and-true (p x))

        off_all : (load x ≡ false) × (store x ≡ false) × (cas x ≡ false)
        off_all = each (load x) (store x) (cas x) n

        tlb_at : Configuration → Bool → Bool → Bool → Bool → ℕ → Walk → Bool
        tlb_at c f g p q n =
            if f then (λ y. false)
            else if g then δtlb (δtlb (report.tlbᵢ c i) (ΣTlb.flush_page (gpr_at v.core (rs n) % 2 ^ 6) (base_address (gpr_at v.core (rd n))))) ΣTlb.flush_incomplete
            else if p then δtlb (report.tlbᵢ c i) (ΣTlb.flush_page (report.asidᵢ c i) (base_address v.core.pc))
            else if q then δtlb (report.tlbᵢ c i) (ΣTlb.flush_page (report.asidᵢ c i) (base_address (ea (decoded n) v.core n)))
            else report.tlbᵢ c i

        dropped : (M : ℕ → ℕ) (y : Walk) → report.tlb' (c M) i w_i w_r ovf_of y ≡ among y (tlb_after (dropped_by v.core x w) (walks b))
        unfolding report.tlb' tlb_at view processor_of
        dropped M y =
            ap (λ (z : Walk → Bool). z y)
            (ap (λ (o : Bool). tlb_at (c M) o (report.does (c M) i w_i w_r ovf_of invlpg) (report.pff (c M) i w_i w_r) (report.pfls (c M) i w_i w_r) (report.I (c M) i w_i w_r)) (does_all M flush)
            ∙ (ap (λ (o : Bool). tlb_at (c M) (flush x) o (report.pff (c M) i w_i w_r) (report.pfls (c M) i w_i w_r) (report.I (c M) i w_i w_r)) (does_all M invlpg)
            ∙ (ap (λ (o : Bool). tlb_at (c M) (flush x) (invlpg x) o (report.pfls (c M) i w_i w_r) (report.I (c M) i w_i w_r)) (no_pff' M)
            ∙ (ap (λ (o : Bool). tlb_at (c M) (flush x) (invlpg x) false o (report.I (c M) i w_i w_r)) (no_pfls M)
            ∙ ap (λ (n : ℕ). tlb_at (c M) (flush x) (invlpg x) false false n) (is_word t m i h w_i w_r M w (F.fetched M))))))
            ∙ go (flush x) (invlpg x)
          where
            go : (f g : Bool) →
                (if f then (λ (y : Walk). false)
                else if g then δtlb (δtlb (λ (y : Walk). among y (walks b)) (ΣTlb.flush_page (gpr_at v.core (rs w) % 2 ^ 6) (base_address (gpr_at v.core (rd w))))) ΣTlb.flush_incomplete
                else (λ (y : Walk). among y (walks b))) y
                ≡ among y (tlb_after (if f then Drop All else if g then Drop (Incomplete (page_key (base_address (gpr_at v.core (rd w))) (gpr_at v.core (rs w) % 2 ^ 6))) else WalkChange.Nothing) (walks b))
            go true g = all_flushed (walks b) y
            go false true = incomplete_flushed (base_address (gpr_at v.core (rd w))) (gpr_at v.core (rs w) % 2 ^ 6) (omega arith) (walks b) y
            go false false = refl

        pub plain_done : MayBeDone (length m) b (Ok (plain v x w ca₀)) → K t m i h w_i w_r (Ok (plain v x w ca₀))
        unfolding written_to
        plain_done D =
            finish false no_pfls s 0 (nothing_read off_all.0 off_all.2) BufferChange.Nothing (dropped_by v.core x w) Write.Nothing D refl
            (λ M. sb_still t m i h w_i w_r M (does_all M store ∙ off_all.1)) dropped (λ M y l. memory_still t m i h w_i w_r M (does_all M cas ∙ off_all.2) y) plain_holds
            (λ M. has_fetched t m i h w_i w_r M w (F.fetched M) F.entry F.within (λ y. absurd (true_false (sym y ∙ n)))
            (λ y. idle₄ (c M) i w_i w_r (length m) y (does_all M load ∙ off_all.0)) (λ y. idle₅ (c M) i w_i w_r (length m) y (does_all M store ∙ off_all.1)) (λ y. idle₆ (c M) i w_i w_r (length m) y (does_all M cas ∙ off_all.2)))

    -- ---- an access

    module _ (acc : is_access x ≡ true) (f : finds_buffer v.sb x ≡ true) where
      pub access_unfit : (not u || (among w_r v.tlb && hit (data_request_of v.core x w) w_r)) ≡ false → K t m i h w_i w_r (Err NoNextState)
      access_unfit p = refuse t m i h w_i w_r (λ M. guards.stops_unfit_data t m i h w_i w_r M w (F.fetched M) acc p)

      module _ (held : (not u || (among w_r v.tlb && hit (data_request_of v.core x w) w_r)) ≡ true) where
        -- that faults
        pub access_faults : ((M : ℕ → ℕ) → (u && fault (memory_of m M) (data_request_of v.core x w) w_r) ≡ true) → ptea w_r + 4 ≤ length m →
            MayBeDone (length m) b (Ok (stopped v w (causes v x w true) (faulted v.core EA))) → K t m i h w_i w_r (Ok (stopped v w (causes v x w true) (faulted v.core EA)))
        unfolding view processor_of
        access_faults g l D =
            let p : (M : ℕ → ℕ) → report.pfls (c M) i w_i w_r ≡ true = λ M. guards.faults_as t m i h w_i w_r M w (F.fetched M) acc true (g M) in
            let s = pfls_stops v x w in
            stops true p s (faulted v.core EA) D (λ y z. l) (λ M. guards.holds_fault t m i h w_i w_r M w (F.fetched M) acc f held (g M))
            (λ M. tlb_data t m i h w_i w_r M (none true p s M flush) (none true p s M invlpg) (no_pff' M) (p M) EA (ap (λ (n : ℕ). ea (decoded n) v.core n) (is_word t m i h w_i w_r M w (F.fetched M))))

        -- whose entry is missing
        pub access_misses : u ≡ true → (u && fault (memory_of m nothing) (data_request_of v.core x w) w_r) ≡ true → consulted (data_request_of v.core x w) w_r ≡ true → length m ≤ ptea w_r → K t m i h w_i w_r (Err ByteNowhere)
        access_misses p g q l =
            missed t m i h w_i w_r (ptea w_r) (λ M. needs.misses_data_entry t m i h w_i w_r M w (F.fetched M) p acc q l) (guards.holds_fault t m i h w_i w_r nothing w (F.fetched nothing) acc f held g)

        -- that does not
        module _ (no : (M : ℕ → ℕ) → (u && fault (memory_of m M) (data_request_of v.core x w) w_r) ≡ false) (has : HasR t m i h w_i w_r w) where
          abbrev a : ℕ
          a = physical v w_r EA

          abbrev ca₁ : ℕ
          ca₁ = causes v x w false

          pub access_open : (not u || complete w_r) ≡ false → K t m i h w_i w_r (Err NoNextState)
          access_open p = refuse t m i h w_i w_r (λ M. guards.stops_open_data t m i h w_i w_r M w (F.fetched M) acc (no M) p)

          pub access_port : (avoids_ports x && is_port a) ≡ true → K t m i h w_i w_r (Err NoNextState)
          access_port p = refuse t m i h w_i w_r (λ M. guards.stops_at_port t m i h w_i w_r M w (F.fetched M) acc (no M) p)

          pub access_hazard : has_hazard v.sb x a ≡ true → K t m i h w_i w_r (Err NoNextState)
          access_hazard p = refuse t m i h w_i w_r (λ M. guards.stops_hazard t m i h w_i w_r M w (F.fetched M) acc (no M) p)

          pub no_fault : (M : ℕ → ℕ) → report.pfls (c M) i w_i w_r ≡ false
          no_fault M = guards.faults_as t m i h w_i w_r M w (F.fetched M) acc false (no M)

          module _ (ended : (not u || complete w_r) ≡ true) (free : (avoids_ports x && is_port a) ≡ false) (safe : has_hazard v.sb x a ≡ false) where
            pub holds : (M : ℕ → ℕ) → guarded t m i h w_i w_r M ≡ true
            holds M = guards.holds_access t m i h w_i w_r M w (F.fetched M) acc (no M) f held ended free safe

            pub access_stops : suppressed ca₁ ≡ true → MayBeDone (length m) b (Ok (stopped v w ca₁ WalkChange.Nothing)) → K t m i h w_i w_r (Ok (stopped v w ca₁ WalkChange.Nothing))
            access_stops s D =
                stops false no_fault s WalkChange.Nothing D (λ y. has) holds
                (λ M. tlb_still t m i h w_i w_r M (none false no_fault s M flush) (none false no_fault s M invlpg) (no_pff' M) (no_fault M))
