-- An access that takes effect: a load, a store, a cas.
-- Assumes nothing.
use Rattle.std.specs.Prelude.{if◌then◌else◌, Option, Some, None, Result, Ok, Err}
use Rattle.refusals.specs.declared.Refusal.{Refusal}
use Rattle.refusals.specs.declared.Refusal.TheVariants.{ByteNowhere, StoresFull, NoFreeRecord}
use mathlib.Core.Path.{◌≡◌, refl, sym, ◌∙◌, ap, subst}
use mathlib.Core.Bool.{Bool, true, false, not, ◌&&◌, ◌||◌}
use mathlib.Core.List.{List, [], ◌∷◌, ◌++◌}
use Prim.Native.Nat.{ℕ, ◌+◌, ◌-◌, ◌*◌, ◌%◌, ◌^◌, ◌<◌, ◌≤◌}
use lib.Dec.{eqb, ltb, leb}
use lib.ListN.{length, get_or}
use native.Mathlib.Omega.{arith}
use native.Mathlib.Nat.{mod-eq_of_lt}
use borrow.Author.Tests.{eqb-true, ltb-true, leb-true, leb-false, lt-leb}
use Rattle.word.proofs.Tests.{true_false}
use Rattle.word.specs.Bytes.{byte}
use Rattle.word.proofs.Truth.{or_true, and-true}
use Rattle.layout.specs.Layout.{local_ports, io_ports}
use Rattle.layout.specs.Blocks.{block}
use Rattle.decode.specs.declared.Instruction.{Instruction}
use Rattle.decode.specs.Fields.{rd, rt}
use Rattle.decode.specs.Table.{decoded}
use Rattle.decode.specs.Mnemonics.{load, store, cas, mfence, flush, invlpg}
use Rattle.isa.specs.Core.{gpr_at, ea, d, sv}
use Rattle.isa.specs.Interrupts.{ovf_of, user}
use Rattle.records.specs.declared.Store.{Store}
use Rattle.records.specs.declared.Walk.{Walk}
use Rattle.records.specs.Records.{among, walks, stores}
use Rattle.records.specs.Contents.{local_port, io_port, all_there}
use Rattle.tlb.specs.Walks.{walk_ba, hit, complete}
use Rattle.store_buffer.specs.Buffer.{sbhit, maxsbhit, sbhazard}
use Rattle.store_buffer.specs.System as system
use Rattle.store_buffer.specs.System.{memory_byte, reads, is_port, on_read, loaded, aligned}
use Rattle.store_buffer.proofs.Access.{never, reads_each, reads_missing, InWord, aligned_word}
use Rattle.tables.specs.Views.{cores_of}
use Rattle.tables.specs.Sound.{sound_block, sound}
use Rattle.tables.proofs.Lift.{header, core_long, core_sound}
use Rattle.tables.proofs.Steps.{block_linked, block_few_stores, block_few_walks}
use Rattle.apic.specs.LocalApic.{event}
use Rattle.cores.specs.declared.BufferChange.{BufferChange}
use Rattle.cores.specs.declared.BufferChange.TheVariants.{Put}
use Rattle.cores.specs.declared.WalkChange.{WalkChange}
use Rattle.cores.specs.declared.Write.{Write}
use Rattle.cores.specs.declared.Write.TheVariants.{Memory}
use Rattle.cores.specs.declared.Plan.{Plan}
use Rattle.cores.specs.Plans.{finished}
use Rattle.cores.specs.declared.IoPorts.{IoPorts}
use Rattle.cores.specs.Core.{View, io_ports_of, ports_beside, is_event, vector_of, suppressed, causes, physical, on_load, on_store, on_cas, stored_from, exchanged, performed, is_access, finds_buffer, avoids_ports, has_hazard, data_request_of}
use Rattle.cores.specs.Commit.{written_to}
use Rattle.cores.proofs.Free.{free_there}
use Rattle.cores.proofs.Decisions.{MayBeDone}
use Rattle.cores.proofs.Locals.{whole_words}
use Rattle.cores.proofs.Held.{same_offset}
use Rattle.cores.proofs.Accesses.{access_aligned, third, cas_width}
use Rattle.decode.proofs.Ranges.{agree}
use Rattle.report.specs.Configuration.{Configuration}
use Rattle.report.specs.Components.{fault, bytes, inside, ms, ΣM, δm}
use Rattle.report.specs.Delta as report
use Rattle.report.specs.View.{view, processor_of, apic_of, ioapic_of, memory_of}
use Rattle.report.specs.Needs.{misses}
use Rattle.report.specs.Demands.{Words}
use Rattle.report.proofs.Cases.{Case}
use Rattle.report.proofs.Memory.{nothing, reads_bytes, memory_byte_lem, memory_reads, one_missing, put_memory, seen_byte, unseen_byte, seen_there}
use Rattle.report.proofs.Rules.{store_not, does_same}
use Rattle.report.proofs.CoreFacts as facts
use Rattle.report.proofs.CoreRefusals.{K, guarded, allow, is_word, at_address}
use Rattle.report.proofs.CoreNeeds as needs
use Rattle.report.proofs.CoreNeeds.{HasR, has_fetched, idle₄, idle₅, idle₆}
use Rattle.report.proofs.CoreEffects.{quiet, R'}
use Rattle.report.proofs.CoreStops.{sb_still, memory_still, tlb_still, missed}
use Rattle.report.proofs.CoreAddresses.{word_in, word_out, register_low, ea_low, physical_low}
use Rattle.report.proofs.CoreInstructions.{Found, is_at, no_pff', does_is, finish, nothing_read, no_fault, holds}

-- no instruction is of two of these kinds
apart : (x : Instruction) → (is_access x && (flush x || invlpg x)) ≡ false
unfolding load store cas flush invlpg
apart = agree (λ (x : Instruction). is_access x && (flush x || invlpg x)) (λ (x : Instruction). false) tt

kinds : (x : Instruction) → ((load x && (store x || cas x)) || (store x && cas x)) ≡ false
unfolding load store cas
kinds = agree (λ (x : Instruction). (load x && (store x || cas x)) || (store x && cas x)) (λ (x : Instruction). false) tt

pub one_kind : (x : Instruction) → (load x ≡ true → store x ≡ false) × (load x ≡ true → cas x ≡ false) × (store x ≡ true → cas x ≡ false)
one_kind x = go (load x) (store x) (cas x) (kinds x)
  where
    go : (l s k : Bool) → ((l && (s || k)) || (s && k)) ≡ false → (l ≡ true → s ≡ false) × (l ≡ true → k ≡ false) × (s ≡ true → k ≡ false)
    go false false k e = (λ p. refl, λ p. absurd (true_false (sym p)), λ p. absurd (true_false (sym p)))
    go false true k e = (λ p. absurd (true_false (sym p)), λ p. absurd (true_false (sym p)), λ p. e)
    go true false false e = (λ p. refl, λ p. refl, λ p. refl)
    go true false true e = absurd (true_false e)
    go true true k e = absurd (true_false e)

none_left : (l : List Store) → length l ≡ 0 → l ≡ []
none_left [] e = refl
none_left (s ∷ l) e = absurd (omega arith)

-- an address in memory is no port's
below_ports : (y : ℕ) → y < 2 ^ 24 → (local_port y ≡ false) × (io_port y ≡ false)
below_ports y h = (rw (lt-leb local_ports y (omega arith)) refl, rw (lt-leb io_ports y (omega arith)) refl)

there_below : (m : List ℕ) (y n : ℕ) → memory_byte m y ≡ Some n → y < length m
there_below m y n = go (ltb y (length m)) refl
  where
    go : (o : Bool) → ltb y (length m) ≡ o → (if o then Some (get_or m y 0) else None) ≡ Some n → y < length m
    go true p e = ltb-true y (length m) p
    go false p e = never e

-- an access flushes nothing
pub no_flush : (x : Instruction) → is_access x ≡ true → (flush x ≡ false) × (invlpg x ≡ false)
no_flush x e = go (flush x) (invlpg x) (sym (ap (λ (y : Bool). y && (flush x || invlpg x)) e) ∙ apart x)
  where
    go : (f g : Bool) → (true && (f || g)) ≡ false → (f ≡ false) × (g ≡ false)
    go false false p = (refl, refl)
    go false true p = absurd (true_false p)
    go true g p = absurd (true_false p)

module _ (t m : List ℕ) (e : sound t (length m) ≡ true) (low : Words t) (i : ℕ) (h : i < cores_of t) (w_i w_r : Walk) (w : ℕ) (F : Found t m e low i h w_i w_r w) where
  abbrev b : List ℕ
  b = block t i

  abbrev v : View
  v = facts.v t m i w_i w_r

  abbrev io : IoPorts
  io = io_ports_of t

  abbrev u : Bool
  u = user v.core

  abbrev c : (ℕ → ℕ) → Configuration
  c M = view t m M

  abbrev k : ℕ
  k = vector_of (event b)

  abbrev x : Instruction
  x = decoded w

  abbrev EA : ℕ
  EA = ea x v.core w

  abbrev a : ℕ
  a = physical v w_r EA

  abbrev ca : ℕ
  ca = causes v x w false

  -- all guards hold, and no interrupt stops it
  pub record Accessed : Type 0 where
    pub acc : is_access x ≡ true
    pub finds : finds_buffer v.sb x ≡ true
    pub held : (not u || (among w_r v.tlb && hit (data_request_of v.core x w) w_r)) ≡ true
    pub clear : (M : ℕ → ℕ) → (u && fault (memory_of m M) (data_request_of v.core x w) w_r) ≡ false
    pub entry : HasR t m i h w_i w_r w
    pub ended : (not u || complete w_r) ≡ true
    pub free : (avoids_ports x && is_port a) ≡ false
    pub safe : has_hazard v.sb x a ≡ false
    pub runs : suppressed ca ≡ false

  module _ (A : Accessed) where
    none_faults : (M : ℕ → ℕ) → report.pfls (c M) i w_i w_r ≡ false
    none_faults M = no_fault t m e low i h w_i w_r w F A.acc A.finds A.held A.clear A.entry M

    guards_hold : (M : ℕ → ℕ) → guarded t m i h w_i w_r M ≡ true
    guards_hold M = holds t m e low i h w_i w_r w F A.acc A.finds A.held A.clear A.entry A.ended A.free A.safe M

    does_as : (M : ℕ → ℕ) (p : Instruction → Bool) → report.does (c M) i w_i w_r ovf_of p ≡ p x
    does_as M p = does_is t m e low i h w_i w_r w F false none_faults M p ∙ (ap (λ (y : Bool). p x && not y) A.runs ∙ and-true (p x))

    does_not : (M : ℕ → ℕ) (p : Instruction → Bool) → p x ≡ false → report.does (c M) i w_i w_r ovf_of p ≡ false
    does_not M p q = does_as M p ∙ q

    tlb_kept : (M : ℕ → ℕ) (y : Walk) → report.tlb' (c M) i w_i w_r ovf_of y ≡ among y (walks b)
    tlb_kept M = tlb_still t m i h w_i w_r M (does_not M flush (no_flush x A.acc).0) (does_not M invlpg (no_flush x A.acc).1) (no_pff' t m e low i h w_i w_r w F M) (none_faults M)

    low_address : a < 2 ^ 32
    low_address = physical_low t m e low i h w_i w_r w_r (hit (data_request_of v.core x w) w_r) EA A.held (ea_low t m e low i h w_i w_r x w)

    is_aligned : aligned a (d x) ≡ true
    is_aligned = access_aligned x v.core w a (is_event v.eev) false A.acc A.runs (same_offset u (walk_ba w_r) EA)

    in_word : InWord a (d x)
    in_word = aligned_word a (d x) is_aligned

    room : a + d x ≤ 2 ^ 32
    room = omega (arith, in_word.within, low_address)

    -- a load or cas has read what is there
    module _ (reads-it : (load x || cas x) ≡ true) (r : ℕ → Option ℕ) (z : ℕ) (value : reads (d x) r a ≡ Some z)
        (seen : (M : ℕ → ℕ) (y n : ℕ) → r y ≡ Some n → ms (ioapic_of t) (apic_of b) (stores b) (memory_of m M) y ≡ n) where
      RAt : (ℕ → ℕ) → Bool → Bool → ℕ → ℕ → ℕ
      RAt M f g n y = if f || g then 0 else bytes (d (decoded n)) (ms (ioapic_of t) (apic_of b) (stores b) (memory_of m M)) y

      read_as : (M : ℕ → ℕ) → R' t m i h w_i w_r M ≡ z
      unfolding report.R RAt view processor_of
      read_as M =
          ap (λ (y : Bool). if y || report.is (c M) i w_i w_r cas then report.R (c M) i w_i w_r else 0) (is_at t m e low i h w_i w_r w F M load)
          ∙ (ap (λ (y : Bool). if load x || y then report.R (c M) i w_i w_r else 0) (is_at t m e low i h w_i w_r w F M cas)
          ∙ (ap (λ (y : Bool). if y then report.R (c M) i w_i w_r else 0) reads-it
          ∙ (ap (λ (y : Bool). RAt M y (report.pfls (c M) i w_i w_r) (report.I (c M) i w_i w_r) (report.pma_ea (c M) i w_i w_r)) (no_pff' t m e low i h w_i w_r w F M)
          ∙ (ap (λ (y : Bool). RAt M false y (report.I (c M) i w_i w_r) (report.pma_ea (c M) i w_i w_r)) (none_faults M)
          ∙ (ap (λ (n : ℕ). RAt M false false n (report.pma_ea (c M) i w_i w_r)) (is_word t m i h w_i w_r M w (F.fetched M))
          ∙ (ap (λ (y : ℕ). RAt M false false w y) (at_address t m i h w_i w_r M w (F.fetched M))
          ∙ reads_bytes r (ms (ioapic_of t) (apic_of b) (stores b) (memory_of m M)) (seen M) (d x) a z value))))))

    -- ---- a load

    module _ (ld : load x ≡ true) where
      abbrev seen : ℕ → Option ℕ
      seen = system.ms v.sb (ports_beside v io) m

      no_hazard : sbhazard v.sb a (d x) ≡ false
      no_hazard = sym (ap (λ (y : Bool). y && sbhazard v.sb a (d x)) ld) ∙ A.safe

      load_is : (r : Option ℕ) → reads (d x) seen a ≡ r → performed v io m x w ca a ≡ on_load v x w ca (on_read (maxsbhit v.sb a) r)
      unfolding performed loaded
      load_is r p = rw (ld, no_hazard, p) refl

      load_done : (z : ℕ) → reads (d x) seen a ≡ Some z → MayBeDone (length m) b (Ok (finished x w z ca k BufferChange.Nothing WalkChange.Nothing Write.Nothing)) →
          K t m i h w_i w_r (Ok (finished x w z ca k BufferChange.Nothing WalkChange.Nothing Write.Nothing))
      unfolding written_to
      load_done z p D =
          finish t m e low i h w_i w_r w F false none_faults A.runs z (read_as (ap (λ (y : Bool). y || cas x) ld) seen z p (λ M y n. seen_byte b t m v.sb y M n)) BufferChange.Nothing WalkChange.Nothing Write.Nothing D refl
          (λ M. sb_still t m i h w_i w_r M (does_not M store ((one_kind x).0 ld))) tlb_kept (λ M y l. memory_still t m i h w_i w_r M (does_not M cas ((one_kind x).1 ld)) y) guards_hold
          (λ M.
          has_fetched t m i h w_i w_r M w (F.fetched M) F.entry F.within (λ y. A.entry)
          (needs.loads t m i h w_i w_r M w (F.fetched M)
          (λ y l g.
          let q : a + (y - a) ≡ y = omega arith in
          let o = reads_each seen (d x) a z room p (y - a) (omega arith) in
          seen_there b t m v.sb y o.0 (ap seen (sym q) ∙ o.1)))
          (λ y. idle₅ (c M) i w_i w_r (length m) y (does_not M store ((one_kind x).0 ld))) (λ y. idle₆ (c M) i w_i w_r (length m) y (does_not M cas ((one_kind x).1 ld))))

      load_misses : reads (d x) seen a ≡ None → K t m i h w_i w_r (Err ByteNowhere)
      load_misses p =
          let o = reads_missing seen (d x) a room p in
          let n = unseen_byte b t m v.sb (a + o.0) o.2 in
          missed t m i h w_i w_r (a + o.0)
          (λ M. needs.misses_load t m i h w_i w_r M w (F.fetched M) (a + o.0) (does_as M load ∙ ld) (omega arith) (omega (arith, o.1)) n.0 n.1) (guards_hold nothing)

      pub loads : MayBeDone (length m) b (performed v io m x w ca a) → K t m i h w_i w_r (performed v io m x w ca a)
      loads = go (reads (d x) seen a) refl
        where
          go : (r : Option ℕ) → reads (d x) seen a ≡ r → MayBeDone (length m) b (performed v io m x w ca a) → K t m i h w_i w_r (performed v io m x w ca a)
          go (Some z) p = subst (λ (y : Result Plan Refusal). MayBeDone (length m) b y → K t m i h w_i w_r y) (sym (load_is (Some z) p)) (load_done z p)
          go None p = subst (λ (y : Result Plan Refusal). MayBeDone (length m) b y → K t m i h w_i w_r y) (sym (load_is None p)) (λ D. load_misses p)

    -- ---- a store

    module _ (no-load : load x ≡ false) (st : store x ≡ true) where
      abbrev new : Store
      new = stored_from v.core x w a

      store_is : performed v io m x w ca a ≡ on_store v x w ca new (all_there (d x) (length m) a)
      unfolding performed
      store_is = rw (no-load, st) refl

      sb_at : Bool → ℕ → ℕ → List Store
      sb_at f n y = if f then stores b ++ (record { address = y; value = sv (decoded n) v.core n; width = d (decoded n) } ∷ []) else stores b

      puts : (M : ℕ → ℕ) → report.sb' (c M) i w_i w_r ovf_of ≡ stores b ++ (new ∷ [])
      unfolding report.sb' sb_at view processor_of
      puts M =
          ap (λ (f : Bool). sb_at f (report.I (c M) i w_i w_r) (report.pma_ea (c M) i w_i w_r)) (does_as M store ∙ st)
          ∙ (ap (λ (n : ℕ). sb_at true n (report.pma_ea (c M) i w_i w_r)) (is_word t m i h w_i w_r M w (F.fetched M)) ∙ ap (λ (y : ℕ). sb_at true w y) (at_address t m i h w_i w_r M w (F.fetched M)))

      no_cas : cas x ≡ false
      no_cas = (one_kind x).2 st

      store_has : all_there (d x) (length m) a ≡ true → (M : ℕ → ℕ) → needs.None t m i h w_i w_r M
      store_has p M =
          has_fetched t m i h w_i w_r M w (F.fetched M) F.entry F.within (λ y. A.entry) (λ y. idle₄ (c M) i w_i w_r (length m) y (does_not M load no-load))
          (needs.stored t m i h w_i w_r M w (F.fetched M) p) (λ y. idle₆ (c M) i w_i w_r (length m) y (does_not M cas no_cas))

      store_done : all_there (d x) (length m) a ≡ true → MayBeDone (length m) b (Ok (finished x w 0 ca k (Put new) WalkChange.Nothing Write.Nothing)) →
          K t m i h w_i w_r (Ok (finished x w 0 ca k (Put new) WalkChange.Nothing Write.Nothing))
      unfolding written_to
      store_done p D =
          finish t m e low i h w_i w_r w F false none_faults A.runs 0 (nothing_read t m e low i h w_i w_r w F no-load no_cas) (Put new) WalkChange.Nothing Write.Nothing D refl puts tlb_kept
          (λ M y l. memory_still t m i h w_i w_r M (does_not M cas no_cas) y) guards_hold (store_has p)

      store_misses : all_there (d x) (length m) a ≡ false → K t m i h w_i w_r (Err ByteNowhere)
      store_misses p =
          let o = one_missing (d x) (length m) a p in
          missed t m i h w_i w_r o.0 (λ M. needs.misses_store t m i h w_i w_r M w (F.fetched M) o.0 (does_as M store ∙ st) o.1 o.2 o.3) (guards_hold nothing)

      long : length b ≡ 256
      long = core_long t (length m) e i h

      good : sound_block (length m) b ≡ true
      good = core_sound t (length m) e i h

      store_full : all_there (d x) (length m) a ≡ true → leb 8 (length v.sb) ≡ true → K t m i h w_i w_r (Err StoresFull)
      unfolding misses view processor_of
      store_full p l =
          Case.no_store refl (store_has p) (λ M. allow t m i h w_i w_r M (guards_hold M))
          (λ M. record { i = i; w_i = w_i; w_r = w_r; is_core = refl; is_store = does_same (c M) i w_i w_r store store_not ∙ (does_as M store ∙ st); eight = omega (arith, block_few_stores (length m) b good long, leb-true 8 (length (stores b)) l) })

      is_free : leb 8 (length v.sb) ≡ false → v.free ≡ true
      is_free l = free_there b long (block_linked (length m) b good) (omega (arith, leb-false 8 (length (stores b)) l, block_few_walks (length m) b good long))

      pub stored : MayBeDone (length m) b (performed v io m x w ca a) → K t m i h w_i w_r (performed v io m x w ca a)
      stored = subst (λ (y : Result Plan Refusal). MayBeDone (length m) b y → K t m i h w_i w_r y) (sym store_is) (go (all_there (d x) (length m) a) refl (leb 8 (length v.sb)) refl v.free refl)
        where
          go : (o : Bool) → all_there (d x) (length m) a ≡ o → (l : Bool) → leb 8 (length v.sb) ≡ l → (f : Bool) → v.free ≡ f →
              MayBeDone (length m) b (if not o then Err ByteNowhere else if l then Err StoresFull else if not f then Err NoFreeRecord else Ok (finished x w 0 ca k (Put new) WalkChange.Nothing Write.Nothing)) →
              K t m i h w_i w_r (if not o then Err ByteNowhere else if l then Err StoresFull else if not f then Err NoFreeRecord else Ok (finished x w 0 ca k (Put new) WalkChange.Nothing Write.Nothing))
          go false p l q f r D = store_misses p
          go true p true q f r D = store_full p q
          go true p false q true r D = store_done p D
          go true p false q false r D = absurd (true_false (sym (is_free q) ∙ r))

    -- ---- a cas

    module _ (no-load : load x ≡ false) (no_store : store x ≡ false) where
      is_cas : cas x ≡ true
      is_cas = third (load x) (store x) (cas x) A.acc no-load no_store

      wide : d x ≡ 4
      wide = cas_width x A.acc no-load no_store

      cas_is : (r : Option ℕ) → reads 4 (memory_byte m) a ≡ r → performed v io m x w ca a ≡ on_cas v x w ca a r
      unfolding performed
      cas_is r p = rw (no-load, no_store, p) refl

      four : a % 4 ≡ 0
      four = omega (arith, in_word.within, wide)

      no_port : is_port a ≡ false
      no_port = sym (ap (λ (y : Bool). (y || not (eqb (d x) 4)) && is_port a) is_cas) ∙ A.free

      -- the buffer is empty
      empty : stores b ≡ []
      empty = none_left (stores b) (eqb-true (length (stores b)) 0 (sym (ap (λ (y : Bool). not (y || mfence x) || eqb (length (stores b)) 0) is_cas) ∙ A.finds))

      -- memory ends before the ports
      cas_sees : (M : ℕ → ℕ) (y n : ℕ) → memory_byte m y ≡ Some n → ms (ioapic_of t) (apic_of b) (stores b) (memory_of m M) y ≡ n
      unfolding ms sbhit
      cas_sees M y n p =
          ap (λ (l : List Store). ms (ioapic_of t) (apic_of b) l (memory_of m M) y) empty ∙ rw ((below_ports y (small y n p)).0, (below_ports y (small y n p)).1) (memory_byte_lem m M y n p)
        where
          small : (y n : ℕ) → memory_byte m y ≡ Some n → y < 2 ^ 24
          small y n p = omega (arith, there_below m y n p, (header t (length m) e).bytes, (header t (length m) e).few_pages)

      swapped : ℕ → Write
      swapped z = exchanged v.core w z a

      module _ (z : ℕ) (p : reads 4 (memory_byte m) a ≡ Some z) where
        within : a + 4 ≤ length m
        within = word_in m (whole_words t (length m) e) a four low_address z p

        m_at : (ℕ → ℕ) → Bool → ℕ → ℕ → ℕ → ℕ
        m_at M o n y = if o && not (is_port y) then δm (memory_of m M) (ΣM.swap (gpr_at v.core (rd n)) y (sv (decoded n) v.core n)) else memory_of m M

        kept_value : sv x v.core w ≡ gpr_at v.core (rt w)
        kept_value = ap (λ (n : ℕ). gpr_at v.core (rt w) % 2 ^ (8 * n)) wide ∙ mod-eq_of_lt (register_low t m e low i h w_i w_r (rt w) (omega arith))

        swaps_as : (M : ℕ → ℕ) (y : ℕ) → report.m' (c M) i w_i w_r ovf_of y ≡ δm (memory_of m M) (ΣM.swap (gpr_at v.core (rd w)) a (sv x v.core w)) y
        unfolding report.m' m_at view processor_of
        swaps_as M y =
            ap (λ (o : Bool). m_at M o (report.I (c M) i w_i w_r) (report.pma_ea (c M) i w_i w_r) y) (does_as M cas ∙ is_cas)
            ∙ (ap (λ (n : ℕ). m_at M true n (report.pma_ea (c M) i w_i w_r) y) (is_word t m i h w_i w_r M w (F.fetched M))
            ∙ (ap (λ (q : ℕ). m_at M true w q y) (at_address t m i h w_i w_r M w (F.fetched M))
            ∙ ap (λ (o : Bool). (if not o then δm (memory_of m M) (ΣM.swap (gpr_at v.core (rd w)) a (sv x v.core w)) else memory_of m M) y) no_port))

        memory_swapped : (M : ℕ → ℕ) (y : ℕ) → report.m' (c M) i w_i w_r ovf_of y ≡ memory_of (written_to (swapped z) m) M y
        unfolding δm written_to swapped
        memory_swapped M y =
            swaps_as M y
            ∙ (ap (λ (n : ℕ). if eqb n (gpr_at v.core (rd w)) && inside y a 4 then byte (y - a) (sv x v.core w) else memory_of m M y) (memory_reads m M 4 a z p)
            ∙ (ap (λ (n : ℕ). if eqb z (gpr_at v.core (rd w)) && inside y a 4 then byte (y - a) n else memory_of m M y) kept_value ∙ go (eqb z (gpr_at v.core (rd w)))))
          where
            go : (o : Bool) → (if o && inside y a 4 then byte (y - a) (gpr_at v.core (rt w)) else memory_of m M y) ≡ memory_of (written_to (if o then Memory a 4 (gpr_at v.core (rt w)) else Write.Nothing) m) M y
            go true = sym (put_memory 4 m M a (gpr_at v.core (rt w)) y within)
            go false = refl

        stays_quiet : quiet (swapped z) ≡ true
        unfolding swapped
        stays_quiet = go (eqb z (gpr_at v.core (rd w)))
          where
            go : (o : Bool) → quiet (if o then Memory a 4 (gpr_at v.core (rt w)) else Write.Nothing) ≡ true
            go true = refl
            go false = refl

        cas_done : MayBeDone (length m) b (Ok (finished x w z ca k BufferChange.Nothing WalkChange.Nothing (swapped z))) →
            K t m i h w_i w_r (Ok (finished x w z ca k BufferChange.Nothing WalkChange.Nothing (swapped z)))
        cas_done D =
            finish t m e low i h w_i w_r w F false none_faults A.runs z
            (read_as (ap (λ (y : Bool). load x || y) is_cas ∙ or_true (load x)) (memory_byte m) z (ap (λ (n : ℕ). reads n (memory_byte m) a) wide ∙ p) cas_sees)
            BufferChange.Nothing WalkChange.Nothing (swapped z) D stays_quiet (λ M. sb_still t m i h w_i w_r M (does_not M store no_store)) tlb_kept (λ M y l. memory_swapped M y) guards_hold
            (λ M.
            has_fetched t m i h w_i w_r M w (F.fetched M) F.entry F.within (λ y. A.entry) (λ y. idle₄ (c M) i w_i w_r (length m) y (does_not M load no-load))
            (λ y. idle₅ (c M) i w_i w_r (length m) y (does_not M store no_store)) (needs.swaps t m i h w_i w_r M w (F.fetched M) within))

      cas_misses : reads 4 (memory_byte m) a ≡ None → K t m i h w_i w_r (Err ByteNowhere)
      cas_misses p =
          missed t m i h w_i w_r a
          (λ M. needs.misses_swap t m i h w_i w_r M w (F.fetched M) a (does_as M cas ∙ is_cas) (omega arith) (omega arith) (word_out m (whole_words t (length m) e) a four low_address p)) (guards_hold nothing)

      pub exchanges : MayBeDone (length m) b (performed v io m x w ca a) → K t m i h w_i w_r (performed v io m x w ca a)
      unfolding swapped
      exchanges = go (reads 4 (memory_byte m) a) refl
        where
          go : (r : Option ℕ) → reads 4 (memory_byte m) a ≡ r → MayBeDone (length m) b (performed v io m x w ca a) → K t m i h w_i w_r (performed v io m x w ca a)
          go (Some z) p = subst (λ (y : Result Plan Refusal). MayBeDone (length m) b y → K t m i h w_i w_r y) (sym (cas_is (Some z) p)) (cas_done z p)
          go None p = subst (λ (y : Result Plan Refusal). MayBeDone (length m) b y → K t m i h w_i w_r y) (sym (cas_is None p)) (λ D. cas_misses p)
