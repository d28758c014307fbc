-- Locality: from two memories that agree on the pages that the core's side reaches a step makes the same plan.
-- Assumes nothing.
use Rattle.std.specs.Prelude.{if◌then◌else◌, Option, Some, None, Err}
use mathlib.Core.Path.{◌≡◌, refl, sym, ap, ap₂, subst, ◌∙◌}
use mathlib.Core.Logic.{⊎_elim}
use mathlib.Core.Bool.{Bool, true, false, ◌&&◌, ◌||◌, not, false≢true}
use mathlib.Core.List.{List, [], ◌∷◌}
use Prim.Native.Nat.{ℕ, zero, suc, ◌+◌, ◌*◌, ◌%◌, ◌^◌, ◌<◌, ◌≤◌}
use native.Mathlib.Omega.{arith}
use lib.ListN.{length}
use lib.Dec.{eqb, leb}
use borrow.Author.Tests.{eqb-true}
use Rattle.word.specs.Word.{plus}
use Rattle.word.proofs.Truth.{and_left, and_right, or_cases, tested}
use Rattle.decode.specs.declared.Instruction.{Instruction}
use Rattle.decode.specs.Table.{decoded}
use Rattle.decode.specs.Mnemonics.{load, store}
use Rattle.isa.specs.Core.{ea, d}
use Rattle.isa.specs.Interrupts.{user}
use Rattle.records.specs.declared.Walk.{Walk}
use Rattle.records.specs.declared.Store.{Store}
use Rattle.records.specs.Records.{stores, walks, among}
use Rattle.records.specs.Contents.{local_port, io_port, all_there}
use Rattle.tables.specs.Views.{registers_of, user_mode, runs, asid_of}
use Rattle.tlb.specs.declared.Request.{Request}
use Rattle.tlb.specs.declared.Faulting.{Faulting}
use Rattle.tlb.specs.declared.Faulting.TheVariants.{Faults, Passes, Undecided}
use Rattle.tlb.specs.Walks.{walk_level, walk_r, walk_ba, complete, hit, pte, ptea, fault, fault_by}
use Rattle.tlb.specs.Steps.{extendable, tlb_extend, tlb_accessed, on_extend, on_accessed, extend_on, accessed_on}
use Rattle.tlb.proofs.Fields.{incomplete_level}
use Rattle.tlb.proofs.Steps.{is_held, is_incomplete}
use Rattle.store_buffer.specs.declared.LoadError.{LoadError}
use Rattle.steps.specs.declared.Step.{Step}
use Rattle.store_buffer.specs.Buffer.{sbhit, sbv, maxsbhit, sbhazard}
use Rattle.store_buffer.specs.Leaving.{place_of}
use Rattle.store_buffer.specs.System.{Ports, is_port, sized, aligned, memory_byte, beneath, ms_of, ms, join, reads, on_read, loaded}
use Rattle.cores.specs.Guards.{yield, test}
use Rattle.cores.specs.Core.{View, view_of, is_event, causes, suppressed, fault_of, physical, on_load, on_store, on_cas, stored_from, performed, is_access, avoids_ports, has_hazard, on_address, on_data, on_access, on_instruction, finds_buffer, data_request_of, fetch_request_of, on_word, on_fetch_address, on_fetch, fetch, judged, core_plan, is_free, without_access, ports_beside}
use Rattle.cores.specs.declared.IoPorts.{IoPorts}
use Rattle.cores.specs.TlbSteps.{planned}
use Rattle.cores.specs.BufferStep.{on_oldest, buffer_step}
use Rattle.cores.proofs.Accesses.{access_aligned, cas_width, word_aligned}
use Rattle.reach.specs.Reach.{Pages, reached, grants_write}
use Rattle.reach.proofs.Lists.{if_same, In, Each}
use Rattle.separation.proofs.Memory as memory
use Rattle.separation.proofs.Memory.{page, Agree, Fits, inside_same, all_pages, entry_at_same}
use Rattle.separation.proofs.Good.{AtLevel, WalkOk, StoreOk, Good, Low, low_local, low_io, among_each, table_reached, data_reached, writable_reached, walk_table, walk_page, walk_fits}
use Rattle.cores.proofs.Asked.{Same, same_refl, same_yield, same_ask, same_test, same_if, settle_same}
use Rattle.machine.proofs.Locality as plans
use Rattle.machine.proofs.Locality.{Plain, plan_of}

-- ---- accesses

-- an aligned access stays in its page
pub aligned_fits : (a w : ℕ) → aligned a w ≡ true → Fits a w
unfolding aligned
aligned_fits a w e =
    let s : sized w ≡ true = and_left (sized w) _ e in
    let q : a % w ≡ 0 = eqb-true (a % w) 0 (and_right (sized w) _ e) in
    ⊎_elim (λ h. by 1 (eqb-true w 1 h) q (λ z. omega arith))
    (λ h. ⊎_elim (λ g. by 2 (eqb-true w 2 g) q (λ z. omega arith)) (λ g. by 4 (eqb-true w 4 g) q (λ z. omega arith)) (or_cases (eqb w 2) _ h))
    (or_cases (eqb w 1) _ s)
  where
    by : (n : ℕ) → w ≡ n → a % w ≡ 0 → (a % n ≡ 0 → Fits a n) → Fits a w
    by n p q f = subst (λ (k : ℕ). Fits a k) (sym p) (f (subst (λ (k : ℕ). a % k ≡ 0) p q))

pub join_page : (p a : ℕ) → page (p * 2 ^ 12 + a % 2 ^ 12) ≡ p
join_page p a = omega arith

-- ---- bytes that are read

reads_same : (k : ℕ) (f g : ℕ → Option ℕ) (a : ℕ) → a + k < 2 ^ 32 → ((j : ℕ) → a ≤ j → j < a + k → f j ≡ g j) → reads k f a ≡ reads k g a
unfolding reads
reads_same zero f g a l h = refl
reads_same (suc k) f g a l h =
    let e : plus 32 a 1 ≡ a + 1 = omega arith in
    ap₂ join (h a (omega arith) (omega arith))
    (ap (reads k f) e ∙ reads_same k f g (a + 1) (omega arith) (λ j p q. h j (omega arith) (omega arith)) ∙ sym (ap (reads k g) e))

memory_byte_lem : (m n : List ℕ) (a : ℕ) → memory.Same m n a → memory_byte m a ≡ memory_byte n a
memory_byte_lem m n a s = ap₂ (λ (t : Bool) (x : ℕ). if t then Some x else None) s.there s.byte

seen_byte : (sb : List Store) (p q : Ports) (m n : List ℕ) (a : ℕ) → page a < 4096 → memory.Same m n a → ms sb p m a ≡ ms sb q n a
unfolding ms_of beneath
seen_byte sb p q m n a l s = rw (low_local a l, low_io a l) (ap (λ (r : Option ℕ). if sbhit sb a then sbv sb a else r) (memory_byte_lem m n a s))

module _ (S : Pages) (L : Low S) (m n : List ℕ) (A : Agree (reached S) m n) where
  module _ (a k : ℕ) (h : In (page a) (reached S)) (f : Fits a k) where
    low_page : page a < 4096
    low_page = L (page a) h

    same_at : (j : ℕ) → a ≤ j → j < a + k → memory.Same m n j
    same_at j p q = A j (all_pages (reached S) m n A a k h f j p q)

    pub word_same : reads k (memory_byte m) a ≡ reads k (memory_byte n) a
    word_same = reads_same k (memory_byte m) (memory_byte n) a (omega (arith, low_page)) (λ j p q. memory_byte_lem m n j (same_at j p q))

    pub loaded_same : (sb : List Store) (p q : Ports) → loaded sb p m a k ≡ loaded sb q n a k
    unfolding loaded
    loaded_same sb p q =
        ap (λ (r : Option ℕ). if sbhazard sb a k then Err LoadError.Hazard else on_read (maxsbhit sb a) r)
        (reads_same k (ms sb p m) (ms sb q n) a (omega (arith, low_page)) (λ j x y. seen_byte sb p q m n j (omega (arith, low_page)) (same_at j x y)))

  there_same : (k a : ℕ) → ((j : ℕ) → a ≤ j → j < a + k → memory.Same m n j) → all_there k (length m) a ≡ all_there k (length n) a
  there_same zero a f = refl
  there_same (suc k) a f =
      ap₂ ◌&&◌ (ap (λ (t : Bool). t || (io_port a || local_port a)) (f a (omega arith) (omega arith)).there) (there_same k (a + 1) (λ j p q. f j (omega arith) (omega arith)))

-- ---- a core's block

-- a view of it is in user mode
pub view_user : (S : Pages) (b : List ℕ) → Good S b → user (registers_of b) ≡ true
view_user S b G = G.user

-- what the guards on a walk say in user mode
pub guard_held : (u a h : Bool) → u ≡ true → (not u || (a && h)) ≡ true → (a ≡ true) × (h ≡ true)
guard_held true a h p e = (and_left a h e, and_right a h e)
guard_held false a h p e = absurd (false≢true p)

pub guard_complete : (u c : Bool) → u ≡ true → (not u || c) ≡ true → c ≡ true
guard_complete true c p e = e
guard_complete false c p e = absurd (false≢true p)

-- the page of a complete walk
pub complete_page : (S : Pages) (w : Walk) → WalkOk S w → complete w ≡ true → In (walk_ba w) S.datas × (grants_write (walk_r w) ≡ true → In (walk_ba w) S.writables)
complete_page S w k e = subst (λ (l : ℕ). AtLevel S l (walk_r w) (walk_ba w)) (eqb-true (walk_level w) 0 e) k.at_level

module _ (S : Pages) (L : Low S) (b : List ℕ) (G : Good S b) where
  pub held_ok : (w : Walk) → among w (walks b) ≡ true → WalkOk S w
  held_ok w h = among_each (WalkOk S) w (walks b) G.held h

  U : user (registers_of b) ≡ true
  U = view_user S b G

  pub user_address : (w : Walk) (a : ℕ) → physical (view_of b) w a ≡ walk_ba w * 2 ^ 12 + a % 2 ^ 12
  user_address w a = ap (λ (t : Bool). if t then walk_ba w * 2 ^ 12 + a % 2 ^ 12 else a) U

  module _ (m n : List ℕ) (A : Agree (reached S) m n) where
    -- the entry of a held walk that is not complete
    pub pte_same : (w : Walk) → among w (walks b) ≡ true → complete w ≡ false → pte m w ≡ pte n w
    pte_same w h c =
        let k : WalkOk S w = held_ok w h in
        let l : 1 ≤ walk_level w = incomplete_level w c in
        entry_at_same (reached S) m n A (ptea w) (subst (λ (p : ℕ). In p (reached S)) (sym (walk_page S L w k l)) (table_reached S (walk_ba w) (walk_table S L w k l))) (walk_fits S L w k l)

    fault_same : (t : Request) (w : Walk) → among w (walks b) ≡ true → fault m t w ≡ fault n t w
    fault_same t w h =
        tested (complete w)
        (λ c. short m c ∙ sym (short n c))
        (λ c. ap (fault_by t w) (pte_same w h c))
      where
        short : (l : List ℕ) → complete w ≡ true → fault_by t w (pte l w) ≡ Passes
        short l c = unfold fault_by in rw c

    module _ (io io' : IoPorts) where
      abbrev X : View
      X = view_of b

      verdict_same : (t : Request) (w : Walk) → among w (walks b) ≡ true → fault_of X m t w ≡ fault_of X n t w
      verdict_same t w h = ap (λ (x : Faulting). if user (registers_of b) then x else Passes) (fault_same t w h)

      -- ports do not matter
      performed_same : (c : Instruction) (w ca a : ℕ) → is_access c ≡ true → In (page a) (reached S) → Fits a (d c) → performed X io m c w ca a ≡ performed X io' n c w ca a
      unfolding performed
      performed_same c w ca a x h f =
          if_same (load c) _ _ _ _
          (λ _. ap (on_load X c w ca) (loaded_same S L m n A a (d c) h f (stores b) (ports_beside X io) (ports_beside X io')))
          (λ e. if_same (store c) _ _ _ _
          (λ _. ap (on_store X c w ca (stored_from X.core c w a)) (there_same S L m n A (d c) a (same_at S L m n A a (d c) h f)))
          (λ g. ap (on_cas X c w ca a) (word_same S L m n A a 4 h (subst (λ (k : ℕ). Fits a k) (cas_width c x e g) f))))

      address_same : (c : Instruction) (w a : ℕ) → is_access c ≡ true → In (page a) (reached S) → a % 4 ≡ ea c (registers_of b) w % 4 → Same (on_address X io m c w a) (on_address X io' n c w a)
      unfolding on_address
      address_same c w a x h q =
          same_ask (test (not (avoids_ports c && is_port a)) ∷ test (not (has_hazard (stores b) c a)) ∷ []) _ _
          (λ _. same_yield _ _
          (if_same (suppressed (causes X c w false)) _ _ _ _ (λ _. refl)
          (λ e. performed_same c w (causes X c w false) a x h (aligned_fits a (d c) (access_aligned c (registers_of b) w a (is_event X.eev) false x e q)))))

      data_same : (w_r : Walk) (c : Instruction) (w : ℕ) (f : Faulting) → is_access c ≡ true → among w_r (walks b) ≡ true → Same (on_data X io m w_r c w f) (on_data X io' n w_r c w f)
      unfolding on_data
      data_same w_r c w Passes x h =
          same_test (not (user (registers_of b)) || complete w_r) _ _
          (λ e. let k = complete_page S w_r (held_ok w_r h) (guard_complete (user (registers_of b)) (complete w_r) U e) in
          rw (user_address w_r (ea c (registers_of b) w))
          (address_same c w (walk_ba w_r * 2 ^ 12 + ea c (registers_of b) w % 2 ^ 12) x
          (subst (λ (p : ℕ). In p (reached S)) (sym (join_page (walk_ba w_r) (ea c (registers_of b) w))) (data_reached S (walk_ba w_r) k.0))
          (omega arith)))
      data_same w_r c w Faults x h = same_refl _
      data_same w_r c w Undecided x h = same_refl _

      access_same : (w_r : Walk) (c : Instruction) (w : ℕ) → is_access c ≡ true → Same (on_access X io m w_r c w) (on_access X io' n w_r c w)
      unfolding on_access
      access_same w_r c w x =
          same_test (not (user (registers_of b)) || (among w_r (walks b) && hit (data_request_of (registers_of b) c w) w_r)) _ _
          (λ e. let h = (guard_held (user (registers_of b)) (among w_r (walks b)) _ U e).0 in
          subst (λ (f : Faulting). Same (on_data X io m w_r c w (fault_of X m (data_request_of (registers_of b) c w) w_r)) (on_data X io' n w_r c w f))
          (verdict_same (data_request_of (registers_of b) c w) w_r h)
          (data_same w_r c w (fault_of X m (data_request_of (registers_of b) c w) w_r) x h))

      instruction_same : (w_r : Walk) (c : Instruction) (w : ℕ) → Same (on_instruction X io m w_r c w) (on_instruction X io' n w_r c w)
      unfolding on_instruction
      instruction_same w_r c w =
          same_ask (test (finds_buffer (stores b) c) ∷ []) _ _ (λ _. same_if (is_access c) _ _ _ _ (λ e. access_same w_r c w e) (λ _. same_refl (yield (without_access X c w))))

      word_on : (w_r : Walk) (r : Option ℕ) → Same (on_word X io m w_r r) (on_word X io' n w_r r)
      unfolding on_word
      word_on w_r (Some w) = instruction_same w_r (decoded w) w
      word_on w_r None = same_refl _

      fetched_same : (w_r : Walk) (a : ℕ) → In (page a) (reached S) → a % 4 ≡ 0 → Same (on_fetch_address X io m w_r a) (on_fetch_address X io' n w_r a)
      unfolding on_fetch_address
      fetched_same w_r a h q =
          same_ask (test (not (is_port a)) ∷ []) _ _
          (λ _. subst (λ (r : Option ℕ). Same (on_word X io m w_r (reads 4 (memory_byte m) a)) (on_word X io' n w_r r))
          (word_same S L m n A a 4 h (aligned_fits a 4 (word_aligned a q)))
          (word_on w_r (reads 4 (memory_byte m) a)))

      fetch_on : (w_i w_r : Walk) (f : Faulting) → among w_i (walks b) ≡ true → (registers_of b).pc % 4 ≡ 0 → Same (on_fetch X io m w_i w_r f) (on_fetch X io' n w_i w_r f)
      unfolding on_fetch
      fetch_on w_i w_r Passes h q =
          same_test (not (user (registers_of b)) || complete w_i) _ _
          (λ e. let k = complete_page S w_i (held_ok w_i h) (guard_complete (user (registers_of b)) (complete w_i) U e) in
          rw (user_address w_i (registers_of b).pc)
          (fetched_same w_r (walk_ba w_i * 2 ^ 12 + (registers_of b).pc % 2 ^ 12)
          (subst (λ (p : ℕ). In p (reached S)) (sym (join_page (walk_ba w_i) (registers_of b).pc)) (data_reached S (walk_ba w_i) k.0))
          (omega arith)))
      fetch_on w_i w_r Faults h q = same_refl _
      fetch_on w_i w_r Undecided h q = same_refl _

      fetch_same : (w_i w_r : Walk) → (registers_of b).pc % 4 ≡ 0 → Same (fetch X io m w_i w_r) (fetch X io' n w_i w_r)
      unfolding fetch
      fetch_same w_i w_r q =
          same_test (not (user (registers_of b)) || (among w_i (walks b) && hit (fetch_request_of (registers_of b)) w_i)) _ _
          (λ e. let h = (guard_held (user (registers_of b)) (among w_i (walks b)) _ U e).0 in
          subst (λ (f : Faulting). Same (on_fetch X io m w_i w_r (fault_of X m (fetch_request_of (registers_of b)) w_i)) (on_fetch X io' n w_i w_r f))
          (verdict_same (fetch_request_of (registers_of b)) w_i h)
          (fetch_on w_i w_r (fault_of X m (fetch_request_of (registers_of b)) w_i) h q))

      core_same : (w_i w_r : Walk) → core_plan X io m w_i w_r ≡ core_plan X io' n w_i w_r
      unfolding core_plan judged
      core_same w_i w_r =
          settle_same _ _
          (same_ask (test X.running ∷ []) _ _
          (λ _. same_if (eqb ((registers_of b).pc % 4) 0) _ _ _ _
          (λ e. fetch_same w_i w_r (eqb-true ((registers_of b).pc % 4) 0 e))
          (λ _. same_refl _)))

      -- ---- the other kinds

      extend_same : (w : Walk) → extend_on b m w ≡ extend_on b n w
      unfolding tlb_extend
      extend_same w =
          if_same (runs b && extendable (asid_of b) (walks b) w) _ _ _ _
          (λ g. ap (on_extend w) (pte_same w (is_held (runs b) (asid_of b) (walks b) w g) (is_incomplete (runs b) (asid_of b) (walks b) w g))) (λ _. refl)

      accessed_same : (w : Walk) → accessed_on b m w ≡ accessed_on b n w
      unfolding tlb_accessed
      accessed_same w =
          if_same (user_mode b && extendable (asid_of b) (walks b) w) _ _ _ _
          (λ g. ap (on_accessed w) (pte_same w (is_held (user_mode b) (asid_of b) (walks b) w g) (is_incomplete (user_mode b) (asid_of b) (walks b) w g))) (λ _. refl)

      drain_same : (l : List Store) → Each (StoreOk S) l → buffer_step l (length m) ≡ buffer_step l (length n)
      unfolding on_oldest place_of
      drain_same [] h = refl
      drain_same (x ∷ l) h =
          let p : leb (x.address + x.width) (length m) ≡ leb (x.address + x.width) (length n)
          = inside_same (reached S) m n A x.address x.width (writable_reached S (page x.address) h.0.writable) h.0.fits in
          rw p

      pub plan_same : {k : ℕ} {x : Option Step} (o : Plain k x) → plan_of o b io m ≡ plan_of o b io' n
      plan_same (plans.runs v w) = core_same v w
      plan_same (plans.create va l) = refl
      plan_same (plans.extend w) = ap (planned (walks b) (is_free b)) (extend_same w)
      plan_same (plans.accessed w) = ap (planned (walks b) (is_free b)) (accessed_same w)
      plan_same plans.drain = drain_same (stores b) G.pending
      plan_same plans.none = refl
