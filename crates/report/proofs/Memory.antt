-- Memory as the report has it, total, against the bytes that the machine has: reads, writes, entries and faults.
-- Assumes nothing.
use Rattle.std.specs.Prelude.{if◌then◌else◌, Option, Some, None}
use mathlib.Core.Path.{◌≡◌, refl, sym, ◌∙◌, ap}
use mathlib.Core.Logic.{⊎_elim}
use mathlib.Core.Bool.{Bool, true, false, not, ◌&&◌, ◌||◌}
use mathlib.Core.List.{List}
use Prim.Native.Nat.{ℕ, zero, suc, ◌+◌, ◌-◌, ◌*◌, ◌/◌, ◌%◌, ◌^◌, ◌<◌, ◌≤◌}
use native.Mathlib.Omega.{arith}
use native.Mathlib.Nat.{div-div-eq-div-mul, pow-succ', div-one}
use lib.ListN.{length, get_or, set, drop, length-set}
use lib.Seq.{get_or-set_same, get_or-set_other, get_or-take, get_or-drop}
use lib.Dec.{ltb, leb}
use borrow.Author.Tests.{lt-ltb, le-ltb, le-leb, lt-leb, ltb-true, leb-true, leb-false}
use Rattle.word.specs.Word.{plus}
use Rattle.word.specs.Bytes.{byte, bytes_at, put}
use Rattle.word.proofs.Bytes.{put_length}
use Rattle.word.proofs.Laws.{side}
use Rattle.word.proofs.Tests.{true_false}
use Rattle.word.proofs.Truth.{and_left, and_right, and_both}
use Rattle.records.specs.declared.Walk.{Walk}
use Rattle.layout.specs.Layout.{ports}
use Rattle.records.specs.declared.Store.{Store}
use Rattle.records.specs.Contents.{local_port, io_port, there, all_there}
use Rattle.tlb.specs.declared.Request.{Request}
use Rattle.tlb.specs.declared.Faulting.{Faulting}
use Rattle.tlb.specs.declared.Faulting.TheVariants.{Faults, Passes, Undecided}
use Rattle.tlb.specs.Walks.{complete, hit, ptea, entry_at, entry_fault, fault_by, wext_fault}
use Rattle.tlb.proofs.Fields.{ptea_aligned, ptea_low}
use Rattle.store_buffer.specs.Buffer.{sbhit, sbv, maxsbhit, forwarded_by}
use Rattle.store_buffer.specs.System.{Ports, ports_of, memory_byte, join, reads, apicadr, ioapicadr, apic_byte, ioapic_byte, beneath, ms_of, ms}
use Rattle.store_buffer.proofs.Access.{never, memory_there}
use Rattle.store_buffer.proofs.Hits.{none_hits}
use Rattle.tables.specs.Views.{port_byte, ioregsel_of, iowin_of}
use Rattle.report.specs.Configuration.{IoApic}
use Rattle.report.specs.Components as report
use Rattle.report.specs.Components.{bytes, inside, fault, the_byte, ioports}
use Rattle.report.specs.View.{memory_of, apic_of, ioapic_of}

-- ---- reads

-- a read of d bytes is the report's where each byte is
pub reads_bytes : (f : ℕ → Option ℕ) (g : ℕ → ℕ) → ((x v : ℕ) → f x ≡ Some v → g x ≡ v) → (d a v : ℕ) → reads d f a ≡ Some v → bytes d g a ≡ v
unfolding reads bytes
reads_bytes f g h zero a v e = let q : 0 ≡ v = cc in q
reads_bytes f g h (suc d) a v e = go (f a) (reads d f (plus 32 a 1)) refl (reads_bytes f g h d (plus 32 a 1)) e
  where
    go : (r s : Option ℕ) → f a ≡ r → ((y : ℕ) → s ≡ Some y → bytes d g (plus 32 a 1) ≡ y) → join r s ≡ Some v → g a + 256 * bytes d g (plus 32 a 1) ≡ v
    go (Some x) (Some y) p q k =
        let z : x + 256 * y ≡ v = cc in
        ap (λ (n : ℕ). n + 256 * bytes d g (plus 32 a 1)) (h a x p) ∙ (ap (λ (n : ℕ). x + 256 * n) (q y refl) ∙ z)
    go (Some x) None p q k = never k
    go None s p q k = never k

-- ---- memory, with M beyond it

module _ (m : List ℕ) (M : ℕ → ℕ) where
  pub memory_in : (x : ℕ) → x < length m → memory_of m M x ≡ get_or m x 0
  unfolding memory_of
  memory_in x h = rw (lt-ltb x (length m) h)

  pub memory_out : (x : ℕ) → length m ≤ x → memory_of m M x ≡ M x
  unfolding memory_of
  memory_out x h = rw (le-ltb x (length m) h)

  pub memory_byte_lem : (x v : ℕ) → memory_byte m x ≡ Some v → memory_of m M x ≡ v
  unfolding memory_of
  memory_byte_lem x v e = go (ltb x (length m)) e
    where
      go : (t : Bool) → (if t then Some (get_or m x 0) else None) ≡ Some v → (if t then get_or m x 0 else M x) ≡ v
      go true e = let z : get_or m x 0 ≡ v = cc in z
      go false e = never e

  -- the same number for every M
  pub memory_reads : (d a v : ℕ) → reads d (memory_byte m) a ≡ Some v → bytes d (memory_of m M) a ≡ v
  memory_reads = reads_bytes (memory_byte m) (memory_of m M) memory_byte_lem

  pub memory_bytes : (d a : ℕ) → a + d ≤ 2 ^ 32 → a + d ≤ length m → bytes d (memory_of m M) a ≡ bytes_at d m a
  memory_bytes d a l h = memory_reads d a (bytes_at d m a) (memory_there m a d l h)

pub bytes_step : (d : ℕ) (f : ℕ → ℕ) (a : ℕ) → a + suc d ≤ 2 ^ 32 → bytes (suc d) f a ≡ f a + 256 * bytes d f (a + 1)
unfolding bytes
bytes_step zero f a h = refl
bytes_step (suc d) f a h = let e : plus 32 a 1 ≡ a + 1 = omega arith in ap (λ (k : ℕ). f a + 256 * bytes (suc d) f k) e

-- zeroes beyond memory
abbrev pub nothing : ℕ → ℕ
nothing x = 0

pub bytes_beyond : (m : List ℕ) (d a : ℕ) → a + d ≤ 2 ^ 32 → length m ≤ a → bytes d (memory_of m nothing) a ≡ 0
unfolding bytes
bytes_beyond m zero a l h = refl
bytes_beyond m (suc d) a l h =
    let p = memory_out m nothing a h in
    let q = bytes_beyond m d (a + 1) (omega arith) (omega arith) in
    bytes_step d (memory_of m nothing) a l ∙ omega (arith, p, q)

-- ---- ranges

module _ (x a d : ℕ) where
  pub inside_from : inside x a d ≡ true → (a ≤ x) × (x < a + d)
  inside_from e =
      let l = leb-true a x (and_left (leb a x) _ e) in
      let h = ltb-true (x - a) d (and_right (leb a x) _ e) in
      (l, omega arith)

  pub inside_is : a ≤ x → x < a + d → inside x a d ≡ true
  inside_is l h = and_both (leb a x) _ (le-leb a x l) (lt-ltb (x - a) d (omega arith))

  pub inside_below : x < a → inside x a d ≡ false
  inside_below h = rw (lt-leb a x h)

  pub inside_above : a + d ≤ x → inside x a d ≡ false
  inside_above h = rw (le-leb a x (omega arith), le-ltb (x - a) d (omega arith))

-- each byte of a range is there, or one is not
pub all_there_at : (d n a x : ℕ) → all_there d n a ≡ true → a ≤ x → x < a + d → there n x ≡ true
all_there_at zero n a x e l h = absurd (omega arith)
all_there_at (suc d) n a x e l h =
    ⊎_elim (λ (q : a < x). all_there_at d n (a + 1) x (and_right (there n a) _ e) (omega arith) (omega arith))
    (λ (q : x ≤ a). let z : x ≡ a = omega arith in ap (there n) z ∙ and_left (there n a) _ e) (side a x)

pub one_missing : (d n a : ℕ) → all_there d n a ≡ false → (x : ℕ) × (a ≤ x) × (x < a + d) × (there n x ≡ false)
one_missing zero n a e = absurd (true_false e)
one_missing (suc d) n a e = go (there n a) refl (one_missing d n (a + 1)) e
  where
    go : (t : Bool) → there n a ≡ t → (all_there d n (a + 1) ≡ false → (x : ℕ) × (a + 1 ≤ x) × (x < a + 1 + d) × (there n x ≡ false)) → (t && all_there d n (a + 1)) ≡ false →
        (x : ℕ) × (a ≤ x) × (x < a + suc d) × (there n x ≡ false)
    go false p q k = (a, omega arith, omega arith, p)
    go true p q k = let r = q k in (r.0, omega (arith, r.1), omega (arith, r.2), r.3)

-- ---- writes

-- a byte of a value after its lowest
byte_next : (k v : ℕ) → byte k (v / 256) ≡ byte (suc k) v
byte_next k v = ap (λ (n : ℕ). n % 256) (div-div-eq-div-mul v 256 (256 ^ k) ∙ ap (λ (n : ℕ). v / n) (sym (pow-succ' 256 k)))

put_at : (d : ℕ) (m : List ℕ) (a v x : ℕ) → a + d ≤ length m → get_or (put d m a v) x 0 ≡ (if inside x a d then byte (x - a) v else get_or m x 0)
put_at zero m a v x l = ⊎_elim (λ (q : x < a). rw (inside_below x a 0 q)) (λ (q : a ≤ x). rw (inside_above x a 0 (omega arith))) (side x a)
put_at (suc d) m a v x l =
    put_at d (set m a (v % 256)) (a + 1) (v / 256) x (omega (arith, length-set m a (v % 256)))
    ∙ ⊎_elim (λ (q : x < a). rw (inside_below x (a + 1) d (omega arith), inside_below x a (suc d) q, get_or-set_other m a x (v % 256) 0 (omega arith)))
    (λ (q : a ≤ x).
    ⊎_elim (λ (r : a < x).
    ⊎_elim (λ (s : x < a + suc d).
    let z : suc (x - (a + 1)) ≡ x - a = omega arith in
    rw (inside_is x (a + 1) d (omega arith) (omega arith), inside_is x a (suc d) q s) (byte_next (x - (a + 1)) v ∙ ap (λ (k : ℕ). byte k v) z))
    (λ (s : a + suc d ≤ x). rw (inside_above x (a + 1) d (omega arith), inside_above x a (suc d) s, get_or-set_other m a x (v % 256) 0 (omega arith)))
    (side x (a + suc d)))
    (λ (r : x ≤ a).
    let z : x ≡ a = omega arith in
    let y : x - a ≡ 0 = omega arith in
    rw (inside_below x (a + 1) d (omega arith), inside_is x a (suc d) q (omega arith))
    (ap (λ (k : ℕ). get_or (set m a (v % 256)) k 0) z ∙ get_or-set_same m a (v % 256) 0 (omega arith) ∙ sym (ap (λ (n : ℕ). n % 256) (ap (λ (k : ℕ). v / 256 ^ k) y ∙ div-one v))))
    (side a x))
    (side x a)

-- d bytes of v at a, all in memory
pub put_memory : (d : ℕ) (m : List ℕ) (M : ℕ → ℕ) (a v x : ℕ) → a + d ≤ length m → memory_of (put d m a v) M x ≡ (if inside x a d then byte (x - a) v else memory_of m M x)
put_memory d m M a v x l =
    ⊎_elim (λ (q : x < length m). memory_in (put d m a v) M x (omega (arith, put_length d m a v)) ∙ (put_at d m a v x l ∙ ap (λ (n : ℕ). if inside x a d then byte (x - a) v else n) (sym (memory_in m M x q))))
    (λ (q : length m ≤ x). memory_out (put d m a v) M x (omega (arith, put_length d m a v)) ∙ (sym (memory_out m M x q) ∙ sym (rw (inside_above x a d (omega arith)))))
    (side x (length m))

-- ---- entries and faults

-- the report's fault, where the entry is consulted and where not
abbrev pub consulted : Request → Walk → Bool
consulted trq w = not (complete w) && hit trq w

module _ (f : ℕ → ℕ) (trq : Request) (w : Walk) where
  pub fault_asked : consulted trq w ≡ true → fault f trq w ≡ wext_fault (bytes 4 f (ptea w)) trq.r
  unfolding fault
  fault_asked e = go (complete w) (hit trq w) e
    where
      go : (k h : Bool) → (not k && h) ≡ true → (not k && h && wext_fault (bytes 4 f (ptea w)) trq.r) ≡ wext_fault (bytes 4 f (ptea w)) trq.r
      go false true e = refl
      go false false e = absurd (true_false (sym e))
      go true h e = absurd (true_false (sym e))

  pub fault_unasked : consulted trq w ≡ false → fault f trq w ≡ false
  unfolding fault
  fault_unasked e = go (complete w) (hit trq w) e
    where
      go : (k h : Bool) → (not k && h) ≡ false → (not k && h && wext_fault (bytes 4 f (ptea w)) trq.r) ≡ false
      go false true e = absurd (true_false e)
      go false false e = refl
      go true h e = refl

module _ (m : List ℕ) (whole : length m % 4 ≡ 0) (trq : Request) (w : Walk) where
  -- what the machine's fault says of the report's, and which bytes it needs
  pub data Judges : Faulting → Type 0 where
    passes : ((M : ℕ → ℕ) → fault (memory_of m M) trq w ≡ false) → (consulted trq w ≡ true → ptea w + 4 ≤ length m) → Judges Passes
    faults : ((M : ℕ → ℕ) → fault (memory_of m M) trq w ≡ true) → consulted trq w ≡ true → ptea w + 4 ≤ length m → Judges Faults
    undecided : fault (memory_of m nothing) trq w ≡ true → consulted trq w ≡ true → length m ≤ ptea w → Judges Undecided

  by_entry : (M : ℕ → ℕ) → consulted trq w ≡ true → ptea w + 4 ≤ length m → (b : Bool) → wext_fault (bytes_at 4 m (ptea w)) trq.r ≡ b → fault (memory_of m M) trq w ≡ b
  by_entry M p h b e =
      fault_asked (memory_of m M) trq w p ∙ (ap (λ (v : ℕ). wext_fault v trq.r) (memory_bytes m M 4 (ptea w) (ptea_low w) h) ∙ e)

  absent : length m ≤ ptea w → consulted trq w ≡ true → fault (memory_of m nothing) trq w ≡ true
  unfolding wext_fault
  absent h p = fault_asked (memory_of m nothing) trq w p ∙ ap (λ (v : ℕ). wext_fault v trq.r) (bytes_beyond m 4 (ptea w) (ptea_low w) h)

  pub judges : Judges (fault_by trq w (entry_at m (ptea w)))
  unfolding fault_by entry_at entry_fault
  judges = go (consulted trq w) refl (leb (ptea w + 4) (length m)) refl (wext_fault (bytes_at 4 m (ptea w)) trq.r) refl
    where
      go : (t : Bool) → consulted trq w ≡ t → (u : Bool) → leb (ptea w + 4) (length m) ≡ u → (b : Bool) → wext_fault (bytes_at 4 m (ptea w)) trq.r ≡ b →
          Judges (if t then entry_fault trq.r (if u then Some (bytes_at 4 m (ptea w)) else None) else Passes)
      go false p u q b r = passes (λ M. fault_unasked (memory_of m M) trq w p) (λ e. absurd (true_false (sym e ∙ p)))
      go true p true q true r = rw r (faults (λ M. by_entry M p (leb-true _ _ q) true r) p (leb-true _ _ q))
      go true p true q false r = rw r (passes (λ M. by_entry M p (leb-true _ _ q) false r) (λ e. leb-true _ _ q))
      go true p false q b r = let h = leb-false (ptea w + 4) (length m) q in let l : length m ≤ ptea w = omega (arith, ptea_aligned w) in undecided (absent l p) p l

-- ---- the memory that a core sees

-- the ports' bytes
local_byte : (b : List ℕ) (select window k : ℕ) → k < 128 → apic_byte (ports_of b select window) k ≡ port_byte b k
local_byte b select window k h =
    ap (λ (v : ℕ). v / 256 ^ (k % 4) % 256) (get_or-take 32 (drop ports b) (k / 4) 0 (omega arith) ∙ get_or-drop ports b (k / 4) 0)

io_byte : (b : List ℕ) (io : IoApic) (k : ℕ) → k < 8 → ioapic_byte (ports_of b io.IOREGSEL io.IOWIN) k ≡ ioports io k
io_byte b io k h =
    ⊎_elim (λ (l : k < 4). let z : k % 4 ≡ k = omega arith in rw (lt-ltb k 4 l) (ap (λ (i : ℕ). byte i io.IOREGSEL) z))
    (λ (l : 4 ≤ k). let z : k % 4 ≡ k - 4 = omega arith in rw (le-ltb k 4 l) (ap (λ (i : ℕ). byte i io.IOWIN) z)) (side k 4)

module _ (b t m : List ℕ) (sb : List Store) (x : ℕ) where
  abbrev p : Ports
  p = ports_of b (ioregsel_of t) (iowin_of t)

  -- a byte that is seen is the report's
  pub seen_byte : (M : ℕ → ℕ) (v : ℕ) → ms sb p m x ≡ Some v → report.ms (ioapic_of t) (apic_of b) sb (memory_of m M) x ≡ v
  unfolding report.ms ms_of beneath apic_of ioapic_of
  seen_byte M v e = go (sbhit sb x) (local_port x) (io_port x) e
    where
      go : (s l i : Bool) → (if s then sbv sb x else if l then Some (apic_byte p (apicadr x)) else if i then Some (ioapic_byte p (ioapicadr x)) else memory_byte m x) ≡ Some v →
          (if s then the_byte (sbv sb x) else if l then port_byte b (apicadr x) else if i then ioports (ioapic_of t) (ioapicadr x) else memory_of m M x) ≡ v
      go true l i e = ap the_byte e
      go false true i e = sym (local_byte b (ioregsel_of t) (iowin_of t) (apicadr x) (omega arith)) ∙ ap the_byte e
      go false false true e = sym (io_byte b (ioapic_of t) (ioapicadr x) (omega arith)) ∙ ap the_byte e
      go false false false e = memory_byte_lem m M x v e

  -- one that is not is neither pending nor there
  pub unseen_byte : ms sb p m x ≡ None → (sbhit sb x ≡ false) × (there (length m) x ≡ false)
  unfolding ms_of beneath sbv
  unseen_byte e = go (maxsbhit sb x) (sbhit sb x) (local_port x) (io_port x) (ltb x (length m)) refl refl refl refl refl e
    where
      go : (h : Option ℕ) (s l i n : Bool) → maxsbhit sb x ≡ h → sbhit sb x ≡ s → local_port x ≡ l → io_port x ≡ i → ltb x (length m) ≡ n →
          (if s then forwarded_by sb x h else if l then Some (apic_byte p (apicadr x)) else if i then Some (ioapic_byte p (ioapicadr x)) else (if n then Some (get_or m x 0) else None)) ≡ None →
          (sbhit sb x ≡ false) × (there (length m) x ≡ false)
      go (Some j) true l i n a b c d f k = never (sym k)
      go None true l i n a b c d f k = absurd (true_false (sym b ∙ none_hits sb x a))
      go h false true i n a b c d f k = never (sym k)
      go h false false true n a b c d f k = never (sym k)
      go h false false false true a b c d f k = never (sym k)
      go h false false false false a b c d f k = (b, rw (f, d, c) refl)

  pub seen_there : (v : ℕ) → ms sb p m x ≡ Some v → (not (sbhit sb x) && not (there (length m) x)) ≡ false
  unfolding ms_of beneath
  seen_there v e = go (sbhit sb x) (local_port x) (io_port x) (ltb x (length m)) e
    where
      go : (s l i n : Bool) → (if s then sbv sb x else if l then Some (apic_byte p (apicadr x)) else if i then Some (ioapic_byte p (ioapicadr x)) else (if n then Some (get_or m x 0) else None)) ≡ Some v →
          (not s && not (n || (i || l))) ≡ false
      go true l i n e = refl
      go false true true true e = refl
      go false true true false e = refl
      go false true false true e = refl
      go false true false false e = refl
      go false false true true e = refl
      go false false true false e = refl
      go false false false true e = refl
      go false false false false e = never e
