-- The local APIC of a block as the report's, and what each passive step of it does to both.
-- Assumes nothing.
use Rattle.std.specs.Prelude.{if◌then◌else◌, Option, Some, None}
use mathlib.Core.Path.{◌≡◌, refl, sym, ◌∙◌, ap, ap₂, subst}
use mathlib.Core.Bool.{Bool, true, false}
use mathlib.Core.List.{List}
use mathlib.Core.Logic.{⊎_elim}
use Prim.Native.Nat.{ℕ, zero, suc, ◌+◌, ◌-◌, ◌*◌, ◌/◌, ◌%◌, ◌<◌, ◌≤◌}
use lib.Dec.{eqb}
use lib.ListN.{length, get_or, set, drop, length-set}
use lib.Seq.{get_or-set_same, get_or-set_other, get_or-take, get_or-drop}
use native.Mathlib.Omega.{arith}
use borrow.Author.Tests.{eqb-true, eqb-false, ltb-true, lt-ltb, le-ltb, le-leb, lt-leb}
use Rattle.word.specs.Word.{bit, is_set, flag, with_bit}
use Rattle.word.specs.Bytes.{byte}
use Rattle.word.proofs.Laws.{side}
use Rattle.layout.specs.Layout as at
use Rattle.tables.specs.Views.{port_byte, sipirr_of, initrr_of}
use Rattle.vector_register.specs.Vectors.{with_vector, least, lowest, marked, is_vector}
use Rattle.vector_register.specs.Vectors as vectors
use Rattle.apic.specs.LocalApic as local
use Rattle.apic.specs.Active as active
use Rattle.vector_register.proofs.Least.{least_vector}
use Rattle.vector_register.proofs.Registers.{vector_same, vector_other}
use Rattle.report.specs.Configuration.{Apic, upd, with_ports, with_init, with_sipi, with_eoipending}
use Rattle.report.specs.Components.{inside, bit_at, with_bit_at, icr, isr, irr, min, at_vector, written, ended, ΣApic, δapic}
use Rattle.report.specs.View.{apic_of, SameApic}
use Rattle.word.proofs.Bits.{byte_bit, byte_put, byte_apart, flag_set}

-- ---- agreement

pub apic_refl : (a : Apic) → SameApic a a
apic_refl a = record { ports = λ x h. refl; initrr = refl; sipirr = refl; sipivect = refl; eoipending = λ v h. refl }

-- f with x at k, seen at j
pub upd_case : {A : Type 0} (P : A → Type 0) (f : ℕ → A) (k j : ℕ) (x : A) → (j ≡ k → P x) → ((j ≡ k → ⊥) → P (f j)) → P (upd f k x j)
upd_case {A} P f k j x p q = go (eqb j k) refl
  where
    go : (t : Bool) → eqb j k ≡ t → P (if t then x else f j)
    go true e = p (eqb-true j k e)
    go false e = q (eqb-false j k e)

pub upd_own : {A : Type 0} (f : ℕ → A) (k j : ℕ) → upd f k (f k) j ≡ f j
upd_own f k j = upd_case (λ x. x ≡ f j) f k j (f k) (λ e. ap f (sym e)) (λ d. refl)

-- ---- the parts of a block's local APIC

-- a port byte whose word is as before
byte_same : (b c : List ℕ) (x : ℕ) → get_or c (72 + x / 4) 0 ≡ get_or b (72 + x / 4) 0 → port_byte c x ≡ port_byte b x
byte_same b c x e = ap (λ (w : ℕ). byte (x % 4) w) e

pub eoi_bit : (b : List ℕ) (v : ℕ) → v < 256 → (apic_of b).eoipending v ≡ eqb (vectors.bit_at b at.eoipending v) 1
unfolding apic_of
eoi_bit b v h = ap (λ (w : ℕ). is_set w (v % 32)) (get_or-take 8 (drop 104 b) (v / 32) 0 (omega arith) ∙ get_or-drop 104 b (v / 32) 0)

-- the words of the local APIC as before
pub apic_kept : (b c : List ℕ) → ((i : ℕ) → 72 ≤ i → i ≤ 114 → get_or c i 0 ≡ get_or b i 0) → SameApic (apic_of b) (apic_of c)
unfolding apic_of
apic_kept b c f =
    record {
      ports = λ x h. sym (byte_same b c x (f (72 + x / 4) (omega arith) (omega arith)));
      initrr = sym (ap (λ (n : ℕ). eqb n 1) (f 114 (omega arith) (omega arith)));
      sipirr = sym (ap (λ (n : ℕ). eqb n 1) (f 112 (omega arith) (omega arith)));
      sipivect = sym (f 113 (omega arith) (omega arith));
      eoipending = λ v h. eoi_bit b v h ∙ sym (ap (λ (w : ℕ). eqb (bit w (v % 32)) 1) (f (104 + v / 32) (omega arith) (omega arith))) ∙ sym (eoi_bit c v h);
    }

-- a register that starts at a port divisible by four, bit by bit
pub register_bit : (b : List ℕ) (r j : ℕ) → r % 4 ≡ 0 → bit_at r (apic_of b) j ≡ vectors.bit_at b (72 + r / 4) j
unfolding apic_of
register_bit b r j h =
    let e : 72 + (r + j / 8) / 4 ≡ 72 + r / 4 + j / 32 = omega arith in
    let f : 8 * ((r + j / 8) % 4) + j % 8 ≡ j % 32 = omega arith in
    byte_bit (get_or b (72 + (r + j / 8) / 4) 0) ((r + j / 8) % 4) (j % 8) (omega arith) ∙ ap₂ (λ (i k : ℕ). bit (get_or b i 0) k) e f

-- the lowest vector of two functions that agree
pub least_same : (f g : ℕ → ℕ) (n u : ℕ) → ((k : ℕ) → k < u + n → f k ≡ g k) → least f n u ≡ least g n u
unfolding least
least_same f g zero u e = refl
least_same f g (suc n) u e =
    ap (λ (t : Bool). elim t as (λ _. Option ℕ) [ true ↦ Some u | false ↦ least f n (u + 1) ]) (ap (λ (x : ℕ). eqb x 1) (e u (omega arith)))
    ∙ ap (λ (r : Option ℕ). elim (eqb (g u) 1) as (λ _. Option ℕ) [ true ↦ Some u | false ↦ r ]) (least_same f g n (u + 1) (λ k l. e k (omega arith)))

module _ (a : Apic) (b : List ℕ) (S : SameApic a (apic_of b)) where
  pub bit_same_as : (r j : ℕ) → r % 4 ≡ 0 → r + 32 ≤ 128 → j < 256 → bit_at r a j ≡ vectors.bit_at b (72 + r / 4) j
  bit_same_as r j h l k = ap (λ (n : ℕ). bit n (j % 8)) (S.ports (r + j / 8) (omega arith)) ∙ register_bit b r j h

  -- the lowest vector of a register
  pub min_lowest : (r : ℕ) → r % 4 ≡ 0 → r + 32 ≤ 128 → min (bit_at r a) ≡ lowest b (72 + r / 4)
  min_lowest r h l = least_same (bit_at r a) (λ (k : ℕ). vectors.bit_at b (72 + r / 4) k) 256 0 (λ k m. bit_same_as r k h l (omega arith))

  pub min_eoi : min (λ (k : ℕ). flag (a.eoipending k)) ≡ lowest b at.eoipending
  min_eoi =
      least_same (λ (k : ℕ). flag (a.eoipending k)) (λ (k : ℕ). vectors.bit_at b at.eoipending k) 256 0
      (λ k m. ap flag (S.eoipending k (omega arith) ∙ eoi_bit b k (omega arith)) ∙ flag_set (get_or b (104 + k / 32) 0) (k % 32))

-- ---- one bit put

module _ (a : Apic) (b : List ℕ) (S : SameApic a (apic_of b)) (long : length b ≡ 256) where
  -- a word of the ports is written
  port_set : (i w : ℕ) (f : ℕ → ℕ) → 72 ≤ i → i < 104 → ((x : ℕ) → x < 128 → (72 + x / 4 ≡ i → f x ≡ byte (x % 4) w) × ((72 + x / 4 ≡ i → ⊥) → f x ≡ a.ports x)) →
      SameApic (with_ports a f) (apic_of (set b i w))
  unfolding apic_of
  port_set i w f l h F =
      record {
        ports = λ x m. go x m (eqb (72 + x / 4) i) refl;
        initrr = S.initrr ∙ sym (ap (λ (n : ℕ). eqb n 1) (get_or-set_other b i 114 w 0 (omega arith)));
        sipirr = S.sipirr ∙ sym (ap (λ (n : ℕ). eqb n 1) (get_or-set_other b i 112 w 0 (omega arith)));
        sipivect = S.sipivect ∙ sym (get_or-set_other b i 113 w 0 (omega arith));
        eoipending = λ v m. S.eoipending v m ∙ eoi_bit b v m ∙ sym (ap (λ (n : ℕ). eqb (bit n (v % 32)) 1) (get_or-set_other b i (104 + v / 32) w 0 (omega arith))) ∙ sym (eoi_bit (set b i w) v m);
      }
    where
      go : (x : ℕ) → x < 128 → (t : Bool) → eqb (72 + x / 4) i ≡ t → f x ≡ port_byte (set b i w) x
      go x m true e =
          let p : 72 + x / 4 ≡ i = eqb-true (72 + x / 4) i e in
          (F x m).0 p ∙ sym (ap (byte (x % 4)) (ap (λ (j : ℕ). get_or (set b i w) j 0) p ∙ get_or-set_same b i w 0 (omega arith)))
      go x m false e =
          let d : 72 + x / 4 ≡ i → ⊥ = eqb-false (72 + x / 4) i e in
          (F x m).1 d ∙ S.ports x m ∙ sym (byte_same b (set b i w) x (get_or-set_other b i (72 + x / 4) w 0 d))

  pub put_bit : (r v x : ℕ) → r % 4 ≡ 0 → r + 32 ≤ 128 → v < 256 → x < 2 → SameApic (with_bit_at r a v x) (apic_of (with_vector b (72 + r / 4) v x))
  unfolding with_vector apic_of
  put_bit r v x hr lr hv hx =
      let i : ℕ = 72 + r / 4 + v / 32 in
      let w : ℕ = get_or b i 0 in
      port_set i (with_bit w (v % 32) x) (upd a.ports (r + v / 8) (with_bit (a.ports (r + v / 8)) (v % 8) x)) (omega arith) (omega arith)
      (λ y m.
      let q : ℕ = (r + v / 8) % 4 in
      let e : v % 32 ≡ 8 * q + v % 8 = omega arith in (
        λ p. upd_case (λ (z : ℕ). z ≡ byte (y % 4) (with_bit w (v % 32) x)) a.ports (r + v / 8) y (with_bit (a.ports (r + v / 8)) (v % 8) x)
            (λ h.
            let f : y % 4 ≡ q = omega arith in
            let g : 72 + (r + v / 8) / 4 ≡ i = omega arith in
            ap (λ (z : ℕ). with_bit z (v % 8) x) (S.ports (r + v / 8) (omega arith) ∙ ap (λ (j : ℕ). byte q (get_or b j 0)) g)
            ∙ sym (ap₂ (λ (j k : ℕ). byte j (with_bit w k x)) f e ∙ byte_put w q (v % 8) x (omega arith) hx))
            (λ d.
            S.ports y m ∙ ap (λ (j : ℕ). byte (y % 4) (get_or b j 0)) p
            ∙ sym (ap (λ (k : ℕ). byte (y % 4) (with_bit w k x)) e ∙ byte_apart w q (v % 8) x (omega arith) hx (y % 4) (λ f. d (omega arith)))),
        λ d. upd_case (λ (z : ℕ). z ≡ a.ports y) a.ports (r + v / 8) y (with_bit (a.ports (r + v / 8)) (v % 8) x) (λ h. absurd (d (omega arith))) (λ h. refl),
      ))

  -- eoipending
  pub put_eoi : (v x : ℕ) → v < 256 → x < 2 → SameApic (with_eoipending a (upd a.eoipending v (eqb x 1))) (apic_of (with_vector b at.eoipending v x))
  unfolding with_vector apic_of
  put_eoi v x hv hx =
      let i : ℕ = 104 + v / 32 in
      let w : ℕ = with_bit (get_or b i 0) (v % 32) x in
      record {
        ports = λ y m. S.ports y m ∙ sym (byte_same b (set b i w) y (get_or-set_other b i (72 + y / 4) w 0 (omega arith)));
        initrr = S.initrr ∙ sym (ap (λ (n : ℕ). eqb n 1) (get_or-set_other b i 114 w 0 (omega arith)));
        sipirr = S.sipirr ∙ sym (ap (λ (n : ℕ). eqb n 1) (get_or-set_other b i 112 w 0 (omega arith)));
        sipivect = S.sipivect ∙ sym (get_or-set_other b i 113 w 0 (omega arith));
        eoipending = λ j m.
            upd_case (λ (z : Bool). z ≡ eqb (vectors.bit_at (with_vector b at.eoipending v x) at.eoipending j) 1) a.eoipending v j (eqb x 1)
            (λ e. sym (ap (λ (n : ℕ). eqb n 1) (ap (vectors.bit_at (with_vector b at.eoipending v x) at.eoipending) e ∙ vector_same b at.eoipending v x (omega arith) hv hx)))
            (λ d. S.eoipending j m ∙ eoi_bit b j m ∙ sym (ap (λ (n : ℕ). eqb n 1) (vector_other b at.eoipending v x (omega arith) hv hx j d)))
            ∙ sym (eoi_bit (with_vector b at.eoipending v x) j m);
      }

-- ---- 9.2: the passive steps

vector_long : (b : List ℕ) (p v x : ℕ) → length b ≡ 256 → length (with_vector b p v x) ≡ 256
unfolding with_vector
vector_long b p v x e = length-set b (p + v / 32) (with_bit (get_or b (p + v / 32) 0) (v % 32) x) ∙ e

module _ (a : Apic) (b : List ℕ) (S : SameApic a (apic_of b)) (long : length b ≡ 256) where
  -- jisr and rfe
  pub jisr_same : SameApic (δapic a ΣApic.jisr) (apic_of (local.on_jisr b))
  unfolding δapic local.on_jisr
  jisr_same =
      subst (λ (f : Option ℕ). SameApic (at_vector f (λ j. with_bit_at isr (with_bit_at irr a j 0) j 1) a) (apic_of (marked (marked b local.irr (lowest b local.irr) 0) local.isr (lowest b local.irr) 1)))
      (sym (min_lowest a b S irr refl (omega arith))) (go (lowest b local.irr) (least_vector (λ (k : ℕ). vectors.bit_at b local.irr k)))
    where
      go : (f : Option ℕ) → is_vector f ≡ true → SameApic (at_vector f (λ j. with_bit_at isr (with_bit_at irr a j 0) j 1) a) (apic_of (marked (marked b local.irr f 0) local.isr f 1))
      go None h = S
      go (Some v) h =
          let l = ltb-true v 256 h in
          put_bit (with_bit_at irr a v 0) (with_vector b local.irr v 0) (put_bit a b S long irr v 0 refl (omega arith) l (omega arith)) (vector_long b local.irr v 0 long) isr v 1 refl (omega arith) l (omega arith)

  pub rfe_same : SameApic (δapic a ΣApic.rfe) (apic_of (local.on_rfe b))
  unfolding δapic local.on_rfe
  rfe_same =
      subst (λ (f : Option ℕ). SameApic (at_vector f (λ j. with_bit_at isr a j 0) a) (apic_of (marked b local.isr (lowest b local.isr) 0)))
      (sym (min_lowest a b S isr refl (omega arith))) (go (lowest b local.isr) (least_vector (λ (k : ℕ). vectors.bit_at b local.isr k)))
    where
      go : (f : Option ℕ) → is_vector f ≡ true → SameApic (at_vector f (λ j. with_bit_at isr a j 0) a) (apic_of (marked b local.isr f 0))
      go None h = S
      go (Some v) h = put_bit a b S long isr v 0 refl (omega arith) (ltb-true v 256 h) (omega arith)

  -- a word at a port
  pub port_same : (p v : ℕ) → p < 128 → p % 4 ≡ 0 → SameApic (written a p v) (apic_of (set b (local.port_at p) v))
  port_same p v h q =
      port_set a b S long (72 + p / 4) v (λ x. if inside x p 4 then byte (x - p) v else a.ports x) (omega arith) (omega arith)
      (λ x m. (
        λ e.
            let f : x - p ≡ x % 4 = omega arith in
            rw (le-leb p x (omega arith), lt-ltb (x - p) 4 (omega arith)) (ap (λ (k : ℕ). byte k v) f),
        λ d. ⊎_elim
            (λ l. rw (lt-leb p x l))
            (λ l. rw (le-leb p x l, le-ltb (x - p) 4 (⊎_elim (λ k. absurd (d (omega arith))) (λ k. k) (side (x - p) 4))))
            (side x p),
      ))

  -- EOI is port 12
  eoi_same : (v : ℕ) → SameApic (at_vector (min (bit_at isr a)) (ended (written a 12 v)) (written a 12 v)) (apic_of (local.eoi_written b v))
  unfolding local.eoi_written
  eoi_same v =
      subst (λ (f : Option ℕ). SameApic (at_vector f (ended (written a 12 v)) (written a 12 v)) (apic_of (marked (marked (set b local.eoi v) local.isr (lowest b local.isr) 0) at.eoipending (lowest b local.isr) 1)))
      (sym (min_lowest a b S isr refl (omega arith))) (go (lowest b local.isr) (least_vector (λ (k : ℕ). vectors.bit_at b local.isr k)))
    where
      go : (f : Option ℕ) → is_vector f ≡ true → SameApic (at_vector f (ended (written a 12 v)) (written a 12 v)) (apic_of (marked (marked (set b local.eoi v) local.isr f 0) at.eoipending f 1))
      go None h = port_same 12 v (omega arith) refl
      go (Some j) h =
          let l = ltb-true j 256 h in
          let c : List ℕ = set b local.eoi v in
          let longer : length c ≡ 256 = length-set b local.eoi v ∙ long in
          put_eoi (with_bit_at isr (written a 12 v) j 0) (with_vector c local.isr j 0)
          (put_bit (written a 12 v) c (port_same 12 v (omega arith) refl) longer isr j 0 refl (omega arith) l (omega arith)) (vector_long c local.isr j 0 longer) j 1 l (omega arith)

  pub written_same : (p v : ℕ) → p < 128 → p % 4 ≡ 0 → SameApic (δapic a (ΣApic.write p v)) (apic_of (local.port_written b p v))
  unfolding δapic local.port_written
  written_same p v h q = go (eqb p 12) refl
    where
      go : (t : Bool) → eqb p 12 ≡ t →
          SameApic (if t then at_vector (min (bit_at isr a)) (ended (written a p v)) (written a p v) else written a p v) (apic_of (if t then local.eoi_written b v else set b (local.port_at p) v))
      go true e =
          subst (λ (n : ℕ). SameApic (at_vector (min (bit_at isr a)) (ended (written a n v)) (written a n v)) (apic_of (local.eoi_written b v))) (sym (eqb-true p 12 e)) (eoi_same v)
      go false e = port_same p v h q

  -- messages
  pub fixed_same : (v : ℕ) → v < 256 → SameApic (δapic a (ΣApic.Fixed v)) (apic_of (local.fixed b v))
  unfolding δapic
  fixed_same v h = put_bit a b S long irr v 1 refl (omega arith) h (omega arith)

  pub init_same : (v : ℕ) → initrr_of b < 2 → SameApic (δapic a (ΣApic.INIT v)) (apic_of (local.init b))
  unfolding δapic local.init apic_of
  init_same v h = go (initrr_of b) refl h
    where
      go : (n : ℕ) → initrr_of b ≡ n → n < 2 → SameApic (if a.initrr then a else with_init a true) (apic_of (if eqb n 0 then set b at.initrr 1 else b))
      go zero e l =
          rw (S.initrr ∙ ap (λ (k : ℕ). eqb k 1) e)
          (record {
            ports = λ x m. S.ports x m ∙ sym (byte_same b (set b 114 1) x (get_or-set_other b 114 (72 + x / 4) 1 0 (omega arith)));
            initrr = sym (ap (λ (k : ℕ). eqb k 1) (get_or-set_same b 114 1 0 (omega arith)));
            sipirr = S.sipirr ∙ sym (ap (λ (k : ℕ). eqb k 1) (get_or-set_other b 114 112 1 0 (omega arith)));
            sipivect = S.sipivect ∙ sym (get_or-set_other b 114 113 1 0 (omega arith));
            eoipending = λ v m. S.eoipending v m ∙ eoi_bit b v m ∙ sym (ap (λ (k : ℕ). eqb (bit k (v % 32)) 1) (get_or-set_other b 114 (104 + v / 32) 1 0 (omega arith))) ∙ sym (eoi_bit (set b 114 1) v m);
          })
      go (suc zero) e l = subst (λ (t : Bool). SameApic (if t then a else with_init a true) (apic_of b)) (sym (S.initrr ∙ ap (λ (k : ℕ). eqb k 1) e)) S
      go (suc (suc n)) e l = absurd (omega arith)

  pub startup_same : (v : ℕ) → sipirr_of b < 2 → SameApic (δapic a (ΣApic.SIPI v)) (apic_of (local.startup b v))
  unfolding δapic local.startup apic_of
  startup_same v h = go (sipirr_of b) refl h
    where
      other : (i : ℕ) → (i ≡ 112 → ⊥) → (i ≡ 113 → ⊥) → get_or (set (set b 112 1) 113 v) i 0 ≡ get_or b i 0
      other i p q = get_or-set_other (set b 112 1) 113 i v 0 q ∙ get_or-set_other b 112 i 1 0 p

      go : (n : ℕ) → sipirr_of b ≡ n → n < 2 → SameApic (if a.sipirr then a else with_sipi a true v) (apic_of (if eqb n 0 then set (set b at.sipirr 1) at.sipivect v else b))
      go zero e l =
          rw (S.sipirr ∙ ap (λ (k : ℕ). eqb k 1) e)
          (record {
            ports = λ x m. S.ports x m ∙ sym (byte_same b (set (set b 112 1) 113 v) x (other (72 + x / 4) (omega arith) (omega arith)));
            initrr = S.initrr ∙ sym (ap (λ (k : ℕ). eqb k 1) (other 114 (omega arith) (omega arith)));
            sipirr = sym (ap (λ (k : ℕ). eqb k 1) (get_or-set_other (set b 112 1) 113 112 v 0 (omega arith) ∙ get_or-set_same b 112 1 0 (omega arith)));
            sipivect = sym (get_or-set_same (set b 112 1) 113 v 0 (omega (arith, length-set b 112 1)));
            eoipending = λ j m. S.eoipending j m ∙ eoi_bit b j m ∙ sym (ap (λ (k : ℕ). eqb (bit k (j % 32)) 1) (other (104 + j / 32) (omega arith) (omega arith))) ∙ sym (eoi_bit (set (set b 112 1) 113 v) j m);
          })
      go (suc zero) e l = subst (λ (t : Bool). SameApic (if t then a else with_sipi a true v) (apic_of b)) (sym (S.sipirr ∙ ap (λ (k : ℕ). eqb k 1) e)) S
      go (suc (suc n)) e l = absurd (omega arith)

  -- the sender's ICR.ds
  pub idle_same : SameApic (with_bit_at icr a 12 0) (apic_of (active.idle b))
  unfolding active.idle with_vector
  idle_same = put_bit a b S long icr 12 0 refl (omega arith) (omega arith) (omega arith)
