-- What a step leaves: the words outside its own as they were, and words, flags and the SIPI vector in their ranges.
-- Assumes nothing.
use Rattle.std.specs.Prelude.{if◌then◌else◌, Option, Some, None}
use mathlib.Core.Path.{◌≡◌, refl, sym, ◌∙◌, subst}
use mathlib.Core.Bool.{Bool, true, false}
use mathlib.Core.List.{List}
use mathlib.Core.Logic.{◌⊎◌, inl, inr, ⊎_elim}
use Prim.Native.Nat.{ℕ, ◌+◌, ◌/◌, ◌%◌, ◌^◌, ◌≤◌, ◌<◌}
use native.Mathlib.Omega.{arith}
use lib.ListN.{get_or, set, length, length-set}
use lib.Seq.{get_or-set_other}
use lib.Dec.{eqb}
use borrow.Author.Tests.{ltb-true}
use Rattle.word.specs.Word.{sll, with_bit}
use Rattle.word.proofs.Words.{Words, set_case, set_below}
use Rattle.layout.specs.Layout.{running, sipirr, sipivect, initrr, eoipending}
use Rattle.apic.specs.declared.local.Kind.{Kind}
use Rattle.apic.specs.declared.local.Kind.TheVariants.{Fixed, Init, Startup}
use Rattle.apic.specs.declared.active.Ipi.{Ipi}
use Rattle.vector_register.specs.Vectors.{bit_at, with_vector, lowest, marked, is_vector}
use Rattle.apic.specs.LocalApic.{port_at, icr, eoi, isr, irr, id_of, eoi_written, port_written, startup, init, received, on_jisr, on_rfe}
use Rattle.apic.specs.Active.{idle, aimed, received_by, init_core, start_core}
use Rattle.word.proofs.Bits.{put_below}
use Rattle.vector_register.proofs.Least.{least_vector}

-- ---- what a step leaves; P tells the words that are not its own

pub record Kept (P : ℕ → Type 0) (b b' : List ℕ) : Type 0 where
  pub long : length b' ≡ length b
  pub same : (x : ℕ) → P x → get_or b' x 0 ≡ get_or b x 0
  pub words : Words b → Words b'
  pub running_flag : get_or b running 0 < 2 → get_or b' running 0 < 2
  pub sipirr_flag : get_or b sipirr 0 < 2 → get_or b' sipirr 0 < 2
  pub sipivect_small : get_or b sipivect 0 < 256 → get_or b' sipivect 0 < 256
  pub initrr_flag : get_or b initrr 0 < 2 → get_or b' initrr 0 < 2

module _ (P : ℕ → Type 0) where
  pub kept_all : (b : List ℕ) → Kept P b b
  kept_all b =
      record { long = refl; same = λ x p. refl; words = λ h. h; running_flag = λ h. h; sipirr_flag = λ h. h; sipivect_small = λ h. h; initrr_flag = λ h. h }

  pub kept_then : {a b c : List ℕ} → Kept P a b → Kept P b c → Kept P a c
  kept_then p q =
      record {
        long = q.long ∙ p.long;
        same = λ x h. q.same x h ∙ p.same x h;
        words = λ h. q.words (p.words h);
        running_flag = λ h. q.running_flag (p.running_flag h);
        sipirr_flag = λ h. q.sipirr_flag (p.sipirr_flag h);
        sipivect_small = λ h. q.sipivect_small (p.sipivect_small h);
        initrr_flag = λ h. q.initrr_flag (p.initrr_flag h);
      }

  -- one word, with a value in the range of its place
  pub kept_set : (b : List ℕ) (i v : ℕ) → (P i → ⊥) → (Words b → v < 2 ^ 32) →
      (i ≡ running → v < 2) → (i ≡ sipirr → v < 2) → (i ≡ sipivect → v < 256) → (i ≡ initrr → v < 2) → Kept P b (set b i v)
  kept_set b i v n w hr hs hv hi =
      record {
        long = length-set b i v;
        same = λ x p. get_or-set_other b i x v 0 (λ e. n (subst P e p));
        words = λ h. set_below b i v h (w h);
        running_flag = λ h. set_case (λ (y : ℕ). y < 2) b i v running (λ e. hr (sym e)) h;
        sipirr_flag = λ h. set_case (λ (y : ℕ). y < 2) b i v sipirr (λ e. hs (sym e)) h;
        sipivect_small = λ h. set_case (λ (y : ℕ). y < 256) b i v sipivect (λ e. hv (sym e)) h;
        initrr_flag = λ h. set_case (λ (y : ℕ). y < 2) b i v initrr (λ e. hi (sym e)) h;
      }

  pub kept_if : (t : Bool) {b x y : List ℕ} → Kept P b x → Kept P b y → Kept P b (if t then x else y)
  kept_if true p q = p
  kept_if false p q = q

-- ---- the passive steps, and the sender's: the words of the local APIC alone

abbrev pub Passive : ℕ → Type 0
Passive x = (x < 72) ⊎ (114 < x)

-- a word of the ports or of eoipending
port : (b : List ℕ) (i v : ℕ) → 72 ≤ i → i < 112 → (Words b → v < 2 ^ 32) → Kept Passive b (set b i v)
port b i v l h w =
    kept_set Passive b i v (λ o. ⊎_elim (λ k. omega arith) (λ k. omega arith) o) w
    (λ e. absurd (omega arith)) (λ e. absurd (omega arith)) (λ e. absurd (omega arith)) (λ e. absurd (omega arith))

module _ (b : List ℕ) where
  pub kept_vector : (p v x : ℕ) → 72 ≤ p → p + 8 ≤ 112 → v < 256 → x < 2 → Kept Passive b (with_vector b p v x)
  unfolding with_vector
  kept_vector p v x l h hv hx =
      port b (p + v / 32) (with_bit (get_or b (p + v / 32) 0) (v % 32) x) (omega arith) (omega arith)
      (λ w. put_below 32 (get_or b (p + v / 32) 0) (v % 32) x (w (p + v / 32)) (omega arith) hx)

  marked_case : (p : ℕ) (f : Option ℕ) (x : ℕ) → 72 ≤ p → p + 8 ≤ 112 → is_vector f ≡ true → x < 2 → Kept Passive b (marked b p f x)
  marked_case p None x l h hf hx = kept_all Passive b
  marked_case p (Some v) x l h hf hx = kept_vector p v x l h (ltb-true v 256 hf) hx

pub kept_marked : (b c : List ℕ) (p q x : ℕ) → 72 ≤ p → p + 8 ≤ 112 → x < 2 → Kept Passive b (marked b p (lowest c q) x)
kept_marked b c p q x l h hx = marked_case b p (lowest c q) x l h (least_vector (λ (k : ℕ). bit_at c q k)) hx

module _ (b : List ℕ) where
  pub kept_eoi_written : (v : ℕ) → v < 2 ^ 32 → Kept Passive b (eoi_written b v)
  unfolding eoi_written
  kept_eoi_written v hv =
      kept_then Passive (port b eoi v (omega arith) (omega arith) (λ w. hv))
      (kept_then Passive (kept_marked (set b eoi v) b isr isr 0 (omega arith) (omega arith) (omega arith))
      (kept_marked (marked (set b eoi v) isr (lowest b isr) 0) b eoipending isr 1 (omega arith) (omega arith) (omega arith)))

  pub kept_written : (a v : ℕ) → a < 128 → v < 2 ^ 32 → Kept Passive b (port_written b a v)
  unfolding port_written
  kept_written a v ha hv =
      kept_if Passive (eqb a 12) (kept_eoi_written v hv) (port b (port_at a) v (omega arith) (omega arith) (λ w. hv))

  pub kept_init : Kept Passive b (init b)
  unfolding init
  kept_init =
      kept_if Passive (eqb (get_or b initrr 0) 0)
      (kept_set Passive b initrr 1 (λ o. ⊎_elim (λ k. omega arith) (λ k. omega arith) o) (λ w. omega arith) (λ e. omega arith) (λ e. omega arith) (λ e. omega arith) (λ e. omega arith))
      (kept_all Passive b)

  pub kept_startup : (v : ℕ) → v < 256 → Kept Passive b (startup b v)
  unfolding startup
  kept_startup v hv =
      kept_if Passive (eqb (get_or b sipirr 0) 0)
      (kept_then Passive
      (kept_set Passive b sipirr 1 (λ o. ⊎_elim (λ k. omega arith) (λ k. omega arith) o) (λ w. omega arith) (λ e. omega arith) (λ e. omega arith) (λ e. omega arith) (λ e. omega arith))
      (kept_set Passive (set b sipirr 1) sipivect v (λ o. ⊎_elim (λ k. omega arith) (λ k. omega arith) o) (λ w. omega arith) (λ e. absurd (omega arith)) (λ e. absurd (omega arith)) (λ e. hv) (λ e. absurd (omega arith))))
      (kept_all Passive b)

  pub kept_received : (k : Kind) (v : ℕ) → v < 256 → Kept Passive b (received b k v)
  kept_received Fixed v hv = kept_vector b irr v 1 (omega arith) (omega arith) hv (omega arith)
  kept_received Init v hv = kept_init
  kept_received Startup v hv = kept_startup v hv

  pub kept_jisr : Kept Passive b (on_jisr b)
  unfolding on_jisr
  kept_jisr =
      kept_then Passive (kept_marked b b irr irr 0 (omega arith) (omega arith) (omega arith))
      (kept_marked (marked b irr (lowest b irr) 0) b isr irr 1 (omega arith) (omega arith) (omega arith))

  pub kept_rfe : Kept Passive b (on_rfe b)
  unfolding on_rfe
  kept_rfe = kept_marked b b isr isr 0 (omega arith) (omega arith) (omega arith)

  pub kept_idle : Kept Passive b (idle b)
  unfolding idle
  kept_idle =
      port b icr (with_bit (get_or b icr 0) 12 0) (omega arith) (omega arith) (λ w. put_below 32 (get_or b icr 0) 12 0 (w icr) (omega arith) (omega arith))

  pub kept_received_by : (m : Ipi) (own : Bool) → m.vect < 256 → Kept Passive b (received_by m own b)
  unfolding received_by
  kept_received_by m own h =
      kept_if Passive (aimed m.target own (eqb (id_of b) m.dest)) (kept_received m.kind m.vect h) (kept_all Passive b)

-- ---- init_core and start_core: special registers, pc, the flags

abbrev pub Reset : ℕ → Type 0
Reset x = (x < 32) ⊎ (((67 < x) × (x < 112)) ⊎ (114 < x))

not_reset : (i : ℕ) → 32 ≤ i → (i ≤ 67) ⊎ ((112 ≤ i) × (i ≤ 114)) → Reset i → ⊥
not_reset i l o r =
    ⊎_elim
    (λ h. omega arith)
    (λ q. ⊎_elim (λ h. ⊎_elim (λ k. omega arith) (λ k. omega arith) o) (λ h. ⊎_elim (λ k. omega arith) (λ k. omega arith) o) q)
    r

-- 0 or 1 anywhere but at the SIPI vector
flag : (b : List ℕ) (i v : ℕ) → v < 2 → (Reset i → ⊥) → Kept Reset b (set b i v)
flag b i v h n = kept_set Reset b i v n (λ w. omega arith) (λ e. h) (λ e. h) (λ e. omega arith) (λ e. h)

module _ (b : List ℕ) where
  pub kept_init_core : Kept Reset b (init_core b)
  unfolding init_core
  kept_init_core =
      kept_then Reset (flag b 64 0 (omega arith) (not_reset 64 (omega arith) (inl (omega arith))))
      (kept_then Reset (flag (set b 64 0) 39 0 (omega arith) (not_reset 39 (omega arith) (inl (omega arith))))
      (kept_then Reset (flag (set (set b 64 0) 39 0) 34 0 (omega arith) (not_reset 34 (omega arith) (inl (omega arith))))
      (kept_then Reset (flag (set (set (set b 64 0) 39 0) 34 0) 67 0 (omega arith) (not_reset 67 (omega arith) (inl (omega arith))))
      (flag (set (set (set (set b 64 0) 39 0) 34 0) 67 0) 114 0 (omega arith) (not_reset 114 (omega arith) (inr (omega arith, omega arith)))))))

  pub kept_start_core : Kept Reset b (start_core b)
  unfolding start_core
  kept_start_core =
      kept_then Reset
      (kept_set Reset b 64 (sll (get_or b sipivect 0) 24) (not_reset 64 (omega arith) (inl (omega arith))) (λ w. omega arith) (λ e. absurd (omega arith)) (λ e. absurd (omega arith)) (λ e. absurd (omega arith)) (λ e. absurd (omega arith)))
      (kept_then Reset (flag (set b 64 (sll (get_or b sipivect 0) 24)) 67 1 (omega arith) (not_reset 67 (omega arith) (inl (omega arith))))
      (flag (set (set b 64 (sll (get_or b sipivect 0) 24)) 67 1) 112 0 (omega arith) (not_reset 112 (omega arith) (inr (omega arith, omega arith)))))
