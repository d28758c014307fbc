-- What sound tables have for a core's step, and what an action asks.
-- Assumes nothing.
use mathlib.Core.Path.{◌≡◌, subst}
use mathlib.Core.Bool.{true}
use mathlib.Core.List.{List}
use Prim.Native.Nat.{ℕ, ◌+◌, ◌*◌, ◌%◌, ◌<◌, ◌≤◌}
use lib.ListN.{length}
use lib.Dec.{ltb}
use native.Mathlib.Omega.{arith}
use borrow.Author.Tests.{ltb-true}
use Rattle.layout.specs.Blocks.{block}
use Rattle.records.specs.Records.{linked}
use Rattle.records.specs.Contents.{sound_records}
use Rattle.tables.specs.Views.{cores_of}
use Rattle.tables.specs.Sound.{sound}
use Rattle.tables.proofs.Parts.{records_of}
use Rattle.tables.proofs.Steps.{block_linked}
use Rattle.tables.proofs.Lift.{header, core_fits, core_sound, bytes_divide}
use Rattle.steps.specs.Form.{word, count_at}
use Rattle.steps.proofs.Whose.{by_count}
use Rattle.apic.specs.declared.active.Ipi.{Ipi}
use Rattle.machine.specs.declared.action.Action.{Action}
use Rattle.machine.specs.declared.action.Action.TheVariants.{SendIpi, SendEoi, InitCore, StartCore, Sample, Deliver, SetLine}
use Rattle.machine.specs.inner.Doable.{doable}
use Rattle.word.proofs.Truth.{and_left, and_right}

module _ (t : List ℕ) (n : ℕ) (e : sound t n ≡ true) where
  pub header_words : 32 ≤ length t
  header_words = omega (arith, (header t n e).long)

  -- the word that counts a refusal is there
  pub count_there : (s : List ℕ) → count_at (cores_of t) s < length t
  count_there s = by_count (λ (i : ℕ). i < length t) (cores_of t) s (omega (arith, header_words)) (λ h. omega (arith, core_fits t n e (word s 1) h))

  pub quarters : n % 4 ≡ 0
  quarters = omega (arith, bytes_divide t n e)

  module _ (k : ℕ) (h : ltb k (cores_of t) ≡ true) where
    pub has : 32 + 256 * k + 256 ≤ length t
    has = core_fits t n e k (ltb-true k (cores_of t) h)

    pub records_sound : sound_records n (block t k) ≡ true
    records_sound = records_of n (block t k) (core_sound t n e k (ltb-true k (cores_of t) h))

    pub chains : linked (block t k) ≡ true
    chains = block_linked n (block t k) (core_sound t n e k (ltb-true k (cores_of t) h))

module _ {x : Action} (n : ℕ) (d : doable n x ≡ true) where
  when : (y : Action) → x ≡ y → doable n y ≡ true
  when y p = subst (λ z. doable n z ≡ true) p d

  pub ipi_asks : (k : ℕ) (i : Ipi) → x ≡ SendIpi k i → (ltb k n ≡ true) × (i.vect < 256)
  unfolding doable
  ipi_asks k i q = let f = when (SendIpi k i) q in (and_left (ltb k n) _ f, ltb-true i.vect 256 (and_right (ltb k n) _ f))

  pub eoi_asks : (k v : ℕ) → x ≡ SendEoi k v → (ltb k n ≡ true) × (v < 256)
  unfolding doable
  eoi_asks k v q = let f = when (SendEoi k v) q in (and_left (ltb k n) _ f, ltb-true v 256 (and_right (ltb k n) _ f))

  pub init_asks : (k : ℕ) → x ≡ InitCore k → ltb k n ≡ true
  unfolding doable
  init_asks k q = when (InitCore k) q

  pub start_asks : (k : ℕ) → x ≡ StartCore k → ltb k n ≡ true
  unfolding doable
  start_asks k q = when (StartCore k) q

  pub sample_asks : (l : ℕ) → x ≡ Sample l → l < 24
  unfolding doable
  sample_asks l q = ltb-true l 24 (when (Sample l) q)

  pub deliver_asks : (l : ℕ) → x ≡ Deliver l → l < 24
  unfolding doable
  deliver_asks l q = ltb-true l 24 (when (Deliver l) q)

  pub line_asks : (l v : ℕ) → x ≡ SetLine l v → (l < 24) × (v < 2)
  unfolding doable
  line_asks l v q = let f = when (SetLine l v) q in (ltb-true l 24 (and_left (ltb l 24) _ f), ltb-true v 2 (and_right (ltb l 24) _ f))
