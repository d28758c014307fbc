-- A store's soundness, width by width.
-- Assumes nothing.
use mathlib.Core.Path.{◌≡◌, refl, ap}
use mathlib.Core.Logic.{◌≢◌}
use Prim.Native.Nat.{ℕ, ◌+◌, ◌%◌, ◌^◌, ◌<◌}
use mathlib.Core.Bool.{Bool, true, false, ◌&&◌}
use native.Mathlib.Omega.{arith}
use lib.Dec.{eqb, ltb}
use borrow.Author.Tests.{lt-ltb, ne_eqb}
use Rattle.records.specs.declared.Store.{Store}
use Rattle.records.specs.Contents.{there, store_sound}

and_unit : (t : Bool) → t ≡ t && true
and_unit true = refl
and_unit false = refl

four : (a p q r s : Bool) → a && ((p && q) && (r && s)) ≡ a && (p && (q && (r && (s && true))))
four false p q r s = refl
four true false q r s = refl
four true true false r s = refl
four true true true false s = refl
four true true true true s = and_unit s

module _ (n : ℕ) (s : Store) where
  pub store_1 : s.width ≡ 1 → ltb s.value 256 && there n s.address ≡ store_sound n s
  unfolding store_sound
  store_1 e =
      let m : s.address % 1 ≡ 0 = omega arith in
      rw (e, m) (ap (λ (t : Bool). ltb s.value 256 && t) (and_unit (there n s.address)))

  pub store_2 : s.width ≡ 2 → eqb (s.address % 2) 0 && (ltb s.value 65536 && (there n s.address && there n (s.address + 1))) ≡ store_sound n s
  unfolding store_sound
  store_2 e = rw e (ap (λ (t : Bool). eqb (s.address % 2) 0 && (ltb s.value 65536 && (there n s.address && t))) (and_unit (there n (s.address + 1))))

  pub store_4 : s.width ≡ 4 → s.value < 2 ^ 32
      → eqb (s.address % 4) 0 && ((there n s.address && there n (s.address + 1)) && (there n (s.address + 2) && there n (s.address + 2 + 1))) ≡ store_sound n s
  unfolding store_sound
  store_4 e h =
      let p : s.address + 1 + 1 ≡ s.address + 2 = omega arith in
      let v : ltb s.value (256 ^ 4) ≡ true = lt-ltb s.value (256 ^ 4) h in
      rw (e, v, p) (four (eqb (s.address % 4) 0) (there n s.address) (there n (s.address + 1)) (there n (s.address + 2)) (there n (s.address + 2 + 1)))

  pub store_none : s.width ≢ 1 → s.width ≢ 2 → s.width ≢ 4 → false ≡ store_sound n s
  unfolding store_sound
  store_none d₁ d₂ d₄ = rw (ne_eqb _ 1 d₁, ne_eqb _ 2 d₂, ne_eqb _ 4 d₄)
