-- `records::check::store_sound` meets its contract, width by width.
-- Assumes nothing.
use mathlib.Core.Path.{ap, ◌∙◌}
use native.Mathlib.Omega.{arith}
use mathlib.Core.Bool.{Bool, ◌&&◌}
use lib.Dec.{eqb, ltb}
use Prim.Native.Nat.{◌%◌}
use Rattle.records.proofs.Stores.{store_1, store_2, store_4, store_none}
use Rattle.records.proofs.check.store_sound.Goals as goal

pub returns-then-s-eq1 : goal.returns-then-s-eq1
returns-then-s-eq1 c =
    let s = c.args.s in
    ap (λ (t : Bool). ltb s.value 256 && t) c.there.ensures ∙ store_1 _ _ c.if-s-eq1.true

pub returns-then-s-eq2 : goal.returns-then-s-eq2
returns-then-s-eq2 c =
    let s = c.args.s in
    ap (λ (t : Bool). eqb (s.address % 2) 0 && (ltb s.value 65536 && t)) c.pair_there.ensures ∙ store_2 _ _ c.if-s-eq2.true

pub returns-then-s-eq4 : goal.returns-then-s-eq4
returns-then-s-eq4 c =
    let s = c.args.s in
    (λ i. eqb (s.address % 4) 0 && (c.pair_there-then-s-eq4.ensures i && c.pair_there-then-s-eq4-2.ensures i)) ∙ store_4 _ _ c.if-s-eq4.true (omega arith)

pub returns : goal.returns
returns c = store_none _ _ c.if-s-eq1.false c.if-s-eq2.false c.if-s-eq4.false
