-- `vector_register::any` meets its contract: it asks the eight words.
use Rattle.std.proofs.Common.{◌≡◌, ◌+◌, ◌-◌, ◌<◌, ◌∙◌, take, drop, arith, rules, tests}
use Rattle.std.proofs.lemmas.Iterator.{cases_from_any, YieldsList-from_slice}
use Rattle.std.proofs.lemmas.List.{get_or-take, get_or-drop}
use Rattle.vector_register.proofs.Words.{some_word}
use Rattle.vector_register.proofs.any.Goals as goal

pub returns : goal.returns
returns c =
    let b = c.args.b.now in
    let p = c.args.place in
    let eight : p + 8 - p ≡ 8 = omega arith in
    let asked = cases_from_any _ _ _ (λ w. 0 < w) (λ w. w ≡ 0) c.any.ensures.ran (YieldsList-from_slice _ cc) (λ w q k. search (rules, tests)) (λ w q k. search (rules, tests)) in
    some_word b p (take (p + 8 - p) (drop p b)) (search rules) (λ i l. get_or-take (p + 8 - p) (drop p b) i 0 (omega arith) ∙ get_or-drop p b i 0) (λ i. (c.type_inv.b (p + i)).fits) _ asked
