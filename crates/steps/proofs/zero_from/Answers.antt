use Rattle.std.proofs.Common.{◌∙◌, eqb, drop, rules, tests}
use Rattle.std.proofs.lemmas.List.{take_rest}
use Rattle.std.proofs.lemmas.Iterator.{YieldsList-from_slice}
use Rattle.std.proofs.lemmas.Iterator.Search.{all_from_yields_List}
use Rattle.steps.specs.Form.{zero_from}
use Rattle.steps.proofs.zero_from.Goals as goal

pub returns : goal.returns
unfolding zero_from
returns c = all_from_yields_List (λ w. eqb w 0) _ _ _ c.all.ensures.ran (YieldsList-from_slice (drop c.args.from c.args.s.now) (c.iter.ensures.rest ∙ take_rest c.args.s.now c.args.from)) (λ x b q k. search (rules, tests))
