use Rattle.units.specs.Multiplication.{products, mures}
use Rattle.word.specs.Word.{plus, minus}
use Prim.Native.Nat.{ℕ}
use Rattle.units.proofs.Lines.{by_control, unlisted}
use mathlib.Core.List.{[], ◌∷◌}
use mathlib.Core.Path.{◌∙◌, ap}
use Rattle.units.proofs.multiplication.result.Goals as goal

pub returns-in-0 : goal.returns-in-0
unfolding mures
returns-in-0 c = c.signed_product.ensures ∙ by_control 0 (products c.args.a c.args.b c.args.acc) c.in-0.is

pub returns-in-1 : goal.returns-in-1
unfolding mures
returns-in-1 c = c.product.ensures ∙ by_control 0 (products c.args.a c.args.b c.args.acc) c.in-1.is

pub returns-in-4 : goal.returns-in-4
unfolding mures
returns-in-4 c = c.add_wide.ensures ∙ ap (λ (x : ℕ). plus 64 c.args.acc x) c.signed_product-in-4.ensures ∙ by_control 0 (products c.args.a c.args.b c.args.acc) c.in-4.is

pub returns-in-5 : goal.returns-in-5
unfolding mures
returns-in-5 c = c.add_wide-in-5.ensures ∙ ap (λ (x : ℕ). plus 64 c.args.acc x) c.product-in-5.ensures ∙ by_control 0 (products c.args.a c.args.b c.args.acc) c.in-5.is

pub returns-in-6 : goal.returns-in-6
unfolding mures
returns-in-6 c = c.sub_wide.ensures ∙ ap (λ (x : ℕ). minus 64 c.args.acc x) c.signed_product-in-6.ensures ∙ by_control 0 (products c.args.a c.args.b c.args.acc) c.in-6.is

pub returns-in-7 : goal.returns-in-7
unfolding mures
returns-in-7 c = c.sub_wide-in-7.ensures ∙ ap (λ (x : ℕ). minus 64 c.args.acc x) c.product-in-7.ensures ∙ by_control 0 (products c.args.a c.args.b c.args.acc) c.in-7.is

pub returns-in_default : goal.returns-in_default
unfolding mures
returns-in_default c = unlisted 0 (products c.args.a c.args.b c.args.acc) c.args.con (7 ∷ 6 ∷ 5 ∷ 4 ∷ 1 ∷ 0 ∷ []) tt c.in_default.in_default-own.rest
