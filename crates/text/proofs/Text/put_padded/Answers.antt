use Rattle.std.proofs.Common.{List, ℕ, ◌-◌, ap, ◌∙◌, ◌++◌, take, replicate, append_assoc, arith}
use Rattle.text.proofs.Texts.{padded_is}
use Rattle.text.proofs.Text.put_padded.Goals as goal

pub returns-clause-text : goal.returns-clause-text
returns-clause-text g c =
    let d = c.decimal-k.ensures in
    c.put-2.ensures
    ∙ ap (λ (l : List ℕ). l ++ take c.decimal-k.result c.decimal-k.new.out) (c.put.ensures ∙ ap (λ (i : ℕ). c.args.self.now ++ take i (replicate 20 32)) c.saturating_sub.ensures)
    ∙ append_assoc c.args.self.now (take (c.args.width - c.decimal-k.result) (replicate 20 32)) (take c.decimal-k.result c.decimal-k.new.out)
    ∙ ap (λ (l : List ℕ). c.args.self.now ++ l) (padded_is c.args.n c.args.width _ (omega arith) c.requires.narrow d.digits d.in_bounds.1 d.len)
