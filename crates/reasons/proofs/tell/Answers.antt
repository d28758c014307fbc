-- `reasons::tell` meets its contract.
-- Assumes nothing.
use mathlib.Core.Path.{sym, ap, ◌∙◌}
use Prim.Native.Nat.{ℕ}
use borrow.Author.Tests.{eq-eqb, ne_eqb}
use Rattle.std.specs.Prelude.{Ok}
use Rattle.std.proofs.lemmas.Result.{err_from_is_err_and}
use Rattle.reach.specs.Reach.{is_group}
use Rattle.reasons.specs.Why.{Told, told}
use Rattle.reasons.proofs.Telling.{promised_told, tells_unsound, tells_length, tells_group, tells}
use Rattle.reasons.proofs.tell.Goals as goal

pub returns-in_err-machine : goal.returns-in_err-machine
returns-in_err-machine c =
    let a = c.args in
    let r = err_from_is_err_and c.from_residual.result c.from_residual.ensures.1 in
    let e = c.in_err-machine.ensures in
    let p = tells_unsound a.after a.group a.t.now a.m.now a.words.now e.1 in
    promised_told (told a.after a.group a.t.now a.m.now a.words.now) (rw (r.1, r.2, e.0) (sym (ap (λ (z : Told). z.answer) p))) (sym (ap (λ (z : Told). z.words) p))

pub returns-then-words-ne18 : goal.returns-then-words-ne18
returns-then-words-ne18 c =
    let a = c.args in
    let M = c.in_ok-machine.machine in
    let e = c.in_ok-machine.ensures in
    let p = tells_length a.after a.group M.tables.now M.memory.now a.words.now M.is_sound (ne_eqb _ 18 c.if-words-ne18.true) in
    rw (sym e.0, sym e.1) (promised_told (told a.after a.group M.tables.now M.memory.now a.words.now) (sym (ap (λ (z : Told). z.answer) p)) (sym (ap (λ (z : Told). z.words) p)))

pub returns-then-not-is_group : goal.returns-then-not-is_group
returns-then-not-is_group c =
    let a = c.args in
    let M = c.in_ok-machine.machine in
    let e = c.in_ok-machine.ensures in
    let g = c.is_group.ensures ∙ ap (λ (n : ℕ). is_group a.group n) c.cores.ensures.0 in
    let p = tells_group a.after a.group M.tables.now M.memory.now a.words.now M.is_sound (eq-eqb _ 18 c.if-words-ne18.false) (sym g ∙ c.if-not-is_group.true) in
    rw (sym e.0, sym e.1) (promised_told (told a.after a.group M.tables.now M.memory.now a.words.now) (sym (ap (λ (z : Told). z.answer) p)) (sym (ap (λ (z : Told). z.words) p)))

pub returns : goal.returns
returns c =
    let a = c.args in
    let M = c.in_ok-machine.machine in
    let e = c.in_ok-machine.ensures in
    let g = c.is_group.ensures ∙ ap (λ (n : ℕ). is_group a.group n) c.cores.ensures.0 in
    let p = tells a.after a.group M.tables.now M.memory.now a.words.now M.is_sound _ (eq-eqb _ 18 c.if-words-ne18.false) (sym g ∙ c.if-not-is_group.false) c.judge-reason.ensures in
    rw (sym e.0, sym e.1)
    (promised_told (told a.after a.group M.tables.now M.memory.now a.words.now) (ap Ok c.number.ensures ∙ sym (ap (λ (z : Told). z.answer) p)) (c.put_both.ensures ∙ sym (ap (λ (z : Told). z.words) p)))
