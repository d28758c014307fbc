-- `judgement::put_sides` meets its contract.
-- Assumes nothing.
use borrow.Author.Rules.{rules}
use mathlib.Core.Path.{refl, ap, ◌∙◌}
use mathlib.Core.List.{List, ◌++◌}
use Prim.Native.Nat.{ℕ}
use native.Mathlib.Omega.{arith}
use lib.ListN.{length}
use Rattle.text.specs.Text.{ascii}
use Rattle.text.proofs.Texts.{grown}
use Rattle.picture.specs.Lines.{side_text}
use Rattle.tables.specs.Views.{cores_of}
use Rattle.tables.proofs.Lift.{header}
use Rattle.reach.specs.Reach.{members}
use Rattle.reasons.proofs.Reasons.{map_size}
use Rattle.judgement.proofs.Answers.{sides_made}
use Rattle.judgement.proofs.put_sides.Goals as goal

pub put_side-requires : goal.put_side-requires
put_side-requires g c =
    let V = c.args.sides.now in
    let M = V.machine in
    let h = header _ _ M.is_sound in
    let own = ap length V.own_map ∙ map_size (members V.group (cores_of M.tables.now)) M.tables.now M.memory.now in
    (search rules, omega (arith, c.requires.room, c.cores-cores.ensures, h.few_cores, h.few_pages, own))

pub put_side-requires-2 : goal.put_side-requires-2
put_side-requires-2 g c =
    let V = c.args.sides.now in
    let M = V.machine in
    let h = header _ _ M.is_sound in
    let other = ap length V.other_map ∙ map_size (members V.others (cores_of M.tables.now)) M.tables.now M.memory.now in
    (search rules, omega (arith, c.requires.room, c.cores-cores.ensures, c.put_side.ensures.bound, h.few_cores, h.few_pages, other))

pub put_picture-requires : goal.put_picture-requires
put_picture-requires g c =
    let V = c.args.sides.now in
    let M = V.machine in
    let h = header _ _ M.is_sound in
    let own = ap length V.own_map ∙ map_size (members V.group (cores_of M.tables.now)) M.tables.now M.memory.now in
    let other = ap length V.other_map ∙ map_size (members V.others (cores_of M.tables.now)) M.tables.now M.memory.now in
    (search rules, omega (arith, c.requires.room, c.put_side.ensures.bound, c.put_side-2.ensures.bound, h.few_pages, own, other))

pub returns-clause-text : goal.returns-clause-text
returns-clause-text g c =
    let V = c.args.sides.now in
    let n = c.cores-cores.ensures.0 in
    let first = ap (λ (k : ℕ). side_text (ascii "group: ") (members V.group k) V.own.now) n in
    let second = ap (λ (k : ℕ). side_text (ascii "rest: ") (members V.others k) V.other.now) n in
    grown _ _ _ (grown _ _ _ (grown _ _ _ (c.put_side.ensures.text ∙ ap (λ (x : List ℕ). c.args.text.now ++ x) first) (c.put_side-2.ensures.text ∙ ap (λ (x : List ℕ). c.put_side.new.text ++ x) second) refl) c.put_picture.ensures.text refl)
    c.put_legend.ensures.text (sides_made _ _ _ _ _ _ V.own_map V.others_are V.other_map)
