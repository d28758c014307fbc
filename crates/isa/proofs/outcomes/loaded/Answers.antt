use Rattle.word.proofs.Laws.{sxt_whole}
use mathlib.Core.Path.{sym}
use Rattle.isa.specs.Core.{lv, d}
use borrow.Author.Rules.{rules}
use Rattle.isa.proofs.outcomes.loaded.Goals as goal

pub returns-in-Lb : goal.returns-in-Lb
unfolding lv d
returns-in-Lb c = rw (c.extend.ensures, c.in-Lb.is)

pub returns-in-Lh : goal.returns-in-Lh
unfolding lv d
returns-in-Lh c = rw (c.extend-in-Lh.ensures, c.in-Lh.is)

pub returns-in-Lw : goal.returns-in-Lw
unfolding lv d
returns-in-Lw c = rw c.in-Lw.is (sym (sxt_whole c.args.read (search rules)))

pub returns-in-Lbu : goal.returns-in-Lbu
unfolding lv d
returns-in-Lbu c = rw c.in-Lbu.is

pub returns-in-Lhu : goal.returns-in-Lhu
unfolding lv d
returns-in-Lhu c = rw c.in-Lhu.is
