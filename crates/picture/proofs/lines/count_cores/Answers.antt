use native.Mathlib.Omega.{arith}
use mathlib.Core.Path.{sym, ap, ◌∙◌}
use lib.ListN.{length}
use Rattle.word.specs.Word.{flag}
use Rattle.picture.proofs.Cores.{no_members, length_more}
use Rattle.picture.proofs.lines.count_cores.Goals as goal

pub loop-k-init : goal.loop-k-init
loop-k-init c = (omega arith, sym (ap length (no_members _)))

pub loop-k-preserved : goal.loop-k-preserved
loop-k-preserved c = (omega arith, omega (arith, length_more c.args.group c.loop-k.k, c.flag-count.ensures.0 ∙ ap flag c.is_member.ensures))
