use Rattle.std.proofs.Common.{sym, ap, ◌∙◌, ⊎_elim}
use Rattle.isa.proofs.Ranges.{load_width, store_width, load_wide, store_wide, system_wide, not_wide}
use Rattle.isa.proofs.interrupts.width.Goals as goal

pub returns-in-Lb : goal.returns-in-Lb
returns-in-Lb c = ⊎_elim (λ h. sym (ap load_width h)) (λ h. sym (ap load_width h)) c.in-Lb.is ∙ load_wide c.args.i c.in-Load.l c.in-Load.is

pub returns-in-Lh : goal.returns-in-Lh
returns-in-Lh c = ⊎_elim (λ h. sym (ap load_width h)) (λ h. sym (ap load_width h)) c.in-Lh.is ∙ load_wide c.args.i c.in-Load.l c.in-Load.is

pub returns-in-Lw : goal.returns-in-Lw
returns-in-Lw c = sym (ap load_width c.in-Lw.is) ∙ load_wide c.args.i c.in-Load.l c.in-Load.is

pub returns-in-Sb : goal.returns-in-Sb
returns-in-Sb c = sym (ap store_width c.in-Sb.is) ∙ store_wide c.args.i c.in-Store.s c.in-Store.is

pub returns-in-Sh : goal.returns-in-Sh
returns-in-Sh c = sym (ap store_width c.in-Sh.is) ∙ store_wide c.args.i c.in-Store.s c.in-Store.is

pub returns-in-Sw : goal.returns-in-Sw
returns-in-Sw c = sym (ap store_width c.in-Sw.is) ∙ store_wide c.args.i c.in-Store.s c.in-Store.is

pub returns-then-eq : goal.returns-then-eq
returns-then-eq c = system_wide c.args.i c.in-System.t _ c.in-System.is (sym c.eq.ensures ∙ c.if-eq.true)

pub returns-else-eq : goal.returns-else-eq
returns-else-eq c = system_wide c.args.i c.in-System.t _ c.in-System.is (sym c.eq.ensures ∙ c.if-eq.false)

pub returns-in_default : goal.returns-in_default
returns-in_default c = not_wide c.args.i c.in_default.not-Load c.in_default.not-Store c.in_default.not-System
