use Rattle.std.specs.Prelude.{Ok}
use mathlib.Core.Path.{sym, ◌∙◌, refl, ap}
use Rattle.cores.proofs.Judging.{address_port, address_hazard, address_stopped, address_performed}
use Rattle.cores.proofs.Held.{records_linked}
use Rattle.cores.proofs.Accesses.{access_aligned}
use mathlib.Core.Bool.{false}
use Rattle.tables.specs.Views.{registers_of}
use Rattle.apic.specs.LocalApic.{event}
use Rattle.cores.specs.Core.{is_event}
use Rattle.cores.proofs.access.at_address.Goals as goal

pub returns-then-avoids_ports-is_port : goal.returns-then-avoids_ports-is_port
returns-then-avoids_ports-is_port c = address_port _ _ _ _ _ _ (rw (← c.avoids_ports.ensures, ← c.is_port.ensures) c.if-avoids_ports-is_port.true)

pub has_hazard-requires : goal.has_hazard-requires
has_hazard-requires c = record { b_len = c.args.core.now.sound.long; b_value = records_linked _ _ c.args.core.now.sound.records }

pub returns-then-has_hazard : goal.returns-then-has_hazard
returns-then-has_hazard c = address_hazard _ _ _ _ _ _ (rw (← c.avoids_ports.ensures, ← c.is_port.ensures) c.if-avoids_ports-is_port.false) (sym c.has_hazard.ensures ∙ c.if-has_hazard.true)

pub returns-then-suppress : goal.returns-then-suppress
returns-then-suppress c = ap Ok c.stopped.ensures ∙ (rw c.requires.causes_value refl ∙ address_stopped _ _ _ _ _ _ (rw (← c.avoids_ports.ensures, ← c.is_port.ensures) c.if-avoids_ports-is_port.false) (sym c.has_hazard.ensures ∙ c.if-has_hazard.false) (rw (← c.requires.causes_value) (sym c.suppress.ensures ∙ c.if-suppress.true)))

pub performed-requires : goal.performed-requires
performed-requires c = record { instruction_value = c.requires.instruction_value; instruction_value_2 = access_aligned c.args.f.instruction (registers_of c.args.core.now.block.now) c.args.f.word c.args.a (is_event (event c.args.core.now.block.now)) false c.requires.instruction_value (rw (← c.requires.causes_value) (sym c.suppress.ensures ∙ c.if-suppress.false)) c.requires.a_value }

pub returns : goal.returns
returns c = c.performed.ensures ∙ (rw c.requires.causes_value refl ∙ address_performed _ _ _ _ _ _ (rw (← c.avoids_ports.ensures, ← c.is_port.ensures) c.if-avoids_ports-is_port.false) (rw (← c.requires.causes_value) (sym c.suppress.ensures ∙ c.if-suppress.false)))
