use Rattle.verdict_text.proofs.Said.{asks_too_long, asks_wrong, asks_group}
use Rattle.verdict_text.proofs.asks_input.Goals as goal

pub returns-then-a-gt-MOST_ARGUMENTS : goal.returns-then-a-gt-MOST_ARGUMENTS
returns-then-a-gt-MOST_ARGUMENTS c = asks_too_long _ c.if-a-gt-MOST_ARGUMENTS.true

pub returns-in-Err : goal.returns-in-Err
returns-in-Err c = asks_wrong _ c.if-a-gt-MOST_ARGUMENTS.false _ c.in-Err.ensures.no_core

pub returns-in-Ok : goal.returns-in-Ok
returns-in-Ok c = asks_group _ c.if-a-gt-MOST_ARGUMENTS.false c.in-Ok.ensures.cores
