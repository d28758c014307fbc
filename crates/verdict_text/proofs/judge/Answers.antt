use Rattle.std.proofs.Common.{arith}
use Rattle.text.proofs.Texts.{reworded}
use Rattle.verdict_text.proofs.Said.{said_long_arguments, said_wrong, said_none, said_asked}
use Rattle.verdict_text.proofs.judge.Goals as goal

pub returns-then-a-gt-MOST_ARGUMENTS : goal.returns-then-a-gt-MOST_ARGUMENTS
returns-then-a-gt-MOST_ARGUMENTS c =
    let said = c.judge_long_arguments.ensures in
    (reworded (said_long_arguments _ _ c.if-a-gt-MOST_ARGUMENTS.true) said.0, omega (arith, said.1))

pub returns-in-Err : goal.returns-in-Err
returns-in-Err c =
    let said = c.judge_no_core.ensures in
    (reworded (said_wrong _ c.if-a-gt-MOST_ARGUMENTS.false _ c.in-Err.ensures.no_core c.args.input.now) said.0, omega (arith, said.1))

pub returns-in-Ok-eq0 : goal.returns-in-Ok-eq0
returns-in-Ok-eq0 c =
    let asked = c.in-Ok-eq0 in
    let said = c.judge_no_group.ensures in
    (reworded (said_none _ c.if-a-gt-MOST_ARGUMENTS.false asked.ensures.cores asked.field-0-test c.args.input.now) said.0, omega (arith, said.1))

pub returns-in-Ok : goal.returns-in-Ok
returns-in-Ok c =
    let asked = c.in-Ok in
    let said = c.judge_group.ensures in
    (reworded (said_asked _ c.if-a-gt-MOST_ARGUMENTS.false asked.ensures.cores asked.group-test.1 c.args.input.now) said.0, said.1)
