use Rattle.verdict.proofs.+judge_room.Given as goal

abbrev pub decreases-judge_room : goal.decreases-judge_room
decreases-judge_room g l = 0
