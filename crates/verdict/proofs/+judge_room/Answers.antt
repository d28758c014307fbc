use Rattle.std.proofs.Common.{lt_irrefl, lt_of_lt_of_le}
use Rattle.verdict.proofs.+judge_room.Goals as goal

pub judge_room-requires : goal.judge_room-requires
judge_room-requires g t c κs within = absurd (lt_irrefl _ (lt_of_lt_of_le c.if-r-gt-TEXT.true c.in_ok-r.ensures))
