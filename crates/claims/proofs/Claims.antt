-- The claims hold.
-- Assumes nothing.
use Rattle.report.proofs.Refusals.{demand1}
use Rattle.report.proofs.Joined.{demand2, unhindered}
use Rattle.report.proofs.Joined.{exception}
use Rattle.report.proofs.Made.{resets}
use Rattle.separation.proofs.Separation.{separation}
use Rattle.separation.proofs.Refusals.{refusals}
use Rattle.claims.specs.Claims.{Claims}

pub claims : Claims
claims = record { demand1 = demand1; demand2 = demand2; exception = exception; unhindered = unhindered; reset = resets; demand3 = separation; refusals = refusals }
