-- What an action asks, for the function that does it. It serves contracts inside alone:
-- `apic_doable` of proofs/Deciding says that whatever a step decides may be done.
-- Assumes nothing.
use Rattle.std.specs.Prelude.{Bool, ◌&&◌, ℕ, ltb}
use Rattle.machine.specs.declared.action.Action.{Action}
use Rattle.machine.specs.declared.action.Action.TheVariants.{SendIpi, SendEoi, InitCore, StartCore, Sample, Deliver, SetLine}

-- what an action asks of n cores
unfoldable pub doable : ℕ → Action → Bool
doable n (SendIpi k m) = ltb k n && ltb m.vect 256
doable n (SendEoi k v) = ltb k n && ltb v 256
doable n (InitCore k) = ltb k n
doable n (StartCore k) = ltb k n
doable n (Sample l) = ltb l 24
doable n (Deliver l) = ltb l 24
doable n (SetLine l v) = ltb l 24 && ltb v 2
