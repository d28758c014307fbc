-- A core, line, page or level that a step names is there. It serves contracts inside alone: `step_formed` of
-- proofs/Forms says that every step read from words is formed.
-- Assumes nothing.
use Rattle.std.specs.Prelude.{Bool, ◌&&◌, ℕ, ◌^◌, ltb}
use Rattle.steps.specs.declared.Step.{Step}
use Rattle.steps.specs.declared.Step.TheVariants.{ByProcessor, ByApic}
use Rattle.steps.specs.declared.ProcessorStep.TheVariants.{Core, TlbCreate, TlbExtend, TlbAccessed, StoreBuffer}
use Rattle.steps.specs.declared.ApicStep.TheVariants.{SendIpi, SendEoi, InitCore, StartCore, Sample, Deliver, SetLine}

-- with n cores
abbrev pub formed : ℕ → Step → Bool
formed n (ByProcessor k (Core v w)) = ltb k n
formed n (ByProcessor k (TlbCreate va)) = ltb k n && ltb va (2 ^ 20)
formed n (ByProcessor k (TlbExtend w)) = ltb k n
formed n (ByProcessor k (TlbAccessed w)) = ltb k n
formed n (ByProcessor k StoreBuffer) = ltb k n
formed n (ByApic (SendIpi k)) = ltb k n
formed n (ByApic (SendEoi k)) = ltb k n
formed n (ByApic (InitCore k)) = ltb k n
formed n (ByApic (StartCore k)) = ltb k n
formed n (ByApic (Sample l)) = ltb l 24
formed n (ByApic (Deliver l)) = ltb l 24
formed n (ByApic (SetLine l v)) = ltb l 24 && ltb v 2
