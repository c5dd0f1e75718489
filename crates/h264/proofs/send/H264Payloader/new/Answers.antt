-- Zeros are what no set is laid out as.
use mathlib.Core.Path.{ap₂}
use Rattle.h264.specs.declared.send.ParameterSet.{ParameterSet}
use Rattle.h264.proofs.State.{set_none}
use Rattle.h264.proofs.send.H264Payloader.new.Goals as goal

pub returns : goal.returns
returns c = ap₂ (λ (s p : ParameterSet). record { sps = s; pps = p }) set_none set_none
