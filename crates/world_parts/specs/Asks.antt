-- The steps that send what a coordinator's log says.
use Rattle.std.specs.Prelude.{Bool, false, true}
use Rattle.model_steps.specs.declared.Step.{Step}
use Rattle.model_steps.specs.declared.Step.TheVariants.{Setup, Request, Open, Propose, Deliver, Tell, Restore, Follow, Crash, Back}

abbrev pub asks_log : Step → Bool
asks_log (Setup n) = false
asks_log (Request e to) = false
asks_log (Open c i b) = false
asks_log (Propose c i b) = false
asks_log (Deliver m) = false
asks_log (Tell c p tx) = true
asks_log (Restore c p) = true
asks_log (Follow c p tx) = true
asks_log (Crash role id) = false
asks_log (Back p t) = false
