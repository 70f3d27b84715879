-- Lines of the world, and the steps that they are: "a new step `back proc turn`". "Takes and votes
-- gain `turn=` [..], after `proc=` [..]. A line without it means turn 1".
use Prim.Native.String.{String}
use Rattle.std.specs.Prelude.{true, List, [], ◌∷◌, ◌≡◌}
use Rattle.std.proofs.Math.Option.{Option, none, some}
use Rattle.log_entry.specs.Entry.{take_entry, vote_entry}
use Rattle.model_steps.specs.declared.Step.{Step}
use Rattle.model_steps.specs.declared.Step.TheVariants.{Request, Back}
use Rattle.text_ascii.specs.Bytes.{ascii}
use Rattle.text_step.specs.Step.{read_step}

-- a line, and the step that it is, if it is one
pub record Case : Type 0 where
  pub line : String
  pub step : Option Step

infix 4 ◌means◌
abbrev pub ◌means◌ : String → Option Step → Case
l means s = record { line = l; step = s }

unfoldable pub back_cases : List Case
back_cases =
    ("do=back proc=3 turn=2" means some (Back 3 2))
    ∷ ("do=back proc=15 turn=255" means some (Back 15 255))
    -- these read, and are outside the limits
    ∷ ("do=back proc=3 turn=0" means some (Back 3 0))
    ∷ ("do=back proc=3 turn=256" means some (Back 3 256))
    -- both fields, in this order, and nothing else
    ∷ ("do=back proc=3" means none)
    ∷ ("do=back turn=2" means none)
    ∷ ("do=back turn=2 proc=3" means none)
    ∷ ("do=back proc=3 turn=02" means none)
    ∷ ("do=back proc=3 turn=" means none)
    ∷ ("do=back proc=3 turn=2 " means none)
    ∷ ("do=back proc=3 turn=2 to=0" means none)
    ∷ []

unfoldable pub request_cases : List Case
request_cases =
    ("do=take proc=3 store=0 to=1" means some (Request (take_entry 3 1 0) 1))
    ∷ ("do=take proc=3 turn=1 store=0 to=1" means some (Request (take_entry 3 1 0) 1))
    ∷ ("do=take proc=3 turn=2 store=0 to=1" means some (Request (take_entry 3 2 0) 1))
    ∷ ("do=vote proc=3 by=0 store=0 tx=4 list=01 say=commit upd=0000000a to=1" means some (Request (vote_entry 3 1 0 0 4 0x01 true 10) 1))
    ∷ ("do=vote proc=3 turn=2 by=0 store=0 tx=4 list=01 say=commit upd=000000000000000a to=1" means some (Request (vote_entry 3 2 0 0 4 0x01 true 10) 1))
    -- right behind the process only
    ∷ ("do=take turn=2 proc=3 store=0 to=1" means none)
    ∷ ("do=take proc=3 store=0 turn=2 to=1" means none)
    ∷ ("do=take proc=3 store=0 to=1 turn=2" means none)
    ∷ ("do=vote proc=3 by=0 store=0 tx=4 list=01 say=commit upd=0000000a turn=2 to=1" means none)
    ∷ []

-- Each of these lines reads as that step, or as nothing.
abbrev pub Meant : List Case → Type 0
Meant [] = Unit {0}
Meant (c ∷ cs) = (read_step (ascii c.line) ≡ c.step) × Meant cs
