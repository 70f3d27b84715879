-- Texts of an update and of a turn, and what they mean. "Printed as sixteen digits [..]. Lines with
-- eight digits are still read and mean the same number." "Takes and votes gain `turn=` [..], after
-- `proc=` [..]. A line without it means turn 1".
use Rattle.std.specs.Prelude.{ℕ, true, List, [], ◌∷◌, ◌++◌, ◌≡◌}
use Prim.Native.String.{String}
use Rattle.std.proofs.Math.Option.{Option, none, some}
use Rattle.log_entry.specs.declared.Entry.{Entry}
use Rattle.log_entry.specs.Entry.{take_entry, vote_entry}
use Rattle.text_ascii.specs.Bytes.{ascii}
use Rattle.text_entry.specs.Entry.{read_entry}

-- a text, and the number that it is, if it is one
pub record Case : Type 0 where
  pub text : String
  pub number : Option ℕ

infix 4 ◌means◌
abbrev pub ◌means◌ : String → Option ℕ → Case
s means n = record { text = s; number = n }

-- the texts of an update
unfoldable pub update_cases : List Case
update_cases =
    ("0000000a" means some 10)
    ∷ ("000000000000000a" means some 10)
    ∷ ("ffffffff" means some 0xffffffff)
    ∷ ("00000000ffffffff" means some 0xffffffff)
    ∷ ("0000000100000000" means some 0x0000000100000000)
    ∷ ("0123456789abcdef" means some 0x0123456789abcdef)
    ∷ ("fedcba9876543210" means some 0xfedcba9876543210)
    ∷ ("ffffffffffffffff" means some 0xffffffffffffffff)
    -- no other count of digits
    ∷ ("" means none)
    ∷ ("000000a" means none)
    ∷ ("00000000a" means none)
    ∷ ("00000000000a" means none)
    ∷ ("00000000000000a" means none)
    ∷ ("0000000000000000a" means none)
    -- no other digits, and nothing behind them
    ∷ ("0000000A" means none)
    ∷ ("000000000000000A" means none)
    ∷ ("00000000A000000a" means none)
    ∷ ("0000000a " means none)
    ∷ ("0000000a 0000000a" means none)
    ∷ []

-- the lines of a take by its turn
unfoldable pub take_cases : List Case
take_cases =
    ("do=take proc=3 store=0" means some 1)
    ∷ ("do=take proc=3 turn=1 store=0" means some 1)
    ∷ ("do=take proc=3 turn=2 store=0" means some 2)
    ∷ ("do=take proc=3 turn=255 store=0" means some 255)
    -- these read, and are outside the limits
    ∷ ("do=take proc=3 turn=0 store=0" means some 0)
    ∷ ("do=take proc=3 turn=256 store=0" means some 256)
    -- no other digits
    ∷ ("do=take proc=3 turn=01 store=0" means none)
    ∷ ("do=take proc=3 turn= store=0" means none)
    ∷ ("do=take proc=3 turn=+1 store=0" means none)
    ∷ ("do=take proc=3 turn=0x1 store=0" means none)
    ∷ ("do=take proc=3 turn=a store=0" means none)
    -- right behind the process, once, and under no other key
    ∷ ("do=take turn=2 proc=3 store=0" means none)
    ∷ ("do=take proc=3 store=0 turn=2" means none)
    ∷ ("do=take proc=3 turn=2 turn=2 store=0" means none)
    ∷ ("do=take proc=3 turn=2" means none)
    ∷ ("do=take proc=3  turn=2 store=0" means none)
    ∷ ("do=take proc=3 turn 2 store=0" means none)
    ∷ ("do=take proc=3 turns=2 store=0" means none)
    ∷ ("do=take proc=3 Turn=2 store=0" means none)
    ∷ []

-- the lines of a vote by its turn
unfoldable pub vote_cases : List Case
vote_cases =
    ("do=vote proc=3 by=0 store=0 tx=4 list=01 say=commit upd=0000000a" means some 1)
    ∷ ("do=vote proc=3 turn=1 by=0 store=0 tx=4 list=01 say=commit upd=0000000a" means some 1)
    ∷ ("do=vote proc=3 turn=2 by=0 store=0 tx=4 list=01 say=commit upd=000000000000000a" means some 2)
    ∷ ("do=vote proc=3 by=0 store=0 tx=4 list=01 say=commit upd=000000000000000a" means some 1)
    ∷ ("do=vote proc=3 turn=255 by=0 store=0 tx=4 list=01 say=commit upd=0000000a" means some 255)
    -- these read, and are outside the limits
    ∷ ("do=vote proc=3 turn=0 by=0 store=0 tx=4 list=01 say=commit upd=0000000a" means some 0)
    ∷ ("do=vote proc=3 turn=256 by=0 store=0 tx=4 list=01 say=commit upd=0000000a" means some 256)
    -- no leading zero, and right behind the process
    ∷ ("do=vote proc=3 turn=01 by=0 store=0 tx=4 list=01 say=commit upd=0000000a" means none)
    ∷ ("do=vote turn=2 proc=3 by=0 store=0 tx=4 list=01 say=commit upd=0000000a" means none)
    ∷ ("do=vote proc=3 by=0 turn=2 store=0 tx=4 list=01 say=commit upd=0000000a" means none)
    ∷ ("do=vote proc=3 by=0 store=0 turn=2 tx=4 list=01 say=commit upd=0000000a" means none)
    ∷ ("do=vote proc=3 by=0 store=0 tx=4 list=01 say=commit upd=0000000a turn=2" means none)
    ∷ []

-- a line with this text of its update, and the vote that it is
abbrev pub update_line : String → List ℕ
update_line s = ascii "do=vote proc=1 by=0 store=0 tx=4 list=01 say=commit upd=" ++ ascii s

abbrev pub update_vote : ℕ → Entry
update_vote u = vote_entry 1 1 0 0 4 0x01 true u

-- the take and the vote of a turn
abbrev pub turn_take : ℕ → Entry
turn_take t = take_entry 3 t 0

abbrev pub turn_vote : ℕ → Entry
turn_vote t = vote_entry 3 t 0 0 4 0x01 true 10

abbrev meant : (ℕ → Entry) → Option ℕ → Option Entry
meant entry none = none
meant entry (some n) = some (entry n)

-- The line of each of these texts reads as the entry with that number, or as nothing.
abbrev pub Meant : (String → List ℕ) → (ℕ → Entry) → List Case → Type 0
Meant line entry [] = Unit {0}
Meant line entry (c ∷ cs) = (read_entry (line c.text) ≡ meant entry c.number) × Meant line entry cs
