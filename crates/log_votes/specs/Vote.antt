-- What a vote of a row says. One that is absent says 0.
use Rattle.std.specs.Prelude.{ℕ, Bool, true, false}
use Rattle.log_votes.specs.declared.Vote.{Vote}
use Rattle.log_votes.specs.declared.Vote.TheVariants.{Absent, Abort, Commit}

-- whether it is kept
abbrev pub vote_kept : Vote → Bool
vote_kept Absent = false
vote_kept (Abort l p t b u) = true
vote_kept (Commit l p t b u) = true

-- whether it says commit
abbrev pub vote_commit : Vote → Bool
vote_commit Absent = false
vote_commit (Abort l p t b u) = false
vote_commit (Commit l p t b u) = true

abbrev pub vote_list : Vote → ℕ
vote_list Absent = 0
vote_list (Abort l p t b u) = l
vote_list (Commit l p t b u) = l

abbrev pub vote_process : Vote → ℕ
vote_process Absent = 0
vote_process (Abort l p t b u) = p
vote_process (Commit l p t b u) = p

abbrev pub vote_turn : Vote → ℕ
vote_turn Absent = 0
vote_turn (Abort l p t b u) = t
vote_turn (Commit l p t b u) = t

abbrev pub vote_by : Vote → ℕ
vote_by Absent = 0
vote_by (Abort l p t b u) = b
vote_by (Commit l p t b u) = b

abbrev pub vote_update : Vote → ℕ
vote_update Absent = 0
vote_update (Abort l p t b u) = u
vote_update (Commit l p t b u) = u
