-- What is printed of a log does not hang on its turns.
use Prim.Native.Nat.{ℕ, zero, suc}
use mathlib.Core.Bool.{Bool, ◌&&◌, ◌||◌, cond}
use mathlib.Core.List.{List, [], ◌∷◌, ◌++◌, map}
use mathlib.Core.Path.{◌≡◌, ap, ap₂, refl, ◌∙◌}
use lib.Dec.{eqb}
use lib.ListN.{get_or, get_or-map}
use Rattle.log_entry.specs.Limits.{stores, transactions}
use Rattle.log_votes.specs.declared.Outcome.{Outcome}
use Rattle.log_votes.specs.declared.Outcome.TheVariants as outcome
use Rattle.log_votes.specs.declared.Row.{Row}
use Rattle.log_votes.specs.declared.Vote.{Vote}
use Rattle.log_votes.specs.declared.Vote.TheVariants.{Absent, Abort, Commit}
use Rattle.log_votes.specs.Vote.{vote_list, vote_update}
use Rattle.log_votes.specs.Outcome.{is_abort, is_commit, is_covered, is_kept, meets, outcome_of_votes}
use Rattle.log_votes.specs.Row.{no_row, no_vote}
use Rattle.log_votes.specs.Scan.{all_from, any_from}
use Rattle.log_core.specs.declared.Log.{Log}
use Rattle.log_core.specs.declared.Replayed.{Replayed}
use Rattle.log_core.specs.Log.{row_of}
use Rattle.log_core.specs.Replay.{group_replay, replay_from}
use Rattle.text_report.specs.Claims.{ShowsNoTurn, row_without_turns, vote_without_turn, without_turns}
use Rattle.text_report.specs.Report.{each, holder_text, log_text, replay_text, row_text, tx_line, tx_text}

pub each_same : (f g : ℕ → List ℕ) → ((i : ℕ) → f i ≡ g i) → (n : ℕ) → each f n ≡ each g n
unfolding each
each_same f g h zero = refl
each_same f g h (suc n) = ap₂ ◌++◌ (each_same f g h n) (h n)

-- ---- votes

-- a test over votes and one over the same votes without turns
abbrev Alike : (ℕ → Vote → Bool) → (ℕ → Vote → Bool) → Type 0
Alike f g = (s : ℕ) (v : Vote) → f s (vote_without_turn v) ≡ g s v

any_same : (f g : ℕ → Vote → Bool) → Alike f g → (i : ℕ) (vs : List Vote) → any_from f i (map vote_without_turn vs) ≡ any_from g i vs
unfolding any_from
any_same f g h i [] = refl
any_same f g h i (v ∷ vs) = ap₂ ◌||◌ (h i v) (any_same f g h (suc i) vs)

all_same : (f g : ℕ → Vote → Bool) → Alike f g → (i : ℕ) (vs : List Vote) → all_from f i (map vote_without_turn vs) ≡ all_from g i vs
unfolding all_from
all_same f g h i [] = refl
all_same f g h i (v ∷ vs) = ap₂ ◌&&◌ (h i v) (all_same f g h (suc i) vs)

-- no test of a vote, and nothing that is printed of one, looks at its turn
kept_alike : Alike is_kept is_kept
kept_alike s Absent = refl
kept_alike s (Abort l p t b u) = refl
kept_alike s (Commit l p t b u) = refl

abort_alike : Alike is_abort is_abort
abort_alike s Absent = refl
abort_alike s (Abort l p t b u) = refl
abort_alike s (Commit l p t b u) = refl

commit_alike : Alike is_commit is_commit
commit_alike s Absent = refl
commit_alike s (Abort l p t b u) = refl
commit_alike s (Commit l p t b u) = refl

meets_alike : (list : ℕ) → Alike (meets list) (meets list)
meets_alike list s Absent = refl
meets_alike list s (Abort l p t b u) = refl
meets_alike list s (Commit l p t b u) = refl

list_alike : (v : Vote) → vote_list (vote_without_turn v) ≡ vote_list v
list_alike Absent = refl
list_alike (Abort l p t b u) = refl
list_alike (Commit l p t b u) = refl

update_alike : (v : Vote) → vote_update (vote_without_turn v) ≡ vote_update v
update_alike Absent = refl
update_alike (Abort l p t b u) = refl
update_alike (Commit l p t b u) = refl

covered_alike : (vs : List Vote) → Alike (is_covered (map vote_without_turn vs)) (is_covered vs)
covered_alike vs s v =
    ap₂ ◌&&◌
    (kept_alike s v)
    (ap (λ (list : ℕ). all_from (meets list) 0 (map vote_without_turn vs)) (list_alike v)
    ∙ all_same (meets (vote_list v)) (meets (vote_list v)) (meets_alike (vote_list v)) 0 vs)

outcome_same : (vs : List Vote) → outcome_of_votes (map vote_without_turn vs) ≡ outcome_of_votes vs
unfolding outcome_of_votes
outcome_same vs =
    ap₂ (λ (a c : Bool). cond a outcome.Abort (cond c outcome.Commit outcome.Open))
    (any_same is_abort is_abort abort_alike 0 vs)
    (any_same (is_covered (map vote_without_turn vs)) (is_covered vs) (covered_alike vs) 0 vs)

-- ---- rows

row_same : (r : Row) (tx : ℕ) → row_text (row_without_turns r) tx ≡ row_text r tx
row_same r tx =
    ap₂ (λ (k : Bool) (o : Outcome). cond k (tx_line tx o r.group) [])
    (any_same is_kept is_kept kept_alike 0 r.votes)
    (outcome_same r.votes)

group_same : (store g tx : ℕ) (rs : List Row) → group_replay store g tx (map row_without_turns rs) ≡ group_replay store g tx rs
unfolding group_replay
group_same store g tx [] = refl
group_same store g tx (r ∷ rs) =
    let v = get_or r.votes store no_vote in
    let line : Vote → List Replayed → List Replayed =
    λ v rest. cond (eqb r.group g && is_commit store v) (record { group = g; tx = tx; update = vote_update v } ∷ rest) rest in
    ap₂ line (get_or-map vote_without_turn r.votes store no_vote) (group_same store g (suc tx) rs)
    ∙ ap₂
    (λ (commit : Bool) (update : ℕ). cond (eqb r.group g && commit) (record { group = g; tx = tx; update = update } ∷ group_replay store g (suc tx) rs) (group_replay store g (suc tx) rs))
    (commit_alike store v) (update_alike v)

replay_same : (store : ℕ) (rs : List Row) (g n : ℕ) → replay_from store (map row_without_turns rs) g n ≡ replay_from store rs g n
unfolding replay_from
replay_same store rs g zero = refl
replay_same store rs g (suc n) = ap₂ ◌++◌ (group_same store g 0 rs) (replay_same store rs (suc g) n)

-- ---- the log

module _ (l : Log) where
  tx_same : (tx : ℕ) → tx_text (without_turns l) tx ≡ tx_text l tx
  tx_same tx = ap (λ (r : Row). row_text r tx) (get_or-map row_without_turns l.rows tx no_row) ∙ row_same (row_of l tx) tx

pub shows_no_turn : ShowsNoTurn
unfolding log_text
shows_no_turn l =
    ap₂ (λ (rows replays : List ℕ). rows ++ each (holder_text l) stores ++ replays)
    (each_same (tx_text (without_turns l)) (tx_text l) (tx_same l) transactions)
    (each_same _ _ (λ s. ap (replay_text s) (replay_same s l.rows 1 l.groups)) stores)
