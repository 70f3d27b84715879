-- The claims on answers: "The lowest number that applies is given. State and buffers stay
-- unchanged." They hold of every log.
use Rattle.std.specs.Prelude.{◌≡◌, Bool, true, false, not, List, [], ◌∷◌, ◌↔◌, ◌≢◌, eqb, get_or}
use Rattle.log_entry.specs.declared.Entry.{Entry}
use Rattle.log_entry.specs.Entry.{by_of, ill_formed, is_take, outside, tx_of}
use Rattle.log_entry.specs.Refusal.{accepted, ill_formed_vote, kept_already, not_holder, other_list, outside_limits}
use Rattle.log_entry.specs.Refusal as refusal
use Rattle.log_core.specs.declared.Log.{Log}
use Rattle.log_core.specs.Enter.{enter}
use Rattle.log_core.specs.Log.{holder_of, latest_of, row_of, turn_of, vote_at}
use Rattle.log_votes.specs.Refusal.{any_clash}
use Rattle.log_votes.specs.Vote.{vote_kept}
use Rattle.log_core.specs.Refusal.{holds_another, wrong_turn}

-- no condition holds
abbrev pub None : List Bool → Type 0
None [] = Unit {0}
None (b ∷ bs) = (b ≡ false) × None bs

-- this condition holds, and none of those tried before it
abbrev pub First : List Bool → Bool → Type 0
First [] this = this ≡ true
First (b ∷ bs) this = (b ≡ false) × First bs this

-- 8: process does not hold `by`
abbrev pub holds_not : Log → Entry → Bool
holds_not l e = not (eqb (holder_of l (by_of e)) e.process)

-- 9: a commit vote with list L is kept, and this is a commit with another list or an abort whose
-- list is not within L
abbrev pub clash : Log → Entry → Bool
clash l e = any_clash e (row_of l (tx_of e)).votes

-- 10: this store's vote is kept already
abbrev pub kept : Log → Entry → Bool
kept l e = vote_kept (vote_at l (tx_of e) e.store)

-- 12, of a vote: its turn is not the holder's
abbrev pub other_turn : Log → Entry → Bool
other_turn l e = not (eqb (turn_of l (by_of e)) e.turn)

-- 11: "it holds another store now"
abbrev pub another : Log → Entry → Bool
another l e = holds_another l.holders e.process e.store

-- 12, of a take: its turn "is below the last accepted one of that process, or equal to it where the
-- process holds or held that store"
abbrev pub stale : Log → Entry → Bool
stale l e = wrong_turn (get_or l.takers e.store 0) (latest_of l e.process) e

-- a vote's answer is n if and only if condition n holds and none before it does; 0 if and only if
-- none holds
pub record VoteAnswers (l : Log) (e : Entry) : Type 0 where
  pub is_2 : ((enter l e).answer ≡ outside_limits) ↔ First [] (outside l.stores e)
  pub is_7 : ((enter l e).answer ≡ ill_formed_vote) ↔ First (outside l.stores e ∷ []) (ill_formed e)
  pub is_8 : ((enter l e).answer ≡ not_holder) ↔ First (outside l.stores e ∷ ill_formed e ∷ []) (holds_not l e)
  pub is_9 : ((enter l e).answer ≡ other_list) ↔ First (outside l.stores e ∷ ill_formed e ∷ holds_not l e ∷ []) (clash l e)
  pub is_10 : ((enter l e).answer ≡ kept_already) ↔ First (outside l.stores e ∷ ill_formed e ∷ holds_not l e ∷ clash l e ∷ []) (kept l e)
  pub is_12 : ((enter l e).answer ≡ refusal.wrong_turn) ↔ First (outside l.stores e ∷ ill_formed e ∷ holds_not l e ∷ clash l e ∷ kept l e ∷ []) (other_turn l e)
  pub is_0 : ((enter l e).answer ≡ accepted) ↔ None (outside l.stores e ∷ ill_formed e ∷ holds_not l e ∷ clash l e ∷ kept l e ∷ other_turn l e ∷ [])

-- a take's likewise
pub record TakeAnswers (l : Log) (e : Entry) : Type 0 where
  pub is_2 : ((enter l e).answer ≡ outside_limits) ↔ First [] (outside l.stores e)
  pub is_11 : ((enter l e).answer ≡ refusal.holds_another) ↔ First (outside l.stores e ∷ []) (another l e)
  pub is_12 : ((enter l e).answer ≡ refusal.wrong_turn) ↔ First (outside l.stores e ∷ another l e ∷ []) (stale l e)
  pub is_0 : ((enter l e).answer ≡ accepted) ↔ None (outside l.stores e ∷ another l e ∷ stale l e ∷ [])

abbrev pub VoteAnswerExactly : Type 0
VoteAnswerExactly = (l : Log) (e : Entry) → is_take e ≡ false → VoteAnswers l e

abbrev pub TakeAnswerExactly : Type 0
TakeAnswerExactly = (l : Log) (e : Entry) → is_take e ≡ true → TakeAnswers l e

-- a refused entry leaves the log as it was
abbrev pub RefusedEntryChangesNothing : Type 0
RefusedEntryChangesNothing = (l : Log) (e : Entry) → (enter l e).answer ≢ accepted → (enter l e).log ≡ l
