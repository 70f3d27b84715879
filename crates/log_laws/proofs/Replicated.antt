-- What a proof about logs fed the same entries needs: parts of the entries, lengths, and that a
-- decided outcome stays.
use Prim.Native.Nat.{ℕ, ◌<◌}
use mathlib.Core.Path.{◌≡◌}
use mathlib.Core.List.{List, ◌++◌}
use mathlib.Core.Logic.{◌≢◌}
use lib.ListN.{length}
use Rattle.log_entry.specs.declared.Entry.{Entry}
use Rattle.log_entry.specs.Limits.{process_places, stores, transactions}
use Rattle.log_core.specs.declared.Log.{Log}
use Rattle.log_votes.specs.declared.Outcome.TheVariants.{Open}
use Rattle.log_core.specs.Enter.{feed}
use Rattle.log_core.specs.Log.{row_of, outcome_of}
use Rattle.log_laws.specs.Reached.{reached}
use Rattle.log_laws.proofs.Feed
use Rattle.log_laws.proofs.Stays

pub feed_append : (l : Log) (es fs : List Entry) → feed l (es ++ fs) ≡ feed (feed l es) fs
feed_append = Feed.feed_append

pub decided_stays : (es more : List Entry) (tx : ℕ) → outcome_of (reached es) tx ≢ Open → outcome_of (feed (reached es) more) tx ≡ outcome_of (reached es) tx
decided_stays es more tx h = Stays.decided_stays (reached es) more tx (Feed.wf_reached es) h

pub rows_length : (es : List Entry) → length (reached es).rows ≡ transactions
rows_length es = (Feed.wf_reached es).sized.rows_size

pub votes_length : (es : List Entry) (tx : ℕ) → tx < transactions → length (row_of (reached es) tx).votes ≡ stores
votes_length es = (Feed.wf_reached es).sized.votes_size

pub holders_length : (es : List Entry) → length (reached es).holders ≡ stores
holders_length es = (Feed.wf_reached es).sized.holders_size

pub turns_length : (es : List Entry) → length (reached es).turns ≡ stores
turns_length es = (Feed.wf_reached es).sized.turns_size

pub latest_length : (es : List Entry) → length (reached es).latest ≡ process_places
latest_length es = (Feed.wf_reached es).sized.latest_size

pub takers_length : (es : List Entry) → length (reached es).takers ≡ stores
takers_length es = (Feed.wf_reached es).sized.takers_size

pub remembered_length : (es : List Entry) → length (reached es).remembered ≡ transactions
remembered_length es = (Feed.wf_reached es).sized.remembered_size
