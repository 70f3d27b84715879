-- One turn of the loop that feeds a log.
use Rattle.std.proofs.Common.{◌≡◌, ◌+◌, ◌<◌, ◌≤◌, ℕ, List, add-one, drop, drop-cons, get_or, length}
use lib.ListN.{drop_of_length-le}
use Rattle.log_entry.specs.declared.Entry.{Entry}
use Rattle.log_core.specs.declared.Log.{Log}
use Rattle.log_core.specs.Enter.{enter, feed}

module _ (l : Log) (xs : List Entry) (i : ℕ) where
  pub feed_step : (d : Entry) → i < length xs → feed l (drop i xs) ≡ feed (enter l (get_or xs i d)).log (drop (i + 1) xs)
  unfolding feed
  feed_step d h = rw (drop-cons xs i d h, add-one i)

  pub feed_end : length xs ≤ i → feed l (drop i xs) ≡ l
  unfolding feed
  feed_end h = rw (drop_of_length-le xs h)

pub ruleset turns = (feed_step, feed_end)
