-- The numbers of an entry read: a take uses no others than its own, and a vote says abort or commit.
use Prim.Native.Nat.{ℕ}
use mathlib.Core.Bool.{false}
use mathlib.Core.Path.{◌≡◌, refl}
use Rattle.log_entry.specs.declared.Entry.{Entry}
use Rattle.log_entry.specs.declared.Request.{Request}
use Rattle.log_entry.specs.declared.Request.TheVariants.{Take, Vote}
use Rattle.log_entry.specs.declared.Say.TheVariants.{Abort, Commit}
use Rattle.host_records.specs.Numbers.{numbers_of, unreadable}

request_readable : (process turn store : ℕ) (r : Request) → unreadable (numbers_of (record { process = process; turn = turn; store = store; request = r })) ≡ false
unfolding unreadable
request_readable process turn store Take = refl
request_readable process turn store (Vote by tx list Abort update) = refl
request_readable process turn store (Vote by tx list Commit update) = refl

pub entry_readable : (e : Entry) → unreadable (numbers_of e) ≡ false
entry_readable e = request_readable e.process e.turn e.store e.request
