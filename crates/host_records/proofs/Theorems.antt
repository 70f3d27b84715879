-- An entry that is written as a record and read back is the same entry. What is read as a turn, and
-- what is stored.
use Prim.Native.Nat.{ℕ, ◌<◌}
use mathlib.Core.Bool.{Bool, cond, false, not, true, false≢true, ◌&&◌}
use mathlib.Core.Path.{◌≡◌, ap, refl, sym, ◌∙◌}
use native.Mathlib.Omega.{arith}
use borrow.Author.Tests.{ne_eqb, not-true}
use lib.ListN.{length}
use Rattle.log_entry.proofs.InsideLaws.{inside_turn, inside_vote}
use Rattle.log_entry.specs.declared.Entry.{Entry}
use Rattle.log_entry.specs.declared.Request.{Request}
use Rattle.log_entry.specs.declared.Request.TheVariants.{Take, Vote}
use Rattle.log_entry.specs.declared.Say.TheVariants.{Abort, Commit}
use Rattle.log_entry.specs.Entry.{by_of, in_update_in, is_take, list_of, outside, says_commit, take_entry, tx_of, update_in, vote_entry}
use Rattle.log_entry.specs.Limits.{update_bytes, updates}
use Rattle.host_records.proofs.LowFirst.{low_first_back}
use Rattle.host_records.proofs.ReadableLaws.{entry_readable}
use Rattle.host_records.proofs.ReadingLaws.{entry_read, passed_read}
use Rattle.host_records.proofs.ReadLaws.{read_above}
use Rattle.host_records.proofs.RecordReadings.{record_entry}
use Rattle.host_records.specs.Claims.{StoredTurn, TurnAbove, TurnRead, ZeroMeansFirst, ZeroMeansFirstInCall}
use Rattle.host_records.specs.Numbers.{abort_say, commit_say, entry_of, numbers, numbers_of, read_numbers, request_of, take_kind, turn_meant, unreadable, vote_kind}
use Rattle.host_records.specs.Record.{proper, read_record, record_of}
use Rattle.host_records.specs.declared.Numbers.{Numbers}
use Rattle.std.proofs.Common.{Ok}

and_both : (a b : Bool) → (a && b) ≡ true → (a ≡ true) × (b ≡ true)
and_both true b h = (refl, h)
and_both false b h = absurd (false≢true h)

turn_back : (t : ℕ) → 0 < t → turn_meant t ≡ t
turn_back t some = rw (ne_eqb t 0 (λ z. omega (arith, some, z)))

request_back : (process turn store : ℕ) (r : Request) → request_of (numbers_of (record { process = process; turn = turn; store = store; request = r })) ≡ r
request_back process turn store Take = refl
request_back process turn store (Vote by tx list Abort update) = refl
request_back process turn store (Vote by tx list Commit update) = refl

entry_of_numbers : (e : Entry) → 0 < e.turn → entry_of (numbers_of e) ≡ e
entry_of_numbers e some =
    λ i. record { process = e.process; turn = turn_back e.turn some i; store = e.store; request = request_back e.process e.turn e.store e.request i }

with_update : Entry → ℕ → Numbers
with_update e u =
    numbers (cond (is_take e) take_kind vote_kind) e.process (by_of e) e.store (tx_of e) (list_of e) (cond (says_commit e) commit_say abort_say) e.turn u

-- an update in a vote is within the limits, and a take has none
update_fits : (limit process turn store : ℕ) (r : Request) → outside limit (record { process = process; turn = turn; store = store; request = r }) ≡ false → in_update_in r < updates
update_fits limit process turn store Take inside = omega arith
update_fits limit process turn store (Vote by tx list say update) inside =
    (inside_vote limit (record { process = process; turn = turn; store = store; request = Vote by tx list say update }) inside refl).update

module _ (limit : ℕ) (e : Entry) (h : proper limit e ≡ true) where
  inside : outside limit e ≡ false
  inside = not-true (outside limit e) (and_both (not (unreadable (numbers_of e))) (not (outside limit e)) h).1

  numbers_read_back : read_numbers limit (numbers_of e) ≡ Ok e
  unfolding read_numbers
  numbers_read_back = rw (entry_readable e, entry_of_numbers e (inside_turn limit e inside).0, inside)

  pub record_reads_back : read_record limit (record_of e) ≡ Ok e
  unfolding read_record record_of with_update
  record_reads_back =
      ap (λ (u : ℕ). read_numbers limit (with_update e u)) (low_first_back update_bytes (update_in e) (update_fits limit e.process e.turn e.store e.request inside))
      ∙ numbers_read_back

-- each entry of document 01 whose numbers are within their limits is such an entry
inside_is_proper : (limit : ℕ) (e : Entry) → outside limit e ≡ false → proper limit e ≡ true
inside_is_proper limit e h = rw (entry_readable e, h)

pub take_is_proper : (limit process turn store : ℕ) → outside limit (take_entry process turn store) ≡ false → proper limit (take_entry process turn store) ≡ true
take_is_proper limit process turn store h = inside_is_proper limit (take_entry process turn store) h

pub vote_is_proper : (limit process turn by store tx list : ℕ) (commit : Bool) (update : ℕ)
    → outside limit (vote_entry process turn by store tx list commit update) ≡ false → proper limit (vote_entry process turn by store tx list commit update) ≡ true
vote_is_proper limit process turn by store tx list commit update h =
    inside_is_proper limit (vote_entry process turn by store tx list commit update) h

-- so is what was read from numbers
pub read_is_proper : (limit : ℕ) (n : Numbers) {e : Entry} → read_numbers limit n ≡ Ok e → proper limit e ≡ true
read_is_proper limit n {e} h =
    inside_is_proper limit e (ap (λ (f : Entry). outside limit f) (sym (entry_read limit n h)) ∙ (passed_read limit n h).1)

-- "a host's record grows to 16 bytes"
pub record_size_lem : (e : Entry) → length (record_of e) ≡ 16
unfolding record_of
record_size_lem e = refl

pub zero_means_first : ZeroMeansFirst
unfolding read_record read_numbers unreadable
zero_means_first limit kind process by store tx list say rest = refl

pub zero_means_first_in_call : ZeroMeansFirstInCall
unfolding read_numbers unreadable
zero_means_first_in_call limit kind process by store tx list say update = refl

pub turn_read : TurnRead
turn_read limit bytes e h = ap (λ (e : Entry). e.turn) (sym (record_entry limit bytes h))

pub stored_turn : StoredTurn
unfolding record_of
stored_turn limit n e h =
    let inside = ap (λ (f : Entry). outside limit f) (sym (entry_read limit n h)) ∙ (passed_read limit n h).1 in
    ((inside_turn limit e inside).0, (inside_turn limit e inside).1, ap (λ (e : Entry). e.turn) (sym (entry_read limit n h)))

pub turn_above : TurnAbove
turn_above limit n readable h = read_above limit n readable h
