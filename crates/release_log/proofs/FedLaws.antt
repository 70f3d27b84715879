-- The log after records that are all accepted is the plain log fed their entries.
use Prim.Native.Nat.{ℕ}
use mathlib.Core.Bool.{Bool, false, true}
use mathlib.Core.List.{List, [], map, ◌∷◌, ◌++◌}
use mathlib.Core.Path.{◌≡◌, ap, refl, sym, ◌∙◌}
use Rattle.std.proofs.Common.{Err, Ok, is_ok}
use Rattle.log_entry.specs.Refusal.{accepted}
use Rattle.log_core.specs.declared.Entered.{Entered}
use Rattle.log_core.specs.declared.Log.{Log}
use Rattle.log_core.specs.Enter.{enter, feed}
use Rattle.log_entry.proofs.AnswerLaws.{err_ok, ok_accepted}
use Rattle.host_records.proofs.RecordReadings.{record_entry}
use Rattle.host_records.specs.Numbers.{Reading}
use Rattle.host_records.specs.Record.{entry_in, read_record}
use Rattle.host_lent.specs.Lent.{enter_reading, enter_record, log_after}

-- an accepted record is its entry entered
module _ (l : Log) (bytes : List ℕ) (h : (enter_record l bytes).answer ≡ accepted) where
  pub record_entered : enter_record l bytes ≡ enter l (entry_in bytes)
  unfolding enter_reading
  record_entered = split (read_record l.stores bytes) refl
    where
      split : (r : Reading) → read_record l.stores bytes ≡ r → enter_record l bytes ≡ enter l (entry_in bytes)
      split (Ok e) k = rw (k, record_entry l.stores bytes k)
      split (Err n) k = absurd (err_ok (rw k at h))

-- one record more at the front, whose log is m if it is accepted
module _ (l : Log) (r : List ℕ) (rs : List (List ℕ)) where
  abbrev pub said : Entered
  said = enter_record l r

  pub first_accepted : (log_after l (r ∷ rs)).answer ≡ accepted → said.answer ≡ accepted
  unfolding log_after
  first_accepted h = split (is_ok said.answer) refl
    where
      split : (t : Bool) → is_ok said.answer ≡ t → said.answer ≡ accepted
      split true e = ok_accepted said.answer e
      split false e = rw e at h

  pub after_first : said.answer ≡ accepted → log_after l (r ∷ rs) ≡ log_after said.log rs
  unfolding log_after
  after_first h = rw (ap is_ok h)

pub records_fed : (l : Log) (rs : List (List ℕ)) → (log_after l rs).answer ≡ accepted → (log_after l rs).log ≡ feed l (map entry_in rs)
unfolding log_after feed
records_fed l [] h = refl
records_fed l (r ∷ rs) h =
    let first = first_accepted l r rs h in
    let rest = after_first l r rs first in
    ap (λ (t : Entered). t.log) rest
    ∙ records_fed (said l r rs).log rs (ap (λ (t : Entered). t.answer) (sym rest) ∙ h)
    ∙ ap (λ (t : Entered). feed t.log (map entry_in rs)) (record_entered l r first)

-- the log after a list of records, all accepted, and one more
pub log_after_more : (l : Log) (rs : List (List ℕ)) (r : List ℕ) → (log_after l rs).answer ≡ accepted
    → log_after l (rs ++ r ∷ []) ≡ log_after (log_after l rs).log (r ∷ [])
unfolding log_after
log_after_more l [] r h = refl
log_after_more l (q ∷ rs) r h =
    let first = first_accepted l q rs h in
    let rest = after_first l q rs first in
    after_first l q (rs ++ r ∷ []) first
    ∙ log_after_more (said l q rs).log rs r (ap (λ (t : Entered). t.answer) (sym rest) ∙ h)
    ∙ ap (λ (t : Entered). log_after t.log (r ∷ [])) (sym rest)
