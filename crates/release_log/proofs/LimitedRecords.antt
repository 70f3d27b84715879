-- The same records, within the limits of n, entered into a full log and into one of limit n.
use Prim.Native.Nat.{ℕ}
use mathlib.Core.Bool.{Bool, true, false, cond}
use mathlib.Core.List.{List, [], map, ◌∷◌}
use mathlib.Core.Path.{◌≡◌, ap, refl, subst, sym, ◌∙◌}
use lib.Dec.{eqb}
use Rattle.std.proofs.Common.{Err, Ok, is_ok}
use lib.ListN.{length}
use Rattle.log_entry.specs.declared.Entry.{Entry}
use Rattle.log_entry.specs.Entry.{outside}
use Rattle.log_entry.specs.Limits.{stores}
use Rattle.log_entry.specs.declared.refusal.Refusal.TheVariants.{Unreadable}
use Rattle.log_entry.specs.Refusal.{accepted}
use Rattle.log_core.specs.declared.Entered.{Entered}
use Rattle.log_core.specs.declared.Log.{Log}
use Rattle.log_core.specs.Enter.{answered}
use Rattle.log_core.specs.Limit.{AllInside}
use Rattle.log_core.specs.Log.{with_limit}
use Rattle.log_core.proofs.EnterLaws.{accepted_inside, answer_is}
use Rattle.log_core.proofs.Limit.{enter_limit}
use Rattle.log_core.proofs.TwoLimits.{inside_same}
use Rattle.host_records.proofs.ReadingLaws.{read_within}
use Rattle.host_records.proofs.RecordReadings.{record_entry}
use Rattle.host_records.specs.Numbers.{Reading}
use Rattle.host_records.specs.Record.{entry_in, numbers_in, read_record, record_size}
use Rattle.host_lent.proofs.LentLaws.{reading_limit}
use Rattle.host_lent.specs.Lent.{enter_reading, enter_record, log_after}
use Rattle.release_log.proofs.FedLaws.{after_first, first_accepted, record_entered, said}

-- the same answer, and the log with limit n
abbrev pub limited : ℕ → Entered → Entered
limited n t = answered (with_limit n t.log) t.answer

in_arms : (n : ℕ) (b : Bool) (t u : Entered) → cond b (limited n t) (limited n u) ≡ limited n (cond b t u)
in_arms n true t u = refl
in_arms n false t u = refl

module _ (n : ℕ) (l : Log) (full : l.stores ≡ stores) where
  -- what was read, an entry within the limits or a refusal
  pub reading_same : (r : Reading) → ((e : Entry) → r ≡ Ok e → outside n e ≡ false) → enter_reading (with_limit n l) r ≡ limited n (enter_reading l r)
  unfolding enter_reading
  reading_same (Ok e) h = inside_same n l e full (h e refl)
  reading_same (Err k) h = refl

  record_same : (r : List ℕ) → outside n (entry_in r) ≡ false → enter_record (with_limit n l) r ≡ limited n (enter_record l r)
  unfolding read_record
  record_same r h =
      ap (λ (x : Reading). enter_reading (with_limit n l) (cond (eqb (length r) record_size) x (Err Unreadable))) (read_within n (numbers_in r) h)
      ∙ ap (λ (m : ℕ). enter_reading (with_limit n l) (read_record m r)) (sym full)
      ∙ reading_same (read_record l.stores r) (λ e k. ap (λ (e : Entry). outside n e) (sym (record_entry l.stores r k)) ∙ h)

  full_after : (r : List ℕ) → (enter_record l r).log.stores ≡ stores
  full_after r = reading_limit l (read_record l.stores r) ∙ full

pub after_same : (n : ℕ) (l : Log) (rs : List (List ℕ)) → l.stores ≡ stores → AllInside n (map entry_in rs)
    → log_after (with_limit n l) rs ≡ limited n (log_after l rs)
unfolding log_after
after_same n l [] full h = refl
after_same n l (r ∷ rs) full h =
    let b = is_ok (enter_record l r).answer in
    ap (λ (t : Entered). cond (is_ok t.answer) (log_after t.log rs) t) (record_same n l full r h.0)
    ∙ ap (λ (t : Entered). cond b t (limited n (enter_record l r))) (after_same n (enter_record l r).log rs (full_after n l full r) h.1)
    ∙ in_arms n b (log_after (enter_record l r).log rs) (enter_record l r)

-- accepted records are within the log's limits
pub all_inside : (l : Log) (rs : List (List ℕ)) → (log_after l rs).answer ≡ accepted → AllInside l.stores (map entry_in rs)
all_inside l [] h = tt
all_inside l (r ∷ rs) h =
    let first = first_accepted l r rs h in
    let rest = after_first l r rs first in
    let entered = record_entered l r first in
    let inside = all_inside (said l r rs).log rs (ap (λ (t : Entered). t.answer) (sym rest) ∙ h) in (
      accepted_inside l (entry_in r) (sym (answer_is l (entry_in r)) ∙ ap (λ (t : Entered). t.answer) (sym entered) ∙ first),
      same_limit (ap (λ (t : Entered). t.log.stores) entered ∙ enter_limit l (entry_in r)) inside,
    )
  where
    same_limit : {m k : ℕ} → m ≡ k → AllInside m (map entry_in rs) → AllInside k (map entry_in rs)
    same_limit is h = subst (λ (m : ℕ). AllInside m (map entry_in rs)) is h
