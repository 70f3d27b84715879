-- Feeding a log: in parts, and that what each entry keeps stays in every later log.
use mathlib.Core.Path.{◌≡◌, refl, sym, subst}
use mathlib.Core.List.{List, [], ◌∷◌, ◌++◌}
use Rattle.log_entry.specs.declared.Entry.{Entry}
use Rattle.log_core.specs.declared.Log.{Log}
use Rattle.log_core.specs.Enter.{enter, feed}
use Rattle.log_core.specs.Log.{empty_log}
use Rattle.log_laws.specs.Reached.{reached}
use Rattle.log_laws.proofs.WellFormed.{Wf, feed_keeps, wf_empty, wf_feed}

pub feed_append : (l : Log) (es fs : List Entry) → feed l (es ++ fs) ≡ feed (feed l es) fs
unfolding feed
feed_append l [] fs = refl
feed_append l (e ∷ es) fs = feed_append (enter l e).log es fs

pub wf_reached : (es : List Entry) → Wf (reached es)
wf_reached es = wf_feed empty_log es wf_empty

-- what each entry keeps holds of every later log
pub later : (P : Log → Type 0) → ((l : Log) (e : Entry) → Wf l → P l → P (enter l e).log) → (es more : List Entry) → P (reached es) → P (reached (es ++ more))
later P step es more p = subst P (sym (feed_append empty_log es more)) (feed_keeps P step (reached es) more (wf_reached es) p)
