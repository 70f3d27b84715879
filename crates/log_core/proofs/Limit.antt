-- No entry changes the limit of a log.
use Rattle.log_entry.specs.Entry.{is_take}
use Prim.Native.Nat.{ℕ}
use mathlib.Core.Path.{◌≡◌, refl, ◌∙◌}
use mathlib.Core.List.{List, [], ◌∷◌}
use Rattle.std.proofs.Common.{is_ok}
use Rattle.log_entry.specs.declared.Entry.{Entry}
use Rattle.log_entry.proofs.Tests.{by_test}
use Rattle.log_core.specs.declared.Effect.{Effect}
use Rattle.log_core.specs.declared.Log.{Log}
use Rattle.log_core.specs.Decide.{effect_of, parts_of}
use Rattle.log_core.specs.Enter.{enter, entered, feed, stored}
use Rattle.log_core.specs.Limit.{KeepsLimit}
use Rattle.log_core.specs.Log.{opened}

stored_limit : (l : Log) (e : Entry) (f : Effect) → (stored l e f).stores ≡ l.stores
unfolding stored
stored_limit l e f =
    by_test same (is_take e) _ _ (λ h. refl)
    (λ h. by_test same f.begins _ _ (λ k. refl) (λ k. refl))
  where
    same : Log → Type 0
    same m = m.stores ≡ l.stores

pub enter_limit : (l : Log) (e : Entry) → (enter l e).log.stores ≡ l.stores
unfolding enter entered
enter_limit l e =
    let f = effect_of (parts_of l e) e in
    by_test (λ (m : Log). m.stores ≡ l.stores) (is_ok f.answer) (stored l e f) l (λ h. stored_limit l e f) (λ h. refl)

pub feed_limit : (l : Log) (es : List Entry) → (feed l es).stores ≡ l.stores
unfolding feed
feed_limit l [] = refl
feed_limit l (e ∷ es) = feed_limit (enter l e).log es ∙ enter_limit l e

pub opened_limit : (n : ℕ) → (opened n).stores ≡ n
unfolding opened
opened_limit n = refl

pub keeps_limit : KeepsLimit
keeps_limit n es = feed_limit (opened n) es ∙ opened_limit n
