-- What a command does to a log, and a line to a session.
use Prim.Native.Nat.{ℕ}
use mathlib.Core.Bool.{false}
use mathlib.Core.Path.{◌≡◌, sym, ◌∙◌, ap}
use Rattle.std.specs.Prelude.{Result, Ok, Err, is_ok}
use Rattle.log_entry.specs.declared.Entry.{Entry}
use Rattle.log_entry.specs.declared.refusal.Refusal.{Refusal}
use Rattle.log_entry.specs.Number.{Answer, answer_number, number_of}
use Rattle.log_core.specs.declared.Effect.{Effect}
use Rattle.log_core.specs.declared.Log.{Log}
use Rattle.log_core.specs.Enter.{enter, entered}
use Rattle.log_core.specs.Decide.{effect_of, parts_of}
use Rattle.text_lines.specs.declared.Line.{Line}
use Rattle.text_lines.specs.Answers.{noted as answers_noted}
use Rattle.plain_run.specs.declared.Session.{Session}
use Rattle.plain_run.specs.Session.{answer_line, carried_out, line_entered, noted}

module _ (l : Log) (e : Entry) where
  refused_by : (f : Effect) → is_ok (entered l e f).answer ≡ false → l ≡ (entered l e f).log
  unfolding entered
  refused_by f h = rw h

  -- an entry that is refused leaves the log as it was
  log_stays : is_ok (enter l e).answer ≡ false → l ≡ (enter l e).log
  unfolding enter
  log_stays h = refused_by (effect_of (parts_of l e) e) h

-- the session after a line, by its command
module _ (s : Session) (line : Line) where
  abbrev pub after : Log → ℕ → Session
  after l n = record { log = l; answers = answers_noted s.answers n }

  module _ (c : Result Entry Refusal) (asked : (l : Log) → carried_out l c ≡ line_entered l s.answers.count line) where
    is_noted : {l : Log} {n : ℕ} → l ≡ (carried_out s.log c).log → n ≡ answer_number (carried_out s.log c).answer → after l n ≡ answer_line s line
    unfolding answer_line
    is_noted {l} {n} h k =
        let a : ◌≡◌ {A = Session} (after l n) (noted s (carried_out s.log c)) = (λ i. record { log = h i; answers = ap (answers_noted s.answers) k i }) in
        a ∙ ap (noted s) (asked s.log)

    pub line_refused : {r : Refusal} {n : ℕ} → n ≡ number_of r → c ≡ Err r → after s.log n ≡ answer_line s line
    line_refused k h = is_noted (rw h) (rw h k)

    module _ {e : Entry} (h : c ≡ Ok e) {a : Answer} (answer : a ≡ (enter s.log e).answer) {n : ℕ} (number : n ≡ answer_number a) where
      pub entry_accepted : after (enter s.log e).log n ≡ answer_line s line
      entry_accepted = is_noted (rw h) (rw h (number ∙ ap answer_number answer))

      pub entry_refused : is_ok a ≡ false → after s.log n ≡ answer_line s line
      entry_refused bad = is_noted (rw h (log_stays s.log e (ap is_ok (sym answer) ∙ bad))) (rw h (number ∙ ap answer_number answer))
