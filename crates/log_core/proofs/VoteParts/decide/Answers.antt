use Prim.Native.Nat.{ℕ}
use mathlib.Core.Path.{ap, sym, ◌∙◌}
use Rattle.log_entry.proofs.AnswerLaws.{err_accepted, err_refused}
use Rattle.log_entry.proofs.InsideLaws.{inside_store}
use Rattle.log_entry.specs.Bits.{has}
use Rattle.log_votes.specs.Outcome.{is_committed, is_open}
use Rattle.log_core.specs.declared.VoteParts.{VoteParts}
use Rattle.log_core.proofs.DecideLaws.{vote_answer, vote_committed, vote_fits, vote_keeps, vote_refused}
use Rattle.log_core.proofs.VoteParts.decide.Goals as goal

pub returns-then-is_err : goal.returns-then-is_err
returns-then-is_err c p so size inside vote =
    let answered = c.refusal-answer.ensures p.row (ap (λ (v : VoteParts). v.tally) so) (ap (λ (v : VoteParts). v.clash) so) in
    vote_refused p c.args.e vote so c.refusal-answer.result (vote_answer p c.args.e vote so inside c.refusal-answer.result answered) (err_refused c.refusal-answer.result (sym c.is_err.ensures.value ∙ c.if-is_err.true))

pub returns-then-not-is_commit : goal.returns-then-not-is_commit
returns-then-not-is_commit c p so size inside vote =
    let answered = c.refusal-answer.ensures p.row (ap (λ (v : VoteParts). v.tally) so) (ap (λ (v : VoteParts). v.clash) so) in
    let is = vote_answer p c.args.e vote so inside c.refusal-answer.result answered in
    let ok = err_accepted c.refusal-answer.result (sym c.is_err.ensures.value ∙ c.if-is_err.false) in
    let fits = vote_fits p c.args.e vote so answered ok in
    let o = c.outcome_with-o.ensures p.row (ap (λ (v : VoteParts). v.tally) so) size (inside_store p.stores c.args.e inside) fits.0 fits.1 in
    vote_keeps p c.args.e vote so (sym is ∙ ok) c.is_open.result
    (sym (c.is_commit.ensures ∙ ap is_committed o) ∙ c.if-not-is_commit.true) (c.is_open.ensures ∙ ap is_open o)

pub returns : goal.returns
returns c p so size inside vote =
    let answered = c.refusal-answer.ensures p.row (ap (λ (v : VoteParts). v.tally) so) (ap (λ (v : VoteParts). v.clash) so) in
    let is = vote_answer p c.args.e vote so inside c.refusal-answer.result answered in
    let ok = err_accepted c.refusal-answer.result (sym c.is_err.ensures.value ∙ c.if-is_err.false) in
    let fits = vote_fits p c.args.e vote so answered ok in
    let o = c.outcome_with-o.ensures p.row (ap (λ (v : VoteParts). v.tally) so) size (inside_store p.stores c.args.e inside) fits.0 fits.1 in
    vote_committed p c.args.e vote so (sym is ∙ ok) c.next_group.result c.has-joins.result
    (sym (c.is_commit.ensures ∙ ap is_committed o) ∙ c.if-not-is_commit.false) (c.has-joins.ensures ∙ ap (λ (t : ℕ). has c.args.self.remembered t) c.tx.ensures) c.next_group.ensures
