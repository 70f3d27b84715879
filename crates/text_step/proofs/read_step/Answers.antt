use mathlib.Core.Path.{◌∙◌, ap}
use Rattle.std.proofs.Common.{of_calls}
use Rattle.text_entry.specs.Read.{read_kind}
use Rattle.text_entry.specs.Table.{made, or_else}
use Rattle.text_step.specs.Kinds.{back_kind, crash_kind, deliver_kind, follow_kind, open_kind, propose_kind, restore_kind, sent_take, sent_vote, setup_kind, tell_kind}
use Rattle.text_step.specs.Step.{back_of, crash_of, deliver_of, follow_of, open_of, propose_of, reading_of, restore_of, setup_of, take_of, tell_of, vote_of}
use Rattle.text_step.proofs.Readings.{Answers, in_order, or_read}
use Rattle.text_step.proofs.read_step.Goals as goal

pub returns : goal.returns
returns c =
    let kind_0 : Answers (made deliver_of (read_kind deliver_kind c.args.line.now)) c.read_deliver-read.result = record { answers = c.read_deliver-read.ensures } in
    let kind_1 = or_read (or_else (made take_of (read_kind sent_take c.args.line.now)) (made vote_of (read_kind sent_vote c.args.line.now))) c.or_else-read.result kind_0 c.or_else-read.ensures (λ e. search of_calls) in
    let kind_2 = or_read (made setup_of (read_kind setup_kind c.args.line.now)) c.or_else-read-2.result kind_1 c.or_else-read-2.ensures (λ e. search of_calls) in
    let kind_3 = or_read (made open_of (read_kind open_kind c.args.line.now)) c.or_else-read-3.result kind_2 c.or_else-read-3.ensures (λ e. search of_calls) in
    let kind_4 = or_read (made propose_of (read_kind propose_kind c.args.line.now)) c.or_else-read-4.result kind_3 c.or_else-read-4.ensures (λ e. search of_calls) in
    let kind_5 = or_read (made tell_of (read_kind tell_kind c.args.line.now)) c.or_else-read-5.result kind_4 c.or_else-read-5.ensures (λ e. search of_calls) in
    let kind_6 = or_read (made restore_of (read_kind restore_kind c.args.line.now)) c.or_else-read-6.result kind_5 c.or_else-read-6.ensures (λ e. search of_calls) in
    let kind_7 = or_read (made follow_of (read_kind follow_kind c.args.line.now)) c.or_else-read-7.result kind_6 c.or_else-read-7.ensures (λ e. search of_calls) in
    let kind_8 = or_read (made back_of (read_kind back_kind c.args.line.now)) c.or_else-read-8.result kind_7 c.or_else-read-8.ensures (λ e. search of_calls) in
    let kind_9 = or_read (made crash_of (read_kind crash_kind c.args.line.now)) c.or_else.result kind_8 c.or_else.ensures (λ e. search of_calls) in
    kind_9.answers ∙ ap reading_of (in_order c.args.line.now)
