use mathlib.Core.Path.{◌∙◌, sym}
use Rattle.plain_run.proofs.Sessions.{entry_accepted, entry_refused, line_refused}
use Rattle.plain_run.proofs.SessionSession.take.Goals as goal

pub returns-in-Err : goal.returns-in-Err
returns-in-Err c running =
    (λ i. record { log = c.args.self.now.log; answers = c.push.ensures i })
    ∙ line_refused c.args.self.now c.args.line.now c.command_at.result c.command_at.ensures c.number.ensures c.in-Err.is

pub returns-then-is_ok : goal.returns-then-is_ok
returns-then-is_ok c running =
    (λ i. record { log = c.enter.ensures i; answers = c.push-in-Ok.ensures i })
    ∙ entry_accepted c.args.self.now c.args.line.now c.command_at.result c.command_at.ensures c.in-Ok.is c.answer_to-answer.ensures c.number-in-Ok.ensures

pub returns-else-is_ok : goal.returns-else-is_ok
returns-else-is_ok c running =
    (λ i. record { log = c.args.self.now.log; answers = c.push-in-Ok.ensures i })
    ∙ entry_refused c.args.self.now c.args.line.now c.command_at.result c.command_at.ensures c.in-Ok.is c.answer_to-answer.ensures c.number-in-Ok.ensures (sym c.is_ok.ensures.value ∙ c.if-is_ok.false)
