use mathlib.Core.Path.{sym, ◌∙◌, ap}
use Rattle.std.proofs.Common.{Result}
use Rattle.std.proofs.lemmas.Result.{err_from_is_err_and}
use Rattle.log_entry.specs.declared.Entry.{Entry}
use Rattle.text_entry.specs.declared.Unread.{Unread}
use Rattle.text_entry.specs.Parts.{entry_of}
use Rattle.text_step.specs.Answers.{request_of}
use Rattle.text_step.proofs.Readings.{request_is, request_outside, request_read}
use Rattle.text_step.proofs.Requests.{a_receiver, no_entry, no_receiver}
use Rattle.text_step.proofs.read_request.Goals as goal

pub returns-in_default : goal.returns-in_default
returns-in_default c = no_entry c.args.line.now c.entry_parts.result c.entry_parts.ensures c.in_default.is

pub returns-in_default-decimal : goal.returns-in_default-decimal
returns-in_default-decimal c = no_receiver c.args.line.now c.entry_parts.result c.entry_parts.ensures (c.in-Some.parts, c.in-Some.rest) c.in-Some.is c.decimal.result c.decimal.ensures c.in_default-decimal.is

pub returns-then-not-is_empty : goal.returns-then-not-is_empty
returns-then-not-is_empty c = a_receiver c.args.line.now c.entry_parts.result c.entry_parts.ensures (c.in-Some.parts, c.in-Some.rest) c.in-Some.is c.decimal.result c.decimal.ensures (c.in-Some-decimal.to, c.in-Some-decimal.rest) c.in-Some-decimal.is (sym c.if-not-is_empty.true ∙ c.is_empty.ensures)

pub returns-in_err-entry : goal.returns-in_err-entry
returns-in_err-entry c =
    let p = err_from_is_err_and c.from_residual.result c.from_residual.ensures.1 in
    rw (p.1, p.2)
    (
    ap (λ (r : Result Entry Unread). request_of r c.in-Some-decimal.to) (sym c.in_err-entry.was ∙ c.entry.ensures)
    ∙ request_is (entry_of c.in-Some.parts) c.in-Some-decimal.to
    ∙ a_receiver c.args.line.now c.entry_parts.result c.entry_parts.ensures (c.in-Some.parts, c.in-Some.rest) c.in-Some.is c.decimal.result c.decimal.ensures (c.in-Some-decimal.to, c.in-Some-decimal.rest) c.in-Some-decimal.is (sym c.if-not-is_empty.false ∙ c.is_empty.ensures)
    )

pub returns-in_err-byte : goal.returns-in_err-byte
returns-in_err-byte c =
    let p = err_from_is_err_and c.from_residual-in_err-byte.result c.from_residual-in_err-byte.ensures.1 in
    rw (p.1, p.2)
    (
    request_outside c.in-Some-decimal.to c.in_ok-entry.field-0 (sym c.byte.ensures ∙ c.in_err-byte.was)
    ∙ ap (λ (r : Result Entry Unread). request_of r c.in-Some-decimal.to) (sym c.in_ok-entry.was ∙ c.entry.ensures)
    ∙ request_is (entry_of c.in-Some.parts) c.in-Some-decimal.to
    ∙ a_receiver c.args.line.now c.entry_parts.result c.entry_parts.ensures (c.in-Some.parts, c.in-Some.rest) c.in-Some.is c.decimal.result c.decimal.ensures (c.in-Some-decimal.to, c.in-Some-decimal.rest) c.in-Some-decimal.is (sym c.if-not-is_empty.false ∙ c.is_empty.ensures)
    )

pub returns : goal.returns
returns c =
    request_read c.in-Some-decimal.to c.in_ok-entry.field-0 (sym c.byte.ensures ∙ c.in_ok-byte.was)
    ∙ ap (λ (r : Result Entry Unread). request_of r c.in-Some-decimal.to) (sym c.in_ok-entry.was ∙ c.entry.ensures)
    ∙ request_is (entry_of c.in-Some.parts) c.in-Some-decimal.to
    ∙ a_receiver c.args.line.now c.entry_parts.result c.entry_parts.ensures (c.in-Some.parts, c.in-Some.rest) c.in-Some.is c.decimal.result c.decimal.ensures (c.in-Some-decimal.to, c.in-Some-decimal.rest) c.in-Some-decimal.is (sym c.if-not-is_empty.false ∙ c.is_empty.ensures)
