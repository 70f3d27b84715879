use mathlib.Core.List.{[], ◌∷◌}
use mathlib.Core.Path.{sym, ◌∙◌, ap}
use Rattle.text_ascii.specs.Bytes.{ascii}
use Rattle.text_entry.specs.Seen.{left}
use Rattle.text_entry.proofs.Parts.{word_first, word_later, word_none, words_behind}
use Rattle.text_step.proofs.role.Goals as goal

pub returns-in-Some : goal.returns-in-Some
returns-in-Some c =
    word_first 0 (ascii "acceptor") (ascii "coord" ∷ ascii "proc" ∷ []) c.in_ok-word.word.now (sym (ap left c.in-Some.is) ∙ c.after.ensures)
    ∙ words_behind (ascii "role") (ascii "acceptor" ∷ ascii "coord" ∷ ascii "proc" ∷ []) c.args.rest.now c.in_ok-word.word.now (sym (ap left c.in_ok-word.was) ∙ c.keyed.ensures)

pub returns-in-Some-after : goal.returns-in-Some-after
returns-in-Some-after c =
    word_first 1 (ascii "coord") (ascii "proc" ∷ []) c.in_ok-word.word.now (sym (ap left c.in-Some-after.is) ∙ c.after-2.ensures)
    ∙ word_later 0 (ascii "acceptor") (ascii "coord" ∷ ascii "proc" ∷ []) c.in_ok-word.word.now (sym (ap left c.in_default.is) ∙ c.after.ensures)
    ∙ words_behind (ascii "role") (ascii "acceptor" ∷ ascii "coord" ∷ ascii "proc" ∷ []) c.args.rest.now c.in_ok-word.word.now (sym (ap left c.in_ok-word.was) ∙ c.keyed.ensures)

pub returns-in_err-behind : goal.returns-in_err-behind
returns-in_err-behind c =
    rw c.from_residual-in_err-behind.ensures
    (
    word_none 3 c.in_ok-word.word.now
    ∙ word_later 2 (ascii "proc") [] c.in_ok-word.word.now (sym (ap left c.in_err-behind.was) ∙ c.after-3.ensures)
    ∙ word_later 1 (ascii "coord") (ascii "proc" ∷ []) c.in_ok-word.word.now (sym (ap left c.in_default-after.is) ∙ c.after-2.ensures)
    ∙ word_later 0 (ascii "acceptor") (ascii "coord" ∷ ascii "proc" ∷ []) c.in_ok-word.word.now (sym (ap left c.in_default.is) ∙ c.after.ensures)
    ∙ words_behind (ascii "role") (ascii "acceptor" ∷ ascii "coord" ∷ ascii "proc" ∷ []) c.args.rest.now c.in_ok-word.word.now (sym (ap left c.in_ok-word.was) ∙ c.keyed.ensures)
    )

pub returns : goal.returns
returns c =
    word_first 2 (ascii "proc") [] c.in_ok-word.word.now (sym (ap left c.in_ok-behind.was) ∙ c.after-3.ensures)
    ∙ word_later 1 (ascii "coord") (ascii "proc" ∷ []) c.in_ok-word.word.now (sym (ap left c.in_default-after.is) ∙ c.after-2.ensures)
    ∙ word_later 0 (ascii "acceptor") (ascii "coord" ∷ ascii "proc" ∷ []) c.in_ok-word.word.now (sym (ap left c.in_default.is) ∙ c.after.ensures)
    ∙ words_behind (ascii "role") (ascii "acceptor" ∷ ascii "coord" ∷ ascii "proc" ∷ []) c.args.rest.now c.in_ok-word.word.now (sym (ap left c.in_ok-word.was) ∙ c.keyed.ensures)
