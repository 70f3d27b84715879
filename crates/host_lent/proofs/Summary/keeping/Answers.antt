use Rattle.std.proofs.Common.{sym, ◌∙◌}
use Rattle.host_lent.proofs.SummaryLaws.{summary_abort, summary_commit}
use Rattle.host_lent.proofs.Summary.keeping.Goals as goal

pub returns-then-says_commit : goal.returns-then-says_commit
returns-then-says_commit c r is here agrees free =
    rw c.list.ensures
    (summary_commit c.args.self r is c.args.e c.args.group here agrees free (c.keeping-tally.ensures r is.0 is.3 free) (sym c.says_commit.ensures ∙ c.if-says_commit.true))

pub returns : goal.returns
returns c r is here agrees free =
    summary_abort c.args.self r is c.args.e c.args.group here agrees free (c.keeping-tally.ensures r is.0 is.3 free) (sym c.says_commit.ensures ∙ c.if-says_commit.false)
