-- How much room the list takes at most.
use Rattle.std.specs.Prelude.{ℕ, ◌+◌, ◌*◌, List, length}
use Rattle.text_ascii.specs.Bytes.{ascii}
use Rattle.model_steps.specs.Limits.{most_acceptors}
use Rattle.model_finish.specs.Such.{quorum}
use Rattle.text_report.specs.Report.{end}
use Rattle.text_report.specs.Within.{longest_field}

-- the line of an open or a propose, up to the key of its first field
abbrev pub open_name : List ℕ
open_name = ascii "do=open coord="

abbrev pub propose_name : List ℕ
propose_name = ascii "do=propose coord="

-- a line that begins so, and has an instance and a ballot
abbrev pub longest_round : List ℕ → ℕ
longest_round name = longest_field name + longest_field (ascii " inst=") + longest_field (ascii " ballot=") + length end

abbrev pub longest_deliver : ℕ
longest_deliver = longest_field (ascii "do=deliver msg=") + length end

-- "m being the majority (2 of 3, 3 of 5)": no run of messages has more
abbrev pub longest_run : ℕ
longest_run = quorum most_acceptors * longest_deliver

-- no list prints as more: the lines of an open and of a propose, and two runs of messages behind
-- each
abbrev pub longest_list : ℕ
longest_list = longest_round open_name + longest_round propose_name + 4 * longest_run
