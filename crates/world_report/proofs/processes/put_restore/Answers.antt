use Rattle.text_report.proofs.Lengths.{within_as, within_more}
use Rattle.world_report.proofs.ProcessTexts.{one_taken}
use Rattle.world_report.proofs.processes.put_restore.Goals as goal

pub returns : goal.returns
returns c =
    within_as
    (one_taken c.args.proc c.args.p.now c.args.replay.now c.args.follows.now c.if-p-eq0.false)
    (within_more (within_more (within_more c.restore_line.ensures
    c.put_replay.ensures)
    c.put_running.ensures)
    c.put_follows.ensures)
