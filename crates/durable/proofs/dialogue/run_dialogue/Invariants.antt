use Rattle.std.proofs.Common.{◌-◌}
use Rattle.std.specs.Io.Buffered.{reader_remaining}
use Rattle.durable.proofs.DialogueLemmas.{Goes}
use Rattle.durable.proofs.RunLemmas.{World}
use Rattle.durable.proofs.dialogue.run_dialogue.Given as goal

abbrev pub invariant-lines : goal.invariant-lines
invariant-lines g l =
    let w : World _ _ _ = record {
      runs = g.S.Session.runs;
      contents = g.W.Write.contents;
      seen = g.D.Disk.seen;
      may_leave = g.D.Disk.may_leave;
      moment = g.D.Disk.moment;
      left_since = g.D.Disk.left_since;
      faults = g.D.Disk.faults;
      counts_now = g.met.D.Disk.counts_now;
      only_now = g.met.D.Disk.only_now;
    } in
    Goes w l.fn.session l.fn.outbox (reader_remaining g.R.Read.remaining l.fn.reader) (reader_remaining g.R.Read.remaining l.reader) l.session l.outbox l.number

abbrev pub decreases-lines : goal.decreases-lines
decreases-lines g l = 18446744073709551615 - l.number
