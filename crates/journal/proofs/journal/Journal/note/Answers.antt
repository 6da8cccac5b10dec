use Rattle.std.proofs.Common.{◌∙◌, ap, subst, sym}
use Rattle.journal.specs.Lines.{AreEntries, recovered_lines}
use Rattle.journal.proofs.JournalLemmas.{entries_more, recovered_lines-append-entry}
use Rattle.journal.proofs.journal.Journal.note.Goals as goal

pub returns-in-Ok-clause-ok : goal.returns-in-Ok-clause-ok
returns-in-Ok-clause-ok g c =
    ap recovered_lines c.in-Ok.ensures.ok
    ∙ recovered_lines-append-entry c.args.self.now.pending.items c.args.line.now c.requires.settled.pending c.requires.line

pub returns-in-Ok-clause-settled : goal.returns-in-Ok-clause-settled
returns-in-Ok-clause-settled g c =
    let s = c.requires.settled in
    record {
      file = s.file;
      end = s.end;
      durable = s.durable;
      pending = subst AreEntries (sym c.in-Ok.ensures.ok) (entries_more c.args.self.now.pending.items c.args.line.now s.pending c.requires.line);
    }
