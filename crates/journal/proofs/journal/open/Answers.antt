use Rattle.std.proofs.Common.{◌∙◌, ap, refl, subst, sym}
use Rattle.journal.specs.Lines.{AreEntries, recovered_lines}
use Rattle.journal.proofs.EntryLemmas.{recovered_lines-at_rest, recovered_lines-lines}
use Rattle.journal.proofs.JournalLemmas.{settled}
use Rattle.journal.proofs.journal.open.Goals as goal

pub returns-clause-settled : goal.returns-clause-settled
returns-clause-settled g c =
    let k = g.D.Disk in
    let bytes = c.args.bytes.now in
    (settled k.seen k.may_leave _ (recovered_lines bytes) (recovered_lines-lines bytes) c.in_default.ensures.at_rest c.entries_len-end.ensures.len c.in_default.ensures.durable
    (subst AreEntries (sym c.new.ensures.items) refl)).0

pub returns-clause-kept : goal.returns-clause-kept
returns-clause-kept g c =
    let bytes = c.args.bytes.now in
    ap recovered_lines c.in_default.ensures.at_rest ∙ recovered_lines-at_rest (recovered_lines bytes) (recovered_lines-lines bytes)
