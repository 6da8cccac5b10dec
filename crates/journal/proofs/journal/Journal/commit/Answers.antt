use Rattle.std.proofs.Common.{◌+◌, ◌++◌, ◌-◌, ◌∙◌, ◌≡◌, List, ap, length, refl, subst, sym, ℕ}
use Rattle.journal.specs.Disk.{LeavesOnly}
use Rattle.journal.specs.Journal.{IsBeforeOrAfter, journal_lines}
use Rattle.journal.specs.Lines.{AreEntries, at_rest, recovered_lines}
use Rattle.journal.proofs.EntryLemmas.{recovered_lines-at_rest, recovered_lines-lines}
use Rattle.journal.proofs.JournalLemmas.{end_after, lines_both, recovered_lines-append-newline, settled, text_at_rest}
use Rattle.journal.proofs.journal.Journal.commit.Goals as goal

pub append-requires-clause-text : goal.append-requires-clause-text
append-requires-clause-text g c =
    let pending = c.args.self.now.pending.items in
    let text_is = c.deref.ensures.value ∙ c.in_ok-push.ensures.items in
    subst (λ (t : List ℕ). t ≡ at_rest (recovered_lines t)) (sym text_is) (text_at_rest pending c.requires.pending)

pub returns-in_err-append-clause-any_moment : goal.returns-in_err-append-clause-any_moment
returns-in_err-append-clause-any_moment g c =
    let k = g.D.Disk in
    let pending = c.args.self.now.pending.items in
    let noted_is = ap recovered_lines (c.deref.ensures.value ∙ c.in_ok-push.ensures.items) ∙ recovered_lines-append-newline pending c.requires.pending in
    subst (λ (more : List (List ℕ)). LeavesOnly k.moment k.left_since c.args.self.now.disk c.append.new.disk (IsBeforeOrAfter (journal_lines k.seen c.args.self.now) more))
    noted_is c.append.ensures.any_moment

pub returns-clause-settled : goal.returns-clause-settled
returns-clause-settled g c =
    let s = c.requires in
    let k = g.D.Disk in
    let text = c.deref.result.now in
    let text_is = c.deref.ensures.value ∙ c.in_ok-push.ensures.items in
    let len_is : c.len.result ≡ length text = c.len.ensures ∙ sym c.deref.ensures.len in
    let ends = ap (λ (n : ℕ). c.args.self.now.end + (n - 1)) len_is ∙ end_after (journal_lines k.seen c.args.self.now) c.args.self.now.pending.items text c.args.self.now.end s.pending text_is s.end in
    let plain = lines_both _ _ (recovered_lines-lines (k.seen c.args.self.now.disk)) (recovered_lines-lines text) in
    (settled k.seen k.may_leave _ (journal_lines k.seen c.args.self.now ++ recovered_lines text) plain c.in_ok-append.ensures.written ends c.in_ok-append.ensures.durable
    (subst AreEntries (sym c.clear.ensures.items) refl)).0

pub returns-clause-kept : goal.returns-clause-kept
returns-clause-kept g c =
    let s = c.requires in
    let k = g.D.Disk in
    let text = c.deref.result.now in
    let text_is = c.deref.ensures.value ∙ c.in_ok-push.ensures.items in
    let noted_is = ap recovered_lines text_is ∙ recovered_lines-append-newline c.args.self.now.pending.items s.pending in
    ap recovered_lines c.in_ok-append.ensures.written
    ∙ recovered_lines-at_rest (journal_lines k.seen c.args.self.now ++ recovered_lines text) (lines_both _ _ (recovered_lines-lines (k.seen c.args.self.now.disk)) (recovered_lines-lines text))
    ∙ ap (λ (more : List (List ℕ)). journal_lines k.seen c.args.self.now ++ more) noted_is

pub returns-clause-any_moment : goal.returns-clause-any_moment
returns-clause-any_moment g c =
    let k = g.D.Disk in
    let pending = c.args.self.now.pending.items in
    let noted_is = ap recovered_lines (c.deref.ensures.value ∙ c.in_ok-push.ensures.items) ∙ recovered_lines-append-newline pending c.requires.pending in
    subst (λ (more : List (List ℕ)). LeavesOnly k.moment k.left_since c.args.self.now.disk c.append.new.disk (IsBeforeOrAfter (journal_lines k.seen c.args.self.now) more))
    noted_is c.append.ensures.any_moment
