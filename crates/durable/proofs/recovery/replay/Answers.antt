use Rattle.std.proofs.Common.{◌≡◌, false, rules, true}
use Rattle.journal.specs.Lines.{recovered_lines}
use Rattle.durable.specs.Printed.{is_kept, is_lost}
use Rattle.durable.proofs.TwinLemmas.{refuses, replays}
use Rattle.durable.proofs.recovery.replay.Goals as goal

pub lines-preserved : goal.lines-preserved
lines-preserved g c =
    let all = recovered_lines c.args.file.now in
    let so_far = c.lines.invariant in
    let is : is_kept c.in_ok-turn.turn ≡ true = search rules in
    replays g.S.Session.runs c.args.session.now all c.lines.session c.lines.rest.now c.in-Some.line.now c.in-Some.more.now so_far c.in-Some.ensures _ c.answer.new.self
    c.in_ok-turn.ensures.ran is

pub returns-then-not-is_kept-clause-refused : goal.returns-then-not-is_kept-clause-refused
returns-then-not-is_kept-clause-refused g c =
    let all = recovered_lines c.args.file.now in
    let so_far = c.lines.invariant in
    let is : is_kept c.in_ok-turn.turn ≡ false = search rules in
    let not_lost : is_lost c.in_ok-turn.turn ≡ false = search rules in
    λ _. refuses g.S.Session.runs c.args.session.now all c.lines.session c.lines.rest.now c.in-Some.line.now c.in-Some.more.now so_far c.in-Some.ensures _ c.answer.new.self
    c.in_ok-turn.ensures.ran is not_lost
