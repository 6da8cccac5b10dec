use Rattle.std.proofs.Common.{rules}
use Rattle.script_program.specs.Bind.{request_view}
use Rattle.script_program.specs.Session.{session}
use Rattle.script_program.proofs.LeftLemmas.{as_request, unchanged}
use Rattle.script_program.proofs.line.run_request.Goals as goal

pub returns-in-Execute-Read-At-default-Get-clause-ok : goal.returns-in-Execute-Read-At-default-Get-clause-ok
returns-in-Execute-Read-At-default-Get-clause-ok g c =
    λ before out given.
    let get = c.in-Execute-Read-At-default-Get in
    rw (get.is, get.field-0-is, get.field-0-0-is, get.field-0-0-1-is, (rw (get.is, get.field-0-is) at out)) (c.run_get.ensures before)

pub returns-in-Seen-clause-ok : goal.returns-in-Seen-clause-ok
returns-in-Seen-clause-ok g c = λ before out given. rw (c.in-Seen.is, (rw c.in-Seen.is at out)) (c.run_seen.ensures before)

pub returns-in-Refuse-clause-ok : goal.returns-in-Refuse-clause-ok
returns-in-Refuse-clause-ok g c = λ before out given. rw (c.in-Refuse.is, (rw c.in-Refuse.is at out)) (c.print_as_refused.ensures (session c.args.repository.now before))

-- ---- nothing was changed

pub returns-in-Execute-Read-At-default-Get-clause-left : goal.returns-in-Execute-Read-At-default-Get-clause-left
returns-in-Execute-Read-At-default-Get-clause-left g c = λ before. unchanged c.run_get.result _ c.args.repository.now

pub returns-in-Seen-clause-left : goal.returns-in-Seen-clause-left
returns-in-Seen-clause-left g c = λ before. unchanged c.run_seen.result _ c.args.repository.now

pub returns-in-Refuse-clause-left : goal.returns-in-Refuse-clause-left
returns-in-Refuse-clause-left g c = λ before. unchanged c.print_as_refused.result _ c.args.repository.now

pub returns-in-Execute-clause-left : goal.returns-in-Execute-clause-left
returns-in-Execute-clause-left g c = λ before.
    as_request c.run_command.result (session c.args.repository.now before) _ (request_view g.A.Adapter.heard c.args.request) _ _ (c.run_command.ensures.left before) (search rules)
