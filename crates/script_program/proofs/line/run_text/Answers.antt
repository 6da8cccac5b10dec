use Rattle.std.proofs.Common.{◌≡◌, ◌∙◌, sym, subst}
use Rattle.script_lines.specs.Forms.{text_line}
use Rattle.script_lines.specs.declared.line.Line.TheVariants as line
use Rattle.script_program.specs.Bind.{IsGiven}
use Rattle.script_program.specs.Session.{Session, session}
use Rattle.script_program.proofs.SessionLemmas.{bind-given}
use Rattle.script_program.proofs.LeftLemmas.{unchanged}
use Rattle.script_program.proofs.line.run_text.Goals as goal

pub returns-in-Form-clause-ok : goal.returns-in-Form-clause-ok
returns-in-Form-clause-ok g c =
    let s : Session = session c.args.repository.now c.args.pool.now in
    let asked : text_line c.args.text.now ≡ line.Form c.in-Form.form = sym c.in_ok-text_line_of.ensures ∙ c.in-Form.is in
    let given = subst (IsGiven s.pool) (sym c.bind-request.ensures.request) (bind-given s c.in-Form.form) in
    rw (asked, ← c.bind-request.ensures.request) (c.run_request.ensures.ok s.pool c.bind-request.ensures.pool given)

pub returns-in-Bad-clause-ok : goal.returns-in-Bad-clause-ok
returns-in-Bad-clause-ok g c =
    let asked : text_line c.args.text.now ≡ line.Bad = sym c.in_ok-text_line_of.ensures ∙ c.in-Bad.is in
    rw asked (c.print_bad.ensures (session c.args.repository.now c.args.pool.now))

pub returns-in-Form-clause-left : goal.returns-in-Form-clause-left
returns-in-Form-clause-left g c =
    let asked : text_line c.args.text.now ≡ line.Form c.in-Form.form = sym c.in_ok-text_line_of.ensures ∙ c.in-Form.is in
    rw (asked, ← c.bind-request.ensures.request) (c.run_request.ensures.left c.args.pool.now)

pub returns-in-Bad-clause-left : goal.returns-in-Bad-clause-left
returns-in-Bad-clause-left g c = unchanged c.print_bad.result _ c.args.repository.now

pub returns-in-Some-clause-left : goal.returns-in-Some-clause-left
returns-in-Some-clause-left g c = rw c.in-Some.ensures c.run_load.ensures.left
