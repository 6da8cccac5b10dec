use Rattle.std.proofs.Common.{Some, ap, sym, subst, ◌∙◌}
use Rattle.web_uris.specs.Joined.{IsWebUri}
use Rattle.repository.proofs.ResourceLemmas.{as_uri}
use Rattle.repository.proofs.repository.Repository.create_resource.Goals as goal

pub returns-in_ok-uri-in-Ok : goal.returns-in_ok-uri-in-Ok
returns-in_ok-uri-in-Ok g c =
    let short = sym c.is_short_text.ensures ∙ c.if-not-is_short_text.false in
    let is = c.in_ok-uri-in-Ok.ensures.text in
    as_uri c.args.self.now c.args.text.now c.in_ok-uri-in-Ok.uri short (c.in-Ok.ensures.joins ∙ ap Some (sym is)) (subst IsWebUri (sym is) c.in-Ok.ensures.web) _ _ c.change.ensures
