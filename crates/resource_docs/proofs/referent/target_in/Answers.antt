use Rattle.std.proofs.Common.{◌∙◌, subst, sym, true≢false}
use Rattle.std.proofs.lemmas.Slice.Eq.{bytes_eq-Decides}
use Rattle.web_uris.specs.Addresses.{IsSteadyProxy}
use Rattle.web_uris.proofs.AddressFacts.{steady_proxy}
use Rattle.resource_docs.proofs.referent.target_in.Goals as goal

pub returns-clause-proxy : goal.returns-clause-proxy
returns-clause-proxy c = λ web parsed.
    subst IsSteadyProxy (sym (c.in_ok-text.ensures.text ∙ c.in_ok-address.ensures))
    (steady_proxy c.args.meant.now c.args.rest.now c.args.path
    (web (λ same. true≢false (sym ((bytes_eq-Decides c.args.meant.now c.args.uri.now).1 same) ∙ sym c.eq.ensures ∙ c.if-eq.false))) parsed)
