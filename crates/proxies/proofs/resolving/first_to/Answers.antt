use Rattle.std.proofs.Common.{sym, subst, ◌∙◌, ◌≤◌, ℕ}
use Rattle.models.specs.Model.{reading}
use Rattle.proxies.proofs.TargetLemmas.{first-found, first-lacking, none-leads}
use Rattle.proxies.proofs.resolving.first_to.Goals as goal

pub loop-index-init : goal.loop-index-init
loop-index-init g c = none-leads (reading c.args.model.now) c.args.node c.args.end c.proxy_start-index.result c.proxy_start-index.ensures

pub returns-then-branch : goal.returns-then-branch
returns-then-branch g c =
    first-found (reading c.args.model.now) c.args.node c.args.end c.loop-index.index (sym c.in_ok-leads_to.ensures ∙ c.if-branch.true) c.loop-index.invariant

pub returns : goal.returns
returns g c =
    first-lacking (reading c.args.model.now) c.args.node c.args.end c.loop-index.index (subst (λ (n : ℕ). n ≤ c.loop-index.index) c.len-index-end.ensures c.loop-index-test.false) c.loop-index.invariant
