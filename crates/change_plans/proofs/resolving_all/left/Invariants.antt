use Rattle.std.proofs.Common.{◌≡◌, ◌≤◌, filter, length, not, take}
use Rattle.proxies.specs.Keys.{has, key_of}
use Rattle.change_plans.proofs.resolving_all.left.Given as goal

-- the number of proxies that are left among the leads so far
abbrev pub invariant-leads : goal.invariant-leads
invariant-leads l = (l.left ≡ length (filter (λ x. not (has l.gone (key_of x.site))) (take l.lead-index l.leads))) × (l.left ≤ l.lead-index)
