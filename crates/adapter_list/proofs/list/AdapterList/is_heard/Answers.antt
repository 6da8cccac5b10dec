use Rattle.std.proofs.Common.{rules, ◌||◌, ℕ, List, true, not, length, nat_eq, sym, ap, ◌∙◌}
use Rattle.std.specs.List.{list_any}
use Rattle.std.proofs.lemmas.List.Elements.{recursion_from_All}
use Rattle.links.specs.Holders.{above}
use Rattle.adapter_list.specs.Hearing.{hears_node}
use Rattle.adapter_list.specs.Targets.{IsOnce, is_attached}
use Rattle.adapter_list.proofs.HeardLemmas.{heard-anywhere, some-ordinal}
use Rattle.adapter_list.proofs.PlaceLemmas.{known-same}
use Rattle.adapter_list.proofs.list.AdapterList.is_heard.Goals as goal

pub returns-then-eq : goal.returns-then-eq
returns-then-eq g c =
    let up = above (g.L.LinkStore.links c.args.store.now) in
    let rs = c.args.self.now.0 in
    let known = known-same up rs c.args.known.now.node c.in-Some.last c.args.node c.args.known.now.ordinals.items c.requires.known c.in-Some.is (search rules) in
    ap not (c.is_empty.ensures ∙ ap (λ (ks : List ℕ). nat_eq (length ks) 0) (c.as_slice.ensures.value ∙ known)) ∙ some-ordinal (hears_node up c.args.node) 0 rs

pub returns-then-has_attached : goal.returns-then-has_attached
returns-then-has_attached g c =
    let up = above (g.L.LinkStore.links c.args.store.now) in
    let rs = c.args.self.now.0 in
    c.if-has_attached.true
    ∙ sym (ap (λ b. b || list_any (λ a. list_any (is_attached a true) rs) (up c.args.node)) (sym c.has_attached.ensures ∙ c.if-has_attached.true))
    ∙ sym (heard-anywhere up c.args.node rs (recursion_from_All IsOnce rs c.lemma_keeps_rules.ensures.once))

pub returns-else-has_attached : goal.returns-else-has_attached
returns-else-has_attached g c =
    let up = above (g.L.LinkStore.links c.args.store.now) in
    let rs = c.args.self.now.0 in
    c.has_deep_above.ensures
    ∙ sym (ap (λ b. b || list_any (λ a. list_any (is_attached a true) rs) (up c.args.node)) (sym c.has_attached.ensures ∙ c.if-has_attached.false))
    ∙ sym (heard-anywhere up c.args.node rs (recursion_from_All IsOnce rs c.lemma_keeps_rules.ensures.once))
