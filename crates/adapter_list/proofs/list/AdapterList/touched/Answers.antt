use Rattle.std.proofs.Common.{◌≡◌, ◌||◌, false, ℕ, List, ap, ◌∙◌}
use Rattle.std.specs.BTreeSet.{contains}
use Rattle.std.specs.List.{list_any}
use Rattle.std.specs.Ordering.{is_eq, nat_cmp}
use Rattle.mm_types.specs.declared.numbers.Node.TheVariants as node
use Rattle.adapter_list.specs.Targets.{is_attached_at}
use Rattle.adapter_list.proofs.PlaceLemmas.{places-touched_indexes}
use Rattle.adapter_list.proofs.list.AdapterList.touched.Goals as goal

pub returns : goal.returns
returns g c =
    let rs = c.args.self.now.0 in
    let os = c.args.objects.now in
    let has : (k : ℕ) → contains nat_cmp c.add_objects.new.ordinals k ≡ list_any (λ o. is_attached_at rs (node.Object o) false k) os =
    λ k. c.in_ok-add_objects.ensures k ∙ ap (λ (ks : List ℕ). list_any (λ y. is_eq (nat_cmp k y)) ks || list_any (λ o. is_attached_at rs (node.Object o) false k) os) c.new-ordinals.ensures.empty in
    c.in_ok-found.ensures.items ∙ places-touched_indexes os rs c.add_objects.new.ordinals c.in_ok-found.ensures.order has
