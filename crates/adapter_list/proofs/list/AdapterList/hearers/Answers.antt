use Rattle.std.proofs.Common.{◌≡◌, ◌||◌, true, false, ℕ, List, ap, ◌∙◌}
use Rattle.std.specs.BTreeSet.{contains}
use Rattle.std.specs.List.{list_any}
use Rattle.std.specs.Ordering.{is_eq, nat_cmp}
use Rattle.std.proofs.lemmas.List.Elements.{recursion_from_All}
use Rattle.links.specs.Holders.{above}
use Rattle.adapter_list.specs.Hearing.{hearers}
use Rattle.adapter_list.specs.Targets.{IsOnce, is_attached_at}
use Rattle.adapter_list.proofs.HearingLemmas.{within-hearers}
use Rattle.adapter_list.proofs.PlaceLemmas.{once-there, places-hearers}
use Rattle.adapter_list.proofs.list.AdapterList.hearers.Goals as goal

pub returns : goal.returns
returns g c =
    let up = above (g.L.LinkStore.links c.args.store.now) in
    let rs = c.args.self.now.0 in
    let x = c.args.node in
    let has : (k : ℕ) → contains nat_cmp c.add_above.new.ordinals k ≡ (is_attached_at rs x false k || list_any (λ a. is_attached_at rs a true k) (up x)) =
    λ k. c.in_ok-add_above.ensures k
    ∙ ap (λ b. b || list_any (λ a. is_attached_at rs a true k) (up x)) (c.in_ok-add_attached.ensures k ∙ ap (λ (ks : List ℕ). list_any (λ y. is_eq (nat_cmp k y)) ks || is_attached_at rs x false k) c.new-ordinals.ensures.empty) in
    let are : c.in_ok-found.found.items ≡ hearers up x rs = c.in_ok-found.ensures.items ∙ places-hearers up x rs c.add_above.new.ordinals c.in_ok-found.ensures.order (λ k. once-there rs k (recursion_from_All IsOnce rs c.lemma_keeps_rules.ensures.once)) has in
    record { hearers = are; within = within-hearers up x c.in_ok-found.found.items rs are }
