-- The end that is the holder of a node has the node.
use Rattle.std.proofs.Common.{◌≡◌, ℕ, true, false, Option, Some, None, if◌then◌else◌, refl, sym, ap, ◌∙◌, subst}
use Rattle.std.specs.Prelude.{◌&&◌}
use Rattle.std.specs.List.{slice_get}
use Rattle.std.proofs.lemmas.Bool.{and_parts}
use Rattle.std.proofs.lemmas.Option.{none-some}
use Rattle.links.proofs.HolderLemmas.{holder-some, indexed_held, test_some}
use Rattle.links.proofs.PlaceLemmas.{same_feature-true}
use Rattle.links.specs.Holders.{far_holding, held_through, holder, is_far_node}
use Rattle.links.specs.LegalSets.{AreKinds, AreOfKind, FarOfKind, IsLegalSet, Kinds}
use Rattle.links.specs.Links.{In, Links, end}
use Rattle.links.specs.declared.link.Far.TheVariants.{At, Alone, Proxy}
use Rattle.links.specs.declared.link.Far.{Far}
use Rattle.links.specs.declared.link.Link.{Link}
use Rattle.mm_types.specs.Same.{node_value, same_feature, same_node}
use Rattle.mm_types.specs.declared.end.End.{End}
use Rattle.mm_types.specs.declared.numbers.FeatureNo.{FeatureNo}
use Rattle.mm_types.specs.declared.numbers.Node.{Node}

module _ (kinds : Kinds) (ok : AreKinds kinds) (t : Links) (legal : IsLegalSet t) (kt : AreOfKind kinds t) where
  far_holds : (l : Link) (x : Node) (d : End) (h : FeatureNo) → In l t → kinds.container l.end.feature ≡ Some h → (f : Far) → l.far ≡ f → far_holding f h l.end.node x ≡ Some d → kinds.container d.feature ≡ Some d.feature
  far_holds l x d h has of (At e j) fl at =
      let r = test_some (same_feature e.feature h && same_node l.end.node x) e d at in
      let is = same_feature-true e.feature h (and_parts (same_feature e.feature h) (same_node l.end.node x) r.0).0 in
      let kind = subst (λ (f : Far). FarOfKind kinds l.end.feature f) fl (kt l has).far in
      subst (λ (y : End). kinds.container y.feature ≡ Some y.feature) r.1 (sym (ok.one_container l.end.feature e.feature kind.0) ∙ of ∙ ap Some (sym is))
  far_holds l x d h has of (Alone o) fl at = absurd (none-some d at)
  far_holds l x d h has of (Proxy p) fl at = absurd (none-some d at)

  holds : (l : Link) (x : Node) (d : End) → In l t → (c : Option FeatureNo) → kinds.container l.end.feature ≡ c → held_through c l x ≡ Some d → kinds.container d.feature ≡ Some d.feature
  holds l x d has None of at = absurd (none-some d at)
  holds l x d has (Some h) of at =
      elim (same_feature l.end.feature h) as (λ b. same_feature l.end.feature h ≡ b → (if b then (if is_far_node l.far x then Some l.end else None) else far_holding l.far h l.end.node x) ≡ Some d → kinds.container d.feature ≡ Some d.feature) [
        | true ↦ λ is q.
            let r = test_some (is_far_node l.far x) l.end d q in
            subst (λ (y : End). kinds.container y.feature ≡ Some y.feature) r.1 (of ∙ ap Some (sym (same_feature-true l.end.feature h is)))
        | false ↦ λ is q. far_holds l x d h has of l.far refl q
      ] refl at

  pub holder_end : (x : Node) (d : End) → holder t x ≡ Some d → (k : ℕ) × (slice_get (end t d) k ≡ Some (node_value x)) × (kinds.container d.feature ≡ Some d.feature)
  holder_end x d h =
      let r = holder-some t x d h in
      let p = indexed_held r.0 x d (legal.placed.sides r.0 r.1) r.2 in
      (p.0, (legal.placed.ends d).has p.0 (node_value x) (r.0, r.1, p.1), holds r.0 x d r.1 r.0.container (sym (kt r.0 r.1).container) r.2)
