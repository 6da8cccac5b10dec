-- What a proxy finds in a model that is one without proxies, partly resolved: its object and, if the reference has an opposite, the proxy
-- of the same link. So nothing refuses to resolve it.
use Rattle.std.proofs.Common.{◌≡◌, ◌∙◌, ℕ, Bool, true, false, ◌&&◌, ◌||◌, not, List, Option, Some, None, is_some, length, nat_lt, slice_get, if◌then◌else◌, arith, refl, sym, ap}
use Rattle.std.specs.Prelude.{option_and_then, option_map}
use Rattle.std.specs.Option.{option_map_or}
use Rattle.std.proofs.lemmas.Bool.{false≢true, true≢false}
use Rattle.std.proofs.lemmas.Bool.Decides.{nat_tests}
use Rattle.std.proofs.lemmas.Option.{none-some, same_Some, slice_get_within}
use Rattle.mm_types.specs.Conditions.{◌unless◌, ◌where_so◌, ◌else_by◌}
use Rattle.mm_types.specs.Ends.{has_value, index_in}
use Rattle.mm_types.specs.Lookups as lookups
use Rattle.mm_types.specs.Same.{same_node}
use Rattle.mm_types.specs.Shapes.{shape}
use Rattle.mm_types.specs.declared.end.End.{End}
use Rattle.mm_types.specs.declared.numbers.FeatureNo.{FeatureNo}
use Rattle.mm_types.specs.declared.numbers.Node.{Node}
use Rattle.mm_types.specs.declared.numbers.Node.TheVariants as node
use Rattle.mm_types.specs.declared.numbers.ObjectNo.{ObjectNo}
use Rattle.mm_types.specs.declared.numbers.ResourceNo.{ResourceNo}
use Rattle.mm_types.specs.declared.refused.Refused.TheVariants.{NoObject, NoResource, NoFeature, WrongType, Index, Duplicate, NotProxy, Unloaded, Unresolved, Unmatched}
use Rattle.mm_types.specs.declared.value.Value.{Value}
use Rattle.mm_types.specs.declared.value.Value.TheVariants as value
use Rattle.mm_types.proofs.SameLemmas.{same_node-self, same_node-true}
use Rattle.mm_values.specs.Values.{ValuesState, class_of}
use Rattle.web_uris.specs.Addresses.{fragment_part, has_mark, uri_part}
use Rattle.links.specs.Links.{Links, end, far_end, text_of}
use Rattle.models.specs.Legal.{IsLegal}
use Rattle.models.specs.Model.{Model, model_of, reading, values_at}
use Rattle.models.specs.Reading.{at_end, has_feature, has_uri, is_live, resource_named, takes}
use Rattle.models.proofs.PlaceLemmas.{has-at, index-at}
use Rattle.models.proofs.ReadLemmas.{resource-there}
use Rattle.containment.proofs.PartLemmas.{legal-at, takes-same, values-linked}
use Rattle.fragment_paths.proofs.StayLemmas.{address-finds}
use Rattle.fragment_paths.specs.Finding.{at, found_by}
use Rattle.fragment_paths.specs.Fragments.{address}
use Rattle.round_trip.proofs.ValuesListLemmas.{stands}
use Rattle.handshake.specs.Refusals.{early_refusal, late_refusal}
use Rattle.proxies.specs.Refusals.{is_mistyped, target_refusal}
use Rattle.proxies.specs.Resolving.{counterpart, first_to, is_unmatched, leads_to, proxy_at, target, target_at}
use Rattle.handshake.specs.declared.change.Change.TheVariants.{At}
use Rattle.handshake.specs.declared.act.Act.TheVariants.{Resolve}
use Rattle.proxies.specs.declared.resolved_proxy.Counterpart.{Counterpart}
use Rattle.proxies.proofs.TargetLemmas.{leads-proxy}
use Rattle.reloading.specs.Addressed.{By, meant_value}
use Rattle.reloading.specs.Alike.{HasSame}
use Rattle.reloading.specs.Between.{Between}
use Rattle.reloading.specs.Proxies.{HasNoProxy}
use Rattle.reloading.proofs.MeaningLemmas.{IsFrom, back-at, found-of, from-of, one-place, owner-live}
use Rattle.doc_writer.proofs.PlainLemmas.{reference-of}
use Rattle.doc_loader.proofs.MadeLemmas.{first-at}

---------------------------------------------------------------- the first that passes a test

---------------------------------------------------------------- a proxy

-- a proxy that is left: s has no proxies, t is s partly resolved, and the proxy is in t
pub record LeftProxy : Type 0 where
  pub s : Model
  pub w : ValuesState
  pub c : Links
  pub legal : IsLegal s
  pub other : IsLegal (model_of s.metamodel w c)
  pub none : HasNoProxy (reading s)
  pub between : Between (reading s) (reading (model_of s.metamodel w c))
  pub p : ObjectNo
  pub f : FeatureNo
  pub i : ℕ
  pub text : List ℕ
  pub here : slice_get (values_at (model_of s.metamodel w c) (at_end (node.Object p) f)) i ≡ Some (value.Proxy text)

-- the model of the proxy, and its end
abbrev pub place : LeftProxy → record { t : Model; e : End }
place left = record { t = model_of left.s.metamodel left.w left.c; e = at_end (node.Object left.p) left.f }

module _ (left : LeftProxy) where
  open left use {s, w, c, legal, other, none, between, p, f, i, text, here}
  open place left use {t, e}

  pub reference : (shape s.metamodel f).is_reference ≡ true
  reference = reference-of t other e i (value.Proxy text) here refl

  abbrev owned : (is_live (reading (model_of s.metamodel w c)) p ≡ true) × (has_feature (reading (model_of s.metamodel w c)) (node.Object p) f ≡ true)
  owned = owner-live s w c legal other none between p f i (value.Proxy text) reference here

  pub live : is_live (reading t) p ≡ true
  live = owned.0

  pub has : has_feature (reading t) (node.Object p) f ≡ true
  has = owned.1

  -- the object as which the owner was saved, and the value that it had there
  pub from : IsFrom s w c legal other none between p
  from = from-of s w c legal other none between p live

  abbrev was : (b : ObjectNo) × (slice_get (values_at s (at_end (node.Object from.object) f)) i ≡ Some (value.Object b)) × (address (reading s) b ≡ Some text)
  was = back-at s w c legal other none from.object p from.same f i (value.Proxy text) text here refl

  pub aim : ObjectNo
  aim = was.0

  pub aim-there : slice_get (values_at s (at_end (node.Object from.object) f)) i ≡ Some (value.Object aim)
  unfolding aim
  aim-there = was.1

  pub aim-at : address (reading s) aim ≡ Some text
  unfolding aim
  aim-at = was.2

  -- the object at its address
  abbrev met : (q : ObjectNo) × (address (reading (model_of s.metamodel w c)) q ≡ Some text) × (at (reading (model_of s.metamodel w c)) text ≡ Some q) × HasSame meant_value (reading s) (reading (model_of s.metamodel w c)) aim q
  met = found-of s w c legal other none between aim text aim-at

  pub goal : ObjectNo
  goal = met.0

  pub goal-at : address (reading t) goal ≡ Some text
  unfolding goal
  goal-at = met.1

  pub goal-found : at (reading t) text ≡ Some goal
  unfolding goal
  goal-found = met.2

  pub goal-same : HasSame meant_value (reading s) (reading t) aim goal
  unfolding goal
  goal-same = met.3

  pub goal-target : target_at (reading t) e i ≡ Some (target (reading t) e goal)
  goal-target = ap (λ (q : Option Value). option_map (target (reading t) e) (option_and_then (at (reading t)) (option_and_then text_of q))) here ∙ ap (option_map (target (reading t) e)) goal-found

  ---------------------------------------------------------------- its match

  -- the proxy of the same link at the opposite end is the proxy of the owner
  pub record IsMatched (g : FeatureNo) : Type 0 where
    pub index : ℕ
    pub found : counterpart (reading t) e goal ≡ Some (record { end = far_end goal g; index = index })
    pub proxy : slice_get (values_at t (far_end goal g)) index ≡ Some (value.Proxy from.text)

  pub matched : (g : FeatureNo) → (shape s.metamodel f).opposite ≡ Some g → IsMatched g
  matched g pair =
      let d = far_end goal g in
      let q = reading t in
      let both = between.pairs f g from.object aim p goal from.text text pair (stands (values_at s (at_end (node.Object from.object) f)) i (value.Object aim) aim-there) from.was aim-at from.now goal-at in
      let has_far : has_value (values_at t d) (value.Proxy from.text) ≡ true = sym both ∙ has-at (values_at t e) (value.Proxy text) i here in
      let k = index_in (values_at t d) (value.Proxy from.text) in
      let leads : leads_to q (node.Object p) (value.Proxy from.text) ≡ true =
      ap (λ (x : Option ObjectNo). option_map_or (λ o. same_node (node.Object o) (node.Object p)) x false) (address-finds t other p from.text from.now) ∙ same_node-self (node.Object p) in
      let first = first-at (leads_to q (node.Object p)) (values_at t d) k (value.Proxy from.text) (index-at (values_at t d) (value.Proxy from.text) has_far) leads in
      let u = leads-proxy q (node.Object p) first.1 first.4 in
      record {
        index = first.0;
        found = ap (λ (x : Option FeatureNo). option_and_then (first_to q (node.Object p)) (option_map (far_end goal) x)) pair ∙ ap (option_map (λ j. record { end = d; index = j })) first.2;
        proxy = first.3 ∙ ap (λ (x : Value). Some x) (u.1 ∙ ap value.Proxy (own-text g u.0 first.0 (first.3 ∙ ap (λ (x : Value). Some x) u.1) (ap (leads_to q (node.Object p)) (sym u.1) ∙ first.4)));
      }
    where
      node-object : (x : ObjectNo) → node.Object x ≡ node.Object p → x ≡ p
      node-object x same = ap (λ (n : Node). elim n [ node.Object y ↦ y | node.Resource k ↦ p ]) same

      led : (x : Option ObjectNo) → option_map_or (λ o. same_node (node.Object o) (node.Object p)) x false ≡ true → x ≡ Some p
      led None h = absurd (false≢true h)
      led (Some o) h = ap (λ (y : ObjectNo). Some y) (node-object o (same_node-true (node.Object o) (node.Object p) h))

      -- a proxy there that leads to the owner has the owner's address
      own-text : (g : FeatureNo) (u : List ℕ) (j : ℕ) → slice_get (values_at t (far_end goal g)) j ≡ Some (value.Proxy u) → leads_to (reading t) (node.Object p) (value.Proxy u) ≡ true → u ≡ from.text
      own-text g u j there leads =
          let b = back-at s w c legal other none aim goal goal-same g j (value.Proxy u) u there refl in
          let x = found-of s w c legal other none between b.0 u b.2 in
          let own : x.0 ≡ p = same_Some x.0 p (sym x.2 ∙ led (at (reading t) u) leads) in
          same_Some u from.text (sym (sym (ap (address (reading t)) own) ∙ x.1) ∙ from.now)

  pub unmatched-never : is_unmatched (reading t) e (target (reading t) e goal) ≡ false
  unmatched-never = by (shape s.metamodel f).opposite refl
    where
      by : (x : Option FeatureNo) → (shape s.metamodel f).opposite ≡ x → (is_some x && not (is_some (counterpart (reading t) e goal))) ≡ false
      by None is = refl
      by (Some g) is = ap (λ (y : Option Counterpart). not (is_some y)) (matched g is).found

  ---------------------------------------------------------------- nothing refuses it

  aim-linked : slice_get (end s.links (at_end (node.Object from.object) f)) i ≡ Some (value.Object aim)
  aim-linked = ap (λ (vs : List Value). slice_get vs i) (sym (values-linked s (at_end (node.Object from.object) f) reference)) ∙ aim-there

  goal-taken : takes (reading t) f (value.Object goal) ≡ true
  goal-taken =
      takes-same s.metamodel (class_of w) (class_of s.values) f goal aim goal-same.class
      ∙ (legal-at (reading s) (at_end (node.Object from.object) f) (end s.links (at_end (node.Object from.object) f)) i (value.Object aim) (legal.links.ends (at_end (node.Object from.object) f)) aim-linked).1

  -- the end does not have the object yet
  pub absent : has_value (values_at t e) (value.Object goal) ≡ false
  absent =
      elim (has_value (values_at t e) (value.Object goal)) as (λ b. has_value (values_at t e) (value.Object goal) ≡ b → b ≡ false) [
        | true ↦ λ h.
            let k = index_in (values_at t e) (value.Object goal) in
            let at_k = index-at (values_at t e) (value.Object goal) h in
            let place = one-place s w c legal other none from.object p from.same f k i (value.Object goal) (value.Proxy text) text reference at_k (ap By goal-at) here refl in
            let clash : value.Object goal ≡ value.Proxy text = same_Some _ _ (sym at_k ∙ ap (slice_get (values_at t e)) place ∙ here) in
            absurd (true≢false (ap lookups.is_object clash))
        | false ↦ λ _. refl
      ] refl

  uri-there : has_uri (reading t) (uri_part text) ≡ true
  uri-there = sym (resource-there (reading t) (uri_part text)) ∙ by (has_mark text) (resource_named (reading t) (uri_part text)) goal-found
    where
      by : (b : Bool) (q : Option ResourceNo) → (if b then option_and_then (λ k. found_by (reading t) k (fragment_part text)) q else None) ≡ Some goal → is_some q ≡ true
      by true None h = absurd (none-some goal h)
      by true (Some k) h = refl
      by false q h = absurd (none-some goal h)

  pub late-none : late_refusal (reading t) (At (at_end (node.Object p) f) (Resolve i)) ≡ None
  late-none =
      let low : nat_lt i (length (values_at t e)) ≡ true = let within = slice_get_within (values_at t e) i (value.Proxy text) here in grind (arith, nat_tests) in
      let typed : is_mistyped (reading t) e (Some (target (reading t) e goal)) ≡ false = λ j. not (reference j) || not (goal-taken j) in
      let proxy : is_some (proxy_at (reading t) e i) ≡ true = ap (λ (y : Option Value). is_some (option_and_then text_of y)) here in
      let known : option_map_or (λ x. not (has_uri (reading t) (uri_part x))) (proxy_at (reading t) e i) false ≡ false =
      ap (λ (y : Option Value). option_map_or (λ x. not (has_uri (reading t) (uri_part x))) (option_and_then text_of y) false) here ∙ ap not uri-there in
      ap (target_refusal (reading t) e i) goal-target
      ∙ (λ j.
      WrongType where_so typed j else_by
      Index unless low j else_by
      Duplicate where_so absent j else_by
      NotProxy unless proxy j else_by
      Unloaded where_so known j else_by
      Unresolved unless true else_by
      Unmatched where_so unmatched-never j)

  pub early-none : early_refusal (reading t) (At (at_end (node.Object p) f) (Resolve i)) ≡ None
  early-none = λ j.
      ((NoObject unless live j else_by
      NoResource unless true) else_by
      NoFeature unless has j) else_by
      None
