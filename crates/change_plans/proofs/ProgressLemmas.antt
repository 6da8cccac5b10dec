-- The tables that were made beforehand, and the proxies that were resolved so far, determine the target of each proxy.
use Rattle.std.proofs.Common.{◌≡◌, inl, inr, ℕ, ◌<◌, ◌&&◌, ◌||◌, nat_eq, nat_lt, not, Bool, true, false, List, flat_map, fold, Option, Some, None, is_some, length, option_map, slice_get, if◌then◌else◌, refl, sym, ap, ◌∙◌, arith}
use Rattle.std.specs.Prelude.{option_and_then, position}
use Rattle.std.specs.Option.{option_map_or}
use Rattle.std.specs.Str.{bytes_eq}
use Rattle.std.proofs.lemmas.Bool.{false≢true}
use Rattle.std.proofs.lemmas.Bool.Decides.{nat_tests}
use Rattle.std.proofs.lemmas.Option.{none-some, slice_get_within}
use Rattle.mm_types.specs.Conditions.{◌unless◌, ◌where_so◌, ◌else_by◌}
use Rattle.mm_types.specs.Ends.{has_value}
use Rattle.mm_types.specs.Shapes.{shape}
use Rattle.mm_types.specs.declared.end.End.{End}
use Rattle.mm_types.specs.declared.numbers.FeatureNo.{FeatureNo}
use Rattle.mm_types.specs.declared.numbers.Node.TheVariants as node
use Rattle.mm_types.specs.declared.numbers.ObjectNo.{ObjectNo}
use Rattle.mm_types.specs.declared.refused.Refused.TheVariants.{WrongType, Index, Duplicate, NotProxy, Unloaded, Unresolved, Unmatched}
use Rattle.mm_types.specs.declared.value.Value.{Value}
use Rattle.mm_types.specs.declared.value.Value.TheVariants as value
use Rattle.web_uris.specs.Addresses.{fragment_part, has_mark, uri_part}
use Rattle.links.specs.Links.{end, far_end, text_of}
use Rattle.links.specs.Plans.{Lacks}
use Rattle.models.proofs.PlaceLemmas.{has-at}
use Rattle.models.specs.Legal.{IsLegal}
use Rattle.models.specs.Model.{Model, reading}
use Rattle.models.specs.Reading.{Reading, has_uri, resource_named}
use Rattle.fragment_paths.specs.Finding.{at, found_by as fragment_found}
use Rattle.handshake.specs.Edits.{edits_of}
use Rattle.handshake.specs.Effects.{with_resolution}
use Rattle.change_plans.specs.Joining.{IsProgress, counterpart_by, found_by, target_by, unless_refused}
use Rattle.proxies.specs.Keys.{has, key_of}
use Rattle.models.specs.ReferenceKeys.{reference_key}
use Rattle.proxies.specs.Leads.{first_index, index_at, lead, leads}
use Rattle.proxies.specs.Proxies.{end_of, is_proxy_site}
use Rattle.proxies.specs.Refusals.{is_mistyped, is_there_already, resolve_refusal, target_refusal}
use Rattle.proxies.specs.Resolving.{counterpart, first_to, is_unmatched, leads_to, proxy_at, target, target_at}
use Rattle.proxies.specs.ResolvingAll.{left_by, resolutions, resolved_to, values_left}
use Rattle.handshake.specs.FeatureChanges.{resolution_told}
use Rattle.change_plans.specs.declared.joining.Progress.{Progress}
use Rattle.models.specs.declared.reference_key.ReferenceKey.{ReferenceKey}
use Rattle.proxies.specs.declared.lead.FirstLeads.{FirstLeads}
use Rattle.proxies.specs.declared.site.ProxySite.{ProxySite}
use Rattle.proxies.specs.declared.resolved_proxy.Counterpart.{Counterpart}
use Rattle.proxies.specs.declared.resolved_proxy.ResolvedProxy.{ResolvedProxy}
use Rattle.handshake.proofs.CutLinkEndLemmas.{values-linked}
use Rattle.change_plans.proofs.FollowLemmas.{Follows, IsLed, IsSameOrLed, all-follow, at-stays}
use Rattle.change_plans.proofs.JoinedLemmas.{position-any, positions-alike}
use Rattle.handshake.proofs.KnownLemmas.{far-reference}
use Rattle.proxies.proofs.LeadLemmas.{first-is}
use Rattle.handshake.proofs.LinkLemmas.{lacks-far}
use Rattle.handshake.proofs.ResolveAllLemmas.{Leads, all-lead}
use Rattle.handshake.proofs.ResolvedReadingLemmas.{with_links}

---------------------------------------------------------------- refusals

-- if a proxy is at a position of a list and its resource exists, three reasons for a refusal are left
three-left : (m d w : Bool) → is_some (WrongType where_so m else_by Index unless true else_by Duplicate where_so d else_by NotProxy unless true else_by Unloaded where_so false else_by Unresolved unless true else_by Unmatched where_so w) ≡ (m || (d || w))
three-left true d w = refl
three-left false true w = refl
three-left false false true = refl
three-left false false false = refl

-- an object at an address is in a resource with the URI of the address
uri-there : (r : Reading) (t : List ℕ) (o : ObjectNo) → at r t ≡ Some o → has_uri r (uri_part t) ≡ true
uri-there r t o h = marked (has_mark t) h
  where
    named : (q : Option ℕ) → position (bytes_eq (uri_part t)) r.uris ≡ q → option_and_then (λ k. fragment_found r k (fragment_part t)) (option_map (λ i. record { 0 = i }) q) ≡ Some o → has_uri r (uri_part t) ≡ true
    named None is none = absurd (none-some o none)
    named (Some i) is _ = position-any (bytes_eq (uri_part t)) r.uris i is

    marked : (b : Bool) → (if b then option_and_then (λ k. fragment_found r k (fragment_part t)) (resource_named r (uri_part t)) else None) ≡ Some o → has_uri r (uri_part t) ≡ true
    marked true found = named (position (bytes_eq (uri_part t)) r.uris) refl found
    marked false found = absurd (none-some o found)

-- without a proxy there is no target, and nothing is resolved
none-resolved : (r : Reading) (p : ProxySite) → target_at r (end_of p) p.index ≡ None → resolved_to r p ≡ None
none-resolved r p none = elim (is_some (resolve_refusal r (end_of p) p.index)) as (λ b. (if b then None else target_at r (end_of p) p.index) ≡ None) [ true ↦ refl | false ↦ none ]

-- the tests agree if the targets agree
tests-agree : (m d l : Bool) (W : ResolvedProxy → Bool) (x y : ResolvedProxy) → (m ≡ false → (d || l) ≡ false → x ≡ y) → (if (m || (d || (l || W x))) then None else Some x) ≡ (if (m || ((d || l) || W y)) then None else Some y)
tests-agree true d l W x y same = refl
tests-agree false true l W x y same = refl
tests-agree false false true W x y same = refl
tests-agree false false false W x y same = ap (λ (z : ResolvedProxy). if W z then None else Some z) (same refl refl)

---------------------------------------------------------------- one proxy

module _ (s : Model) (legal : IsLegal s) (ps : List ProxySite) where
  abbrev r : Reading
  r = reading s

  abbrev now : Reading
  now = left_by (reading s) ps

  abbrev t : Model
  t = with_links s (fold with_resolution s.links (resolutions (reading s) ps))

  led : (let xs = resolutions (reading s) ps in Leads s (flat_map edits_of xs) (flat_map resolution_told xs) (fold with_resolution s.links xs) (values_left (reading s) ps))
  led = all-lead ps s legal

  follows : Follows (reading s) (values_left (reading s) ps)
  follows = all-follow ps s legal

  at-now : (text : List ℕ) → at now text ≡ at r text
  at-now text = at-stays r (values_left r ps) follows.contains text

  -- a value leads to the same object as before
  leads-now : (a : ObjectNo) (v : Value) → leads_to now (node.Object a) v ≡ leads_to r (node.Object a) v
  leads-now a v = by (text_of v)
    where
      by : (q : Option (List ℕ)) → option_map_or (λ (o : ObjectNo). nat_eq o.0 a.0) (option_and_then (at now) q) false ≡ option_map_or (λ (o : ObjectNo). nat_eq o.0 a.0) (option_and_then (at r) q) false
      by None = refl
      by (Some text) = ap (λ q. option_map_or (λ (o : ObjectNo). nat_eq o.0 a.0) q false) (at-now text)

  module _ (p : ProxySite) (o : ObjectNo) (reference : (shape s.metamodel p.feature).is_reference ≡ true) (absent : has_value ((left_by (reading s) ps).values (end_of p)) (value.Object o) ≡ false) where
    abbrev e : End
    e = end_of p

    lacks : Lacks t.links (end_of p) (value.Object o)
    lacks k at_k =
        let here : (reading t).values e ≡ end t.links e = values-linked t e reference in
        let read : (reading t).values e ≡ now.values e = λ i. (led.reads i).values e in
        false≢true (sym absent ∙ has-at (now.values e) (value.Object o) k (ap (λ (vs : List Value). slice_get vs k) (sym read ∙ here) ∙ at_k))

    module _ (g : FeatureNo) (opposite : (shape s.metamodel p.feature).opposite ≡ Some g) where
      abbrev far : End
      far = far_end o g

      abbrev back : Value → Bool
      back = leads_to r (node.Object p.object)

      lacks-back : (j : ℕ) → slice_get (now.values far) j ≡ Some (value.Object p.object) → ⊥
      lacks-back j at_j =
          let here : (reading t).values far ≡ end t.links far = values-linked t far (far-reference s.metamodel legal.metamodel p.feature g opposite) in
          let read : (reading t).values far ≡ now.values far = λ i. (led.reads i).values far in
          lacks-far t led.legal e o lacks g opposite j (ap (λ (vs : List Value). slice_get vs j) (sym here ∙ read) ∙ at_j)

      led-apart : (j : ℕ) (was is : Option Value) → slice_get (now.values far) j ≡ is → (x : IsLed r was is) → nat_eq x.object.0 p.object.0 ≡ false
      led-apart j was is here x = elim (nat_eq x.object.0 p.object.0) as (λ b. nat_eq x.object.0 p.object.0 ≡ b → b ≡ false) [
        | true ↦ λ same. absurd (lacks-back j (here ∙ x.is ∙ ap (λ (n : ℕ). Some (value.Object (record { 0 = n }))) (number-is x.object.0 p.object.0 same)))
        | false ↦ λ _. refl
      ] refl
        where
          number-is : (m n : ℕ) → nat_eq m n ≡ true → m ≡ n
          number-is m n h = grind (arith, nat_tests)

      same-alike : (q : Option Value) → option_map_or (leads_to now (node.Object p.object)) q false ≡ option_map_or back q false
      same-alike None = refl
      same-alike (Some v) = leads-now p.object v

      -- if no proxy that leads back is gone at the opposite end, the search there finds the same
      alike : (j : ℕ) (was is : Option Value) → slice_get (now.values far) j ≡ is → IsSameOrLed r was is → option_map_or (leads_to now (node.Object p.object)) is false ≡ option_map_or back was false
      alike j was is here (inl same) = ap (λ (q : Option Value). option_map_or (leads_to now (node.Object p.object)) q false) same ∙ same-alike was
      alike j was is here (inr x) =
          ap (λ (q : Option Value). option_map_or (leads_to now (node.Object p.object)) q false) x.is
          ∙ sym (led-apart j was is here x)
          ∙ sym (ap (λ (q : Option ObjectNo). option_map_or (λ (c : ObjectNo). nat_eq c.0 p.object.0) q false) x.leads)
          ∙ sym (ap (λ (q : Option Value). option_map_or back q false) x.proxy)

      first-alike : position (leads_to now (node.Object p.object)) (now.values far) ≡ position back (r.values far)
      first-alike =
          positions-alike (leads_to now (node.Object p.object)) back (now.values far) (r.values far) (follows.long far)
          (λ j. alike j (slice_get (r.values far) j) (slice_get (now.values far) j) refl (follows.each far j))

    module _ (f : FirstLeads) (table : (k : ReferenceKey) → index_at f k ≡ first_index (leads (reading s)) k) where
      counterpart-same : counterpart now e o ≡ counterpart_by r f p o
      counterpart-same =
          let at_far : End → Option ℕ → Option Counterpart = λ d q. option_map (λ j. record { end = d; index = j }) q in
          elim (shape s.metamodel p.feature).opposite as (λ q. (shape s.metamodel p.feature).opposite ≡ q → option_and_then (first_to now e.node) (option_map (far_end o) q) ≡ option_and_then (λ d. at_far d (index_at f (reference_key o d.feature p.object.0))) (option_map (far_end o) q)) [
            | None ↦ λ _. refl
            | Some g ↦ λ opposite.
                ap (at_far (far_end o g)) (first-alike g opposite ∙ sym (first-is s legal o g (far-reference s.metamodel legal.metamodel p.feature g opposite) p.object) ∙ sym (table (reference_key o g p.object.0)))
          ] refl

  ---------------------------------------------------------------- what it is resolved to

  module _ (g : Progress) (known : IsProgress (reading s) ps g) (f : FirstLeads) (table : (k : ReferenceKey) → index_at f k ≡ first_index (leads (reading s)) k) (p : ProxySite) (proxy : is_proxy_site (reading s) p ≡ true) where
    abbrev here : End
    here = end_of p

    abbrev i : ℕ
    i = p.index

    abbrev gone : Bool
    gone = has g.gone (key_of p)

    gone-true : (a b c : Bool) → a ≡ false → b ≡ true → a ≡ (b && not c) → c ≡ true
    gone-true a b true x y h = refl
    gone-true a b false x y h = absurd (false≢true (sym x ∙ h ∙ (λ k. y k && true)))

    gone-false : (a b c : Bool) → a ≡ true → b ≡ true → a ≡ (b && not c) → c ≡ false
    gone-false a b false x y h = refl
    gone-false a b true x y h = absurd (false≢true (sym (sym x ∙ h ∙ (λ k. y k && false))))

    proxied : (q : Option Value) → is_some (option_and_then text_of q) ≡ true → (text : List ℕ) × (q ≡ Some (value.Proxy text))
    proxied None h = absurd (false≢true h)
    proxied (Some (value.Proxy text)) h = (text, refl)
    proxied (Some _) h = absurd (false≢true h)

    -- a proxy that is gone
    none-left : (x : IsLed r (slice_get (r.values here) i) (slice_get (now.values here) i)) → target_by r g f (lead r p) ≡ resolved_to now p
    none-left x =
        let none : proxy_at now here i ≡ None = ap (option_and_then text_of) x.is in
        let is_gone = gone-true (is_proxy_site now p) (is_proxy_site r p) gone (ap is_some none) proxy (known.gone p) in
        let object : (lead r p).object ≡ Some x.object = ap (λ (q : Option Value). option_and_then (at r) (option_and_then text_of q)) x.proxy ∙ x.leads in
        ap (option_and_then (λ o. unless_refused r g p (found_by r f p o))) object
        ∙ (λ k. let y = found_by r f p x.object in if (is_gone k || (is_mistyped r here (Some y) || (is_there_already r here (Some y) || (has g.linked (reference_key p.object p.feature x.object.0) || is_unmatched r here y)))) then None else Some y)
        ∙ sym (none-resolved now p (ap (λ (q : Option (List ℕ)). option_map (target now here) (option_and_then (at now) q)) none))

    module _ (text : List ℕ) (was : slice_get ((reading s).values (end_of p)) p.index ≡ Some (value.Proxy text)) (is : slice_get ((left_by (reading s) ps).values (end_of p)) p.index ≡ Some (value.Proxy text)) where
      at-proxy : proxy_at now here i ≡ Some text
      at-proxy = ap (option_and_then text_of) is

      not-gone : gone ≡ false
      not-gone = gone-false (is_proxy_site now p) (is_proxy_site r p) gone (ap is_some at-proxy) proxy (known.gone p)

      object-is : (lead r p).object ≡ at r text
      object-is = ap (λ (q : Option Value). option_and_then (at r) (option_and_then text_of q)) was

      target-is : target_at now here i ≡ option_map (target now here) (at r text)
      target-is = ap (λ (q : Option (List ℕ)). option_map (target now here) (option_and_then (at now) q)) at-proxy ∙ ap (option_map (target now here)) (at-now text)

      -- the object at its address
      module _ (o : ObjectNo) (found : at (reading s) text ≡ Some o) where
        abbrev x : ResolvedProxy
        x = found_by r f p o

        abbrev y : ResolvedProxy
        y = target now here o

        abbrev m : Bool
        m = is_mistyped r here (Some (found_by r f p o))

        abbrev d : Bool
        d = has_value (r.values here) (value.Object o)

        abbrev l : Bool
        l = has g.linked (reference_key p.object p.feature o.0)

        reference-of : (b c : Bool) → (not b || c) ≡ false → b ≡ true
        reference-of true c h = refl
        reference-of false c h = absurd (false≢true (sym h))

        targets-same : m ≡ false → (d || l) ≡ false → x ≡ y
        targets-same typed new =
            let reference = reference-of (shape s.metamodel p.feature).is_reference _ typed in
            let same = counterpart-same p o reference (known.linked p.object p.feature o ∙ new) f table in
            sym (λ k. record { object = o; counterpart = same k })

        low : nat_lt i (length (now.values here)) ≡ true
        low = below i (length (now.values here)) (slice_get_within (now.values here) i (value.Proxy text) is)
          where
            below : (k n : ℕ) → k < n → nat_lt k n ≡ true
            below k n h = grind (arith, nat_tests)

        loaded : option_map_or (λ u. not (has_uri now (uri_part u))) (proxy_at now here i) false ≡ false
        loaded = ap (λ (q : Option (List ℕ)). option_map_or (λ u. not (has_uri now (uri_part u))) q false) at-proxy ∙ ap not (uri-there r text o found)

        refused-is : is_some (target_refusal now here i (Some y)) ≡ (m || ((d || l) || is_unmatched r here y))
        refused-is =
            (λ k. is_some
            (WrongType where_so m else_by Index unless low k else_by Duplicate where_so known.linked p.object p.feature o k else_by NotProxy unless is_some (at-proxy k) else_by Unloaded where_so loaded k else_by Unresolved unless true else_by Unmatched where_so is_unmatched r here y))
            ∙ three-left m (d || l) (is_unmatched r here y)

        resolved-same : unless_refused r g p x ≡ resolved_to now p
        resolved-same =
            (λ k. if (not-gone k || (m || (d || (l || is_unmatched r here x)))) then None else Some x)
            ∙ tests-agree m d l (is_unmatched r here) x y targets-same
            ∙ sym (ap (λ (b : Bool). if b then None else Some y) refused-is)
            ∙ sym (ap (λ (q : Option ResolvedProxy). if is_some (target_refusal now here i q) then None else q) (target-is ∙ ap (option_map (target now here)) found))

      still-left : target_by r g f (lead r p) ≡ resolved_to now p
      still-left =
          ap (option_and_then (λ o. unless_refused r g p (found_by r f p o))) object-is
          ∙ elim (at r text) as (λ q. at r text ≡ q → option_and_then (λ o. unless_refused r g p (found_by r f p o)) q ≡ resolved_to now p) [
            | None ↦ λ none. sym (none-resolved now p (target-is ∙ ap (option_map (target now here)) none))
            | Some o ↦ λ found. resolved-same o found
          ] refl

    pub target-same : target_by (reading s) g f (lead (reading s) p) ≡ resolved_to (left_by (reading s) ps) p
    target-same = by (follows.each here i)
      where
        by : IsSameOrLed r (slice_get (r.values here) i) (slice_get (now.values here) i) → target_by r g f (lead r p) ≡ resolved_to now p
        by (inl same) = let at_p = proxied (slice_get (r.values here) i) proxy in still-left at_p.0 at_p.1 (same ∙ at_p.1)
        by (inr x) = none-left x
