-- A property of the text of each proxy, and of each URI, still holds after a change that brings no text without it.
use Rattle.std.proofs.Common.{◌≡◌, ◌∙◌, ℕ, Bool, true, false, List, [], ◌∷◌, ◌++◌, Option, Some, None, filter, find, fold, length, unwrap_or, if◌then◌else◌, sym, ap, inl, inr, subst}
use Rattle.std.specs.FinSet as set
use Rattle.std.specs.List.{All, AllByRecursion, list_any}
use Rattle.std.specs.Option.{option_map_or}
use Rattle.std.specs.Str.{bytes_eq}
use Rattle.std.proofs.lemmas.Bool.{false≢true}
use Rattle.std.proofs.lemmas.List.Elements.{All-append, All-cons, All-nil}
use Rattle.mm_types.specs.Resolved.{Metamodel}
use Rattle.mm_types.specs.Same.{same_end}
use Rattle.mm_types.specs.declared.end.End.{End}
use Rattle.mm_types.specs.declared.numbers.FeatureNo.{FeatureNo}
use Rattle.mm_types.specs.declared.numbers.Node.{Node}
use Rattle.mm_types.specs.declared.numbers.ObjectNo.{ObjectNo}
use Rattle.mm_types.specs.declared.value.Value.{Value}
use Rattle.mm_types.specs.declared.value.Value.TheVariants as value
use Rattle.mm_values.specs.Values.{ValuesState, values_after_edit, values_after_edits}
use Rattle.mm_values.specs.declared.value_edit.ValueEdit.{ValueEdit}
use Rattle.mm_values.specs.declared.value_edit.ValueEdit.TheVariants.{DropObject, NewUri}
use Rattle.links.specs.Links.{Links, cut, cut_some, cut_value, end, far_end, lower, lowered_far, new_link, put, raise, renumbered_links, shift, shifted_index, touches, without_nodes}
use Rattle.links.specs.Indexed.{far_moved, far_value, has_value, renumbered_link}
use Rattle.links.specs.declared.link.Far.{Far}
use Rattle.links.specs.declared.link.Far.TheVariants as leads
use Rattle.links.specs.declared.link.Link.{Link}
use Rattle.links.proofs.EditLemmas.{In-insert, In-remove, In-renumbered_links}
use Rattle.web_uris.specs.Addresses.{IsProxyText, IsSteadyProxy}
use Rattle.web_uris.specs.Joined.{IsWebUri}
use Rattle.models.specs.Legal.{OfProxies}
use Rattle.models.specs.Model.{Model, reading}
use Rattle.models.specs.Reading.{Reading, shape_at}
use Rattle.containment.specs.Forest.{subtree}
use Rattle.removal.specs.Outer.{is_in_subtree}
use Rattle.resource_docs.specs.Read.{OfDocProxies}
use Rattle.doc_loader.specs.Loading.{loaded_links, with_links}
use Rattle.doc_loader.proofs.PairLemmas.{all-every, all-map}
use Rattle.doc_loader.proofs.ProxyLemmas.{OfLink, alone-no_proxy, at-no_proxy, far_of, joined_uri-no_proxy, loaded-proxies, read-proxies}
use Rattle.removal.specs.declared.link_end.LinkEnd.{LinkEnd}
use Rattle.handshake.specs.declared.change.Change.{Change}
use Rattle.handshake.specs.declared.change.Change.TheVariants.{At, NewResource, ResolveAll, Load}
use Rattle.handshake.specs.Displaced.{cut_link_ends, link_ends_joined}
use Rattle.proxies.specs.Proxies.{end_of, sites}
use Rattle.proxies.specs.ResolvingAll.{Resolution, resolutions}
use Rattle.handshake.specs.Changes.{HasReadDocument}
use Rattle.handshake.proofs.ActLemmas.{act-puts, edits-all, is_plain_edit}
use Rattle.handshake.specs.FeatureChanges.{destroyed_by}
use Rattle.handshake.specs.Laws.{BringsSteadyTexts, KeepsSteady}
use Rattle.handshake.specs.Effects.{links_after, links_after_join, links_left, put_back, put_by, value_edits, with_resolution, with_value, without_link_ends}
use Rattle.proxies.specs.Resolving.{target_at}
use Rattle.proxies.specs.declared.resolved_proxy.ResolvedProxy.{ResolvedProxy}

---------------------------------------------------------------- links

far-back : (x : Far) (e : End) (r : ℕ → ℕ) (t : List ℕ) → far_moved x e r ≡ leads.Proxy t → x ≡ leads.Proxy t
far-back (leads.At d j) e r t = elim (same_end d e) as (λ b. (if b then leads.At d (r j) else leads.At d j) ≡ leads.Proxy t → leads.At d j ≡ leads.Proxy t) [ true ↦ λ h. absurd (at-no_proxy d (r j) t h) | false ↦ λ h. h ]
far-back (leads.Alone o) e r t = λ h. h
far-back (leads.Proxy u) e r t = λ h. h

renumbered_link-back : (l : Link) (e : End) (r : ℕ → ℕ) (t : List ℕ) → far_of (renumbered_link l e r) ≡ leads.Proxy t → l.far ≡ leads.Proxy t
renumbered_link-back l e r t = elim (same_end l.end e) as (λ b. far_of (if b then record l { index = r l.index } else record l { far = far_moved l.far e r }) ≡ leads.Proxy t → l.far ≡ leads.Proxy t) [
  | true ↦ λ h. h
  | false ↦ far-back l.far e r t
]

new-no_proxy : (s : Links) (e : End) (i : ℕ) (o : ObjectNo) (g c : Option FeatureNo) (t : List ℕ) → far_of (new_link s e i o g c) ≡ leads.Proxy t → ⊥
new-no_proxy s e i o None c t h = alone-no_proxy o t h
new-no_proxy s e i o (Some g) c t h = joined_uri-no_proxy e i (far_end o g) (length (end s (far_end o g))) c t h

module _ (Holds : List ℕ → Type 0) where
  renumbered_links-of : (s : Links) (e : End) (r : ℕ → ℕ) → OfProxies Holds s → OfProxies Holds (renumbered_links s e r)
  renumbered_links-of s e r of l t within far =
      let from = In-renumbered_links s e r l within in
      of from.0 t from.1 (renumbered_link-back from.0 e r t (ap (λ (x : Link). x.far) from.2 ∙ far))

  insert-of : (s : Links) (k : Link) → OfLink Holds k → OfProxies Holds s → OfProxies Holds (set.insert s k)
  insert-of s k new of l t within far = elim (In-insert s k l within) [
    | inl same ↦ new t (ap (λ (x : Link). x.far) (sym same) ∙ far)
    | inr old ↦ of l t old far
  ]

  remove-of : (s : Links) (k : Link) → OfProxies Holds s → OfProxies Holds (set.remove s k)
  remove-of s k of l t within far = of l t (In-remove s k l within).1 far

  lowered-of : (s : Links) (x : Far) → OfProxies Holds s → OfProxies Holds (lowered_far s x)
  lowered-of s (leads.At d j) of = renumbered_links-of s d (lower j) of
  lowered-of s (leads.Alone o) of = of
  lowered-of s (leads.Proxy t) of = of

  cut-of : (s : Links) (l : Link) → OfProxies Holds s → OfProxies Holds (cut s l)
  unfolding cut
  cut-of s l of = lowered-of (renumbered_links (set.remove s l) l.end (lower l.index)) l.far (renumbered_links-of (set.remove s l) l.end (lower l.index) (remove-of s l of))

  some-of : (s : Links) (o : Option Link) → OfProxies Holds s → OfProxies Holds (cut_some s o)
  some-of s None of = of
  some-of s (Some l) of = cut-of s l of

  cut_value-of : (s : Links) (e : End) (v : Value) → OfProxies Holds s → OfProxies Holds (cut_value s e v)
  unfolding cut_value
  cut_value-of s e v of = some-of s (find (has_value e v) (set.items s)) of

  cuts-of : {X : Type 0} (at : X → End) (v : X → Value) (xs : List X) (s : Links) → OfProxies Holds s → OfProxies Holds (fold (λ (t : Links) (x : X). cut_value t (at x) (v x)) s xs)
  cuts-of at v [] s of = of
  cuts-of at v (x ∷ xs) s of = cuts-of at v xs (cut_value s (at x) (v x)) (cut_value-of s (at x) (v x) of)

  nodes-of : (s : Links) (gone : Node → Bool) → OfProxies Holds s → OfProxies Holds (without_nodes s gone)
  unfolding without_nodes
  nodes-of s gone of = cuts-of (λ (l : Link). l.end) (λ (l : Link). far_value l.far) (filter (touches gone) (set.items s)) s of

  put-of : (s : Links) (e : End) (i : ℕ) (o : ObjectNo) (g c : Option FeatureNo) → OfProxies Holds s → OfProxies Holds (put s e i o g c)
  unfolding put
  put-of s e i o g c of =
      insert-of (renumbered_links s e (raise i)) (new_link s e i o g c) (λ t far. absurd (new-no_proxy s e i o g c t far)) (renumbered_links-of s e (raise i) of)

  shift-of : (s : Links) (e : End) (to from : ℕ) → OfProxies Holds s → OfProxies Holds (shift s e to from)
  unfolding shift
  shift-of s e to from of = renumbered_links-of s e (shifted_index to from) of

  value-of : (s : Links) (r : Reading) (e : End) (i : Option ℕ) (v : Value) → OfProxies Holds s → OfProxies Holds (with_value s r e i v)
  value-of s r e i (value.Object o) of = put-of s e (unwrap_or i (length (end s e))) o (shape_at r e).opposite (shape_at r e).containing of
  value-of s r e i _ of = of

  links_after_join-of : (s : Links) (r : Reading) (e : End) (i : ℕ) (x : ResolvedProxy) → OfProxies Holds s → OfProxies Holds (links_after_join s r e i x)
  links_after_join-of s r e i x of =
      let t = with_value s r e (Some i) (value.Object x.object) in
      let placed = value-of s r e (Some i) (value.Object x.object) of in
      elim x.counterpart as (λ q. OfProxies Holds (option_map_or (λ c. put_back t (length (end s c.end)) c) q t)) [ None ↦ placed | Some c ↦ shift-of t c.end c.index (length (end s c.end)) placed ]

  resolutions-of : (ys : List Resolution) (s : Links) → OfProxies Holds s → OfProxies Holds (fold with_resolution s ys)
  resolutions-of [] s of = of
  resolutions-of (y ∷ ys) s of =
      let e = end_of y.site in
      let ts = link_ends_joined y.reads e y.site.index y.target in
      resolutions-of ys (with_resolution s y) (links_after_join-of (without_link_ends s ts) y.reads e y.site.index y.target (cuts-of (λ (t : LinkEnd). t.end) (λ (t : LinkEnd). t.value) ts s of))

  inserted-of : (ls : List Link) (s : Links) → AllByRecursion (OfLink Holds) ls → OfProxies Holds s → OfProxies Holds (with_links s ls)
  unfolding with_links
  inserted-of [] s all of = of
  inserted-of (l ∷ ls) s all of = inserted-of ls (set.insert s l) all.1 (insert-of s l all.0 of)

  -- a change brings proxies with the document that it loads
  abbrev pub BringsProxies : Change → Type 0
  BringsProxies (Load k doc) = OfDocProxies Holds doc
  BringsProxies _ = Unit {0}

  put_by-of : (s : Links) (r : Reading) (c : Change) → BringsProxies c → OfProxies Holds s → OfProxies Holds (put_by s r c)
  put_by-of s r (At e a) brings of =
      act-puts (λ ts xs made. OfProxies Holds (made s)) r e (λ ts. of) a (λ v is new. value-of s r e None v of) (λ v i is new. value-of s r e i v of) (λ to from is reference. shift-of s e to from of)
      (λ i is. elim (target_at r e i) as (λ q. OfProxies Holds (option_map_or (links_after_join s r e i) q s)) [ None ↦ of | Some x ↦ links_after_join-of s r e i x of ])
  put_by-of s r ResolveAll brings of = resolutions-of (resolutions r (sites r)) s of
  put_by-of s r (Load k doc) brings of = inserted-of (loaded_links r.metamodel r.next k doc) s (loaded-proxies Holds r.metamodel r.next doc k brings) of
  put_by-of s r _ brings of = of

  left-of : (s : Links) (r : Reading) (c : Change) → OfProxies Holds s → OfProxies Holds (links_left s r c)
  left-of s r c of =
      let ts = cut_link_ends r c in
      elim (destroyed_by c) as (λ q. OfProxies Holds (option_map_or (λ o. without_nodes s (is_in_subtree r o)) q (without_link_ends s ts))) [
        | None ↦ cuts-of (λ (t : LinkEnd). t.end) (λ (t : LinkEnd). t.value) ts s of
        | Some o ↦ nodes-of s (is_in_subtree r o) of
      ]

  pub proxies-after : (s : Links) (r : Reading) (c : Change) → BringsProxies c → OfProxies Holds s → OfProxies Holds (links_after s r c)
  proxies-after s r c brings of = put_by-of (links_left s r c) r c brings (left-of s r c of)

---------------------------------------------------------------- URIs

module _ (Holds : List ℕ → Type 0) where
  abbrev OfEdit : ValueEdit → Type 0
  OfEdit (NewUri u) = Holds u
  OfEdit _ = Unit {0}

  values_after_edit-of : (v : ValuesState) (x : ValueEdit) → OfEdit x → All Holds v.uris → All Holds (values_after_edit v x).uris
  values_after_edit-of v (NewUri u) new all =
      elim (list_any (bytes_eq u) v.uris) as (λ b. All Holds (if b then v.uris else v.uris ++ u ∷ [])) [
        | true ↦ all
        | false ↦ All-append Holds v.uris (u ∷ []) all (All-cons Holds u [] new (All-nil Holds))
      ]
  values_after_edit-of v _ new all = all

  values_after_edits-of : (xs : List ValueEdit) (v : ValuesState) → AllByRecursion OfEdit xs → All Holds v.uris → All Holds (values_after_edits v xs).uris
  values_after_edits-of [] v edits all = all
  values_after_edits-of (x ∷ xs) v edits all = values_after_edits-of xs (values_after_edit v x) edits.1 (values_after_edit-of v x edits.0 all)

  plain-of : (x : ValueEdit) → is_plain_edit x ≡ true → OfEdit x
  plain-of (NewUri u) plain = absurd (false≢true plain)
  plain-of _ plain = tt

  -- a change brings the URI of a new resource
  abbrev pub BringsUri : Change → Type 0
  BringsUri (NewResource u) = Holds u
  BringsUri _ = Unit {0}

  edits-of : (r : Reading) (c : Change) → BringsUri c → AllByRecursion OfEdit (value_edits r c)
  edits-of r c brings =
      edits-all OfEdit plain-of r c (λ o is. all-map OfEdit DropObject (subtree r o) (all-every (λ p. OfEdit (DropObject p)) (subtree r o) (λ p. tt))) (λ u is. subst BringsUri is brings)

  pub uris-after : (v : ValuesState) (r : Reading) (c : Change) → BringsUri c → All Holds v.uris → All Holds (values_after_edits v (value_edits r c)).uris
  uris-after v r c brings all = values_after_edits-of (value_edits r c) v (edits-of r c brings) all

---------------------------------------------------------------- what a change brings

-- a document that is read has proxies with legal texts
pub read-brings : (m : Metamodel) (c : Change) → HasReadDocument m c → BringsProxies IsProxyText c
read-brings m (Load k doc) read = read-proxies m read.uri doc read.read
read-brings m _ read = tt

steady-proxies : (c : Change) → BringsSteadyTexts c → BringsProxies IsSteadyProxy c
steady-proxies (Load k doc) brings = brings
steady-proxies _ brings = tt

steady-uri : (c : Change) → BringsSteadyTexts c → BringsUri IsWebUri c
steady-uri (NewResource u) brings = brings
steady-uri _ brings = tt

pub change-keeps-steady : (s : Model) (c : Change) → KeepsSteady s c
change-keeps-steady s c steady brings =
    record {
      uris = uris-after IsWebUri s.values (reading s) c (steady-uri c brings) steady.uris;
      proxies = proxies-after IsSteadyProxy s.links (reading s) c (steady-proxies c brings) steady.proxies;
    }
