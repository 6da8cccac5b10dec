-- The edits of a document that is read agree with the kinds of their features: no proxy is under a reference of a pair with a containment.
use Rattle.std.proofs.Common.{◌≡◌, ◌∙◌, ◌+◌, ◌++◌, Bool, true, false, List, [], ◌∷◌, Option, Some, None, ℕ, cond, map, ap, refl, subst, sym}
use Rattle.std.specs.Prelude.{filter_map, flat_map, is_some, not, option_map, IfSome, if◌then◌else◌}
use Rattle.std.specs.List.{All, AllByRecursion, enumerate_from}
use Rattle.std.specs.Option.{option_map_or}
use Rattle.std.proofs.lemmas.Bool.{true≢false}
use Rattle.std.proofs.lemmas.List.Elements.{All-cons, All-head, All-nil, All-tail}
use Rattle.serde_json.specs.Data.{Data}
use Rattle.mm_types.specs.Lookups as lookups
use Rattle.mm_types.specs.Resolved.{Metamodel}
use Rattle.mm_types.specs.Same.{is_nil}
use Rattle.mm_types.specs.Shapes.{contents_shape, shape, shape_of}
use Rattle.mm_types.specs.declared.feature.Feature.{Feature}
use Rattle.mm_types.specs.declared.feature.Kind.{Kind}
use Rattle.mm_types.specs.declared.feature.Kind.TheVariants.{Attribute, Reference}
use Rattle.mm_types.specs.declared.numbers.FeatureNo.{FeatureNo}
use Rattle.mm_types.specs.declared.numbers.ObjectNo.{ObjectNo}
use Rattle.mm_types.specs.declared.numbers.ResourceNo.{ResourceNo}
use Rattle.mm_types.specs.declared.end.End.{End}
use Rattle.mm_types.specs.declared.value.Value.{Value}
use Rattle.mm_types.specs.declared.value.Value.TheVariants as value
use Rattle.links.specs.declared.plan.Edit.{Edit}
use Rattle.links.specs.Plans.{IsPlanOfKind}
use Rattle.links.proofs.LegalLemmas.{IsPlanOfKind-append}
use Rattle.models.specs.Legal.{kinds_of}
use Rattle.web_uris.specs.Paths.{with_step}
use Rattle.web_uris.specs.declared.path.Path.{Path}
use Rattle.doc_parts.specs.Parts.{Entry, Part, entries, number_of, parts, step_to, values_of}
use Rattle.resource_docs.specs.Causes.{IsRead}
use Rattle.resource_docs.specs.Read.{content_read, contents_read, doc_read, object_read, values_read}
use Rattle.resource_docs.specs.Texts.{Base, base_of}
use Rattle.resource_docs.specs.Values.{object_of, value_of}
use Rattle.resource_docs.specs.declared.doc.Content.{Content}
use Rattle.resource_docs.specs.declared.doc.Doc.{Doc}
use Rattle.resource_docs.specs.declared.doc.DocObject.{DocObject}
use Rattle.doc_loader.specs.LoadEdits.{far_edits, in_order, is_ascending_from, load_edits, near_edits, proxy_edits, proxy_puts, put_at, puts_again, value_puts}
use Rattle.doc_loader.specs.Loading.{object_end, of_object}
use Rattle.doc_loader.specs.Pairs.{is_near, lower_of}
use Rattle.doc_loader.specs.ListIndexes.{index_among}
use Rattle.models.specs.declared.reference_key.ReferenceKey.{ReferenceKey}
use Rattle.doc_loader.proofs.CauseLemmas.{read-faultless}
use Rattle.doc_loader.proofs.FitLemmas.{all-filtered}
use Rattle.doc_loader.proofs.WrittenLemmas.{plain-entries}
use Rattle.models.specs.Reading.{contents_end}

-- a proxy is there only if neither reference of the pair is a containment
abbrev Place : Option FeatureNo → Value → Type 0
Place h (value.Proxy t) = h ≡ None
Place h _ = Unit {0}

abbrev ContentPlaces : Metamodel → Content → Type 0
ContentPlaces m c = All (Place (shape m c.feature).containing) c.values

abbrev ObjectPlaces : Metamodel → DocObject → Type 0
ObjectPlaces m o = All (ContentPlaces m) o.contents

---------------------------------------------------------------- what is read

anywhere : (v : Value) → Place None v
anywhere (value.Proxy t) = refl
anywhere value.Null = tt
anywhere (value.Bool b) = tt
anywhere (value.Int n) = tt
anywhere (value.Text t) = tt
anywhere (value.Literal i) = tt
anywhere (value.Object o) = tt

all-anywhere : (vs : List Value) → All (Place None) vs
all-anywhere [] = All-nil (Place None)
all-anywhere (v ∷ vs) = All-cons (Place None) v vs (anywhere v) (all-anywhere vs)

part-index_of : (h : Option FeatureNo) (o : Option ℕ) → IfSome (option_map object_of o) (Place h)
part-index_of h None = tt
part-index_of h (Some k) = tt

-- no value is written under a container reference
abbrev IsPlain : Metamodel → Entry → Type 0
IsPlain m e = lookups.is_container m e.feature ≡ false

content-indexes : (m : Metamodel) (b : Base) (ps : List Part) (path : Path) (e : Entry) → IsPlain m e → ContentPlaces m (content_read m b ps path e)
content-indexes m b ps path e plain = by (lookups.feature m e.feature)
  where
    by_kind : (g : Feature) (k : Kind) → All (Place (shape_of m e.feature g k).containing) (filter_map (value_of m b ps path e.feature k) (enumerate_from 0 (values_of m e)))
    by_kind g (Attribute t unique unsettable default) = all-anywhere (filter_map (value_of m b ps path e.feature (Attribute t unique unsettable default)) (enumerate_from 0 (values_of m e)))
    by_kind g (Reference class true opposite) =
        all-filtered (Place (Some e.feature)) (value_of m b ps path e.feature (Reference class true opposite)) (enumerate_from 0 (values_of m e))
        (λ v. part-index_of (Some e.feature) (number_of ps (with_step path (step_to m e.feature v.0))))
    by_kind g (Reference class false opposite) =
        let vs = filter_map (value_of m b ps path e.feature (Reference class false opposite)) (enumerate_from 0 (values_of m e)) in
        subst (λ (h : Option FeatureNo). All (Place h) vs) (sym (ap (λ (t : Bool). cond t opposite None) plain)) (all-anywhere vs)

    by : (o : Option Feature)
        → All (Place (option_map_or (λ g. shape_of m e.feature g g.kind) o (contents_shape m)).containing) (option_map_or (λ g. filter_map (value_of m b ps path e.feature g.kind) (enumerate_from 0 (values_of m e))) o [])
    by None = All-nil (Place (contents_shape m).containing)
    by (Some g) = by_kind g g.kind

kept-indexes : (m : Metamodel) (b : Bool) (c : Content) (cs : List Content) → ContentPlaces m c → All (ContentPlaces m) cs → All (ContentPlaces m) (cond b (c ∷ cs) cs)
kept-indexes m true c cs here rest = All-cons (ContentPlaces m) c cs here rest
kept-indexes m false c cs here rest = rest

contents-indexes : (m : Metamodel) (b : Base) (ps : List Part) (path : Path) (es : List Entry) → AllByRecursion (IsPlain m) es → All (ContentPlaces m) (contents_read m b ps path es)
contents-indexes m b ps path [] plain = All-nil (ContentPlaces m)
contents-indexes m b ps path (e ∷ es) plain =
    kept-indexes m (not (is_nil (values_read m b ps path e))) (content_read m b ps path e) (contents_read m b ps path es) (content-indexes m b ps path e plain.0) (contents-indexes m b ps path es plain.1)

objects-indexes : (m : Metamodel) (b : Base) (ps qs : List Part) → All (ObjectPlaces m) (map (object_read m b ps) qs)
objects-indexes m b ps [] = All-nil (ObjectPlaces m)
objects-indexes m b ps (q ∷ qs) =
    All-cons (ObjectPlaces m) (object_read m b ps q) (map (object_read m b ps) qs) (contents-indexes m b ps q.path (entries m q.json) (plain-entries m q.json)) (objects-indexes m b ps qs)

doc-indexes : (m : Metamodel) (b : Base) (d : Data) → All (ObjectPlaces m) (doc_read m b d).objects
unfolding doc_read
doc-indexes m b d = objects-indexes m b (parts m d) (parts m d)

---------------------------------------------------------------- the plan

value-kind : (m : Metamodel) (n : ℕ) (e : End) (i : ℕ) (v : Value) → Place (shape m e.feature).containing v → IsPlanOfKind (kinds_of m) (value_puts m n e (i, v))
value-kind m n e i (value.Object b) index_of = ((refl, refl), tt)
value-kind m n e i (value.Proxy t) index_of = (index_of, tt)
value-kind m n e i value.Null index_of = tt
value-kind m n e i (value.Bool b) index_of = tt
value-kind m n e i (value.Int k) index_of = tt
value-kind m n e i (value.Text t) index_of = tt
value-kind m n e i (value.Literal k) index_of = tt

values-kind : (m : Metamodel) (n : ℕ) (e : End) (i : ℕ) (vs : List Value) → All (Place (shape m e.feature).containing) vs → IsPlanOfKind (kinds_of m) (flat_map (value_puts m n e) (enumerate_from i vs))
values-kind m n e i [] all = tt
values-kind m n e i (v ∷ vs) all =
    IsPlanOfKind-append (kinds_of m) (value_puts m n e (i, v)) (flat_map (value_puts m n e) (enumerate_from (i + 1) vs))
    (value-kind m n e i v (All-head (Place (shape m e.feature).containing) v vs all)) (values-kind m n e (i + 1) vs (All-tail (Place (shape m e.feature).containing) v vs all))

chosen-kind : (m : Metamodel) (b : Bool) (es : List Edit) → IsPlanOfKind (kinds_of m) es → IsPlanOfKind (kinds_of m) (cond b es [])
chosen-kind m true es kind = kind
chosen-kind m false es kind = tt

near-contents-kind : (m : Metamodel) (n : ℕ) (o : ObjectNo) (cs : List Content) → All (ContentPlaces m) cs → IsPlanOfKind (kinds_of m) (flat_map (near_edits m n o) cs)
near-contents-kind m n o [] all = tt
near-contents-kind m n o (c ∷ cs) all =
    IsPlanOfKind-append (kinds_of m) (near_edits m n o c) (flat_map (near_edits m n o) cs)
    (chosen-kind m (is_near (shape m c.feature) c.feature) (flat_map (value_puts m n (object_end n o c.feature)) (enumerate_from 0 c.values))
    (values-kind m n (object_end n o c.feature) 0 c.values (All-head (ContentPlaces m) c cs all)))
    (near-contents-kind m n o cs (All-tail (ContentPlaces m) c cs all))

near-kind : (m : Metamodel) (n i : ℕ) (os : List DocObject) → All (ObjectPlaces m) os → IsPlanOfKind (kinds_of m) (flat_map (of_object (near_edits m n)) (enumerate_from i os))
near-kind m n i [] all = tt
near-kind m n i (o ∷ os) all =
    IsPlanOfKind-append (kinds_of m) (of_object (near_edits m n) (i, o)) (flat_map (of_object (near_edits m n)) (enumerate_from (i + 1) os))
    (near-contents-kind m n (record { 0 = i }) o.contents (All-head (ObjectPlaces m) o os all)) (near-kind m n (i + 1) os (All-tail (ObjectPlaces m) o os all))

again-kind : (m : Metamodel) (n : ℕ) (index_of : ReferenceKey → ℕ) (b : ObjectNo) (f : FeatureNo) (vs : List Value) → IsPlanOfKind (kinds_of m) (flat_map (puts_again m n index_of b f) vs)
again-kind m n index_of b f [] = tt
again-kind m n index_of b f (value.Object a ∷ vs) = (tt, ((refl, refl), again-kind m n index_of b f vs))
again-kind m n index_of b f (value.Proxy t ∷ vs) = again-kind m n index_of b f vs
again-kind m n index_of b f (value.Null ∷ vs) = again-kind m n index_of b f vs
again-kind m n index_of b f (value.Bool x ∷ vs) = again-kind m n index_of b f vs
again-kind m n index_of b f (value.Int x ∷ vs) = again-kind m n index_of b f vs
again-kind m n index_of b f (value.Text t ∷ vs) = again-kind m n index_of b f vs
again-kind m n index_of b f (value.Literal x ∷ vs) = again-kind m n index_of b f vs

ordered-kind : (m : Metamodel) (n : ℕ) (index_of : ReferenceKey → ℕ) (b : ObjectNo) (vs : List Value) (o : Option FeatureNo) → IsPlanOfKind (kinds_of m) (option_map_or (in_order m n index_of b vs) o [])
ordered-kind m n index_of b vs None = tt
ordered-kind m n index_of b vs (Some f) = by (is_ascending_from 0 vs)
  where
    by : (ascending : Bool) → IsPlanOfKind (kinds_of m) (cond ascending [] (flat_map (puts_again m n index_of b f) vs))
    by true = tt
    by false = again-kind m n index_of b f vs

far-contents-kind : (m : Metamodel) (n : ℕ) (index_of : ReferenceKey → ℕ) (o : ObjectNo) (cs : List Content) → IsPlanOfKind (kinds_of m) (flat_map (far_edits m n index_of o) cs)
far-contents-kind m n index_of o [] = tt
far-contents-kind m n index_of o (c ∷ cs) =
    IsPlanOfKind-append (kinds_of m) (far_edits m n index_of o c) (flat_map (far_edits m n index_of o) cs)
    (ordered-kind m n index_of o c.values (lower_of (shape m c.feature) c.feature)) (far-contents-kind m n index_of o cs)

far-kind : (m : Metamodel) (n : ℕ) (index_of : ReferenceKey → ℕ) (i : ℕ) (os : List DocObject) → IsPlanOfKind (kinds_of m) (flat_map (of_object (far_edits m n index_of)) (enumerate_from i os))
far-kind m n index_of i [] = tt
far-kind m n index_of i (o ∷ os) =
    IsPlanOfKind-append (kinds_of m) (of_object (far_edits m n index_of) (i, o)) (flat_map (of_object (far_edits m n index_of)) (enumerate_from (i + 1) os))
    (far-contents-kind m n index_of (record { 0 = i }) o.contents) (far-kind m n index_of (i + 1) os)

puts-kind : (m : Metamodel) (e : End) → (shape m e.feature).containing ≡ None → (i : ℕ) (vs : List Value) → IsPlanOfKind (kinds_of m) (flat_map (proxy_puts e) (enumerate_from i vs))
puts-kind m e plain i [] = tt
puts-kind m e plain i (value.Proxy t ∷ vs) = (plain, puts-kind m e plain (i + 1) vs)
puts-kind m e plain i (value.Object a ∷ vs) = puts-kind m e plain (i + 1) vs
puts-kind m e plain i (value.Null ∷ vs) = puts-kind m e plain (i + 1) vs
puts-kind m e plain i (value.Bool x ∷ vs) = puts-kind m e plain (i + 1) vs
puts-kind m e plain i (value.Int x ∷ vs) = puts-kind m e plain (i + 1) vs
puts-kind m e plain i (value.Text t ∷ vs) = puts-kind m e plain (i + 1) vs
puts-kind m e plain i (value.Literal x ∷ vs) = puts-kind m e plain (i + 1) vs

-- neither feature of a pair with a lower one is a containment
lower-contains : (o c h : Option FeatureNo) → (if is_some c then None else h) ≡ o → is_some o ≡ true → c ≡ None
lower-contains o None h is some = refl
lower-contains o (Some c) h is some = absurd (true≢false (sym some ∙ ap (λ (x : Option FeatureNo). is_some x) (sym is)))

proxy-kind : (m : Metamodel) (n : ℕ) (o : ObjectNo) (c : Content) → IsPlanOfKind (kinds_of m) (proxy_edits m n o c)
proxy-kind m n o c = by (lower_of (shape m c.feature) c.feature) refl
  where
    by : (h : Option FeatureNo) → lower_of (shape m c.feature) c.feature ≡ h
        → IsPlanOfKind (kinds_of m) (if is_some h then flat_map (proxy_puts (object_end n o c.feature)) (enumerate_from 0 c.values) else [])
    by None none = tt
    by (Some f) is = puts-kind m (object_end n o c.feature) (lower-contains (Some f) (shape m c.feature).containing _ is refl) 0 c.values

proxy-contents-kind : (m : Metamodel) (n : ℕ) (o : ObjectNo) (cs : List Content) → IsPlanOfKind (kinds_of m) (flat_map (proxy_edits m n o) cs)
proxy-contents-kind m n o [] = tt
proxy-contents-kind m n o (c ∷ cs) = IsPlanOfKind-append (kinds_of m) (proxy_edits m n o c) (flat_map (proxy_edits m n o) cs) (proxy-kind m n o c) (proxy-contents-kind m n o cs)

proxies-kind : (m : Metamodel) (n i : ℕ) (os : List DocObject) → IsPlanOfKind (kinds_of m) (flat_map (of_object (proxy_edits m n)) (enumerate_from i os))
proxies-kind m n i [] = tt
proxies-kind m n i (o ∷ os) =
    IsPlanOfKind-append (kinds_of m) (of_object (proxy_edits m n) (i, o)) (flat_map (of_object (proxy_edits m n)) (enumerate_from (i + 1) os))
    (proxy-contents-kind m n (record { 0 = i }) o.contents) (proxies-kind m n (i + 1) os)

roots-kind : (m : Metamodel) (n : ℕ) (e : End) (i : ℕ) (rs : List ObjectNo) → IsPlanOfKind (kinds_of m) (map (λ x. put_at m n e x.0 x.1) (enumerate_from i rs))
roots-kind m n e i [] = tt
roots-kind m n e i (o ∷ rs) = ((refl, refl), roots-kind m n e (i + 1) rs)

plan-kind : (m : Metamodel) (n : ℕ) (k : ResourceNo) (doc : Doc) → All (ObjectPlaces m) doc.objects → IsPlanOfKind (kinds_of m) (load_edits m n k doc)
plan-kind m n k doc all =
    let near : List Edit = flat_map (of_object (near_edits m n)) (enumerate_from 0 doc.objects) in
    let far : List Edit = flat_map (of_object (far_edits m n (index_among m doc.objects))) (enumerate_from 0 doc.objects) in
    let proxies : List Edit = flat_map (of_object (proxy_edits m n)) (enumerate_from 0 doc.objects) in
    IsPlanOfKind-append (kinds_of m) (map (λ x. put_at m n (contents_end m k) x.0 x.1) (enumerate_from 0 doc.roots)) (near ++ (far ++ proxies)) (roots-kind m n (contents_end m k) 0 doc.roots)
    (IsPlanOfKind-append (kinds_of m) near (far ++ proxies) (near-kind m n 0 doc.objects all)
    (IsPlanOfKind-append (kinds_of m) far proxies (far-kind m n (index_among m doc.objects) 0 doc.objects) (proxies-kind m n 0 doc.objects)))

pub read-kind : (m : Metamodel) (uri : List ℕ) (doc : Doc) (n : ℕ) (k : ResourceNo) → IsRead m uri doc → IsPlanOfKind (kinds_of m) (load_edits m n k doc)
read-kind m uri doc n k read =
    plan-kind m n k doc (subst (λ (x : Doc). All (ObjectPlaces m) x.objects) (read-faultless m uri doc read).0 (doc-indexes m (base_of uri) read.source))
