-- Each proxy of a document that is read has a legal text, and the links that are loaded have no other proxies.
use Rattle.std.proofs.Common.{◌≡◌, ℕ, Bool, true, false, List, [], ◌∷◌, Option, Some, None, map, refl, sym, subst}
use Rattle.std.specs.Prelude.{IfSome, filter_map, nat_lt, not, option_map, if◌then◌else◌}
use Rattle.std.specs.List.{All, AllByRecursion, enumerate_from}
use Rattle.std.specs.Option.{option_map_or}
use Rattle.std.proofs.lemmas.List.Elements.{All-filter, All-from_recursion, All-map, All-nil, recursion_from_All}
use Rattle.std.proofs.lemmas.Option.{none-some, same_Some}
use Rattle.std.proofs.lemmas.Slice.Eq.{bytes_eq-Decides}
use Rattle.std.specs.Str.{bytes_eq}
use Rattle.serde_json.specs.Data.{Data}
use Rattle.serde_json.specs.Find.{as_str}
use Rattle.json_fields.specs.Fields.{◌>>=◌}
use Rattle.mm_types.specs.Lookups as lookups
use Rattle.mm_types.specs.Resolved.{Metamodel}
use Rattle.mm_types.specs.Same.{is_nil}
use Rattle.mm_types.specs.Shapes.{shape}
use Rattle.mm_types.specs.declared.feature.Feature.{Feature}
use Rattle.mm_types.specs.declared.feature.Kind.{Kind}
use Rattle.mm_types.specs.declared.feature.Kind.TheVariants.{Attribute, Reference}
use Rattle.mm_types.specs.declared.numbers.ClassNo.{ClassNo}
use Rattle.mm_types.specs.declared.end.End.{End}
use Rattle.mm_types.specs.declared.numbers.FeatureNo.{FeatureNo}
use Rattle.mm_types.specs.declared.numbers.ObjectNo.{ObjectNo}
use Rattle.mm_types.specs.declared.numbers.ResourceNo.{ResourceNo}
use Rattle.mm_types.specs.declared.value.Value.{Value}
use Rattle.mm_types.specs.declared.value.Value.TheVariants as value
use Rattle.links.specs.Links as links
use Rattle.links.specs.Links.{far_end}
use Rattle.links.specs.declared.link.Far.{Far}
use Rattle.links.specs.declared.link.Far.TheVariants.{At, Alone, Proxy}
use Rattle.links.specs.declared.link.Link.{Link}
use Rattle.web_uris.specs.Addresses.{IsProxyText, address_text, fragment_part, has_mark, uri_part}
use Rattle.web_uris.specs.Joined.{joined_uri}
use Rattle.web_uris.specs.Paths.{parse, with_step}
use Rattle.web_uris.specs.declared.path.Path.{Path}
use Rattle.web_uris.proofs.AddressFacts.{proxy_text}
use Rattle.doc_parts.specs.Contents.{attribute_value}
use Rattle.doc_parts.specs.Parts.{Entry, Part, entries, number_of, parts, step_to, values_of}
use Rattle.resource_docs.specs.Causes.{IsRead}
use Rattle.resource_docs.specs.Read.{OfDocProxies, content_read, object_read, values_read}
use Rattle.resource_docs.specs.Texts.{base_of, target, target_at, target_in, uri_meant}
use Rattle.resource_docs.specs.Values.{OfProxy, led_to, object_of, value_of}
use Rattle.resource_docs.specs.declared.doc.Content.{Content}
use Rattle.resource_docs.specs.declared.doc.Doc.{Doc}
use Rattle.resource_docs.specs.declared.doc.DocObject.{DocObject}
use Rattle.resource_docs.specs.declared.referent.Referent.{Referent}
use Rattle.resource_docs.specs.declared.referent.Referent.TheVariants.{Here, Elsewhere}
use Rattle.doc_loader.specs.Loading.{content_links, far_index, link_of, link_to, loaded_links, loaded_number, object_end, of_contents, of_object, root_link}
use Rattle.doc_loader.proofs.CauseLemmas.{read-faultless}
use Rattle.doc_loader.proofs.DocLemmas.{IsPlain, attribute-plain, led-each}
use Rattle.doc_loader.proofs.DocSoundLemmas.{objects-are}
use Rattle.doc_loader.proofs.FitLemmas.{all-filtered}
use Rattle.doc_loader.proofs.PairLemmas.{all-append, all-at, all-every, all-filter_map, all-flat_map, all-from_at, all-map, numbered-at}

---------------------------------------------------------------- targets

abbrev HasText : Referent → Type 0
HasText (Here p) = Unit {0}
HasText (Elsewhere t) = IsProxyText t

joined_uri-target : (uri reference rest : List ℕ) (p : Path) (o : Option (List ℕ)) → joined_uri uri reference ≡ o → parse rest ≡ Some p → IfSome (option_map (λ u. target_in (base_of uri) rest u p) o) HasText
joined_uri-target uri reference rest p None is parsed = tt
joined_uri-target uri reference rest p (Some u) is parsed = by (bytes_eq u uri)
  where
    by : (b : Bool) → HasText (if b then Here p else Elsewhere (address_text u rest))
    by true = tt
    by false = proxy_text u rest p (record { base = uri; reference = reference; gives = is }) parsed

meant-target : (uri part rest : List ℕ) (p : Path) → parse rest ≡ Some p → IfSome (option_map (λ u. target_in (base_of uri) rest u p) (uri_meant (base_of uri) part)) HasText
meant-target uri [] rest p parsed = subst (λ (b : Bool). HasText (if b then Here p else Elsewhere (address_text uri rest))) (sym ((bytes_eq-Decides uri uri).1 refl)) tt
meant-target uri (c ∷ cs) rest p parsed = joined_uri-target uri (c ∷ cs) rest p (joined_uri uri (c ∷ cs)) refl parsed

behind-mark : (uri part rest : List ℕ) (o : Option Path) → parse rest ≡ o → IfSome (o >>= (λ p. option_map (λ u. target_in (base_of uri) rest u p) (uri_meant (base_of uri) part))) HasText
behind-mark uri part rest None is = tt
behind-mark uri part rest (Some p) is = meant-target uri part rest p is

without-mark : (o : Option Path) → IfSome (option_map Here o) HasText
without-mark None = tt
without-mark (Some p) = tt

-- a text that leads out of the document gives the text of a proxy
target-text : (uri t : List ℕ) → IfSome (target (base_of uri) t) HasText
target-text uri t = by (has_mark t)
  where
    by : (b : Bool) → IfSome (if b then target_at (base_of uri) (uri_part t) (fragment_part t) else option_map Here (parse t)) HasText
    by true = behind-mark uri (uri_part t) (fragment_part t) (parse (fragment_part t)) refl
    by false = without-mark (parse t)

---------------------------------------------------------------- values

abbrev IsFine : Value → Type 0
IsFine = OfProxy IsProxyText

plain-value : (v : Value) → IsPlain v → OfProxy IsProxyText v
plain-value (value.Proxy t) h = absurd h
plain-value _ h = tt

plain-fine : (o : Option Value) → IfSome o IsPlain → IfSome o IsFine
plain-fine None h = tt
plain-fine (Some v) h = plain-value v h

module _ (m : Metamodel) (uri : List ℕ) (ps : List Part) where
  reference-fine : (class : ClassNo) (o : Option (List ℕ)) → IfSome (o >>= target (base_of uri) >>= led_to m ps class) IsFine
  reference-fine class None = tt
  reference-fine class (Some t) =
      led-each IsFine (λ n. tt) m ps class (target (base_of uri) t) (λ u is. subst (λ (o : Option Referent). IfSome o HasText) is (target-text uri t))

  part-fine : (o : Option ℕ) → IfSome (option_map object_of o) IsFine
  part-fine None = tt
  part-fine (Some n) = tt

  value-fine : (path : Path) (f : FeatureNo) (k : Kind) (v : ℕ × Data) → IfSome (value_of m (base_of uri) ps path f k v) IsFine
  value-fine path f (Attribute t unique unsettable default) v = plain-fine (attribute_value m (shape m f).is_single t v.1) (attribute-plain m (shape m f).is_single t v.1)
  value-fine path f (Reference class true opposite) v = part-fine (number_of ps (with_step path (step_to m f v.0)))
  value-fine path f (Reference class false opposite) v = reference-fine class (as_str v.1)

  values-fine : (path : Path) (e : Entry) → All IsFine (values_read m (base_of uri) ps path e)
  values-fine path e = by (lookups.feature m e.feature)
    where
      by : (o : Option Feature) → All IsFine (option_map_or (λ g. filter_map (value_of m (base_of uri) ps path e.feature g.kind) (enumerate_from 0 (values_of m e))) o [])
      by None = All-nil IsFine
      by (Some g) = all-filtered IsFine (value_of m (base_of uri) ps path e.feature g.kind) (enumerate_from 0 (values_of m e)) (value-fine path e.feature g.kind)

  abbrev AreFine : Content → Type 0
  AreFine c = All IsFine c.values

  object-fine : (p : Part) → All AreFine (object_read m (base_of uri) ps p).contents
  object-fine p =
      let es = entries m p.json in
      let read = content_read m (base_of uri) ps p.path in
      All-filter (λ c. not (is_nil c.values)) AreFine (map read es) (All-map AreFine read es (All-from_recursion (λ e. AreFine (read e)) es (all-every (λ e. AreFine (read e)) es (values-fine p.path))))

---------------------------------------------------------------- documents

pub read-proxies : (m : Metamodel) (uri : List ℕ) (doc : Doc) → IsRead m uri doc → OfDocProxies IsProxyText doc
read-proxies m uri doc read =
    let d = read.source in
    let ps = parts m d in
    let Fine : DocObject → Type 0 = λ o. All (λ (c : Content). All IsFine c.values) o.contents in
    let each = All-map Fine (object_read m (base_of uri) ps) ps (All-from_recursion (λ p. Fine (object_read m (base_of uri) ps p)) ps (all-every (λ p. Fine (object_read m (base_of uri) ps p)) ps (object-fine m uri ps))) in
    subst (OfDocProxies IsProxyText) (read-faultless m uri doc read).0 (subst (λ (os : List DocObject). All Fine os) (sym (objects-are m (base_of uri) d)) each)

---------------------------------------------------------------- links

all-numbered : {X : Type 0} (P : X → Type 0) (xs : List X) → All P xs → AllByRecursion (λ (x : ℕ × X). P x.1) (enumerate_from 0 xs)
all-numbered {X} P xs all =
    all-from_at (λ (x : ℕ × X). P x.1) (enumerate_from 0 xs) (λ j x at. all-at P xs j x.1 (recursion_from_All P xs all) (numbered-at xs 0 j x at).1)

abbrev pub far_of : Link → Far
far_of l = l.far

pub alone-no_proxy : (o : ObjectNo) (t : List ℕ) → Alone o ≡ Proxy t → ⊥
alone-no_proxy o t h = cc

pub at-no_proxy : (d : End) (j : ℕ) (t : List ℕ) → At d j ≡ Proxy t → ⊥
at-no_proxy d j t h = cc

same_proxy : (t u : List ℕ) → Proxy t ≡ Proxy u → t ≡ u
same_proxy t u h = cc

pub joined_uri-no_proxy : (x : End) (i : ℕ) (y : End) (j : ℕ) (c : Option FeatureNo) (t : List ℕ) → far_of (links.joined_link x i y j c) ≡ Proxy t → ⊥
joined_uri-no_proxy x i y j c t =
    elim (nat_lt x.feature.0 y.feature.0) as (λ b. far_of (if b then record { end = x; index = i; far = At y j; container = c } else record { end = y; index = j; far = At x i; container = c }) ≡ Proxy t → ⊥) [
      | true ↦ at-no_proxy y j t
      | false ↦ at-no_proxy x i t
    ]

module _ (Holds : List ℕ → Type 0) where
  -- the property holds for the text of a link that is a proxy
  abbrev pub OfLink : Link → Type 0
  OfLink l = (t : List ℕ) → l.far ≡ Proxy t → Holds t

  module _ (m : Metamodel) (n : ℕ) (doc : Doc) where
    link_to-no_proxy : (o : ObjectNo) (f : FeatureNo) (i : ℕ) (b : ObjectNo) (g : Option FeatureNo) (t : List ℕ) → far_of (link_to m n doc o f i b g) ≡ Proxy t → ⊥
    link_to-no_proxy o f i b None t h = alone-no_proxy (loaded_number n b) t h
    link_to-no_proxy o f i b (Some g) t h = joined_uri-no_proxy (object_end n o f) i (far_end (loaded_number n b) g) (far_index (shape m f) doc o f b g) (shape m f).containing t h

    link-of : (o : ObjectNo) (f : FeatureNo) (i : ℕ) (v : Value) (l : Link) → OfProxy Holds v → link_of m n doc o f (i, v) ≡ Some l → OfLink l
    link-of o f i (value.Object b) l of is = subst OfLink (same_Some (link_to m n doc o f i b (shape m f).opposite) l is) (λ t far. absurd (link_to-no_proxy o f i b (shape m f).opposite t far))
    link-of o f i (value.Proxy u) l of is =
        let p : Link = record { end = object_end n o f; index = i; far = Proxy u; container = None } in
        subst OfLink (same_Some p l is) (λ t far. subst Holds (same_proxy u t far) of)
    link-of o f i _ l of is = absurd (none-some l is)

    -- the links of a document have the proxies of the document, and no others
    pub loaded-proxies : (k : ResourceNo) → OfDocProxies Holds doc → AllByRecursion OfLink (loaded_links m n k doc)
    loaded-proxies k all =
        let Fine : Content → Type 0 = λ c. All (OfProxy Holds) c.values in
        all-append OfLink (map (root_link m n k) (enumerate_from 0 doc.roots)) (of_contents (content_links m n doc) doc)
        (all-map OfLink (root_link m n k) (enumerate_from 0 doc.roots) (all-every (λ x. OfLink (root_link m n k x)) (enumerate_from 0 doc.roots) (λ x t far. absurd (root-no_proxy x t far))))
        (all-flat_map (λ (x : ℕ × DocObject). All Fine x.1.contents) OfLink (of_object (content_links m n doc)) (enumerate_from 0 doc.objects)
        (λ x fine. all-flat_map Fine OfLink (content_links m n doc (record { 0 = x.0 })) x.1.contents (content-of (record { 0 = x.0 })) (recursion_from_All Fine x.1.contents fine))
        (all-numbered (λ (x : DocObject). All Fine x.contents) doc.objects all))
      where
        root-no_proxy : (x : ℕ × ObjectNo) (t : List ℕ) → far_of (root_link m n k x) ≡ Proxy t → ⊥
        root-no_proxy x t h = alone-no_proxy (loaded_number n x.1) t h

        content-of : (o : ObjectNo) (c : Content) → All (OfProxy Holds) c.values → AllByRecursion OfLink (content_links m n doc o c)
        content-of o c fine =
            all-filter_map (λ (x : ℕ × Value). OfProxy Holds x.1) OfLink (link_of m n doc o c.feature) (enumerate_from 0 c.values) (λ x l of is. link-of o c.feature x.0 x.1 l of is)
            (all-numbered (OfProxy Holds) c.values fine)
