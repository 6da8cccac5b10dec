-- The ends of a document, by a set of namings.
use Rattle.std.proofs.Common.{◌≡◌, ◌∙◌, ◌+◌, ◌++◌, Bool, true, false, List, [], ◌∷◌, Option, Some, None, ℕ, ap, arith, cond, nat_eq, refl, sym}
use Rattle.std.specs.Prelude.{◌&&◌, ◌||◌, flat_map, is_some, not, slice_get}
use Rattle.std.specs.List.{enumerate_from, list_any}
use Rattle.std.specs.Option.{option_map_or}
use Rattle.std.proofs.lemmas.Bool.{or_parts, true≢false}
use Rattle.std.proofs.lemmas.List.Folds.{list_any-append}
use Rattle.mm_types.specs.Lookups as lookups
use Rattle.mm_types.specs.Resolved.{Metamodel}
use Rattle.mm_types.specs.Same.{same_value}
use Rattle.mm_types.specs.Shapes.{is_containment, shape}
use Rattle.mm_types.specs.declared.numbers.FeatureNo.{FeatureNo}
use Rattle.mm_types.specs.declared.numbers.ObjectNo.{ObjectNo}
use Rattle.mm_types.specs.declared.value.Value.{Value}
use Rattle.mm_types.specs.declared.value.Value.TheVariants as value
use Rattle.mm_meta.proofs.ShapeLemmas.{shape_opposite}
use Rattle.resource_docs.specs.Causes.{is_one_sided, is_unanswered, of_content}
use Rattle.resource_docs.specs.Ends.{IsEndsOf, any_one_sided_by, asks_back, by_contents, by_objects, has, is_among, new_naming, one_sided_by, unanswered_by}
use Rattle.resource_docs.specs.Read.{values_in, values_under}
use Rattle.resource_docs.specs.declared.doc.Content.{Content}
use Rattle.resource_docs.specs.declared.doc.Doc.{Doc}
use Rattle.resource_docs.specs.declared.doc.DocObject.{DocObject}
use Rattle.resource_docs.specs.declared.ends.Ends.{Ends}
use Rattle.resource_docs.specs.declared.ends.Naming.{Naming}
use Rattle.resource_docs.proofs.AnyLemmas.{any-at, any-numbered, any-pulled}
use Rattle.doc_parts.proofs.KnowLemmas.{list_any-as}

abbrev named_by : Naming → Content → Bool
named_by k c = nat_eq k.feature c.feature.0 && is_among c.values k

one_named : (k : Naming) (b : Bool) (vs ws : List Value) → is_among (cond b vs [] ++ ws) k ≡ (b && is_among vs k) || is_among ws k
one_named k true vs ws = list_any-append (same_value (value.Object (record { 0 = k.named }))) vs ws
one_named k false vs ws = refl

under_named : (k : Naming) (cs : List Content) → is_among (flat_map (λ c. cond (nat_eq k.feature c.feature.0) c.values []) cs) k ≡ list_any (named_by k) cs
under_named k [] = refl
under_named k (c ∷ cs) =
    one_named k (nat_eq k.feature c.feature.0) c.values (flat_map (λ x. cond (nat_eq k.feature x.feature.0) x.values []) cs)
    ∙ ap (λ b. named_by k c || b) (under_named k cs)

abbrev feature_of : Naming → FeatureNo
feature_of k = record { 0 = k.feature }

abbrev object_of : Naming → ObjectNo
object_of k = record { 0 = k.object }

at_object : (k : Naming) (o : Option DocObject) → option_map_or (λ x. list_any (named_by k) x.contents) o false ≡ is_among (option_map_or (λ x. values_under x (feature_of k)) o []) k
at_object k None = refl
at_object k (Some x) = sym (under_named k x.contents)

-- the namings of a document are those of its ends
named_in : (d : Doc) (k : Naming) → by_objects d.objects k ≡ is_among (values_in d (object_of k) (feature_of k)) k
named_in d k =
    list_any-as (λ y. by_contents y.0 y.1.contents k) (λ y. nat_eq (0 + k.object) y.0 && list_any (named_by k) y.1.contents) (enumerate_from 0 d.objects)
    (λ y. any-pulled (nat_eq k.object y.0) (named_by k) y.1.contents ∙ ap (λ n. nat_eq n y.0 && list_any (named_by k) y.1.contents) (let e : k.object ≡ 0 + k.object = omega arith in e))
    ∙ any-at (λ x. list_any (named_by k) x.contents) 0 k.object d.objects
    ∙ at_object k (slice_get d.objects k.object)

---------------------------------------------------------------- what is not answered

opposite_unanswered : (e : Ends) (d : Doc) (o : ℕ) (b : ObjectNo) (g : Option FeatureNo) → IsEndsOf e d.objects
    → option_map_or (λ f. not (has e (new_naming b.0 f.0 o))) g false ≡ option_map_or (λ f. not (list_any (same_value (value.Object (record { 0 = o }))) (values_in d b f))) g false
opposite_unanswered e d o b None ends = refl
opposite_unanswered e d o b (Some f) ends = ap not (ends (new_naming b.0 f.0 o) ∙ named_in d (new_naming b.0 f.0 o))

unanswered : (m : Metamodel) (e : Ends) (d : Doc) (o : ℕ) (f : FeatureNo) (v : Value) → IsEndsOf e d.objects → unanswered_by m e o f v ≡ is_unanswered m d (record { 0 = o }) f v
unanswered m e d o f (value.Object b) ends =
    opposite_unanswered e d o b (lookups.opposite m f) ends
    ∙ ap (λ g. option_map_or (λ h. not (list_any (same_value (value.Object (record { 0 = o }))) (values_in d b h))) g false) (sym (shape_opposite m f))
unanswered m e d o f _ ends = refl

pub one_sided_in : (m : Metamodel) (e : Ends) (d : Doc) → IsEndsOf e d.objects → any_one_sided_by m e d.objects ≡ of_content (is_one_sided m d) d
one_sided_in m e d ends =
    list_any-as (λ x. list_any (one_sided_by m e x.0) x.1.contents) (λ x. list_any (is_one_sided m d (record { 0 = x.0 })) x.1.contents) (enumerate_from 0 d.objects)
    (λ x. list_any-as (one_sided_by m e x.0) (is_one_sided m d (record { 0 = x.0 })) x.1.contents
    (λ c. ap (λ b. not (is_containment m c.feature) && b) (list_any-as (unanswered_by m e x.0 c.feature) (is_unanswered m d (record { 0 = x.0 }) c.feature) c.values (λ v. unanswered m e d x.0 c.feature v ends))))

---------------------------------------------------------------- if nothing has to be answered

none-less : {X : Type 0} (p q : X → Bool) (xs : List X) → ((x : X) → q x ≡ false → p x ≡ false) → list_any q xs ≡ false → list_any p xs ≡ false
none-less p q [] less none = refl
none-less p q (x ∷ xs) less none =
    let both = or_parts (q x) (list_any q xs) none in
    ap (λ b. b || list_any p xs) (less x both.0) ∙ none-less p q xs less both.1

none-of : {X : Type 0} (p : X → Bool) (xs : List X) → ((x : X) → p x ≡ false) → list_any p xs ≡ false
none-of p [] none = refl
none-of p (x ∷ xs) none = ap (λ b. b || list_any p xs) (none x) ∙ none-of p xs none

never_unanswered : (m : Metamodel) (d : Doc) (o : ObjectNo) (f : FeatureNo) → is_some (shape m f).opposite ≡ false → (v : Value) → is_unanswered m d o f v ≡ false
never_unanswered m d o f h (value.Object b) = by (shape m f).opposite h
  where
    by : (g : Option FeatureNo) → is_some g ≡ false → option_map_or (λ k. not (list_any (same_value (value.Object o)) (values_in d b k))) g false ≡ false
    by None h = refl
    by (Some k) h = absurd (true≢false h)
never_unanswered m d o f h _ = refl

unasked : (m : Metamodel) (d : Doc) (o : ObjectNo) (c : Content) → asks_back m c ≡ false → is_one_sided m d o c ≡ false
unasked m d o c = by (is_containment m c.feature)
  where
    by : (b : Bool) → (not b && is_some (shape m c.feature).opposite) ≡ false → (not b && list_any (is_unanswered m d o c.feature) c.values) ≡ false
    by true h = refl
    by false h = none-of (is_unanswered m d o c.feature) c.values (never_unanswered m d o c.feature h)

pub none_asked : (m : Metamodel) (d : Doc) (b : Bool) → b ≡ list_any (λ o. list_any (asks_back m) o.contents) d.objects → b ≡ false → of_content (is_one_sided m d) d ≡ false
none_asked m d b is none =
    none-less (λ x. list_any (is_one_sided m d (record { 0 = x.0 })) x.1.contents) (λ x. list_any (asks_back m) x.1.contents) (enumerate_from 0 d.objects)
    (λ x. none-less (is_one_sided m d (record { 0 = x.0 })) (asks_back m) x.1.contents (unasked m d (record { 0 = x.0 })))
    (any-numbered (λ o. list_any (asks_back m) o.contents) 0 d.objects ∙ sym is ∙ none)
