-- The names of values in a document: an object of the resource has its number as its name, and an object of another resource its address.
-- No two values of a list get the same name.
use Rattle.std.proofs.Common.{◌≡◌, ◌∙◌, ℕ, Bool, true, false, cond, List, [], Option, Some, None, ap, eqb-true, map, nat_eq, option_map, refl, slice_get, sym}
use Rattle.std.specs.Prelude.{Contains, is_some, not, option_and_then, position, unwrap_or}
use Rattle.std.specs.List.{list_any}
use Rattle.std.specs.Option.{option_map_or, option_or}
use Rattle.std.proofs.lemmas.Bool.{false≢true, true≢false}
use Rattle.std.proofs.lemmas.Option.{none-some, same_Some}
use Rattle.mm_types.specs.Conditions.{◌where_so◌}
use Rattle.mm_types.specs.Lookups as lookups
use Rattle.mm_types.specs.Resolved.{Metamodel}
use Rattle.mm_types.specs.Same.{is_feature, same_object}
use Rattle.mm_types.specs.Shapes.{contents_shape, is_containment, shape_of}
use Rattle.mm_types.specs.declared.feature.Feature.{Feature}
use Rattle.mm_types.specs.declared.feature.Kind.{Kind}
use Rattle.mm_types.specs.declared.feature.Kind.TheVariants.{Attribute, Reference}
use Rattle.mm_types.specs.declared.numbers.FeatureNo.{FeatureNo}
use Rattle.mm_types.specs.declared.numbers.Node.TheVariants as node
use Rattle.mm_types.specs.declared.numbers.ObjectNo.{ObjectNo}
use Rattle.mm_types.specs.declared.numbers.ResourceNo.{ResourceNo}
use Rattle.mm_types.specs.declared.refused.Refused.{Refused}
use Rattle.mm_types.specs.declared.refused.Refused.TheVariants.{Dangling, TooDeep}
use Rattle.mm_types.specs.declared.value.Value.{Value}
use Rattle.mm_types.specs.declared.value.Value.TheVariants as value
use Rattle.links.specs.LegalSets as sets
use Rattle.links.proofs.ShownLemmas.{object_value, proxy_value}
use Rattle.models.specs.Legal.{IsLegal}
use Rattle.models.specs.Model.{Model, reading, values_at}
use Rattle.models.specs.Reading.{Reading, at_end}
use Rattle.models.proofs.PlaceLemmas.{is_target}
use Rattle.containment.specs.Above.{resource_of}
use Rattle.fragment_paths.specs.Finding.{at}
use Rattle.fragment_paths.specs.Fragments.{address, is_in}
use Rattle.fragment_paths.proofs.AddressLemmas.{object-found}
use Rattle.doc_writer.specs.Saved.{has_dangling, is_dangling, is_too_deep, reference_features, save_refusal, targets_under}
use Rattle.doc_writer.specs.Written.{objects_in, written_features}
use Rattle.web_uris.specs.Paths.{with_step}
use Rattle.doc_parts.specs.Parts.{number_of, step_to}
use Rattle.doc_writer.specs.Document.{value_data}
use Rattle.resource_docs.specs.Texts.{base_of}
use Rattle.resource_docs.specs.Values.{object_of, value_of}
use Rattle.round_trip.specs.Parts.{data_of, path_in}
use Rattle.round_trip.specs.TextsLaws.{LeadsBack}
use Rattle.round_trip.specs.Copied.{renamed_value}
use Rattle.round_trip.specs.ValuesLaws.{AreReadAs, parts_of}
use Rattle.round_trip.specs.Readable.{IsReadable}
use Rattle.round_trip.proofs.InsideLemmas.{inside-written}
use Rattle.round_trip.proofs.ValuesListLemmas.{found-among, is-kept, none-passes, object-among, object-at, stands}
use Rattle.round_trip.proofs.EndLemmas.{written-of}
use Rattle.round_trip.proofs.ListLemmas.{mapped-at}
use Rattle.round_trip.proofs.OrderLemmas.{position-there}

---------------------------------------------------------------- what saving refuses

-- none of the refusals of a save applies
pub record IsAllowed (r : Reading) (k : ResourceNo) : Type 0 where
  pub none_dangling : list_any (has_dangling r) (objects_in r k) ≡ false
  pub none_deep : list_any (is_too_deep r) (objects_in r k) ≡ false

not-so : (f : Refused) (b : Bool) (p : Option Refused) → option_or (cond b (Some f) None) p ≡ None → (b ≡ false) × (p ≡ None)
not-so f true p none = absurd (none-some f (sym none))
not-so f false p none = (refl, none)

not-last : (f : Refused) (b : Bool) → cond b (Some f) None ≡ None → b ≡ false
not-last f true none = absurd (none-some f (sym none))
not-last f false none = refl

pub allowed : (r : Reading) (k : ResourceNo) → save_refusal r k ≡ None → IsAllowed r k
allowed r k none =
    let first = not-so Dangling (list_any (has_dangling r) (objects_in r k)) (TooDeep where_so list_any (is_too_deep r) (objects_in r k)) none in
    record { none_dangling = first.0; none_deep = not-last TooDeep (list_any (is_too_deep r) (objects_in r k)) first.1 }

-- what an object of a resource that may be saved refers to is in a resource
not-dangling : (s : Model) (k : ResourceNo) (o : ObjectNo) (f : FeatureNo) (b : ObjectNo) (i : ℕ) → list_any (has_dangling (reading s)) (objects_in (reading s) k) ≡ false → Contains (objects_in (reading s) k) o
    → Contains (written_features (reading s) o) f → is_containment s.metamodel f ≡ false → slice_get (values_at s (at_end (node.Object o) f)) i ≡ Some (value.Object b) → is_dangling (reading s) b ≡ false
not-dangling s k o f b i none inside there other at =
    let r = reading s in
    let here = none-passes (has_dangling r) (objects_in r k) o none inside in
    let under = none-passes (λ g. list_any (is_dangling r) (targets_under r o g)) (reference_features r o) f here (is-kept (λ g. not (is_containment s.metamodel g)) (written_features r o) f there (ap not other)) in
    none-passes (is_dangling r) (targets_under r o f) b under (object-among (values_at s (at_end (node.Object o) f)) i b at)

---------------------------------------------------------------- parts

abbrev IsPartsKind : Kind → Type 0
IsPartsKind (Attribute t unique unsettable default) = ⊥
IsPartsKind (Reference target true opposite) = Unit {0}
IsPartsKind (Reference target false opposite) = ⊥

holds-parts : (m : Metamodel) (f : FeatureNo) (g : Feature) → lookups.feature m f ≡ Some g → lookups.is_container m f ≡ false → is_containment m f ≡ true → IsPartsKind g.kind
holds-parts m f g there plain contains =
    by g.kind (sym (ap (λ (x : Option Feature). is_feature f (option_map_or (λ y. shape_of m f y y.kind) x (contents_shape m)).containing) there) ∙ contains)
  where
    by : (k : Kind) → is_feature f (shape_of m f g k).containing ≡ true → IsPartsKind k
    by (Attribute t unique unsettable default) h = absurd (false≢true h)
    by (Reference target true opposite) h = tt
    by (Reference target false opposite) h = absurd (false≢true (sym (ap (λ (c : Bool). is_feature f (cond c opposite None)) plain) ∙ h))

some-object : (o : Option ℕ) (v : Value) → option_map object_of o ≡ Some v → lookups.is_object v ≡ true
some-object None v h = absurd (none-some v h)
some-object (Some n) v h = ap lookups.is_object (sym (same_Some (object_of n) v h))

---------------------------------------------------------------- names

-- an object of another resource
pub record IsElsewhere (r : Reading) (k : ResourceNo) (b : ObjectNo) : Type 0 where
  pub nowhere : position (same_object b) (objects_in r k) ≡ None
  pub other : is_in r k b ≡ false
  pub text : List ℕ
  pub is : address r b ≡ Some text

-- an object of the resource has a number, and an object of another resource an address
pub data IsNamed (r : Reading) (k : ResourceNo) (b : ObjectNo) : Type 0 where
  Numbered : (n : ℕ) → position (same_object b) (objects_in r k) ≡ Some n → IsNamed r k b
  Addressed : IsElsewhere r k b → IsNamed r k b

module _ (s : Model) (legal : IsLegal s) (k : ResourceNo) (uri : List ℕ) (leads : LeadsBack (reading s) k uri) (fine : IsReadable (reading s) k uri) (read : AreReadAs (reading s) k uri) where
  abbrev os : List ObjectNo
  os = objects_in (reading s) k

  pub name-numbered : (b : ObjectNo) (n : ℕ) → position (same_object b) os ≡ Some n → renamed_value (reading s) os (value.Object b) ≡ value.Object (record { 0 = n })
  name-numbered b n at = ap (λ (x : Option ℕ). option_map_or (λ i. value.Object (record { 0 = i })) x (value.Proxy (unwrap_or (address (reading s) b) []))) at

  pub name-addressed : (b : ObjectNo) (at : IsElsewhere (reading s) k b) → renamed_value (reading s) os (value.Object b) ≡ value.Proxy at.text
  name-addressed b at =
      ap (λ (x : Option ℕ). option_map_or (λ i. value.Object (record { 0 = i })) x (value.Proxy (unwrap_or (address (reading s) b) []))) at.nowhere
      ∙ ap (λ (x : Option (List ℕ)). value.Proxy (unwrap_or x [])) at.is

  has-address : (b : ObjectNo) (j : ResourceNo) → resource_of (reading s).above b ≡ Some j → (t : List ℕ) × (address (reading s) b ≡ Some t)
  has-address b j inside = by (address (reading s) b) refl (object-found s legal b j inside).by_address
    where
      by : (x : Option (List ℕ)) → address (reading s) b ≡ x → option_and_then (at (reading s)) x ≡ Some b → (t : List ℕ) × (address (reading s) b ≡ Some t)
      by None is h = absurd (none-some b h)
      by (Some t) is h = (t, is)

  elsewhere : (b : ObjectNo) (x : Option ResourceNo) → resource_of (reading s).above b ≡ x → is_some x ≡ true → position (same_object b) os ≡ None → IsElsewhere (reading s) k b
  elsewhere b None is some nowhere = absurd (false≢true some)
  elsewhere b (Some j) is some nowhere =
      let t = has-address b j is in
      elim (nat_eq j.0 k.0) as (λ c. nat_eq j.0 k.0 ≡ c → IsElsewhere (reading s) k b) [
        | true ↦ λ same.
            let own : j ≡ k = λ i. record { 0 = eqb-true j.0 k.0 same i } in
            let place = object-at os b (found-among os b (inside-written s legal k b (is ∙ ap Some own))) in
            absurd (none-some place.number (sym nowhere ∙ place.found))
        | false ↦ λ other. record { nowhere = nowhere; other = ap (λ (y : Option ResourceNo). option_map_or (λ (j : ResourceNo). nat_eq j.0 k.0) y false) is ∙ other; text = t.0; is = t.1 }
      ] refl

  not-false : (b : Bool) → not b ≡ false → b ≡ true
  not-false true h = refl
  not-false false h = sym h

  is-object : (o : ObjectNo) (f : FeatureNo) (g : Kind) (i : ℕ) (v : Value) → IsPartsKind g
      → value_of s.metamodel (base_of uri) (parts_of (reading s) k) (path_in (reading s) o) f g (i, value_data (reading s) k (data_of (reading s) k) f v) ≡ Some (renamed_value (reading s) os v) → lookups.is_object (renamed_value (reading s) os v) ≡ true
  is-object o f (Attribute t unique unsettable default) i v parts is = absurd parts
  is-object o f (Reference target true opposite) i v parts is = some-object (number_of (parts_of (reading s) k) (with_step (path_in (reading s) o) (step_to s.metamodel f i))) (renamed_value (reading s) os v) is
  is-object o f (Reference target false opposite) i v parts is = absurd parts

  -- an object that is not in the resource is no part of its objects
  not-contained : (o : ObjectNo) (f : FeatureNo) (b : ObjectNo) (i : ℕ) → Contains os o → Contains (written_features (reading s) o) f → slice_get (values_at s (at_end (node.Object o) f)) i ≡ Some (value.Object b)
      → position (same_object b) os ≡ None → is_containment s.metamodel f ≡ false
  not-contained o f b i inside there at nowhere =
      elim (is_containment s.metamodel f) as (λ c. is_containment s.metamodel f ≡ c → c ≡ false) [
        | true ↦ λ contains.
            let w = written-of s legal o f there in
            let proxy : renamed_value (reading s) os (value.Object b) ≡ value.Proxy (unwrap_or (address (reading s) b) []) = ap (λ (x : Option ℕ). option_map_or (λ i. value.Object (record { 0 = i })) x (value.Proxy (unwrap_or (address (reading s) b) []))) nowhere in
            absurd (false≢true (sym (ap lookups.is_object proxy) ∙ is-object o f w.feature.kind i (value.Object b) (holds-parts s.metamodel f w.feature w.there w.plain contains) (read.values o f w.feature i (value.Object b) inside there w.there at).value))
        | false ↦ λ _. refl
      ] refl

  named-as : (o : ObjectNo) (f : FeatureNo) (b : ObjectNo) (i : ℕ) → Contains os o → Contains (written_features (reading s) o) f → slice_get (values_at s (at_end (node.Object o) f)) i ≡ Some (value.Object b)
      → position (same_object b) os ≡ None → IsElsewhere (reading s) k b
  named-as o f b i inside there at nowhere =
      let other = not-contained o f b i inside there at nowhere in
      elsewhere b (resource_of (reading s).above b) refl (not-false _ (not-dangling s k o f b i (allowed (reading s) k fine.allowed).none_dangling inside there other at)) nowhere

  pub named : (o : ObjectNo) (f : FeatureNo) (b : ObjectNo) (i : ℕ) → Contains os o → Contains (written_features (reading s) o) f → slice_get (values_at s (at_end (node.Object o) f)) i ≡ Some (value.Object b) → IsNamed (reading s) k b
  named o f b i inside there at = by (position (same_object b) os) refl
    where
      by : (q : Option ℕ) → position (same_object b) os ≡ q → IsNamed (reading s) k b
      by None nowhere = Addressed (named-as o f b i inside there at nowhere)
      by (Some n) is = Numbered n is

  ---------------------------------------------------------------- no name twice

  target-named : (b : ObjectNo) → is_target (renamed_value (reading s) os (value.Object b)) ≡ true
  target-named b = by (position (same_object b) os)
    where
      by : (q : Option ℕ) → is_target (option_map_or (λ i. value.Object (record { 0 = i })) q (value.Proxy (unwrap_or (address (reading s) b) []))) ≡ true
      by None = refl
      by (Some n) = refl

  one-object : (a b : ObjectNo) → IsNamed (reading s) k a → IsNamed (reading s) k b → renamed_value (reading s) os (value.Object a) ≡ renamed_value (reading s) os (value.Object b) → value.Object a ≡ value.Object b
  one-object a b (Numbered n x) (Numbered i y) same =
      let number = ap (λ (o : ObjectNo). o.0) (object_value (record { 0 = n }) (record { 0 = i }) (sym (name-numbered a n x) ∙ same ∙ name-numbered b i y)) in
      ap value.Object (same_Some a b (sym (position-there os a n x) ∙ ap (slice_get os) number ∙ position-there os b i y))
  one-object a b (Numbered n x) (Addressed y) same = absurd (true≢false (ap lookups.is_object (sym (name-numbered a n x) ∙ same ∙ name-addressed b y)))
  one-object a b (Addressed x) (Numbered i y) same = absurd (false≢true (ap lookups.is_object (sym (name-addressed a x) ∙ same ∙ name-numbered b i y)))
  one-object a b (Addressed x) (Addressed y) same =
      let text = proxy_value x.text y.text (sym (name-addressed a x) ∙ same ∙ name-addressed b y) in
      ap value.Object (leads.one_address a b y.text (x.is ∙ ap Some text) y.is)

  no-proxy : (o : ObjectNo) (f : FeatureNo) (a : ObjectNo) (t : List ℕ) (i j : ℕ) → Contains os o → IsNamed (reading s) k a → slice_get (values_at s (at_end (node.Object o) f)) i ≡ Some (value.Object a)
      → slice_get (values_at s (at_end (node.Object o) f)) j ≡ Some (value.Proxy t) → renamed_value (reading s) os (value.Object a) ≡ value.Proxy t → ⊥
  no-proxy o f a t i j inside (Numbered n x) first second same = true≢false (ap lookups.is_object (sym (name-numbered a n x) ∙ same))
  no-proxy o f a t i j inside (Addressed x) first second same =
      let vs = values_at s (at_end (node.Object o) f) in
      let text = proxy_value x.text t (sym (name-addressed a x) ∙ same) in
      fine.none_twice o f a t inside (stands vs i (value.Object a) first) (stands vs j (value.Proxy t) second) x.other (x.is ∙ ap Some text)

  one-name : (o : ObjectNo) (f : FeatureNo) (i j : ℕ) (v w : Value) → Contains os o → Contains (written_features (reading s) o) f → slice_get (values_at s (at_end (node.Object o) f)) i ≡ Some v
      → slice_get (values_at s (at_end (node.Object o) f)) j ≡ Some w → renamed_value (reading s) os v ≡ renamed_value (reading s) os w → v ≡ w
  one-name o f i j (value.Object a) (value.Object b) inside there first second same = one-object a b (named o f a i inside there first) (named o f b j inside there second) same
  one-name o f i j (value.Object a) (value.Proxy t) inside there first second same = absurd (no-proxy o f a t i j inside (named o f a i inside there first) first second same)
  one-name o f i j (value.Proxy t) (value.Object b) inside there first second same = absurd (no-proxy o f b t j i inside (named o f b j inside there second) second first (sym same))
  one-name o f i j (value.Proxy t) (value.Proxy u) inside there first second same = same
  one-name o f i j (value.Object a) w inside there first second same = absurd (true≢false (sym (target-named a) ∙ ap is_target same))
  one-name o f i j v (value.Object b) inside there first second same = absurd (false≢true (ap is_target same ∙ target-named b))
  one-name o f i j v w inside there first second same = same

  pub names-apart : (o : ObjectNo) (f : FeatureNo) → Contains os o → Contains (written_features (reading s) o) f → sets.IsDistinct (values_at s (at_end (node.Object o) f))
      → sets.IsDistinct (map (renamed_value (reading s) os) (values_at s (at_end (node.Object o) f)))
  names-apart o f inside there distinct i j v first second =
      let vs = values_at s (at_end (node.Object o) f) in
      let x = mapped-at (renamed_value (reading s) os) vs i v first in
      let y = mapped-at (renamed_value (reading s) os) vs j v second in
      let same = one-name o f i j x.0 y.0 inside there x.1 y.1 (x.2 ∙ sym y.2) in
      distinct i j x.0 x.1 (y.1 ∙ ap Some (sym same))
