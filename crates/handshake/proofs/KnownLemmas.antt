-- What follows where a change is not refused: the node lives and has the feature, the value is one of its type, and the end can gain
-- it.
use Rattle.std.proofs.Common.{◌≡◌, ℕ, nat_le, nat_lt, length, slice_get, option_to_list, ◌&&◌, not, Bool, true, false, Option, Some, None, is_some, if◌then◌else◌, refl, sym, ap, ◌∙◌, subst, arith, ◌<◌, List}
use Rattle.std.specs.Option.{option_map_or}
use Rattle.std.proofs.lemmas.Bool.{and_parts, eqb-true, false≢true, or_parts}
use Rattle.std.proofs.lemmas.Option.{none-some, slice_get_past}
use Rattle.mm_meta.proofs.ShapeLemmas.{opposites_are_pairs}
use Rattle.mm_types.specs.Conditions.{◌unless◌, ◌where_so◌, ◌else_by◌}
use Rattle.mm_types.specs.Ends.{has_value}
use Rattle.mm_types.specs.Lookups as lookups
use Rattle.mm_types.specs.OfDocument.{IsOfDocument}
use Rattle.mm_types.specs.Resolved.{Metamodel}
use Rattle.mm_types.specs.Shapes.{Shape, contents_shape, shape, shape_of}
use Rattle.mm_types.specs.declared.feature.Feature.{Feature}
use Rattle.mm_types.specs.declared.numbers.ClassNo.{ClassNo}
use Rattle.mm_types.specs.declared.numbers.FeatureNo.{FeatureNo}
use Rattle.mm_types.specs.declared.numbers.Node.{Node}
use Rattle.mm_types.specs.declared.numbers.Node.TheVariants as node
use Rattle.mm_types.specs.declared.numbers.ObjectNo.{ObjectNo}
use Rattle.mm_types.specs.declared.numbers.ResourceNo.{ResourceNo}
use Rattle.mm_types.specs.declared.end.End.{End}
use Rattle.mm_types.specs.declared.refused.Refused.{Refused}
use Rattle.mm_types.specs.declared.refused.Refused.TheVariants.{NoObject, NoResource, NoFeature, NotSingle, NotMany, WrongType, TextLength, Index, Duplicate, Bound, Recursive, Limit, ResourceExists, NotProxy, Unloaded, Unresolved, Unmatched}
use Rattle.mm_types.specs.declared.value.Value.{Value}
use Rattle.mm_types.specs.declared.value.Value.TheVariants as value
use Rattle.web_uris.specs.Addresses.{uri_part}
use Rattle.models.specs.Legal.{IsLegal, is_short, is_short_text}
use Rattle.models.specs.Model.{Model, reading}
use Rattle.models.proofs.EndLemmas.{values-single}
use Rattle.models.specs.Reading.{Reading, at_end, has_feature, is_live, is_node_live, is_repeat, is_value_live, position_for, takes, has_uri}
use Rattle.handshake.specs.Displaced.{taken_index}
use Rattle.handshake.specs.Refusals.{add_refusal, early_refusal, gain_refusal, is_at_limit, is_full_at, is_recursive, kind_refusal, late_refusal, link_refusal, many_refusal, named_refusal, of_either, set_refusal, single_refusal, type_refusal, uri_refusal, value_of}
use Rattle.proxies.specs.Refusals.{is_mistyped, is_there_already, resolve_refusal, target_refusal}
use Rattle.proxies.specs.Resolving.{is_unmatched, proxy_at, target_at}
use Rattle.proxies.specs.declared.resolved_proxy.ResolvedProxy.{ResolvedProxy}
use Rattle.proxies.proofs.TargetLemmas.{IsFound, found-is}
use Rattle.handshake.specs.declared.act.Act.{Act}
use Rattle.handshake.specs.declared.change.Change.TheVariants.{At, Delete}
use Rattle.handshake.specs.declared.act.Act.TheVariants.{Set, Unset, Add, Remove, RemoveValue, Move}
use Rattle.std.proofs.lemmas.Bool.Decides.{nat_tests}
use Rattle.mm_types.specs.declared.limits.TheConstants.{LIST_VALUES, RESOURCES}
use Rattle.models.specs.Existence.{end_refusal, node_refusal, value_refusal}

---------------------------------------------------------------- the metamodel

-- both features of a pair are references
pub near-reference : (m : Metamodel) → IsOfDocument m → (f g : FeatureNo) → (shape m f).opposite ≡ Some g → (shape m f).is_reference ≡ true
near-reference m d f g h = (opposites_are_pairs m d f g h).near_refers

pub far-reference : (m : Metamodel) → IsOfDocument m → (f g : FeatureNo) → (shape m f).opposite ≡ Some g → (shape m g).is_reference ≡ true
far-reference m d f g h = (opposites_are_pairs m d f g h).far_refers

---------------------------------------------------------------- refusals in order

pub none-unless : (x : Refused) (b : Bool) → (x unless b) ≡ None → b ≡ true
none-unless x true h = refl
none-unless x false h = absurd (none-some x (sym h))

pub none-where_so : (x : Refused) (b : Bool) → (x where_so b) ≡ None → b ≡ false
none-where_so x true h = absurd (none-some x (sym h))
none-where_so x false h = refl

pub none-else_by : (a b : Option Refused) → (a else_by b) ≡ None → (a ≡ None) × (b ≡ None)
none-else_by None b h = (refl, h)
none-else_by (Some x) b h = absurd (none-some x (sym h))

---------------------------------------------------------------- what is named is there

-- the node is a live object, whose class has the feature
pub record IsThere (r : Reading) (n : Node) (f : FeatureNo) : Type 0 where
  pub object : ObjectNo
  pub class : ClassNo
  pub node : n ≡ node.Object object
  pub class_is : r.class object ≡ Some class
  pub has : lookups.has_feature r.metamodel class f ≡ true

there-of : (r : Reading) (o : ObjectNo) (f : FeatureNo) (c : Option ClassNo) → r.class o ≡ c → option_map_or (λ c. lookups.has_feature r.metamodel c f) c false ≡ true → IsThere r (node.Object o) f
there-of r o f None is h = absurd (false≢true h)
there-of r o f (Some c) is h = record { object = o; class = c; node = refl; class_is = is; has = h }

-- the only feature of a resource is `contents`
pub resource-shape : (r : Reading) (k : ResourceNo) (f : FeatureNo) → has_feature r (node.Resource k) f ≡ true → shape r.metamodel f ≡ contents_shape r.metamodel
resource-shape r k f h =
    let m = r.metamodel in
    let same = eqb-true f.0 (length m.features) (and_parts _ _ h).1 in
    let past : slice_get m.features f.0 ≡ None = slice_get_past m.features f.0 (omega (arith, same)) in
    ap (λ (q : Option Feature). option_map_or (λ g. shape_of m f g g.kind) q (contents_shape m)) past

pub resource-keeps-none : (r : Reading) (k : ResourceNo) (f : FeatureNo) → has_feature r (node.Resource k) f ≡ true → (shape r.metamodel f).is_reference ≡ false → ⊥
resource-keeps-none r k f h attribute = false≢true (sym attribute ∙ ap (λ (a : Shape). a.is_reference) (resource-shape r k f h))

-- `contents` has no opposite
pub resource-alone : (r : Reading) (k : ResourceNo) (f g : FeatureNo) → has_feature r (node.Resource k) f ≡ true → (shape r.metamodel f).opposite ≡ Some g → ⊥
resource-alone r k f g h opposite = none-some g (sym (ap (λ (a : Shape). a.opposite) (resource-shape r k f h)) ∙ opposite)

-- a node that has a feature with an opposite is an object
pub feature-there : (r : Reading) (n : Node) (f g : FeatureNo) → (shape r.metamodel f).opposite ≡ Some g → has_feature r n f ≡ true → IsThere r n f
feature-there r (node.Object o) f g opposite h = there-of r o f (r.class o) refl h
feature-there r (node.Resource k) f g opposite h = absurd (resource-alone r k f g h opposite)

---------------------------------------------------------------- early refusals

pub feature-named : (r : Reading) (n : Node) (f : FeatureNo) → end_refusal r (at_end n f) ≡ None → has_feature r n f ≡ true
feature-named r n f h = none-unless NoFeature (has_feature r n f) (none-else_by (node_refusal r n) (NoFeature unless has_feature r n f) h).1

pub value-named : (r : Reading) (n : Node) (f : FeatureNo) (v : Value) → value_refusal r (at_end n f) v ≡ None → (is_value_live r v ≡ true) × (has_feature r n f ≡ true)
value-named r n f v h =
    let both = none-else_by (NoObject unless (is_node_live r n && is_value_live r v)) (end_refusal r (at_end n f)) h in (
      (and_parts (is_node_live r n) (is_value_live r v) (none-unless NoObject (is_node_live r n && is_value_live r v) both.0)).1,
      feature-named r n f both.1,
    )

-- the value exists, and the node exists and has the feature, which is single or not
pub record IsNamed (one : Bool) (r : Reading) (n : Node) (f : FeatureNo) (v : Value) : Type 0 where
  pub live : is_value_live r v ≡ true
  pub there : has_feature r n f ≡ true
  pub single : (shape r.metamodel f).is_single ≡ one

single-named : (r : Reading) (n : Node) (f : FeatureNo) (v : Value) → (value_refusal r (at_end n f) v else_by single_refusal r.metamodel f) ≡ None → IsNamed true r n f v
single-named r n f v h =
    let both = none-else_by (value_refusal r (at_end n f) v) (single_refusal r.metamodel f) h in
    let named = value-named r n f v both.0 in
    record { live = named.0; there = named.1; single = none-unless NotSingle (shape r.metamodel f).is_single both.1 }

many-named : (r : Reading) (n : Node) (f : FeatureNo) (v : Value) → (value_refusal r (at_end n f) v else_by many_refusal r.metamodel f) ≡ None → IsNamed false r n f v
many-named r n f v h =
    let both = none-else_by (value_refusal r (at_end n f) v) (many_refusal r.metamodel f) h in
    let named = value-named r n f v both.0 in
    record { live = named.0; there = named.1; single = none-where_so NotMany (shape r.metamodel f).is_single both.1 }

list-named : (r : Reading) (n : Node) (f : FeatureNo) → (end_refusal r (at_end n f) else_by many_refusal r.metamodel f) ≡ None → (has_feature r n f ≡ true) × ((shape r.metamodel f).is_single ≡ false)
list-named r n f h =
    let both = none-else_by (end_refusal r (at_end n f)) (many_refusal r.metamodel f) h in
    (feature-named r n f both.0, none-where_so NotMany (shape r.metamodel f).is_single both.1)

-- facts if `early_refusal` is None, for each kind of change
pub delete-named : (r : Reading) (o : ObjectNo) → early_refusal r (Delete o) ≡ None → is_live r o ≡ true
delete-named r o h = none-unless NoObject (is_live r o) (none-else_by (NoObject unless is_live r o) (NoResource unless true) h).0

pub set-named : (r : Reading) (n : Node) (f : FeatureNo) (v : Value) → early_refusal r (At (at_end n f) (Set v)) ≡ None → IsNamed true r n f v
set-named r n f v h = single-named r n f v h

pub unset-there : (r : Reading) (n : Node) (f : FeatureNo) → early_refusal r (At (at_end n f) Unset) ≡ None → has_feature r n f ≡ true
unset-there r n f h = feature-named r n f (none-else_by (end_refusal r (at_end n f)) None h).0

pub add-named : (r : Reading) (n : Node) (f : FeatureNo) (v : Value) (i : Option ℕ) → early_refusal r (At (at_end n f) (Add v i)) ≡ None → IsNamed false r n f v
add-named r n f v i h = many-named r n f v h

pub remove-named : (r : Reading) (n : Node) (f : FeatureNo) (i : ℕ) → early_refusal r (At (at_end n f) (Remove i)) ≡ None → (has_feature r n f ≡ true) × ((shape r.metamodel f).is_single ≡ false)
remove-named r n f i h = list-named r n f h

pub take-named : (r : Reading) (n : Node) (f : FeatureNo) (v : Value) → early_refusal r (At (at_end n f) (RemoveValue v)) ≡ None → IsNamed false r n f v
take-named r n f v h = many-named r n f v h

pub move-named : (r : Reading) (n : Node) (f : FeatureNo) (to from : ℕ) → early_refusal r (At (at_end n f) (Move to from)) ≡ None → (has_feature r n f ≡ true) × ((shape r.metamodel f).is_single ≡ false)
move-named r n f to from h = list-named r n f h

-- so the end of an act exists
pub act-there : (r : Reading) (e : End) (a : Act) → early_refusal r (At e a) ≡ None → has_feature r e.node e.feature ≡ true
act-there r e a h = by (value_of a) (none-else_by (named_refusal r e a) (kind_refusal r.metamodel e.feature a) h).0
  where
    by : (q : Option Value) → option_map_or (value_refusal r e) q (end_refusal r e) ≡ None → has_feature r e.node e.feature ≡ true
    by None named = feature-named r e.node e.feature named
    by (Some v) named = (value-named r e.node e.feature v named).1

-- and an act that takes a value out of a list is at a list
pub taken-many : (r : Reading) (e : End) (a : Act) (i : ℕ) → taken_index r e a ≡ Some i → early_refusal r (At e a) ≡ None → (shape r.metamodel e.feature).is_single ≡ false
taken-many r e a i at h = by a at (none-else_by (named_refusal r e a) (kind_refusal r.metamodel e.feature a) h).1
  where
    by : (b : Act) → taken_index r e b ≡ Some i → kind_refusal r.metamodel e.feature b ≡ None → (shape r.metamodel e.feature).is_single ≡ false
    by (Remove j) at kind = none-where_so NotMany (shape r.metamodel e.feature).is_single kind
    by (RemoveValue v) at kind = none-where_so NotMany (shape r.metamodel e.feature).is_single kind
    by _ at kind = absurd (none-some i at)

---------------------------------------------------------------- late refusals

-- a proxy is at the index, and an object of the reference's type, which is not in the list, may take its position
pub record IsResolvable (r : Reading) (e : End) (i : ℕ) (x : ResolvedProxy) : Type 0 where
  pub reference : (shape r.metamodel e.feature).is_reference ≡ true
  pub low : nat_lt i (length (r.values e)) ≡ true
  pub takes : takes r e.feature (value.Object x.object) ≡ true
  pub absent : has_value (r.values e) (value.Object x.object) ≡ false
  pub found : IsFound r e i x
  pub matched : is_unmatched r e x ≡ false

not-true : (a : Bool) → not a ≡ false → a ≡ true
not-true true h = refl
not-true false h = absurd (false≢true (sym h))

-- none of the reasons holds for which a proxy can't be resolved to what it finds
record IsUnrefused (r : Reading) (e : End) (i : ℕ) (q : Option ResolvedProxy) : Type 0 where
  pub typed : is_mistyped r e q ≡ false
  pub low : nat_lt i (length (r.values e)) ≡ true
  pub absent : is_there_already r e q ≡ false
  pub led : is_some q ≡ true
  pub matched : option_map_or (is_unmatched r e) q false ≡ false

unrefused : (r : Reading) (e : End) (i : ℕ) (q : Option ResolvedProxy) → target_refusal r e i q ≡ None → IsUnrefused r e i q
unrefused r e i q h =
    let seven = Unmatched where_so option_map_or (is_unmatched r e) q false in
    let six = Unresolved unless is_some q else_by seven in
    let five = Unloaded where_so option_map_or (λ t. not (has_uri r (uri_part t))) (proxy_at r e i) false else_by six in
    let four = NotProxy unless is_some (proxy_at r e i) else_by five in
    let three = Duplicate where_so is_there_already r e q else_by four in
    let two = Index unless nat_lt i (length (r.values e)) else_by three in
    let type = none-else_by (WrongType where_so is_mistyped r e q) two h in
    let index = none-else_by (Index unless nat_lt i (length (r.values e))) three type.1 in
    let there = none-else_by (Duplicate where_so is_there_already r e q) four index.1 in
    let proxy = none-else_by (NotProxy unless is_some (proxy_at r e i)) five there.1 in
    let loaded = none-else_by (Unloaded where_so option_map_or (λ t. not (has_uri r (uri_part t))) (proxy_at r e i) false) six proxy.1 in
    let led = none-else_by (Unresolved unless is_some q) seven loaded.1 in
    record {
      typed = none-where_so WrongType (is_mistyped r e q) type.0;
      low = none-unless Index (nat_lt i (length (r.values e))) index.0;
      absent = none-where_so Duplicate (is_there_already r e q) there.0;
      led = none-unless Unresolved (is_some q) led.0;
      matched = none-where_so Unmatched (option_map_or (is_unmatched r e) q false) led.1;
    }

resolvable-to : (r : Reading) (e : End) (i : ℕ) (x : ResolvedProxy) → IsFound r e i x → IsUnrefused r e i (Some x) → IsResolvable r e i x
resolvable-to r e i x found h =
    let typed = or_parts (not (shape r.metamodel e.feature).is_reference) (not (takes r e.feature (value.Object x.object))) h.typed in
    record { reference = not-true _ typed.0; low = h.low; takes = not-true _ typed.1; absent = h.absent; found = found; matched = h.matched }

-- the target of a proxy that can be resolved
pub record IsResolved (r : Reading) (e : End) (i : ℕ) : Type 0 where
  pub target : ResolvedProxy
  pub is : target_at r e i ≡ Some target
  pub resolvable : IsResolvable r e i target

pub resolvable : (r : Reading) (e : End) (i : ℕ) → resolve_refusal r e i ≡ None → IsResolved r e i
resolvable r e i h = by (target_at r e i) refl h
  where
    by : (q : Option ResolvedProxy) → target_at r e i ≡ q → target_refusal r e i q ≡ None → IsResolved r e i
    by None is allowed = absurd (false≢true (unrefused r e i None allowed).led)
    by (Some x) is allowed = record { target = x; is = is; resolvable = resolvable-to r e i x (found-is r e i x is) (unrefused r e i (Some x) allowed) }

-- a value is of the feature's type, and short
pub record IsTyped (r : Reading) (f : FeatureNo) (v : Value) : Type 0 where
  pub takes : takes r f v ≡ true
  pub short : is_short v ≡ true

pub typed-of : (r : Reading) (f : FeatureNo) (v : Value) → type_refusal r f v ≡ None → IsTyped r f v
typed-of r f v h =
    let typed = none-else_by (WrongType unless takes r f v) (TextLength unless is_short v) h in
    record { takes = none-unless WrongType (takes r f v) typed.0; short = none-unless TextLength (is_short v) typed.1 }

-- a set that nothing refuses: the value is of the feature's type and short, and the end can have it
pub record IsTaken (r : Reading) (n : Node) (f : FeatureNo) (v : Value) : Type 0 where
  pub takes : takes r f v ≡ true
  pub short : is_short v ≡ true
  pub allowed : set_refusal r (at_end n f) v ≡ None

pub set-taken : (r : Reading) (n : Node) (f : FeatureNo) (v : Value) → late_refusal r (At (at_end n f) (Set v)) ≡ None → IsTaken r n f v
set-taken r n f v h =
    let both = none-else_by (type_refusal r f v) (set_refusal r (at_end n f) v) h in
    let typed = typed-of r f v both.0 in
    record { takes = typed.takes; short = typed.short; allowed = both.1 }

-- an addition that nothing refuses: in addition, the position is in the list or right after its last value
pub record IsAdded (r : Reading) (n : Node) (f : FeatureNo) (v : Value) (i : Option ℕ) : Type 0 where
  pub takes : takes r f v ≡ true
  pub short : is_short v ≡ true
  pub placed : nat_le (position_for r (at_end n f) i) (length (r.values (at_end n f))) ≡ true
  pub allowed : add_refusal r (at_end n f) v i ≡ None

pub add-taken : (r : Reading) (n : Node) (f : FeatureNo) (v : Value) (i : Option ℕ) → late_refusal r (At (at_end n f) (Add v i)) ≡ None → IsAdded r n f v i
add-taken r n f v i h =
    let e = at_end n f in
    let both = none-else_by (type_refusal r f v) _ h in
    let typed = typed-of r f v both.0 in
    let rest = none-else_by (Index unless nat_le (position_for r e i) (length (r.values e))) (add_refusal r e v i) both.1 in
    record { takes = typed.takes; short = typed.short; placed = none-unless Index _ rest.0; allowed = rest.1 }

-- what an addition of a value that the list lacks requires of its end
pub add-gains : (r : Reading) (e : End) (v : Value) (i : Option ℕ) → is_repeat r e v ≡ false → add_refusal r e v i ≡ None → gain_refusal r e v ≡ None
add-gains r e v i new h = subst (λ (b : Bool). (if b then (Duplicate where_so is_some i) else gain_refusal r e v) ≡ None) new h

pub remove-placed : (r : Reading) (n : Node) (f : FeatureNo) (i : ℕ) → late_refusal r (At (at_end n f) (Remove i)) ≡ None → nat_lt i (length (r.values (at_end n f))) ≡ true
remove-placed r n f i h = none-unless Index _ h

pub move-placed : (r : Reading) (n : Node) (f : FeatureNo) (to from : ℕ) → late_refusal r (At (at_end n f) (Move to from)) ≡ None
    → (nat_lt to (length (r.values (at_end n f))) ≡ true) × (nat_lt from (length (r.values (at_end n f))) ≡ true)
move-placed r n f to from h = and_parts _ _ (none-unless Index _ h)

-- a link that nothing refuses: no end that gains is full, none is at the limit, and no object would contain itself
pub record IsLinkable (r : Reading) (e : End) (o : ObjectNo) : Type 0 where
  pub room : of_either (is_full_at r) r e o ≡ false
  pub clear : is_recursive r e o ≡ false
  pub few : of_either (is_at_limit r) r e o ≡ false

pub linkable : (r : Reading) (e : End) (o : ObjectNo) → link_refusal r e o ≡ None → IsLinkable r e o
linkable r e o h =
    let first = none-else_by (Bound where_so of_either (is_full_at r) r e o) _ h in
    let later = none-else_by (Recursive where_so is_recursive r e o) (Limit where_so of_either (is_at_limit r) r e o) first.1 in
    record { room = none-where_so Bound _ first.0; clear = none-where_so Recursive _ later.0; few = none-where_so Limit _ later.1 }

---------------------------------------------------------------- resources

-- facts about the URI of a new resource
pub record UriTaken (r : Reading) (u : List ℕ) : Type 0 where
  pub short : is_short_text u ≡ true
  pub room : length r.uris < RESOURCES
  pub free : has_uri r u ≡ false

pub uri-taken : (r : Reading) (u : List ℕ) → uri_refusal r u ≡ None → UriTaken r u
uri-taken r u late =
    let of_text = none-else_by (TextLength unless is_short_text u) _ late in
    let of_count = none-else_by (Limit unless nat_lt (length r.uris) RESOURCES) (ResourceExists where_so has_uri r u) of_text.1 in
    let room = none-unless Limit (nat_lt (length r.uris) RESOURCES) of_count.0 in
    record {
      short = none-unless TextLength (is_short_text u) of_text.0;
      room = grind (arith, nat_tests);
      free = none-where_so ResourceExists (has_uri r u) of_count.1;
    }

---------------------------------------------------------------- single references

below-limit : (q : Option Value) → nat_le LIST_VALUES (length (option_to_list q)) ≡ false
below-limit None = refl
below-limit (Some v) = refl

pub single-below-limit : (s : Model) (e : End) → IsLegal s → ((shape s.metamodel e.feature).is_reference && (shape s.metamodel e.feature).is_single) ≡ true → is_at_limit (reading s) e ≡ false
single-below-limit s e legal both =
    let parts = and_parts (shape s.metamodel e.feature).is_reference (shape s.metamodel e.feature).is_single both in
    subst (λ (vs : List Value). nat_le LIST_VALUES (length vs) ≡ false) (sym (values-single s e legal parts.0 parts.1)) (below-limit (slice_get ((reading s).values e) 0))
