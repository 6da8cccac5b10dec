-- A new link: facts that hold if nothing refuses it, and that it fits after the links that it displaces are cut.
use Rattle.std.proofs.Common.{◌≡◌, ℕ, zero, suc, ◌<◌, ◌≤◌, nat_le, Bool, true, false, List, [], length, slice_get, Option, Some, None, option_map, option_to_list, unwrap_or, if◌then◌else◌, refl, sym, ap, ◌∙◌, subst, arith}
use Rattle.std.specs.List.{list_any}
use Rattle.std.specs.Option.{option_map_or}
use Rattle.std.proofs.lemmas.Bool.{false≢true, or_parts}
use Rattle.std.proofs.lemmas.Bool.Decides.{nat_tests}
use Rattle.std.proofs.lemmas.Option.{none-some, same_Some}
use Rattle.mm_types.specs.Lookups as lookups
use Rattle.mm_types.specs.Resolved.{Metamodel}
use Rattle.mm_types.specs.Same.{node_value, same_feature, same_node, same_value}
use Rattle.mm_types.specs.Shapes.{contents_shape, shape, shape_of}
use Rattle.mm_types.specs.declared.end.End.{End}
use Rattle.mm_types.specs.declared.feature.Feature.{Feature}
use Rattle.mm_types.specs.declared.feature.Kind.{Kind}
use Rattle.mm_types.specs.declared.feature.Kind.TheVariants.{Attribute, Reference}
use Rattle.mm_types.specs.declared.limits.TheConstants.{LIST_VALUES}
use Rattle.mm_types.specs.declared.numbers.FeatureNo.{FeatureNo}
use Rattle.mm_types.specs.declared.numbers.Node.{Node}
use Rattle.mm_types.specs.declared.numbers.Node.TheVariants as node
use Rattle.mm_types.specs.declared.numbers.ObjectNo.{ObjectNo}
use Rattle.mm_types.specs.declared.value.Value.{Value}
use Rattle.mm_types.specs.declared.value.Value.TheVariants as value
use Rattle.mm_meta.proofs.ShapeLemmas.{opposites_are_pairs}
use Rattle.links.specs.declared.plan.Edit.{Edit}
use Rattle.links.specs.Holders.{above, end_containing, holder, node_contained}
use Rattle.links.specs.Laws.{without_all}
use Rattle.links.specs.LegalSets.{IsObject, most}
use Rattle.links.specs.Links.{Links, end, far_end}
use Rattle.links.specs.Plans.{EditFits, FarFitsIn, Has, IsFree, Lacks, MakesNoCycle, put_of}
use Rattle.links.specs.declared.plan.Edit.TheVariants as edit
use Rattle.links.proofs.CutNamedLemmas.{lacks-without_all, length-without_all, without_all_above, without_all_legal, without_all_no_cycle}
use Rattle.mm_types.specs.SameValues.{same_value-self}
use Rattle.links.proofs.PutEndLemmas.{put_outside, same_feature-turned}
use Rattle.links.proofs.SideLemmas.{both_ends_agree}
use Rattle.models.proofs.EndLemmas.{value_at-first, values-single}
use Rattle.models.proofs.PlaceLemmas.{has-at}
use Rattle.models.specs.Legal.{IsLegal, kinds_of}
use Rattle.models.specs.Model.{Model, reading}
use Rattle.models.specs.Reading.{Reading, has_feature, is_repeat, is_within, shape_at}
use Rattle.containment.proofs.PartLemmas.{kinds-are}
use Rattle.handshake.specs.Displaced.{displaced_link_ends, has_already}
use Rattle.proxies.specs.Resolving.{opposite_end}
use Rattle.handshake.specs.Refusals.{is_at_limit, is_recursive_for, of_either}
use Rattle.handshake.proofs.CutLinkEndLemmas.{freed, near-emptied, values-linked}
use Rattle.removal.specs.Laws.{names_of}
use Rattle.handshake.proofs.KnownLemmas.{IsLinkable, far-reference, resource-alone}
use Rattle.handshake.proofs.YieldLemmas.{near-kept}
use Rattle.notice_chain.proofs.ReleasedLemmas.{same_node-turned}

-- a node that has a feature with an opposite is an object
pub object-has : (r : Reading) (n : Node) (f g : FeatureNo) → (shape r.metamodel f).opposite ≡ Some g → has_feature r n f ≡ true → IsObject n
object-has r (node.Object o) f g opposite h = tt
object-has r (node.Resource k) f g opposite h = absurd (resource-alone r k f g h opposite)

---------------------------------------------------------------- what an end lacks

unique-kind : (m : Metamodel) (f : FeatureNo) (x : Feature) (k : Kind) → (shape_of m f x k).is_reference ≡ true → (shape_of m f x k).is_unique ≡ true
unique-kind m f x (Attribute t unique unsettable default) h = absurd (false≢true h)
unique-kind m f x (Reference target containment opposite) h = refl

-- a reference has no value twice
pub reference-unique : (m : Metamodel) (f : FeatureNo) → (shape m f).is_reference ≡ true → (shape m f).is_unique ≡ true
reference-unique m f h = by (lookups.feature m f) h
  where
    by : (o : Option Feature) → (option_map_or (λ g. shape_of m f g g.kind) o (contents_shape m)).is_reference ≡ true → (option_map_or (λ g. shape_of m f g g.kind) o (contents_shape m)).is_unique ≡ true
    by None h = refl
    by (Some x) h = unique-kind m f x x.kind h

one-of : (q : Option Value) (k : ℕ) (v : Value) → slice_get (option_to_list q) k ≡ Some v → unwrap_or q value.Null ≡ v
one-of None k v h = absurd (none-some _ h)
one-of (Some w) zero v h = same_Some _ _ h
one-of (Some w) (suc k) v h = absurd (none-some _ h)

-- a single reference that has another value, or none, lacks the object
pub single-lacks : (s : Model) (e : End) (o : ObjectNo) → IsLegal s → (shape s.metamodel e.feature).is_reference ≡ true → (shape s.metamodel e.feature).is_single ≡ true
    → has_already (reading s) e (value.Object o) ≡ false → Lacks s.links e (value.Object o)
single-lacks s e o legal reference single other k at =
    let is = sym (values-linked s e reference) ∙ values-single s e legal reference single in
    let held = sym (value_at-first s e) ∙ one-of (slice_get ((reading s).values e) 0) k (value.Object o) (subst (λ (vs : List Value). slice_get vs k ≡ Some (value.Object o)) is at) in
    false≢true (sym other ∙ ap (same_value (value.Object o)) held ∙ same_value-self (value.Object o))

-- a list in which the object would be no repetition lacks it
pub many-lacks : (s : Model) (e : End) (o : ObjectNo) → (shape s.metamodel e.feature).is_reference ≡ true → is_repeat (reading s) e (value.Object o) ≡ false → Lacks s.links e (value.Object o)
many-lacks s e o reference new k at =
    let has = has-at (end s.links e) (value.Object o) k at in
    let repeat : is_repeat (reading s) e (value.Object o) ≡ true = rw (reference-unique s.metamodel e.feature reference, values-linked s e reference) has in
    false≢true (sym new ∙ repeat)

-- if an end lacks an object, the far end of the object lacks the node
pub lacks-far : (s : Model) → IsLegal s → (e : End) (o : ObjectNo) → Lacks s.links e (value.Object o) → (g : FeatureNo) → (shape s.metamodel e.feature).opposite ≡ Some g → Lacks s.links (far_end o g) (node_value e.node)
lacks-far s legal e o lacks g opposite k at =
    let back = (opposites_are_pairs s.metamodel legal.metamodel e.feature g opposite).back in
    let there : Has s.links e (value.Object o) = both_ends_agree (kinds_of s.metamodel) s.links legal.links.set legal.links.kinds (far_end o g) e back (k, at) in
    lacks there.0 there.1

---------------------------------------------------------------- a link that may be made

-- nothing refuses a new link of o at e, which lacks it
pub record IsNewLink (s : Model) (e : End) (o : ObjectNo) : Type 0 where
  pub reference : (shape s.metamodel e.feature).is_reference ≡ true
  pub has : has_feature (reading s) e.node e.feature ≡ true
  pub lacks : Lacks s.links e (value.Object o)
  pub linkable : IsLinkable (reading s) e o

-- the links without those that a new link of o at e displaces
abbrev pub without_displaced : Model → End → ObjectNo → Links
without_displaced s e o = without_all s.links (names_of (displaced_link_ends (reading s) e o))

abbrev pub new_edit : Model → End → ℕ → ObjectNo → Edit
new_edit s e i o = put_of e i o (shape s.metamodel e.feature).opposite (shape s.metamodel e.feature).containing

-- a test that fails for both ends of a new link
pub near-of : (p : End → Bool) (r : Reading) (e : End) (o : ObjectNo) → of_either p r e o ≡ false → p e ≡ false
near-of p r e o h = (or_parts (p e) (option_map_or p (opposite_end r e o) false) h).0

pub far-of : (p : End → Bool) (r : Reading) (e : End) (o : ObjectNo) (g : FeatureNo) → (shape_at r e).opposite ≡ Some g → of_either p r e o ≡ false → p (far_end o g) ≡ false
far-of p r e o g opposite h =
    subst (λ (q : Option FeatureNo). option_map_or p (option_map (far_end o) q) false ≡ false) opposite (or_parts (p e) (option_map_or p (opposite_end r e o) false) h).1

pub below-limit : (n : ℕ) → nat_le LIST_VALUES n ≡ false → n < most
below-limit n h = grind (arith, nat_tests)

is-free : (t : Links) (x : Option Node) → ((n : Node) → x ≡ Some n → holder t n ≡ None) → IsFree t x
is-free t None free = tt
is-free t (Some n) free = free n refl

---------------------------------------------------------------- no cycle

-- d is neither x nor below it
abbrev IsClear : Links → Node → Node → Type 0
IsClear s x d = (same_node d x ≡ false) × (list_any (same_node x) (above s d) ≡ false)

clear-from : (s : Model) (x d : Node) → is_within (reading s) x d ≡ false → IsClear s.links x d
clear-from s x d h = let both = or_parts _ _ h in (same_node-turned x d both.0, both.1)

clear-by : (s : Model) (e : End) (o : ObjectNo) (h : FeatureNo) (b : Bool)
    → (if b then is_within (reading s) (node.Object o) e.node else is_within (reading s) e.node (node.Object o)) ≡ false
    → IsClear s.links (if b then node.Object o else e.node) (if b then e else far_end o h).node
clear-by s e o h true is = clear-from s (node.Object o) e.node is
clear-by s e o h false is = clear-from s e.node (node.Object o) is

clear-of : (s : Model) (e : End) (o : ObjectNo) (q : Option FeatureNo) → option_map_or (is_recursive_for (reading s) e o) q false ≡ false
    → (x : Node) (d : End) → node_contained e o q ≡ Some x → end_containing e o q ≡ Some d → IsClear s.links x d.node
clear-of s e o None is x d at_x at_d = absurd (none-some x at_x)
clear-of s e o (Some h) is x d at_x at_d =
    let b = same_feature h e.feature in
    let here : IsClear s.links (if b then node.Object o else e.node) (if b then e else far_end o h).node = clear-by s e o h b (subst (λ (c : Bool). (if c then is_within (reading s) (node.Object o) e.node else is_within (reading s) e.node (node.Object o)) ≡ false) (same_feature-turned e.feature h) is) in
    subst (λ (y : Node). IsClear s.links y d.node) (same_Some _ x at_x) (subst (λ (y : End). IsClear s.links (if b then node.Object o else e.node) y.node) (same_Some _ d at_d) here)

-- a node that is not above another one is not above it after links are cut
clear-cut : (s : Model) (ts : List (End × Value)) → IsLegal s → (x d : Node) → IsClear s.links x d → IsClear (without_all s.links ts) x d
clear-cut s ts legal x d clear = (clear.0, without_all_above s.links ts legal.links.set legal.links.forest d x clear.1)

---------------------------------------------------------------- the put after the cuts

module _ (s : Model) (legal : IsLegal s) (e : End) (o : ObjectNo) (new : IsNewLink s e o) where
  abbrev left : Links
  left = without_displaced s e o

  lacks-left : (d : End) (w : Value) → Lacks s.links d w → Lacks left d w
  lacks-left d w lacks = let m = kinds_of s.metamodel in lacks-without_all m (kinds-are s.metamodel legal.metamodel) s.links (names_of (displaced_link_ends (reading s) e o)) legal.links.set legal.links.kinds d w lacks

  pub fewer-left : (d : End) → length (end left d) ≤ length (end s.links d)
  fewer-left d = let m = kinds_of s.metamodel in length-without_all m (kinds-are s.metamodel legal.metamodel) s.links (names_of (displaced_link_ends (reading s) e o)) legal.links.set legal.links.kinds d

  room-left : (d : End) → (shape s.metamodel d.feature).is_reference ≡ true → is_at_limit (reading s) d ≡ false → length (end left d) < most
  room-left d reference few =
      let was = below-limit (length (end s.links d)) (subst (λ (vs : List Value). nat_le LIST_VALUES (length vs) ≡ false) (values-linked s d reference) few) in
      let less = fewer-left d in
      omega (arith, was, less)

  pub far-lacks : (g : FeatureNo) → (shape s.metamodel e.feature).opposite ≡ Some g → Lacks s.links (far_end o g) (node_value e.node)
  far-lacks = lacks-far s legal e o new.lacks

  far-fits : (q : Option FeatureNo) → (shape s.metamodel e.feature).opposite ≡ q → FarFitsIn left e o q
  far-fits None opposite = tt
  far-fits (Some g) opposite =
      record {
        apart = (opposites_are_pairs s.metamodel legal.metamodel e.feature g opposite).apart;
        object = object-has (reading s) e.node e.feature g opposite new.has;
        absent = lacks-left (far_end o g) (node_value e.node) (far-lacks g opposite);
        room = room-left (far_end o g) (far-reference s.metamodel legal.metamodel e.feature g opposite) (far-of (is_at_limit (reading s)) (reading s) e o g opposite new.linkable.few);
      }

  pub new-fits : (i : ℕ) → i ≤ length (end left e) → EditFits left (new_edit s e i o)
  new-fits i placed = (
    record { in_range = placed; absent = lacks-left e (value.Object o) new.lacks; room = room-left e new.reference (near-of (is_at_limit (reading s)) (reading s) e o new.linkable.few) },
    far-fits (shape s.metamodel e.feature).opposite refl,
    is-free left (node_contained e o (shape s.metamodel e.feature).containing) (λ x part. freed s e o x legal part),
  )

  pub new-outside : (i : ℕ) → i ≤ length (end left e) → MakesNoCycle left (new_edit s e i o)
  new-outside i placed =
      let ts = names_of (displaced_link_ends (reading s) e o) in
      let q = (shape s.metamodel e.feature).containing in
      put_outside left e i o (shape s.metamodel e.feature).opposite q (without_all_legal s.links ts legal.links.set) (new-fits i placed) (without_all_no_cycle s.links ts legal.links.set legal.links.forest)
      (λ x d at_x at_d. clear-cut s ts legal x d.node (clear-of s e o q new.linkable.clear x d at_x at_d))

  -- then a single near end is empty, and a list is as long as it was
  pub near-empty : (shape s.metamodel e.feature).is_single ≡ true → end left e ≡ []
  near-empty single = near-emptied s e o legal new.reference single

  pub near-same : (shape s.metamodel e.feature).is_single ≡ false → end left e ≡ end s.links e
  near-same many = near-kept s legal e o new.has many new.lacks
