-- A change that nothing refuses keeps a legal model legal, if it doesn't resolve all proxies.
use Rattle.std.proofs.Common.{◌≡◌, ℕ, zero, suc, ◌≤◌, nat_le, nat_lt, insert, remove, nat_eq, Bool, true, false, ◌&&◌, ◌||◌, not, List, [], ◌∷◌, ◌++◌, filter, map, length, slice_index_or, slice_set, Option, Some, None, unwrap_or, option_map, if◌then◌else◌, refl, sym, ap, ◌∙◌, subst, arith, ◌<◌, IsTrue}
use Rattle.std.specs.List.{All, AllByRecursion, list_any}
use Rattle.std.proofs.lemmas.Bool.{false≢true, true≢false, ltb-true}
use Rattle.std.proofs.lemmas.Bool.Decides.{nat_tests}
use Rattle.std.proofs.lemmas.Option.{none-some}
use Rattle.std.proofs.lemmas.List.{length-set, length-append}
use Rattle.std.proofs.lemmas.List.Elements.{All-append, All-cons, All-nil, All-set}
use Rattle.mm_types.specs.Conditions.{◌unless◌, ◌where_so◌}
use Rattle.mm_types.specs.Ends.{has_value}
use Rattle.mm_types.specs.Lookups as lookups
use Rattle.mm_types.specs.Resolved.{Metamodel}
use Rattle.mm_types.specs.Shapes.{is_full_list, shape}
use Rattle.mm_types.specs.declared.limits.TheConstants.{LIST_VALUES, OBJECTS, RESOURCES}
use Rattle.mm_types.specs.declared.end.End.{End}
use Rattle.mm_types.specs.declared.numbers.FeatureNo.{FeatureNo}
use Rattle.mm_types.specs.declared.numbers.Node.{Node}
use Rattle.mm_types.specs.declared.numbers.Node.TheVariants as node
use Rattle.mm_types.specs.declared.numbers.ObjectNo.{ObjectNo}
use Rattle.mm_types.specs.declared.numbers.ResourceNo.{ResourceNo}
use Rattle.mm_types.specs.declared.refused.Refused.TheVariants.{Abstract, Bound, Limit, NoObject, NoResource}
use Rattle.mm_types.specs.declared.value.Value.{Value}
use Rattle.mm_types.specs.declared.value.Value.TheVariants as value
use Rattle.mm_values.specs.Stored.{Stored, list_changed, nothing_stored}
use Rattle.mm_values.specs.Values.{ObjectState, Objects, ValuesState, change_list, class_of, object_at, stored_under, values_after_edits, with_changed, with_uri, without_object}
use Rattle.mm_types.specs.Lists.{values_after_move}
use Rattle.mm_types.specs.Same.{same_object}
use Rattle.containment.specs.Forest.{is_node_among, subtree}
use Rattle.removal.specs.Outer.{is_in_subtree}
use Rattle.mm_values.specs.declared.value_edit.ValueEdit.{ValueEdit}
use Rattle.mm_values.specs.declared.value_edit.ValueEdit.TheVariants.{DropObject}
use Rattle.links.specs.Holders.{HasNoCycle}
use Rattle.links.specs.Laws.{goes, without_all}
use Rattle.links.specs.LegalSets.{AreOfKind, IsLegalSet}
use Rattle.links.specs.Links.{Links, end, put, shift}
use Rattle.links.proofs.CycleLemmas.{plan_makes_no_cycle}
use Rattle.links.proofs.GoneLemmas.{end-without_nodes}
use Rattle.links.proofs.KindLemmas.{plan_keeps_kinds}
use Rattle.links.proofs.LegalLemmas.{plan_keeps_legal}
use Rattle.models.specs.Legal.{AreLegalLinks, AreLegalUris, IsLegal, IsLegalObject, IsLegalStored, is_legal_end, is_short_text, kinds_of}
use Rattle.models.specs.Model.{Model, attribute_values, kept_values, reading}
use Rattle.models.specs.Reading.{at_end, has_feature, has_resource, is_repeat, position_for, takes}
use Rattle.models.proofs.PlaceLemmas.{legal-at}
use Rattle.resource_docs.specs.declared.doc.Doc.{Doc}
use Rattle.doc_loader.proofs.TypedLemmas.{read-typed}
use Rattle.containment.proofs.PartLemmas.{kinds-are, object-reference}
use Rattle.handshake.specs.declared.act.Act.{Act}
use Rattle.handshake.specs.declared.change.Change.{Change}
use Rattle.handshake.specs.declared.change.Change.TheVariants.{At, Create, Delete, NewResource, ResolveAll, Load}
use Rattle.handshake.specs.declared.act.Act.TheVariants.{Set, Add, Move, Resolve}
use Rattle.handshake.specs.Displaced.{cut_by_new, cut_by_set, cut_link_ends, is_plain_add, is_plain_set}
use Rattle.handshake.specs.Edits.{link_edits}
use Rattle.handshake.specs.Effects.{act_edits, links_after, model_after, put_by, put_under, value_edits, with_value}
use Rattle.handshake.specs.Laws.{KeepsLegal, IsBrought, goes_with}
use Rattle.handshake.specs.Changes.{HasReadDocument, IsDocument}
use Rattle.handshake.specs.FeatureChanges.{loaded_by, resolves_all}
use Rattle.handshake.specs.Refusals.{early_refusal, gain_refusal, is_at_limit, is_full_at, late_refusal}
use Rattle.handshake.proofs.CutLinkEndLemmas.{left-cuts, values-linked}
use Rattle.removal.specs.Laws.{names_of}
use Rattle.handshake.proofs.ActLemmas.{act-made, act-puts}
use Rattle.handshake.proofs.KnownLemmas.{act-there, add-gains, add-named, add-taken, move-named, move-placed, none-else_by, none-unless, none-where_so, resource-keeps-none, set-named, set-taken, taken-many, uri-taken}
use Rattle.handshake.proofs.LegalEndLemmas.{HaveClasses, IsUntouched, cut-end, legal-end-kept, none_goes, put-end, shifted-end, untouched-end}
use Rattle.handshake.proofs.LinkLemmas.{below-limit, near-empty, without_displaced}
use Rattle.handshake.proofs.LoadEndLemmas.{linked-legal, no-fewer, same-classes}
use Rattle.handshake.proofs.LoadLemmas.{few}
use Rattle.handshake.proofs.LoadValueLemmas.{load-values}
use Rattle.handshake.proofs.ListLegalLemmas.{insert-legal, move-legal, remove-legal}
use Rattle.handshake.proofs.PlanLemmas.{add-new, add-site, plan-for, set-new}
use Rattle.std.specs.Str.{bytes_eq}
use Rattle.std.proofs.lemmas.Cmp.{nat_list_eq_equiv}
use Rattle.std.proofs.lemmas.Map.Keys.{IsDistinct-push}
use Rattle.web_uris.specs.Joined.{IsJoined}
use Rattle.handshake.proofs.ProxyLemmas.{proxies-after, read-brings}
use Rattle.web_uris.specs.Addresses.{IsProxyText}
use Rattle.handshake.proofs.ObjectLegalLemmas.{class-append, class-put, created, has-of, keeps-taken, nothing-legal, one-legal, put-at, put-legal}
use Rattle.handshake.proofs.ResolvedLemmas.{resolved-as}
use Rattle.handshake.proofs.ResolveLemmas.{alone-legal, joint-legal}

---------------------------------------------------------------- the objects after a change

-- objects and URIs are legal, each remaining object keeps its class, and each resource still exists
record AreLegalValues (s : Model) (g : Node → Bool) (v : ValuesState) : Type 0 where
  pub count : length v.objects ≤ OBJECTS
  pub objects : All (IsLegalObject s.metamodel) v.objects
  pub classes : HaveClasses g (class_of s.values) (class_of v)
  pub uris : AreLegalUris v.uris
  pub more : length s.values.uris ≤ length v.uris

not-fewer : (us : List (List ℕ)) → length us ≤ length us
not-fewer us = omega arith

same-values : (s : Model) → IsLegal s → AreLegalValues s none_goes s.values
same-values s legal = record { count = legal.count; objects = legal.objects; classes = λ o stays c h. h; uris = legal.uris; more = not-fewer s.values.uris }

-- a list that is put under a feature of an object
put-values : (s : Model) (o : ObjectNo) (f : FeatureNo) (h : Stored) → IsLegal s → ((x : ObjectState) → object_at s.values.objects o ≡ Some x → IsLegalStored s.metamodel x.class f h)
    → AreLegalValues s none_goes (values_after_edits s.values (put_under f h.list h.flag (node.Object o)))
put-values s o f h legal held =
    let P = IsLegalObject s.metamodel in
    record {
      count = rw (length-set s.values.objects o.0 _) legal.count;
      objects = All-set P s.values.objects o.0 _ (put-at s.metamodel (object_at s.values.objects o) f h (legal-at P s.values.objects o.0 tt legal.objects) held) legal.objects;
      classes = λ p stays c is. class-put f h s.values.objects o.0 p.0 ∙ is;
      uris = legal.uris;
      more = not-fewer s.values.uris;
    }

changed-at : (m : Metamodel) (o : Option ObjectState) (f : FeatureNo) (g : List Value → List Value) → IsLegalObject m o → ((x : ObjectState) → o ≡ Some x → IsLegalStored m x.class f (list_changed g (stored_under x f)))
    → IsLegalObject m (option_map (change_list f g) o)
changed-at m None f g legal held = tt
changed-at m (Some x) f g legal held = put-legal m x f (list_changed g (stored_under x f)) legal (held x refl)

change-class : (f : FeatureNo) (g : List Value → List Value) (o : Option ObjectState) → option_map (λ (x : ObjectState). x.class) (option_map (change_list f g) o) ≡ option_map (λ (x : ObjectState). x.class) o
change-class f g None = refl
change-class f g (Some x) = refl

class-changed : (f : FeatureNo) (g : List Value → List Value) (os : Objects) (k i : ℕ)
    → option_map (λ (x : ObjectState). x.class) (slice_index_or (slice_set os k (option_map (change_list f g) (slice_index_or os k None))) i None) ≡ option_map (λ (x : ObjectState). x.class) (slice_index_or os i None)
class-changed f g [] k i = refl
class-changed f g (o ∷ os) zero zero = change-class f g o
class-changed f g (o ∷ os) zero (suc i) = refl
class-changed f g (o ∷ os) (suc k) zero = refl
class-changed f g (o ∷ os) (suc k) (suc i) = class-changed f g os k i

-- a list under a feature of an object is changed
changed-values : (s : Model) (o : ObjectNo) (f : FeatureNo) (g : List Value → List Value) → IsLegal s
    → ((x : ObjectState) → object_at s.values.objects o ≡ Some x → IsLegalStored s.metamodel x.class f (list_changed g (stored_under x f)))
    → AreLegalValues s none_goes (record { objects = with_changed s.values.objects o f g; uris = s.values.uris })
changed-values s o f g legal held =
    let P = IsLegalObject s.metamodel in
    record {
      count = rw (length-set s.values.objects o.0 _) legal.count;
      objects = All-set P s.values.objects o.0 _ (changed-at s.metamodel (object_at s.values.objects o) f g (legal-at P s.values.objects o.0 tt legal.objects) held) legal.objects;
      classes = λ p stays c is. class-changed f g s.values.objects o.0 p.0 ∙ is;
      uris = legal.uris;
      more = not-fewer s.values.uris;
    }

-- only a change of an attribute edits values
of-attribute : (s : Model) (f : FeatureNo) (es : List ValueEdit) → IsLegal s → ((shape s.metamodel f).is_reference ≡ false → AreLegalValues s none_goes (values_after_edits s.values es)) → AreLegalValues s none_goes (values_after_edits s.values (if (shape s.metamodel f).is_reference then [] else es))
of-attribute s f es legal of =
    elim (shape s.metamodel f).is_reference as (λ b. (shape s.metamodel f).is_reference ≡ b → AreLegalValues s none_goes (values_after_edits s.values (if b then [] else es))) [ true ↦ λ _. same-values s legal | false ↦ of ] refl

-- the list of an attribute is the list that its object stores
module _ (s : Model) (legal : IsLegal s) (o : ObjectNo) (f : FeatureNo) (many : (shape s.metamodel f).is_single ≡ false) (has : has_feature (reading s) (node.Object o) f ≡ true) (attribute : (shape s.metamodel f).is_reference ≡ false) where
  abbrev e : End
  e = at_end (node.Object o) f

  pub kept-values : (vs : List Value) → attribute_values (shape s.metamodel f) vs ≡ vs
  kept-values [] = rw many refl
  kept-values (v ∷ vs) = refl

  pub stored-list : (x : ObjectState) → object_at s.values.objects o ≡ Some x → (reading s).values e ≡ (stored_under x f).list
  stored-list x is =
      let a = shape s.metamodel f in
      ap (λ (b : Bool). if b then end s.links e else attribute_values a (kept_values s.values e.node f)) attribute
      ∙ kept-values (kept_values s.values e.node f)
      ∙ ap (λ (q : Option ObjectState). unwrap_or (option_map (λ t. (stored_under t f).list) q) []) is

  pub stored-legal : (x : ObjectState) → object_at s.values.objects o ≡ Some x → IsLegalStored s.metamodel x.class f (stored_under x f)
  stored-legal x is = (subst (IsLegalObject s.metamodel) is (legal-at (IsLegalObject s.metamodel) s.values.objects o.0 tt legal.objects)).1 f

  stored-has : (x : ObjectState) → object_at s.values.objects o ≡ Some x → lookups.has_feature s.metamodel x.class f ≡ true
  stored-has x is = has-of s.metamodel (object_at s.values.objects o) f x is has

  plain-room : (v : Value) → lookups.takes s.metamodel (class_of s.values) f v ≡ true → gain_refusal (reading s) e v ≡ None → (is_full_at (reading s) e ≡ false) × (is_at_limit (reading s) e ≡ false)
  plain-room (value.Object p) takes h = absurd (false≢true (sym attribute ∙ object-reference s.metamodel (class_of s.values) f p takes))
  plain-room _ takes h = let both = none-else_by (Bound where_so is_full_at (reading s) e) (Limit where_so is_at_limit (reading s) e) h in (none-where_so Bound _ both.0, none-where_so Limit _ both.1)

  added-values : (v : Value) (i : Option ℕ) → late_refusal (reading s) (At (at_end (node.Object o) f) (Add v i)) ≡ None → is_repeat (reading s) e v ≡ false
      → AreLegalValues s none_goes (record { objects = with_changed s.values.objects o f (λ vs. insert vs (position_for (reading s) e i) v); uris = s.values.uris })
  added-values v i late new =
      let m = s.metamodel in
      let ask = add-taken (reading s) (node.Object o) f v i late in
      let room = plain-room v ask.takes (add-gains (reading s) e v i new ask.allowed) in
      changed-values s o f (λ vs. insert vs (position_for (reading s) e i) v) legal (λ x is.
      let list = stored-list x is in
      insert-legal m x.class f (stored_under x f) many (stored-has x is) (stored-legal x is) (position_for (reading s) e i) v (keeps-taken m (class_of s.values) f v attribute ask.takes) ask.short
      (subst (λ (vs : List Value). is_full_list (shape m f) (length vs) ≡ false) list room.0) (below-limit _ (subst (λ (vs : List Value). nat_le LIST_VALUES (length vs) ≡ false) list room.1))
      (subst (λ (vs : List Value). ((shape m f).is_unique && has_value vs v) ≡ false) list new))

  taken-values : (i : ℕ) → AreLegalValues s none_goes (record { objects = with_changed s.values.objects o f (λ vs. remove vs i); uris = s.values.uris })
  taken-values i = changed-values s o f (λ vs. remove vs i) legal (λ x is. remove-legal s.metamodel x.class f (stored_under x f) many (stored-has x is) (stored-legal x is) i)

  moved-values : (to from : ℕ) → AreLegalValues s none_goes (record { objects = with_changed s.values.objects o f (λ vs. values_after_move vs to from); uris = s.values.uris })
  moved-values to from = changed-values s o f (λ vs. values_after_move vs to from) legal (λ x is. move-legal s.metamodel x.class f (stored_under x f) many (stored-has x is) (stored-legal x is) to from)

-- one more URI, which no resource has
with-new : (us : List (List ℕ)) (u : List ℕ) → AreLegalUris us → IsJoined u → is_short_text u ≡ true → length us < RESOURCES → list_any (bytes_eq u) us ≡ false
    → AreLegalUris (with_uri us u) × (length us ≤ length (with_uri us u))
with-new us u legal is short room free =
    let added : AreLegalUris (us ++ u ∷ []) = record {
      count = rw (length-append us (u ∷ [])) (omega arith);
      joined = All-append IsJoined us (u ∷ []) legal.joined (All-cons IsJoined u [] is (All-nil IsJoined));
      short = All-append (λ t. IsTrue (is_short_text t)) us (u ∷ []) legal.short (All-cons (λ t. IsTrue (is_short_text t)) u [] short (All-nil (λ t. IsTrue (is_short_text t))));
      distinct = IsDistinct-push nat_list_eq_equiv us u legal.distinct free;
    } in
    let longer : length us ≤ length (us ++ u ∷ []) = rw (length-append us (u ∷ [])) (omega arith) in
    subst (λ (b : Bool). let vs = if b then us else us ++ u ∷ [] in AreLegalUris vs × (length us ≤ length vs)) (sym free) (added, longer)

class-dropped : (os : Objects) (k i : ℕ) → nat_eq i k ≡ false → slice_index_or (slice_set os k None) i None ≡ slice_index_or os i None
class-dropped [] k i other = refl
class-dropped (o ∷ os) zero zero other = absurd (false≢true (sym other))
class-dropped (o ∷ os) zero (suc i) other = refl
class-dropped (o ∷ os) (suc k) zero other = refl
class-dropped (o ∷ os) (suc k) (suc i) other = class-dropped os k i (grind (arith, nat_tests))

-- objects that are not dropped are as they were
pub left-object : (v : ValuesState) (os : List ObjectNo) (p : ObjectNo) → list_any (same_object p) os ≡ false → object_at (values_after_edits v (map DropObject os)).objects p ≡ object_at v.objects p
left-object v [] p stays = refl
left-object v (o ∷ os) p stays =
    let both = or_false (same_object p o) (list_any (same_object p) os) stays in
    left-object (record v { objects = without_object v.objects o }) os p both.1 ∙ class-dropped v.objects o.0 p.0 both.0
  where
    or_false : (a b : Bool) → (a || b) ≡ false → (a ≡ false) × (b ≡ false)
    or_false true b h = absurd (false≢true (sym h))
    or_false false b h = (refl, h)

left-legal : (P : Option ObjectState → Type 0) (v : ValuesState) (os : List ObjectNo) → P None → All P v.objects → All P (values_after_edits v (map DropObject os)).objects
left-legal P v [] none all = all
left-legal P v (o ∷ os) none all = left-legal P (record v { objects = without_object v.objects o }) os none (All-set P v.objects o.0 None none all)

left-length : (v : ValuesState) (os : List ObjectNo) → length (values_after_edits v (map DropObject os)).objects ≡ length v.objects
left-length v [] = refl
left-length v (o ∷ os) = left-length (record v { objects = without_object v.objects o }) os ∙ length-set v.objects o.0 None

pub left-uris : (v : ValuesState) (os : List ObjectNo) → (values_after_edits v (map DropObject os)).uris ≡ v.uris
left-uris v [] = refl
left-uris v (o ∷ os) = left-uris (record v { objects = without_object v.objects o }) os

left-values : (s : Model) → IsLegal s → (os : List ObjectNo) → AreLegalValues s (is_node_among os) (values_after_edits s.values (map DropObject os))
left-values s legal os =
    let uris = left-uris s.values os in
    record {
      count = rw (left-length s.values os) legal.count;
      objects = left-legal (IsLegalObject s.metamodel) s.values os tt legal.objects;
      classes = λ p stays c is. ap (option_map (λ (x : ObjectState). x.class)) (left-object s.values os p stays) ∙ is;
      uris = subst AreLegalUris (sym uris) legal.uris;
      more = subst (λ (us : List (List ℕ)). length s.values.uris ≤ length us) (sym uris) (not-fewer s.values.uris);
    }

-- the objects of a document
load-legal : (s : Model) (k : ResourceNo) (doc : Doc) → IsLegal s → late_refusal (reading s) (Load k doc) ≡ None → IsDocument s.metamodel doc → AreLegalValues s none_goes (model_after s (Load k doc)).values
load-legal s k doc legal late read =
    let made = load-values s.metamodel s.values doc (read-typed s.metamodel read.uri doc legal.metamodel read.read) legal.objects in
    let room = few s k doc legal late in
    let count = made.count in
    record {
      count = omega (arith, count, room);
      objects = made.objects;
      classes = same-classes s k doc legal late read (model_after s (Load k doc)).values made;
      uris = subst AreLegalUris (sym made.uris) legal.uris;
      more = no-fewer s k doc legal late read (model_after s (Load k doc)).values made;
    }

-- an attribute, whose node is an object, after an act
act-values : (s : Model) (n : Node) (f : FeatureNo) (a : Act) → IsLegal s → early_refusal (reading s) (At (at_end n f) a) ≡ None → late_refusal (reading s) (At (at_end n f) a) ≡ None → (shape s.metamodel f).is_reference ≡ false
    → AreLegalValues s none_goes (values_after_edits s.values (act_edits (reading s) (at_end n f) a))
act-values s (node.Object o) f a legal early late attribute =
    let m = s.metamodel in
    let r = reading s in
    let n = node.Object o in
    let e = at_end n f in
    let asked : (b : Act) → a ≡ b → early_refusal r (At e b) ≡ None = λ b is. subst (λ (x : Act). early_refusal r (At e x) ≡ None) is early in
    let allowed : (b : Act) → a ≡ b → late_refusal r (At e b) ≡ None = λ b is. subst (λ (x : Act). late_refusal r (At e x) ≡ None) is late in
    act-made (λ xs. AreLegalValues s none_goes (values_after_edits s.values xs)) r e (same-values s legal) a
    (λ v is.
    let ask = set-taken r n f v (allowed (Set v) is) in
    let h : Stored = record { list = v ∷ []; flag = (shape m f).is_unsettable } in
    let named = set-named r n f v (asked (Set v) is) in
    put-values s o f h legal (λ x e. one-legal m x.class f v named.single (has-of m _ f x e named.there) (keeps-taken m (class_of s.values) f v attribute ask.takes) ask.short))
    (put-values s o f nothing_stored legal (λ x e. nothing-legal m x.class f))
    (λ v i is new. let named = add-named r n f v i (asked (Add v i) is) in added-values s legal o f named.single named.there attribute v i (allowed (Add v i) is) new)
    (λ i at. taken-values s legal o f (taken-many r e a i at early) (act-there r e a early) attribute i)
    (λ to from is. let named = move-named r n f to from (asked (Move to from) is) in moved-values s legal o f named.1 named.0 attribute to from)
act-values s (node.Resource k) f a legal early late attribute = absurd (resource-keeps-none (reading s) k f (act-there (reading s) (at_end (node.Resource k) f) a early) attribute)

values-after : (s : Model) (c : Change) → IsLegal s → early_refusal (reading s) c ≡ None → late_refusal (reading s) c ≡ None → HasReadDocument s.metamodel c → IsBrought c → AreLegalValues s (goes_with (reading s) c) (values_after_edits s.values (value_edits (reading s) c))
values-after s (Create c) legal early late read brought =
    let P = IsLegalObject s.metamodel in
    record {
      count = rw (length-append s.values.objects _) (grind (arith, nat_tests, none-unless Limit _ late));
      objects = All-append P s.values.objects _ legal.objects (All-cons P _ [] (created s.metamodel c (none-unless Abstract _ (none-else_by _ _ early).1)) (All-nil P));
      classes = λ o stays k h. class-append s.values.objects _ o.0 k h;
      uris = legal.uris;
      more = not-fewer s.values.uris;
    }
values-after s (Delete o) legal early late read brought = left-values s legal (subtree (reading s) o)
values-after s (NewResource u) legal early late read is =
    let uri = uri-taken (reading s) u late in
    let us = with-new s.values.uris u legal.uris is uri.short uri.room uri.free in
    record { count = legal.count; objects = legal.objects; classes = λ o stays c h. h; uris = us.0; more = us.1 }
values-after s (At e (Resolve i)) legal early late read brought = same-values s legal
values-after s (At e a) legal early late read brought = of-attribute s e.feature (act_edits (reading s) e a) legal (λ attribute. act-values s e.node e.feature a legal early late attribute)
values-after s (Load k doc) legal early late read brought = load-legal s k doc legal late read
values-after s _ legal early late read brought = same-values s legal

---------------------------------------------------------------- the links after a change

-- the case of a set and an addition that may cut links
set-ends : (s : Model) (n : Node) (f : FeatureNo) (v : Value) → IsLegal s → early_refusal (reading s) (At (at_end n f) (Set v)) ≡ None → late_refusal (reading s) (At (at_end n f) (Set v)) ≡ None → is_plain_set (reading s) (at_end n f) v ≡ false → (d : End)
    → is_legal_end (reading s) d (end (with_value (without_all s.links (names_of (cut_by_set (reading s) (at_end n f) v))) (reading s) (at_end n f) None v) d) ≡ true
set-ends s n f (value.Object o) legal early late h d =
    let e = at_end n f in
    let a = shape s.metamodel f in
    let t = without_displaced s e o in
    let new = set-new s n f o legal early late h in
    let empty = near-empty s legal e o new (set-named (reading s) n f (value.Object o) early).single in
    subst (λ (vs : List Value). is_legal_end (reading s) d (end (put t e (length vs) o a.opposite a.containing) d) ≡ true) (sym empty)
    (put-end s legal e o new (set-taken (reading s) n f (value.Object o) late).takes 0 (omega arith) d)
set-ends s n f v legal early late h d = cut-end s (names_of (cut_by_set (reading s) (at_end n f) v)) legal d

add-ends : (s : Model) (n : Node) (f : FeatureNo) (v : Value) (i : Option ℕ) → IsLegal s → early_refusal (reading s) (At (at_end n f) (Add v i)) ≡ None → late_refusal (reading s) (At (at_end n f) (Add v i)) ≡ None → is_plain_add (reading s) (at_end n f) v ≡ false → (d : End)
    → is_legal_end (reading s) d (end (with_value (without_all s.links (names_of (cut_by_new (reading s) (at_end n f) v))) (reading s) (at_end n f) i v) d) ≡ true
add-ends s n f (value.Object o) i legal early late h d =
    let e = at_end n f in
    let a = shape s.metamodel f in
    let t = without_displaced s e o in
    let at = add-site s n f o i legal early late h in
    subst (λ (k : ℕ). is_legal_end (reading s) d (end (put t e k o a.opposite a.containing) d) ≡ true) at.1
    (put-end s legal e o (add-new s n f o i early late h) (add-taken (reading s) n f (value.Object o) i late).takes (position_for (reading s) e i) at.0 d)
add-ends s n f v i legal early late h d = cut-end s (names_of (cut_by_new (reading s) (at_end n f) v)) legal d

move-ends : (s : Model) (n : Node) (f : FeatureNo) (to from : ℕ) → IsLegal s → late_refusal (reading s) (At (at_end n f) (Move to from)) ≡ None → (shape s.metamodel f).is_reference ≡ true → (d : End) → is_legal_end (reading s) d (end (shift s.links (at_end n f) to from) d) ≡ true
move-ends s n f to from legal late reference d =
    let e = at_end n f in
    let placed = move-placed (reading s) n f to from late in
    let linked = values-linked s e reference in
    shifted-end s e to from legal (ltb-true from _ (subst (λ (vs : List Value). nat_lt from (length vs) ≡ true) linked placed.1)) (ltb-true to _ (subst (λ (vs : List Value). nat_lt to (length vs) ≡ true) linked placed.0)) d

-- the case of a change that loads nothing and doesn't resolve all proxies
ends-by-pairs : (s : Model) (c : Change) → loaded_by c ≡ None → resolves_all c ≡ false → IsLegal s → early_refusal (reading s) c ≡ None → late_refusal (reading s) c ≡ None → (d : End)
    → is_legal_end (reading s) d (end (put_by (without_all s.links (names_of (cut_link_ends (reading s) c))) (reading s) c) d) ≡ true
ends-by-pairs s (At e a) none one legal early late d =
    let r = reading s in
    let asked : (b : Act) → a ≡ b → early_refusal r (At e b) ≡ None = λ b is. subst (λ (x : Act). early_refusal r (At e x) ≡ None) is early in
    let allowed : (b : Act) → a ≡ b → late_refusal r (At e b) ≡ None = λ b is. subst (λ (x : Act). late_refusal r (At e x) ≡ None) is late in
    act-puts (λ ts xs made. is_legal_end r d (end (made (without_all s.links (names_of ts))) d) ≡ true) r e (λ ts. cut-end s (names_of ts) legal d) a
    (λ v is new. set-ends s e.node e.feature v legal (asked (Set v) is) (allowed (Set v) is) new d)
    (λ v i is new. add-ends s e.node e.feature v i legal (asked (Add v i) is) (allowed (Add v i) is) new d)
    (λ to from is reference. move-ends s e.node e.feature to from legal (allowed (Move to from) is) reference d)
    (λ i is.
    resolved-as s legal e i (allowed (Resolve i) is) (λ ts xs us u. is_legal_end (reading s) d (end u d) ≡ true)
    (λ x is alone. alone-legal s legal _ i x is alone d)
    (λ x is g opposite j text stands. joint-legal s legal _ i x is g opposite j text stands d))
ends-by-pairs s ResolveAll none one legal early late d = absurd (true≢false one)
ends-by-pairs s (Load k doc) none one legal early late d = absurd (none-some doc (sym none))
ends-by-pairs s c none one legal early late d = cut-end s (names_of (cut_link_ends (reading s) c)) legal d

ends-after : (s : Model) (c : Change) → loaded_by c ≡ None → resolves_all c ≡ false → IsLegal s → early_refusal (reading s) c ≡ None → late_refusal (reading s) c ≡ None → (d : End)
    → is_legal_end (reading s) d (end (links_after s.links (reading s) c) d) ≡ true
ends-after s c none one legal early late d =
    subst (λ (t : Links). is_legal_end (reading s) d (end (put_by t (reading s) c) d) ≡ true) (sym (left-cuts s c legal early)) (ends-by-pairs s c none one legal early late d)

-- the values that are left at an end are not destroyed
left-stays : (g : Node → Bool) (vs : List Value) → AllByRecursion (λ (w : Value). goes g w ≡ false) (filter (λ w. not (goes g w)) vs)
left-stays g [] = tt
left-stays g (v ∷ vs) =
    elim (goes g v) as (λ b. goes g v ≡ b → AllByRecursion (λ (w : Value). goes g w ≡ false) (if not b then v ∷ filter (λ w. not (goes g w)) vs else filter (λ w. not (goes g w)) vs)) [
      | true ↦ λ _. left-stays g vs
      | false ↦ λ stays. (stays, left-stays g vs)
    ] refl

untouched-left : (g : Node → Bool) (e : End) (vs : List Value) → g e.node ≡ false → AllByRecursion (λ (w : Value). goes g w ≡ false) vs → IsUntouched g e vs
untouched-left g e [] stays all = tt
untouched-left g e (v ∷ vs) stays all = (stays, all)

-- no remaining end has a destroyed object
untouched-after : (s : Model) (c : Change) → IsLegal s → (e : End) → IsUntouched (goes_with (reading s) c) e (end (links_after s.links (reading s) c) e)
untouched-after s (Delete o) legal e =
    let g = is_in_subtree (reading s) o in
    let vs = filter (λ w. not (goes g w)) (end s.links e) in
    subst (IsUntouched g e) (sym (end-without_nodes s.links g legal.links.set e))
    (elim (g e.node) as (λ b. g e.node ≡ b → IsUntouched g e (if b then [] else vs)) [
      | true ↦ λ _. tt
      | false ↦ λ stays. untouched-left g e vs stays (left-stays g (end s.links e))
    ] refl)
untouched-after s _ legal e = untouched-end e _

-- a load leaves legal ends, and each other change does too
load-ends : (s : Model) (c : Change) (doc : Doc) → loaded_by c ≡ Some doc → IsLegal s → early_refusal (reading s) c ≡ None → late_refusal (reading s) c ≡ None → HasReadDocument s.metamodel c → (d : End)
    → is_legal_end (reading (model_after s c)) d (end (model_after s c).links d) ≡ true
load-ends s (Load k doc) x is legal early late read d =
    let typed = read-typed s.metamodel read.uri doc legal.metamodel read.read in
    let there = none-unless NoResource (has_resource (reading s) k) (none-else_by (NoObject unless true) (NoResource unless has_resource (reading s) k) early).1 in
    linked-legal s k doc legal late read typed there (model_after s (Load k doc)).values (load-values s.metamodel s.values doc typed legal.objects) d
load-ends s _ x is legal early late read d = absurd (none-some x is)

ends-legal : (s : Model) (c : Change) → resolves_all c ≡ false → IsLegal s → early_refusal (reading s) c ≡ None → late_refusal (reading s) c ≡ None → HasReadDocument s.metamodel c → IsBrought c → (d : End) → is_legal_end (reading (model_after s c)) d (end (model_after s c).links d) ≡ true
ends-legal s c one legal early late read brought d =
    elim (loaded_by c) as (λ q. loaded_by c ≡ q → is_legal_end (reading (model_after s c)) d (end (model_after s c).links d) ≡ true) [
      | None ↦ λ none. (
          let v = values-after s c legal early late read brought in
          legal-end-kept (goes_with (reading s) c) s (model_after s c).values (model_after s c).links v.classes v.more d _ (untouched-after s c legal d) (ends-after s c none one legal early late d))
      | Some doc ↦ λ is. load-ends s c doc is legal early late read d
    ] refl

links-model_after : (s : Model) (c : Change) → resolves_all c ≡ false → IsLegal s → early_refusal (reading s) c ≡ None → late_refusal (reading s) c ≡ None → HasReadDocument s.metamodel c → IsBrought c → AreLegalLinks (reading (model_after s c)) (links_after s.links (reading s) c)
links-model_after s c one legal early late read brought =
    let m = kinds_of s.metamodel in
    let plan = link_edits (reading s) c in
    let p = plan-for s c one legal early late read in
    record {
      set = subst IsLegalSet p.makes (plan_keeps_legal s.links plan legal.links.set p.fits);
      kinds = subst (AreOfKind m) p.makes (plan_keeps_kinds m (kinds-are s.metamodel legal.metamodel) s.links plan legal.links.kinds p.of_kind);
      forest = subst HasNoCycle p.makes (plan_makes_no_cycle s.links plan legal.links.set p.fits p.no_cycle legal.links.forest);
      ends = ends-legal s c one legal early late read brought;
      proxies = proxies-after IsProxyText s.links (reading s) c (read-brings s.metamodel c read) legal.links.proxies;
    }

---------------------------------------------------------------- both

pub one-keeps-legal : (s : Model) (c : Change) → resolves_all c ≡ false → KeepsLegal s c
one-keeps-legal s c one legal early late read brought =
    let v = values-after s c legal early late read brought in
    record { metamodel = legal.metamodel; count = v.count; objects = v.objects; links = links-model_after s c one legal early late read brought; uris = v.uris }
