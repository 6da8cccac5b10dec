-- A part inside of a part has less depth, so a walk with more levels than the depth of a document finds nothing more.
use Rattle.std.proofs.Common.{◌≡◌, ◌∙◌, ◌+◌, ◌<◌, ◌≤◌, ◌++◌, Bool, true, false, List, [], ◌∷◌, Option, Some, None, Ordering, Less, Equal, Greater, ℕ, zero, suc, ap, arith, cond, map, refl, sym}
use Rattle.std.specs.Prelude.{codes, flat_map, option_and_then, option_map, unwrap_or}
use Rattle.std.specs.Ordering.{match_ordering, nat_cmp}
use Rattle.std.specs.Cmp.Lexicographic.{slice_cmp}
use Rattle.std.specs.List.{cons_option, enumerate_from, filter_map}
use Rattle.std.specs.Option.{option_map_or}
use Rattle.std.proofs.lemmas.Option.{option_and_then_some, same_Some}
use Rattle.serde_json.specs.Data.{Data, null, boolean, number, string, array, object, Items, no_items, item, Members, no_members, member, depth, items_depth, members_depth}
use Rattle.serde_json.specs.Find.{as_array, as_object, get, get_member}
use Rattle.json_fields.specs.Fields.{has_only, required_at, text, whole_number_of_64}
use Rattle.mm_types.specs.Lookups as lookups
use Rattle.mm_types.specs.Resolved.{Metamodel}
use Rattle.mm_types.specs.Shapes.{is_containment, shape}
use Rattle.mm_types.specs.declared.numbers.ClassNo.{ClassNo}
use Rattle.mm_types.specs.declared.numbers.FeatureNo.{FeatureNo}
use Rattle.web_uris.specs.Paths.{new_path, with_step}
use Rattle.web_uris.specs.declared.path.Path.{Path}
use Rattle.doc_parts.specs.Layout.{Top, Written, new_top, new_written, top, top_fields, written_fields, written_object}
use Rattle.doc_parts.specs.Parts.{Entry, Part, class_and_members, content_at, entries, entries_in, entry_at, list_of, new_entry, parts, parts_from, parts_in, root_parts, step_to, values_of}

---------------------------------------------------------------- what holds of each

abbrev Each : {X : Type 0} → (X → Type 0) → List X → Type 0
Each P [] = Unit {0}
Each P (x ∷ xs) = P x × Each P xs

each-append : {X : Type 0} (P : X → Type 0) (xs ys : List X) → Each P xs → Each P ys → Each P (xs ++ ys)
each-append P [] ys h k = k
each-append P (x ∷ xs) ys (h, hs) k = (h, each-append P xs ys hs k)

each-flat_map : {X Y : Type 0} (P : X → Type 0) (Q : Y → Type 0) (F : X → List Y) (xs : List X) → ((x : X) → P x → Each Q (F x)) → Each P xs → Each Q (flat_map F xs)
each-flat_map P Q F [] inner h = tt
each-flat_map P Q F (x ∷ xs) inner (h, hs) = each-append Q (F x) (flat_map F xs) (inner x h) (each-flat_map P Q F xs inner hs)

flat_map-same : {X Y : Type 0} (P : X → Type 0) (F G : X → List Y) (xs : List X) → ((x : X) → P x → F x ≡ G x) → Each P xs → flat_map F xs ≡ flat_map G xs
flat_map-same P F G [] same h = refl
flat_map-same P F G (x ∷ xs) same (h, hs) = ap (λ ys. ys ++ flat_map F xs) (same x h) ∙ ap (λ ys. G x ++ ys) (flat_map-same P F G xs same hs)

each-some : {Y : Type 0} (P : Y → Type 0) (o : Option Y) (ys : List Y) → ((y : Y) → o ≡ Some y → P y) → Each P ys → Each P (cons_option o ys)
each-some P None ys one h = h
each-some P (Some y) ys one h = (one y refl, h)

each-filter_map : {X Y : Type 0} (P : Y → Type 0) (f : X → Option Y) (xs : List X) → ((x : X) (y : Y) → f x ≡ Some y → P y) → Each P (filter_map f xs)
each-filter_map P f [] one = tt
each-filter_map P f (x ∷ xs) one = each-some P (f x) (filter_map f xs) (one x) (each-filter_map P f xs one)

---------------------------------------------------------------- depths

at_key : (o : Ordering) (a : Option Data) (d e : Data) (n : ℕ) → (a ≡ Some d → depth d ≤ n) → depth e ≤ n → match_ordering o a (Some e) a ≡ Some d → depth d ≤ n
at_key Less a d e n rest here is = rest is
at_key Equal a d e n rest here is = let same : e ≡ d = same_Some e d is in rw (← same) here
at_key Greater a d e n rest here is = rest is

member_depth : (k : List ℕ) (ms : Members) (d : Data) → get_member k ms ≡ Some d → depth d ≤ members_depth ms
member_depth k no_members d is = cc
member_depth k (member l e ms) d is =
    at_key (slice_cmp nat_cmp k l) (get_member k ms) d e (members_depth (member l e ms)) (λ h. let f = member_depth k ms d h in omega (arith, f)) (omega arith) is

got_depth : (k : List ℕ) (d e : Data) → get k d ≡ Some e → suc (depth e) ≤ depth d
got_depth k null e is = cc
got_depth k (boolean b) e is = cc
got_depth k (number n) e is = cc
got_depth k (string s) e is = cc
got_depth k (array ds) e is = cc
got_depth k (object ms) e is = let f = member_depth k ms e is in omega (arith, f)

object_depth : (d : Data) (ms : Members) → as_object d ≡ Some ms → depth d ≡ suc (members_depth ms)
object_depth null ms is = cc
object_depth (boolean b) ms is = cc
object_depth (number n) ms is = cc
object_depth (string s) ms is = cc
object_depth (array ds) ms is = cc
object_depth (object xs) ms is = ap (λ x. suc (members_depth x)) (same_Some xs ms is)

array_depth : (d : Data) (ds : Items) → as_array d ≡ Some ds → depth d ≡ suc (items_depth ds)
array_depth null ds is = cc
array_depth (boolean b) ds is = cc
array_depth (number n) ds is = cc
array_depth (string s) ds is = cc
array_depth (array xs) ds is = ap (λ x. suc (items_depth x)) (same_Some xs ds is)
array_depth (object ms) ds is = cc

---------------------------------------------------------------- what is in an object

if_some : {Y : Type 0} (b : Bool) (o : Option Y) (y : Y) → cond b o None ≡ Some y → o ≡ Some y
if_some true o y is = is
if_some false o y is = cc

mapped_some : {X Y P : Type 0} (f : X → Y) (o : Option X) (y : Y) → option_map f o ≡ Some y → ((x : X) → o ≡ Some x → f x ≡ y → P) → P
mapped_some f None y is go = cc
mapped_some f (Some x) y is go = go x refl (same_Some (f x) y is)

abbrev with_class : Members → ClassNo → ClassNo × Members
with_class ms c = (c, ms)

mapped_second : (o : Option ClassNo) (ms : Members) (k : ClassNo × Members) → option_map (with_class ms) o ≡ Some k → ms ≡ k.1
mapped_second None ms k is = cc
mapped_second (Some x) ms k is = ap (λ y. y.1) (same_Some (with_class ms x) k is)

not_then : (b : Bool) (o : Option Data) (d : Data) → cond b None o ≡ Some d → o ≡ Some d
not_then true o d is = cc
not_then false o d is = is

-- the values of an object's features are two levels below it
features_depth : (d : Data) (w : Written) → written_object d ≡ Some w → suc (suc (members_depth w.features)) ≤ depth d
unfolding written_object
features_depth d w is =
    option_and_then_some (λ f. option_and_then (λ a. Some (f a)) (required_at (codes "features") as_object d)) _ w (if_some (has_only written_fields.keys d) (written_fields.reading d) w is) (λ f made rest.
    option_and_then_some (λ a. Some (f a)) (required_at (codes "features") as_object d) w rest (λ ms there whole.
    option_and_then_some (λ a. Some (new_written a)) (required_at (codes "class") text d) f made (λ c named first.
    option_and_then_some as_object (get (codes "features") d) ms there (λ e got members.
    let deep = got_depth (codes "features") d e got in
    let more = object_depth e ms members in
    let own : w.features ≡ ms = ap (λ x. x.features) (sym (same_Some (f ms) w whole) ∙ sym (ap (λ g. g ms) (same_Some (new_written c) f first))) in
    let same : members_depth w.features ≡ members_depth ms = ap members_depth own in
    omega (arith, deep, more, same)))))

known_depth : (m : Metamodel) (d : Data) (c : ClassNo) (ms : Members) → class_and_members m d ≡ Some (c, ms) → suc (suc (members_depth ms)) ≤ depth d
known_depth m d c ms is =
    option_and_then_some (λ w. option_map (with_class w.features) (lookups.class_by_name m w.class)) (written_object d) (c, ms) is (λ w there named.
    let deep = features_depth d w there in
    let own : w.features ≡ ms = mapped_second (lookups.class_by_name m w.class) w.features (c, ms) named in
    let same : members_depth w.features ≡ members_depth ms = ap members_depth own in
    omega (arith, deep, same))

abbrev IsBelow : ℕ → Entry → Type 0
IsBelow n e = suc (suc (depth e.content)) ≤ n

content_depth : (m : Metamodel) (ms : Members) (f : FeatureNo) (e : Entry) → entry_at m ms f ≡ Some e → depth e.content ≤ members_depth ms
content_depth m ms f e is =
    mapped_some (new_entry f) (content_at m ms f) e is (λ d there own.
    let same : depth e.content ≡ depth d = ap (λ x. depth x.content) (sym own) in
    let deep = member_depth (lookups.feature_name m f) ms d (not_then (lookups.is_container m f) (get_member (lookups.feature_name m f) ms) d there) in
    omega (arith, same, deep))

entries_below : (m : Metamodel) (d : Data) (o : Option (ClassNo × Members)) → class_and_members m d ≡ o → Each (IsBelow (depth d)) (option_map_or (λ k. entries_in m k.0 k.1) o [])
entries_below m d None is = tt
entries_below m d (Some (c, ms)) is =
    each-filter_map (IsBelow (depth d)) (entry_at m ms) (unwrap_or (lookups.features m c) [])
    (λ f e there. let a = content_depth m ms f e there in let b = known_depth m d c ms is in omega (arith, a, b))

---------------------------------------------------------------- values

abbrev AtMost : ℕ → Data → Type 0
AtMost n d = depth d ≤ n

items_below : (ds : Items) (n : ℕ) → items_depth ds ≤ n → Each (AtMost n) (list_of ds)
items_below no_items n h = tt
items_below (item d ds) n h = (omega (arith, h), items_below ds n (omega (arith, h)))

array_below : (d : Data) (o : Option Items) → as_array d ≡ o → Each (AtMost (depth d)) (option_map_or list_of o [])
array_below d None is = tt
array_below d (Some ds) is = let e = array_depth d ds is in items_below ds (depth d) (omega (arith, e))

values_below : (b : Bool) (d : Data) → Each (AtMost (depth d)) (cond b (d ∷ []) (option_map_or list_of (as_array d) []))
values_below true d = (omega arith, tt)
values_below false d = array_below d (as_array d) refl

abbrev PartAtMost : ℕ → Part → Type 0
PartAtMost n p = depth p.json ≤ n

numbered_below : (F : ℕ × Data → Part) (n k : ℕ) (ds : List Data) → ((v : ℕ × Data) → (F v).json ≡ v.1) → Each (AtMost n) ds → Each (PartAtMost n) (map F (enumerate_from k ds))
numbered_below F n k [] own h = tt
numbered_below F n k (d ∷ ds) own (h, hs) = (let e : depth (F (k, d)).json ≡ depth d = ap depth (own (k, d)) in omega (arith, e, h), numbered_below F n (k + 1) ds own hs)

abbrev part_in : Metamodel → Path → FeatureNo → ℕ × Data → Part
part_in m p f v = record { path = with_step p (step_to m f v.0); json = v.1 }

parts_below : (m : Metamodel) (p : Path) (e : Entry) (b : Bool) → Each (PartAtMost (depth e.content)) (cond b (map (part_in m p e.feature) (enumerate_from 0 (values_of m e))) [])
parts_below m p e true = numbered_below (part_in m p e.feature) (depth e.content) 0 (values_of m e) (λ v. refl) (values_below (shape m e.feature).is_single e.content)
parts_below m p e false = tt

abbrev IsInner : ℕ → Part → Type 0
IsInner n p = depth p.json < n

weaker : (n k : ℕ) (ps : List Part) → n < k → Each (PartAtMost n) ps → Each (IsInner k) ps
weaker n k [] less h = tt
weaker n k (p ∷ ps) less (h, hs) = (omega (arith, h, less), weaker n k ps less hs)

inner : (m : Metamodel) (p : Part) → Each (IsInner (depth p.json)) (flat_map (parts_in m p.path) (entries m p.json))
inner m p =
    each-flat_map (IsBelow (depth p.json)) (IsInner (depth p.json)) (parts_in m p.path) (entries m p.json)
    (λ e below. weaker (depth e.content) (depth p.json) (parts_in m p.path e) (omega (arith, below)) (parts_below m p.path e (is_containment m e.feature)))
    (entries_below m p.json (class_and_members m p.json) refl)

---------------------------------------------------------------- levels

-- levels past the depth of a part add nothing
pub more_levels : (m : Metamodel) (n k : ℕ) (p : Part) → depth p.json < n → depth p.json < k → parts_from m n p ≡ parts_from m k p
more_levels m zero k p below other = absurd (omega (arith, below))
more_levels m (suc n) zero p below other = absurd (omega (arith, other))
more_levels m (suc n) (suc k) p below other =
    ap (λ qs. p ∷ qs)
    (flat_map-same (IsInner (depth p.json)) (parts_from m n) (parts_from m k) (flat_map (parts_in m p.path) (entries m p.json))
    (λ q less. more_levels m n k q (omega (arith, less, below)) (omega (arith, less, other))) (inner m p))

---------------------------------------------------------------- roots

roots_depth : (d : Data) (t : Top) → top d ≡ Some t → items_depth t.roots < depth d
unfolding top
roots_depth d t is =
    option_and_then_some (λ f. option_and_then (λ a. Some (f a)) (required_at (codes "roots") as_array d)) _ t (if_some (has_only top_fields.keys d) (top_fields.reading d) t is) (λ f made rest.
    option_and_then_some (λ a. Some (f a)) (required_at (codes "roots") as_array d) t rest (λ ds there whole.
    option_and_then_some (λ a. Some (new_top a)) (required_at (codes "format") whole_number_of_64 d) f made (λ z named first.
    option_and_then_some as_array (get (codes "roots") d) ds there (λ e got items.
    let deep = got_depth (codes "roots") d e got in
    let more = array_depth e ds items in
    let own : t.roots ≡ ds = ap (λ x. x.roots) (sym (same_Some (f ds) t whole) ∙ sym (ap (λ g. g ds) (same_Some (new_top z) f first))) in
    let same : items_depth t.roots ≡ items_depth ds = ap items_depth own in
    omega (arith, deep, more, same)))))

abbrev root_at : ℕ × Data → Part
root_at v = record { path = new_path v.0 []; json = v.1 }

roots_inner : (d : Data) (o : Option Top) → top d ≡ o → Each (IsInner (depth d)) (option_map_or (λ t. map root_at (enumerate_from 0 (list_of t.roots))) o [])
roots_inner d None is = tt
roots_inner d (Some t) is =
    let less = roots_depth d t is in
    weaker (items_depth t.roots) (depth d) _ less (numbered_below root_at (items_depth t.roots) 0 (list_of t.roots) (λ v. refl) (items_below t.roots (items_depth t.roots) (omega arith)))

-- the parts of a document are found in as many levels as it is deep, or more
pub parts_within : (m : Metamodel) (n : ℕ) (d : Data) → depth d ≤ n → parts m d ≡ flat_map (parts_from m n) (root_parts d)
unfolding parts
parts_within m n d within =
    flat_map-same (IsInner (depth d)) (parts_from m (depth d)) (parts_from m n) (root_parts d) (λ p less. more_levels m (depth d) n p less (omega (arith, less, within))) (roots_inner d (top d) refl)
