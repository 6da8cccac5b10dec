-- The parts that a walk finds, one after another.
use Rattle.std.proofs.Common.{◌≡◌, ◌∙◌, ◌+◌, ◌<◌, ◌++◌, Bool, true, false, List, [], ◌∷◌, Option, Some, None, ℕ, suc, append_assoc, ap, arith, cond, get_or, length, length-append, map, refl, subst, sym, take}
use Rattle.std.specs.Prelude.{OnOk, Result, Ok, Err, flat_map, option_map, unwrap_or, if◌then◌else◌}
use Rattle.std.specs.List.{cons_option, enumerate_from, filter_map, list_any}
use Rattle.std.specs.Option.{option_map_or, option_or}
use Rattle.std.proofs.lemmas.Bool.{false≢true, false_from_ne_true, or_left, or_right}
use Rattle.std.proofs.lemmas.Grind.{flat_map-append}
use Rattle.std.proofs.lemmas.List.{length-map, length-take-le, map-append, take_more, append-nil}
use Rattle.serde_json.specs.Data.{Data, Members}
use Rattle.borrowed_json.specs.View.{view}
use Rattle.borrowed_json.specs.declared.value.Json.{Json}
use Rattle.mm_meta.specs.Containments.{has_containment}
use Rattle.mm_types.specs.Lookups as lookups
use Rattle.mm_types.specs.Resolved.{Metamodel}
use Rattle.mm_types.specs.Shapes.{is_containment, shape}
use Rattle.mm_types.specs.declared.numbers.ClassNo.{ClassNo}
use Rattle.mm_types.specs.declared.numbers.FeatureNo.{FeatureNo}
use Rattle.web_uris.specs.Paths.{new_path, new_step, same_path, with_step}
use Rattle.web_uris.specs.declared.path.Path.{Path}
use Rattle.doc_parts.specs.FoundParts.{FindsBelow, IsPlaced, Knows, Walks, parts_at, parts_under, roots_from}
use Rattle.doc_parts.specs.Parts.{Entry, Part, class_and_members, content_at, entries, entries_in, level_of, new_entry, number_of, parts_from, parts_in, values_of}
use Rattle.doc_parts.specs.Keys.{Key, RootKey, UnderKey}
use Rattle.doc_parts.specs.declared.found.FoundParts.{FoundParts}
use Rattle.doc_parts.proofs.DataLemmas.{entries_of_known}
use Rattle.doc_parts.proofs.WayLemmas.{number_pushed}

number_next : (ps : List Part) (q : Part) (path : Path) (n : ℕ) → number_of ps path ≡ Some n → number_of (ps ++ q ∷ []) path ≡ Some n
number_next ps q path n first = number_pushed path ps q ∙ ap (λ o. option_or o (cond (same_path path q.path) (Some (length ps)) None)) first

number_more : (ps qs : List Part) (path : Path) (n : ℕ) → number_of ps path ≡ Some n → number_of (ps ++ qs) path ≡ Some n
number_more ps [] path n first = ap (λ xs. number_of xs path) (append-nil ps) ∙ first
number_more ps (q ∷ qs) path n first =
    ap (λ xs. number_of xs path) (sym (append_assoc ps (q ∷ []) qs)) ∙ number_more (ps ++ q ∷ []) qs path n (number_next ps q path n first)

---------------------------------------------------------------- one after the other

pub finds_then : (m : Metamodel) (a b c : FoundParts) (n l : ℕ) (f g : Path → List Part) → FindsBelow m a b n l f → FindsBelow m b c n l g → FindsBelow m a c n l (λ path. f path ++ g path)
finds_then m a b c n l f g first second = λ ps p kn num level.
    subst (Knows m c) (append_assoc ps (f p.path) (g p.path)) (second (ps ++ f p.path) p (first ps p kn num level) (number_more ps (f p.path) p.path n num) level)

pub finds_as : (m : Metamodel) (a b : FoundParts) (n l : ℕ) (f g : Path → List Part) → ((path : Path) → f path ≡ g path) → FindsBelow m a b n l f → FindsBelow m a b n l g
finds_as m a b n l f g same first = λ ps p kn num level. subst (λ xs. Knows m b (ps ++ xs)) (same p.path) (first ps p kn num level)

pub finds_nothing : (m : Metamodel) (a : FoundParts) (n l : ℕ) (f : Path → List Part) → ((path : Path) → f path ≡ []) → FindsBelow m a a n l f
finds_nothing m a n l f none = λ ps p kn num level. subst (Knows m a) (sym (ap (λ xs. ps ++ xs) (none p.path) ∙ append-nil ps)) kn

-- the parts that were found stay while capacity is reserved
pub finds_after : (m : Metamodel) (a b c : FoundParts) (n l : ℕ) (f : Path → List Part) → ((k : Metamodel) (ps : List Part) → Knows k a ps → Knows k b ps) → FindsBelow m b c n l f → FindsBelow m a c n l f
finds_after m a b c n l f stays more = λ ps p kn num level. more ps p (stays m ps kn) num level

---------------------------------------------------------------- values

abbrev pub child : Path → List ℕ → Option ℕ → Data → Part
child path name index d = record { path = with_step path (new_step name index); json = d }

pub walks_below : (m : Metamodel) (n : ℕ) (a b : FoundParts) (part level : ℕ) (name : List ℕ) (index : Option ℕ) (d : Data) → Walks m n a b (UnderKey part name index) level d
    → FindsBelow m a b part level (λ path. parts_from m n (child path name index d))
walks_below m n a b part level name index d w = λ ps p kn num lev.
    let e = length-append p.path.steps (new_step name index ∷ []) in
    w ps (child p.path name index d) kn (p.path, num, refl) (lev ∙ ap suc (let next : suc (length p.path.steps) ≡ length (p.path.steps ++ new_step name index ∷ []) = omega (arith, e) in next)) refl

abbrev pub index_for : Bool → ℕ → Option ℕ
index_for single i = if single then None else Some i

under_from : (path : Path) (name : List ℕ) (single : Bool) (k : ℕ) (ds : List Data) (d : Data)
    → map {B = Part} (λ v. record { path = with_step path (new_step name (index_for single v.0)); json = v.1 }) (enumerate_from k (ds ++ d ∷ []))
    ≡ map {B = Part} (λ v. record { path = with_step path (new_step name (index_for single v.0)); json = v.1 }) (enumerate_from k ds) ++ child path name (index_for single (k + length ds)) d ∷ []
under_from path name single k [] d = ap (λ i. child path name (index_for single i) d ∷ []) (let e : k ≡ k + 0 = omega arith in e)
under_from path name single k (x ∷ ds) d =
    ap (λ ps. child path name (index_for single k) x ∷ ps)
    (under_from path name single (k + 1) ds d
    ∙ ap (λ i. map {B = Part} (λ v. record { path = with_step path (new_step name (index_for single v.0)); json = v.1 }) (enumerate_from (k + 1) ds) ++ child path name (index_for single i) d ∷ []) (let e : k + 1 + length ds ≡ k + suc (length ds) = omega arith in e))

taken : (i : ℕ) (vs : List Json) → i < length vs → 0 + length (map view (take i vs)) ≡ i
taken i vs below = let e = length-map (take i vs) view in let f = length-take-le i vs (omega (arith, below)) in omega (arith, e, f)

under_next : (path : Path) (name : List ℕ) (single : Bool) (vs : List Json) (i : ℕ) (v : Json) → i < length vs → v ≡ get_or vs i v
    → parts_under path name single (map view (take (i + 1) vs)) ≡ parts_under path name single (map view (take i vs)) ++ child path name (index_for single i) (view v) ∷ []
under_next path name single vs i v below is =
    ap (λ xs. parts_under path name single (map view xs)) (take_more vs i v below ∙ ap (λ x. take i vs ++ x ∷ []) (sym is))
    ∙ ap (parts_under path name single) (map-append view (take i vs) (v ∷ []))
    ∙ under_from path name single 0 (map view (take i vs)) (view v)
    ∙ ap (λ k. parts_under path name single (map view (take i vs)) ++ child path name (index_for single k) (view v) ∷ []) (taken i vs below)

pub values_next : (F : Part → List Part) (path : Path) (name : List ℕ) (single : Bool) (vs : List Json) (i : ℕ) (v : Json) → i < length vs → v ≡ get_or vs i v
    → flat_map F (parts_under path name single (map view (take i vs))) ++ F (child path name (index_for single i) (view v)) ≡ flat_map F (parts_under path name single (map view (take (i + 1) vs)))
values_next F path name single vs i v below is =
    ap (λ xs. flat_map F (parts_under path name single (map view (take i vs))) ++ xs) (sym (append-nil (F (child path name (index_for single i) (view v)))))
    ∙ sym (flat_map-append F (parts_under path name single (map view (take i vs))) (child path name (index_for single i) (view v) ∷ []))
    ∙ ap (flat_map F) (sym (under_next path name single vs i v below is))

---------------------------------------------------------------- features

pub features_next : (F : Part → List Part) (G : FeatureNo → List Part) (fs : List FeatureNo) (i : ℕ) (d : FeatureNo) → i < length fs
    → flat_map F (flat_map G (take i fs)) ++ flat_map F (G (get_or fs i d)) ≡ flat_map F (flat_map G (take (i + 1) fs))
features_next F G fs i d below =
    sym (flat_map-append F (flat_map G (take i fs)) (G (get_or fs i d)))
    ∙ ap (λ xs. flat_map F (flat_map G (take i fs) ++ xs)) (sym (append-nil (G (get_or fs i d))))
    ∙ ap (flat_map F) (sym (flat_map-append G (take i fs) (get_or fs i d ∷ [])))
    ∙ ap (λ xs. flat_map F (flat_map G xs)) (sym (take_more fs i d below))

none_at : (m : Metamodel) (path : Path) (f : FeatureNo) (o : Option Data) → is_containment m f ≡ false → option_map_or (λ d. parts_in m path (new_entry f d)) o [] ≡ []
none_at m path f None plain = refl
none_at m path f (Some d) plain = rw plain refl

pub no_parts_at : (m : Metamodel) (ms : Members) (f : FeatureNo) (path : Path) → is_containment m f ≡ false → parts_at m path ms f ≡ []
no_parts_at m ms f path plain = none_at m path f (content_at m ms f) plain

abbrev in_by : Metamodel → FeatureNo → Path → Bool → List Data → List Part
in_by m f path contains ds = if contains then parts_under path (lookups.feature_name m f) (shape m f).is_single ds else []

pub parts_at_some : (m : Metamodel) (ms : Members) (f : FeatureNo) (d : Data) (name : List ℕ) (single : Bool) (vs : List Json) (path : Path) → is_containment m f ≡ true → Some d ≡ content_at m ms f
    → name ≡ lookups.feature_name m f → single ≡ (shape m f).is_single → map view vs ≡ values_of m (new_entry f d) → parts_under path name single (map view vs) ≡ parts_at m path ms f
parts_at_some m ms f d name single vs path contains there names singles values =
    ap (λ w. parts_under path w single (map view vs)) names
    ∙ ap (λ b. parts_under path (lookups.feature_name m f) b (map view vs)) singles
    ∙ ap (parts_under path (lookups.feature_name m f) (shape m f).is_single) values
    ∙ ap (λ b. in_by m f path b (values_of m (new_entry f d))) (sym contains)
    ∙ ap (λ o. option_map_or (λ x. parts_in m path (new_entry f x)) o []) there

---------------------------------------------------------------- an object

entry_parts : (m : Metamodel) (path : Path) (f : FeatureNo) (o : Option Data) (es : List Entry) → flat_map (parts_in m path) (cons_option (option_map (new_entry f) o) es)
    ≡ option_map_or (λ d. parts_in m path (new_entry f d)) o [] ++ flat_map (parts_in m path) es
entry_parts m path f None es = refl
entry_parts m path f (Some d) es = refl

entries_parts : (m : Metamodel) (path : Path) (ms : Members) (fs : List FeatureNo) → flat_map (parts_in m path) (filter_map (λ f. option_map (new_entry f) (content_at m ms f)) fs) ≡ flat_map (parts_at m path ms) fs
entries_parts m path ms [] = refl
entries_parts m path ms (f ∷ fs) =
    entry_parts m path f (content_at m ms f) (filter_map (λ g. option_map (new_entry g) (content_at m ms g)) fs)
    ∙ ap (λ xs. parts_at m path ms f ++ xs) (entries_parts m path ms fs)

known_parts : (m : Metamodel) (path : Path) (d : Data) (c : ClassNo) (ms : Members) (fs : List FeatureNo) → Some (c, ms) ≡ class_and_members m d → Some fs ≡ lookups.features m c
    → flat_map (parts_at m path ms) fs ≡ flat_map (parts_in m path) (entries m d)
known_parts m path d c ms fs is features = sym (entries_parts m path ms fs) ∙ ap (flat_map (parts_in m path)) (entries_of_known m (class_and_members m d) c ms fs is features)

abbrev pub Adds : Metamodel → FoundParts → FoundParts → Key → ℕ → Data → ℕ → Type 0
Adds m old new k level d part =
    (ps : List Part) (p : Part) → Knows m old ps → IsPlaced ps k p.path → level ≡ level_of p → d ≡ p.json → Knows m new (ps ++ p ∷ []) × (number_of (ps ++ p ∷ []) p.path ≡ Some part)

-- a part is added with its class and its members
pub added_known : (m : Metamodel) (old new : FoundParts) (k : Key) (level : ℕ) (d : Data) (o : Option (ClassNo × Members)) (part : ℕ) → o ≡ class_and_members m d
    → ((n : Metamodel) (ps : List Part) (p : Part) → Knows n old ps → IsPlaced ps k p.path → level ≡ level_of p → d ≡ p.json → o ≡ class_and_members n p.json → Knows n new (ps ++ p ∷ []) × (number_of (ps ++ p ∷ []) p.path ≡ Some part))
    → Adds m old new k level d part
added_known m old new k level d o part is added = λ ps p kn placed lev json. added m ps p kn placed lev json (is ∙ ap (class_and_members m) json)

pub walked_known : (m : Metamodel) (levels n : ℕ) (a b c : FoundParts) (k : Key) (level below : ℕ) (d : Data) (part : ℕ) (class : ClassNo) (ms : Members) (fs : List FeatureNo) → levels ≡ suc n → Adds m a b k level d part
    → below ≡ suc level → Some (class, ms) ≡ class_and_members m d → Some fs ≡ lookups.features m class
    → FindsBelow m b c part below (λ path. flat_map (parts_from m n) (flat_map (parts_at m path ms) fs)) → Walks m levels a c k level d
walked_known m levels n a b c k level below d part class ms fs count added next is features more = λ ps p kn placed lev json.
    let (kn2, num) = added ps p kn placed lev json in
    subst (Knows m c)
    (append_assoc ps (p ∷ []) (flat_map (parts_from m n) (flat_map (parts_at m p.path ms) fs))
    ∙ ap (λ xs. ps ++ p ∷ flat_map (parts_from m n) xs) (known_parts m p.path d class ms fs is features ∙ ap (λ x. flat_map (parts_in m p.path) (entries m x)) json)
    ∙ ap (λ l. ps ++ parts_from m l p) (sym count))
    (more (ps ++ p ∷ []) p kn2 num (next ∙ ap suc lev))

pub walked_nothing : (m : Metamodel) (levels n : ℕ) (a b : FoundParts) (k : Key) (level : ℕ) (d : Data) (part : ℕ) → levels ≡ suc n → Adds m a b k level d part → entries m d ≡ [] → Walks m levels a b k level d
walked_nothing m levels n a b k level d part count added none = λ ps p kn placed lev json.
    let (kn2, num) = added ps p kn placed lev json in
    subst (Knows m b)
    (ap (λ es. ps ++ p ∷ flat_map (parts_from m n) (flat_map (parts_in m p.path) es)) (sym none)
    ∙ ap (λ x. ps ++ p ∷ flat_map (parts_from m n) (flat_map (parts_in m p.path) (entries m x))) json
    ∙ ap (λ l. ps ++ parts_from m l p) (sym count))
    kn2

class_parts : (m : Metamodel) (path : Path) (d : Data) (c : ClassNo) (ms : Members) → Some (c, ms) ≡ class_and_members m d → flat_map (parts_at m path ms) (unwrap_or (lookups.features m c) []) ≡ flat_map (parts_in m path) (entries m d)
class_parts m path d c ms is =
    sym (entries_parts m path ms (unwrap_or (lookups.features m c) [])) ∙ ap (λ o. flat_map (parts_in m path) (option_map_or (λ k. entries_in m k.0 k.1) o [])) is

-- an object whose class has no containment has no parts
no_parts_of : (m : Metamodel) (ms : Members) (path : Path) (fs : List FeatureNo) → list_any (is_containment m) fs ≡ false → flat_map (parts_at m path ms) fs ≡ []
no_parts_of m ms path [] plain = refl
no_parts_of m ms path (f ∷ fs) plain =
    let here = false_from_ne_true (is_containment m f) (λ q. false≢true (sym plain ∙ or_left (is_containment m f) (list_any (is_containment m) fs) q)) in
    let later = false_from_ne_true (list_any (is_containment m) fs) (λ q. false≢true (sym plain ∙ or_right (is_containment m f) (list_any (is_containment m) fs) q)) in
    ap (λ xs. xs ++ flat_map (parts_at m path ms) fs) (no_parts_at m ms f path here) ∙ no_parts_of m ms path fs later

pub walked_childless : (m : Metamodel) (levels n : ℕ) (a b : FoundParts) (k : Key) (level : ℕ) (d : Data) (part : ℕ) (class : ClassNo) (ms : Members) → levels ≡ suc n → Adds m a b k level d part
    → Some (class, ms) ≡ class_and_members m d → has_containment m class ≡ false → Walks m levels a b k level d
walked_childless m levels n a b k level d part class ms count added is plain = λ ps p kn placed lev json.
    let (kn2, num) = added ps p kn placed lev json in
    subst (Knows m b)
    (ap (λ xs. ps ++ p ∷ flat_map (parts_from m n) xs) (sym (no_parts_of m ms p.path (unwrap_or (lookups.features m class) []) plain) ∙ class_parts m p.path d class ms is ∙ ap (λ x. flat_map (parts_in m p.path) (entries m x)) json)
    ∙ ap (λ l. ps ++ parts_from m l p) (sym count))
    kn2

pub no_class_entries : (m : Metamodel) (d : Data) → None ≡ class_and_members m d → entries m d ≡ []
no_class_entries m d none = sym (ap (λ o. option_map_or (λ k. entries_in m k.0 k.1) o []) none)

pub no_feature_entries : (m : Metamodel) (d : Data) (c : ClassNo) (ms : Members) → Some (c, ms) ≡ class_and_members m d → None ≡ lookups.features m c → entries m d ≡ []
no_feature_entries m d c ms is none =
    sym (ap (λ o. option_map_or (λ k. entries_in m k.0 k.1) o []) is)
    ∙ sym (ap (λ o. filter_map (λ f. option_map (new_entry f) (content_at m ms f)) (unwrap_or o [])) none)

pub ok_more : {X Y P Q : Type 0} (r : Result X Y) → (P → Q) → OnOk r P → OnOk r Q
ok_more (Ok x) f h = f h
ok_more (Err e) f h = h

---------------------------------------------------------------- roots

abbrev pub root : ℕ → Data → Part
root i d = record { path = new_path i []; json = d }

roots_push : (k : ℕ) (ds : List Data) (d : Data) → map {B = Part} (λ v. record { path = new_path v.0 []; json = v.1 }) (enumerate_from k (ds ++ d ∷ []))
    ≡ map {B = Part} (λ v. record { path = new_path v.0 []; json = v.1 }) (enumerate_from k ds) ++ root (k + length ds) d ∷ []
roots_push k [] d = ap (λ i. root i d ∷ []) (let e : k ≡ k + 0 = omega arith in e)
roots_push k (x ∷ ds) d =
    ap (λ ps. root k x ∷ ps)
    (roots_push (k + 1) ds d
    ∙ ap (λ i. map {B = Part} (λ v. record { path = new_path v.0 []; json = v.1 }) (enumerate_from (k + 1) ds) ++ root i d ∷ []) (let e : k + 1 + length ds ≡ k + suc (length ds) = omega arith in e))

pub roots_next : (vs : List Json) (i : ℕ) (v : Json) → i < length vs → v ≡ get_or vs i v → roots_from (map view (take (i + 1) vs)) ≡ roots_from (map view (take i vs)) ++ root i (view v) ∷ []
roots_next vs i v below is =
    ap (λ xs. roots_from (map view xs)) (take_more vs i v below ∙ ap (λ x. take i vs ++ x ∷ []) (sym is))
    ∙ ap roots_from (map-append view (take i vs) (v ∷ []))
    ∙ roots_push 0 (map view (take i vs)) (view v)
    ∙ ap (λ k. roots_from (map view (take i vs)) ++ root k (view v) ∷ []) (taken i vs below)

pub root_walked : (m : Metamodel) (n : ℕ) (a b : FoundParts) (vs : List Json) (i : ℕ) (v : Json) (ps : List Part) → i < length vs → v ≡ get_or vs i v → Walks m n a b (RootKey i) 1 (view v)
    → Knows m a (ps ++ flat_map (parts_from m n) (roots_from (map view (take i vs)))) → Knows m b (ps ++ flat_map (parts_from m n) (roots_from (map view (take (i + 1) vs))))
root_walked m n a b vs i v ps below is walked kn =
    subst (Knows m b)
    (append_assoc ps (flat_map (parts_from m n) (roots_from (map view (take i vs)))) (parts_from m n (root i (view v)))
    ∙ ap (λ xs. ps ++ (flat_map (parts_from m n) (roots_from (map view (take i vs))) ++ xs)) (sym (append-nil (parts_from m n (root i (view v)))))
    ∙ ap (λ xs. ps ++ xs) (sym (flat_map-append (parts_from m n) (roots_from (map view (take i vs))) (root i (view v) ∷ [])))
    ∙ ap (λ xs. ps ++ flat_map (parts_from m n) xs) (sym (roots_next vs i v below is)))
    (walked (ps ++ flat_map (parts_from m n) (roots_from (map view (take i vs)))) (root i (view v)) kn refl refl refl)
