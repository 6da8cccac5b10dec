-- One more value, content or object is read.
use Rattle.std.proofs.Common.{◌≡◌, ◌∙◌, ◌+◌, ◌<◌, ◌++◌, Bool, true, false, List, [], ◌∷◌, Option, Some, None, ℕ, ap, arith, cond, get_or, length, map, refl, sym, take}
use Rattle.std.specs.Prelude.{◌&&◌, ◌||◌, is_some, not, option_to_list}
use Rattle.std.specs.List.{cons_option, enumerate_from, filter_map, list_any}
use Rattle.std.proofs.lemmas.List.{length-map, length-take-le, map-append, take_more, append-nil}
use Rattle.std.proofs.lemmas.List.Elements.{filter_map-append}
use Rattle.std.proofs.lemmas.List.Folds.{list_any-append}
use Rattle.std.proofs.Math.Bool.{or-false, and-true}
use Rattle.serde_json.specs.Data.{Data}
use Rattle.borrowed_json.specs.View.{view}
use Rattle.borrowed_json.specs.declared.value.Json as json
use Rattle.mm_types.specs.Lookups as lookups
use Rattle.mm_types.specs.Resolved.{Metamodel}
use Rattle.mm_types.specs.Shapes.{shape}
use Rattle.mm_types.specs.declared.feature.Kind.{Kind}
use Rattle.mm_types.specs.declared.feature.Kind.TheVariants.{Attribute, Reference}
use Rattle.mm_types.specs.declared.numbers.FeatureNo.{FeatureNo}
use Rattle.mm_types.specs.declared.value.Value.{Value}
use Rattle.web_uris.specs.Paths.{new_step}
use Rattle.web_uris.specs.declared.path.Path.{Path}
use Rattle.doc_parts.specs.Parts.{Part, step_to}
use Rattle.resource_docs.specs.Reading.{new_values, values_so_far}
use Rattle.resource_docs.specs.Texts.{Base}
use Rattle.resource_docs.specs.Values.{is_link, is_lost, value_of}
use Rattle.resource_docs.specs.declared.values.ReadValues.{ReadValues}

---------------------------------------------------------------- lists

pub enumerate-push : {X : Type 0} (n : ℕ) (xs : List X) (x : X) → enumerate_from n (xs ++ x ∷ []) ≡ enumerate_from n xs ++ (n + length xs, x) ∷ []
enumerate-push n [] x = ap (λ k. (k, x) ∷ []) (let e : n ≡ n + 0 = omega arith in e)
enumerate-push n (y ∷ ys) x =
    ap (λ ps. (n, y) ∷ ps)
    (enumerate-push (n + 1) ys x
    ∙ ap (λ k. enumerate_from (n + 1) ys ++ (k, x) ∷ []) (let e : n + 1 + length ys ≡ n + length (y ∷ ys) = omega arith in e))

cons_one : {Y : Type 0} (o : Option Y) → cons_option o [] ≡ option_to_list o
cons_one None = refl
cons_one (Some y) = refl

pub filter_map-push : {X Y : Type 0} (f : X → Option Y) (xs : List X) (x : X) → filter_map f (xs ++ x ∷ []) ≡ filter_map f xs ++ option_to_list (f x)
filter_map-push f xs x = filter_map-append f xs (x ∷ []) ∙ ap (λ ys. filter_map f xs ++ ys) (cons_one (f x))

pub any-push : {X : Type 0} (p : X → Bool) (xs : List X) (x : X) → list_any p (xs ++ x ∷ []) ≡ list_any p xs || p x
any-push p xs x = list_any-append p xs (x ∷ []) ∙ ap (λ b. list_any p xs || b) (or-false (p x))

pub views_more : (vs : List json.Json) (i : ℕ) (v : json.Json) → i < length vs → v ≡ get_or vs i v → map view (take (i + 1) vs) ≡ map view (take i vs) ++ view v ∷ []
views_more vs i v below is = ap (map view) (take_more vs i v below ∙ ap (λ x. take i vs ++ x ∷ []) (sym is)) ∙ map-append view (take i vs) (v ∷ [])

pub views_taken : (vs : List json.Json) (i : ℕ) → i < length vs → i ≡ length (map view (take i vs))
views_taken vs i below = let e = length-map (take i vs) view in let f = length-take-le i vs (omega (arith, below)) in omega (arith, e, f)

---------------------------------------------------------------- values

pub step_is : (m : Metamodel) (f : FeatureNo) (i : ℕ) (name : List ℕ) (single : Bool) → name ≡ lookups.feature_name m f → single ≡ (shape m f).is_single → new_step name (cond single None (Some i)) ≡ step_to m f i
step_is m f i name single names singles =
    ap (λ w. new_step w (cond single None (Some i))) names ∙ ap (λ b. new_step (lookups.feature_name m f) (cond b None (Some i))) singles

lost_by : (m : Metamodel) (b : Base) (ps : List Part) (path : Path) (f : FeatureNo) (k : Kind) (v : ℕ × Data) → is_lost m b ps k v.1 ≡ is_link k && not (is_some (value_of m b ps path f k v))
lost_by m b ps path f (Attribute t unique unsettable default) v = refl
lost_by m b ps path f (Reference class true opposite) v = refl
lost_by m b ps path f (Reference class false opposite) v = refl

not_lost : (b : Bool) → b && false ≡ false
not_lost true = refl
not_lost false = refl

one_value : (m : Metamodel) (b : Base) (ps : List Part) (path : Path) (f : FeatureNo) (k : Kind) (ds : List Data) (d : Data) (o : Option Value) (lost : Bool) (old : ReadValues)
    → o ≡ value_of m b ps path f k (length ds, d) → lost ≡ is_lost m b ps k d → old ≡ values_so_far m b ps path f k ds
    → new_values (old.values ++ option_to_list o) (old.is_lost || lost) ≡ values_so_far m b ps path f k (ds ++ d ∷ [])
one_value m b ps path f k ds d o lost old is losing before =
    ap (λ r. new_values (r.values ++ option_to_list o) (r.is_lost || lost)) before
    ∙ ap (λ x. new_values (filter_map (value_of m b ps path f k) (enumerate_from 0 ds) ++ option_to_list x) (list_any (is_lost m b ps k) ds || lost)) is
    ∙ ap (λ x. new_values (filter_map (value_of m b ps path f k) (enumerate_from 0 ds) ++ option_to_list (value_of m b ps path f k (length ds, d))) (list_any (is_lost m b ps k) ds || x)) losing
    ∙ ap (λ n. new_values (filter_map (value_of m b ps path f k) (enumerate_from 0 ds) ++ option_to_list (value_of m b ps path f k (n, d))) (list_any (is_lost m b ps k) ds || is_lost m b ps k d)) (let e : length ds ≡ 0 + length ds = omega arith in e)
    ∙ ap (λ vs. new_values vs (list_any (is_lost m b ps k) ds || is_lost m b ps k d)) (sym (ap (filter_map (value_of m b ps path f k)) (enumerate-push 0 ds d) ∙ filter_map-push (value_of m b ps path f k) (enumerate_from 0 ds) (0 + length ds, d)))
    ∙ ap (λ x. new_values (filter_map (value_of m b ps path f k) (enumerate_from 0 (ds ++ d ∷ []))) x) (sym (any-push (is_lost m b ps k) ds d))

-- what is read under a single feature
pub single_value : (m : Metamodel) (b : Base) (ps : List Part) (path : Path) (f : FeatureNo) (k : Kind) (d : Data) (o : Option Value) (link : Bool) (r : ReadValues)
    → o ≡ value_of m b ps path f k (0, d) → link ≡ is_link k → r ≡ new_values (option_to_list o) (link && not (is_some o)) → r ≡ values_so_far m b ps path f k (d ∷ [])
single_value m b ps path f k d o link r is links says =
    says
    ∙ ap (λ l. new_values (option_to_list o) (l && not (is_some o))) links
    ∙ one_value m b ps path f k [] d o (is_link k && not (is_some o)) (new_values [] false) is (ap (λ x. is_link k && not (is_some x)) is ∙ sym (lost_by m b ps path f k (0, d))) refl

pub found_value : (m : Metamodel) (b : Base) (ps : List Part) (path : Path) (f : FeatureNo) (k : Kind) (ds : List Data) (d : Data) (n : ℕ) (o : Option Value) (v : Value) (vs : List Value) (old : ReadValues)
    → n ≡ length ds → o ≡ Some v → o ≡ value_of m b ps path f k (n, d) → old ≡ values_so_far m b ps path f k ds → vs ≡ old.values ++ v ∷ []
    → new_values vs old.is_lost ≡ values_so_far m b ps path f k (ds ++ d ∷ [])
found_value m b ps path f k ds d n o v vs old count some is before more =
    let here : Some v ≡ value_of m b ps path f k (length ds, d) = sym some ∙ is ∙ ap (λ i. value_of m b ps path f k (i, d)) count in
    ap (λ xs. new_values xs old.is_lost) more
    ∙ ap (new_values (old.values ++ v ∷ [])) (sym (or-false old.is_lost))
    ∙ one_value m b ps path f k ds d (Some v) false old here
    (sym (lost_by m b ps path f k (length ds, d) ∙ ap (λ x. is_link k && not (is_some x)) (sym here) ∙ not_lost (is_link k))) before

pub lost_value : (m : Metamodel) (b : Base) (ps : List Part) (path : Path) (f : FeatureNo) (k : Kind) (ds : List Data) (d : Data) (n : ℕ) (o : Option Value) (link : Bool) (old new : ReadValues)
    → n ≡ length ds → o ≡ None → o ≡ value_of m b ps path f k (n, d) → link ≡ is_link k → old ≡ values_so_far m b ps path f k ds → new ≡ new_values old.values (old.is_lost || link)
    → new ≡ values_so_far m b ps path f k (ds ++ d ∷ [])
lost_value m b ps path f k ds d n o link old new count none is links before more =
    let here : None ≡ value_of m b ps path f k (length ds, d) = sym none ∙ is ∙ ap (λ i. value_of m b ps path f k (i, d)) count in
    more
    ∙ ap (λ xs. new_values xs (old.is_lost || link)) (sym (append-nil old.values))
    ∙ one_value m b ps path f k ds d None link old here
    (links ∙ sym (lost_by m b ps path f k (length ds, d) ∙ ap (λ x. is_link k && not (is_some x)) (sym here) ∙ and-true (is_link k))) before
