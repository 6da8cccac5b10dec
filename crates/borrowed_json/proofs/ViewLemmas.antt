-- A value, level by level, and lists that grow at their end.
use Rattle.std.proofs.Common.{◌≡◌, ◌∙◌, ◌++◌, ℕ, List, [], ◌∷◌, Bool, Bor, Option, Some, None, ap, map, refl, rules, true, false, cond, bytes_eq, true≢false, sym}
use Rattle.std.proofs.lemmas.List.{map-append}
use Rattle.std.proofs.lemmas.List.Sums.{fold-append}
use Rattle.std.proofs.lemmas.Slice.Eq.{bytes_eq-Decides}
use Rattle.json.specs.Token.{Token}
use Rattle.json.specs.Json.{parse_map}
use Rattle.serde_json.specs.Data.{Data, Items, Members, array, object, item, no_items, no_members, put}
use Rattle.serde_json.specs.Find.{get_member}
use Rattle.serde_json.proofs.Views.{get_member-put, get_member-put_other}
use Rattle.borrowed_json.specs.View.{items_view, members_of, members_view, view}
use Rattle.borrowed_json.specs.declared.value.Json.{Json, Array, Null, Object, the_lemmas}

abbrev pub Entry : Type 0
Entry = Bor (List ℕ) × Json

-- the entry that is read past the end of members
abbrev pub no_entry : Entry
no_entry = (record { ref_ptr = (0, 0); now = [] }, Null)

pub view-Array : (v : Bor (List Json)) → view (Array v) ≡ array (items_view v.now)
view-Array v = search (rules, the_lemmas)

pub view-Object : (v : Bor (List Entry)) → view (Object v) ≡ object (members_view v.now)
view-Object v = search (rules, the_lemmas)

abbrev pub items_before : List Json → Items → Items
items_before [] rest = rest
items_before (v ∷ vs) rest = item (view v) (items_before vs rest)

pub items_before-no_items : (vs : List Json) → items_before vs no_items ≡ items_view vs
items_before-no_items [] = refl
items_before-no_items (v ∷ vs) = ap (item (view v)) (items_before-no_items vs)

items_push : (vs : List Json) (v : Json) (rest : Items) → items_before vs (item (view v) rest) ≡ items_before (vs ++ v ∷ []) rest
items_push [] v rest = refl
items_push (w ∷ vs) v rest = ap (item (view w)) (items_push vs v rest)

pub one_more_item : (vs : List Json) (v : Json) (r : Option (Items × List Token)) → parse_map (items_before vs) (parse_map (item (view v)) r) ≡ parse_map (items_before (vs ++ v ∷ [])) r
one_more_item vs v None = refl
one_more_item vs v (Some p) = ap (λ ds. Some (ds, p.1)) (items_push vs v p.0)

-- one more member is put among those before it
pub members_push : (ms : List Entry) (m : Entry) → members_view (ms ++ m ∷ []) ≡ put m.0.now (view m.1) (members_view ms)
members_push ms m =
    ap members_of (map-append (λ (e : Entry). (e.0, view e.1)) ms (m ∷ [])) ∙ fold-append (λ found (e : Bor (List ℕ) × Data). put e.0.now e.1 found) no_members (map (λ (e : Entry). (e.0, view e.1)) ms) ((m.0, view m.1) ∷ [])

pushed_at : (b : Bool) (name k : List ℕ) (d : Data) (ms : Members) → bytes_eq k name ≡ b → get_member name (put k d ms) ≡ cond b (Some d) (get_member name ms)
pushed_at true name k d ms is =
    let same : k ≡ name = (bytes_eq-Decides k name).0 is in
    ap (λ n. get_member n (put k d ms)) (sym same) ∙ get_member-put k d ms
pushed_at false name k d ms is = get_member-put_other name k d ms (λ same. true≢false (sym ((bytes_eq-Decides k name).1 (sym same)) ∙ is))

-- the last value of a key is found
pub get_member-push : (name : List ℕ) (ms : List Entry) (m : Entry) → get_member name (members_view (ms ++ m ∷ [])) ≡ cond (bytes_eq m.0.now name) (Some (view m.1)) (get_member name (members_view ms))
get_member-push name ms m = ap (get_member name) (members_push ms m) ∙ pushed_at _ name m.0.now (view m.1) (members_view ms) refl
