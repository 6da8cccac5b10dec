-- The keys of an object, and tests of all of them.
use Rattle.std.proofs.Common.{◌≡◌, ◌∙◌, ℕ, List, [], ◌∷◌, Bool, true, false, Bor, Ordering, Less, Equal, Greater, ap, bytes_eq, is_eq, map, nat_cmp, refl, sym}
use Rattle.std.proofs.lemmas.Map.Text.{is_eq-slice_cmp}
use Rattle.std.proofs.lemmas.Slice.Eq.{bytes_eq-Decides}
use Rattle.std.specs.Prelude.{◌&&◌, fold}
use Rattle.std.specs.Cmp.Lexicographic.{slice_cmp}
use Rattle.std.specs.List.{list_all, list_any}
use Rattle.std.specs.Ordering.{match_ordering}
use Rattle.std.proofs.Math.Bool.{and-true}
use Rattle.serde_json.specs.Data.{Data, Members, no_members, member, put}
use Rattle.json_fields.specs.Fields.{keys_of, only_keys}
use Rattle.json_fields.proofs.FieldLemmas.{any_map}
use Rattle.borrowed_json.specs.View.{members_view, view}
use Rattle.borrowed_json.proofs.ViewLemmas.{Entry}

and_swap : (a b c : Bool) → a && (b && c) ≡ b && (a && c)
and_swap true b c = refl
and_swap false true c = refl
and_swap false false c = refl

and_again : (a c : Bool) → a && c ≡ a && (a && c)
and_again true c = refl
and_again false c = refl

and_either : (a b c : Bool) → b && (a && c) ≡ (a && b) && c
and_either true b c = refl
and_either false true c = refl
and_either false false c = refl

put_at : (p : List ℕ → Bool) (o : Ordering) (k l : List ℕ) (d e : Data) (ms : Members) → slice_cmp nat_cmp k l ≡ o → list_all p (keys_of (put k d ms)) ≡ p k && list_all p (keys_of ms)
    → list_all p (keys_of (match_ordering o (member k d (member l e ms)) (member l d ms) (member l e (put k d ms)))) ≡ p k && list_all p (keys_of (member l e ms))
put_at p Less k l d e ms is later = refl
put_at p Equal k l d e ms is later =
    let same : k ≡ l = (bytes_eq-Decides k l).0 (sym (is_eq-slice_cmp k l) ∙ ap is_eq is) in
    and_again (p l) (list_all p (keys_of ms)) ∙ ap (λ n. p n && (p l && list_all p (keys_of ms))) (sym same)
put_at p Greater k l d e ms is later = ap (λ b. p l && b) later ∙ and_swap (p l) (p k) (list_all p (keys_of ms))

all_put : (p : List ℕ → Bool) (k : List ℕ) (d : Data) (ms : Members) → list_all p (keys_of (put k d ms)) ≡ p k && list_all p (keys_of ms)
all_put p k d no_members = refl
all_put p k d (member l e ms) = put_at p (slice_cmp nat_cmp k l) k l d e ms refl (all_put p k d ms)

all_onto : (p : List ℕ → Bool) (old : Members) (ms : List Entry) → list_all p (keys_of (fold (λ found (m : Bor (List ℕ) × Data). put m.0.now m.1 found) old (map (λ (m : Entry). (m.0, view m.1)) ms))) ≡ list_all (λ (m : Entry). p m.0.now) ms && list_all p (keys_of old)
all_onto p old [] = refl
all_onto p old (m ∷ ms) =
    all_onto p (put m.0.now (view m.1) old) ms ∙ ap (λ b. list_all (λ (e : Entry). p e.0.now) ms && b) (all_put p m.0.now (view m.1) old)
    ∙ and_either (p m.0.now) (list_all (λ (e : Entry). p e.0.now) ms) (list_all p (keys_of old))

-- a test of all keys is one of all members as they are written
pub all_keys : (p : List ℕ → Bool) (ms : List Entry) → list_all p (keys_of (members_view ms)) ≡ list_all (λ (m : Entry). p m.0.now) ms
all_keys p ms = all_onto p no_members ms ∙ and-true (list_all (λ (m : Entry). p m.0.now) ms)

only_keys-all : (names : List (List ℕ)) (ms : Members) → only_keys names ms ≡ list_all (λ k. list_any (λ n. bytes_eq n k) names) (keys_of ms)
only_keys-all names no_members = refl
only_keys-all names (member k d ms) = ap (λ b. list_any (λ n. bytes_eq n k) names && b) (only_keys-all names ms)

all_named : (names : List (Bor (List ℕ))) (ms : List Entry) → list_all (λ (m : Entry). list_any (λ n. bytes_eq n m.0.now) (map (λ n. n.now) names)) ms ≡ list_all (λ (m : Entry). list_any (λ n. bytes_eq n.now m.0.now) names) ms
all_named names [] = refl
all_named names (m ∷ ms) = (λ i. any_map names m.0.now i && all_named names ms i)

pub keys_among : (names : List (Bor (List ℕ))) (ms : List Entry) → list_all (λ (m : Entry). list_any (λ n. bytes_eq n.now m.0.now) names) ms ≡ only_keys (map (λ n. n.now) names) (members_view ms)
keys_among names ms =
    sym (only_keys-all (map (λ n. n.now) names) (members_view ms) ∙ all_keys (λ k. list_any (λ n. bytes_eq n k) (map (λ n. n.now) names)) ms ∙ all_named names ms)
