-- The items of an array that were read so far, and the keys of an object one by one.
use Rattle.std.proofs.Common.{◌≡◌, ◌∙◌, ◌++◌, ◌||◌, Bool, true, false, cond, Bor, List, Option, Some, None, [], ◌∷◌, ℕ, map, option_map, refl, string_bytes}
use Rattle.std.specs.Prelude.{Result, String}
use Rattle.std.specs.declared.alloc.Global.{Global}
use Rattle.std.specs.List.{list_all, list_any}
use Rattle.std.specs.Str.{bytes_eq}
use Rattle.std.proofs.lemmas.List.Folds.{list_any-append}
use Rattle.serde_json.specs.Data.{Data}
use Rattle.serde_json.specs.View.{members_view}
use Rattle.serde_json.specs.declared.value.Value.{Value}
use Rattle.json_fields.specs.declared.read_fault.ReadFault.{ReadFault}
use Rattle.json_fields.specs.Fields.{Gives, Fields, has_only, object_of, only_keys}

-- a list, and after it the items that are still to be read
abbrev pub with_front : {X : Type 0} → List X → Option (List X) → Option (List X)
with_front front reading = option_map (λ xs. front ++ xs) reading

pub any_map : (names : List (Bor (List ℕ))) (k : List ℕ) → list_any (λ n. bytes_eq n k) (map (λ n. n.now) names) ≡ list_any (λ n. bytes_eq n.now k) names
any_map [] k = refl
any_map (n ∷ ns) k = rw (any_map ns k) refl

any_of_both : (names more : List (Bor (List ℕ))) (k : List ℕ) → list_any (λ n. bytes_eq n k) (map (λ n. n.now) names ++ map (λ n. n.now) more) ≡ (list_any (λ n. bytes_eq n.now k) names || list_any (λ n. bytes_eq n.now k) more)
any_of_both names more k = list_any-append (λ n. bytes_eq n k) (map (λ n. n.now) names) (map (λ n. n.now) more) ∙ (λ i. any_map names k i || any_map more k i)

pub keys_among : (names more : List (Bor (List ℕ))) (es : List (String Global × Value))
    → list_all (λ k. list_any (λ n. bytes_eq n.now (string_bytes k)) names || list_any (λ n. bytes_eq n.now (string_bytes k)) more) (map (λ e. e.0) es)
    ≡ only_keys (map (λ n. n.now) names ++ map (λ n. n.now) more) (members_view es)
keys_among names more [] = refl
keys_among names more (e ∷ es) = rw (any_of_both names more (string_bytes e.0), keys_among names more es) refl

opened_at : {X : Type 0} (reading : Data → Option X) (r : Result X ReadFault) (m d : Data) (b : Bool) → Some m ≡ cond b (Some d) None
    → Gives r (reading m) → Gives r (cond b (reading d) None)
opened_at reading r m d true is h =
    let same : m ≡ d = cc in
    rw (← same) h
opened_at reading r m d false is h = cc

-- an object with no other keys is read by its fields
pub opened : {X : Type 0} (fields : Fields X) (r : Result X ReadFault) (m d : Data) → Some m ≡ cond (has_only fields.keys d) (Some d) None
    → Gives r (fields.reading m) → Gives r (object_of fields d)
opened fields r m d is h = opened_at fields.reading r m d (has_only fields.keys d) is h
