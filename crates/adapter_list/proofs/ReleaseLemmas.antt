-- The numbers of the adapters that stay, and the adapters that are released.
use Rattle.std.proofs.Common.{◌≡◌, ◌||◌, Result, Ok, Err, ℕ, ◌+◌, ◌<◌, false, List, [], ◌∷◌, ◌++◌, get_or, drop, length, map, append_assoc, refl, sym, ap, ◌∙◌, if◌then◌else◌}
use Rattle.std.specs.List.{AllByRecursion, IsDistinct, list_any}
use Rattle.std.specs.Result.{IfOk, IsErr, IsOk, OnErr}
use Rattle.std.proofs.lemmas.Bool.{eqb-false, false≢true, ne_eqb}
use Rattle.std.proofs.lemmas.List.{drop_more, map-append}
use Rattle.indexmap.specs.IndexSet.{insert_key}
use Rattle.std.proofs.lemmas.Map.Keys.{IsDistinct-head, IsDistinct-tail}
use Rattle.mm_types.specs.declared.numbers.AdapterNo.{AdapterNo}
use Rattle.notice_chain.specs.Listed.{same_no}
use Rattle.notice_chain.specs.Released.{all_released, removing_notice}
use Rattle.notice_chain.specs.View.{View, hear_all}
use Rattle.adapter_list.specs.Attached.{listed_adapters, numbers_of, views_of}
use Rattle.adapter_list.specs.declared.attached.Attached.{Attached}

-- a number is not among the numbers before it
none-of : (k : AdapterNo) (ks rest : List AdapterNo) → IsDistinct same_no (ks ++ k ∷ rest) → list_any (same_no k) ks ≡ false
none-of k [] rest h = refl
none-of k (j ∷ ks) rest h =
    let other : same_no j k ≡ false = here ks (IsDistinct-head same_no j (ks ++ k ∷ rest) h) in
    let flipped : same_no k j ≡ false = ne_eqb k.0 j.0 (λ (e : k.0 ≡ j.0). eqb-false j.0 k.0 other (sym e)) in
    ap (λ b. b || list_any (same_no k) ks) flipped ∙ none-of k ks rest (IsDistinct-tail same_no j (ks ++ k ∷ rest) h)
  where
    here : (ys : List AdapterNo) → AllByRecursion (λ y. same_no j y ≡ false) (ys ++ k ∷ rest) → same_no j k ≡ false
    here [] a = a.0
    here (y ∷ ys) a = here ys a.1

-- a new number is put last
pub insert_key-new : (ks rest : List AdapterNo) (k : AdapterNo) → IsDistinct same_no (ks ++ k ∷ rest) → insert_key same_no ks k ≡ ks ++ k ∷ []
insert_key-new ks rest k h = ap (λ b. if b then ks else (ks ++ k ∷ [])) (none-of k ks rest h)

-- a property of a successful result
pub from_ok : {X E : Type 0} (P : Type 0) (r : Result X E) → IsOk r → IfOk r (λ _. P) → P
from_ok P (Ok x) h k = k
from_ok P (Err e) h k = absurd (false≢true h)

pub from_err : {X E : Type 0} (P : Type 0) (r : Result X E) → IsErr r → OnErr r P → P
from_err P (Ok x) h k = absurd (false≢true h)
from_err P (Err e) h k = k

module _ {A : Type 0} where
  pub drop-numbers : (xs : List (Attached A)) (i : ℕ) (x : Attached A) → i < length xs → x ≡ get_or xs i x → numbers_of (drop i xs) ≡ x.no ∷ numbers_of (drop (i + 1) xs)
  drop-numbers xs i x h e = ap numbers_of (drop_more xs i x h) ∙ ap (λ (q : Attached A). q.no ∷ numbers_of (drop (i + 1) xs)) (sym e)

-- one more adapter is given back
pub closed-more : {A : Type 0} (heard : A → View) (out new : List (AdapterNo × A)) (one : Attached A) (after : A) (items rest : List (Attached A)) (all : List (AdapterNo × View)) → new ≡ out ++ (one.no, after) ∷ [] → heard after ≡ hear_all (heard one.adapter) (map (λ t. removing_notice one.no t.node 0) one.targets.items) → items ≡ one ∷ rest
    → views_of heard out ++ all_released (listed_adapters heard items) ≡ all → views_of heard new ++ all_released (listed_adapters heard rest) ≡ all
closed-more heard out new one after items rest all made told is whole =
    ap (λ bs. views_of heard bs ++ all_released (listed_adapters heard rest)) made
    ∙ ap (λ vs. vs ++ all_released (listed_adapters heard rest)) (map-append (λ (b : AdapterNo × _). (b.0, heard b.1)) out ((one.no, after) ∷ []))
    ∙ append_assoc (views_of heard out) ((one.no, heard after) ∷ []) (all_released (listed_adapters heard rest))
    ∙ ap (λ (v : View). views_of heard out ++ (one.no, v) ∷ all_released (listed_adapters heard rest)) told
    ∙ ap (λ (xs : List (Attached _)). views_of heard out ++ all_released (listed_adapters heard xs)) (sym is)
    ∙ whole
