-- A list that is rotated once around, in which adapters without targets are left out.
use Rattle.std.proofs.Common.{le-leb, option_map, ◌≡◌, ◌≤◌, ◌<◌, ◌+◌, ◌-◌, ℕ, Option, Some, zero, suc, Bool, true, false, cond, not, nat_lt, List, [], ◌∷◌, ◌++◌, map, filter, take, length, if◌then◌else◌, refl, sym, ap, subst, ◌∙◌, arith, append_assoc}
use Rattle.std.specs.List.{IsDistinct, cons_option, find}
use Rattle.std.specs.Option.{option_to_list}
use Rattle.std.proofs.lemmas.Bool.{le-ltb}
use Rattle.std.proofs.lemmas.List.{append-nil, take-append-le}
use Rattle.std.proofs.lemmas.List.Elements.{All-filter}
use Rattle.std.proofs.lemmas.List.Sums.{count_by-le-length, length-filter, sum_by-cons}
use Rattle.mm_types.specs.declared.numbers.AdapterNo.{AdapterNo}
use Rattle.mm_types.specs.declared.numbers.Node.{Node}
use Rattle.notice_chain.specs.View.{View}
use Rattle.notice_chain.specs.Listed.{HasDistinctTargets, Listed, is_at, same_no, targets_len}
use Rattle.notice_chain.specs.Released.{has_targets, leaving_adapters, staying_adapters}
use Rattle.notice_chain.specs.declared.target.Target.{Target}
use Rattle.adapter_list.specs.Attached.{AreReady, IsReady, IsSound, listed_adapters, listed_one, numbers_of}
use Rattle.adapter_list.specs.Targets.{AreTied, IsOnce, entries, entry_of}
use Rattle.adapter_list.specs.declared.target_lists.Entry.{Entry}
use Rattle.adapter_list.specs.declared.target_lists.TargetLists.{TargetLists}
use Rattle.adapter_list.proofs.NumberLemmas.{distinct-filter}
use Rattle.adapter_list.specs.declared.attached.Attached.{Attached}

-- x is the first of j elements that are left, and `rest` has the elements after it
pub record IsFront {X : Type 0} (xs rest : List X) (x : X) (j : ℕ) : Type 0 where
  pub first : xs ≡ x ∷ rest
  pub next : j ≡ suc (j - 1)

-- x is the element that is taken from the front
pub front-taken : {X : Type 0} (xs rest : List X) (o : Option X) (x : X) (j : ℕ) → xs ≡ option_to_list o ++ rest → o ≡ Some x → 0 < j → IsFront xs rest x j
front-taken xs rest o x j taken is some = record { first = taken ∙ ap (λ (q : Option _). option_to_list q ++ rest) is; next = omega (arith, some) }

module _ {X : Type 0} (p : X → Bool) where
  abbrev pub turn : ℕ → List X → List X
  turn zero xs = xs
  turn (suc k) [] = []
  turn (suc k) (x ∷ xs) = if p x then turn k (xs ++ x ∷ []) else turn k xs

  turn-behind : (xs ys : List X) → turn (length xs) (xs ++ ys) ≡ ys ++ filter p xs
  turn-behind [] ys = sym (append-nil ys)
  turn-behind (x ∷ xs) ys =
      elim (p x) as (λ b. (if b then turn (length xs) ((xs ++ ys) ++ x ∷ []) else turn (length xs) (xs ++ ys)) ≡ ys ++ cond b (x ∷ filter p xs) (filter p xs)) [
        | true ↦ ap (turn (length xs)) (append_assoc xs ys (x ∷ [])) ∙ turn-behind xs (ys ++ x ∷ []) ∙ append_assoc ys (x ∷ []) (filter p xs)
        | false ↦ turn-behind xs ys
      ]

  pub turn-all : (xs : List X) (k : ℕ) → k ≡ length xs → turn k xs ≡ filter p xs
  turn-all xs k e = ap (λ (j : ℕ). turn j xs) e ∙ ap (turn (length xs)) (sym (append-nil xs)) ∙ turn-behind xs []

  module _ (xs rest : List X) (x : X) (j : ℕ) (front : IsFront xs rest x j) where
    abbrev k : ℕ
    k = j - 1

    turn-front : turn j xs ≡ (if p x then turn k (rest ++ x ∷ []) else turn k rest)
    turn-front = ap (λ (i : ℕ). turn i xs) front.next ∙ ap (turn (suc k)) front.first

    pub turn-kept : p x ≡ true → turn (j - 1) (rest ++ x ∷ []) ≡ turn j xs
    turn-kept e = sym (turn-front ∙ ap (λ b. if b then turn k (rest ++ x ∷ []) else turn k rest) e)

    pub turn-gone : p x ≡ false → turn (j - 1) rest ≡ turn j xs
    turn-gone e = sym (turn-front ∙ ap (λ b. if b then turn k (rest ++ x ∷ []) else turn k rest) e)

module _ {A : Type 0} (heard : A → View) where
  abbrev pub has : Attached A → Bool
  has a = has_targets (listed_one heard a)

  abbrev pub leaving_of : ℕ → List (Attached A) → List (AdapterNo × View)
  leaving_of k xs = leaving_adapters (listed_adapters heard (take k xs))

  -- the adapters without targets
  pub bare : (a : Attached A) → length a.targets.items ≤ 0 → has a ≡ false
  bare a none = le-ltb _ _ none

  module _ (xs rest : List (Attached A)) (x : Attached A) (j : ℕ) (front : IsFront xs rest x j) where
    abbrev left : ℕ
    left = j - 1

    leaving-front : leaving_of j xs ≡ leaving_of (suc left) (x ∷ rest)
    leaving-front = ap (λ (i : ℕ). leaving_of i xs) front.next ∙ ap (leaving_of (suc left)) front.first

    pub leaving-gone : length x.targets.items ≤ 0 → leaving_of j xs ≡ (x.no, heard x.adapter) ∷ leaving_of (j - 1) rest
    leaving-gone none = leaving-front ∙ ap (λ b. map (λ (r : Listed). (r.no, r.view)) (cond (not b) (listed_one heard x ∷ filter (λ r. not (has_targets r)) (listed_adapters heard (take left rest))) (filter (λ r. not (has_targets r)) (listed_adapters heard (take left rest))))) (bare x none)

    pub leaving-kept : j - 1 ≤ length rest → has x ≡ true → leaving_of j xs ≡ leaving_of (j - 1) (rest ++ x ∷ [])
    leaving-kept few e =
        leaving-front ∙ ap (λ b. map (λ (r : Listed). (r.no, r.view)) (cond (not b) (listed_one heard x ∷ filter (λ r. not (has_targets r)) (listed_adapters heard (take left rest))) (filter (λ r. not (has_targets r)) (listed_adapters heard (take left rest))))) e
        ∙ ap (λ ys. leaving_adapters (listed_adapters heard ys)) (sym (cut left rest (x ∷ []) few))
      where
        cut : (n : ℕ) (ys zs : List (Attached A)) → n ≤ length ys → take n (ys ++ zs) ≡ take n ys
        cut n ys zs h = rw take-append-le

----------------------------------------------------------------- those that stay

pub fewer : {X : Type 0} (p : X → Bool) (xs : List X) → length (filter p xs) ≤ length xs
fewer p xs = let few = count_by-le-length p xs in omega (arith, few, length-filter p xs)

-- an adapter without targets has no entry
stay-one : (y : Node) (r : Listed) (rs : List Listed) → entries y (staying_adapters rs) ≡ entries y rs → (ts : List Target) → r.targets ≡ ts → entries y (cond (nat_lt 0 (length ts)) (r ∷ staying_adapters rs) (staying_adapters rs)) ≡ cons_option (entry_of y r) (entries y rs)
stay-one y r rs rest [] none = rest ∙ ap (λ (ts : List Target). cons_option (option_map (λ t. let e : Entry = record { no = r.no; deep = t.deep } in e) (find (is_at y) ts)) (entries y rs)) (sym none)
stay-one y r rs rest (t ∷ ts) some =
    let yes : nat_lt 0 (length (t ∷ ts)) ≡ true = le-leb _ _ (omega arith) in
    ap (λ b. entries y (cond b (r ∷ staying_adapters rs) (staying_adapters rs))) yes ∙ ap (cons_option (entry_of y r)) rest

pub entries-staying_adapters : (y : Node) (rs : List Listed) → entries y (staying_adapters rs) ≡ entries y rs
entries-staying_adapters y [] = refl
entries-staying_adapters y (r ∷ rs) = stay-one y r rs (entries-staying_adapters y rs) r.targets refl

len-one : (r : Listed) (rs : List Listed) → targets_len (staying_adapters rs) ≡ targets_len rs → (ts : List Target) → r.targets ≡ ts → targets_len (cond (nat_lt 0 (length ts)) (r ∷ staying_adapters rs) (staying_adapters rs)) ≡ length r.targets + targets_len rs
len-one r rs rest [] none = let bare : length r.targets ≡ 0 = ap (λ (ts : List Target). length ts) none in omega (arith, rest, bare)
len-one r rs rest (t ∷ ts) some =
    let yes : nat_lt 0 (length (t ∷ ts)) ≡ true = le-leb _ _ (omega arith) in
    ap (λ b. targets_len (cond b (r ∷ staying_adapters rs) (staying_adapters rs))) yes ∙ sum_by-cons (λ (q : Listed). length q.targets) r (staying_adapters rs) ∙ ap (λ (n : ℕ). length r.targets + n) rest

pub targets_len-staying_adapters : (rs : List Listed) → targets_len (staying_adapters rs) ≡ targets_len rs
targets_len-staying_adapters [] = refl
targets_len-staying_adapters (r ∷ rs) = len-one r rs (targets_len-staying_adapters rs) r.targets refl ∙ sym (sum_by-cons (λ (q : Listed). length q.targets) r rs)

module _ {A : Type 0} (heard : A → View) where
  listed_adapters-staying_adapters : (xs : List (Attached A)) → listed_adapters heard (filter (has heard) xs) ≡ staying_adapters (listed_adapters heard xs)
  listed_adapters-staying_adapters [] = refl
  listed_adapters-staying_adapters (x ∷ xs) = elim (has heard x) as (λ b. listed_adapters heard (cond b (x ∷ filter (has heard) xs) (filter (has heard) xs)) ≡ cond b (listed_one heard x ∷ staying_adapters (listed_adapters heard xs)) (staying_adapters (listed_adapters heard xs))) [ true ↦ ap (λ rs. listed_one heard x ∷ rs) (listed_adapters-staying_adapters xs) | false ↦ listed_adapters-staying_adapters xs ]

-- facts about a valid list after the adapters without targets are taken out
pub record Stays {A : Type 0} (heard : A → View) (places : A → ℕ) (xs ys : List (Attached A)) (t : TargetLists) (count : ℕ) : Type 0 where
  pub fewer : length ys ≤ length xs
  pub now : listed_adapters heard ys ≡ staying_adapters (listed_adapters heard xs)
  pub counted : count ≡ targets_len (listed_adapters heard ys)
  pub ready : AreReady heard places ys
  pub distinct : IsDistinct same_no (numbers_of ys)
  pub once : HasDistinctTargets (listed_adapters heard ys)
  pub tied : AreTied t (listed_adapters heard ys)

pub stays : {A : Type 0} {heard : A → View} {places : A → ℕ} {xs : List (Attached A)} {keys : List AdapterNo} {t : TargetLists} {bs : List Bool} {count used room : ℕ} → IsSound heard places xs keys t bs count used room → (ys : List (Attached A)) → ys ≡ filter (has heard) xs → Stays heard places xs ys t count
stays {heard = heard} {places = places} {xs = xs} sound ys is =
    let rs = listed_adapters heard xs in
    let now : listed_adapters heard ys ≡ staying_adapters rs = ap (listed_adapters heard) is ∙ listed_adapters-staying_adapters heard xs in
    let few = fewer (has heard) xs in
    record {
      fewer = omega (arith, few, ap (λ (zs : List (Attached _)). length zs) is);
      now = now;
      counted = sound.counted ∙ sym (ap targets_len now ∙ targets_len-staying_adapters rs);
      ready = subst (AreReady heard places) (sym is) (All-filter (has heard) (λ a. IsReady (heard a.adapter) (length a.targets.items) (places a.adapter)) xs sound.ready);
      distinct = subst (λ (zs : List (Attached _)). IsDistinct same_no (numbers_of zs)) (sym is) (distinct-filter same_no (λ (a : Attached _). a.no) (has heard) xs (subst (IsDistinct same_no) sound.numbered sound.distinct));
      once = subst HasDistinctTargets (sym now) (All-filter has_targets IsOnce rs sound.once);
      tied = λ y. sound.tied y ∙ sym (ap (entries y) now ∙ entries-staying_adapters y rs);
    }
