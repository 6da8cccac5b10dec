-- The view of the list of attached adapters after one write.
use Rattle.std.proofs.Common.{◌≡◌, ℕ, ◌+◌, ◌-◌, ◌≤◌, ◌<◌, Bool, cond, Some, List, [], ◌∷◌, ◌++◌, map, length, get_or, set, position, slice_get, option_map, zero, suc, subst, refl, sym, ap, ◌∙◌, arith, slice_index, All, ◌^◌}
use Rattle.std.specs.List.{AllByRecursion, prefix_len}
use Rattle.std.proofs.lemmas.Option.{slice_get-map, slice_get_read}
use Rattle.std.proofs.lemmas.List.{length-map}
use Rattle.std.proofs.lemmas.List.Elements.{All-get_or, All-map, All-push, All-rest, All-set, All-weaker, recursion_from_All}
use Rattle.notice_chain.specs.View.{View}
use Rattle.notice_chain.specs.Listed.{Listed, adapter_after_notices}
use Rattle.notice_chain.specs.declared.notice.Notice.{Notice}
use Rattle.adapter_list.specs.declared.attached.Attached.{Attached}
use Rattle.adapter_list.specs.Attached.{AreReady, HasReserve, IsReady, listed_one, listed_adapters, places_of, numbers_of}
use Rattle.adapter_list.specs.Rounds.{tell_at, use_place}

module _ {A : Type 0} where
  pub listed_adapters-set : (heard : A → View) (xs : List (Attached A)) (i : ℕ) (n : Notice) (x y : Attached A) → x ≡ get_or xs i x → listed_one heard y ≡ adapter_after_notices (listed_one heard x) (n ∷ []) → listed_adapters heard (set xs i y) ≡ tell_at (listed_adapters heard xs) i n
  listed_adapters-set heard [] i n x y e p = refl
  listed_adapters-set heard (z ∷ zs) zero n x y e p = ap (λ r. r ∷ listed_adapters heard zs) (p ∙ ap (λ (q : Attached A). adapter_after_notices (listed_one heard q) (n ∷ [])) e)
  listed_adapters-set heard (z ∷ zs) (suc i) n x y e p = ap (λ rs. listed_one heard z ∷ rs) (listed_adapters-set heard zs i n x y e p)

  pub places_of-set : (places : A → ℕ) (xs : List (Attached A)) (i : ℕ) (x y : Attached A) → x ≡ get_or xs i x → places y.adapter + 1 ≡ places x.adapter → places_of places (set xs i y) ≡ use_place (places_of places xs) i
  places_of-set places [] i x y e p = refl
  places_of-set places (z ∷ zs) zero x y e p =
      let q : places x.adapter ≡ places z.adapter = ap (λ (w : Attached A). places w.adapter) e in
      let r : places y.adapter ≡ places z.adapter - 1 = omega arith in
      ap (λ k. k ∷ places_of places zs) r
  places_of-set places (z ∷ zs) (suc i) x y e p = ap (λ rs. places z.adapter ∷ rs) (places_of-set places zs i x y e p)

  pub places_of-same : (places : A → ℕ) (xs : List (Attached A)) (i : ℕ) (x y : Attached A) → x ≡ get_or xs i x → places y.adapter ≡ places x.adapter → places_of places (set xs i y) ≡ places_of places xs
  places_of-same places [] i x y e p = refl
  places_of-same places (z ∷ zs) zero x y e p = ap (λ k. k ∷ places_of places zs) (p ∙ ap (λ (w : Attached A). places w.adapter) e)
  places_of-same places (z ∷ zs) (suc i) x y e p = ap (λ rs. places z.adapter ∷ rs) (places_of-same places zs i x y e p)

module _ {X Y : Type 0} (f : X → Y) where
  pub prefix_len-map : (p : Y → Bool) (xs : List X) → prefix_len p (map f xs) ≡ prefix_len (λ x. p (f x)) xs
  prefix_len-map p [] = refl
  prefix_len-map p (x ∷ xs) = ap (λ k. cond (p (f x)) (1 + k) 0) (prefix_len-map p xs)

  pub position-map : (p : Y → Bool) (xs : List X) → position p (map f xs) ≡ position (λ x. p (f x)) xs
  position-map p xs = rw (prefix_len-map, length-map)

module _ {A : Type 0} where
  pub places_of-grow : (places : A → ℕ) (xs : List (Attached A)) (i : ℕ) (x y : Attached A) → x ≡ get_or xs i x → places x.adapter ≤ places y.adapter → (k : ℕ) → slice_index (places_of places xs) k ≤ slice_index (places_of places (set xs i y)) k
  places_of-grow places [] i x y e l k = omega arith
  places_of-grow places (z ∷ zs) zero x y e l zero = let q : places x.adapter ≡ places z.adapter = ap (λ (w : Attached A). places w.adapter) e in omega arith
  places_of-grow places (z ∷ zs) zero x y e l (suc k) = omega arith
  places_of-grow places (z ∷ zs) (suc i) x y e l zero = omega arith
  places_of-grow places (z ∷ zs) (suc i) x y e l (suc k) = places_of-grow places zs i x y e l k

  pub slice_index-map : (f : Attached A → ℕ) (xs : List (Attached A)) (i : ℕ) (x : Attached A) → i < length xs → x ≡ get_or xs i x → slice_index (map f xs) i ≡ f x
  slice_index-map f [] i x h e = absurd (omega arith)
  slice_index-map f (y ∷ ys) zero x h e = sym (ap f e)
  slice_index-map f (y ∷ ys) (suc i) x h e = slice_index-map f ys i x (omega arith) e

  pub slice_index-map_set : (f : Attached A → ℕ) (xs : List (Attached A)) (i : ℕ) (y : Attached A) → i < length xs → slice_index (map f (set xs i y)) i ≡ f y
  slice_index-map_set f [] i y h = absurd (omega arith)
  slice_index-map_set f (x ∷ xs) zero y h = refl
  slice_index-map_set f (x ∷ xs) (suc i) y h = slice_index-map_set f xs i y (omega arith)

  pub listed_adapters-set_same : (heard : A → View) (xs : List (Attached A)) (i : ℕ) (x y : Attached A) → x ≡ get_or xs i x → listed_one heard y ≡ listed_one heard x → listed_adapters heard (set xs i y) ≡ listed_adapters heard xs
  listed_adapters-set_same heard [] i x y e p = refl
  listed_adapters-set_same heard (z ∷ zs) zero x y e p = ap (λ r. r ∷ listed_adapters heard zs) (p ∙ ap (listed_one heard) e)
  listed_adapters-set_same heard (z ∷ zs) (suc i) x y e p = ap (λ rs. listed_one heard z ∷ rs) (listed_adapters-set_same heard zs i x y e p)

  pub numbers_of-set : (xs : List (Attached A)) (i : ℕ) (x y : Attached A) → x ≡ get_or xs i x → y.no ≡ x.no → numbers_of (set xs i y) ≡ numbers_of xs
  numbers_of-set [] i x y e p = refl
  numbers_of-set (z ∷ zs) zero x y e p = ap (λ k. k ∷ numbers_of zs) (p ∙ ap (λ (q : Attached A). q.no) e)
  numbers_of-set (z ∷ zs) (suc i) x y e p = ap (λ ks. z.no ∷ ks) (numbers_of-set zs i x y e p)

  pub slice_index-told : (heard : A → View) (xs : List (Attached A)) (i : ℕ) (x : Attached A) → i < length xs → x ≡ get_or xs i x → slice_index (map (λ r. r.view.told) (listed_adapters heard xs)) i ≡ (heard x.adapter).told
  slice_index-told heard [] i x h e = absurd (omega arith)
  slice_index-told heard (y ∷ ys) zero x h e = sym (ap (λ (q : Attached A). (heard q.adapter).told) e)
  slice_index-told heard (y ∷ ys) (suc i) x h e = slice_index-told heard ys i x (omega arith) e

  pub listed_adapters-get : (heard : A → View) (xs : List (Attached A)) (rs : List Listed) (i : ℕ) (x : Attached A) → listed_adapters heard xs ≡ rs → i < length rs → x ≡ get_or xs i x → slice_get rs i ≡ Some (listed_one heard x)
  listed_adapters-get heard xs rs i x seen low e =
      let within : i < length xs = omega (arith, low, ap (λ (qs : List Listed). length qs) seen, length-map xs (listed_one heard)) in
      ap (λ (qs : List Listed). slice_get qs i) (sym seen) ∙ slice_get-map (listed_one heard) xs i ∙ ap (option_map (listed_one heard)) (slice_get_read xs (length xs) i x refl within e)

module _ {A : Type 0} (heard : A → View) (places : A → ℕ) where
  abbrev ready : Attached A → Type 0
  ready a = IsReady (heard a.adapter) (length a.targets.items) (places a.adapter)

  pub AreReady-at : (xs : List (Attached A)) (i : ℕ) (x : Attached A) → AreReady heard places xs → i < length xs → x ≡ get_or xs i x → IsReady (heard x.adapter) (length x.targets.items) (places x.adapter)
  AreReady-at xs i x h l e = subst ready (sym e) (All-get_or ready xs i x l h)

  pub AreReady-set : (xs : List (Attached A)) (i : ℕ) (y : Attached A) → AreReady heard places xs → IsReady (heard y.adapter) (length y.targets.items) (places y.adapter) → AreReady heard places (set xs i y)
  AreReady-set xs i y h k = All-set ready xs i y k h

  pub AreReady-push : (xs : List (Attached A)) (x : Attached A) → AreReady heard places xs → IsReady (heard x.adapter) (length x.targets.items) (places x.adapter) → AreReady heard places (xs ++ x ∷ [])
  AreReady-push xs x h k = All-push ready xs x h k

  pub AreReady-rest : (x : Attached A) (xs ys : List (Attached A)) → ys ≡ x ∷ xs → AreReady heard places ys → AreReady heard places xs
  AreReady-rest x xs ys e h = All-rest ready x xs ys e h

  reserve_from : (ys : List (Attached A)) → AllByRecursion ready ys → HasReserve (listed_adapters heard ys) (places_of places ys)
  reserve_from [] h k = omega arith
  reserve_from (y ∷ ys) h zero = h.0.reserve
  reserve_from (y ∷ ys) h (suc k) = reserve_from ys h.1 k

  pub HasReserve-from_ready : (xs : List (Attached A)) → AreReady heard places xs → HasReserve (listed_adapters heard xs) (places_of places xs)
  HasReserve-from_ready xs h = reserve_from xs (recursion_from_All ready xs h)

  pub countable-from_ready : (xs : List (Attached A)) → AreReady heard places xs → All (λ r. r.view.told + length r.targets < 2 ^ 64) (listed_adapters heard xs)
  countable-from_ready xs h =
      All-map (λ r. r.view.told + length r.targets < 2 ^ 64) (listed_one heard) xs (All-weaker ready (λ a. (heard a.adapter).told + length a.targets.items < 2 ^ 64) (λ a r. omega (arith, r.reserve, r.countable)) xs h)
