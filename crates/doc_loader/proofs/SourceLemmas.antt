-- Lists of objects that come from a document's objects in the order of their numbers.
use Rattle.std.proofs.Common.{◌≡◌, ◌∙◌, ◌+◌, ◌<◌, ◌≤◌, ◌++◌, ℕ, zero, suc, Bool, true, false, cond, List, [], ◌∷◌, Some, append-nil, length, map, refl, sym, ap, subst, inl, inr, arith}
use Rattle.std.specs.Prelude.{flat_map, nat_eq, nat_le, slice_get}
use Rattle.std.specs.List.{AllByRecursion, enumerate_from, list_any}
use Rattle.std.specs.Option.{option_map_or}
use Rattle.std.proofs.lemmas.Bool.{and_parts, cases_order, eq-eqb, eqb-true, leb-true, ne_eqb, or_left, or_right}
use Rattle.std.proofs.lemmas.List.Concat.{flat_map-append}
use Rattle.std.proofs.lemmas.Option.{none-some, same_Some}
use Rattle.mm_types.specs.Same.{same_feature, same_value}
use Rattle.mm_types.specs.SameValues.{same_value-self, same_value-true}
use Rattle.mm_types.specs.declared.numbers.FeatureNo.{FeatureNo}
use Rattle.mm_types.specs.declared.numbers.ObjectNo.{ObjectNo}
use Rattle.mm_types.specs.declared.value.Value.{Value}
use Rattle.mm_types.specs.declared.value.Value.TheVariants as value
use Rattle.links.specs.LegalSets.{IsDistinct}
use Rattle.links.proofs.ShownLemmas.{object_value}
use Rattle.resource_docs.specs.declared.doc.Content.{Content}
use Rattle.doc_loader.specs.LoadEdits.{is_ascending_from}
use Rattle.doc_loader.specs.Loading.{loaded_number, loaded_value}
use Rattle.doc_loader.proofs.PairLemmas.{Apart, all-more, numbered-at}
use Rattle.doc_loader.proofs.SoundLemmas.{at-map, map-at, HaveOtherFeatures, any-at, at-flat_map, at-numbered, flat_map-at}

---------------------------------------------------------------- lists put together

module _ {X Y : Type 0} where
  pub flat_map-alike : (f g : X → List Y) (xs : List X) → AllByRecursion (λ x. f x ≡ g x) xs → flat_map f xs ≡ flat_map g xs
  flat_map-alike f g [] all = refl
  flat_map-alike f g (x ∷ xs) all = λ i. all.0 i ++ flat_map-alike f g xs all.1 i

  pub flat_map-none : (f : X → List Y) (xs : List X) → AllByRecursion (λ x. f x ≡ []) xs → flat_map f xs ≡ []
  flat_map-none f [] all = refl
  flat_map-none f (x ∷ xs) all = ap (λ (ys : List Y). ys ++ flat_map f xs) all.0 ∙ flat_map-none f xs all.1

  pub flat_map-flat_map : {Z : Type 0} (f : Y → List Z) (g : X → List Y) (xs : List X) → flat_map f (flat_map g xs) ≡ flat_map (λ x. flat_map f (g x)) xs
  flat_map-flat_map f g [] = refl
  flat_map-flat_map {Z = Z} f g (x ∷ xs) = flat_map-append f (g x) (flat_map g xs) ∙ ap (λ (zs : List Z). flat_map f (g x) ++ zs) (flat_map-flat_map f g xs)

module _ {X Y : Type 0} where
  -- the case that only the element of one number gives results
  pub one-number : (f : X → List Y) (a i : ℕ) (xs : List X) → flat_map (λ y. cond (nat_eq y.0 (i + a)) (f y.1) []) (enumerate_from i xs) ≡ option_map_or f (slice_get xs a) []
  one-number f a i [] = refl
  one-number f zero i (x ∷ xs) =
      let here : nat_eq i (i + 0) ≡ true = eq-eqb i (i + 0) (omega arith) in
      rw here (ap (λ (ys : List Y). f x ++ ys) (flat_map-none (λ (y : ℕ × X). cond (nat_eq y.0 (i + 0)) (f y.1) []) (enumerate_from (i + 1) xs) (past (i + 1) xs (omega arith))) ∙ append-nil (f x))
    where
      past : (j : ℕ) (ys : List X) → i + 0 < j → AllByRecursion (λ (y : ℕ × X). cond (nat_eq y.0 (i + 0)) (f y.1) [] ≡ []) (enumerate_from j ys)
      past j [] lt = tt
      past j (y ∷ ys) lt = (ap (λ (b : Bool). cond b (f y) []) (ne_eqb j (i + 0) (λ q. omega (arith, q, lt))), past (j + 1) ys (omega (arith, lt)))
  one-number f (suc a) i (x ∷ xs) =
      let other : nat_eq i (i + suc a) ≡ false = ne_eqb i (i + suc a) (λ q. omega (arith, q)) in
      let same : i + suc a ≡ (i + 1) + a = omega arith in
      rw other (ap (λ (k : ℕ). flat_map (λ (y : ℕ × X). cond (nat_eq y.0 k) (f y.1) []) (enumerate_from (i + 1) xs)) same ∙ one-number f a (i + 1) xs)

-- the content of a feature, among contents of different features
pub one-content : {Y : Type 0} (f : FeatureNo) (g : List Value → List Y) (cs : List Content) → g [] ≡ [] → Apart HaveOtherFeatures cs
    → flat_map (λ (c : Content). cond (same_feature f c.feature) (g c.values) []) cs ≡ g (flat_map (λ (c : Content). cond (same_feature f c.feature) c.values []) cs)
one-content f g [] nil apart = sym nil
one-content {Y = Y} f g (c ∷ cs) nil apart =
    elim (same_feature f c.feature) as (λ b. same_feature f c.feature ≡ b → cond b (g c.values) [] ++ flat_map (λ (c : Content). cond (same_feature f c.feature) (g c.values) []) cs ≡ g (cond b c.values [] ++ flat_map (λ (c : Content). cond (same_feature f c.feature) c.values []) cs)) [
      | true ↦ λ q.
          let none = all-more (HaveOtherFeatures c) (λ (d : Content). same_feature f d.feature ≡ false) cs (λ d h. subst (λ (x : ℕ). nat_eq x d.feature.0 ≡ false) (sym (eqb-true f.0 c.feature.0 q)) h) apart.0 in
          ap (λ (ys : List Y). g c.values ++ ys) (flat_map-none (λ (c : Content). cond (same_feature f c.feature) (g c.values) []) cs (all-more (λ (d : Content). same_feature f d.feature ≡ false) (λ (d : Content). cond (same_feature f d.feature) (g d.values) [] ≡ []) cs (λ d h. ap (λ (b : Bool). cond b (g d.values) []) h) none))
          ∙ append-nil (g c.values)
          ∙ ap g (sym (append-nil c.values) ∙ ap (λ (vs : List Value). c.values ++ vs) (sym (flat_map-none (λ (c : Content). cond (same_feature f c.feature) c.values []) cs (all-more (λ (d : Content). same_feature f d.feature ≡ false) (λ (d : Content). cond (same_feature f d.feature) d.values [] ≡ []) cs (λ d h. ap (λ (b : Bool). cond b d.values []) h) none))))
      | false ↦ λ q. one-content f g cs nil apart.1
    ] refl

---------------------------------------------------------------- objects by their new numbers

-- values, objects by the numbers that they get
abbrev pub loaded_values : ℕ → List Value → List Value
loaded_values n vs = map (loaded_value n) vs

value-object : Value → ℕ
value-object (value.Object o) = o.0
value-object _ = 0

pub loaded_number-same : (n : ℕ) (a b : ObjectNo) → loaded_number n a ≡ loaded_number n b → a ≡ b
loaded_number-same n a b h = let e = ap (λ (x : ObjectNo). x.0) h in let same : a.0 ≡ b.0 = omega (arith, e) in λ i. record { 0 = same i }

pub loaded_number-value-object : (n : ℕ) (v : Value) (b : ObjectNo) → loaded_value n v ≡ value.Object b → (a : ObjectNo) × (v ≡ value.Object a) × (b ≡ loaded_number n a)
loaded_number-value-object n (value.Object a) b h = (a, refl, sym (object_value (loaded_number n a) b h))
loaded_number-value-object n value.Null b h = cc
loaded_number-value-object n (value.Bool x) b h = cc
loaded_number-value-object n (value.Int x) b h = cc
loaded_number-value-object n (value.Text x) b h = cc
loaded_number-value-object n (value.Literal x) b h = cc
loaded_number-value-object n (value.Proxy x) b h = cc

pub loaded-value-same : (n : ℕ) (v w : Value) → loaded_value n v ≡ loaded_value n w → v ≡ w
loaded-value-same n (value.Object a) w h = let r = loaded_number-value-object n w (loaded_number n a) (sym h) in ap value.Object (loaded_number-same n a r.0 r.2) ∙ sym r.1
loaded-value-same n value.Null (value.Object b) h = cc
loaded-value-same n (value.Bool x) (value.Object b) h = cc
loaded-value-same n (value.Int x) (value.Object b) h = cc
loaded-value-same n (value.Text x) (value.Object b) h = cc
loaded-value-same n (value.Literal x) (value.Object b) h = cc
loaded-value-same n (value.Proxy x) (value.Object b) h = cc
loaded-value-same n v w h = h

pub loaded-at : (n : ℕ) (vs : List Value) (k : ℕ) (v : Value) → slice_get vs k ≡ Some v → slice_get (loaded_values n vs) k ≡ Some (loaded_value n v)
loaded-at n vs k v h = at-map (loaded_value n) vs k v h

pub at-loaded : (n : ℕ) (vs : List Value) (k : ℕ) (w : Value) → slice_get (loaded_values n vs) k ≡ Some w → (v : Value) × (slice_get vs k ≡ Some v) × (loaded_value n v ≡ w)
at-loaded n vs k w h = map-at (loaded_value n) vs k w h

pub loaded-distinct : (n : ℕ) (vs : List Value) → IsDistinct vs → IsDistinct (loaded_values n vs)
loaded-distinct n vs d j k w a b =
    let x = at-loaded n vs j w a in
    let y = at-loaded n vs k w b in
    d j k x.0 x.1 (y.1 ∙ ap Some (loaded-value-same n y.0 x.0 (y.2 ∙ sym x.2)))

---------------------------------------------------------------- ascending objects

-- objects in the order of their numbers, from k on
abbrev pub IsAscending : ℕ → List Value → Type 0
IsAscending k [] = Unit {0}
IsAscending k (value.Object a ∷ vs) = (k ≤ a.0) × IsAscending (suc a.0) vs
IsAscending k (v ∷ vs) = ⊥

pub ascending-less : (j k : ℕ) (vs : List Value) → j ≤ k → IsAscending k vs → IsAscending j vs
ascending-less j k [] le h = tt
ascending-less j k (value.Object a ∷ vs) le h = (omega (arith, le, h.0), h.1)
ascending-less j k (value.Null ∷ vs) le h = absurd h
ascending-less j k (value.Bool x ∷ vs) le h = absurd h
ascending-less j k (value.Int x ∷ vs) le h = absurd h
ascending-less j k (value.Text x ∷ vs) le h = absurd h
ascending-less j k (value.Literal x ∷ vs) le h = absurd h
ascending-less j k (value.Proxy x ∷ vs) le h = absurd h

-- each element of an ascending list
pub ascending-at : (k : ℕ) (vs : List Value) (j : ℕ) (v : Value) → IsAscending k vs → slice_get vs j ≡ Some v → (a : ObjectNo) × (v ≡ value.Object a) × (k ≤ a.0)
ascending-at k [] j v h at = absurd (none-some v at)
ascending-at k (value.Object a ∷ vs) zero v h at = (a, sym (same_Some (value.Object a) v at), h.0)
ascending-at k (value.Object a ∷ vs) (suc j) v h at = let r = ascending-at (suc a.0) vs j v h.1 at in let low = r.2 in (r.0, r.1, omega (arith, low, h.0))
ascending-at k (value.Null ∷ vs) j v h at = absurd h
ascending-at k (value.Bool x ∷ vs) j v h at = absurd h
ascending-at k (value.Int x ∷ vs) j v h at = absurd h
ascending-at k (value.Text x ∷ vs) j v h at = absurd h
ascending-at k (value.Literal x ∷ vs) j v h at = absurd h
ascending-at k (value.Proxy x ∷ vs) j v h at = absurd h

not-again : (a : ObjectNo) (vs : List Value) (j : ℕ) (v : Value) → IsAscending (suc a.0) vs → slice_get vs j ≡ Some v → v ≡ value.Object a → ⊥
not-again a vs j v h at is = let r = ascending-at (suc a.0) vs j v h at in let same = ap (λ (x : ObjectNo). x.0) (object_value r.0 a (sym r.1 ∙ is)) in let low = r.2 in omega (arith, same, low)

pub ascending-distinct : (k : ℕ) (vs : List Value) → IsAscending k vs → IsDistinct vs
ascending-distinct k [] h i j v a b = absurd (none-some v a)
ascending-distinct k (value.Object x ∷ vs) h zero zero v a b = refl
ascending-distinct k (value.Object x ∷ vs) h zero (suc j) v a b = absurd (not-again x vs j v h.1 b (sym (same_Some (value.Object x) v a)))
ascending-distinct k (value.Object x ∷ vs) h (suc i) zero v a b = absurd (not-again x vs i v h.1 a (sym (same_Some (value.Object x) v b)))
ascending-distinct k (value.Object x ∷ vs) h (suc i) (suc j) v a b = ap suc (ascending-distinct (suc x.0) vs h.1 i j v a b)
ascending-distinct k (value.Null ∷ vs) h i j v a b = absurd h
ascending-distinct k (value.Bool x ∷ vs) h i j v a b = absurd h
ascending-distinct k (value.Int x ∷ vs) h i j v a b = absurd h
ascending-distinct k (value.Text x ∷ vs) h i j v a b = absurd h
ascending-distinct k (value.Literal x ∷ vs) h i j v a b = absurd h
ascending-distinct k (value.Proxy x ∷ vs) h i j v a b = absurd h

abbrev AreIn : List Value → List Value → Type 0
AreIn vs ws = (k : ℕ) (v : Value) → slice_get vs k ≡ Some v → (j : ℕ) × (slice_get ws j ≡ Some v)

-- two ascending lists of the same objects are equal
pub ascending-one : (k : ℕ) (vs ws : List Value) → IsAscending k vs → IsAscending k ws → AreIn vs ws → AreIn ws vs → vs ≡ ws
ascending-one k [] [] a b p q = refl
ascending-one k [] (w ∷ ws) a b p q = absurd (none-some w (q 0 w refl).1)
ascending-one k (v ∷ vs) [] a b p q = absurd (none-some v (p 0 v refl).1)
ascending-one k (value.Object x ∷ vs) (value.Object y ∷ ws) a b p q = elim (cases_order x.0 y.0) [
  | inl same ↦
      let is : x ≡ y = λ i. record { 0 = same i } in
      let b' : IsAscending (suc x.0) ws = subst (λ (z : ℕ). IsAscending (suc z) ws) (sym same) b.1 in
      λ i. value.Object (is i) ∷ ascending-one (suc x.0) vs ws a.1 b' (rest x vs y ws is a.1 p) (rest y ws x vs (sym is) b.1 q) i
  | inr (inl low) ↦ (let r = p 0 (value.Object x) refl in let z = ascending-at y.0 (value.Object y ∷ ws) r.0 (value.Object x) (omega arith, b.1) r.1 in let e = ap (λ (u : ObjectNo). u.0) (object_value x z.0 z.1) in let le = z.2 in absurd (omega (arith, low, e, le)))
  | inr (inr high) ↦ (let r = q 0 (value.Object y) refl in let z = ascending-at x.0 (value.Object x ∷ vs) r.0 (value.Object y) (omega arith, a.1) r.1 in let e = ap (λ (u : ObjectNo). u.0) (object_value y z.0 z.1) in let le = z.2 in absurd (omega (arith, high, e, le)))
]
  where
    rest : (x : ObjectNo) (vs : List Value) (y : ObjectNo) (ws : List Value) → x ≡ y → IsAscending (suc x.0) vs → AreIn (value.Object x ∷ vs) (value.Object y ∷ ws) → AreIn vs ws
    rest x vs y ws is asc p k v at = first (p (suc k) v at)
      where
        first : (j : ℕ) × (slice_get (value.Object y ∷ ws) j ≡ Some v) → (j : ℕ) × (slice_get ws j ≡ Some v)
        first (zero, here) = absurd (not-again x vs k v asc at (sym (same_Some (value.Object y) v here) ∙ ap value.Object (sym is)))
        first (suc j, there) = (j, there)
ascending-one k (value.Object x ∷ vs) (w ∷ ws) a b p q = absurd b
ascending-one k (v ∷ vs) (w ∷ ws) a b p q = absurd a

---------------------------------------------------------------- sources

-- the objects, numbered from i on, in whose lists another one is; the first of all gets the number n
abbrev pub sources_from : {X : Type 0} → ℕ → (X → List Value) → ObjectNo → ℕ → List X → List Value
sources_from n lists b i xs = flat_map (λ y. cond (list_any (same_value (value.Object b)) (lists y.1)) (value.Object (record { 0 = n + y.0 }) ∷ []) []) (enumerate_from i xs)

module _ {X : Type 0} (n : ℕ) (lists : X → List Value) (b : ObjectNo) where
  pub sources-ascending : (i : ℕ) (xs : List X) → IsAscending (n + i) (sources_from n lists b i xs)
  sources-ascending i [] = tt
  sources-ascending i (x ∷ xs) =
      let rest = sources-ascending (i + 1) xs in
      elim (list_any (same_value (value.Object b)) (lists x)) as (λ t. IsAscending (n + i) (cond t (value.Object (record { 0 = n + i }) ∷ []) [] ++ sources_from n lists b (i + 1) xs)) [
        | true ↦ (omega arith, ascending-less (suc (n + i)) (n + (i + 1)) (sources_from n lists b (i + 1) xs) (omega arith) rest)
        | false ↦ ascending-less (n + i) (n + (i + 1)) (sources_from n lists b (i + 1) xs) (omega arith) rest
      ]

  pub sources-few : (i : ℕ) (xs : List X) → length (sources_from n lists b i xs) ≤ length xs
  sources-few i [] = omega arith
  sources-few i (x ∷ xs) =
      let rest = sources-few (i + 1) xs in
      elim (list_any (same_value (value.Object b)) (lists x)) as (λ t. length (cond t (value.Object (record { 0 = n + i }) ∷ []) [] ++ sources_from n lists b (i + 1) xs) ≤ suc (length xs)) [
        | true ↦ omega (arith, rest)
        | false ↦ omega (arith, rest)
      ]

  -- an object is a source exactly if its list has the other
  pub source-at : (xs : List X) (k : ℕ) (v : Value) → slice_get (sources_from n lists b 0 xs) k ≡ Some v
      → (a : ObjectNo) × (x : X) × (slice_get xs a.0 ≡ Some x) × (v ≡ value.Object (loaded_number n a)) × ((j : ℕ) × (slice_get (lists x) j ≡ Some (value.Object b)))
  source-at xs k v at =
      let r = flat_map-at (λ (y : ℕ × X). cond (list_any (same_value (value.Object b)) (lists y.1)) (value.Object (record { 0 = n + y.0 }) ∷ []) []) (enumerate_from 0 xs) k v at in
      let y = numbered-at xs 0 r.0 r.1 r.3 in
      let number = y.0 in
      let same : r.0 ≡ r.1.0 = omega (arith, number) in
      elim (list_any (same_value (value.Object b)) (lists r.1.1)) as (λ t. list_any (same_value (value.Object b)) (lists r.1.1) ≡ t → slice_get (cond t (value.Object (record { 0 = n + r.1.0 }) ∷ []) []) r.2 ≡ Some v
      → (a : ObjectNo) × (x : X) × (slice_get xs a.0 ≡ Some x) × (v ≡ value.Object (loaded_number n a)) × ((j : ℕ) × (slice_get (lists x) j ≡ Some (value.Object b)))) [
        | true ↦ λ q here.
            let w = any-at (same_value (value.Object b)) (lists r.1.1) q in
            (record { 0 = r.1.0 }, r.1.1, subst (λ (i : ℕ). slice_get xs i ≡ Some r.1.1) same y.1, first r.1.0 r.2 here, (w.0, w.2 ∙ ap Some (sym (same_value-true (value.Object b) w.1 w.3))))
        | false ↦ λ q here. absurd (none-some v here)
      ] refl r.4
    where
      first : (i j : ℕ) → slice_get (value.Object (record { 0 = n + i }) ∷ []) j ≡ Some v → v ≡ value.Object (record { 0 = n + i })
      first i zero h = sym (same_Some (value.Object (record { 0 = n + i })) v h)
      first i (suc j) h = absurd (none-some v h)

  pub at-source : (xs : List X) (a : ObjectNo) (x : X) (j : ℕ) → slice_get xs a.0 ≡ Some x → slice_get (lists x) j ≡ Some (value.Object b) → (k : ℕ) × (slice_get (sources_from n lists b 0 xs) k ≡ Some (value.Object (loaded_number n a)))
  at-source xs a x j at has =
      let y = at-numbered xs 0 a.0 x at in
      let number = y.1 in
      let same : y.0 ≡ a.0 = omega (arith, number) in
      let found = any-from (lists x) j has in
      at-flat_map (λ (y : ℕ × X). cond (list_any (same_value (value.Object b)) (lists y.1)) (value.Object (record { 0 = n + y.0 }) ∷ []) []) (enumerate_from 0 xs) a.0 0 (y.0, x) (value.Object (loaded_number n a)) y.2
      (ap (λ (t : Bool). slice_get (cond t (value.Object (record { 0 = n + y.0 }) ∷ []) []) 0) found ∙ ap (λ (i : ℕ). Some (value.Object (record { 0 = n + i }))) same)
    where
      any-from : (vs : List Value) (i : ℕ) → slice_get vs i ≡ Some (value.Object b) → list_any (same_value (value.Object b)) vs ≡ true
      any-from [] i h = absurd (none-some (value.Object b) h)
      any-from (v ∷ vs) zero h = or_left (same_value (value.Object b) v) (list_any (same_value (value.Object b)) vs) (subst (λ (w : Value). same_value (value.Object b) w ≡ true) (sym (same_Some v (value.Object b) h)) (same_value-self (value.Object b)))
      any-from (v ∷ vs) (suc i) h = or_right (same_value (value.Object b) v) (list_any (same_value (value.Object b)) vs) (any-from vs i h)

---------------------------------------------------------------- as the edits test it

-- a value that is an object, by its number
ascending-first : (n k : ℕ) (v : Value) (vs : List Value) (a : ObjectNo) → v ≡ value.Object a → is_ascending_from k (v ∷ vs) ≡ true → (is_ascending_from (suc a.0) vs ≡ true → IsAscending (n + suc a.0) (loaded_values n vs)) → IsAscending (n + k) (loaded_values n (v ∷ vs))
ascending-first n k v vs a is h rest =
    let both = and_parts (nat_le k a.0) (is_ascending_from (suc a.0) vs) (subst (λ (w : Value). is_ascending_from k (w ∷ vs) ≡ true) is h) in
    let low = leb-true k a.0 both.0 in
    subst (λ (w : Value). IsAscending (n + k) (loaded_values n (w ∷ vs))) (sym is) (omega (arith, low), subst (λ (i : ℕ). IsAscending i (loaded_values n vs)) {x = n + suc a.0} (omega arith) (rest both.1))

-- if the test passes and all values are objects, they are ascending
pub ascending-test : (n k : ℕ) (vs : List Value) → ((j : ℕ) (v : Value) → slice_get vs j ≡ Some v → (a : ObjectNo) × (v ≡ value.Object a)) → is_ascending_from k vs ≡ true → IsAscending (n + k) (loaded_values n vs)
ascending-test n k [] objects h = tt
ascending-test n k (v ∷ vs) objects h =
    let r = objects 0 v refl in
    ascending-first n k v vs r.0 r.1 h (λ t. ascending-test n (suc r.0.0) vs (λ j w at. objects (suc j) w at) t)
