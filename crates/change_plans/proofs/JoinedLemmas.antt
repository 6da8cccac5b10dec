-- The ends after objects took the locations of proxies: which proxies are left, and which objects are there.
use Rattle.std.proofs.Common.{◌≡◌, inl, inr, ℕ, zero, suc, ◌&&◌, ◌||◌, nat_eq, not, Bool, true, false, List, [], ◌∷◌, Option, Some, None, is_some, length, option_map, slice_get, if◌then◌else◌, refl, sym, ap, ◌∙◌, subst, arith}
use Rattle.std.specs.Prelude.{cond, option_and_then, position, slice_set}
use Rattle.std.specs.List.{list_any}
use Rattle.std.specs.Option.{option_map_or}
use Rattle.std.proofs.lemmas.Bool.{and_parts, false≢true, eqb-true}
use Rattle.std.proofs.lemmas.Bool.Decides.{nat_tests}
use Rattle.std.proofs.lemmas.Option.{none-some, same_Some}
use Rattle.doc_parts.proofs.WayLemmas.{position_cons}
use Rattle.mm_types.proofs.SameLemmas.{same_end-true}
use Rattle.mm_types.specs.Ends.{has_value}
use Rattle.mm_types.specs.Same.{same_end, same_value}
use Rattle.mm_types.specs.declared.end.End.{End}
use Rattle.mm_types.specs.declared.numbers.FeatureNo.{FeatureNo}
use Rattle.mm_types.specs.declared.numbers.Node.TheVariants as node
use Rattle.mm_types.specs.declared.numbers.ObjectNo.{ObjectNo}
use Rattle.mm_types.specs.declared.value.Value.{Value}
use Rattle.mm_types.specs.declared.value.Value.TheVariants as value
use Rattle.links.specs.Links.{text_of}
use Rattle.models.specs.Reading.{at_end}
use Rattle.proxies.specs.Keys.{key_of}
use Rattle.models.specs.ReferenceKeys.{reference_key, same_reference_key}
use Rattle.proxies.specs.Proxies.{end_of}
use Rattle.proxies.specs.ResolvingAll.{ends_after_replace}
use Rattle.proxies.specs.declared.site.ProxySite.{ProxySite}
use Rattle.proxies.proofs.ReplacedLemmas.{get-set}
use Rattle.proxies.proofs.LeadLemmas.{eq-self}

eq-swap : (m n : ℕ) → nat_eq m n ≡ true → nat_eq n m ≡ true
eq-swap m n h = grind (arith, nat_tests)

and-from : (a b c : Bool) → a ≡ true → b ≡ true → c ≡ true → (a && (b && c)) ≡ true
and-from a b c x y z = λ i. x i && (y i && z i)

site-is : (p q : ProxySite) → same_reference_key (key_of p) (key_of q) ≡ true → p ≡ q
site-is p q h =
    let one = and_parts (nat_eq p.object.0 q.object.0) _ h in
    let two = and_parts (nat_eq p.feature.0 q.feature.0) _ one.1 in
    let object = eqb-true p.object.0 q.object.0 one.0 in
    let feature = eqb-true p.feature.0 q.feature.0 two.0 in
    let index = eqb-true p.index q.index two.1 in
    λ i. record { object = record { 0 = object i }; feature = record { 0 = feature i }; index = index i }

-- locations at one end with the same index have the same key
key-from : (p q : ProxySite) → same_end (end_of q) (end_of p) ≡ true → p.index ≡ q.index → same_reference_key (key_of p) (key_of q) ≡ true
key-from p q same index =
    let both = and_parts (nat_eq q.object.0 p.object.0) _ same in
    and-from _ _ _ (eq-swap q.object.0 p.object.0 both.0) (eq-swap q.feature.0 p.feature.0 both.1) (ap (λ (n : ℕ). nat_eq n q.index) index ∙ eq-self q.index)

---------------------------------------------------------------- proxies

-- a proxy is at a position
abbrev pub is_proxy_in : (End → List Value) → ProxySite → Bool
is_proxy_in ends p = is_some (option_and_then text_of (slice_get (ends (end_of p)) p.index))

module _ (ends : End → List Value) (q : ProxySite) (o : ObjectNo) (t : List ℕ) (there : slice_get (ends (end_of q)) q.index ≡ Some (value.Proxy t)) where
  abbrev after : End → List Value
  after = ends_after_replace ends (end_of q) q.index (value.Object o)

  at-site : slice_get (slice_set (ends (end_of q)) q.index (value.Object o)) q.index ≡ Some (value.Object o)
  at-site = set-here (ends (end_of q)) q.index there
    where
      set-here : (vs : List Value) (i : ℕ) → slice_get vs i ≡ Some (value.Proxy t) → slice_get (slice_set vs i (value.Object o)) i ≡ Some (value.Object o)
      set-here [] i at = absurd (none-some (value.Proxy t) at)
      set-here (v ∷ vs) zero at = refl
      set-here (v ∷ vs) (suc i) at = set-here vs i at

  end-self : same_end (end_of q) (end_of q) ≡ true
  end-self = λ i. eq-self q.object.0 i && eq-self q.feature.0 i

  gone-here : is_proxy_in (ends_after_replace ends (end_of q) q.index (value.Object o)) q ≡ false
  gone-here =
      ap (λ (b : Bool). is_some (option_and_then text_of (slice_get (if b then slice_set (ends (end_of q)) q.index (value.Object o) else ends (end_of q)) q.index))) end-self
      ∙ ap (λ (x : Option Value). is_some (option_and_then text_of x)) at-site

  still-there : (p : ProxySite) → same_reference_key (key_of p) (key_of q) ≡ false → slice_get (ends_after_replace ends (end_of q) q.index (value.Object o) (end_of p)) p.index ≡ slice_get (ends (end_of p)) p.index
  still-there p other =
      elim (same_end (end_of q) (end_of p)) as (λ b. same_end (end_of q) (end_of p) ≡ b → slice_get (if b then slice_set (ends (end_of p)) q.index (value.Object o) else ends (end_of p)) p.index ≡ slice_get (ends (end_of p)) p.index) [
        | true ↦ λ same.
            let at_q = subst (λ (y : End). slice_get (ends y) q.index ≡ Some (value.Proxy t)) (same_end-true (end_of q) (end_of p) same) there in
            elim (get-set (ends (end_of p)) q.index (value.Object o) (value.Proxy t) at_q p.index) [
              | inl h ↦ absurd (false≢true (sym other ∙ key-from p q same h.0))
              | inr h ↦ h
            ]
        | false ↦ λ _. refl
      ] refl

  -- the proxies that were there are still there, except the one that is replaced
  pub proxy-ends_after_replace : (p : ProxySite) → is_proxy_in (ends_after_replace ends (end_of q) q.index (value.Object o)) p ≡ (is_proxy_in ends p && not (same_reference_key (key_of p) (key_of q)))
  proxy-ends_after_replace p =
      elim (same_reference_key (key_of p) (key_of q)) as (λ b. same_reference_key (key_of p) (key_of q) ≡ b → is_proxy_in (ends_after_replace ends (end_of q) q.index (value.Object o)) p ≡ (is_proxy_in ends p && not b)) [
        | true ↦ λ same. subst (λ (y : ProxySite). is_proxy_in after y ≡ (is_proxy_in ends y && false)) (sym (site-is p q same)) (gone-here ∙ sym (and-false (is_proxy_in ends q)))
        | false ↦ λ other. ap (λ (x : Option Value). is_some (option_and_then text_of x)) (still-there p other) ∙ sym (and-true (is_proxy_in ends p))
      ] refl
    where
      and-false : (b : Bool) → (b && false) ≡ false
      and-false true = refl
      and-false false = refl

      and-true : (b : Bool) → (b && true) ≡ b
      and-true true = refl
      and-true false = refl

---------------------------------------------------------------- objects

has-set : (vs : List Value) (i : ℕ) (w b : ObjectNo) (t : List ℕ) → slice_get vs i ≡ Some (value.Proxy t) → has_value (slice_set vs i (value.Object w)) (value.Object b) ≡ (has_value vs (value.Object b) || nat_eq b.0 w.0)
has-set [] i w b t at = absurd (none-some (value.Proxy t) at)
has-set (v ∷ vs) zero w b t at =
    swap (nat_eq b.0 w.0) (has_value vs (value.Object b))
    ∙ ap (λ (x : Value). (same_value (value.Object b) x || has_value vs (value.Object b)) || nat_eq b.0 w.0) (sym (same_Some v (value.Proxy t) at))
  where
    swap : (a c : Bool) → (a || c) ≡ ((false || c) || a)
    swap true true = refl
    swap true false = refl
    swap false true = refl
    swap false false = refl
has-set (v ∷ vs) (suc i) w b t at = ap (λ (c : Bool). same_value (value.Object b) v || c) (has-set vs i w b t at) ∙ group (same_value (value.Object b) v) (has_value vs (value.Object b)) (nat_eq b.0 w.0)
  where
    group : (x y z : Bool) → (x || (y || z)) ≡ ((x || y) || z)
    group true y z = refl
    group false y z = refl

-- the objects that were at an end are still there, and so is the new one
pub has-ends_after_replace : (ends : End → List Value) (q : ProxySite) (w : ObjectNo) (t : List ℕ) → slice_get (ends (end_of q)) q.index ≡ Some (value.Proxy t) → (o : ObjectNo) (f : FeatureNo) (b : ObjectNo)
    → has_value (ends_after_replace ends (end_of q) q.index (value.Object w) (at_end (node.Object o) f)) (value.Object b) ≡ (has_value (ends (at_end (node.Object o) f)) (value.Object b) || same_reference_key (reference_key o f b.0) (reference_key q.object q.feature w.0))
has-ends_after_replace ends q w t there o f b =
    let d = at_end (node.Object o) f in
    elim (same_end (end_of q) d) as (λ c. same_end (end_of q) d ≡ c → has_value (if c then slice_set (ends d) q.index (value.Object w) else ends d) (value.Object b) ≡ (has_value (ends d) (value.Object b) || same_reference_key (reference_key o f b.0) (reference_key q.object q.feature w.0))) [
      | true ↦ λ same.
          let both = and_parts (nat_eq q.object.0 o.0) _ same in
          let mine : same_reference_key (reference_key o f b.0) (reference_key q.object q.feature w.0) ≡ nat_eq b.0 w.0 = (λ i. eq-swap q.object.0 o.0 both.0 i && (eq-swap q.feature.0 f.0 both.1 i && nat_eq b.0 w.0)) in
          has-set (ends d) q.index w b t (subst (λ (y : End). slice_get (ends y) q.index ≡ Some (value.Proxy t)) (same_end-true (end_of q) d same) there)
          ∙ ap (λ (c : Bool). has_value (ends d) (value.Object b) || c) (sym mine)
      | false ↦ λ other. sym (ap (λ (c : Bool). has_value (ends d) (value.Object b) || c) (key-apart other) ∙ or-false (has_value (ends d) (value.Object b)))
    ] refl
  where
    or-false : (c : Bool) → (c || false) ≡ c
    or-false true = refl
    or-false false = refl

    parted : (x y z : Bool) → (x ≡ true → y ≡ true → ⊥) → (x && (y && z)) ≡ false
    parted true true z h = absurd (h refl refl)
    parted true false z h = refl
    parted false y z h = refl

    key-apart : same_end (end_of q) (at_end (node.Object o) f) ≡ false → same_reference_key (reference_key o f b.0) (reference_key q.object q.feature w.0) ≡ false
    key-apart other = parted (nat_eq o.0 q.object.0) (nat_eq f.0 q.feature.0) (nat_eq b.0 w.0) (λ x y. false≢true (sym other ∙ (λ i. eq-swap o.0 q.object.0 x i && eq-swap f.0 q.feature.0 y i)))

---------------------------------------------------------------- positions

-- if the values of two lists pass and fail in the same way, the first that passes is at the same index
pub positions-alike : (p q : Value → Bool) (xs ys : List Value) → length xs ≡ length ys → ((j : ℕ) → option_map_or p (slice_get xs j) false ≡ option_map_or q (slice_get ys j) false) → position p xs ≡ position q ys
positions-alike p q [] [] same each = refl
positions-alike p q [] (y ∷ ys) same each = absurd (omega (arith, same))
positions-alike p q (x ∷ xs) [] same each = absurd (omega (arith, same))
positions-alike p q (x ∷ xs) (y ∷ ys) same each =
    position_cons p x xs ∙ (λ i. cond (each 0 i) (Some 0) (option_map suc (positions-alike p q xs ys (omega (arith, same)) (λ j. each (suc j)) i))) ∙ sym (position_cons q y ys)

later-any : (b : Bool) (q : Option ℕ) (i : ℕ) → ((j : ℕ) → q ≡ Some j → b ≡ true) → option_map suc q ≡ Some i → b ≡ true
later-any b None i each h = absurd (none-some i h)
later-any b (Some j) i each h = each j refl

-- if there is a first value that passes, some value passes
pub position-any : {X : Type 0} (test : X → Bool) (xs : List X) (i : ℕ) → position test xs ≡ Some i → list_any test xs ≡ true
position-any test [] i h = absurd (none-some i h)
position-any test (x ∷ xs) i h =
    elim (test x) as (λ b. cond b (Some 0) (option_map suc (position test xs)) ≡ Some i → (b || list_any test xs) ≡ true) [
      | true ↦ λ _. refl
      | false ↦ λ later. later-any (list_any test xs) (position test xs) i (λ j is. position-any test xs j is) later
    ] (sym (position_cons test x xs) ∙ h)
