-- The ends of remaining nodes are in order, and the ends that have a destroyed object are among them.
use Rattle.std.proofs.Common.{◌≡◌, ℕ, ◌+◌, zero, suc, ◌<◌, ◌≤◌, nat_eq, nat_lt, length, slice_get, slice_index_or, Bool, true, false, ◌&&◌, ◌||◌, not, List, [], ◌∷◌, ◌++◌, filter, flat_map, map, Option, Some, None, is_some, if◌then◌else◌, refl, sym, ap, ◌∙◌, subst, arith}
use Rattle.std.specs.List.{AllByRecursion, list_any, range_with_len}
use Rattle.std.specs.Option.{option_map_or}
use Rattle.std.proofs.lemmas.Bool.{and_parts, eqb-true, false≢true}
use Rattle.std.proofs.lemmas.Bool.Decides.{nat_tests}
use Rattle.std.proofs.lemmas.List.Elements.{All-get_or, filter_passes}
use Rattle.std.proofs.lemmas.Option.{none-some}
use Rattle.std.proofs.Math.Bool.{and-false, or-false}
use Rattle.mm_types.proofs.SameLemmas.{same_end-true}
use Rattle.mm_types.specs.Lookups as lookups
use Rattle.mm_types.specs.Same.{same_end, same_feature, same_node}
use Rattle.mm_types.specs.Shapes.{shape}
use Rattle.mm_types.specs.declared.end.End.{End}
use Rattle.mm_types.specs.declared.numbers.ClassNo.{ClassNo}
use Rattle.mm_types.specs.declared.numbers.FeatureNo.{FeatureNo}
use Rattle.mm_types.specs.declared.numbers.Node.{Node}
use Rattle.mm_types.specs.declared.numbers.Node.TheVariants as node
use Rattle.mm_types.specs.declared.numbers.ObjectNo.{ObjectNo}
use Rattle.mm_types.specs.declared.value.Value.{Value}
use Rattle.mm_meta.proofs.OwnerLemmas.{has_none}
use Rattle.links.specs.Laws.{goes}
use Rattle.links.specs.Links.{end}
use Rattle.links.specs.Plans.{AreInOrder, has_end, is_before, node_before}
use Rattle.mm_meta.proofs.FeatureListLemmas.{all-append}
use Rattle.containment.proofs.PartLemmas.{legal-at, live-made, values-linked}
use Rattle.models.specs.Legal.{IsLegal}
use Rattle.models.specs.Model.{Model, reading}
use Rattle.models.specs.Reading.{Reading, at_end, has_feature, is_live, object_node, resource_node}
use Rattle.removal.proofs.ListLemmas.{all-filter, all-map, all-weaker, passes-at}
use Rattle.removal.specs.Outer.{ends_of, holds_some, is_in_subtree, others_with, outer_ends, touched_ends}

---------------------------------------------------------------- lists in order

-- each element comes before all after it
abbrev pub IsSorted : {X : Type 0} → (X → X → Bool) → List X → Type 0
IsSorted R [] = Unit {0}
IsSorted R (x ∷ xs) = AllByRecursion (λ y. R x y ≡ true) xs × IsSorted R xs

pub all_of : {X : Type 0} (P : X → Type 0) (xs : List X) → ((x : X) → P x) → AllByRecursion P xs
all_of P [] of = tt
all_of P (x ∷ xs) of = (of x, all_of P xs of)

sorted-filter : {X : Type 0} (R : X → X → Bool) (p : X → Bool) (xs : List X) → IsSorted R xs → IsSorted R (filter p xs)
sorted-filter R p [] sorted = tt
sorted-filter R p (x ∷ xs) sorted =
    elim (p x) as (λ b. IsSorted R (if b then x ∷ filter p xs else filter p xs)) [
      | true ↦ (all-weaker _ _ (filter p xs) (λ y h. h.0) (all-filter (λ y. R x y ≡ true) p xs sorted.0), sorted-filter R p xs sorted.1)
      | false ↦ sorted-filter R p xs sorted.1
    ]

sorted-append : {X : Type 0} (R : X → X → Bool) (xs ys : List X) → IsSorted R xs → IsSorted R ys → AllByRecursion (λ (x : X). AllByRecursion (λ y. R x y ≡ true) ys) xs → IsSorted R (xs ++ ys)
sorted-append R [] ys a b across = b
sorted-append R (x ∷ xs) ys a b across = (all-append (λ y. R x y ≡ true) xs ys a.0 across.0, sorted-append R xs ys a.1 b across.1)

sorted-map : {X Y : Type 0} (R : X → X → Bool) (Q : Y → Y → Bool) (f : X → Y) → ((x y : X) → R x y ≡ true → Q (f x) (f y) ≡ true) → (xs : List X) → IsSorted R xs → IsSorted Q (map f xs)
sorted-map R Q f keeps [] sorted = tt
sorted-map R Q f keeps (x ∷ xs) sorted = (all-map (λ y. Q (f x) y ≡ true) f xs (all-weaker _ _ xs (keeps x) sorted.0), sorted-map R Q f keeps xs sorted.1)

range-above : (b a n : ℕ) → b < a → AllByRecursion (λ y. nat_lt b y ≡ true) (range_with_len a n)
range-above b a zero low = tt
range-above b a (suc n) low = (grind (arith, nat_tests), range-above b (a + 1) n (omega (arith, low)))

range-sorted : (a n : ℕ) → IsSorted nat_lt (range_with_len a n)
range-sorted a zero = tt
range-sorted a (suc n) = (range-above a (a + 1) n (omega arith), range-sorted (a + 1) n)

---------------------------------------------------------------- ends in order

module _ (r : Reading) (g : Node → Bool) where
  others-sorted : (f : FeatureNo) → IsSorted node_before (others_with r g f)
  others-sorted f =
      let resources = sorted-map nat_lt node_before resource_node (λ i j h. h) (range_with_len 0 (length r.uris)) (range-sorted 0 (length r.uris)) in
      let objects = sorted-map nat_lt node_before object_node (λ i j h. h) (range_with_len 0 r.next) (range-sorted 0 r.next) in
      elim (same_feature f (lookups.contents r.metamodel)) as (λ b. IsSorted node_before (if b then map resource_node (range_with_len 0 (length r.uris)) else filter (λ n. not (g n)) (map object_node (range_with_len 0 r.next)))) [
        | true ↦ resources
        | false ↦ sorted-filter node_before (λ n. not (g n)) (map object_node (range_with_len 0 r.next)) objects
      ]

  same-before : (k : ℕ) (m n : Node) → node_before m n ≡ true → (nat_lt k k || (nat_eq k k && node_before m n)) ≡ true
  same-before k m n h = grind (arith, nat_tests)

  block-sorted : (k : ℕ) → IsSorted is_before (ends_of r g k)
  block-sorted k = let f : FeatureNo = record { 0 = k } in sorted-map node_before is_before (λ n. at_end n f) (λ m n h. same-before k m n h) (others_with r g f) (others-sorted f)

  block-feature : (P : ℕ → Type 0) (k : ℕ) → P k → AllByRecursion (λ (e : End). P e.feature.0) (ends_of r g k)
  block-feature P k h = let f : FeatureNo = record { 0 = k } in all-map (λ (e : End). P e.feature.0) (λ n. at_end n f) (others_with r g f) (all_of _ (others_with r g f) (λ n. h))

  blocks : ℕ → ℕ → List End
  blocks a n = flat_map (ends_of r g) (range_with_len a n)

  blocks-above : (b a n : ℕ) → b < a → AllByRecursion (λ (e : End). nat_lt b e.feature.0 ≡ true) (flat_map (ends_of r g) (range_with_len a n))
  blocks-above b a zero low = tt
  blocks-above b a (suc n) low =
      all-append (λ (e : End). nat_lt b e.feature.0 ≡ true) (ends_of r g a) (flat_map (ends_of r g) (range_with_len (a + 1) n)) (block-feature (λ k. nat_lt b k ≡ true) a (grind (arith, nat_tests))) (blocks-above b (a + 1) n (omega (arith, low)))

  lower-before : (x y : End) → nat_lt x.feature.0 y.feature.0 ≡ true → is_before x y ≡ true
  lower-before x y h = ap (λ (b : Bool). b || (same_feature x.feature y.feature && node_before x.node y.node)) h

  blocks-sorted : (a n : ℕ) → IsSorted is_before (flat_map (ends_of r g) (range_with_len a n))
  blocks-sorted a zero = tt
  blocks-sorted a (suc n) =
      let rest = flat_map (ends_of r g) (range_with_len (a + 1) n) in
      sorted-append is_before (ends_of r g a) rest (block-sorted a) (blocks-sorted (a + 1) n)
      (all-weaker (λ (x : End). AllByRecursion (λ (y : End). nat_lt x.feature.0 y.feature.0 ≡ true) rest) (λ (x : End). AllByRecursion (λ (y : End). is_before x y ≡ true) rest) (ends_of r g a)
      (λ x h. all-weaker _ _ rest (lower-before x) h) (block-feature (λ k. AllByRecursion (λ (y : End). nat_lt k y.feature.0 ≡ true) rest) a (blocks-above a (a + 1) n (omega arith))))

in_order : (es : List End) → IsSorted is_before es → AreInOrder es
in_order [] sorted = tt
in_order (e ∷ []) sorted = (tt, tt)
in_order (e ∷ d ∷ ds) sorted = (sorted.0.0, in_order (d ∷ ds) sorted.1)

pub touched-sorted : (s : Model) (o : ObjectNo) → IsSorted is_before (touched_ends (reading s) o)
touched-sorted s o =
    let r = reading s in
    let g = is_in_subtree r o in
    sorted-filter is_before (holds_some r g) (outer_ends r g) (blocks-sorted r g 0 (suc (length r.metamodel.features)))

pub touched-in_order : (s : Model) (o : ObjectNo) → AreInOrder (touched_ends (reading s) o)
touched-in_order s o = in_order (touched_ends (reading s) o) (touched-sorted s o)

---------------------------------------------------------------- which ends

pub has_end-append : (xs ys : List End) (e : End) → has_end (xs ++ ys) e ≡ (has_end xs e || has_end ys e)
has_end-append [] ys e = refl
has_end-append (x ∷ xs) ys e = elim (same_end x e) as (λ b. (b || has_end (xs ++ ys) e) ≡ ((b || has_end xs e) || has_end ys e)) [ true ↦ refl | false ↦ has_end-append xs ys e ]

pub has_end-filter : (p : End → Bool) (es : List End) (e : End) → has_end (filter p es) e ≡ (p e && has_end es e)
has_end-filter p [] e = sym (and-false (p e))
has_end-filter p (d ∷ ds) e =
    elim (same_end d e) as (λ b. same_end d e ≡ b → has_end (filter p (d ∷ ds)) e ≡ (p e && (b || has_end ds e))) [
      | true ↦ λ same.
          let is = same_end-true d e same in
          elim (p d) as (λ b. p d ≡ b → has_end (if b then d ∷ filter p ds else filter p ds) e ≡ (p e && true)) [
            | true ↦ λ h. ap (λ (b : Bool). b || has_end (filter p ds) e) same ∙ sym (ap (λ (b : Bool). b && true) (sym (ap p is) ∙ h))
            | false ↦ λ h. has_end-filter p ds e ∙ ap (λ (b : Bool). b && has_end ds e) (sym (ap p is) ∙ h) ∙ sym (ap (λ (b : Bool). b && true) (sym (ap p is) ∙ h))
          ] refl
      | false ↦ λ other.
          elim (p d) as (λ b. has_end (if b then d ∷ filter p ds else filter p ds) e ≡ (p e && has_end ds e)) [
            | true ↦ ap (λ (b : Bool). b || has_end (filter p ds) e) other ∙ has_end-filter p ds e
            | false ↦ has_end-filter p ds e
          ]
    ] refl

-- a node is among some nodes
abbrev has_node : List Node → Node → Bool
has_node ns n = list_any (λ m. same_node m n) ns

has_end-at : (f : FeatureNo) (ns : List Node) (e : End) → has_end (map (λ n. at_end n f) ns) e ≡ (same_feature f e.feature && has_node ns e.node)
has_end-at f [] e = sym (and-false (same_feature f e.feature))
has_end-at f (n ∷ ns) e =
    (λ i. (same_node n e.node && same_feature f e.feature) || has_end-at f ns e i) ∙ by (same_feature f e.feature) (same_node n e.node) (has_node ns e.node)
  where
    by : (a b c : Bool) → ((b && a) || (a && c)) ≡ (a && (b || c))
    by true true c = refl
    by true false c = refl
    by false true c = refl
    by false false c = refl

resource-there : (a n k : ℕ) → a ≤ k → k < a + n → has_node (map resource_node (range_with_len a n)) (resource_node k) ≡ true
resource-there a zero k low high = absurd (omega (arith, low, high))
resource-there a (suc n) k low high =
    elim (nat_eq a k) as (λ b. nat_eq a k ≡ b → (b || has_node (map resource_node (range_with_len (a + 1) n)) (resource_node k)) ≡ true) [
      | true ↦ λ _. refl
      | false ↦ λ other. resource-there (a + 1) n k (grind (arith, nat_tests)) (omega (arith, high))
    ] refl

module _ (g : Node → Bool) where
  stays : List ℕ → List Node
  stays is = filter (λ n. not (g n)) (map object_node is)

  -- one object more
  object-step : (i : ℕ) (is : List ℕ) (k : ℕ) → nat_eq i k ≡ false → has_node (filter (λ n. not (g n)) (map object_node (i ∷ is))) (object_node k) ≡ has_node (filter (λ n. not (g n)) (map object_node is)) (object_node k)
  object-step i is k other =
      let rest = filter (λ n. not (g n)) (map object_node is) in
      elim (g (object_node i)) as (λ b. has_node (if not b then object_node i ∷ rest else rest) (object_node k) ≡ has_node rest (object_node k)) [
        | true ↦ refl
        | false ↦ ap (λ (b : Bool). b || has_node rest (object_node k)) other
      ]

  object-past : (a n k : ℕ) → k < a → has_node (filter (λ n. not (g n)) (map object_node (range_with_len a n))) (object_node k) ≡ false
  object-past a zero k low = refl
  object-past a (suc n) k low = object-step a (range_with_len (a + 1) n) k (grind (arith, nat_tests)) ∙ object-past (a + 1) n k (omega (arith, low))

  object-there : (a n k : ℕ) → a ≤ k → k < a + n → has_node (filter (λ n. not (g n)) (map object_node (range_with_len a n))) (object_node k) ≡ not (g (object_node k))
  object-there a zero k low high = absurd (omega (arith, low, high))
  object-there a (suc n) k low high =
      let rest = filter (λ n. not (g n)) (map object_node (range_with_len (a + 1) n)) in
      elim (nat_eq a k) as (λ b. nat_eq a k ≡ b → has_node (filter (λ n. not (g n)) (map object_node (a ∷ range_with_len (a + 1) n))) (object_node k) ≡ not (g (object_node k))) [
        | true ↦ λ same.
            let is : a ≡ k = eqb-true a k same in
            elim (g (object_node a)) as (λ b. g (object_node a) ≡ b → has_node (if not b then object_node a ∷ rest else rest) (object_node k) ≡ not (g (object_node k))) [
              | true ↦ λ h. object-past (a + 1) n k (omega (arith, is)) ∙ sym (ap not (ap (λ (x : ℕ). g (object_node x)) (sym is) ∙ h))
              | false ↦ λ h. ap (λ (b : Bool). b || has_node rest (object_node k)) same ∙ sym (ap not (ap (λ (x : ℕ). g (object_node x)) (sym is) ∙ h))
            ] refl
        | false ↦ λ other. object-step a (range_with_len (a + 1) n) k other ∙ object-there (a + 1) n k (grind (arith, nat_tests)) (omega (arith, high))
      ] refl

module _ (rd : Reading) (g : Node → Bool) where
  block-has : (k : ℕ) (e : End) → has_end (ends_of rd g k) e ≡ (nat_eq k e.feature.0 && has_node (others_with rd g (record { 0 = k })) e.node)
  block-has k e = has_end-at (record { 0 = k }) (others_with rd g (record { 0 = k })) e

  blocks-past : (a n : ℕ) (e : End) → e.feature.0 < a → has_end (flat_map (ends_of rd g) (range_with_len a n)) e ≡ false
  blocks-past a zero e low = refl
  blocks-past a (suc n) e low =
      let other : nat_eq a e.feature.0 ≡ false = grind (arith, nat_tests) in
      has_end-append (ends_of rd g a) (flat_map (ends_of rd g) (range_with_len (a + 1) n)) e
      ∙ (λ i. (block-has a e ∙ ap (λ (b : Bool). b && has_node (others_with rd g (record { 0 = a })) e.node) other) i || blocks-past (a + 1) n e (omega (arith, low)) i)

  blocks-there : (a n : ℕ) (e : End) → a ≤ e.feature.0 → e.feature.0 < a + n → has_end (flat_map (ends_of rd g) (range_with_len a n)) e ≡ has_node (others_with rd g e.feature) e.node
  blocks-there a zero e low high = absurd (omega (arith, low, high))
  blocks-there a (suc n) e low high =
      let rest = flat_map (ends_of rd g) (range_with_len (a + 1) n) in
      has_end-append (ends_of rd g a) rest e
      ∙ elim (nat_eq a e.feature.0) as (λ b. nat_eq a e.feature.0 ≡ b → (has_end (ends_of rd g a) e || has_end rest e) ≡ has_node (others_with rd g e.feature) e.node) [
        | true ↦ λ same.
            let is : a ≡ e.feature.0 = eqb-true a e.feature.0 same in
            (λ i. (block-has a e ∙ ap (λ (b : Bool). b && has_node (others_with rd g (record { 0 = a })) e.node) same) i || blocks-past (a + 1) n e (omega (arith, is)) i)
            ∙ or-false _ ∙ ap (λ (k : ℕ). has_node (others_with rd g (record { 0 = k })) e.node) is
        | false ↦ λ other.
            (λ i. (block-has a e ∙ ap (λ (b : Bool). b && has_node (others_with rd g (record { 0 = a })) e.node) other) i || has_end rest e)
            ∙ blocks-there (a + 1) n e (grind (arith, nat_tests)) (omega (arith, high))
      ] refl

---------------------------------------------------------------- ends of a legal model

get-within : {X : Type 0} (xs : List X) (k : ℕ) (x : X) → slice_get xs k ≡ Some x → k < length xs
get-within [] k x h = absurd (none-some x h)
get-within (y ∷ ys) zero x h = omega arith
get-within (y ∷ ys) (suc k) x h = let low = get-within ys k x h in omega (arith, low)

module _ (s : Model) (legal : IsLegal s) (o : ObjectNo) (e : End) (has : has_feature (reading s) e.node e.feature ≡ true) where
  abbrev read : Reading
  read = reading s

  -- the features of objects are those of classes
  of-class : (c : ClassNo) → lookups.has_feature s.metamodel c e.feature ≡ true → e.feature.0 < length s.metamodel.features
  of-class c h =
      elim (lookups.feature s.metamodel e.feature) as (λ q. lookups.feature s.metamodel e.feature ≡ q → e.feature.0 < length s.metamodel.features) [
        | None ↦ λ none. absurd (false≢true (has_none s.metamodel legal.metamodel c e.feature none ∙ h))
        | Some x ↦ λ is. get-within s.metamodel.features e.feature.0 x is
      ] refl

  of-object : (x : ObjectNo) (q : Option ClassNo) → read.class x ≡ q → option_map_or (λ c. lookups.has_feature s.metamodel c e.feature) q false ≡ true → (is_live read x ≡ true) × (e.feature.0 < length s.metamodel.features)
  of-object x None is h = absurd (false≢true h)
  of-object x (Some c) is h = (ap is_some is, of-class c h)

  among : has_node (others_with read (is_in_subtree read o) e.feature) e.node ≡ not (is_in_subtree read o e.node) × (e.feature.0 < suc (length s.metamodel.features))
  among = by e.node has
    where
      by : (n : Node) → has_feature read n e.feature ≡ true → (has_node (others_with read (is_in_subtree read o) e.feature) n ≡ not (is_in_subtree read o n)) × (e.feature.0 < suc (length s.metamodel.features))
      by (node.Object x) h =
          let at = of-object x (read.class x) refl h in
          let low = at.1 in
          let made = live-made s x at.0 in
          let other : nat_eq e.feature.0 (length s.metamodel.features) ≡ false = grind (arith, nat_tests) in (
            ap (λ (b : Bool). has_node (if b then map resource_node (range_with_len 0 (length read.uris)) else filter (λ n. not (is_in_subtree read o n)) (map object_node (range_with_len 0 read.next))) (node.Object x)) other
                ∙ object-there (is_in_subtree read o) 0 read.next x.0 (omega arith) (omega (arith, made)),
            omega (arith, low),
          )
      by (node.Resource k) h =
          let both = and_parts (nat_lt k.0 (length read.uris)) (same_feature e.feature (lookups.contents s.metamodel)) h in
          let is : e.feature.0 ≡ length s.metamodel.features = eqb-true e.feature.0 (length s.metamodel.features) both.1 in (
            ap (λ (b : Bool). has_node (if b then map resource_node (range_with_len 0 (length read.uris)) else filter (λ n. not (is_in_subtree read o n)) (map object_node (range_with_len 0 read.next))) (node.Resource k)) both.1
                ∙ resource-there 0 (length read.uris) k.0 (omega arith) (grind (arith, nat_tests)),
            omega (arith, is),
          )

pub touched-all : (s : Model) → IsLegal s → (o : ObjectNo) → is_live (reading s) o ≡ true → (e : End) → has_end (touched_ends (reading s) o) e ≡ (not (is_in_subtree (reading s) o e.node) && holds_some (reading s) (is_in_subtree (reading s) o) e)
touched-all s legal o live e =
    let r = reading s in
    let g = is_in_subtree r o in
    has_end-filter (holds_some r g) (outer_ends r g) e
    ∙ elim (holds_some r g e) as (λ b. holds_some r g e ≡ b → (b && has_end (outer_ends r g) e) ≡ (not (g e.node) && b)) [
      | false ↦ λ _. sym (and-false (not (g e.node)))
      | true ↦ λ h.
          let both = and_parts (shape r.metamodel e.feature).is_reference (list_any (goes g) (r.values e)) h in
          let at = passes-at (goes g) (r.values e) both.1 in
          let stands = subst (λ (vs : List Value). slice_get vs at.0 ≡ Some at.1) (values-linked s e both.0) at.2 in
          let is = among s legal o e (legal-at r e (end s.links e) at.0 at.1 (legal.links.ends e) stands).0 in
          blocks-there r g 0 (suc (length r.metamodel.features)) e (omega arith) (let low = is.1 in omega (arith, low)) ∙ is.0 ∙ sym (and-true (not (g e.node)))
    ] refl
  where
    and-true : (b : Bool) → (b && true) ≡ b
    and-true true = refl
    and-true false = refl

-- an end that loses something is the end of a reference
pub touched-reference : (r : Reading) (o : ObjectNo) (es : List End) (k : ℕ) (d : End) → es ≡ touched_ends r o → k < length es → (shape r.metamodel (slice_index_or es k d).feature).is_reference ≡ true
touched-reference r o es k d is low =
    let some : End → Bool = holds_some r (is_in_subtree r o) in
    let lower : k < length (touched_ends r o) = omega (arith, low, ap length is) in
    ap (λ (xs : List End). (shape r.metamodel (slice_index_or xs k d).feature).is_reference) is
    ∙ (and_parts _ _ (All-get_or (λ e. some e ≡ true) (touched_ends r o) k d lower (filter_passes some (outer_ends r (is_in_subtree r o))))).0
