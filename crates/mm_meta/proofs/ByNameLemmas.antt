-- A class has at most one feature of a name, which is found by looking at each feature of the name.
use Rattle.std.proofs.Common.{◌≡◌, ◌≢◌, ◌∙◌, ◌<◌, ◌≤◌, ◌||◌, ◌++◌, ◌⊎◌, ℕ, zero, suc, Bool, true, false, cond, List, [], ◌∷◌, Option, Some, None, ⊎_elim, inl, inr, ap, arith, get_or, length, map, nat_eq, refl, subst, sym}
use Rattle.std.specs.Prelude.{IfSome, option_and_then, option_map, position, slice_get}
use Rattle.std.specs.List.{find, list_any}
use Rattle.std.specs.Option.{option_map_or}
use Rattle.std.specs.Str.{bytes_eq}
use Rattle.std.proofs.lemmas.Bool.{cases_eq, cases_lt, eq-eqb, eqb-true}
use Rattle.std.proofs.lemmas.List.{length-append, length-map}
use Rattle.std.proofs.lemmas.List.Quantifiers.{position-Some}
use Rattle.std.proofs.lemmas.Option.{slice_get-map, slice_get_cases, slice_get_past}
use Rattle.mm_types.specs.Graph.{Conforms, by_class}
use Rattle.mm_types.specs.Lookups.{ConformsTo, feature, feature_by_name, feature_name, features, has_feature, name_in}
use Rattle.mm_types.specs.OfDocument.{IsOfDocument}
use Rattle.mm_types.specs.Raw.{RawMetamodel}
use Rattle.mm_types.specs.Resolved.{Metamodel, class_no, feature_no, graph_of, own_of, resolved_feature, resolved_metamodel}
use Rattle.mm_types.specs.WellFormed.{WellFormed, own_names}
use Rattle.mm_types.specs.declared.feature.Feature.{Feature}
use Rattle.mm_types.specs.declared.meta_fault.Condition.TheVariants.{DuplicateName}
use Rattle.mm_types.specs.declared.meta_fault.Place.TheVariants as place
use Rattle.mm_types.specs.declared.numbers.ClassNo.{ClassNo}
use Rattle.mm_types.specs.declared.numbers.FeatureNo.{FeatureNo}
use Rattle.mm_types.specs.declared.raw.RawClass.{RawClass}
use Rattle.mm_types.specs.declared.raw.RawFeature.{RawFeature}
use Rattle.mm_meta.specs.FeatureNames.{AreFeatureNames, AreRows, ComesTo, IsNext, IsRow}
use Rattle.mm_meta.specs.Meta.{IsMeta, metamodel}
use Rattle.mm_meta.specs.declared.feature_names.FeatureNames.{FeatureNames}
use Rattle.mm_meta.specs.declared.meta.Meta.TheInside.{Inside}
use Rattle.mm_graph.proofs.Twice.{or_left, or_right}
use Rattle.mm_meta.proofs.FeatureNameLemmas.{is_name, missing, name_is}
use Rattle.mm_meta.proofs.MetaLemmas.{supertypes_resolved}
use Rattle.mm_meta.proofs.OwnerLemmas.{has_none, has_of_owner}
use Rattle.mm_meta.proofs.PlaceLemmas.{IsDeclared, declared_at}

own_name : (ks : List RawClass) (c i : ℕ) (r : RawFeature) → option_and_then (λ k. slice_get k.features i) (slice_get ks c) ≡ Some r
    → slice_get (get_or (map (λ k. map (λ f. f.name) k.features) ks) c []) i ≡ Some r.name
own_name [] c i r at = cc
own_name (k ∷ ks) zero i r at = slice_get-map (λ f. f.name) k.features i ∙ ap (option_map (λ f. f.name)) at
own_name (k ∷ ks) (suc c) i r at = own_name ks c i r at

-- a feature that a class has: the class that declares it, and its index there
record IsInherited (raw : RawMetamodel) (c : ClassNo) (f : FeatureNo) (name : List ℕ) : Type 0 where
  pub class : ℕ
  pub index : ℕ
  pub reached : Conforms (graph_of raw.classes) c.0 class
  pub here : slice_get (get_or (own_names raw) class []) index ≡ Some name
  pub number : slice_get (by_class (own_of raw.classes) class) index ≡ Some f.0

inherited : (raw : RawMetamodel) → WellFormed raw → (c : ClassNo) (f : FeatureNo) (x : Feature) → feature (resolved_metamodel raw) f ≡ Some x → has_feature (resolved_metamodel raw) c f ≡ true
    → IsInherited raw c f x.name
unfolding resolved_metamodel
inherited raw well c f x is has =
    let p = declared_at raw f x is in
    let declared : IsDeclared raw p.0 p.1 p.2 f = p.3 in
    let same : x ≡ resolved_feature raw p.0 p.2 = let resolves = declared.resolves in cc in
    let conforms : ConformsTo (resolved_metamodel raw) c x.owner = (has_of_owner raw well c f x is).0 has in
    record {
      class = p.0;
      index = p.1;
      reached = subst (λ (y : Feature). Conforms (graph_of raw.classes) c.0 y.owner.0) same (subst (λ (g : List (List ℕ)). Conforms g c.0 x.owner.0) (supertypes_resolved raw.classes) conforms.1);
      here = own_name raw.classes p.0 p.1 p.2 declared.here ∙ ap (λ (y : Feature). Some y.name) (sym same);
      number = declared.number;
    }

same_number : (raw : RawMetamodel) (c d i j f g : ℕ) → slice_get (by_class (own_of raw.classes) c) i ≡ Some f → slice_get (by_class (own_of raw.classes) d) j ≡ Some g → c ≡ d → i ≡ j → f ≡ g
same_number raw c d i j f g one other class index =
    let moved : slice_get (by_class (own_of raw.classes) d) j ≡ Some f = subst (λ (k : ℕ). slice_get (by_class (own_of raw.classes) d) k ≡ Some f) index (subst (λ (k : ℕ). slice_get (by_class (own_of raw.classes) k) i ≡ Some f) class one) in
    cc

-- the names of all features of a class differ
only_one : (raw : RawMetamodel) → WellFormed raw → (c : ClassNo) (f g : FeatureNo) (name : List ℕ) → IsInherited raw c f name → IsInherited raw c g name → f.0 ≡ g.0
only_one raw well c f g name one other = ⊎_elim
    (λ (e : f.0 ≡ g.0). e)
    (λ (n : f.0 ≢ g.0).
    absurd (well DuplicateName (place.Class c.0) (inr (record {
      one = one.class;
      index = one.index;
      other = other.class;
      other_index = other.index;
      name = name;
      one_reached = one.reached;
      other_reached = other.reached;
      here = one.here;
      there = other.here;
      apart = λ same. n (same_number raw one.class other.class one.index other.index f.0 g.0 one.number other.number same.0 same.1);
    }))))
    (cases_eq f.0 g.0)

pub numbered_alike : (f g : FeatureNo) → f.0 ≡ g.0 → f ≡ g
numbered_alike f g e = ap feature_no e

-- a feature that has a number exists
there : (m : Metamodel) → IsOfDocument m → (c : ClassNo) (f : FeatureNo) → has_feature m c f ≡ true → (x : Feature) × (feature m f ≡ Some x)
there m d c f has = ⊎_elim
    (λ h. (h.0, h.2))
    (λ h. let none : false ≡ has_feature m c f = has_none m d c f h.1 in absurd cc)
    (slice_get_cases m.features f.0).1

name_there : (m : Metamodel) (f : FeatureNo) (x : Feature) → feature m f ≡ Some x → feature_name m f ≡ x.name
name_there m f x is = ap (λ (o : Option Feature). option_map_or (λ g. g.name) o []) is

unique : (m : Metamodel) → IsOfDocument m → (c : ClassNo) (f g : FeatureNo) → has_feature m c f ≡ true → has_feature m c g ≡ true → feature_name m f ≡ feature_name m g → g ≡ f
unique m d c f g =
    subst (λ (n : Metamodel). IsOfDocument n → has_feature n c f ≡ true → has_feature n c g ≡ true → feature_name n f ≡ feature_name n g → g ≡ f) (sym d.is)
    (λ resolves one other names.
    let x = there (resolved_metamodel d.raw) resolves c f one in
    let y = there (resolved_metamodel d.raw) resolves c g other in
    let same : y.0.name ≡ x.0.name = sym (name_there (resolved_metamodel d.raw) g y.0 y.1) ∙ (sym names ∙ name_there (resolved_metamodel d.raw) f x.0 x.1) in
    numbered_alike g f (only_one d.raw d.well_formed c g f x.0.name
    (subst (λ (w : List ℕ). IsInherited d.raw c g w) same (inherited d.raw d.well_formed c g y.0 y.1 other)) (inherited d.raw d.well_formed c f x.0 x.1 one)))
    d

find_only : (p : FeatureNo → Bool) (f : FeatureNo) (xs : List FeatureNo) → p f ≡ true → ((g : FeatureNo) → list_any (λ h. nat_eq h.0 g.0) xs ≡ true → p g ≡ true → g ≡ f)
    → list_any (λ h. nat_eq h.0 f.0) xs ≡ true → find p xs ≡ Some f
find_only p f [] is only h = cc
find_only p f (x ∷ xs) is only h =
    let here : list_any (λ h. nat_eq h.0 x.0) (x ∷ xs) ≡ true = or_left (nat_eq x.0 x.0) (list_any (λ h. nat_eq h.0 x.0) xs) (eq-eqb x.0 x.0 refl) in
    elim (p x) as (λ b. p x ≡ b → cond b (Some x) (find p xs) ≡ Some f) [
      | true ↦ λ passes. ap Some (only x here passes)
      | false ↦ λ fails.
          find_only p f xs is (λ g any passes. only g (or_right (nat_eq x.0 g.0) (list_any (λ h. nat_eq h.0 g.0) xs) any) passes)
          (elim (nat_eq x.0 f.0) as (λ b. nat_eq x.0 f.0 ≡ b → (b || list_any (λ h. nat_eq h.0 f.0) xs) ≡ true → list_any (λ h. nat_eq h.0 f.0) xs ≡ true) [
            | true ↦ λ same any. (let e : x ≡ f = numbered_alike x f (eqb-true x.0 f.0 same) in let passes : p x ≡ true = ap p e ∙ is in absurd cc)
            | false ↦ λ other any. any
          ] refl h)
    ] refl

find_no : (p : FeatureNo → Bool) (xs : List FeatureNo) → ((g : FeatureNo) → list_any (λ h. nat_eq h.0 g.0) xs ≡ true → p g ≡ false) → find p xs ≡ None
find_no p [] none = refl
find_no p (x ∷ xs) none =
    let fails : p x ≡ false = none x (or_left (nat_eq x.0 x.0) (list_any (λ h. nat_eq h.0 x.0) xs) (eq-eqb x.0 x.0 refl)) in
    rw fails (find_no p xs (λ g any. none g (or_right (nat_eq x.0 g.0) (list_any (λ h. nat_eq h.0 g.0) xs) any)))

has_by : (m : Metamodel) (c : ClassNo) (all : List FeatureNo) → features m c ≡ Some all → (f : FeatureNo) → has_feature m c f ≡ list_any (λ g. nat_eq g.0 f.0) all
has_by m c all is f = ap (λ (o : Option (List FeatureNo)). option_map_or (λ all. list_any (λ g. nat_eq g.0 f.0) all) o false) is

-- if the class has a feature of the name, it is the one that `feature_by_name` gives
pub found_here : (m : Metamodel) → IsOfDocument m → (c : ClassNo) (name : List ℕ) (f : FeatureNo) → feature_name m f ≡ name → has_feature m c f ≡ true → feature_by_name m c name ≡ Some f
found_here m d c name f named has = by (features m c) refl
  where
    by : (o : Option (List FeatureNo)) → features m c ≡ o → option_and_then (find (λ f. bytes_eq (feature_name m f) name)) o ≡ Some f
    by None is =
        let none : has_feature m c f ≡ false = ap (λ (o : Option (List FeatureNo)). option_map_or (λ all. list_any (λ g. nat_eq g.0 f.0) all) o false) is in
        absurd cc
    by (Some all) is =
        find_only (λ f. bytes_eq (feature_name m f) name) f all (is_name (feature_name m f) name named)
        (λ g any passes. unique m d c f g has (has_by m c all is g ∙ any) (named ∙ sym (name_is (feature_name m g) name passes)))
        (sym (has_by m c all is f) ∙ has)

-- if the class has no feature of the name, `feature_by_name` gives none
pub found_nowhere : (m : Metamodel) → IsOfDocument m → (c : ClassNo) (name : List ℕ)
    → ((h : ℕ) → h < length m.features → feature_name m (feature_no h) ≡ name → has_feature m c (feature_no h) ≡ false) → feature_by_name m c name ≡ None
found_nowhere m d c name none = by (features m c) refl
  where
    fails : (f : FeatureNo) → has_feature m c f ≡ true → bytes_eq (feature_name m f) name ≡ false
    fails f has =
        elim (bytes_eq (feature_name m f) name) as (λ b. bytes_eq (feature_name m f) name ≡ b → b ≡ false) [
          | true ↦ λ same.
              ⊎_elim
              (λ (low : f.0 < length m.features). let has_not : has_feature m c f ≡ false = none f.0 low (name_is (feature_name m f) name same) in absurd cc)
              (λ (past : length m.features ≤ f.0). let not_there : false ≡ has_feature m c f = has_none m d c f (slice_get_past m.features f.0 past) in absurd cc)
              (cases_lt f.0 (length m.features))
          | false ↦ λ other. refl
        ] refl

    by : (o : Option (List FeatureNo)) → features m c ≡ o → option_and_then (find (λ f. bytes_eq (feature_name m f) name)) o ≡ None
    by None is = refl
    by (Some all) is = find_no (λ f. bytes_eq (feature_name m f) name) all (λ g any. fails g (has_by m c all is g ∙ any))

named : (fs : List Feature) (h : ℕ) → get_or (map (λ f. f.name) fs) h [] ≡ name_in fs (feature_no h)
named [] h = refl
named (x ∷ fs) zero = refl
named (x ∷ fs) (suc h) = named fs h

-- a search for a name begins at the first feature of the name
pub comes_to_first : (m : Metamodel) (c : ClassNo) (name : List ℕ) (i : ℕ) → position (λ n. bytes_eq n name) (map (λ f. f.name) m.features) ≡ Some i → ComesTo m c name i
comes_to_first m c name i is =
    let names : List (List ℕ) = map (λ f. f.name) m.features in
    let found = position-Some (λ n. bytes_eq n name) names i [] is in
    record {
      passed = λ h low same.
          let other : bytes_eq (get_or names h []) name ≡ false = found.2 h low in
          let here : bytes_eq (get_or names h []) name ≡ true = is_name (get_or names h []) name (named m.features h ∙ same) in
          absurd cc;
      here = λ low. sym (named m.features i) ∙ name_is (get_or names i []) name found.1;
    }

-- the search goes on at the next feature of the name
pub comes_to_next : (m : Metamodel) (c : ClassNo) (name : List ℕ) (at g : ℕ) → ComesTo m c name at → at < length m.features → has_feature m c (feature_no at) ≡ false
    → IsNext (map (λ f. f.name) m.features) (get_or (map (λ f. f.name) m.features) at []) (suc at) g → ComesTo m c name g
comes_to_next m c name at g came low has_not n =
    let names : List (List ℕ) = map (λ f. f.name) m.features in
    let long : length names ≡ length m.features = length-map m.features (λ f. f.name) in
    let is : get_or names at [] ≡ name = named m.features at ∙ came.here low in
    record {
      passed = λ h below same. ⊎_elim
          (λ (before : h < at). came.passed h before same)
          (λ (from : at ≤ h). ⊎_elim
          (λ (e : h ≡ at). subst (λ (k : ℕ). has_feature m c (feature_no k) ≡ false) (sym e) has_not)
          (λ (apart : h ≢ at). absurd (n.none_between h (omega arith) below (named m.features h ∙ (same ∙ sym is))))
          (cases_eq h at))
          (cases_lt h at);
      here = λ inside. sym (named m.features g) ∙ (n.here (omega arith) ∙ is);
    }

-- at the end of the features nothing was found
pub comes_to_end : (m : Metamodel) → IsOfDocument m → (c : ClassNo) (name : List ℕ) (at : ℕ) → ComesTo m c name at → length m.features ≤ at → feature_by_name m c name ≡ None
comes_to_end m d c name at came past = found_nowhere m d c name (λ h low same. came.passed h (omega arith) same)

-- a name that no feature has names no feature of any class
pub named_nowhere : (m : Metamodel) → IsOfDocument m → (c : ClassNo) (name : List ℕ) → position (λ n. bytes_eq n name) (map (λ f. f.name) m.features) ≡ None → feature_by_name m c name ≡ None
named_nowhere m d c name is =
    let names : List (List ℕ) = map (λ f. f.name) m.features in
    let long : length names ≡ length m.features = length-map m.features (λ f. f.name) in
    found_nowhere m d c name
    (λ h low same.
    let other : bytes_eq (get_or names h []) name ≡ false = missing names name is h (omega arith) in
    let here : bytes_eq (get_or names h []) name ≡ true = is_name (get_or names h []) name (named m.features h ∙ same) in
    absurd cc)

-- the number of a feature that has a name
pub low_named : (m : Metamodel) (name : List ℕ) (i : ℕ) → position (λ n. bytes_eq n name) (map (λ f. f.name) m.features) ≡ Some i → i < length m.features
low_named m name i is =
    let long : length (map (λ f. f.name) m.features) ≡ length m.features = length-map m.features (λ (f : Feature). f.name) in
    let low : i < length (map (λ f. f.name) m.features) = (position-Some (λ n. bytes_eq n name) (map (λ f. f.name) m.features) i [] is).0 in
    omega arith

-- the entry of a class in a row
pub kept_is : (m : Metamodel) (name : List ℕ) (by_class : List (Option FeatureNo)) (c : ℕ) (o : Option (Option FeatureNo)) → o ≡ slice_get by_class c → IsRow m name by_class
    → IfSome o (λ found. found ≡ feature_by_name m (class_no c) name)
kept_is m name by_class c None is known = tt
kept_is m name by_class c (Some found) is known = known c found (sym is)

pushed : {X : Type 0} (xs : List X) (x y : X) (k : ℕ) → slice_get (xs ++ x ∷ []) k ≡ Some y → (slice_get xs k ≡ Some y) ⊎ ((k ≡ length xs) × (x ≡ y))
pushed [] x y zero is = let e : x ≡ y = cc in inr (refl, e)
pushed [] x y (suc k) is = cc
pushed (z ∷ xs) x y zero is = inl is
pushed (z ∷ xs) x y (suc k) is = ⊎_elim (λ h. inl h) (λ h. inr (ap suc h.0, h.1)) (pushed xs x y k is)

-- what is true of each item, by its index, and of one more
pub one_more : {X : Type 0} (Holds : ℕ → X → Type 0) (xs : List X) (n : ℕ) (x : X) → length xs ≡ n → Holds n x → ((k : ℕ) (y : X) → slice_get xs k ≡ Some y → Holds k y)
    → (k : ℕ) (y : X) → slice_get (xs ++ x ∷ []) k ≡ Some y → Holds k y
one_more Holds xs n x long here known k y at = ⊎_elim
    (λ h. known k y h)
    (λ h. subst (Holds k) h.1 (subst (λ (i : ℕ). Holds i x) (sym (h.0 ∙ long)) here))
    (pushed xs x y k at)

pub row_more : (m : Metamodel) (name : List ℕ) (by_class : List (Option FeatureNo)) (c : ℕ) (found : Option FeatureNo) → length by_class ≡ c → found ≡ feature_by_name m (class_no c) name
    → IsRow m name by_class → IsRow m name (by_class ++ found ∷ [])
row_more m name by_class c found long is known = one_more (λ k f. f ≡ feature_by_name m (class_no k) name) by_class c found long is known

push_left : {X : Type 0} (xs : List X) (x d : X) (k : ℕ) → k < length xs → get_or (xs ++ x ∷ []) k d ≡ get_or xs k d
push_left [] x d k low = absurd (omega arith)
push_left (y ∷ xs) x d zero low = refl
push_left (y ∷ xs) x d (suc k) low = push_left xs x d k (omega arith)

push_last : {X : Type 0} (xs : List X) (x d : X) → get_or (xs ++ x ∷ []) (length xs) d ≡ x
push_last [] x d = refl
push_last (y ∷ xs) x d = push_last xs x d

pub rows_more : (m : Metamodel) (rows : List (List (Option FeatureNo))) (f : ℕ) (by_class : List (Option FeatureNo)) → length rows ≡ f → IsRow m (feature_name m (feature_no f)) by_class
    → AreRows m rows → AreRows m (rows ++ by_class ∷ [])
rows_more m rows f by_class long here known k low = ⊎_elim
    (λ (before : k < length rows). subst (λ (r : List (Option FeatureNo)). IsRow m (feature_name m (feature_no k)) r) (sym (push_left rows by_class [] k before)) (known k before))
    (λ (from : length rows ≤ k).
    let last : k ≡ length rows = let longer = length-append rows (by_class ∷ []) in omega arith in
    let is : get_or (rows ++ by_class ∷ []) k [] ≡ by_class = ap (λ (n : ℕ). get_or (rows ++ by_class ∷ []) n []) last ∙ push_last rows by_class [] in
    subst (λ (r : List (Option FeatureNo)). IsRow m (feature_name m (feature_no k)) r) (sym is)
    (subst (λ (n : ℕ). IsRow m (feature_name m (feature_no n)) by_class) (sym (last ∙ long)) here))
    (cases_lt k (length rows))

---------------------------------------------------------------- a metamodel's own table

pub record Known (m : Metamodel) (n : FeatureNames) : Type 0 where
  pub document : IsOfDocument m
  pub names : AreFeatureNames n (map (λ f. f.name) m.features)

pub known : (x : Inside) (m : Metamodel) → IsMeta x → metamodel x ≡ m → Known m x.names
known x m is same = record {
  document = subst IsOfDocument same is.of_document;
  names = subst (λ (m : Metamodel). AreFeatureNames x.names (map (λ f. f.name) m.features)) same is.finds_features;
}

pub record IsFirst (m : Metamodel) (c : ClassNo) (name : List ℕ) (i : ℕ) : Type 0 where
  pub low : i < length m.features
  pub came : ComesTo m c name i

-- the first index that the table has for a name
pub known_first : (m : Metamodel) (n : FeatureNames) → Known m n → (c : ClassNo) (name : List ℕ) (i : ℕ)
    → ((names : List (List ℕ)) → AreFeatureNames n names → Some i ≡ position (λ x. bytes_eq x name) names) → IsFirst m c name i
known_first m n k c name i found =
    let is : position (λ x. bytes_eq x name) (map (λ f. f.name) m.features) ≡ Some i = sym (found _ k.names) in
    record { low = low_named m name i is; came = comes_to_first m c name i is }

-- if the class does not have a feature, the search goes on at the next feature of its name
pub known_next : (m : Metamodel) (n : FeatureNames) → Known m n → (c : ClassNo) (name : List ℕ) (at : ℕ) → ComesTo m c name at → at < length m.features
    → has_feature m c (feature_no at) ≡ false → ComesTo m c name (get_or n.next.items at 0)
known_next m n k c name at came low has_not =
    let long : length (map (λ f. f.name) m.features) ≡ length m.features = length-map m.features (λ (f : Feature). f.name) in
    comes_to_next m c name at _ came low has_not (k.names.next at (omega arith))

-- the table has an entry for each feature
pub known_long : (m : Metamodel) (n : FeatureNames) → Known m n → length n.next.items ≡ length m.features
known_long m n k = k.names.long ∙ length-map m.features (λ (f : Feature). f.name)
