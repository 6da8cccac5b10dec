-- In a metamodel of a document, a class is found by its name.
use Rattle.std.proofs.Common.{eq-eqb, nat_lt, length, true, ◌<◌, ◌≡◌, ◌∙◌, ◌+◌, ◌++◌, ◌||◌, ℕ, zero, suc, Bool, false, cond, List, [], ◌∷◌, Option, Some, None, map, take, arith, inl, refl, sym, ap, subst}
use Rattle.std.specs.Prelude.{option_map, slice_get}
use Rattle.std.specs.List.{list_any, position_from}
use Rattle.std.specs.Option.{option_map_or}
use Rattle.std.specs.Str.{bytes_eq}
use Rattle.std.proofs.lemmas.Bool.{and_from, lt-ltb, false_from_ne_true, false≢true, or_left, or_parts, or_right}
use Rattle.std.proofs.lemmas.Iterator.Adapters.{position_from-zero}
use Rattle.std.proofs.lemmas.List.Folds.{list_any-append}
use Rattle.std.proofs.lemmas.Option.{none-some, same_Some, slice_get-map, slice_get_within}
use Rattle.std.proofs.lemmas.Slice.Eq.{bytes_eq-Decides}
use Rattle.mm_types.specs.Graph.{by_class}
use Rattle.mm_types.specs.Lookups as lookups
use Rattle.mm_types.specs.Names.{repeats}
use Rattle.mm_types.specs.OfDocument.{IsOfDocument}
use Rattle.mm_types.specs.Raw.{RawMetamodel}
use Rattle.mm_types.specs.Resolved.{Metamodel, class_no, classes_from, resolved_metamodel}
use Rattle.mm_types.specs.WellFormed.{WellFormed, class_names, enum_names, reserved_names}
use Rattle.mm_types.specs.declared.class.Class.{Class}
use Rattle.mm_types.specs.declared.meta_fault.Condition.TheVariants.{DuplicateName}
use Rattle.mm_types.specs.declared.meta_fault.Place.TheVariants as place
use Rattle.mm_types.specs.declared.numbers.ClassNo.{ClassNo}
use Rattle.mm_types.specs.declared.raw.RawClass.{RawClass}

-- if no earlier item has its name, an item is first found at its index
name-first : {X : Type 0} (name : X → List ℕ) (xs : List X) (k i : ℕ) (x : X) → slice_get xs i ≡ Some x → list_any (bytes_eq (name x)) (take i (map name xs)) ≡ false
    → position_from (λ y. bytes_eq (name y) (name x)) k xs ≡ Some (k + i)
name-first name [] k i x at none = absurd (none-some x at)
name-first name (y ∷ ys) k zero x at none =
    ap (λ (b : Bool). cond b (Some k) (position_from (λ z. bytes_eq (name z) (name x)) (k + 1) ys)) ((bytes_eq-Decides (name y) (name x)).1 (ap name (same_Some y x at))) ∙ ap Some (omega arith)
name-first name (y ∷ ys) k (suc i) x at none =
    let both = or_parts (bytes_eq (name x) (name y)) (list_any (bytes_eq (name x)) (take i (map name ys))) none in
    let other = false_from_ne_true (bytes_eq (name y) (name x)) (λ h. false≢true (sym both.0 ∙ (bytes_eq-Decides (name x) (name y)).1 (sym ((bytes_eq-Decides (name y) (name x)).0 h)))) in
    ap (λ (b : Bool). cond b (Some k) (position_from (λ z. bytes_eq (name z) (name x)) (k + 1) ys)) other ∙ name-first name ys (k + 1) i x at both.1 ∙ ap Some (omega arith)

-- the classes keep their names
names-kept : (all : List RawClass) (c : ℕ) (ks : List RawClass) → map (λ (k : Class). k.name) (classes_from all c ks) ≡ map (λ (k : RawClass). k.name) ks
names-kept all c [] = refl
names-kept all c (k ∷ ks) = ap (λ (ns : List (List ℕ)). k.name ∷ ns) (names-kept all (suc c) ks)

-- no earlier class has the name of a class
none-earlier : (raw : RawMetamodel) → WellFormed raw → (c : ℕ) (n : List ℕ) → slice_get (class_names raw) c ≡ Some n → list_any (bytes_eq n) (take c (class_names raw)) ≡ false
none-earlier raw well c n at =
    false_from_ne_true (list_any (bytes_eq n) (take c (class_names raw))) (λ h.
    elim (slice_get raw.classes c) as (λ x. slice_get raw.classes c ≡ x → option_map (λ (k : RawClass). k.name) x ≡ Some n → ⊥) [
      | None ↦ λ _ named. none-some n named
      | Some k ↦ λ here named. well DuplicateName (place.Class c) (inl (
          ap (λ (o : Option RawClass). option_map_or (λ k. list_any (bytes_eq k.name) (reserved_names ++ enum_names raw ++ take c (class_names raw)) || repeats [] k.supers) o false) here
          ∙ or_left (list_any (bytes_eq k.name) (reserved_names ++ enum_names raw ++ take c (class_names raw))) (repeats [] k.supers)
          (list_any-append (bytes_eq k.name) reserved_names (enum_names raw ++ take c (class_names raw))
          ∙ or_right (list_any (bytes_eq k.name) reserved_names) (list_any (bytes_eq k.name) (enum_names raw ++ take c (class_names raw)))
          (list_any-append (bytes_eq k.name) (enum_names raw) (take c (class_names raw))
          ∙ or_right (list_any (bytes_eq k.name) (enum_names raw)) (list_any (bytes_eq k.name) (take c (class_names raw)))
          (ap (λ (w : List ℕ). list_any (bytes_eq w) (take c (class_names raw))) (same_Some k.name n named) ∙ h)))))
    ] refl (sym (slice_get-map (λ (k : RawClass). k.name) raw.classes c) ∙ at))

class-first : (raw : RawMetamodel) → WellFormed raw → (c : ClassNo) (k : Class) → lookups.class (resolved_metamodel raw) c ≡ Some k → lookups.class_by_name (resolved_metamodel raw) k.name ≡ Some c
unfolding resolved_metamodel
class-first raw well c k here =
    let cs = classes_from raw.classes 0 raw.classes in
    let name = λ (x : Class). x.name in
    let kept = names-kept raw.classes 0 raw.classes in
    let at : slice_get (class_names raw) c.0 ≡ Some k.name = ap (λ (ns : List (List ℕ)). slice_get ns c.0) (sym kept) ∙ slice_get-map name cs c.0 ∙ ap (option_map name) here in
    let none = ap (λ (ns : List (List ℕ)). list_any (bytes_eq k.name) (take c.0 ns)) kept ∙ none-earlier raw well c.0 k.name at in
    ap (option_map class_no) (position_from-zero (λ (x : Class). bytes_eq x.name k.name) cs ∙ name-first name cs 0 c.0 k here none)
    ∙ ap (λ (i : ℕ). Some (class_no i)) (omega arith)

-- a class is the one of its name
pub own-class : (m : Metamodel) → IsOfDocument m → (c : ClassNo) (k : Class) → lookups.class m c ≡ Some k → lookups.class_by_name m k.name ≡ Some c
own-class m d c k = subst (λ (n : Metamodel). lookups.class n c ≡ Some k → lookups.class_by_name n k.name ≡ Some c) (sym d.is) (class-first d.raw d.well_formed c k)

within-self : (g : List (List ℕ)) (n c : ℕ) → lookups.conforms_within g n c c ≡ true
within-self g zero c = eq-eqb c c refl
within-self g (suc n) c = ap (λ (b : Bool). b || list_any (λ e. lookups.conforms_within g n e c) (by_class g c)) (eq-eqb c c refl)

-- a class conforms to itself
pub conforms-self : (m : Metamodel) (c : ClassNo) (k : Class) → lookups.class m c ≡ Some k → lookups.conforms m c c ≡ true
conforms-self m c k here =
    and_from (nat_lt c.0 (length m.classes)) (lookups.conforms_within (lookups.supertypes m) (length m.classes) c.0 c.0)
    (lt-ltb c.0 (length m.classes) (slice_get_within m.classes c.0 k here)) (within-self (lookups.supertypes m) (length m.classes) c.0)
