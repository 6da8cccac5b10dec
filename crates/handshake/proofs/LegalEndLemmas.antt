-- The ends of a legal model stay legal: after links are cut, after a link is made, and after objects are made.
use Rattle.std.proofs.Common.{◌≡◌, ℕ, zero, suc, ◌<◌, ◌≤◌, nat_le, pos, negsuc, ℤ, Bool, true, false, ◌&&◌, not, List, [], ◌∷◌, ◌++◌, filter, length, Option, Some, None, is_some, if◌then◌else◌, slice_get, remove, refl, sym, ap, ◌∙◌, subst, arith, nat_lt}
use Rattle.std.specs.Prelude.{int_le, int_lt}
use Rattle.std.specs.List.{AllByRecursion, insert, list_all}
use Rattle.std.specs.Option.{option_map_or}
use Rattle.std.proofs.lemmas.Bool.{and_from, and_parts, false≢true, true≢false}
use Rattle.std.proofs.lemmas.Bool.Decides.{Decides-int_eq, nat_tests}
use Rattle.std.proofs.lemmas.Option.{none-some, same_Some}
use Rattle.mm_types.specs.Lookups as lookups
use Rattle.mm_types.specs.Resolved.{Metamodel}
use Rattle.mm_types.specs.Same.{node_value, same_end, same_feature}
use Rattle.mm_types.specs.Shapes.{Shape, contents_shape, is_bounded, is_full_list, shape, shape_of}
use Rattle.mm_types.specs.declared.end.End.{End}
use Rattle.mm_types.specs.declared.feature.Feature.{Feature}
use Rattle.mm_types.specs.declared.feature.Kind.{Kind}
use Rattle.mm_types.specs.declared.feature.Kind.TheVariants.{Attribute, Reference}
use Rattle.mm_types.specs.declared.limits.TheConstants.{LIST_VALUES}
use Rattle.mm_types.specs.declared.numbers.ClassNo.{ClassNo}
use Rattle.mm_types.specs.declared.numbers.FeatureNo.{FeatureNo}
use Rattle.mm_types.specs.declared.numbers.Node.{Node}
use Rattle.mm_types.specs.declared.numbers.Node.TheVariants as node
use Rattle.mm_types.specs.declared.numbers.ObjectNo.{ObjectNo}
use Rattle.mm_types.specs.declared.value.Value.{Value}
use Rattle.mm_types.specs.declared.value.Value.TheVariants as value
use Rattle.mm_types.proofs.SameLemmas.{same_end-self, same_end-true}
use Rattle.mm_meta.specs.Laws as meta
use Rattle.mm_meta.proofs.ShapeLemmas.{far_types_fit}
use Rattle.mm_values.specs.Values.{ValuesState, class_of}
use Rattle.links.specs.Laws.{goes, is_far, is_named, put_end, without_all}
use Rattle.links.specs.Links.{Links, end, far_end, put, shift}
use Rattle.mm_types.specs.Lists.{put_back, values_after_move}
use Rattle.links.proofs.CutLemmas.{end-shift_near, end-shift_other}
use Rattle.links.proofs.CutNamedLemmas.{end-without_all, without_all_legal}
use Rattle.links.proofs.FilterLemmas.{length-filter_le}
use Rattle.links.proofs.PutEndLemmas.{end-put}
use Rattle.links.specs.LegalSets.{most}
use Rattle.models.specs.Legal.{IsLegal, is_legal_end, is_legal_target, kinds_of}
use Rattle.models.specs.Model.{Model, model_of, reading}
use Rattle.models.specs.Reading.{Reading, has_feature, shape_at, takes}
use Rattle.containment.proofs.PartLemmas.{kinds-are}
use Rattle.handshake.specs.Displaced.{displaced_link_ends}
use Rattle.handshake.specs.Refusals.{is_at_limit, is_full_at}
use Rattle.handshake.proofs.CutLinkEndLemmas.{far-emptied, values-linked}
use Rattle.removal.specs.Laws.{names_of}
use Rattle.handshake.proofs.KnownLemmas.{far-reference, feature-there}
use Rattle.handshake.proofs.LinkLemmas.{IsNewLink, below-limit, far-of, fewer-left, near-empty, near-of, new-fits, without_displaced}
use Rattle.doc_loader.proofs.TypedLemmas.{bounded-less}

---------------------------------------------------------------- lists

list_all-filter : {X : Type 0} (q p : X → Bool) (xs : List X) → list_all q xs ≡ true → list_all q (filter p xs) ≡ true
list_all-filter q p [] h = refl
list_all-filter q p (x ∷ xs) h =
    let both = and_parts (q x) (list_all q xs) h in
    let rest = list_all-filter q p xs both.1 in
    elim (p x) as (λ b. list_all q (if b then x ∷ filter p xs else filter p xs) ≡ true) [ true ↦ and_from (q x) (list_all q (filter p xs)) both.0 rest | false ↦ rest ]

pub one-bounded : (a : Shape) → is_bounded a 1 ≡ true
one-bounded a = elim (int_le (pos 1) a.upper) as (λ b. (nat_le 1 LIST_VALUES && (if b then b else true)) ≡ true) [ true ↦ refl | false ↦ refl ]

---------------------------------------------------------------- fewer values

pub end-from : (r : Reading) (e : End) (vs : List Value) → has_feature r e.node e.feature ≡ true → list_all (is_legal_target r e.feature) vs ≡ true → is_bounded (shape_at r e) (length vs) ≡ true
    → is_legal_end r e vs ≡ true
end-from r e [] has all bounded = refl
end-from r e (v ∷ vs) has all bounded = and_from _ _ has (and_from _ _ all bounded)

filter-legal : (r : Reading) (e : End) (p : Value → Bool) (vs : List Value) → is_legal_end r e vs ≡ true → is_legal_end r e (filter p vs) ≡ true
filter-legal r e p [] h = refl
filter-legal r e p (v ∷ vs) h =
    let has = and_parts _ _ h in
    let held = and_parts _ _ has.1 in
    end-from r e (filter p (v ∷ vs)) has.0 (list_all-filter (is_legal_target r e.feature) p (v ∷ vs) held.0)
    (bounded-less (shape_at r e) (length (filter p (v ∷ vs))) (length (v ∷ vs)) (length-filter_le p (v ∷ vs)) held.1)

pub cut-end : (s : Model) (ts : List (End × Value)) → IsLegal s → (d : End) → is_legal_end (reading s) d (end (without_all s.links ts) d) ≡ true
cut-end s ts legal d =
    let m = kinds_of s.metamodel in
    rw (end-without_all m (kinds-are s.metamodel legal.metamodel) s.links ts legal.links.set legal.links.kinds d) (filter-legal (reading s) d (λ w. not (is_named m ts d w)) (end s.links d) (legal.links.ends d))

---------------------------------------------------------------- one value more

single-kind : (m : Metamodel) (f : FeatureNo) (g : Feature) (k : Kind) → (shape_of m f g k).upper ≡ pos 1 → (shape_of m f g k).is_single ≡ true
single-kind m f g (Attribute t unique unsettable default) h = (Decides-int_eq g.upper (pos 1)).1 h
single-kind m f g (Reference target containment opposite) h = (Decides-int_eq g.upper (pos 1)).1 h

-- a feature that can have at most one value is single
pub single-of : (m : Metamodel) (f : FeatureNo) → (shape m f).upper ≡ pos 1 → (shape m f).is_single ≡ true
single-of m f h = by (lookups.feature m f) h
  where
    by : (o : Option Feature) → (option_map_or (λ g. shape_of m f g g.kind) o (contents_shape m)).upper ≡ pos 1 → (option_map_or (λ g. shape_of m f g g.kind) o (contents_shape m)).is_single ≡ true
    by None h = cc
    by (Some g) h = single-kind m f g g.kind h

upper-more : (u : ℤ) (m n : ℕ) → m ≤ n → (int_lt (pos 1) u && int_le u (pos n)) ≡ false → (u ≡ pos 1 → m ≡ 0) → (if int_le (pos 1) u then int_le (pos (suc m)) u else true) ≡ true
upper-more (negsuc k) m n le room one = refl
upper-more (pos zero) m n le room one = refl
upper-more (pos (suc zero)) m n le room one = subst (λ (k : ℕ). int_le (pos (suc k)) (pos 1) ≡ true) (sym (one refl)) refl
upper-more (pos (suc (suc k))) m n le room one =
    let above : int_lt (pos 1) (pos (suc (suc k))) ≡ true = grind (arith, nat_tests) in
    let least : int_le (pos 1) (pos (suc (suc k))) ≡ true = grind (arith, nat_tests) in
    let short : int_le (pos (suc (suc k))) (pos n) ≡ false = subst (λ (b : Bool). (b && int_le (pos (suc (suc k))) (pos n)) ≡ false) above room in
    let fits : int_le (pos (suc m)) (pos (suc (suc k))) ≡ true = grind (arith, nat_tests) in
    rw least fits

-- an end that is not full may have one more value; a single end may have one if it is empty
pub bounded-more : (a : Shape) (m n : ℕ) → m ≤ n → n < most → is_full_list a n ≡ false → (a.upper ≡ pos 1 → m ≡ 0) → is_bounded a (suc m) ≡ true
bounded-more a m n le few room one =
    let low : nat_le (suc m) LIST_VALUES ≡ true = grind (arith, nat_tests) in
    and_from (nat_le (suc m) LIST_VALUES) _ low (upper-more a.upper m n le room one)

list_all-append : {X : Type 0} (p : X → Bool) (xs ys : List X) → list_all p xs ≡ true → list_all p ys ≡ true → list_all p (xs ++ ys) ≡ true
list_all-append p [] ys a b = b
list_all-append p (x ∷ xs) ys a b = let both = and_parts (p x) (list_all p xs) a in and_from (p x) (list_all p (xs ++ ys)) both.0 (list_all-append p xs ys both.1 b)

pub list_all-insert : {X : Type 0} (p : X → Bool) (xs : List X) (i : ℕ) (x : X) → list_all p xs ≡ true → p x ≡ true → list_all p (insert xs i x) ≡ true
list_all-insert p xs zero x a b = and_from (p x) (list_all p xs) b a
list_all-insert p [] (suc i) x a b = and_from (p x) true b refl
list_all-insert p (y ∷ ys) (suc i) x a b = let both = and_parts (p y) (list_all p ys) a in and_from (p y) (list_all p (insert ys i x)) both.0 (list_all-insert p ys i x both.1 b)

end-all : (r : Reading) (e : End) (vs : List Value) → is_legal_end r e vs ≡ true → list_all (is_legal_target r e.feature) vs ≡ true
end-all r e [] h = refl
end-all r e (v ∷ vs) h = (and_parts (list_all (is_legal_target r e.feature) (v ∷ vs)) _ (and_parts (has_feature r e.node e.feature) _ h).1).0

length-push : {X : Type 0} (xs : List X) (x : X) → suc (length xs) ≡ length (xs ++ x ∷ [])
length-push [] x = refl
length-push (y ∷ ys) x = ap suc (length-push ys x)

pub length-put : {X : Type 0} (xs : List X) (i : ℕ) (x : X) → suc (length xs) ≡ length (insert xs i x)
length-put xs zero x = refl
length-put [] (suc i) x = refl
length-put (y ∷ ys) (suc i) x = ap suc (length-put ys i x)

---------------------------------------------------------------- a new link

-- an object that a reference takes has the opposite, which takes the node that refers
pub takes-back : (s : Model) → IsLegal s → (e : End) (o : ObjectNo) → has_feature (reading s) e.node e.feature ≡ true → takes (reading s) e.feature (value.Object o) ≡ true → (g : FeatureNo) → (shape s.metamodel e.feature).opposite ≡ Some g
    → (has_feature (reading s) (node.Object o) g ≡ true) × (is_legal_target (reading s) g (node_value e.node) ≡ true)
takes-back s legal e o has taken g opposite =
    let there = feature-there (reading s) e.node e.feature g opposite has in
    let near : meta.class_has s.metamodel (class_of s.values) there.object e.feature ≡ true = rw there.class_is there.has in
    let fit = far_types_fit s.metamodel legal.metamodel (class_of s.values) there.object o e.feature g opposite near taken in
    (fit.0, subst (λ (n : Node). is_legal_target (reading s) g (node_value n) ≡ true) (sym there.node) fit.1)

module _ (s : Model) (legal : IsLegal s) (e : End) (o : ObjectNo) (new : IsNewLink s e o) (taken : takes (reading s) e.feature (value.Object o) ≡ true) where
  abbrev left : Links
  left = without_displaced s e o

  left-all : (d : End) → list_all (is_legal_target (reading s) d.feature) (end left d) ≡ true
  left-all d = end-all (reading s) d (end left d) (cut-end s (names_of (displaced_link_ends (reading s) e o)) legal d)

  linked-length : (d : End) → (shape s.metamodel d.feature).is_reference ≡ true → length ((reading s).values d) ≡ length (end s.links d)
  linked-length d reference = ap (λ (vs : List Value). length vs) (values-linked s d reference)

  -- an end of the new link may have one value more than the values that are left
  gains : (d : End) → (shape s.metamodel d.feature).is_reference ≡ true → is_full_at (reading s) d ≡ false → is_at_limit (reading s) d ≡ false
      → ((shape s.metamodel d.feature).is_single ≡ true → end left d ≡ []) → is_bounded (shape s.metamodel d.feature) (suc (length (end left d))) ≡ true
  gains d reference room few empty =
      let a = shape s.metamodel d.feature in
      let same = linked-length d reference in
      bounded-more a (length (end left d)) (length (end s.links d)) (fewer-left s legal e o new d) (below-limit _ (subst (λ (n : ℕ). nat_le LIST_VALUES n ≡ false) same few))
      (subst (λ (n : ℕ). is_full_list a n ≡ false) same room) (λ one. ap (λ (vs : List Value). length vs) (empty (single-of s.metamodel d.feature one)))

  far-legal : (g : FeatureNo) → (shape s.metamodel e.feature).opposite ≡ Some g → (has_feature (reading s) (node.Object o) g ≡ true) × (is_legal_target (reading s) g (node_value e.node) ≡ true)
  far-legal = takes-back s legal e o new.has taken

  near-put : (i : ℕ) (d : End) → same_end e d ≡ true → is_legal_end (reading s) d (insert (end left d) i (value.Object o)) ≡ true
  near-put i d h =
      let r = reading s in
      subst (λ (x : End). is_legal_end r x (insert (end left x) i (value.Object o)) ≡ true) (same_end-true e d h)
      (end-from r e (insert (end left e) i (value.Object o)) new.has (list_all-insert (is_legal_target r e.feature) (end left e) i (value.Object o) (left-all e) taken)
      (subst (λ (n : ℕ). is_bounded (shape s.metamodel e.feature) n ≡ true) (length-put (end left e) i (value.Object o))
      (gains e new.reference (near-of (is_full_at r) r e o new.linkable.room) (near-of (is_at_limit r) r e o new.linkable.few) (near-empty s legal e o new))))

  far-put : (d : End) (q : Option FeatureNo) → (shape s.metamodel e.feature).opposite ≡ q → is_far o q d ≡ true → is_legal_end (reading s) d (end left d ++ node_value e.node ∷ []) ≡ true
  far-put d None is h = absurd (false≢true h)
  far-put d (Some g) is h =
      let r = reading s in
      let x = far_end o g in
      let fit = far-legal g is in
      subst (λ (y : End). is_legal_end r y (end left y ++ node_value e.node ∷ []) ≡ true) (same_end-true x d h)
      (end-from r x (end left x ++ node_value e.node ∷ []) fit.0 (list_all-append (is_legal_target r g) (end left x) (node_value e.node ∷ []) (left-all x) (and_from _ _ fit.1 refl))
      (subst (λ (n : ℕ). is_bounded (shape s.metamodel g) n ≡ true) (length-push (end left x) (node_value e.node))
      (gains x (far-reference s.metamodel legal.metamodel e.feature g is) (far-of (is_full_at r) r e o g is new.linkable.room) (far-of (is_at_limit r) r e o g is new.linkable.few) (λ single. far-emptied s e o g legal is single))))

  put-legal : (i : ℕ) (d : End) → is_legal_end (reading s) d (put_end left e i o (shape s.metamodel e.feature).opposite d) ≡ true
  put-legal i d =
      let q = (shape s.metamodel e.feature).opposite in
      let other = cut-end s (names_of (displaced_link_ends (reading s) e o)) legal d in
      let by_far : (b : Bool) → is_far o q d ≡ b → is_legal_end (reading s) d (if b then end left d ++ node_value e.node ∷ [] else end left d) ≡ true = λ b. elim b as (λ b. is_far o q d ≡ b → is_legal_end (reading s) d (if b then end left d ++ node_value e.node ∷ [] else end left d) ≡ true) [
        | true ↦ λ h. far-put d q refl h
        | false ↦ λ _. other
      ] in
      elim (same_end e d) as (λ b. same_end e d ≡ b → is_legal_end (reading s) d (if b then insert (end left d) i (value.Object o) else (if is_far o q d then end left d ++ node_value e.node ∷ [] else end left d)) ≡ true) [
        | true ↦ λ h. near-put i d h
        | false ↦ λ _. by_far (is_far o q d) refl
      ] refl

  pub put-end : (i : ℕ) → i ≤ length (end left e) → (d : End) → is_legal_end (reading s) d (end (put left e i o (shape s.metamodel e.feature).opposite (shape s.metamodel e.feature).containing) d) ≡ true
  put-end i placed d =
      let gives = end-put left e i o (shape s.metamodel e.feature).opposite (shape s.metamodel e.feature).containing (without_all_legal s.links (names_of (displaced_link_ends (reading s) e o)) legal.links.set) (new-fits s legal e o new i placed) d in
      rw gives (put-legal i d)

---------------------------------------------------------------- a move

-- the value that is taken out of a list, and the rest of the list
pub taken_out : (vs : List Value) (k : ℕ) (v : Value) → slice_get vs k ≡ Some v → (p : Value → Bool) → list_all p vs ≡ true → (p v ≡ true) × (list_all p (remove vs k) ≡ true) × (suc (length (remove vs k)) ≡ length vs)
taken_out [] k v at p all = absurd (none-some v at)
taken_out (w ∷ ws) zero v at p all = let both = and_parts (p w) (list_all p ws) all in (subst (λ (x : Value). p x ≡ true) (same_Some w v at) both.0, both.1, refl)
taken_out (w ∷ ws) (suc k) v at p all =
    let both = and_parts (p w) (list_all p ws) all in
    let rest = taken_out ws k v at p both.1 in
    (rest.0, and_from (p w) (list_all p (remove ws k)) both.0 rest.1, ap suc rest.2)

-- a list with its values in another order is as legal
pub shifted-end : (s : Model) (e : End) (to from : ℕ) → IsLegal s → from < length (end s.links e) → to < length (end s.links e) → (d : End) → is_legal_end (reading s) d (end (shift s.links e to from) d) ≡ true
shifted-end s e to from legal low_from low_to d =
    elim (same_end e d) as (λ b. same_end e d ≡ b → is_legal_end (reading s) d (end (shift s.links e to from) d) ≡ true) [
      | true ↦ λ same. subst (λ (x : End). is_legal_end (reading s) x (end (shift s.links e to from) x) ≡ true) (same_end-true e d same) (rw (end-shift_near s.links legal.links.set.placed e to from low_from low_to) (in_order (end s.links e) low_from (legal.links.ends e)))
      | false ↦ λ other. rw (end-shift_other s.links legal.links.set.placed e to from low_from low_to d (λ is. true≢false (sym (same_end-self e) ∙ ap (same_end e) is ∙ other))) (legal.links.ends d)
    ] refl
  where
    in_order : (vs : List Value) → from < length vs → is_legal_end (reading s) e vs ≡ true → is_legal_end (reading s) e (values_after_move vs to from) ≡ true
    in_order [] low legal_end = absurd (omega (arith, low))
    in_order (w ∷ ws) low legal_end =
        let r = reading s in
        let vs = w ∷ ws in
        let has = and_parts (has_feature r e.node e.feature) _ legal_end in
        let held = and_parts (list_all (is_legal_target r e.feature) vs) _ has.1 in
        elim (slice_get vs from) as (λ q. slice_get vs from ≡ q → is_legal_end r e (put_back q vs to from) ≡ true) [
          | None ↦ λ _. legal_end
          | Some v ↦ λ at.
              let rest = taken_out vs from v at (is_legal_target r e.feature) held.0 in
              let same = sym (length-put (remove vs from) to v) ∙ rest.2 in
              end-from r e (insert (remove vs from) to v) has.0 (list_all-insert (is_legal_target r e.feature) (remove vs from) to v rest.1 rest.0) (subst (λ (n : ℕ). is_bounded (shape_at r e) n ≡ true) (sym same) held.1)
        ] refl

---------------------------------------------------------------- classes

-- each remaining object with a class in the first model has the same class in the second
abbrev pub HaveClasses : (Node → Bool) → (ObjectNo → Option ClassNo) → (ObjectNo → Option ClassNo) → Type 0
HaveClasses goes x y = (o : ObjectNo) → goes (node.Object o) ≡ false → (c : ClassNo) → x o ≡ Some c → y o ≡ Some c

-- a value that is an object still has its class
abbrev HasClass : (ObjectNo → Option ClassNo) → (ObjectNo → Option ClassNo) → Value → Type 0
HasClass x y (value.Object o) = (c : ClassNo) → x o ≡ Some c → y o ≡ Some c
HasClass x y _ = Unit {0}

has-class : (g : Node → Bool) (x y : ObjectNo → Option ClassNo) → HaveClasses g x y → (v : Value) → goes g v ≡ false → HasClass x y v
has-class g x y kept (value.Object o) stays = kept o stays
has-class g x y kept value.Null stays = tt
has-class g x y kept (value.Bool b) stays = tt
has-class g x y kept (value.Int i) stays = tt
has-class g x y kept (value.Text t) stays = tt
has-class g x y kept (value.Literal i) stays = tt
has-class g x y kept (value.Proxy t) stays = tt

test-kept : (x y : Option ClassNo) (p : ClassNo → Bool) → ((c : ClassNo) → x ≡ Some c → y ≡ Some c) → option_map_or p x false ≡ true → option_map_or p y false ≡ true
test-kept None y p kept h = absurd (false≢true h)
test-kept (Some c) y p kept h = subst (λ (o : Option ClassNo). option_map_or p o false ≡ true) (sym (kept c refl)) h

some-kept : (x y : Option ClassNo) → ((c : ClassNo) → x ≡ Some c → y ≡ Some c) → is_some x ≡ true → is_some y ≡ true
some-kept None y kept h = absurd (false≢true h)
some-kept (Some c) y kept h = ap is_some (kept c refl)

reference-kept : (m : Metamodel) (x y : ObjectNo → Option ClassNo) (single : Bool) (target : ClassNo) (v : Value) → HasClass x y v
    → lookups.is_reference_value m x single target v ≡ true → lookups.is_reference_value m y single target v ≡ true
reference-kept m x y single target value.Null kept h = h
reference-kept m x y single target (value.Object o) kept h = test-kept (x o) (y o) (λ c. lookups.conforms m c target) kept h
reference-kept m x y single target _ kept h = h

live-kept : (x y : ObjectNo → Option ClassNo) (v : Value) → HasClass x y v → lookups.is_live_object x v ≡ true → lookups.is_live_object y v ≡ true
live-kept x y (value.Object o) kept h = some-kept (x o) (y o) kept h
live-kept x y _ kept h = absurd (false≢true h)

kind-kept : (m : Metamodel) (x y : ObjectNo → Option ClassNo) (single : Bool) (k : Kind) (v : Value) → HasClass x y v → lookups.is_of_kind m x single k v ≡ true → lookups.is_of_kind m y single k v ≡ true
kind-kept m x y single (Attribute t unique unsettable default) v kept h = h
kind-kept m x y single (Reference target containment opposite) v kept h = reference-kept m x y single target v kept h

takes-kept : (m : Metamodel) (x y : ObjectNo → Option ClassNo) (f : FeatureNo) (v : Value) → HasClass x y v → lookups.takes m x f v ≡ true → lookups.takes m y f v ≡ true
takes-kept m x y f v kept h = by (lookups.feature m f) h
  where
    by : (q : Option Feature) → option_map_or (λ g. lookups.is_of_kind m x (lookups.is_single g) g.kind v) q (lookups.is_live_object x v) ≡ true
        → option_map_or (λ g. lookups.is_of_kind m y (lookups.is_single g) g.kind v) q (lookups.is_live_object y v) ≡ true
    by None h = live-kept x y v kept h
    by (Some g) h = kind-kept m x y (lookups.is_single g) g.kind v kept h

-- if an end has values, neither its node nor any of its values is destroyed
abbrev pub IsUntouched : (Node → Bool) → End → List Value → Type 0
IsUntouched g e [] = Unit {0}
IsUntouched g e (v ∷ vs) = (g e.node ≡ false) × AllByRecursion (λ (w : Value). goes g w ≡ false) (v ∷ vs)

-- the case that nothing is destroyed
abbrev pub none_goes : Node → Bool
none_goes n = false

none-gone : (v : Value) → goes none_goes v ≡ false
none-gone value.Null = refl
none-gone (value.Bool b) = refl
none-gone (value.Int i) = refl
none-gone (value.Text t) = refl
none-gone (value.Literal i) = refl
none-gone (value.Object o) = refl
none-gone (value.Proxy t) = refl

all-stay : (vs : List Value) → AllByRecursion (λ (w : Value). goes none_goes w ≡ false) vs
all-stay [] = tt
all-stay (v ∷ vs) = (none-gone v, all-stay vs)

pub untouched-end : (e : End) (vs : List Value) → IsUntouched none_goes e vs
untouched-end e [] = tt
untouched-end e (v ∷ vs) = (refl, all-stay (v ∷ vs))

list_all-kept : (p q : Value → Bool) (g : Node → Bool) → ((w : Value) → goes g w ≡ false → p w ≡ true → q w ≡ true) → (ws : List Value) → AllByRecursion (λ (w : Value). goes g w ≡ false) ws → list_all p ws ≡ true → list_all q ws ≡ true
list_all-kept p q g kept [] stay h = refl
list_all-kept p q g kept (w ∷ ws) stay h = let both = and_parts (p w) (list_all p ws) h in and_from (q w) (list_all q ws) (kept w stay.0 both.0) (list_all-kept p q g kept ws stay.1 both.1)

-- objects keep their classes, except the destroyed ones, and there are no fewer resources
module _ (g : Node → Bool) (s : Model) (v : ValuesState) (l : Links) (kept : HaveClasses g (class_of s.values) (class_of v)) (more : length s.values.uris ≤ length v.uris) where
  has-kept : (n : Node) (f : FeatureNo) → g n ≡ false → has_feature (reading s) n f ≡ true → has_feature (reading (model_of s.metamodel v l)) n f ≡ true
  has-kept (node.Object o) f stays h = test-kept (class_of s.values o) (class_of v o) (λ c. lookups.has_feature s.metamodel c f) (kept o stays) h
  has-kept (node.Resource k) f stays h =
      let both = and_parts (nat_lt k.0 (length s.values.uris)) (same_feature f (lookups.contents s.metamodel)) h in
      and_from _ _ (grind (arith, nat_tests)) both.1

  target-kept : (f : FeatureNo) (w : Value) → goes g w ≡ false → is_legal_target (reading s) f w ≡ true → is_legal_target (reading (model_of s.metamodel v l)) f w ≡ true
  target-kept f (value.Object o) stays h = takes-kept s.metamodel (class_of s.values) (class_of v) f (value.Object o) (has-class g (class_of s.values) (class_of v) kept (value.Object o) stays) h
  target-kept f (value.Proxy t) stays h = h
  target-kept f _ stays h = h

  -- a legal end stays legal
  pub legal-end-kept : (e : End) (ws : List Value) → IsUntouched g e ws → is_legal_end (reading s) e ws ≡ true → is_legal_end (reading (model_of s.metamodel v l)) e ws ≡ true
  legal-end-kept e [] stays h = refl
  legal-end-kept e (w ∷ ws) stays h =
      let has = and_parts _ _ h in
      let held = and_parts _ _ has.1 in
      and_from _ _ (has-kept e.node e.feature stays.0 has.0)
      (and_from _ _ (list_all-kept (is_legal_target (reading s) e.feature) (is_legal_target (reading (model_of s.metamodel v l)) e.feature) g (target-kept e.feature) (w ∷ ws) stays.1 held.0) held.1)
