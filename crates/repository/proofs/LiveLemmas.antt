-- A node that is there is still there after edits of values that don't destroy it.
use Rattle.std.proofs.Common.{◌≡◌, ◌++◌, ℕ, zero, suc, Bool, true, false, ◌&&◌, ◌||◌, IsTrue, List, [], ◌∷◌, Option, Some, None, is_some, insert, length, map, nat_lt, option_map, remove, slice_index_or, slice_set, if◌then◌else◌, refl, sym, ap, ◌∙◌, true≢false, arith, length-append}
use Rattle.std.specs.List.{AllByRecursion, list_any}
use Rattle.std.specs.Str.{bytes_eq}
use Rattle.std.proofs.lemmas.Bool.{and_parts, false≢true}
use Rattle.std.proofs.lemmas.Bool.Decides.{nat_tests}
use Rattle.mm_types.specs.Lists.{values_after_move}
use Rattle.mm_types.specs.Same.{same_object}
use Rattle.mm_types.specs.declared.numbers.Node.{Node}
use Rattle.mm_types.specs.declared.numbers.Node.TheVariants as node
use Rattle.mm_types.specs.declared.numbers.ObjectNo.{ObjectNo}
use Rattle.mm_values.specs.Values.{ObjectState, Objects, ValuesState, change_list, put_stored, values_after_edit, values_after_edits, with_uri}
use Rattle.mm_values.specs.declared.value_edit.ValueEdit.{ValueEdit}
use Rattle.mm_values.specs.declared.value_edit.ValueEdit.TheVariants.{NewObject, DropObject, PutList, InsertValue, RemoveValue, MoveValue, NewUri}
use Rattle.containment.specs.Forest.{is_node_among}
use Rattle.handshake.proofs.ActLemmas.{is_plain_edit}
use Rattle.handshake.proofs.LegalLemmas.{left-object}

abbrev is_object : Option ObjectState → Bool
is_object o = is_some (option_map (λ (s : ObjectState). s.class) o)

-- whether a node is there, by the values of a model
abbrev pub is_there_in : ValuesState → Node → Bool
is_there_in v (node.Object o) = is_object (slice_index_or v.objects o.0 None) && true
is_there_in v (node.Resource k) = nat_lt k.0 (length v.uris)

-- that an edit doesn't destroy a node
abbrev pub Spares : ValueEdit → Node → Type 0
Spares (DropObject o) (node.Object p) = same_object p o ≡ false
Spares _ _ = Unit {0}

pub plain-spares : (n : Node) (x : ValueEdit) → is_plain_edit x ≡ true → Spares x n
plain-spares n (DropObject o) plain = absurd (false≢true plain)
plain-spares n _ plain = tt

-- objects that are not the node
pub others-spare : (n : Node) (os : List ObjectNo) → is_node_among os n ≡ false → AllByRecursion (λ (x : ValueEdit). Spares x n) (map DropObject os)
others-spare (node.Object p) os none = by os none
  where
    or_false : (a b : Bool) → (a || b) ≡ false → (a ≡ false) × (b ≡ false)
    or_false true b h = absurd (false≢true (sym h))
    or_false false b h = (refl, h)

    by : (os : List ObjectNo) → list_any (same_object p) os ≡ false → AllByRecursion (λ (x : ValueEdit). Spares x (node.Object p)) (map DropObject os)
    by [] none = tt
    by (o ∷ os) none = let both = or_false (same_object p o) (list_any (same_object p) os) none in (both.0, by os both.1)
others-spare (node.Resource k) os none = by os
  where
    by : (os : List ObjectNo) → AllByRecursion (λ (x : ValueEdit). Spares x (node.Resource k)) (map DropObject os)
    by [] = tt
    by (o ∷ os) = (tt, by os)

---------------------------------------------------------------- one edit

push-live : (os : Objects) (x : Option ObjectState) (i : ℕ) → is_object (slice_index_or os i None) ≡ true → is_object (slice_index_or (os ++ x ∷ []) i None) ≡ true
push-live [] x i h = absurd (true≢false (sym h))
push-live (o ∷ os) x zero h = h
push-live (o ∷ os) x (suc i) h = push-live os x i h

change-object : (g : ObjectState → ObjectState) (o : Option ObjectState) → is_object (option_map g o) ≡ is_object o
change-object g None = refl
change-object g (Some o) = refl

change-live : (os : Objects) (g : ObjectState → ObjectState) (k i : ℕ) → is_object (slice_index_or (slice_set os k (option_map g (slice_index_or os k None))) i None) ≡ is_object (slice_index_or os i None)
change-live [] g k i = refl
change-live (o ∷ os) g zero zero = change-object g o
change-live (o ∷ os) g zero (suc i) = refl
change-live (o ∷ os) g (suc k) zero = refl
change-live (o ∷ os) g (suc k) (suc i) = change-live os g k i

-- a list of an object under an attribute is changed
change-there : (v : ValuesState) (g : ObjectState → ObjectState) (k p : ObjectNo) → IsTrue (is_there_in v (node.Object p)) → IsTrue (is_object (slice_index_or (slice_set v.objects k.0 (option_map g (slice_index_or v.objects k.0 None))) p.0 None) && true)
change-there v g k p h = ap (λ (b : Bool). b && true) (change-live v.objects g k.0 p.0) ∙ h

more-resources : (us : List (List ℕ)) (u : List ℕ) (k : ℕ) → IsTrue (nat_lt k (length us)) → IsTrue (nat_lt k (length (with_uri us u)))
more-resources us u k h =
    elim (list_any (bytes_eq u) us) as (λ b. IsTrue (nat_lt k (length (if b then us else us ++ u ∷ [])))) [
      | true ↦ h
      | false ↦ rw (length-append us (u ∷ [])) (grind (arith, nat_tests))
    ]

edit-keeps : (v : ValuesState) (x : ValueEdit) (n : Node) → Spares x n → IsTrue (is_there_in v n) → IsTrue (is_there_in (values_after_edit v x) n)
edit-keeps v (NewObject c) (node.Object p) spares h = ap (λ (b : Bool). b && true) (push-live v.objects _ p.0 (and_parts _ true h).0)
edit-keeps v (DropObject o) (node.Object p) spares h = ap (λ (q : Option ObjectState). is_object q && true) (left-object v (o ∷ []) p (ap (λ (b : Bool). b || false) spares)) ∙ h
edit-keeps v (PutList o f vs flag) (node.Object p) spares h = change-there v (put_stored f (record { list = vs; flag = flag })) o p h
edit-keeps v (InsertValue o f i w u) (node.Object p) spares h = change-there v (change_list f (λ vs. insert vs i w)) o p h
edit-keeps v (RemoveValue o f i) (node.Object p) spares h = change-there v (change_list f (λ vs. remove vs i)) o p h
edit-keeps v (MoveValue o f to from) (node.Object p) spares h = change-there v (change_list f (λ vs. values_after_move vs to from)) o p h
edit-keeps v (NewUri u) (node.Resource k) spares h = more-resources v.uris u k.0 h
edit-keeps v _ n spares h = h

---------------------------------------------------------------- several edits

pub edits-keep : (xs : List ValueEdit) (v : ValuesState) (n : Node) → AllByRecursion (λ (x : ValueEdit). Spares x n) xs → IsTrue (is_there_in v n) → IsTrue (is_there_in (values_after_edits v xs) n)
edits-keep [] v n all h = h
edits-keep (x ∷ xs) v n all h = edits-keep xs (values_after_edit v x) n all.1 (edit-keeps v x n all.0 h)
