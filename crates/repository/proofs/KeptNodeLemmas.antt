-- A node that is there before and after a change has the same class and the same features, and is not one that the change destroys or
-- loads.
use Rattle.std.proofs.Common.{◌≡◌, ◌≤◌, ◌<◌, ◌⊎◌, inl, inr, ◌||◌, ℕ, zero, suc, Bool, true, false, IsTrue, nat_le, List, [], ◌∷◌, ◌++◌, map, length, Option, Some, None, is_some, option_map, unwrap_or, if◌then◌else◌, refl, sym, ap, ◌∙◌, arith, length-append}
use Rattle.std.specs.Prelude.{insert, remove, option_and_then, slice_index_or, slice_set}
use Rattle.std.specs.List.{list_any}
use Rattle.std.specs.Option.{option_map_or}
use Rattle.std.proofs.lemmas.Bool.{and_parts, eqb-true}
use Rattle.std.proofs.lemmas.Bool.Decides.{nat_tests}
use Rattle.std.proofs.Math.ListN.{length-set}
use Rattle.mm_types.specs.Lists.{values_after_move}
use Rattle.mm_types.specs.Lookups as lookups
use Rattle.mm_types.specs.Same.{same_object}
use Rattle.mm_types.specs.declared.numbers.ClassNo.{ClassNo}
use Rattle.mm_types.specs.declared.numbers.ObjectNo.{ObjectNo}
use Rattle.mm_types.specs.declared.numbers.Node.{Node}
use Rattle.mm_types.specs.declared.numbers.Node.TheVariants as node
use Rattle.mm_values.specs.Values.{ObjectState, Objects, ValuesState, change_list, put_stored, values_after_edit, values_after_edits, without_object}
use Rattle.mm_values.specs.declared.value_edit.ValueEdit.{ValueEdit}
use Rattle.mm_values.specs.declared.value_edit.ValueEdit.TheVariants.{NewObject, DropObject, PutList, InsertValue, RemoveValue, MoveValue, NewUri}
use Rattle.models.specs.Model.{Model, reading}
use Rattle.models.specs.Reading.{Reading, all_features_of, is_live}
use Rattle.containment.proofs.PartLemmas.{live-made}
use Rattle.containment.specs.Forest.{subtree}
use Rattle.handshake.specs.Effects.{model_after, value_edits}
use Rattle.handshake.specs.Laws.{comes_with, goes_with}
use Rattle.handshake.specs.declared.change.Change.{Change}
use Rattle.handshake.specs.declared.change.Change.TheVariants as change
use Rattle.resource_docs.specs.declared.doc.Doc.{Doc}
use Rattle.mm_types.specs.declared.numbers.ResourceNo.{ResourceNo}
use Rattle.repository.specs.State.{is_there}
use Rattle.snapshots.specs.Snapshots.{class_at}

---------------------------------------------------------------- one place of the table of objects

abbrev class_in : Objects → ℕ → Option ClassNo
class_in os i = option_map (λ (o : ObjectState). o.class) (slice_index_or os i None)

-- a class stays, or the object is destroyed for ever
Keeps : Option ClassNo → Option ClassNo → Type 0
Keeps a b = (b ≡ a) ⊎ (b ≡ None)

keeps-twice : (a b c : Option ClassNo) → Keeps a b → Keeps b c → Keeps a c
unfolding Keeps
keeps-twice a b c (inl p) (inl q) = inl (q ∙ p)
keeps-twice a b c (inl p) (inr q) = inr q
keeps-twice a b c (inr p) (inl q) = inr (q ∙ p)
keeps-twice a b c (inr p) (inr q) = inr q

push-class : (os : Objects) (x : Option ObjectState) (i : ℕ) → i < length os → class_in (os ++ x ∷ []) i ≡ class_in os i
push-class [] x i h = absurd (omega arith)
push-class (o ∷ os) x zero h = refl
push-class (o ∷ os) x (suc i) h = push-class os x i (omega arith)

drop-class : (os : Objects) (k i : ℕ) → Keeps (class_in os i) (class_in (slice_set os k None) i)
unfolding Keeps
drop-class [] k i = inl refl
drop-class (o ∷ os) zero zero = inr refl
drop-class (o ∷ os) zero (suc i) = inl refl
drop-class (o ∷ os) (suc k) zero = inl refl
drop-class (o ∷ os) (suc k) (suc i) = drop-class os k i

kept-object : (g : ObjectState → ObjectState) → ((o : ObjectState) → (g o).class ≡ o.class) → (x : Option ObjectState) → option_map (λ (o : ObjectState). o.class) (option_map g x) ≡ option_map (λ (o : ObjectState). o.class) x
kept-object g h None = refl
kept-object g h (Some o) = ap Some (h o)

change-class : (os : Objects) (g : ObjectState → ObjectState) → ((o : ObjectState) → (g o).class ≡ o.class) → (k i : ℕ) → class_in (slice_set os k (option_map g (slice_index_or os k None))) i ≡ class_in os i
change-class [] g h k i = refl
change-class (o ∷ os) g h zero zero = kept-object g h o
change-class (o ∷ os) g h zero (suc i) = refl
change-class (o ∷ os) g h (suc k) zero = refl
change-class (o ∷ os) g h (suc k) (suc i) = change-class os g h k i

edit-class : (v : ValuesState) (e : ValueEdit) (i : ℕ) → i < length v.objects → Keeps (class_in v.objects i) (class_in (values_after_edit v e).objects i)
unfolding Keeps
edit-class v (NewObject c) i h = inl (push-class v.objects _ i h)
edit-class v (DropObject o) i h = drop-class v.objects o.0 i
edit-class v (PutList o f list flag) i h = inl (change-class v.objects (put_stored f (record { list = list; flag = flag })) (λ x. refl) o.0 i)
edit-class v (InsertValue o f j w u) i h = inl (change-class v.objects (change_list f (λ vs. insert vs j w)) (λ x. refl) o.0 i)
edit-class v (RemoveValue o f j) i h = inl (change-class v.objects (change_list f (λ vs. remove vs j)) (λ x. refl) o.0 i)
edit-class v (MoveValue o f to from) i h = inl (change-class v.objects (change_list f (λ vs. values_after_move vs to from)) (λ x. refl) o.0 i)
edit-class v (NewUri u) i h = inl refl

push-length : (os : Objects) (x : Option ObjectState) → length os ≤ length (os ++ x ∷ [])
push-length os x = omega (arith, length-append os (x ∷ []))

edit-length : (v : ValuesState) (e : ValueEdit) → length v.objects ≤ length (values_after_edit v e).objects
edit-length v (NewObject c) = push-length v.objects _
edit-length v (DropObject o) = omega (arith, length-set {A = Option ObjectState})
edit-length v (PutList o f list flag) = omega (arith, length-set {A = Option ObjectState})
edit-length v (InsertValue o f j w u) = omega (arith, length-set {A = Option ObjectState})
edit-length v (RemoveValue o f j) = omega (arith, length-set {A = Option ObjectState})
edit-length v (MoveValue o f to from) = omega (arith, length-set {A = Option ObjectState})
edit-length v (NewUri u) = omega arith

-- the same for any edits
edits-class : (es : List ValueEdit) (v : ValuesState) (i : ℕ) → i < length v.objects → Keeps (class_in v.objects i) (class_in (values_after_edits v es).objects i)
unfolding Keeps
edits-class [] v i h = inl refl
edits-class (e ∷ es) v i h = keeps-twice _ _ _ (edit-class v e i h) (edits-class es (values_after_edit v e) i (omega (arith, edit-length v e)))

---------------------------------------------------------------- a change, or none

abbrev pub model_by : Model → Option Change → Model
model_by s o = option_map_or (model_after s) o s

pub metamodel-by : (s : Model) (o : Option Change) → (model_by s o).metamodel ≡ s.metamodel
metamodel-by s None = refl
metamodel-by s (Some c) = refl

there-live : (r : Reading) (o : ObjectNo) → IsTrue (is_there r (node.Object o)) → is_live r o ≡ true
there-live r o h = (and_parts _ _ h).0

pub class-by : (s : Model) (c : Option Change) (n : Node) → IsTrue (is_there (reading s) n) → IsTrue (is_there (reading (model_by s c)) n) → class_at (reading (model_by s c)) n ≡ class_at (reading s) n
unfolding Keeps
class-by s None n before later = refl
class-by s (Some c) (node.Resource k) before later = refl
class-by s (Some c) (node.Object o) before later =
    elim (edits-class (value_edits (reading s) c) s.values o.0 (live-made s o (there-live (reading s) o before))) [
      | inl same ↦ same
      | inr none ↦ absurd (let no : false ≡ true = sym (ap is_some none) ∙ there-live (reading (model_after s c)) o later in cc)
    ]

pub features-by : (s : Model) (c : Option Change) (n : Node) → IsTrue (is_there (reading s) n) → IsTrue (is_there (reading (model_by s c)) n) → all_features_of (reading (model_by s c)) n ≡ all_features_of (reading s) n
features-by s None n before later = refl
features-by s (Some c) (node.Object o) before later = ap (λ x. unwrap_or (option_and_then (lookups.features s.metamodel) x) []) (class-by s (Some c) (node.Object o) before later)
features-by s (Some c) (node.Resource k) before later = ap (λ (b : Bool). if b then lookups.contents s.metamodel ∷ [] else []) (later ∙ sym before)

---------------------------------------------------------------- what goes, and what comes

drop-here : (os : Objects) (i : ℕ) → class_in (slice_set os i None) i ≡ None
drop-here [] i = refl
drop-here (o ∷ os) zero = refl
drop-here (o ∷ os) (suc i) = drop-here os i

drop-none : (os : Objects) (k i : ℕ) → class_in os i ≡ None → class_in (slice_set os k None) i ≡ None
drop-none [] k i h = h
drop-none (o ∷ os) zero zero h = refl
drop-none (o ∷ os) zero (suc i) h = h
drop-none (o ∷ os) (suc k) zero h = h
drop-none (o ∷ os) (suc k) (suc i) h = drop-none os k i h

dropped-none : (os : List ObjectNo) (v : ValuesState) (i : ℕ) → class_in v.objects i ≡ None → class_in (values_after_edits v (map DropObject os)).objects i ≡ None
dropped-none [] v i h = h
dropped-none (o ∷ os) v i h = dropped-none os (record v { objects = without_object v.objects o }) i (drop-none v.objects o.0 i h)

dropped : (os : List ObjectNo) (v : ValuesState) (p : ObjectNo) → list_any (same_object p) os ≡ true → class_in (values_after_edits v (map DropObject os)).objects p.0 ≡ None
dropped [] v p h = absurd (cc)
dropped (o ∷ os) v p h =
    let w : ValuesState = record v { objects = without_object v.objects o } in
    elim (same_object p o) as (λ b. same_object p o ≡ b → (b || list_any (same_object p) os) ≡ true → class_in (values_after_edits w (map DropObject os)).objects p.0 ≡ None) [
      | true ↦ λ e _. dropped-none os w p.0 (ap (λ (k : ℕ). class_in (slice_set v.objects k None) p.0) (sym (eqb-true p.0 o.0 e)) ∙ drop-here v.objects p.0)
      | false ↦ λ _ more. dropped os w p more
    ] refl h

goes-none : (s : Model) (o : ObjectNo) (n : Node) → IsTrue (is_there (reading (model_after s (change.Delete o))) n) → goes_with (reading s) (change.Delete o) n ≡ false
goes-none s o (node.Resource k) later = refl
goes-none s o (node.Object p) later =
    elim (list_any (same_object p) (subtree (reading s) o)) as (λ b. list_any (same_object p) (subtree (reading s) o) ≡ b → b ≡ false) [
      | true ↦ λ e. absurd (let no : false ≡ true = sym (ap is_some (dropped (subtree (reading s) o) s.values p e)) ∙ there-live (reading (model_after s (change.Delete o))) p later in cc)
      | false ↦ λ e. refl
    ] refl

not-behind : (m n : ℕ) → n < m → nat_le m n ≡ false
not-behind m n h = grind (arith, nat_tests)

comes-none : (s : Model) (k : ResourceNo) (doc : Doc) (n : Node) → IsTrue (is_there (reading s) n) → comes_with (reading s) (change.Load k doc) n ≡ false
comes-none s k doc (node.Object o) before = not-behind (length s.values.objects) o.0 (live-made s o (there-live (reading s) o before))
comes-none s k doc (node.Resource j) before = refl

-- of any change
pub goes-by : (s : Model) (x : Change) (n : Node) → IsTrue (is_there (reading (model_after s x)) n) → goes_with (reading s) x n ≡ false
goes-by s (change.Delete o) n later = goes-none s o n later
goes-by s _ n later = refl

pub comes-by : (s : Model) (x : Change) (n : Node) → IsTrue (is_there (reading s) n) → comes_with (reading s) x n ≡ false
comes-by s (change.Load k doc) n before = comes-none s k doc n before
comes-by s _ n before = refl
