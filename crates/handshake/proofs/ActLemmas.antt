-- What a change edits: the values of attributes, and the links of references.
use Rattle.std.proofs.Common.{◌≡◌, ℕ, Bool, true, false, List, [], ◌∷◌, ◌&&◌, map, option_to_list, Option, Some, None, if◌then◌else◌, refl}
use Rattle.std.specs.List.{AllByRecursion, enumerate_from}
use Rattle.std.specs.Option.{option_map_or}
use Rattle.mm_types.specs.Resolved.{Metamodel}
use Rattle.mm_types.specs.Shapes.{shape}
use Rattle.mm_types.specs.declared.end.End.{End}
use Rattle.mm_types.specs.declared.numbers.FeatureNo.{FeatureNo}
use Rattle.mm_types.specs.declared.numbers.Node.{Node}
use Rattle.mm_types.specs.declared.numbers.Node.TheVariants as node
use Rattle.mm_types.specs.declared.numbers.ObjectNo.{ObjectNo}
use Rattle.mm_types.specs.declared.value.Value.{Value}
use Rattle.mm_values.specs.declared.value_edit.ValueEdit.{ValueEdit}
use Rattle.mm_values.specs.declared.value_edit.ValueEdit.TheVariants.{NewObject, DropObject, PutList, InsertValue, RemoveValue as TakeValue, MoveValue, NewUri}
use Rattle.links.specs.Links.{Links, shift}
use Rattle.links.specs.declared.plan.Edit.{Edit}
use Rattle.links.specs.declared.plan.Edit.TheVariants as edit
use Rattle.models.specs.Reading.{Reading, is_repeat, position_for, shape_at}
use Rattle.containment.specs.Forest.{subtree}
use Rattle.removal.specs.declared.link_end.LinkEnd.{LinkEnd}
use Rattle.resource_docs.specs.declared.doc.Content.{Content}
use Rattle.resource_docs.specs.declared.doc.Doc.{Doc}
use Rattle.doc_loader.specs.Loading as loading
use Rattle.doc_loader.specs.Loading.{attribute_edits, loaded_number, of_contents}
use Rattle.doc_loader.proofs.PairLemmas.{all-append, all-every, all-flat_map_every, all-map}
use Rattle.handshake.specs.Displaced.{cut_by_new, cut_by_set, cut_link_ends, is_plain_add, is_plain_set, taken_index}
use Rattle.handshake.specs.Edits.{made_edits, new_put}
use Rattle.handshake.specs.Effects.{act_edits, if_attribute, of_object, put_by, put_under, put_values, take_value, value_edits, with_value}
use Rattle.handshake.specs.declared.act.Act.{Act}
use Rattle.handshake.specs.declared.act.Act.TheVariants.{Set, Unset, Add, Move, Resolve}
use Rattle.handshake.specs.declared.change.Change.{Change}
use Rattle.handshake.specs.declared.change.Change.TheVariants.{At, Create, Delete, NewResource, Load}

---------------------------------------------------------------- values

-- a property of the edits of an act, if it holds of no edit, and of each edit that an act may make
module _ (P : List ValueEdit → Type 0) (r : Reading) (e : End) (none : P []) where
  pub act-made : (a : Act) → ((v : Value) → a ≡ Set v → P (put_values e (v ∷ []) (shape_at r e).is_unsettable)) → P (put_values e [] false)
      → ((v : Value) (i : Option ℕ) → a ≡ Add v i → is_repeat r e v ≡ false → P (of_object e.node (λ o. InsertValue o e.feature (position_for r e i) v (shape_at r e).is_unique)))
      → ((i : ℕ) → taken_index r e a ≡ Some i → P (take_value e i)) → ((to from : ℕ) → a ≡ Move to from → P (of_object e.node (λ o. MoveValue o e.feature to from))) → P (act_edits r e a)
  act-made (Set v) set unset insert take move = set v refl
  act-made Unset set unset insert take move = unset
  act-made (Add v i) set unset insert take move =
      let made : List ValueEdit = of_object e.node (λ o. InsertValue o e.feature (position_for r e i) v (shape_at r e).is_unique) in
      elim (is_repeat r e v) as (λ b. is_repeat r e v ≡ b → P (if b then [] else made)) [ true ↦ λ _. none | false ↦ insert v i refl ] refl
  act-made (Move to from) set unset insert take move = move to from refl
  act-made a set unset insert take move =
      elim (taken_index r e a) as (λ q. taken_index r e a ≡ q → P (option_map_or (take_value e) q [])) [ None ↦ λ _. none | Some i ↦ take i ] refl

-- whether an edit destroys no object, and adds no URI
abbrev pub is_plain_edit : ValueEdit → Bool
is_plain_edit (DropObject o) = false
is_plain_edit (NewUri u) = false
is_plain_edit _ = true

-- a property of each edit that a change makes, if each edit that destroys no object and adds no URI has it
module _ (P : ValueEdit → Type 0) (plain : (x : ValueEdit) → is_plain_edit x ≡ true → P x) where
  under-all : (f : FeatureNo) (vs : List Value) (flag : Bool) (n : Node) → AllByRecursion P (put_under f vs flag n)
  under-all f vs flag (node.Object o) = (plain (PutList o f vs flag) refl, tt)
  under-all f vs flag (node.Resource k) = tt

  object-all : (n : Node) (edit : ObjectNo → ValueEdit) → ((o : ObjectNo) → P (edit o)) → AllByRecursion P (of_object n edit)
  object-all (node.Object o) edit each = (each o, tt)
  object-all (node.Resource k) edit each = tt

  act-all : (r : Reading) (e : End) (a : Act) → AllByRecursion P (act_edits r e a)
  act-all r e a =
      act-made (AllByRecursion P) r e tt a (λ v is. under-all e.feature (v ∷ []) (shape_at r e).is_unsettable e.node) (under-all e.feature [] false e.node)
      (λ v i is new. object-all e.node (λ o. InsertValue o e.feature (position_for r e i) v (shape_at r e).is_unique) (λ o. plain (InsertValue o e.feature (position_for r e i) v (shape_at r e).is_unique) refl))
      (λ i at. object-all e.node (λ o. TakeValue o e.feature i) (λ o. plain (TakeValue o e.feature i) refl))
      (λ to from is. object-all e.node (λ o. MoveValue o e.feature to from) (λ o. plain (MoveValue o e.feature to from) refl))

  attribute-all : (r : Reading) (e : End) (xs : List ValueEdit) → AllByRecursion P xs → AllByRecursion P (if_attribute r e xs)
  attribute-all r e xs all = elim (shape_at r e).is_reference as (λ b. AllByRecursion P (if b then [] else xs)) [ true ↦ tt | false ↦ all ]

  content-all : (m : Metamodel) (n : ℕ) (o : ObjectNo) (c : Content) → AllByRecursion P (attribute_edits m n o c)
  content-all m n o c =
      let a = shape m c.feature in
      let put : ValueEdit = PutList (loaded_number n o) c.feature c.values (a.is_unsettable && a.is_single) in
      elim a.is_reference as (λ b. AllByRecursion P (if b then [] else put ∷ [])) [ true ↦ tt | false ↦ (plain put refl, tt) ]

  loaded-all : (m : Metamodel) (n : ℕ) (doc : Doc) → AllByRecursion P (loading.loaded_values m n doc)
  loaded-all m n doc =
      all-append P (map (λ o. NewObject o.class) doc.objects) (of_contents (attribute_edits m n) doc)
      (all-map P (λ o. NewObject o.class) doc.objects (all-every (λ o. P (NewObject o.class)) doc.objects (λ o. plain (NewObject o.class) refl)))
      (all-flat_map_every P (loading.of_object (attribute_edits m n)) (enumerate_from 0 doc.objects) (λ x. all-flat_map_every P (attribute_edits m n (record { 0 = x.0 })) x.1.contents (content-all m n (record { 0 = x.0 }))))

  pub edits-all : (r : Reading) (c : Change) → ((o : ObjectNo) → c ≡ Delete o → AllByRecursion P (map DropObject (subtree r o))) → ((u : List ℕ) → c ≡ NewResource u → P (NewUri u)) → AllByRecursion P (value_edits r c)
  edits-all r (At e (Resolve i)) drop new = tt
  edits-all r (At e a) drop new = attribute-all r e (act_edits r e a) (act-all r e a)
  edits-all r (Create k) drop new = (plain (NewObject k) refl, tt)
  edits-all r (Delete o) drop new = drop o refl
  edits-all r (NewResource u) drop new = (new u refl, tt)
  edits-all r (Load k doc) drop new = loaded-all r.metamodel r.next doc
  edits-all r _ drop new = tt

---------------------------------------------------------------- links

-- a property of the links that an act cuts, of its edits after that, and of what these make of links, if it holds where they make nothing,
-- and for a new link, a value that is moved, and a proxy that is resolved
module _ (P : List LinkEnd → List Edit → (Links → Links) → Type 0) (r : Reading) (e : End) (none : (ts : List LinkEnd) → P ts [] (λ t. t)) where
  pub act-puts : (a : Act) → ((v : Value) → a ≡ Set v → is_plain_set r e v ≡ false → P (cut_by_set r e v) (option_to_list (new_put r e 0 v)) (λ t. with_value t r e None v))
      → ((v : Value) (i : Option ℕ) → a ≡ Add v i → is_plain_add r e v ≡ false → P (cut_by_new r e v) (option_to_list (new_put r e (position_for r e i) v)) (λ t. with_value t r e i v))
      → ((to from : ℕ) → a ≡ Move to from → (shape_at r e).is_reference ≡ true → P [] (edit.Shift e to from ∷ []) (λ t. shift t e to from))
      → ((i : ℕ) → a ≡ Resolve i → P (cut_link_ends r (At e (Resolve i))) (made_edits r (At e (Resolve i))) (λ t. put_by t r (At e (Resolve i))))
      → P (cut_link_ends r (At e a)) (made_edits r (At e a)) (λ t. put_by t r (At e a))
  act-puts (Set v) set add move resolve =
      elim (is_plain_set r e v) as (λ b. is_plain_set r e v ≡ b → P (if b then [] else cut_by_set r e v) (option_to_list (if b then None else new_put r e 0 v)) (λ t. if b then t else with_value t r e None v)) [
        | true ↦ λ _. none []
        | false ↦ set v refl
      ] refl
  act-puts (Add v i) set add move resolve =
      elim (is_plain_add r e v) as (λ b. is_plain_add r e v ≡ b → P (if b then [] else cut_by_new r e v) (option_to_list (if b then None else new_put r e (position_for r e i) v)) (λ t. if b then t else with_value t r e i v)) [
        | true ↦ λ _. none []
        | false ↦ add v i refl
      ] refl
  act-puts (Move to from) set add move resolve =
      elim (shape_at r e).is_reference as (λ b. (shape_at r e).is_reference ≡ b → P (if b then [] else []) (option_to_list (if b then Some (edit.Shift e to from) else None)) (λ t. if b then shift t e to from else t)) [
        | true ↦ move to from refl
        | false ↦ λ _. none []
      ] refl
  act-puts (Resolve i) set add move resolve = resolve i refl
  act-puts a set add move resolve = none (cut_link_ends r (At e a))
