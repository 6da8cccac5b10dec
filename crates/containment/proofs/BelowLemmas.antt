-- An object is above another node exactly if that node is among the objects that are below it. Some of them wait to be looked at.
use Rattle.std.proofs.Common.{◌≡◌, ◌∙◌, ◌||◌, ◌++◌, ℕ, Bool, false, List, [], ◌∷◌, flat_map, refl, sym, ap}
use Rattle.std.specs.List.{list_any}
use Rattle.std.proofs.lemmas.Grind.{flat_map-append}
use Rattle.std.proofs.lemmas.List.{append-nil, map-append}
use Rattle.std.proofs.lemmas.List.Folds.{list_any-append}
use Rattle.mm_types.specs.Same.{same_node, same_object}
use Rattle.mm_types.specs.declared.numbers.Node.{Node}
use Rattle.mm_types.specs.declared.numbers.Node.TheVariants as node
use Rattle.mm_types.specs.declared.numbers.ObjectNo.{ObjectNo}
use Rattle.models.specs.Legal.{IsLegal}
use Rattle.models.specs.Model.{Model, reading}
use Rattle.containment.specs.Forest.{contents, is_node_among, subtree}
use Rattle.containment.specs.Waiting.{object_no, waiting_objects}
use Rattle.containment.proofs.MemberLemmas.{subtree-has}
use Rattle.containment.proofs.TreeLemmas.{subtree-parts}
use Rattle.mm_meta.proofs.OwnerLemmas.{nat_eq-turned}

-- another node is among the rest
behind-first : (o : ObjectNo) (n : Node) (os : List ObjectNo) → same_node (node.Object o) n ≡ false → is_node_among (o ∷ os) n ≡ is_node_among os n
behind-first o (node.Object c) os other = ap (λ (b : Bool). b || list_any (same_object c) os) (nat_eq-turned c.0 o.0 ∙ other)
behind-first o (node.Resource k) os other = refl

among-append : (os ps : List ObjectNo) (n : Node) → is_node_among (os ++ ps) n ≡ (is_node_among os n || is_node_among ps n)
among-append os ps (node.Object c) = list_any-append (same_object c) os ps
among-append os ps (node.Resource k) = refl

module _ (s : Model) (legal : IsLegal s) where
  -- some objects and all objects below them
  abbrev trees : List ObjectNo → List ObjectNo
  trees os = flat_map (subtree (reading s)) os

  -- if an object is above a node, the node is among the contents of the object and the objects below them
  pub parts-have : (o : ObjectNo) (n : Node) → same_node (node.Object o) n ≡ false
      → is_node_among (trees (contents (reading s) (node.Object o))) n ≡ list_any (same_node (node.Object o)) ((reading s).above n)
  parts-have o n apart =
      sym (behind-first o n (trees (contents (reading s) (node.Object o))) apart)
      ∙ sym (ap (λ (os : List ObjectNo). is_node_among os n) (subtree-parts s legal o))
      ∙ subtree-has s legal o n
      ∙ ap (λ (b : Bool). b || list_any (same_node (node.Object o)) ((reading s).above n)) apart

  last-tree : (rest : List ObjectNo) (o : ObjectNo) (n : Node) → is_node_among (trees (rest ++ o ∷ [])) n ≡ (is_node_among (trees rest) n || is_node_among (subtree (reading s) o) n)
  last-tree rest o n =
      ap (λ (os : List ObjectNo). is_node_among os n) (flat_map-append (subtree (reading s)) rest (o ∷ []) ∙ ap (λ (os : List ObjectNo). trees rest ++ os) (append-nil (subtree (reading s) o)))
      ∙ among-append (trees rest) (subtree (reading s) o) n

  -- the last waiting object is replaced by its parts, if it is not the node
  pub one-seen : (old rest now : List ℕ) (k : ℕ) (n : Node) (b : Bool) → old ≡ rest ++ k ∷ [] → same_node (node.Object (object_no k)) n ≡ false
      → waiting_objects now ≡ waiting_objects rest ++ contents (reading s) (node.Object (object_no k)) → is_node_among (trees (waiting_objects old)) n ≡ b → is_node_among (trees (waiting_objects now)) n ≡ b
  one-seen old rest now k n b was other is whole =
      let o = object_no k in
      let parts = contents (reading s) (node.Object o) in
      let before = waiting_objects rest in
      ap (λ (os : List ObjectNo). is_node_among (trees os) n) is
      ∙ ap (λ (os : List ObjectNo). is_node_among os n) (flat_map-append (subtree (reading s)) before parts)
      ∙ among-append (trees before) (trees parts) n
      ∙ ap (λ (c : Bool). is_node_among (trees before) n || c) (sym (behind-first o n (trees parts) other) ∙ sym (ap (λ (os : List ObjectNo). is_node_among os n) (subtree-parts s legal o)))
      ∙ sym (ap (λ (ns : List ℕ). is_node_among (trees (waiting_objects ns)) n) was
      ∙ ap (λ (os : List ObjectNo). is_node_among (trees os) n) (map-append object_no rest (k ∷ []))
      ∙ last-tree before o n)
      ∙ whole

  -- at first the parts of the object wait
  pub parts-wait : (none now : List ℕ) (o : ObjectNo) (n : Node) → none ≡ [] → same_node (node.Object o) n ≡ false → waiting_objects now ≡ waiting_objects none ++ contents (reading s) (node.Object o)
      → is_node_among (trees (waiting_objects now)) n ≡ list_any (same_node (node.Object o)) ((reading s).above n)
  parts-wait none now o n empty apart is =
      ap (λ (os : List ObjectNo). is_node_among (trees os) n) (is ∙ ap (λ (ns : List ℕ). waiting_objects ns ++ contents (reading s) (node.Object o)) empty) ∙ parts-have o n apart

  -- no node is below an empty list of objects
  pub nothing-waits : (none : List ObjectNo) (n : Node) → none ≡ [] → is_node_among (trees none) n ≡ false
  nothing-waits none n empty = ap (λ (os : List ObjectNo). is_node_among (trees os) n) empty ∙ by n
    where
      by : (n : Node) → is_node_among [] n ≡ false
      by (node.Object c) = refl
      by (node.Resource k) = refl
