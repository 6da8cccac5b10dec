-- In a legal state a node that is a deep target of an adapter, or below one, exists.
use Rattle.std.proofs.Common.{◌≡◌, ◌&&◌, ◌||◌, true, false, IsTrue, List, [], ◌∷◌, Some, None, option_map, if◌then◌else◌, refl, sym, ap, subst}
use Rattle.std.specs.List.{All, find, list_any}
use Rattle.std.proofs.lemmas.List.Elements.{All-head, All-tail}
use Rattle.std.proofs.lemmas.Option.{none-some, same_Some}
use Rattle.mm_types.specs.Same.{node_value, same_node}
use Rattle.mm_types.proofs.SameLemmas.{same_node-true}
use Rattle.mm_types.specs.declared.end.End.{End}
use Rattle.mm_types.specs.declared.numbers.AdapterNo.{AdapterNo}
use Rattle.mm_types.specs.declared.numbers.ObjectNo.{ObjectNo}
use Rattle.mm_types.specs.declared.numbers.Node.{Node}
use Rattle.mm_types.specs.declared.numbers.Node.TheVariants as node
use Rattle.mm_types.specs.declared.value.Value.TheVariants as value
use Rattle.links.specs.Holders.{above, holder}
use Rattle.links.specs.Links.{end}
use Rattle.links.proofs.HolderLemmas.{holder-some, indexed_held}
use Rattle.models.specs.Legal as models
use Rattle.models.specs.Model.{Model, reading}
use Rattle.models.specs.Reading.{is_within}
use Rattle.containment.proofs.AboveLemmas.{above-root, parent-resource}
use Rattle.containment.proofs.PartLemmas.{legal-at, taken-live}
use Rattle.notice_chain.specs.Listed.{Listed, adapter, has_no}
use Rattle.notice_chain.specs.declared.target.Target.{Target}
use Rattle.std.proofs.lemmas.Bool.{and_parts}
use Rattle.mmrepo_lib.specs.Enough.{is_deep_of}
use Rattle.repository.specs.State.{State, IsLegal, IsLegalAdapter, is_there, reads}

-- an object that a node contains lives
contained-live : (s : Model) → models.IsLegal s → (o : ObjectNo) (e : End) → holder s.links (node.Object o) ≡ Some e → IsTrue (is_there (reading s) (node.Object o))
contained-live s legal o e held =
    let n = node.Object o in
    let l = holder-some s.links n e held in
    let at = indexed_held l.0 n e (legal.links.set.placed.sides l.0 l.1) l.2 in
    let there = (legal.links.set.placed.ends e).has at.0 (node_value n) (l.0, l.1, at.1) in
    let taken = (legal-at (reading s) e (end s.links e) at.0 (value.Object o) (legal.links.ends e) there).1 in
    let live = taken-live s.metamodel (reading s).class e.feature o taken in
    rw live refl

not-empty : (x : Node) (xs : List Node) → xs ≡ [] → list_any (same_node x) xs ≡ true → ⊥
not-empty x [] e h = cc
not-empty x (y ∷ ys) e h = cc

below-there : (s : Model) → models.IsLegal s → (target n : Node) → list_any (same_node target) (above s.links n) ≡ true → IsTrue (is_there (reading s) n)
below-there s legal target (node.Resource k) below = absurd (not-empty target _ (above-root s.links (node.Resource k) legal.links.set legal.links.forest (parent-resource s.links (node.Resource k) k legal.links.set refl)) below)
below-there s legal target (node.Object o) below =
    elim (holder s.links (node.Object o)) as (λ h. holder s.links (node.Object o) ≡ h → IsTrue (is_there (reading s) (node.Object o))) [
      | None ↦ λ none. absurd (not-empty target _ (above-root s.links (node.Object o) legal.links.set legal.links.forest (sym (ap (option_map (λ (e : End). e.node)) none))) below)
      | Some e ↦ λ held. contained-live s legal o e held
    ] refl

pub within-there : (s : Model) → models.IsLegal s → (target n : Node) → IsTrue (is_there (reading s) target) → is_within (reading s) target n ≡ true → IsTrue (is_there (reading s) n)
within-there s legal target n there within =
    elim (same_node target n) as (λ b. same_node target n ≡ b → (b || list_any (same_node target) (above s.links n)) ≡ true → IsTrue (is_there (reading s) n)) [
      | true ↦ λ same _. subst (λ (m : Node). IsTrue (is_there (reading s) m)) (same_node-true target n same) there
      | false ↦ λ _ below. below-there s legal target n below
    ] refl within

found-legal : (P : Listed → Type 0) (k : AdapterNo) (rs : List Listed) (a : Listed) → find (has_no k) rs ≡ Some a → All P rs → P a
found-legal P k [] a h all = absurd (none-some a h)
found-legal P k (r ∷ rs) a h all =
    elim (has_no k r) as (λ b. (if b then Some r else find (has_no k) rs) ≡ Some a → P a) [
      | true ↦ λ e. subst P (same_Some r a e) (All-head P r rs all)
      | false ↦ λ e. found-legal P k rs a e (All-tail P r rs all)
    ] h

deep-there : (s : Model) (target : Node) (ts : List Target) → All (λ t. IsTrue (is_there (reading s) t.node)) ts → list_any (λ t. t.deep && same_node t.node target) ts ≡ true → IsTrue (is_there (reading s) target)
deep-there s target [] all h = absurd (let no : false ≡ true = h in cc)
deep-there s target (t ∷ ts) all h =
    let P : Target → Type 0 = λ q. IsTrue (is_there (reading s) q.node) in
    elim (t.deep && same_node t.node target) as (λ b. (t.deep && same_node t.node target) ≡ b → (b || list_any (λ q. q.deep && same_node q.node target) ts) ≡ true → IsTrue (is_there (reading s) target)) [
      | true ↦ λ here _. subst (λ (n : Node). IsTrue (is_there (reading s) n)) (same_node-true t.node target (and_parts t.deep _ here).1) (All-head P t ts all)
      | false ↦ λ _ later. deep-there s target ts (All-tail P t ts all) later
    ] refl h

-- a deep target of an attached adapter exists
pub target-there : (s : State) (number : AdapterNo) (target : Node) (a : Listed) → IsLegal s → adapter number s.adapters ≡ Some a → is_deep_of target a ≡ true → IsTrue (is_there (reads s) target)
target-there s number target a legal some deep = deep-there s.model target a.targets (found-legal (IsLegalAdapter (reads s)) number s.adapters a some legal.adapters).targets deep
