-- The links of a store by its rows, if its invariant is known only under a truncation.
use Rattle.std.proofs.Common.{◌≡◌, List, [], Option, Some, None, sym, ap, ◌∙◌, subst, arith}
use Rattle.std.proofs.Math.Logic.{∥∥₁_elim, ∥∥₁_map}
use Rattle.std.specs.Coded.{Coded, Coded-set, coded_ℕ, codes, le_prop}
use Rattle.std.specs.List.{position}
use Rattle.std.proofs.lemmas.Bool.{false≢true}
use Rattle.std.proofs.lemmas.Option.{none-some}
use Rattle.mm_types.specs.Same.{node_value, same_end, same_value}
use Rattle.mm_types.specs.declared.numbers.FeatureNo.{FeatureNo}
use Rattle.mm_types.specs.declared.numbers.ObjectNo.{ObjectNo}
use Rattle.mm_types.specs.declared.value.Value.TheVariants as value
use Rattle.links.proofs.CycleLemmas.{none_holder}
use Rattle.links.proofs.LegalLemmas.{none_legal}
use Rattle.slot_store.specs.Entering.{AreFew}
use Rattle.slot_store.proofs.OnceLemmas.{has_end_at}
use Rattle.slot_store.proofs.PositionLemmas.{end_lacks, position_lacks}
use Rattle.mm_types.specs.declared.numbers.Node.{Node}
use Rattle.mm_types.specs.declared.numbers.Node.TheVariants as node
use Rattle.mm_types.specs.declared.end.End.{End}
use Rattle.mm_types.specs.declared.value.Value.{Value}
use Rattle.links.specs.Holders.{holder}
use Rattle.links.specs.LegalSets.{IsHeldOnce}
use Rattle.links.specs.Links.{In, Links, end, far_end, no_links}
use Rattle.links.specs.declared.link.Link.{Link}
use Rattle.links.proofs.EndLemmas.{from_list_HasLinks}
use Rattle.links.proofs.ScanLemmas.{same_links}
use Rattle.node_slots.specs.declared.node_slots.NodeSlots.{NodeSlots}
use Rattle.node_slots.specs.Cells.{Cells, HasKeys, cells, ends_of, no_cells}
use Rattle.node_slots.proofs.KeyLemmas.{keys_of}
use Rattle.slot_store.specs.CellLinks.{AreLists, HasValue, IsKept, IsStore, RepeatNothing, all_links, cell_links, store_links}
use Rattle.slot_store.proofs.LinkLemmas.{all_back, all_there, end-lists}

---------------------------------------------------------------- growth

-- the links depend only on the lists, and not on which ends have a slot
within : (c : Cells) (es fs : List End) → HasKeys c fs → (l : Link) → In l (cell_links c es) → In l (cell_links c fs)
within c es fs keys l h =
    let b = all_back c es l ((from_list_HasLinks (all_links c es)).has l h) in
    subst (λ (m : Link). In m (cell_links c fs)) (sym b.4) ((from_list_HasLinks (all_links c fs)).only _ (all_there c fs b.0 b.1 b.2 (keys b.0 b.1 b.2 b.3) b.3))

pub same_cells : (c : Cells) (es fs : List End) → HasKeys c es → HasKeys c fs → cell_links c es ≡ cell_links c fs
same_cells c es fs p q = same_links (cell_links c es) (cell_links c fs) (within c es fs q) (within c fs es p)

pub kept_ends : (c : Cells) (es fs : List End) → HasKeys c fs → IsKept c es → IsKept c fs
kept_ends c es fs keys ok =
    let is = same_cells c es fs ok.lists.keys keys in
    record {
      lists = record { keys = keys; references = ok.lists.references; mutual_ = ok.lists.mutual_; distinct = ok.lists.distinct; few = ok.lists.few };
      held = subst IsHeldOnce is ok.held;
      holds = λ n. ok.holds n ∙ ap (λ (s : Links). holder s n) is;
      entered = ok.entered;
      once = ok.once;
    }

module _ (t u : NodeSlots) (same : cells u ≡ cells t) where
  keys_now : HasKeys (cells t) (ends_of u)
  keys_now = subst (λ (c : Cells). HasKeys c (ends_of u)) same (keys_of u)

  pub grown_links : store_links u ≡ store_links t
  unfolding store_links
  grown_links = ap (λ (c : Cells). cell_links c (ends_of u)) same ∙ same_cells (cells t) (ends_of u) (ends_of t) keys_now (keys_of t)

  pub grown_kept : ∥ IsStore t ∥₁ → ∥ IsStore u ∥₁
  grown_kept kept = ∥∥₁_map kept (λ ok. subst (λ (c : Cells). IsKept c (ends_of u)) (sym same) (kept_ends (cells t) (ends_of t) (ends_of u) keys_now ok))

---------------------------------------------------------------- reads

coded_values : Coded (List Value)
coded_values = hlevel codes

coded_holder : Coded (Option End)
coded_holder = hlevel codes

module _ (t : NodeSlots) (kept : ∥ IsStore t ∥₁) where
  -- the ends of the links are the lists
  pub ends_kept : (e : End) → end (store_links t) e ≡ (cells t).vals e
  unfolding store_links
  ends_kept e = ∥∥₁_elim kept (Coded-set coded_values _ _) (λ ok. end-lists (cells t) (ends_of t) ok.lists e)

  -- the holders are those of the rows
  pub holder_kept : (n : Node) → (cells t).hold n ≡ holder (store_links t) n
  unfolding store_links
  holder_kept n = ∥∥₁_elim kept (Coded-set coded_holder _ _) (λ ok. ok.holds n)

  -- the lists are short
  pub few_kept : AreFew (cells t)
  few_kept e = ∥∥₁_elim kept le_prop (λ ok. ok.lists.few e)

  -- nothing occurs twice in a list
  pub kept_once : RepeatNothing (cells t)
  kept_once = record {
    values = λ e j k v a b. ∥∥₁_elim kept (Coded-set coded_ℕ j k) (λ ok. ok.lists.distinct e j k v a b);
    entries = λ o j k d a b. ∥∥₁_elim kept (Coded-set coded_ℕ j k) (λ ok. ok.once o j k d a b);
  }

  -- an object is in no end without an opposite that is not among its entries
  pub alone_absent : (e : End) (o : ObjectNo) → ((cells t).pairing e).opposite ≡ None → position (same_end e) ((cells t).entered (node.Object o)) ≡ None → HasValue ((cells t).vals e) (value.Object o) → ⊥
  alone_absent e o q none at = ∥∥₁_elim kept (λ x y. absurd x) (λ ok.
      let b = has_end_at ((cells t).entered (node.Object o)) e ((ok.entered o e).1 (q, at)) in
      end_lacks ((cells t).entered (node.Object o)) e b.0 none b.1)

  -- if the opposite end of an object lacks the node, the object is not in the end
  pub far_absent : (e : End) (o : ObjectNo) (g : FeatureNo) → ((cells t).pairing e).opposite ≡ Some g → position (same_value (node_value e.node)) ((cells t).vals (far_end o g)) ≡ None → HasValue ((cells t).vals e) (value.Object o) → ⊥
  far_absent e o g q none at = ∥∥₁_elim kept (λ x y. absurd x) (λ ok.
      let b = (ok.lists.mutual_ e at.0 o g at.1 q).back in
      position_lacks ((cells t).vals (far_end o g)) (node_value e.node) b.0 none b.1)

---------------------------------------------------------------- no links

no_lists : AreLists no_cells []
no_lists = record {
  keys = λ e k v h. absurd (none-some v h);
  references = λ e k v h. absurd (none-some v h);
  mutual_ = λ e k o g h q. absurd (none-some (value.Object o) h);
  distinct = λ e j k v h i. absurd (none-some v h);
  few = λ e. omega arith;
}

none_kept : IsKept no_cells []
none_kept = record {
  lists = no_lists;
  held = none_legal.held;
  holds = λ n. sym (none_holder n);
  entered = λ o e. (λ h. absurd (false≢true h), λ h. absurd (none-some (value.Object o) h.1.1));
  once = λ o j k d h i. absurd (none-some d h);
}

module _ (t : NodeSlots) (none : cells t ≡ no_cells) (no_ends : ends_of t ≡ []) where
  pub empty_kept : IsStore t
  empty_kept = subst (λ (c : Cells). IsKept c (ends_of t)) (sym none) (subst (λ (es : List End). IsKept no_cells es) (sym no_ends) none_kept)

  pub empty_links : store_links t ≡ no_links
  unfolding store_links
  empty_links = λ i. cell_links (none i) (no_ends i)
