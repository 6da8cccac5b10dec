-- A part and the objects above it are at most as many as the objects that were made, since each was made and none is met twice.
use Rattle.std.proofs.Common.{◌≡◌, ℕ, zero, suc, ◌<◌, ◌≤◌, Bool, true, false, ◌||◌, eqb, length, List, [], ◌∷◌, Option, Some, None, refl, sym, ap, ◌∙◌, subst, inl, inr, arith}
use Rattle.std.specs.List.{AllByRecursion, IsDistinct, list_any}
use Rattle.std.specs.Option.{option_map_or}
use Rattle.std.proofs.lemmas.Bool.{eqb-true, false≢true, or_cases}
use Rattle.std.proofs.lemmas.Map.Steps.{length-le_from_distinct_below}
use Rattle.mm_types.specs.Same.{node_value, same_node}
use Rattle.mm_types.specs.declared.end.End.{End}
use Rattle.mm_types.specs.declared.numbers.ObjectNo.{ObjectNo}
use Rattle.mm_types.specs.declared.numbers.Node.{Node}
use Rattle.mm_types.specs.declared.numbers.Node.TheVariants as node
use Rattle.links.proofs.AboveLemmas.{above_held, above_is, not_above_itself}
use Rattle.links.proofs.HolderLemmas.{holder-some, indexed_held}
use Rattle.links.specs.Holders.{above, holder}
use Rattle.models.specs.Legal.{IsLegal}
use Rattle.models.specs.Model.{Model}
use Rattle.containment.proofs.PartLemmas.{IsMade, IsPart, end-made}

-- the numbers of the objects among nodes
abbrev pub numbers : List Node → List ℕ
numbers [] = []
numbers (node.Object o ∷ ns) = o.0 ∷ numbers ns
numbers (node.Resource k ∷ ns) = numbers ns

-- an object that is not among others has another number
other-numbers : (o : ObjectNo) (ys : List Node) → list_any (same_node (node.Object o)) ys ≡ false → AllByRecursion (λ q. eqb o.0 q ≡ false) (numbers ys)
other-numbers o [] h = tt
other-numbers o (node.Object p ∷ ys) h = (
  not_here (eqb o.0 p.0) (list_any (same_node (node.Object o)) ys) h,
  other-numbers o ys (not_later (eqb o.0 p.0) (list_any (same_node (node.Object o)) ys) h),
)
  where
    not_here : (a b : Bool) → (a || b) ≡ false → a ≡ false
    not_here true b q = absurd (false≢true (sym q))
    not_here false b q = refl

    not_later : (a b : Bool) → (a || b) ≡ false → b ≡ false
    not_later true b q = absurd (false≢true (sym q))
    not_later false b q = q
other-numbers o (node.Resource k ∷ ys) h = other-numbers o ys h

numbers-below : (s : Model) (ys : List Node) → AllByRecursion (IsMade s) ys → (q : ℕ) → list_any (eqb q) (numbers ys) ≡ true → q < length s.values.objects
numbers-below s [] all q h = absurd (false≢true h)
numbers-below s (node.Object o ∷ ys) all q h = elim (or_cases (eqb q o.0) (list_any (eqb q) (numbers ys)) h) [
  | inl here ↦ subst (λ (k : ℕ). k < length s.values.objects) (sym (eqb-true q o.0 here)) all.0
  | inr later ↦ numbers-below s ys all.1 q later
]
numbers-below s (node.Resource k ∷ ys) all q h = numbers-below s ys all.1 q h

-- nodes whose objects were made, none of them twice
record IsChain (s : Model) (ns : List Node) : Type 0 where
  made : AllByRecursion (IsMade s) ns
  apart : IsDistinct eqb (numbers ns)

chain-bounded : (s : Model) (ns : List Node) → IsChain s ns → length (numbers ns) ≤ length s.values.objects
chain-bounded s ns chain = length-le_from_distinct_below (numbers ns) (length s.values.objects) chain.apart (numbers-below s ns chain.made)

module _ (s : Model) (legal : IsLegal s) where
  holder-made : (n : Node) (e : End) → holder s.links n ≡ Some e → IsMade s e.node
  holder-made n e h =
      let l = holder-some s.links n e h in
      let at = indexed_held l.0 n e (legal.links.set.placed.sides l.0 l.1) l.2 in
      end-made s e at.0 (node_value n) legal ((legal.links.set.placed.ends e).has at.0 (node_value n) (l.0, l.1, at.1))

  longer : (x : Node) → IsMade s x → IsChain s (above s.links x) → IsChain s (x ∷ above s.links x)
  unfolding IsDistinct
  longer (node.Object o) made chain = record {
    made = (made, chain.made);
    apart = (other-numbers o (above s.links (node.Object o)) (not_above_itself s.links legal.links.set legal.links.forest (node.Object o)), chain.apart);
  }
  longer (node.Resource k) made chain = record { made = (made, chain.made); apart = chain.apart }

  none-above : (x : Node) → holder s.links x ≡ None → IsChain s (above s.links x)
  unfolding IsDistinct
  none-above x h =
      let none = above_is s.links legal.links.set legal.links.forest x ∙ ap (λ (o : Option End). option_map_or (λ (e : End). e.node ∷ above s.links e.node) o []) h in
      subst (λ ns. IsChain s ns) (sym none) (record { made = tt; apart = tt })

  one-above : (x : Node) (e : End) → holder s.links x ≡ Some e → length (above s.links x) ≡ suc (length (above s.links e.node))
  one-above x e h = ap length (above_held s.links legal.links.set legal.links.forest x e h)

  above-chain : (k : ℕ) (x : Node) → length (above s.links x) ≤ k → IsChain s (above s.links x)
  above-chain zero x le =
      elim (holder s.links x) as (λ o. holder s.links x ≡ o → IsChain s (above s.links x)) [
        | None ↦ λ h. none-above x h
        | Some e ↦ λ h. absurd (omega (arith, one-above x e h, le))
      ] refl
  above-chain (suc k) x le =
      elim (holder s.links x) as (λ o. holder s.links x ≡ o → IsChain s (above s.links x)) [
        | None ↦ λ h. none-above x h
        | Some e ↦ λ h.
            let rest = above-chain k e.node (omega (arith, one-above x e h, le)) in
            subst (λ ns. IsChain s ns) (sym (above_held s.links legal.links.set legal.links.forest x e h)) (longer e.node (holder-made x e h) rest)
      ] refl

  -- a part has fewer objects above it than were made
  pub part-depth : (n : Node) (c : ObjectNo) → IsPart s n c → length (numbers (above s.links (node.Object c))) < length s.values.objects
  part-depth n c part =
      let x = node.Object c in
      let few = chain-bounded s (x ∷ above s.links x) (longer x part.made (above-chain (length (above s.links x)) x (omega arith))) in
      omega (arith, few)
