-- The nodes above a node after one step up.
use Rattle.std.proofs.Common.{◌≡◌, suc, ◌<◌, Bool, true, false, ◌||◌, [], ◌∷◌, length, Option, option_map, unwrap_or, is_some, Some, None, refl, sym, ap, ◌∙◌, arith}
use Rattle.std.specs.List.{last_or, list_any}
use Rattle.std.specs.Option.{option_map_or}
use Rattle.std.proofs.lemmas.Bool.{true≢false}
use Rattle.std.proofs.lemmas.Option.{none-some, same_Some}
use Rattle.mm_types.specs.Same.{same_node}
use Rattle.mm_types.specs.declared.end.End.{End}
use Rattle.mm_types.specs.declared.numbers.Node.{Node}
use Rattle.mm_types.specs.declared.numbers.Node.TheVariants as node
use Rattle.mm_types.specs.declared.numbers.ResourceNo.{ResourceNo}
use Rattle.containment.specs.Above.{root_of}
use Rattle.links.proofs.AboveLemmas.{above_is, resource_top}
use Rattle.links.specs.Holders.{HasNoCycle, above, holder}
use Rattle.links.specs.LegalSets.{IsLegalSet}
use Rattle.links.specs.Links.{Links}

-- the node that contains a node
abbrev pub parent : Links → Node → Option Node
parent s x = option_map (λ (e : End). e.node) (holder s x)

pub parent-resource : (s : Links) (x : Node) (r : ResourceNo) → IsLegalSet s → x ≡ node.Resource r → None ≡ parent s x
parent-resource s x r legal is = sym (ap (parent s) is ∙ ap (option_map (λ (e : End). e.node)) (resource_top s r legal))

pub above-parent : (s : Links) (x y : Node) → IsLegalSet s → HasNoCycle s → Some y ≡ parent s x → above s x ≡ y ∷ above s y
above-parent s x y legal free h =
    above_is s legal free x
    ∙ elim (holder s x) as (λ o. Some y ≡ option_map (λ (e : End). e.node) o → option_map_or (λ (e : End). e.node ∷ above s e.node) o [] ≡ y ∷ above s y) [
      | None ↦ λ q. absurd (none-some y (sym q))
      | Some e ↦ λ q. ap (λ (n : Node). n ∷ above s n) (same_Some e.node y (sym q))
    ] h

pub above-root : (s : Links) (x : Node) → IsLegalSet s → HasNoCycle s → None ≡ parent s x → above s x ≡ []
above-root s x legal free h =
    above_is s legal free x
    ∙ elim (holder s x) as (λ o. None ≡ option_map (λ (e : End). e.node) o → option_map_or (λ (e : End). e.node ∷ above s e.node) o [] ≡ []) [
      | None ↦ λ q. refl
      | Some e ↦ λ q. absurd (none-some e.node q)
    ] h

-- after each step up fewer nodes are above
pub fewer_above : (s : Links) (x y : Node) → IsLegalSet s → HasNoCycle s → Some y ≡ parent s x → length (above s y) < length (above s x)
fewer_above s x y legal free h = let one : length (above s x) ≡ suc (length (above s y)) = ap length (above-parent s x y legal free h) in omega (arith, one)

-- the next node up is above x; any other node is above x if it is above the next node
pub is_above-here : (s : Links) (x y z : Node) → IsLegalSet s → HasNoCycle s → Some y ≡ parent s x → same_node z y ≡ true → list_any (same_node z) (above s x) ≡ true
is_above-here s x y z legal free h same = ap (list_any (same_node z)) (above-parent s x y legal free h) ∙ ap (λ (b : Bool). b || list_any (same_node z) (above s y)) same

pub is_above-on : (s : Links) (x y z : Node) → IsLegalSet s → HasNoCycle s → Some y ≡ parent s x → same_node z y ≡ false → list_any (same_node z) (above s y) ≡ list_any (same_node z) (above s x)
is_above-on s x y z legal free h other = sym (ap (list_any (same_node z)) (above-parent s x y legal free h) ∙ ap (λ (b : Bool). b || list_any (same_node z) (above s y)) other)

pub is_above-root : (s : Links) (x z : Node) → IsLegalSet s → HasNoCycle s → None ≡ parent s x → list_any (same_node z) (above s x) ≡ false
is_above-root s x z legal free h = ap (list_any (same_node z)) (above-root s x legal free h)

none-of : (o : Option Node) → is_some o ≡ false → None ≡ o
none-of None h = refl
none-of (Some x) h = absurd (true≢false h)

-- the same if only the parent is read
pub is_above-top : (s : Links) (x z : Node) → IsLegalSet s → HasNoCycle s → is_some (parent s x) ≡ false → list_any (same_node z) (above s x) ≡ false
is_above-top s x z legal free h = is_above-root s x z legal free (none-of (parent s x) h)

-- the topmost node is the topmost node of the next one up
pub topmost-parent : (s : Links) (x y : Node) → IsLegalSet s → HasNoCycle s → Some y ≡ parent s x → last_or (Some x) (above s x) ≡ last_or (Some y) (above s y)
topmost-parent s x y legal free h = ap (last_or (Some x)) (above-parent s x y legal free h)

pub topmost-root : (s : Links) (x : Node) → IsLegalSet s → HasNoCycle s → None ≡ parent s x → last_or (Some x) (above s x) ≡ Some x
topmost-root s x legal free h = ap (last_or (Some x)) (above-root s x legal free h)

pub root_is : (s : Links) (x y : Node) → Some y ≡ last_or (Some x) (above s x) → y ≡ root_of (above s) x
root_is s x y h = ap (λ (o : Option Node). unwrap_or o x) h
