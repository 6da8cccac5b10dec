-- The values of the end of a reference of a legal model.
use Rattle.std.proofs.Common.{◌≡◌, suc, true, false, ◌&&◌, List, [], ◌∷◌, Some, if◌then◌else◌, ap, ◌∙◌, arith}
use Rattle.std.specs.List.{IsDistinct, list_any}
use Rattle.std.proofs.lemmas.Bool.{false_from_ne_true, false≢true}
use Rattle.mm_types.specs.Same.{node_value, same_feature, same_value}
use Rattle.mm_types.specs.SameValues.{same_value-true}
use Rattle.mm_types.specs.Shapes.{shape}
use Rattle.mm_types.specs.declared.end.End.{End}
use Rattle.mm_types.specs.declared.numbers.Node.{Node}
use Rattle.mm_types.specs.declared.numbers.Node.TheVariants as node
use Rattle.mm_types.specs.declared.value.Value.{Value}
use Rattle.mm_types.specs.declared.value.Value.TheVariants as value
use Rattle.links.specs.LegalSets as sets
use Rattle.links.specs.LegalSets.{IsObject}
use Rattle.links.specs.Links.{end}
use Rattle.links.specs.Plans.{Has}
use Rattle.models.specs.Legal.{IsLegal}
use Rattle.models.specs.Model.{Model, reading}
use Rattle.models.specs.Reading.{all_features_of}
use Rattle.containment.proofs.MemberLemmas.{own-feature}
use Rattle.containment.proofs.PartLemmas.{legal-at, legal-reference}
use Rattle.removal.proofs.ListLemmas.{all-at}

-- an end that has a value is the end of a reference of its node
pub record IsOpen (s : Model) (e : End) : Type 0 where
  pub own : list_any (same_feature e.feature) (all_features_of (reading s) e.node) ≡ true
  pub reference : (shape s.metamodel e.feature).is_reference ≡ true

pub open-end : (s : Model) (e : End) (v : Value) → IsLegal s → Has s.links e v → IsOpen s e
open-end s e v legal at =
    let known = legal-at (reading s) e (end s.links e) at.0 v (legal.links.ends e) at.1 in
    record { own = own-feature (reading s) e.node e.feature known.0; reference = legal-reference (reading s) e.feature v known.1 }

-- a node that is in an end is an object
pub object-node : (s : Model) (e : End) (n : Node) → IsLegal s → Has s.links e (node_value n) → IsObject n
object-node s e (node.Object x) legal at = tt
object-node s e (node.Resource k) legal at = absurd (false≢true (legal-at (reading s) e (end s.links e) at.0 value.Null (legal.links.ends e) at.1).1)

-- no end has a value twice
pub values-distinct : (vs : List Value) → sets.IsDistinct vs → IsDistinct same_value vs
unfolding IsDistinct
values-distinct [] d = tt
values-distinct (v ∷ vs) d = (
  all-at (λ w. same_value v w ≡ false) vs (λ k w at. false_from_ne_true (same_value v w) (λ same. (let twice = d 0 (suc k) w (ap Some (same_value-true v w same)) at in omega (arith, twice)))),
  values-distinct vs (λ j k w a b. (let one = d (suc j) (suc k) w a b in omega (arith, one))),
)
