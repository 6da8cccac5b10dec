-- The path up from an object to its resource, one holder after another.
use Rattle.std.proofs.Common.{◌≡◌, ◌<◌, length, arith, List, [], ◌∷◌, ◌++◌, reverse, Option, Some, None, option_map, append_assoc, refl, sym, ap, ◌∙◌}
use Rattle.std.specs.Prelude.{option_and_then, unwrap_or}
use Rattle.std.specs.List.{last_or}
use Rattle.std.specs.Option.{option_map_or}
use Rattle.std.proofs.lemmas.List.{reverse-append}
use Rattle.mm_types.specs.declared.end.End.{End}
use Rattle.mm_types.specs.declared.numbers.Node.{Node}
use Rattle.mm_types.specs.declared.numbers.Node.TheVariants as node
use Rattle.mm_types.specs.declared.numbers.ObjectNo.{ObjectNo}
use Rattle.mm_types.specs.declared.numbers.ResourceNo.{ResourceNo}
use Rattle.links.proofs.AboveLemmas.{above_held, above_is, resource_top}
use Rattle.links.specs.Holders.{above, holder}
use Rattle.models.specs.Legal.{IsLegal}
use Rattle.models.specs.Model.{Model, reading}
use Rattle.containment.specs.Above.{resource_of_node, resource_of}
use Rattle.web_uris.specs.Paths.{new_path, with_step}
use Rattle.web_uris.specs.declared.path.Path.{Path}
use Rattle.web_uris.specs.declared.path.Step.{Step}
use Rattle.fragment_paths.specs.Fragments.{path_of, path_under, position_in, step_into}
use Rattle.fragment_paths.specs.Located.{location_of, path_by}
use Rattle.fragment_paths.specs.declared.paths.Located.{Located}

-- a path with more steps, the last of which comes first in the list
abbrev pub with_steps : List Step → Path → Path
with_steps ss p = record p { steps = p.steps ++ reverse ss }

abbrev pub further : List Step → Located → Located
further ss x = record x { path = with_steps ss x.path }

module _ (s : Model) (legal : IsLegal s) where
  -- the nodes above an object that a node contains
  pub above-node : (o : ObjectNo) (e : End) (n : Node) → holder s.links (node.Object o) ≡ Some e → e.node ≡ n → above s.links (node.Object o) ≡ n ∷ above s.links n
  above-node o e n h is =
      above_held s.links legal.links.set legal.links.forest (node.Object o) e h ∙ ap (λ (m : Node). m ∷ above s.links m) is

  above-resource : (k : ResourceNo) → above s.links (node.Resource k) ≡ []
  above-resource k =
      above_is s.links legal.links.set legal.links.forest (node.Resource k)
      ∙ ap (λ (x : Option End). option_map_or (λ (e : End). e.node ∷ above s.links e.node) x []) (resource_top s.links k legal.links.set)

  above-none : (o : ObjectNo) → holder s.links (node.Object o) ≡ None → above s.links (node.Object o) ≡ []
  above-none o h =
      above_is s.links legal.links.set legal.links.forest (node.Object o)
      ∙ ap (λ (x : Option End). option_map_or (λ (e : End). e.node ∷ above s.links e.node) x []) h

  ---------------------------------------------------------------- resources

  pub resource-root : (o : ObjectNo) (e : End) (k : ResourceNo) → holder s.links (node.Object o) ≡ Some e → e.node ≡ node.Resource k → resource_of (reading s).above o ≡ Some k
  resource-root o e k h is =
      ap (λ (ns : List Node). resource_of_node (unwrap_or (last_or (Some (node.Object o)) ns) (node.Object o))) (above-node o e (node.Resource k) h is ∙ ap (λ (ns : List Node). node.Resource k ∷ ns) (above-resource k))

  last-is : (a b : Node) (n : Node) (ns : List Node) → unwrap_or (last_or (Some n) ns) a ≡ unwrap_or (last_or (Some n) ns) b
  last-is a b n [] = refl
  last-is a b n (m ∷ ms) = last-is a b m ms

  pub resource-part : (o : ObjectNo) (e : End) (p : ObjectNo) → holder s.links (node.Object o) ≡ Some e → e.node ≡ node.Object p → resource_of (reading s).above o ≡ resource_of (reading s).above p
  resource-part o e p h is =
      ap (λ (ns : List Node). resource_of_node (unwrap_or (last_or (Some (node.Object o)) ns) (node.Object o))) (above-node o e (node.Object p) h is)
      ∙ ap resource_of_node (last-is (node.Object o) (node.Object p) (node.Object p) (above s.links (node.Object p)))

  pub resource-none : (o : ObjectNo) → holder s.links (node.Object o) ≡ None → resource_of (reading s).above o ≡ None
  resource-none o h = ap (λ (ns : List Node). resource_of_node (unwrap_or (last_or (Some (node.Object o)) ns) (node.Object o))) (above-none o h)

  ---------------------------------------------------------------- paths

  pub path-root : (o : ObjectNo) (e : End) (k : ResourceNo) → holder s.links (node.Object o) ≡ Some e → e.node ≡ node.Resource k → path_of (reading s) o ≡ Some (new_path (position_in (reading s) e o) [])
  path-root o e k h is =
      ap (λ (ns : List Node). path_under (reading s) ns o) (above-node o e (node.Resource k) h is)
      ∙ ap (option_map (λ (d : End). new_path (position_in (reading s) d o) [])) h

  pub path-part : (o : ObjectNo) (e : End) (p : ObjectNo) → holder s.links (node.Object o) ≡ Some e → e.node ≡ node.Object p
      → path_of (reading s) o ≡ option_map (λ q. with_step q (step_into (reading s) e o)) (path_of (reading s) p)
  path-part o e p h is =
      ap (λ (ns : List Node). path_under (reading s) ns o) (above-node o e (node.Object p) h is)
      ∙ ap (option_and_then (λ (d : End). option_map (λ q. with_step q (step_into (reading s) d o)) (path_of (reading s) p))) h

  ---------------------------------------------------------------- both

  -- if a resource contains the object, the path ends
  pub locate-root : (o : ObjectNo) (e : End) (k : ResourceNo) (ss : List Step) (all : Option Located) → Some e ≡ holder s.links (node.Object o) → e.node ≡ node.Resource k
      → option_map (further ss) (location_of (reading s) o) ≡ all → Some (record { resource = k; path = path_by (reading s) e o ss }) ≡ all
  locate-root o e k ss all h is whole =
      sym (ap (λ (x : Option ResourceNo). option_map (further ss) (option_and_then (λ j. option_map (λ p. record { resource = j; path = p }) (path_of (reading s) o)) x)) (resource-root o e k (sym h) is)
      ∙ ap (λ (x : Option Path). option_map (further ss) (option_map (λ p. record { resource = k; path = p }) x)) (path-root o e k (sym h) is)) ∙ whole

  -- if another object contains it, the path goes on from there
  further-by : (x : Option ResourceNo) (q : Option Path) (t : Step) (ss : List Step)
      → option_map (further (ss ++ t ∷ [])) (option_and_then (λ j. option_map (λ p. record { resource = j; path = p }) q) x)
      ≡ option_map (further ss) (option_and_then (λ j. option_map (λ p. record { resource = j; path = p }) (option_map (λ p. with_step p t) q)) x)
  further-by None q t ss = refl
  further-by (Some k) None t ss = refl
  further-by (Some k) (Some p) t ss =
      let steps : p.steps ++ reverse (ss ++ t ∷ []) ≡ (p.steps ++ t ∷ []) ++ reverse ss = ap (λ (ts : List Step). p.steps ++ ts) (reverse-append ss (t ∷ [])) ∙ sym (append_assoc p.steps (t ∷ []) (reverse ss)) in
      λ i. Some (record { resource = k; path = new_path p.root (steps i) })

  pub locate-part : (o : ObjectNo) (e : End) (p : ObjectNo) (ss new : List Step) (all : Option Located) → Some e ≡ holder s.links (node.Object o) → e.node ≡ node.Object p
      → new ≡ ss ++ step_into (reading s) e o ∷ [] → option_map (further ss) (location_of (reading s) o) ≡ all → option_map (further new) (location_of (reading s) p) ≡ all
  locate-part o e p ss new all h is pushed whole =
      let r = reading s in
      ap (λ (ts : List Step). option_map (further ts) (location_of r p)) pushed
      ∙ further-by (resource_of r.above p) (path_of r p) (step_into r e o) ss
      ∙ sym (ap (λ (x : Option ResourceNo). option_map (further ss) (option_and_then (λ j. option_map (λ q. record { resource = j; path = q }) (path_of r o)) x)) (resource-part o e p (sym h) is)
      ∙ ap (λ (x : Option Path). option_map (further ss) (option_and_then (λ j. option_map (λ q. record { resource = j; path = q }) x) (resource_of r.above p))) (path-part o e p (sym h) is))
      ∙ whole

  pub locate-none : (o : ObjectNo) (ss : List Step) (all : Option Located) → None ≡ holder s.links (node.Object o) → option_map (further ss) (location_of (reading s) o) ≡ all → None ≡ all
  locate-none o ss all h whole =
      sym (ap (λ (x : Option ResourceNo). option_map (further ss) (option_and_then (λ j. option_map (λ p. record { resource = j; path = p }) (path_of (reading s) o)) x)) (resource-none o (sym h))) ∙ whole

  -- each step is nearer to the top
  pub locate-falls : (o : ObjectNo) (e : End) (p : ObjectNo) → Some e ≡ holder s.links (node.Object o) → e.node ≡ node.Object p → length (above s.links (node.Object p)) < length (above s.links (node.Object o))
  locate-falls o e p h is = let one = ap (λ (ns : List Node). length ns) (above-node o e (node.Object p) (sym h) is) in omega (arith, one)
