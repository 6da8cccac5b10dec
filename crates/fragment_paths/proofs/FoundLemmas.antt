-- An object in a resource has a path, which leads to it.
use Rattle.std.proofs.Common.{◌≡◌, ℕ, zero, suc, ◌<◌, true, List, [], ◌∷◌, ◌++◌, length, slice_get, Option, Some, None, option_map, arith, refl, sym, ap, ◌∙◌, subst}
use Rattle.std.specs.Prelude.{option_and_then}
use Rattle.std.proofs.lemmas.Option.{none-some, same_Some}
use Rattle.mm_types.specs.declared.end.End.{End}
use Rattle.mm_types.specs.declared.numbers.Node.{Node}
use Rattle.mm_types.specs.declared.numbers.Node.TheVariants as node
use Rattle.mm_types.specs.declared.numbers.ObjectNo.{ObjectNo}
use Rattle.mm_types.specs.declared.numbers.ResourceNo.{ResourceNo}
use Rattle.links.specs.Holders.{above, holder}
use Rattle.models.specs.Legal.{IsLegal}
use Rattle.models.specs.Model.{Model, reading}
use Rattle.models.specs.Reading.{Reading, has_resource}
use Rattle.containment.specs.Above.{resource_of}
use Rattle.web_uris.specs.Paths.{AreWritten, IsWritable, IsWritten, new_path, with_step}
use Rattle.web_uris.specs.declared.path.Path.{Path}
use Rattle.web_uris.specs.declared.path.Step.{Step}
use Rattle.fragment_paths.specs.Finding.{find, object_after_step, object_after_steps, roots}
use Rattle.fragment_paths.specs.Fragments.{has_one_root, path_of, position_in, step_into}
use Rattle.fragment_paths.proofs.HeldLemmas.{held, held-root, one-root, root-found, step-found, step-written}
use Rattle.fragment_paths.proofs.UpLemmas.{locate-falls, path-part, path-root, resource-none, resource-part, resource-root}

---------------------------------------------------------------- one step more

object_after_steps-none : (r : Reading) (x : Option ObjectNo) → option_and_then (object_after_steps r []) x ≡ x
object_after_steps-none r None = refl
object_after_steps-none r (Some o) = refl

object_after_steps-append : (r : Reading) (ss : List Step) (t : Step) (o : ObjectNo) → object_after_steps r (ss ++ t ∷ []) o ≡ option_and_then (λ p. object_after_step r p t) (object_after_steps r ss o)
object_after_steps-append r [] t o = object_after_steps-none r (object_after_step r o t)
object_after_steps-append r (s ∷ ss) t o =
    elim (object_after_step r o s) as (λ x. option_and_then (object_after_steps r (ss ++ t ∷ [])) x ≡ option_and_then (λ p. object_after_step r p t) (option_and_then (object_after_steps r ss) x)) [
      | None ↦ refl
      | Some p ↦ object_after_steps-append r ss t p
    ]

find-step : (r : Reading) (k : ResourceNo) (q : Path) (t : Step) → find r k (with_step q t) ≡ option_and_then (λ p. object_after_step r p t) (find r k q)
find-step r k q t =
    elim (slice_get (roots r k) q.root) as (λ x. option_and_then (object_after_steps r (q.steps ++ t ∷ [])) x ≡ option_and_then (λ p. object_after_step r p t) (option_and_then (object_after_steps r q.steps) x)) [
      | None ↦ refl
      | Some o ↦ object_after_steps-append r q.steps t o
    ]

written-more : (ss : List Step) (t : Step) → AreWritten ss → IsWritten t → AreWritten (ss ++ t ∷ [])
written-more [] t all more = (more, tt)
written-more (s ∷ ss) t all more = (all.0, written-more ss t all.1 more)

---------------------------------------------------------------- up to the resource

-- the object has a path in the resource, which leads to it and can be written
pub record IsLocated (s : Model) (o : ObjectNo) (k : ResourceNo) : Type 0 where
  pub path : Path
  pub is : path_of (reading s) o ≡ Some path
  pub finds : find (reading s) k path ≡ Some o
  pub writable : IsWritable path
  pub first : has_one_root (reading s) k ≡ true → path.root ≡ 0
  pub there : has_resource (reading s) k ≡ true

module _ (s : Model) (legal : IsLegal s) where
  root-located : (o : ObjectNo) (e : End) (k : ResourceNo) → holder s.links (node.Object o) ≡ Some e → e.node ≡ node.Resource k → IsLocated s o k
  root-located o e k h is =
      let at = held s legal o e h in
      let low = at.low in
      let few = at.few in
      record {
        path = new_path (position_in (reading s) e o) [];
        is = path-root s legal o e k h is;
        finds = ap (option_and_then (object_after_steps (reading s) [])) (root-found s legal o e k at is);
        writable = record { root = omega arith; steps = tt };
        first = λ one. one-root s legal o e k at is one;
        there = (held-root s legal o e k at is).1;
      }

  part-located : (o : ObjectNo) (e : End) (p : ObjectNo) (k : ResourceNo) → holder s.links (node.Object o) ≡ Some e → e.node ≡ node.Object p → IsLocated s p k → IsLocated s o k
  part-located o e p k h is up =
      let at = held s legal o e h in
      let t = step_into (reading s) e o in
      record {
        path = with_step up.path t;
        is = path-part s legal o e p h is ∙ ap (option_map (λ q. with_step q t)) up.is;
        finds = find-step (reading s) k up.path t ∙ ap (option_and_then (λ x. object_after_step (reading s) x t)) up.finds ∙ step-found s legal o e p at is;
        writable = record { root = up.writable.root; steps = written-more up.path.steps t up.writable.steps (step-written s legal o e p at is) };
        first = up.first;
        there = up.there;
      }

  by-holder : (o : ObjectNo) (e : End) (k : ResourceNo) → holder s.links (node.Object o) ≡ Some e → resource_of (reading s).above o ≡ Some k → ((p : ObjectNo) → e.node ≡ node.Object p → IsLocated s p k) → IsLocated s o k
  by-holder o e k h inside up = by e.node refl
    where
      by : (n : Node) → e.node ≡ n → IsLocated s o k
      by (node.Object p) is = part-located o e p k h is (up p is)
      by (node.Resource j) is = subst (λ (x : ResourceNo). IsLocated s o x) (same_Some j k (sym (resource-root s legal o e j h is) ∙ inside)) (root-located o e j h is)

  located-in : (n : ℕ) (o : ObjectNo) (k : ResourceNo) → length (above s.links (node.Object o)) < n → resource_of (reading s).above o ≡ Some k → IsLocated s o k
  located-in zero o k low inside = absurd (omega arith)
  located-in (suc n) o k low inside =
      elim (holder s.links (node.Object o)) as (λ x. holder s.links (node.Object o) ≡ x → IsLocated s o k) [
        | None ↦ λ none. absurd (none-some k (sym (resource-none s legal o none) ∙ inside))
        | Some e ↦ λ h. by-holder o e k h inside (λ p is.
            let less = locate-falls s legal o e p (sym h) is in
            located-in n p k (omega (arith, less, low)) (sym (resource-part s legal o e p h is) ∙ inside))
      ] refl

  pub located-object : (o : ObjectNo) (k : ResourceNo) → resource_of (reading s).above o ≡ Some k → IsLocated s o k
  located-object o k inside = located-in (suc (length (above s.links (node.Object o)))) o k (omega arith) inside
