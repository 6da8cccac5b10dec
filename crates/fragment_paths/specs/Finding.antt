-- The object at a fragment in a resource (EMF: Resource.getEObject), and the object at an address (ResourceSet.getEObject).
use Rattle.std.specs.Prelude.{ℕ, ◌&&◌, Bool, not, List, [], ◌∷◌, slice_get, Option, Some, None, is_some, option_and_then, unwrap_or, if◌then◌else◌}
use Rattle.mm_types.specs.Lookups as lookups
use Rattle.mm_types.specs.Shapes.{is_containment, shape}
use Rattle.mm_types.specs.declared.numbers.FeatureNo.{FeatureNo}
use Rattle.mm_types.specs.declared.numbers.ObjectNo.{ObjectNo}
use Rattle.mm_types.specs.declared.numbers.ResourceNo.{ResourceNo}
use Rattle.mm_types.specs.declared.numbers.Node.TheVariants as node
use Rattle.models.specs.Reading.{Reading, at_end, objects_of, resource_named, roots_end}
use Rattle.web_uris.specs.Addresses.{fragment_part, has_mark, uri_part}
use Rattle.web_uris.specs.Paths.{parse}
use Rattle.web_uris.specs.declared.path.Path.{Path}
use Rattle.web_uris.specs.declared.path.Step.{Step}

-- the objects that a resource contains directly
abbrev pub roots : Reading → ResourceNo → List ObjectNo
roots r k = objects_of (r.values (roots_end r k))

-- whether a step leads through a feature: the feature is a containment, and the step has an index exactly if the feature is many-valued
abbrev pub goes_by : Reading → Step → FeatureNo → Bool
goes_by r s f = is_containment r.metamodel f && (if (shape r.metamodel f).is_single then not (is_some s.index) else is_some s.index)

-- the feature f, if a step leads through f
abbrev pub if_goes_by : Reading → Step → FeatureNo → Option FeatureNo
if_goes_by r s f = if goes_by r s f then Some f else None

-- the feature through which the step s leads from the object o: the feature of o's class that has the step's name. None if the class has no
-- feature with this name, or if s doesn't lead through the feature (`goes_by`)
abbrev pub feature_of : Reading → ObjectNo → Step → Option FeatureNo
feature_of r o s =
    option_and_then (λ c. option_and_then (if_goes_by r s) (lookups.feature_by_name r.metamodel c s.name)) (r.class o)

-- the object to which a step leads from object o
abbrev pub object_after_step : Reading → ObjectNo → Step → Option ObjectNo
object_after_step r o s =
    option_and_then (λ f. slice_get (objects_of (r.values (at_end (node.Object o) f))) (unwrap_or s.index 0)) (feature_of r o s)

abbrev pub object_after_steps : Reading → List Step → ObjectNo → Option ObjectNo
object_after_steps r [] o = Some o
object_after_steps r (s ∷ ss) o = option_and_then (object_after_steps r ss) (object_after_step r o s)

-- the object to which a path leads in a resource: the path names a root of the resource, and leads on from this root step by step
abbrev pub find : Reading → ResourceNo → Path → Option ObjectNo
find r k p = option_and_then (object_after_steps r p.steps) (slice_get (roots r k) p.root)

-- the object to which a fragment leads in a resource
abbrev pub found_by : Reading → ResourceNo → List ℕ → Option ObjectNo
found_by r k t = option_and_then (find r k) (parse t)

-- the object at an address: the text before the first `#` is the URI of the resource, and the text after the first `#` is the fragment.
-- None if there is no `#`, if no resource has the URI, or if the fragment leads to no object
abbrev pub at : Reading → List ℕ → Option ObjectNo
at r t =
    if has_mark t then option_and_then (λ k. found_by r k (fragment_part t)) (resource_named r (uri_part t)) else None
