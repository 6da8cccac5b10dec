-- The proxies of a model are resolved one after another. The target of each proxy is found by a table that was made of all proxies
-- beforehand (`FirstLeads`), and by sets that record what was resolved so far (`Progress`).
use Rattle.std.specs.Prelude.{◌≡◌, ◌&&◌, ◌||◌, Bool, false, not, List, [], ◌∷◌, ◌++◌, map, Option, Some, None, option_and_then, option_map, if◌then◌else◌}
use Rattle.std.specs.Option.{option_map_or}
use Rattle.mm_types.specs.Ends.{has_value}
use Rattle.mm_types.specs.declared.end.End.{End}
use Rattle.mm_types.specs.declared.numbers.FeatureNo.{FeatureNo}
use Rattle.mm_types.specs.declared.numbers.Node.TheVariants as node
use Rattle.mm_types.specs.declared.numbers.ObjectNo.{ObjectNo}
use Rattle.mm_types.specs.declared.value.Value.{Value}
use Rattle.mm_types.specs.declared.value.Value.TheVariants as value
use Rattle.models.specs.Reading.{Reading, at_end}
use Rattle.links.specs.declared.plan.Edit.{Edit}
use Rattle.handshake.specs.Displaced.{link_ends_joined}
use Rattle.handshake.specs.Edits.{cut_of, joining_edits}
use Rattle.handshake.specs.FeatureChanges.{changes_of_resolve}
use Rattle.handshake.specs.declared.change_kind.FeatureChange.{FeatureChange}
use Rattle.proxies.specs.Keys.{has, key_of}
use Rattle.models.specs.ReferenceKeys.{reference_key, same_reference_key}
use Rattle.proxies.specs.Leads.{index_at}
use Rattle.proxies.specs.Proxies.{end_of, is_proxy_site, sites}
use Rattle.proxies.specs.Refusals.{is_mistyped, is_there_already}
use Rattle.proxies.specs.Resolving.{is_unmatched, opposite_end}
use Rattle.proxies.specs.ResolvingAll.{Resolution, resolutions, values_left}
use Rattle.change_plans.specs.declared.joining.Joint.{Joint}
use Rattle.change_plans.specs.declared.joining.Progress.{Progress}
use Rattle.models.specs.declared.reference_key.ReferenceKey.{ReferenceKey}
use Rattle.proxies.specs.declared.lead.FirstLeads.{FirstLeads}
use Rattle.proxies.specs.declared.lead.Lead.{Lead}
use Rattle.proxies.specs.declared.site.ProxySite.{ProxySite}
use Rattle.proxies.specs.declared.resolved_proxy.Counterpart.{Counterpart}
use Rattle.proxies.specs.declared.resolved_proxy.ResolvedProxy.{ResolvedProxy}

---------------------------------------------------------------- what a proxy is resolved to

-- the counterpart of the proxy at p; o is the object at the address of this proxy, and t is a table of all proxies. The counterpart is the
-- first proxy at the opposite end that leads back to the referring object. None if no proxy there leads back, or if the reference has no
-- opposite
abbrev pub counterpart_by : Reading → FirstLeads → ProxySite → ObjectNo → Option Counterpart
counterpart_by r t p o =
    option_and_then (λ d. option_map (λ j. record { end = d; index = j }) (index_at t (reference_key o d.feature p.object.0))) (opposite_end r (end_of p) o)

abbrev pub is_refused : Reading → Progress → ProxySite → ResolvedProxy → Bool
is_refused r g p x =
    let e = end_of p in
    has g.gone (key_of p) || (is_mistyped r e (Some x) || (is_there_already r e (Some x) || (has g.linked (reference_key p.object p.feature x.object.0) || is_unmatched r e x)))

abbrev pub found_by : Reading → FirstLeads → ProxySite → ObjectNo → ResolvedProxy
found_by r t p o = record { object = o; counterpart = counterpart_by r t p o }

abbrev pub unless_refused : Reading → Progress → ProxySite → ResolvedProxy → Option ResolvedProxy
unless_refused r g p x = if is_refused r g p x then None else Some x

abbrev pub target_by : Reading → Progress → FirstLeads → Lead → Option ResolvedProxy
target_by r g t x = option_and_then (λ o. unless_refused r g x.site (found_by r t x.site o)) x.object

---------------------------------------------------------------- what is known afterwards

abbrev pub joint : ProxySite → ResolvedProxy → Joint
joint p x = record { site = p; target = x }

-- A resolve of the proxy at p, with the target x and the counterpart c, replaces c by the referring object. `is_far_site`: whether k is the
-- key of the location of c. `is_far_link`: whether k is the key of the reference that has c, with the number of the referring object
abbrev pub is_far_site : ResolvedProxy → Counterpart → ReferenceKey → Bool
is_far_site x c k = same_reference_key k (reference_key x.object c.end.feature c.index)

abbrev pub is_far_link : ProxySite → ResolvedProxy → Counterpart → ReferenceKey → Bool
is_far_link p x c k = same_reference_key k (reference_key x.object c.end.feature p.object.0)

abbrev pub of_far : ResolvedProxy → (Counterpart → Bool) → Bool
of_far x holds = option_map_or holds x.counterpart false

pub record Adds (g h : Progress) (p : ProxySite) (x : ResolvedProxy) : Type 0 where
  pub joints : h.joints.items ≡ g.joints.items ++ joint p x ∷ []
  pub gone : (k : ReferenceKey) → has h.gone k ≡ ((has g.gone k || same_reference_key k (key_of p)) || of_far x (λ c. is_far_site x c k))
  pub linked : (k : ReferenceKey) → has h.linked k ≡ ((has g.linked k || same_reference_key k (reference_key p.object p.feature x.object.0)) || of_far x (λ c. is_far_link p x c k))

abbrev pub Resolves : Progress → Progress → ProxySite → Option ResolvedProxy → Type 0
Resolves g h p None = h ≡ g
Resolves g h p (Some x) = Adds g h p x

pub record IsNothing (g : Progress) : Type 0 where
  pub joints : g.joints.items ≡ []
  pub gone : (k : ReferenceKey) → has g.gone k ≡ false
  pub linked : (k : ReferenceKey) → has g.linked k ≡ false

---------------------------------------------------------------- all proxies

abbrev pub joint_of : Resolution → Joint
joint_of y = joint y.site y.target

-- the edits that resolve one proxy; and `told_by`, the feature changes of this resolve
abbrev pub edits_by : Reading → Joint → List Edit
edits_by r j =
    let e = end_of j.site in
    map cut_of (link_ends_joined r e j.site.index j.target) ++ joining_edits r e j.site.index j.target

abbrev pub told_by : Joint → List FeatureChange
told_by j = changes_of_resolve (end_of j.site) j.site.index j.target

-- g is what is known after the proxies `js` were resolved, and `ends` has the values of each end then. By then a proxy of r has been
-- replaced exactly if its location is in `gone`. A reference has an object as a value in `ends` exactly in two cases: it had this object
-- before the first resolve, or `linked` has the key of the reference and the object
pub record IsKnown (r : Reading) (js : List Joint) (ends : End → List Value) (g : Progress) : Type 0 where
  pub joints : g.joints.items ≡ js
  pub gone : (p : ProxySite) → is_proxy_site (record r { values = ends }) p ≡ (is_proxy_site r p && not (has g.gone (key_of p)))
  pub linked : (o : ObjectNo) (f : FeatureNo) (b : ObjectNo) → (let e = at_end (node.Object o) f in
      has_value (ends e) (value.Object b) ≡ (has_value (r.values e) (value.Object b) || has g.linked (reference_key o f b.0)))

-- g is what is known after the locations `ps` were gone through in order: each proxy was resolved, or skipped if its resolve is refused
abbrev pub IsProgress : Reading → List ProxySite → Progress → Type 0
IsProgress r ps g = IsKnown r (map joint_of (resolutions r ps)) (values_left r ps) g

abbrev pub IsDone : Reading → Progress → Type 0
IsDone r g = IsProgress r (sites r) g
