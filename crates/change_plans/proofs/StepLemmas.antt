-- What resolving a proxy reads in the model that the earlier ones left can be read in the model before all of them.
use Rattle.std.proofs.Common.{◌≡◌, inl, inr, ℕ, suc, ◌-◌, ◌&&◌, pos, arith, filter, Bool, true, false, not, List, [], ◌∷◌, ◌++◌, flat_map, map, Option, Some, None, length, option_map, option_to_list, slice_get, if◌then◌else◌, refl, sym, ap, ◌∙◌, subst}
use Rattle.std.specs.Prelude.{cond, unwrap_or}
use Rattle.std.specs.List.{AllByRecursion, range_with_len}
use Rattle.std.specs.Option.{option_map_or}
use Rattle.std.proofs.lemmas.List.{map-append}
use Rattle.std.proofs.lemmas.List.Elements.{filter-append}
use Rattle.std.proofs.lemmas.Option.{none-some, slice_get_within}
use Rattle.mm_types.specs.Ends.{is_set, shown_values, value_in}
use Rattle.mm_types.specs.Same.{is_nil, same_value}
use Rattle.mm_types.specs.Shapes.{Shape, shape}
use Rattle.mm_types.specs.declared.end.End.{End}
use Rattle.mm_types.specs.declared.value.Value.{Value}
use Rattle.mm_types.specs.declared.value.Value.TheVariants as value
use Rattle.links.specs.declared.plan.Edit.TheVariants.{Shift}
use Rattle.notice_chain.specs.Kinds.{no_index}
use Rattle.notice_chain.specs.declared.kind.NoticeKind.TheVariants as kind
use Rattle.notice_chain.specs.declared.notice.Notice.{Notice}
use Rattle.mm_types.specs.declared.numbers.ObjectNo.{ObjectNo}
use Rattle.mm_types.specs.declared.numbers.Node.TheVariants as node
use Rattle.models.specs.Legal.{IsLegal}
use Rattle.models.specs.Model.{Model, reading}
use Rattle.models.specs.Reading.{Reading, all_features_of, at_end, held_at}
use Rattle.removal.specs.TreeLinkEnds.{link_end}
use Rattle.handshake.specs.Displaced.{counter_link_end, link_end_in}
use Rattle.handshake.specs.Edits.{cut_of, edits_of, joining_edits, new_put}
use Rattle.handshake.specs.Effects.{with_resolution}
use Rattle.proxies.specs.Keys.{has, key_of}
use Rattle.proxies.specs.Proxies.{end_of, is_proxy_site, site, sites, sites_of, sites_under}
use Rattle.proxies.specs.ResolvingAll.{Resolution, left_by, resolutions, resolved_count, resolved_to, unresolved_count, values_left, with_resolved}
use Rattle.handshake.specs.FeatureChange.{ends_after_changes, notice_at, feature_change, change_notices}
use Rattle.handshake.specs.FeatureChanges.{changes_of_resolve, resolution_told}
use Rattle.change_plans.specs.Joining.{IsDone, edits_by, joint, joint_of, told_by}
use Rattle.handshake.specs.declared.change.Change.TheVariants.{At}
use Rattle.handshake.specs.declared.act.Act.TheVariants.{Resolve}
use Rattle.handshake.specs.declared.change_kind.ChangeKind.TheVariants.{Resolves}
use Rattle.change_plans.specs.declared.joining.Joint.{Joint}
use Rattle.change_plans.specs.declared.joining.Progress.{Progress}
use Rattle.proxies.specs.declared.site.ProxySite.{ProxySite}
use Rattle.proxies.specs.declared.resolved_proxy.Counterpart.{Counterpart}
use Rattle.proxies.specs.declared.resolved_proxy.ResolvedProxy.{ResolvedProxy}
use Rattle.handshake.proofs.ApartLemmas.{chain-read, change_notices-append}
use Rattle.handshake.proofs.CutEndLemmas.{reference-plain}
use Rattle.handshake.proofs.CutHeldLemmas.{all-left}
use Rattle.handshake.proofs.CutLinkEndLemmas.{values-linked}
use Rattle.change_plans.proofs.FollowLemmas.{Follows, IsSameOrLed, all-follow, object-apart}
use Rattle.handshake.proofs.HappenedLemmas.{ends_after_changes-at}
use Rattle.handshake.proofs.KnownLemmas.{far-reference, resolvable}
use Rattle.handshake.proofs.ResolveAllLemmas.{early, one-resolved, resolved-to}
use Rattle.handshake.proofs.ResolvedReadingLemmas.{with_links as relinked}
use Rattle.proxies.proofs.TargetLemmas.{found-is, match-is}
use Rattle.change_plans.proofs.UnderwayLemmas.{values-append}

---------------------------------------------------------------- where each is resolved

-- a proxy that is resolved in the model that some locations left
pub record IsStep (r : Reading) (y : Resolution) : Type 0 where
  pub past : List ProxySite
  pub is : y.reads ≡ left_by r past
  pub to : resolved_to (left_by r past) y.site ≡ Some y.target

pub all-steps : (r : Reading) (ps qs : List ProxySite) → AllByRecursion (IsStep r) (resolutions (left_by r qs) ps)
all-steps r [] qs = tt
all-steps r (p ∷ ps) qs =
    let now = left_by r qs in
    elim (resolved_to now p) as (λ q. resolved_to now p ≡ q → AllByRecursion (IsStep r) (option_map_or (λ x. record { reads = now; site = p; target = x } ∷ resolutions (with_resolved now p x) ps) q (resolutions now ps))) [
      | None ↦ λ _. all-steps r ps qs
      | Some x ↦ λ to.
          let next : left_by r (qs ++ p ∷ []) ≡ with_resolved now p x =
          ap (λ (ends : End → List Value). record r { values = ends }) (values-append r qs (p ∷ []))
          ∙ ap (λ (q : Option ResolvedProxy). record r { values = option_map_or (λ x. values_left (with_resolved now p x) []) q (values_left now []) }) to in (
            record { past = qs; is = refl; to = to },
            subst (λ (z : Reading). AllByRecursion (IsStep r) (resolutions z ps)) next (all-steps r ps (qs ++ p ∷ [])),
          )
    ] refl

-- if a function is the same for each, it is the same for all
pub flat-same : {X : Type 0} (P : Resolution → Type 0) (f : Resolution → List X) (g : Joint → List X) → ((y : Resolution) → P y → f y ≡ g (joint_of y)) → (ys : List Resolution) → AllByRecursion P ys
    → flat_map f ys ≡ flat_map g (map joint_of ys)
flat-same P f g same [] all = refl
flat-same P f g same (y ∷ ys) all = λ i. same y all.0 i ++ flat-same P f g same ys all.1 i

---------------------------------------------------------------- a proxy that is still

-- the proxy was at the same position before
slot-same : (r : Reading) (ends : End → List Value) → Follows r ends → (d : End) (j : ℕ) (t : List ℕ) → slice_get (ends d) j ≡ Some (value.Proxy t) → slice_get (r.values d) j ≡ Some (value.Proxy t)
slot-same r ends follows d j t at = by (follows.each d j)
  where
    by : IsSameOrLed r (slice_get (r.values d) j) (slice_get (ends d) j) → slice_get (r.values d) j ≡ Some (value.Proxy t)
    by (inl same) = sym same ∙ at
    by (inr x) = absurd (object-apart x.object t (sym x.is ∙ at))

module _ (s : Model) (legal : IsLegal s) (ps : List ProxySite) (p : ProxySite) (x : ResolvedProxy) (to : resolved_to (left_by (reading s) ps) p ≡ Some x) where
  abbrev r : Reading
  r = reading s

  abbrev now : Reading
  now = left_by (reading s) ps

  abbrev e : End
  e = end_of p

  follows : Follows (reading s) (values_left (reading s) ps)
  follows = all-follow ps s legal

  link_end-same : (d : End) (j : ℕ) (t : List ℕ) → slice_get (now.values d) j ≡ Some (value.Proxy t) → link_end_in now d j ≡ link_end_in r d j
  link_end-same d j t at = ap (λ (q : Option Value). option_to_list (option_map (link_end d) q)) (at ∙ sym (slot-same r (values_left r ps) follows d j t at))

  abbrev with : Option Counterpart → ResolvedProxy
  with q = record { object = x.object; counterpart = q }

  counter-same : (q : Option Counterpart) → x.counterpart ≡ q → counter_link_end now (with q) ≡ counter_link_end r (with q)
  counter-same None none = refl
  counter-same (Some c) there =
      let found = found-is now e p.index x (resolved-to now p x to).found in
      let match = match-is now e x.object c (sym found.matched ∙ there) in
      link_end-same c.end c.index match.text match.proxy

  joining_edits-same : (q : Option Counterpart) → joining_edits now e p.index (with q) ≡ joining_edits r e p.index (with q)
  joining_edits-same None = refl
  joining_edits-same (Some c) = ap (λ (n : ℕ). option_to_list (new_put r e p.index (value.Object x.object)) ++ Shift c.end c.index (n - 1) ∷ []) (follows.long c.end)

  edits-same : edits_of (record { reads = now; site = p; target = x }) ≡ edits_by r (joint p x)
  edits-same =
      let found = found-is now e p.index x (resolved-to now p x to).found in
      λ i. map cut_of (link_end-same e p.index found.text found.proxy i ++ counter-same x.counterpart refl i) ++ joining_edits-same x.counterpart i

  ---------------------------------------------------------------- notifications

  -- a position with a value shows this value
  shown_values-in : (b : Bool) (vs : List Value) (j : ℕ) (v : Value) → slice_get vs j ≡ Some v → shown_values b vs ≡ vs
  shown_values-in true [] j v at = absurd (none-some v at)
  shown_values-in true (w ∷ ws) j v at = refl
  shown_values-in false vs j v at = refl

  not-nil : (vs : List Value) (j : ℕ) (v : Value) → slice_get vs j ≡ Some v → is_nil vs ≡ false
  not-nil [] j v at = absurd (none-some v at)
  not-nil (w ∷ ws) j v at = refl

  -- an end that has a proxy is set
  set-same : (a : Shape) (vs ws : List Value) (j : ℕ) (t : List ℕ) (flag : Bool) → a.is_unsettable ≡ false → (a.is_single ≡ true → j ≡ 0) → slice_get vs j ≡ Some (value.Proxy t) → slice_get ws j ≡ Some (value.Proxy t)
      → is_set a (record { values = vs; flag = flag }) ≡ is_set a (record { values = ws; flag = flag })
  set-same a vs ws j t flag plain alone v w =
      elim a.is_single as (λ b. a.is_single ≡ b → (if b then (if a.is_unsettable then flag else not (same_value (value_in vs 0) a.default)) else not (is_nil vs)) ≡ (if b then (if a.is_unsettable then flag else not (same_value (value_in ws 0) a.default)) else not (is_nil ws))) [
        | true ↦ λ single.
            let first = ap (λ (k : ℕ). slice_get vs k) (sym (alone single)) ∙ v in
            let other = ap (λ (k : ℕ). slice_get ws k) (sym (alone single)) ∙ w in
            ap (λ (q : Option Value). if a.is_unsettable then flag else not (same_value (unwrap_or q value.Null) a.default)) (first ∙ sym other)
        | false ↦ λ _. ap not (not-nil vs j (value.Proxy t) v ∙ sym (not-nil ws j (value.Proxy t) w))
      ] refl

  -- a proxy that is resolved at a reference has the same notifications
  notice-same : (d : End) (j : ℕ) (t : List ℕ) (v : Value) → (shape s.metamodel d.feature).is_reference ≡ true → slice_get (now.values d) j ≡ Some (value.Proxy t) → notice_at now (feature_change d (Resolves j v)) ≡ notice_at r (feature_change d (Resolves j v))
  notice-same d j t v reference at =
      let a = shape s.metamodel d.feature in
      let was = slot-same r (values_left r ps) follows d j t at in
      let vs = shown_values-in a.is_single (now.values d) j (value.Proxy t) at in
      let ws = shown_values-in a.is_single (r.values d) j (value.Proxy t) was in
      let alone : a.is_single ≡ true → j ≡ 0 = λ single.
      let few = (all-left s legal).one d single in
      let long = ap (λ (xs : List Value). length xs) (values-linked s d reference) in
      let low = slice_get_within (r.values d) j (value.Proxy t) was in
      omega (arith, few, long, low) in
      let old = ap (λ (xs : List Value). value_in xs j) vs ∙ ap (λ (q : Option Value). unwrap_or q value.Null) (at ∙ sym was) ∙ sym (ap (λ (xs : List Value). value_in xs j) ws) in
      let set =
      ap (λ (xs : List Value). is_set a (record { values = xs; flag = r.flag d })) vs ∙ set-same a (now.values d) (r.values d) j t (r.flag d) (reference-plain s.metamodel d.feature reference).0 alone at was
      ∙ sym (ap (λ (xs : List Value). is_set a (record { values = xs; flag = r.flag d })) ws) in
      λ i. record {
        notifier = d.node;
        feature = Some d.feature;
        kind = kind.Resolve;
        old_value = old i;
        new_value = v;
        position = if a.is_single then no_index else pos j;
        was_set = set i;
      }

  told-same : map (notice_at now) (told_by (joint p x)) ≡ map (notice_at r) (told_by (joint p x))
  told-same =
      let resolves = resolved-to now p x to in
      let found = found-is now e p.index x resolves.found in
      let own = notice-same e p.index found.text (value.Object x.object) (resolvable now e p.index resolves.late).resolvable.reference found.proxy in
      elim x.counterpart as (λ q. x.counterpart ≡ q → map (notice_at now) (changes_of_resolve e p.index (with q)) ≡ map (notice_at r) (changes_of_resolve e p.index (with q))) [
        | None ↦ λ _. ap (λ (n : Notice). n ∷ []) own
        | Some c ↦ λ there.
            let match = match-is now e x.object c (sym found.matched ∙ there) in
            let reference = ap (λ (y : End). (shape s.metamodel y.feature).is_reference) match.stands ∙ far-reference s.metamodel legal.metamodel p.feature match.feature match.opposite in
            λ i. notice-same c.end c.index match.text (value.Object p.object) reference match.proxy i ∷ own i ∷ []
      ] refl

---------------------------------------------------------------- all of them

-- a step has the same edits in its own model and in the model before
edits-step : (s : Model) → IsLegal s → (y : Resolution) → IsStep (reading s) y → edits_of y ≡ edits_by (reading s) (joint_of y)
edits-step s legal y step =
    (λ i. edits_of (record { reads = step.is i; site = y.site; target = y.target })) ∙ edits-same s legal step.past y.site y.target step.to

told-step : (s : Model) → IsLegal s → (y : Resolution) → IsStep (reading s) y → map (notice_at y.reads) (resolution_told y) ≡ map (notice_at (reading s)) (told_by (joint_of y))
told-step s legal y step = ap (λ (z : Reading). map (notice_at z) (resolution_told y)) step.is ∙ told-same s legal step.past y.site y.target step.to

-- the edits of all steps, as they are computed in the model before
pub edits-all : (s : Model) → IsLegal s → (ps : List ProxySite) → flat_map edits_of (resolutions (reading s) ps) ≡ flat_map (edits_by (reading s)) (map joint_of (resolutions (reading s) ps))
edits-all s legal ps = flat-same (IsStep (reading s)) edits_of (edits_by (reading s)) (edits-step s legal) (resolutions (reading s) ps) (all-steps (reading s) ps [])

-- the notifications of all steps, each computed in the model that the earlier steps left
chain-each : (ps : List ProxySite) (s : Model) → IsLegal s
    → change_notices s.metamodel (held_at (reading s)) (flat_map resolution_told (resolutions (reading s) ps)) ≡ flat_map (λ y. map (notice_at y.reads) (resolution_told y)) (resolutions (reading s) ps)
chain-each [] s legal = refl
chain-each (p ∷ ps) s legal =
    let r = reading s in
    let m = s.metamodel in
    let read : Resolution → List Notice = λ y. map (notice_at y.reads) (resolution_told y) in
    let ys : Option ResolvedProxy → List Resolution = λ q. option_map_or (λ x. record { reads = r; site = p; target = x } ∷ resolutions (with_resolved r p x) ps) q (resolutions r ps) in
    elim (resolved_to r p) as (λ q. resolved_to r p ≡ q → change_notices m (held_at r) (flat_map resolution_told (ys q)) ≡ flat_map read (ys q)) [
      | None ↦ λ _. chain-each ps s legal
      | Some x ↦ λ is.
          let of = resolved-to r p x is in
          let one = one-resolved s legal p x of.late of.found in
          let y : Resolution = record { reads = r; site = p; target = x } in
          let c = At (at_end (node.Object p.object) p.feature) (Resolve p.index) in
          let t = relinked s (with_resolution s.links y) in
          let ts = resolution_told y in
          let first : change_notices m (held_at r) ts ≡ map (notice_at r) ts =
          subst (λ (q : Option ResolvedProxy). change_notices m (held_at r) (option_map_or (changes_of_resolve (end_of p) p.index) q []) ≡ map (notice_at r) (option_map_or (changes_of_resolve (end_of p) p.index) q [])) of.found
          (chain-read s c refl legal refl refl (early s legal p x of.late of.found) of.late) in
          let ends : ends_after_changes m (held_at r) ts ≡ held_at (reading t) = λ i d. (ends_after_changes-at m (held_at r) ts d ∙ one.replays d) i in
          let rest = subst (λ (z : Reading). change_notices m (held_at (reading t)) (flat_map resolution_told (resolutions z ps)) ≡ flat_map read (resolutions z ps)) one.reads (chain-each ps t one.legal) in
          change_notices-append m (held_at r) ts (flat_map resolution_told (resolutions (with_resolved r p x) ps))
          ∙ (λ i. first i ++ change_notices m (ends i) (flat_map resolution_told (resolutions (with_resolved r p x) ps)))
          ∙ ap (λ (ns : List Notice). map (notice_at r) ts ++ ns) rest
    ] refl

map-flat : {X Y Z : Type 0} (f : Y → Z) (g : X → List Y) (xs : List X) → flat_map (λ x. map f (g x)) xs ≡ map f (flat_map g xs)
map-flat f g [] = refl
map-flat f g (x ∷ xs) = ap (λ zs. map f (g x) ++ zs) (map-flat f g xs) ∙ sym (map-append f (g x) (flat_map g xs))

-- the notifications are the same if they are computed in the model before
pub chain-all : (s : Model) → IsLegal s → (ps : List ProxySite)
    → change_notices s.metamodel (held_at (reading s)) (flat_map resolution_told (resolutions (reading s) ps)) ≡ map (notice_at (reading s)) (flat_map told_by (map joint_of (resolutions (reading s) ps)))
chain-all s legal ps =
    let r = reading s in
    chain-each ps s legal
    ∙ flat-same (IsStep r) (λ y. map (notice_at y.reads) (resolution_told y)) (λ j. map (notice_at r) (told_by j)) (told-step s legal) (resolutions r ps) (all-steps r ps [])
    ∙ map-flat (notice_at r) told_by (map joint_of (resolutions r ps))

---------------------------------------------------------------- proxies that are left

kept-filter : {X : Type 0} (P N Q : X → Bool) → ((x : X) → Q x ≡ (P x && N x)) → (xs : List X) → filter Q xs ≡ filter N (filter P xs)
kept-filter P N Q same [] = refl
kept-filter P N Q same (x ∷ xs) =
    ap (λ (b : Bool). cond b (x ∷ filter Q xs) (filter Q xs)) (same x)
    ∙ elim (P x) as (λ b. cond (b && N x) (x ∷ filter Q xs) (filter Q xs) ≡ filter N (cond b (x ∷ filter P xs) (filter P xs))) [
      | true ↦ ap (λ ys. cond (N x) (x ∷ ys) ys) (kept-filter P N Q same xs)
      | false ↦ kept-filter P N Q same xs
    ]

flat-filter : {X Y : Type 0} (N : Y → Bool) (f g : X → List Y) → ((x : X) → f x ≡ filter N (g x)) → (xs : List X) → flat_map f xs ≡ filter N (flat_map g xs)
flat-filter N f g same [] = refl
flat-filter N f g same (x ∷ xs) = (λ i. same x i ++ flat-filter N f g same xs i) ∙ sym (filter-append N (g x) (flat_map g xs))

-- the proxies afterwards are the proxies of before that are not gone
pub left-sites : (r : Reading) (ends : End → List Value) (N : ProxySite → Bool) → ((d : End) → length (ends d) ≡ length (r.values d)) → ((p : ProxySite) → is_proxy_site (record r { values = ends }) p ≡ (is_proxy_site r p && N p))
    → sites (record r { values = ends }) ≡ filter N (sites r)
left-sites r ends N long same =
    let now = record r { values = ends } in
    flat-filter N (λ n. sites_of now (record { 0 = n })) (λ n. sites_of r (record { 0 = n })) (λ n. (let o : ObjectNo = record { 0 = n } in
    flat-filter N (sites_under now o) (sites_under r o) (λ f.
    ap (λ (k : ℕ). filter (is_proxy_site now) (map (site o f) (range_with_len 0 k))) (long (at_end (node.Object o) f))
    ∙ kept-filter (is_proxy_site r) N (is_proxy_site now) same (map (site o f) (range_with_len 0 (length (r.values (at_end (node.Object o) f))))))
    (all_features_of r (node.Object o)))) (range_with_len 0 r.next)

-- the number of proxies that are left
pub unresolved_count-count : (s : Model) → IsLegal s → (g : Progress) → IsDone (reading s) g → unresolved_count (reading s) ≡ length (filter (λ p. not (has g.gone (key_of p))) (sites (reading s)))
unresolved_count-count s legal g known =
    let r = reading s in
    ap (λ (ps : List ProxySite). length ps) (left-sites r (values_left r (sites r)) (λ p. not (has g.gone (key_of p))) (all-follow (sites r) s legal).long known.gone)

length-joints : (ys : List Resolution) → length (map joint_of ys) ≡ length ys
length-joints [] = refl
length-joints (y ∷ ys) = ap suc (length-joints ys)

-- the number of proxies that were resolved
pub resolved_count-count : (r : Reading) (g : Progress) → IsDone r g → length g.joints.items ≡ resolved_count r
resolved_count-count r g known = ap (λ (js : List Joint). length js) known.joints ∙ length-joints (resolutions r (sites r))
