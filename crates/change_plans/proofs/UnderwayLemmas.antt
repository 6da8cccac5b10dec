-- The proxies are resolved one after another, and the sets of resolved proxies grow with them.
use Rattle.std.proofs.Common.{◌≡◌, ℕ, ◌+◌, ◌<◌, ◌≤◌, drop, get_or, ◌&&◌, ◌||◌, not, Bool, true, false, List, [], ◌∷◌, ◌++◌, append_assoc, filter, map, Option, Some, None, length, slice_get, if◌then◌else◌, refl, sym, ap, ◌∙◌, subst}
use Rattle.std.specs.Prelude.{slice_set}
use Rattle.std.specs.List.{AllByRecursion, range_with_len}
use Rattle.std.specs.Option.{option_map_or}
use Rattle.std.proofs.lemmas.Bool.{true≢false}
use Rattle.std.proofs.lemmas.List.{append-nil, drop_more, map-append}
use Rattle.std.proofs.Math.ListN.{drop_of_length-le}
use Rattle.mm_types.specs.Ends.{has_value}
use Rattle.mm_types.specs.Same.{same_end}
use Rattle.mm_types.specs.declared.end.End.{End}
use Rattle.mm_types.specs.declared.numbers.FeatureNo.{FeatureNo}
use Rattle.mm_types.specs.declared.numbers.Node.TheVariants as node
use Rattle.mm_types.specs.declared.numbers.ObjectNo.{ObjectNo}
use Rattle.mm_types.specs.declared.value.Value.{Value}
use Rattle.mm_types.specs.declared.value.Value.TheVariants as value
use Rattle.models.specs.Legal.{IsLegal}
use Rattle.models.specs.Model.{Model, reading}
use Rattle.models.specs.Reading.{Reading, all_features_of, at_end}
use Rattle.doc_loader.proofs.PairLemmas.{all-flat_map_every}
use Rattle.change_plans.specs.Joining.{Adds, IsDone, IsKnown, IsNothing, IsProgress, Resolves, is_far_link, is_far_site, joint, joint_of, target_by}
use Rattle.proxies.specs.Keys.{has, key_of}
use Rattle.models.specs.ReferenceKeys.{reference_key, same_reference_key}
use Rattle.proxies.specs.Leads.{first_index, index_at, lead, leads}
use Rattle.proxies.specs.Proxies.{end_of, is_proxy_site, site, sites, sites_of, sites_under}
use Rattle.proxies.specs.ResolvingAll.{Resolution, ends_after_replace, left_by, resolutions, resolved_to, values_left, values_with, with_resolved}
use Rattle.change_plans.specs.declared.joining.Joint.{Joint}
use Rattle.change_plans.specs.declared.joining.Progress.{Progress}
use Rattle.models.specs.declared.reference_key.ReferenceKey.{ReferenceKey}
use Rattle.proxies.specs.declared.lead.FirstLeads.{FirstLeads}
use Rattle.proxies.specs.declared.lead.Lead.{Lead}
use Rattle.proxies.specs.declared.site.ProxySite.{ProxySite}
use Rattle.proxies.specs.declared.resolved_proxy.Counterpart.{Counterpart}
use Rattle.proxies.specs.declared.resolved_proxy.ResolvedProxy.{ResolvedProxy}
use Rattle.change_plans.proofs.JoinedLemmas.{has-ends_after_replace, is_proxy_in, proxy-ends_after_replace}
use Rattle.change_plans.proofs.ProgressLemmas.{target-same}
use Rattle.handshake.proofs.ResolveAllLemmas.{resolved-to}
use Rattle.proxies.proofs.TargetLemmas.{IsFound, found-is, match-apart, match-is}

---------------------------------------------------------------- some locations, and then others

pub resolutions-append : (r : Reading) (ps qs : List ProxySite) → resolutions r (ps ++ qs) ≡ resolutions r ps ++ resolutions (left_by r ps) qs
resolutions-append r [] qs = refl
resolutions-append r (p ∷ ps) qs =
    let one : ResolvedProxy → Resolution = λ x. record { reads = r; site = p; target = x } in
    elim (resolved_to r p) as (λ q. option_map_or (λ x. one x ∷ resolutions (with_resolved r p x) (ps ++ qs)) q (resolutions r (ps ++ qs))
    ≡ option_map_or (λ x. one x ∷ resolutions (with_resolved r p x) ps) q (resolutions r ps) ++ resolutions (record r { values = option_map_or (λ x. values_left (with_resolved r p x) ps) q (values_left r ps) }) qs) [
      | None ↦ resolutions-append r ps qs
      | Some x ↦ ap (λ (ys : List Resolution). one x ∷ ys) (resolutions-append (with_resolved r p x) ps qs)
    ]

pub values-append : (r : Reading) (ps qs : List ProxySite) → values_left r (ps ++ qs) ≡ values_left (left_by r ps) qs
values-append r [] qs = refl
values-append r (p ∷ ps) qs =
    elim (resolved_to r p) as (λ q. option_map_or (λ x. values_left (with_resolved r p x) (ps ++ qs)) q (values_left r (ps ++ qs))
    ≡ values_left (record r { values = option_map_or (λ x. values_left (with_resolved r p x) ps) q (values_left r ps) }) qs) [
      | None ↦ values-append r ps qs
      | Some x ↦ values-append (with_resolved r p x) ps qs
    ]

---------------------------------------------------------------- one proxy more

none-known : (r : Reading) (g : Progress) → IsNothing g → IsProgress r [] g
none-known r g nothing =
    record {
      joints = nothing.joints;
      gone = λ p. sym (ap (λ (b : Bool). is_proxy_site r p && not b) (nothing.gone (key_of p)) ∙ and-true (is_proxy_site r p));
      linked = λ o f b. let was = has_value (r.values (at_end (node.Object o) f)) (value.Object b) in sym (ap (λ (c : Bool). was || c) (nothing.linked (reference_key o f b.0)) ∙ or-false was);
    }
  where
    and-true : (b : Bool) → (b && true) ≡ b
    and-true true = refl
    and-true false = refl

    or-false : (b : Bool) → (b || false) ≡ b
    or-false true = refl
    or-false false = refl

module _ (s : Model) (legal : IsLegal s) (ps : List ProxySite) (p : ProxySite) (x : ResolvedProxy) (to : resolved_to (left_by (reading s) ps) p ≡ Some x) (g h : Progress) (known : IsProgress (reading s) ps g) (adds : Adds g h p x) where
  abbrev r : Reading
  r = reading s

  abbrev now : Reading
  now = left_by (reading s) ps

  abbrev with : Option Counterpart → ResolvedProxy
  with q = record { object = x.object; counterpart = q }

  found : IsFound (left_by (reading s) ps) (end_of p) p.index x
  found = found-is now (end_of p) p.index x (resolved-to now p x to).found

  abbrev mine : ReferenceKey → Bool
  mine k = same_reference_key k (key_of p)

  abbrev own : ReferenceKey → Bool
  own k = same_reference_key k (reference_key p.object p.feature x.object.0)

  parted : (a b c d : Bool) → ((a && not b) && not c) ≡ (a && not ((b || c) || false))
  parted true true c d = refl
  parted true false true d = refl
  parted true false false d = refl
  parted false b c d = refl

  parted_two : (a b c d : Bool) → (((a && not b) && not d) && not c) ≡ (a && not ((b || c) || d))
  parted_two true true c d = refl
  parted_two true false true true = refl
  parted_two true false true false = refl
  parted_two true false false true = refl
  parted_two true false false false = refl
  parted_two false b c d = refl

  grouped : (a b c : Bool) → ((a || b) || c) ≡ (a || ((b || c) || false))
  grouped true b c = refl
  grouped false true c = refl
  grouped false false true = refl
  grouped false false false = refl

  grouped_two : (a b c d : Bool) → (((a || b) || d) || c) ≡ (a || ((b || c) || d))
  grouped_two true b c d = refl
  grouped_two false true c d = refl
  grouped_two false false true true = refl
  grouped_two false false true false = refl
  grouped_two false false false true = refl
  grouped_two false false false false = refl

  module _ (c : Counterpart) (there : x.counterpart ≡ Some c) where
    abbrev q : ProxySite
    q = site x.object c.end.feature c.index

    match-there : c.end ≡ end_of q
    match-there = let match = match-is now (end_of p) x.object c (sym found.matched ∙ there) in match.stands ∙ ap (λ (f : FeatureNo). at_end (node.Object x.object) f) (sym (ap (λ (y : End). y.feature) match.stands))

    abbrev back : End → List Value
    back = ends_after_replace now.values (end_of q) c.index (value.Object p.object)

    back-is : ends_after_replace now.values c.end c.index (value.Object p.object) ≡ back
    back-is = ap (λ (y : End). ends_after_replace now.values y c.index (value.Object p.object)) match-there

    met : (text : List ℕ) × (slice_get (now.values (end_of q)) c.index ≡ Some (value.Proxy text))
    met = let match = match-is now (end_of p) x.object c (sym found.matched ∙ there) in (match.text, subst (λ (y : End). slice_get (now.values y) c.index ≡ Some (value.Proxy match.text)) match-there match.proxy)

    still : slice_get (back (end_of p)) p.index ≡ Some (value.Proxy found.text)
    still =
        let match = match-is now (end_of p) x.object c (sym found.matched ∙ there) in
        let apart = ap (λ (y : End). same_end y (end_of p)) (sym match-there ∙ match.stands) ∙ match-apart now (end_of p) x.object match.feature legal.metamodel match.opposite in
        ap (λ (b : Bool). slice_get (if b then slice_set (now.values (end_of p)) c.index (value.Object p.object) else now.values (end_of p)) p.index) apart ∙ found.proxy

  gone-more : (z : Option Counterpart) → x.counterpart ≡ z → (y : ProxySite)
      → is_proxy_in (values_with now (end_of p) p.index (with z)) y ≡ (is_proxy_site r y && not ((has g.gone (key_of y) || mine (key_of y)) || option_map_or (λ c. is_far_site x c (key_of y)) z false))
  gone-more None none y =
      proxy-ends_after_replace now.values p x.object found.text found.proxy y ∙ ap (λ (b : Bool). b && not (mine (key_of y))) (known.gone y) ∙ parted (is_proxy_site r y) (has g.gone (key_of y)) (mine (key_of y)) false
  gone-more (Some c) there y =
      let far = is_far_site x c (key_of y) in
      ap (λ (ends : End → List Value). is_proxy_in (ends_after_replace ends (end_of p) p.index (value.Object x.object)) y) (back-is c there)
      ∙ proxy-ends_after_replace (back c there) p x.object found.text (still c there) y
      ∙ ap (λ (b : Bool). b && not (mine (key_of y))) (proxy-ends_after_replace now.values (q c there) p.object (met c there).0 (met c there).1 y ∙ ap (λ (b : Bool). b && not far) (known.gone y))
      ∙ parted_two (is_proxy_site r y) (has g.gone (key_of y)) (mine (key_of y)) far

  linked-more : (z : Option Counterpart) → x.counterpart ≡ z → (o : ObjectNo) (f : FeatureNo) (b : ObjectNo)
      → has_value (values_with now (end_of p) p.index (with z) (at_end (node.Object o) f)) (value.Object b)
      ≡ (has_value (r.values (at_end (node.Object o) f)) (value.Object b) || ((has g.linked (reference_key o f b.0) || own (reference_key o f b.0)) || option_map_or (λ c. is_far_link p x c (reference_key o f b.0)) z false))
  linked-more None none o f b =
      let k = reference_key o f b.0 in
      has-ends_after_replace now.values p x.object found.text found.proxy o f b ∙ ap (λ (c : Bool). c || own k) (known.linked o f b)
      ∙ grouped (has_value (r.values (at_end (node.Object o) f)) (value.Object b)) (has g.linked k) (own k)
  linked-more (Some c) there o f b =
      let k = reference_key o f b.0 in
      let far = is_far_link p x c k in
      ap (λ (ends : End → List Value). has_value (ends_after_replace ends (end_of p) p.index (value.Object x.object) (at_end (node.Object o) f)) (value.Object b)) (back-is c there)
      ∙ has-ends_after_replace (back c there) p x.object found.text (still c there) o f b
      ∙ ap (λ (c : Bool). c || own k) (has-ends_after_replace now.values (q c there) p.object (met c there).0 (met c there).1 o f b ∙ ap (λ (c : Bool). c || far) (known.linked o f b))
      ∙ grouped_two (has_value (r.values (at_end (node.Object o) f)) (value.Object b)) (has g.linked k) (own k) far

  one-known : IsKnown r (map joint_of (resolutions r ps) ++ joint p x ∷ []) (values_with now (end_of p) p.index x) h
  one-known =
      record {
        joints = adds.joints ∙ ap (λ (js : List Joint). js ++ joint p x ∷ []) known.joints;
        gone = λ y. gone-more x.counterpart refl y ∙ ap (λ (b : Bool). is_proxy_site r y && not b) (sym (adds.gone (key_of y)));
        linked = λ o f b. linked-more x.counterpart refl o f b ∙ ap (λ (c : Bool). has_value (r.values (at_end (node.Object o) f)) (value.Object b) || c) (sym (adds.linked (reference_key o f b.0)));
      }

-- the sets for these locations and one more
known-on : (s : Model) → IsLegal s → (ps : List ProxySite) (p : ProxySite) (g h : Progress) → IsProgress (reading s) ps g → Resolves g h p (resolved_to (left_by (reading s) ps) p) → IsProgress (reading s) (ps ++ p ∷ []) h
known-on s legal ps p g h known resolves =
    let r = reading s in
    let now = left_by r ps in
    let ys : Option ResolvedProxy → List Resolution = λ q. option_map_or (λ x. record { reads = now; site = p; target = x } ∷ []) q [] in
    let ends : Option ResolvedProxy → End → List Value = λ q. option_map_or (λ x. values_with now (end_of p) p.index x) q (values_left r ps) in
    let same : IsKnown r (map joint_of (resolutions r ps) ++ map joint_of (ys (resolved_to now p))) (ends (resolved_to now p)) h ≡ IsProgress r (ps ++ p ∷ []) h =
    λ i. IsKnown r (sym (ap (map joint_of) (resolutions-append r ps (p ∷ [])) ∙ map-append joint_of (resolutions r ps) (ys (resolved_to now p))) i) (sym (values-append r ps (p ∷ [])) i) h in
    subst (λ (T : Type 0). T) same
    (elim (resolved_to now p) as (λ q. resolved_to now p ≡ q → Resolves g h p q → IsKnown r (map joint_of (resolutions r ps) ++ map joint_of (ys q)) (ends q) h) [
      | None ↦ λ _ still. subst (λ (js : List Joint). IsKnown r js (values_left r ps) h) (sym (append-nil (map joint_of (resolutions r ps)))) (subst (IsProgress r ps) (sym still) known)
      | Some x ↦ λ to adds. one-known s legal ps p x to g h known adds
    ] refl resolves)

---------------------------------------------------------------- all of them

-- the locations so far, and those that are left, with their leads
pub record IsUnderway (r : Reading) (left : List Lead) (g : Progress) : Type 0 where
  pub past : List ProxySite
  pub rest : List ProxySite
  pub all : past ++ rest ≡ sites r
  pub next : map (lead r) rest ≡ left
  pub known : IsProgress r past g

pub underway-from : (r : Reading) (g : Progress) → IsNothing g → IsUnderway r (leads r) g
underway-from r g nothing = record { past = []; rest = sites r; all = refl; next = refl; known = none-known r g nothing }

-- proxies are at all locations
all-pass : (q : ProxySite → Bool) (xs : List ProxySite) → AllByRecursion (λ (x : ProxySite). q x ≡ true) (filter q xs)
all-pass q [] = tt
all-pass q (x ∷ xs) =
    elim (q x) as (λ b. q x ≡ b → AllByRecursion (λ (y : ProxySite). q y ≡ true) (if b then x ∷ filter q xs else filter q xs)) [ true ↦ λ h. (h, all-pass q xs) | false ↦ λ _. all-pass q xs ] refl

all-proxies : (r : Reading) → AllByRecursion (λ (p : ProxySite). is_proxy_site r p ≡ true) (sites r)
all-proxies r =
    let P : ProxySite → Type 0 = λ p. is_proxy_site r p ≡ true in
    all-flat_map_every P (λ n. sites_of r (record { 0 = n })) (range_with_len 0 r.next) (λ n. (let o : ObjectNo = record { 0 = n } in
    all-flat_map_every P (sites_under r o) (all_features_of r (node.Object o)) (λ f. all-pass (is_proxy_site r) (map (site o f) (range_with_len 0 (length (r.values (at_end (node.Object o) f))))))))

in-the-middle : (P : ProxySite → Type 0) (xs : List ProxySite) (p : ProxySite) (ys : List ProxySite) → AllByRecursion P (xs ++ p ∷ ys) → P p
in-the-middle P [] p ys all = all.0
in-the-middle P (x ∷ xs) p ys all = in-the-middle P xs p ys all.1

abbrev head_or : Lead → List Lead → Lead
head_or d [] = d
head_or d (x ∷ xs) = x

abbrev tail_of : List Lead → List Lead
tail_of [] = []
tail_of (x ∷ xs) = xs

abbrev is_empty : List Lead → Bool
is_empty [] = true
is_empty (x ∷ xs) = false

empty-apart : (x : Lead) (xs : List Lead) → [] ≡ x ∷ xs → ⊥
empty-apart x xs h = true≢false (ap is_empty h)

head-is : (x y : Lead) (xs ys : List Lead) → x ∷ xs ≡ y ∷ ys → x ≡ y
head-is x y xs ys h = ap (head_or x) h

tail-is : (x y : Lead) (xs ys : List Lead) → x ∷ xs ≡ y ∷ ys → xs ≡ ys
tail-is x y xs ys h = ap tail_of h

pub underway-step : (s : Model) → IsLegal s → (f : FirstLeads) → ((k : ReferenceKey) → index_at f k ≡ first_index (leads (reading s)) k) → (x : Lead) (left : List Lead) (g h : Progress)
    → IsUnderway (reading s) (x ∷ left) g → Resolves g h x.site (target_by (reading s) g f x) → IsUnderway (reading s) left h
underway-step s legal f table x left g h on resolves = by on.rest on.all on.next
  where
    by : (rest : List ProxySite) → on.past ++ rest ≡ sites (reading s) → map (lead (reading s)) rest ≡ x ∷ left → IsUnderway (reading s) left h
    by [] all next = absurd (empty-apart x left next)
    by (p ∷ rest) all next =
        let r = reading s in
        let here = head-is (lead r p) x (map (lead r) rest) left next in
        let proxy = in-the-middle (λ (y : ProxySite). is_proxy_site r y ≡ true) on.past p rest (subst (AllByRecursion (λ (y : ProxySite). is_proxy_site r y ≡ true)) (sym all) (all-proxies r)) in
        let mine = subst (λ (y : Lead). Resolves g h y.site (target_by r g f y)) (sym here) resolves in
        record {
          past = on.past ++ p ∷ [];
          rest = rest;
          all = append_assoc on.past (p ∷ []) rest ∙ all;
          next = tail-is (lead r p) x (map (lead r) rest) left next;
          known = known-on s legal on.past p g h on.known (subst (Resolves g h p) (target-same s legal on.past g on.known f table p proxy) mine);
        }

pub underway-end : (r : Reading) (g : Progress) → IsUnderway r [] g → IsDone r g
underway-end r g on = by on.rest on.all on.next
  where
    by : (rest : List ProxySite) → on.past ++ rest ≡ sites r → map (lead r) rest ≡ [] → IsDone r g
    by [] all next = subst (λ (ps : List ProxySite). IsProgress r ps g) (sym (append-nil on.past) ∙ all) on.known
    by (p ∷ rest) all next = absurd (empty-apart (lead r p) (map (lead r) rest) (sym next))

---------------------------------------------------------------- the loop

pub loop-init : (r : Reading) (g : Progress) (ls : List Lead) → ls ≡ leads r → IsNothing g → IsUnderway r ls g
loop-init r g ls all nothing = subst (λ (xs : List Lead). IsUnderway r xs g) (sym all) (underway-from r g nothing)

pub loop-step : (s : Model) → IsLegal s → (f : FirstLeads) → (ls : List Lead) → ((k : ReferenceKey) → index_at f k ≡ first_index ls k) → ls ≡ leads (reading s) → (i : ℕ) (d : Lead) (g h : Progress)
    → i < length ls → IsUnderway (reading s) (drop i ls) g → Resolves g h (get_or ls i d).site (target_by (reading s) g f (get_or ls i d)) → IsUnderway (reading s) (drop (i + 1) ls) h
loop-step s legal f ls table all i d g h low on resolves =
    underway-step s legal f (λ k. table k ∙ ap (λ (xs : List Lead). first_index xs k) all) (get_or ls i d) (drop (i + 1) ls) g h
    (subst (λ (xs : List Lead). IsUnderway (reading s) xs g) (drop_more ls i d low) on) resolves

pub loop-end : (r : Reading) (ls : List Lead) (i : ℕ) (g : Progress) → length ls ≤ i → IsUnderway r (drop i ls) g → IsDone r g
loop-end r ls i g past on = underway-end r g (subst (λ (xs : List Lead). IsUnderway r xs g) (drop_of_length-le ls past) on)
