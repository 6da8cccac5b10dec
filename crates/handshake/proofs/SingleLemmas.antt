-- No single end has two notifications, whatever the change.
use Rattle.std.proofs.Common.{◌≡◌, ◌≤◌, ◌&&◌, ℕ, zero, suc, length, slice_get, slice_set, arith, Bool, true, false, not, List, [], ◌∷◌, ◌++◌, filter, flat_map, map, Option, Some, None, option_to_list, if◌then◌else◌, refl, sym, ap, ◌∙◌, subst, true≢false}
use Rattle.std.specs.List.{AllByRecursion}
use Rattle.std.specs.Option.{option_map_or}
use Rattle.std.proofs.lemmas.Bool.{and_parts, false≢true}
use Rattle.std.proofs.lemmas.Option.{none-some, same_Some}
use Rattle.mm_types.proofs.SameLemmas.{same_end-self}
use Rattle.mm_types.specs.OfDocument.{IsOfDocument}
use Rattle.mm_types.specs.Same.{node_value, same_end}
use Rattle.mm_types.specs.Shapes.{Shape, shape}
use Rattle.mm_types.specs.Resolved.{Metamodel}
use Rattle.mm_types.specs.declared.end.End.{End}
use Rattle.mm_types.specs.declared.numbers.Node.{Node}
use Rattle.mm_types.specs.declared.numbers.Node.TheVariants as node
use Rattle.mm_types.specs.declared.numbers.ObjectNo.{ObjectNo}
use Rattle.mm_types.specs.declared.value.Value.{Value}
use Rattle.mm_types.specs.declared.value.Value.TheVariants as value
use Rattle.links.proofs.OrderLemmas.{order-apart}
use Rattle.links.specs.Laws.{goes}
use Rattle.links.specs.Plans.{AreInOrder}
use Rattle.models.specs.Legal.{IsLegal}
use Rattle.models.specs.Model.{Model, reading}
use Rattle.models.specs.Reading.{Reading, shape_at}
use Rattle.removal.proofs.ListLemmas.{all-flat_map, all-map, all-weaker}
use Rattle.removal.proofs.LossLemmas.{holder-reference, itself-stays}
use Rattle.removal.proofs.OuterLemmas.{touched-in_order}
use Rattle.removal.specs.Losses.{is_lost}
use Rattle.removal.specs.Outer.{holds_some, is_in_subtree, outer_ends, touched_ends}
use Rattle.mm_meta.proofs.FeatureListLemmas.{all-append}
use Rattle.handshake.proofs.ApartLemmas.{all_filter, apart-front, apart_filter, feature_changes-apart, unset-apart}
use Rattle.handshake.proofs.CutHeldLemmas.{all-left, one-in}
use Rattle.handshake.proofs.CutLinkEndLemmas.{held_stands, values-linked}
use Rattle.handshake.proofs.KnownLemmas.{far-reference, resolvable}
use Rattle.handshake.proofs.LoadChainLemmas.{roots-many}
use Rattle.handshake.proofs.ResolveAllLemmas.{resolved-to}
use Rattle.proxies.proofs.TargetLemmas.{IsFound, IsMatch, match-apart, match-is}
use Rattle.handshake.specs.FeatureChange.{feature_change}
use Rattle.handshake.specs.FeatureChanges.{all_lost, changes_of_delete, changes_of_resolve, far_losses, feature_changes, lost_with, resolution_told}
use Rattle.handshake.specs.Displaced.{cut_link_ends}
use Rattle.handshake.specs.Laws.{AreApart, TellsNoSingleEndTwice, is_of_single, takes_many}
use Rattle.proxies.specs.Proxies.{end_of, sites}
use Rattle.handshake.specs.Refusals.{early_refusal, late_refusal}
use Rattle.proxies.specs.ResolvingAll.{Resolution, ends_after_replace, resolutions, resolved_to, with_resolved}
use Rattle.handshake.specs.declared.act.Act.TheVariants.{Unset}
use Rattle.handshake.specs.declared.change.Change.{Change}
use Rattle.handshake.specs.declared.change.Change.TheVariants.{At, Delete, Load, ResolveAll}
use Rattle.handshake.specs.declared.change_kind.ChangeKind.{ChangeKind}
use Rattle.handshake.specs.declared.change_kind.ChangeKind.TheVariants.{Gains, Loses, LosesAt, Resolves, Unsets}
use Rattle.handshake.specs.declared.change_kind.FeatureChange.{FeatureChange}
use Rattle.proxies.specs.declared.site.ProxySite.{ProxySite}
use Rattle.proxies.specs.declared.resolved_proxy.Counterpart.{Counterpart}
use Rattle.proxies.specs.declared.resolved_proxy.ResolvedProxy.{ResolvedProxy}
use Rattle.proxies.proofs.ReplacedLemmas.{ends_after_replace-length}

---------------------------------------------------------------- lists of which some are kept

-- a feature change is at a different end than each of some others
abbrev IsAway : FeatureChange → List FeatureChange → Type 0
IsAway t us = AllByRecursion (λ (u : FeatureChange). t.at ≡ u.at → ⊥) us

away-append : (p : FeatureChange → Bool) (t : FeatureChange) (ts us : List FeatureChange) → IsAway t (filter p ts) → IsAway t us → IsAway t (filter p (ts ++ us))
away-append p t [] us first rest = all_filter (λ (u : FeatureChange). t.at ≡ u.at → ⊥) p us rest
away-append p t (x ∷ ts) us first rest =
    elim (p x) as (λ b. IsAway t (if b then x ∷ filter p ts else filter p ts) → IsAway t (if b then x ∷ filter p (ts ++ us) else filter p (ts ++ us))) [
      | true ↦ λ all. (all.0, away-append p t ts us all.1 rest)
      | false ↦ λ all. away-append p t ts us all rest
    ] first

-- the elements that a filter keeps of two lists have different ends, if each that it keeps of the first is away from the second
kept-apart : (p : FeatureChange → Bool) (ts us : List FeatureChange) → AreApart (filter p ts) → AreApart (filter p us) → AllByRecursion (λ (t : FeatureChange). p t ≡ true → IsAway t us) ts → AreApart (filter p (ts ++ us))
kept-apart p [] us first rest away = rest
kept-apart p (t ∷ ts) us first rest away =
    elim (p t) as (λ b. p t ≡ b → AreApart (if b then t ∷ filter p ts else filter p ts) → AreApart (if b then t ∷ filter p (ts ++ us) else filter p (ts ++ us))) [
      | true ↦ λ is apart. (away-append p t ts us apart.0 (away.0 is), kept-apart p ts us apart.1 rest away.1)
      | false ↦ λ _ apart. kept-apart p ts us apart rest away.1
    ] refl first

-- a filter of single ends keeps no feature change of a list
none-kept : (m : Metamodel) (e : End) (k : Value → ChangeKind) (vs : List Value) → (shape m e.feature).is_single ≡ false → filter (is_of_single m) (map (λ v. feature_change e (k v)) vs) ≡ []
none-kept m e k [] many = refl
none-kept m e k (v ∷ vs) many = rw many (none-kept m e k vs many)

none-lost : (m : Metamodel) (e : End) (n : ℕ) → (shape m e.feature).is_single ≡ false → filter (is_of_single m) (all_lost e n) ≡ []
none-lost m e zero many = refl
none-lost m e (suc n) many = rw many (none-lost m e n many)

nothing-away : (p : FeatureChange → Bool) (us : List FeatureChange) (ts : List FeatureChange) → filter p us ≡ [] → AreApart (filter p ts) → AreApart (filter p (ts ++ us))
nothing-away p us [] none apart = subst AreApart (sym none) tt
nothing-away p us (t ∷ ts) none apart =
    elim (p t) as (λ b. AreApart (if b then t ∷ filter p ts else filter p ts) → AreApart (if b then t ∷ filter p (ts ++ us) else filter p (ts ++ us))) [
      | true ↦ λ a. (far t ts a.0, nothing-away p us ts none a.1)
      | false ↦ λ a. nothing-away p us ts none a
    ] apart
  where
    far : (t : FeatureChange) (xs : List FeatureChange) → IsAway t (filter p xs) → IsAway t (filter p (xs ++ us))
    far t [] all = subst (IsAway t) (sym none) tt
    far t (x ∷ xs) all =
        elim (p x) as (λ b. IsAway t (if b then x ∷ filter p xs else filter p xs) → IsAway t (if b then x ∷ filter p (xs ++ us) else filter p (xs ++ us))) [
          | true ↦ λ a. (a.0, far t xs a.1)
          | false ↦ λ a. far t xs a
        ] all

---------------------------------------------------------------- proxies

-- no value of a list is a proxy
abbrev AreResolved : List Value → Type 0
AreResolved vs = (i : ℕ) (t : List ℕ) → slice_get vs i ≡ Some (value.Proxy t) → ⊥

abbrev IsNoProxy : Value → Type 0
IsNoProxy v = (t : List ℕ) → v ≡ value.Proxy t → ⊥

none-set : (vs : List Value) (k : ℕ) (w : Value) → IsNoProxy w → AreResolved vs → AreResolved (slice_set vs k w)
none-set [] k w plain none i t at = none i t at
none-set (v ∷ vs) zero w plain none zero t at = plain t (same_Some _ _ at)
none-set (v ∷ vs) zero w plain none (suc i) t at = none (suc i) t at
none-set (v ∷ vs) (suc k) w plain none zero t at = none zero t at
none-set (v ∷ vs) (suc k) w plain none (suc i) t at = none-set vs k w plain (λ j u here. none (suc j) u here) i t at

-- if the only value is replaced, no proxy is left
only-set : (vs : List Value) (k : ℕ) (v w : Value) → IsNoProxy w → length vs ≤ 1 → slice_get vs k ≡ Some v → AreResolved (slice_set vs k w)
only-set [] k v w plain few at i t here = none-some v at
only-set (x ∷ []) zero v w plain few at zero t here = plain t (same_Some _ _ here)
only-set (x ∷ []) zero v w plain few at (suc i) t here = none-some (value.Proxy t) here
only-set (x ∷ []) (suc k) v w plain few at i t here = none-some v at
only-set (x ∷ y ∷ vs) k v w plain few at i t here = omega (arith, few)

node-no-proxy : (n : Node) → IsNoProxy (node_value n)
node-no-proxy (node.Object o) t is = cc
node-no-proxy (node.Resource k) t is = cc

object-no-proxy : (o : ObjectNo) → IsNoProxy (value.Object o)
object-no-proxy o t is = cc

---------------------------------------------------------------- all proxies

-- the values of ends after a proxy and its counterpart are replaced
abbrev swapped : (End → List Value) → End → ℕ → ResolvedProxy → Option Counterpart → End → List Value
swapped ends e i x q = ends_after_replace (option_map_or (λ c. ends_after_replace ends c.end c.index (node_value e.node)) q ends) e i (value.Object x.object)

swapped-length : (ends : End → List Value) (e : End) (i : ℕ) (x : ResolvedProxy) (q : Option Counterpart) (d : End) → length (swapped ends e i x q d) ≡ length (ends d)
swapped-length ends e i x None d = ends_after_replace-length ends e i (value.Object x.object) d
swapped-length ends e i x (Some c) d = ends_after_replace-length (ends_after_replace ends c.end c.index (node_value e.node)) e i (value.Object x.object) d ∙ ends_after_replace-length ends c.end c.index (node_value e.node) d

ends_after_replace-none : (ends : End → List Value) (e : End) (i : ℕ) (v : Value) (d : End) → IsNoProxy v → AreResolved (ends d) → AreResolved (ends_after_replace ends e i v d)
ends_after_replace-none ends e i v d plain none = elim (same_end e d) as (λ b. AreResolved (if b then slice_set (ends d) i v else ends d)) [ true ↦ none-set (ends d) i v plain none | false ↦ none ]

swapped-none : (ends : End → List Value) (e : End) (i : ℕ) (x : ResolvedProxy) (q : Option Counterpart) (d : End) → AreResolved (ends d) → AreResolved (swapped ends e i x q d)
swapped-none ends e i x None d none = ends_after_replace-none ends e i (value.Object x.object) d (object-no-proxy x.object) none
swapped-none ends e i x (Some c) d none =
    ends_after_replace-none (ends_after_replace ends c.end c.index (node_value e.node)) e i (value.Object x.object) d (object-no-proxy x.object) (ends_after_replace-none ends c.end c.index (node_value e.node) d (node-no-proxy e.node) none)

-- the proxy's own end, if it is single
own-none : (ends : End → List Value) (e : End) (i : ℕ) (o : ObjectNo) (v : Value) → length (ends e) ≤ 1 → slice_get (ends e) i ≡ Some v → AreResolved (ends_after_replace ends e i (value.Object o) e)
own-none ends e i o v few at =
    subst (λ (b : Bool). AreResolved (if b then slice_set (ends e) i (value.Object o) else ends e)) (sym (same_end-self e)) (only-set (ends e) i v (value.Object o) (object-no-proxy o) few at)

far-none : (ends : End → List Value) (c : End) (j : ℕ) (n : Node) (v : Value) → length (ends c) ≤ 1 → slice_get (ends c) j ≡ Some v → AreResolved (ends_after_replace ends c j (node_value n) c)
far-none ends c j n v few at =
    subst (λ (b : Bool). AreResolved (if b then slice_set (ends c) j (node_value n) else ends c)) (sym (same_end-self c)) (only-set (ends c) j v (node_value n) (node-no-proxy n) few at)

-- an end without proxies has no feature change of a proxy that is resolved
changes_of_resolve-away : (r : Reading) (e : End) (i : ℕ) (x : ResolvedProxy) (d : End) → IsFound r e i x → AreResolved (r.values d) → AllByRecursion (λ (u : FeatureChange). d ≡ u.at → ⊥) (changes_of_resolve e i x)
changes_of_resolve-away r e i x d found none =
    let own : d ≡ e → ⊥ = λ same. none i found.text (ap (λ (y : End). slice_get (r.values y) i) same ∙ found.proxy) in
    elim x.counterpart as (λ q. x.counterpart ≡ q → AllByRecursion (λ (u : FeatureChange). d ≡ u.at → ⊥) (option_map_or (λ c. feature_change c.end (Resolves c.index (node_value e.node)) ∷ []) q [] ++ feature_change e (Resolves i (value.Object x.object)) ∷ [])) [
      | None ↦ λ _. (own, tt)
      | Some c ↦ λ is.
          let match = match-is r e x.object c (sym found.matched ∙ is) in
          ((λ same. none c.index match.text (ap (λ (y : End). slice_get (r.values y) c.index) same ∙ match.proxy)), (own, tt))
    ] refl

abbrev told_by : Reading → List ProxySite → List FeatureChange
told_by r ps = flat_map resolution_told (resolutions r ps)

abbrev resolution : Reading → ProxySite → ResolvedProxy → Resolution
resolution r p x = record { reads = r; site = p; target = x }

proxies-away : (ps : List ProxySite) (r : Reading) (d : End) → AreResolved (r.values d) → AllByRecursion (λ (u : FeatureChange). d ≡ u.at → ⊥) (told_by r ps)
proxies-away [] r d none = tt
proxies-away (p ∷ ps) r d none =
    elim (resolved_to r p) as (λ q. resolved_to r p ≡ q → AllByRecursion (λ (u : FeatureChange). d ≡ u.at → ⊥) (flat_map resolution_told (option_map_or (λ x. resolution r p x ∷ resolutions (with_resolved r p x) ps) q (resolutions r ps)))) [
      | None ↦ λ _. proxies-away ps r d none
      | Some x ↦ λ is.
          let found = (resolvable r (end_of p) p.index (resolved-to r p x is).late).resolvable.found in
          let same = same_Some _ x (sym (resolvable r (end_of p) p.index (resolved-to r p x is).late).is ∙ (resolved-to r p x is).found) in
          all-append (λ (u : FeatureChange). d ≡ u.at → ⊥) (changes_of_resolve (end_of p) p.index x) (told_by (with_resolved r p x) ps)
          (changes_of_resolve-away r (end_of p) p.index x d (subst (IsFound r (end_of p) p.index) same found) none)
          (proxies-away ps (with_resolved r p x) d (swapped-none r.values (end_of p) p.index x x.counterpart d none))
    ] refl

-- a single reference has at most one value
abbrev AreFew : Reading → Type 0
AreFew r = (d : End) → (shape r.metamodel d.feature).is_reference ≡ true → (shape r.metamodel d.feature).is_single ≡ true → length (r.values d) ≤ 1

few-with : (r : Reading) (p : ProxySite) (x : ResolvedProxy) → AreFew r → AreFew (with_resolved r p x)
few-with r p x few d reference single = subst (λ n. n ≤ 1) (sym (swapped-length r.values (end_of p) p.index x x.counterpart d)) (few d reference single)

-- one proxy, and the proxies after it
one-then : (r : Reading) (p : ProxySite) (x : ResolvedProxy) (us : List FeatureChange) → IsOfDocument r.metamodel → AreFew r → (shape r.metamodel p.feature).is_reference ≡ true → IsFound r (end_of p) p.index x
    → ((d : End) → AreResolved ((with_resolved r p x).values d) → AllByRecursion (λ (u : FeatureChange). d ≡ u.at → ⊥) us)
    → AreApart (filter (is_of_single r.metamodel) us) → AreApart (filter (is_of_single r.metamodel) (changes_of_resolve (end_of p) p.index x ++ us))
one-then r p x us document few reference found away rest =
    let e = end_of p in
    let i = p.index in
    let last = feature_change e (Resolves i (value.Object x.object)) in
    elim x.counterpart as (λ q. x.counterpart ≡ q → AreApart (filter (is_of_single r.metamodel) ((option_map_or (λ c. feature_change c.end (Resolves c.index (node_value e.node)) ∷ []) q [] ++ last ∷ []) ++ us))) [
      | None ↦ λ is.
          kept-apart (is_of_single r.metamodel) (last ∷ []) us (apart_filter (is_of_single r.metamodel) (last ∷ []) (tt, tt)) rest
          ((λ single. away e (subst (λ q. AreResolved (swapped r.values e i x q e)) (sym is) (own-none r.values e i x.object _ (few e reference single) found.proxy))), tt)
      | Some c ↦ λ is.
          let match = match-is r e x.object c (sym found.matched ∙ is) in
          let first = feature_change c.end (Resolves c.index (node_value e.node)) in
          let other : same_end c.end e ≡ false = ap (λ (y : End). same_end y e) match.stands ∙ match-apart r e x.object match.feature document match.opposite in
          let apart : c.end ≡ e → ⊥ = λ same. true≢false (sym (same_end-self c.end) ∙ ap (same_end c.end) same ∙ other) in
          let near : ends_after_replace r.values c.end c.index (node_value e.node) e ≡ r.values e = ap (λ (b : Bool). if b then slice_set (r.values e) c.index (node_value e.node) else r.values e) other in
          let far : (shape r.metamodel c.end.feature).is_reference ≡ true = ap (λ (y : End). (shape r.metamodel y.feature).is_reference) match.stands ∙ far-reference r.metamodel document p.feature match.feature match.opposite in
          kept-apart (is_of_single r.metamodel) (first ∷ last ∷ []) us (apart_filter (is_of_single r.metamodel) (first ∷ last ∷ []) ((apart, tt), (tt, tt))) rest (
            (λ single. away c.end (subst (λ q. AreResolved (swapped r.values e i x q c.end)) (sym is)
                (ends_after_replace-none (ends_after_replace r.values c.end c.index (node_value e.node)) e i (value.Object x.object) c.end (object-no-proxy x.object) (far-none r.values c.end c.index e.node _ (few c.end far single) match.proxy)))),
            (
              (λ single. away e (subst (λ q. AreResolved (swapped r.values e i x q e)) (sym is)
                  (own-none (ends_after_replace r.values c.end c.index (node_value e.node)) e i x.object _ (subst (λ (vs : List Value). length vs ≤ 1) (sym near) (few e reference single)) (ap (λ (vs : List Value). slice_get vs i) near ∙ found.proxy)))),
              tt,
            ),
          )
    ] refl

proxies-apart : (ps : List ProxySite) (r : Reading) → IsOfDocument r.metamodel → AreFew r → AreApart (filter (is_of_single r.metamodel) (told_by r ps))
proxies-apart [] r document few = tt
proxies-apart (p ∷ ps) r document few =
    elim (resolved_to r p) as (λ q. resolved_to r p ≡ q → AreApart (filter (is_of_single r.metamodel) (flat_map resolution_told (option_map_or (λ x. resolution r p x ∷ resolutions (with_resolved r p x) ps) q (resolutions r ps))))) [
      | None ↦ λ _. proxies-apart ps r document few
      | Some x ↦ λ is.
          let known = resolvable r (end_of p) p.index (resolved-to r p x is).late in
          let same = same_Some _ x (sym known.is ∙ (resolved-to r p x is).found) in
          one-then r p x (told_by (with_resolved r p x) ps) document few known.resolvable.reference (subst (IsFound r (end_of p) p.index) same known.resolvable.found)
          (λ d none. proxies-away ps (with_resolved r p x) d none)
          (proxies-apart ps (with_resolved r p x) document (few-with r p x few))
    ] refl

single-few : (s : Model) → IsLegal s → AreFew (reading s)
single-few s legal d reference single = subst (λ (vs : List Value). length vs ≤ 1) (sym (values-linked s d reference)) ((all-left s legal).one d single)

---------------------------------------------------------------- what is destroyed

-- the ends that have a destroyed object are ends of references
touched-refer : (r : Reading) (is_gone : Node → Bool) (es : List End) → AllByRecursion (λ (e : End). (shape r.metamodel e.feature).is_reference ≡ true) (filter (holds_some r is_gone) es)
touched-refer r is_gone [] = tt
touched-refer r is_gone (e ∷ es) =
    elim (holds_some r is_gone e) as (λ b. holds_some r is_gone e ≡ b → AllByRecursion (λ (d : End). (shape r.metamodel d.feature).is_reference ≡ true) (if b then e ∷ filter (holds_some r is_gone) es else filter (holds_some r is_gone) es)) [
      | true ↦ λ is. ((and_parts _ _ is).0, touched-refer r is_gone es)
      | false ↦ λ _. touched-refer r is_gone es
    ] refl

few-lost : (e : End) (q : Value → Bool) (vs : List Value) → length vs ≤ 1 → AreApart (map (λ v. feature_change e (Loses v)) (filter q vs))
few-lost e q [] few = tt
few-lost e q (v ∷ []) few = elim (q v) as (λ b. AreApart (map (λ w. feature_change e (Loses w)) (if b then v ∷ [] else []))) [ true ↦ (tt, tt) | false ↦ tt ]
few-lost e q (v ∷ w ∷ vs) few = absurd (omega (arith, few))

all-at-end : (P : FeatureChange → Type 0) (e : End) (vs : List Value) → ((v : Value) → P (feature_change e (Loses v))) → AllByRecursion P (map (λ v. feature_change e (Loses v)) vs)
all-at-end P e [] of = tt
all-at-end P e (v ∷ vs) of = (of v, all-at-end P e vs of)

module _ (s : Model) (legal : IsLegal s) (o : ObjectNo) where
  abbrev r : Reading
  r = reading s

  abbrev p : FeatureChange → Bool
  p = is_of_single s.metamodel

  -- an end that loses something
  lost-apart : (e : End) → (shape s.metamodel e.feature).is_reference ≡ true → AreApart (filter p (lost_with r o e))
  lost-apart e reference =
      elim (shape s.metamodel e.feature).is_single as (λ b. (shape s.metamodel e.feature).is_single ≡ b → AreApart (filter p (lost_with r o e))) [
        | true ↦ λ single. apart_filter p (lost_with r o e) (few-lost e (is_lost r o e) (r.values e) (single-few s legal e reference single))
        | false ↦ λ many. subst AreApart (sym (none-kept s.metamodel e Loses (filter (is_lost r o e) (r.values e)) many)) tt
      ] refl

  outer-apart : (es : List End) → AreInOrder es → AllByRecursion (λ (e : End). (shape s.metamodel e.feature).is_reference ≡ true) es → AreApart (filter p (flat_map (lost_with r o) es))
  outer-apart [] order refer = tt
  outer-apart (e ∷ es) order refer =
      let others = order-apart e es order.0 order.1 in
      let away : AllByRecursion (λ (u : FeatureChange). e ≡ u.at → ⊥) (flat_map (lost_with r o) es) =
      all-flat_map (λ (x : End). same_end e x ≡ false) (λ (u : FeatureChange). e ≡ u.at → ⊥) (lost_with r o)
      (λ x apart. all-at-end (λ (u : FeatureChange). e ≡ u.at → ⊥) x (filter (is_lost r o x) (r.values x)) (λ v same. true≢false (sym (same_end-self e) ∙ ap (same_end e) same ∙ apart))) es others in
      kept-apart p (lost_with r o e) (flat_map (lost_with r o) es) (lost-apart e refer.0) (outer-apart es order.1 refer.1)
      (all-at-end (λ (t : FeatureChange). p t ≡ true → IsAway t (flat_map (lost_with r o) es)) e (filter (is_lost r o e) (r.values e)) (λ v single. away))

  -- the end that contains the object loses it last
  module _ (d : End) (held : r.holder (node.Object o) ≡ Some d) where
    reference : (shape s.metamodel d.feature).is_reference ≡ true
    reference = holder-reference s legal o d held

    none-before : (shape s.metamodel d.feature).is_single ≡ true → filter (is_lost r o d) (r.values d) ≡ []
    none-before single =
        let has = held_stands s.links legal.links.set (node.Object o) d held in
        let only : r.values d ≡ value.Object o ∷ [] = one-in (r.values d) has.0 (value.Object o) (single-few s legal d reference single) (ap (λ (vs : List Value). slice_get vs has.0) (values-linked s d reference) ∙ has.1) in
        ap (filter (is_lost r o d)) only ∙ ap (λ (b : Bool). if b then value.Object o ∷ [] else []) (itself-stays r o d held)

    last : List FeatureChange
    last = feature_change d (Loses (value.Object o)) ∷ []

    nil≢cons : (w : Value) (ws : List Value) → w ∷ ws ≡ [] → ⊥
    nil≢cons w ws is = cc

    away-last : (x : End) (ws : List Value) → (x ≡ d → (shape s.metamodel x.feature).is_single ≡ true → ws ≡ [])
        → AllByRecursion (λ (t : FeatureChange). p t ≡ true → IsAway t (feature_change d (Loses (value.Object o)) ∷ [])) (map (λ v. feature_change x (Loses v)) ws)
    away-last x [] none = tt
    away-last x (w ∷ ws) none = ((λ single. ((λ same. nil≢cons w ws (none same single)), tt)), away-last x ws (λ same single. absurd (nil≢cons w ws (none same single))))

    all-away : (es : List End) → AllByRecursion (λ (t : FeatureChange). p t ≡ true → IsAway t (feature_change d (Loses (value.Object o)) ∷ [])) (flat_map (lost_with r o) es)
    all-away [] = tt
    all-away (x ∷ es) =
        all-append (λ (t : FeatureChange). p t ≡ true → IsAway t (feature_change d (Loses (value.Object o)) ∷ [])) (lost_with r o x) (flat_map (lost_with r o) es)
        (away-last x (filter (is_lost r o x) (r.values x)) (λ same single. ap (λ (y : End). filter (is_lost r o y) (r.values y)) same ∙ none-before (subst (λ (y : End). (shape s.metamodel y.feature).is_single ≡ true) same single)))
        (all-away es)

  changes_of_delete-apart : AreApart (filter p (changes_of_delete r o))
  changes_of_delete-apart =
      let es = touched_ends r o in
      let outer = outer-apart es (touched-in_order s o) (touched-refer r (is_in_subtree r o) (outer_ends r (is_in_subtree r o))) in
      elim (r.holder (node.Object o)) as (λ q. r.holder (node.Object o) ≡ q → AreApart (filter p (flat_map (lost_with r o) es ++ map (λ d. feature_change d (Loses (value.Object o))) (option_to_list q)))) [
        | None ↦ λ _. nothing-away p [] (flat_map (lost_with r o) es) refl outer
        | Some d ↦ λ held.
            kept-apart p (flat_map (lost_with r o) es) (feature_change d (Loses (value.Object o)) ∷ []) outer
            (apart_filter p (feature_change d (Loses (value.Object o)) ∷ []) (tt, tt)) (all-away d held es)
      ] refl

---------------------------------------------------------------- each change

pub singles-apart : (s : Model) (c : Change) → TellsNoSingleEndTwice s c
singles-apart s c legal early late =
    elim (takes_many (reading s) c) as (λ b. takes_many (reading s) c ≡ b → AreApart (filter (is_of_single s.metamodel) (feature_changes (reading s) c))) [
      | true ↦ λ many. by c early late many
      | false ↦ λ few. apart_filter (is_of_single s.metamodel) (feature_changes (reading s) c) (feature_changes-apart s c legal early late few)
    ] refl
  where
    not-true : (b : Bool) → not b ≡ true → b ≡ false
    not-true true h = absurd (false≢true h)
    not-true false h = refl

    by : (c : Change) → early_refusal (reading s) c ≡ None → late_refusal (reading s) c ≡ None → takes_many (reading s) c ≡ true → AreApart (filter (is_of_single s.metamodel) (feature_changes (reading s) c))
    by (At e Unset) early late many =
        let r = reading s in
        let list = not-true (shape s.metamodel e.feature).is_single many in
        let far = far_losses r (cut_link_ends r (At e Unset)) in
        subst (λ (b : Bool). AreApart (filter (is_of_single s.metamodel) (far ++ (if b then feature_change e Unsets ∷ [] else all_lost e (length (r.values e)))))) (sym list)
        (nothing-away (is_of_single s.metamodel) (all_lost e (length (r.values e))) far (none-lost s.metamodel e (length (r.values e)) list) (apart_filter (is_of_single s.metamodel) far (apart-front far (feature_change e Unsets ∷ []) (unset-apart s e.node e.feature Unsets legal))))
    by (Delete o) early late many = changes_of_delete-apart s legal o
    by ResolveAll early late many = proxies-apart (sites (reading s)) (reading s) legal.metamodel (single-few s legal)
    by (Load k doc) early late many = subst AreApart (sym (none-kept s.metamodel _ Gains _ (roots-many s k doc legal late))) tt
    by _ early late many = absurd (false≢true many)
