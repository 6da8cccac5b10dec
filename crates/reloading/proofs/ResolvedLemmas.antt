-- Each end after a proxy is resolved: an object is at the position of the proxy, at the opposite end too; everything else is as it was.
-- This is computed from the notifications of the change, which replay it.
use Rattle.std.proofs.Common.{◌≡◌, ◌∙◌, ℕ, zero, suc, not, Bool, true, false, IsTrue, List, [], ◌∷◌, ◌++◌, Option, Some, None, is_some, length, nat_lt, slice_get, slice_set, if◌then◌else◌, option_to_list, arith, refl, sym, ap, subst}
use Rattle.std.specs.Prelude.{option_and_then, option_map, position}
use Rattle.std.specs.List.{AllByRecursion, list_all}
use Rattle.std.specs.Option.{option_map_or}
use Rattle.std.proofs.lemmas.Bool.{and_parts, false≢true}
use Rattle.std.proofs.lemmas.Bool.Decides.{nat_tests}
use Rattle.std.proofs.lemmas.Option.{none-some, same_Some, slice_get_within}
use Rattle.mm_types.proofs.SameLemmas.{same_end-self, same_end-true}
use Rattle.mm_types.specs.Ends.{Ends, Held, shown_values}
use Rattle.mm_types.specs.Same.{is_feature, same_end}
use Rattle.mm_types.specs.Shapes.{Shape, is_containment, shape}
use Rattle.mm_types.specs.declared.end.End.{End}
use Rattle.mm_types.specs.declared.numbers.FeatureNo.{FeatureNo}
use Rattle.mm_types.specs.declared.numbers.Node.{Node}
use Rattle.mm_types.specs.declared.numbers.Node.TheVariants as node
use Rattle.mm_types.specs.declared.numbers.ObjectNo.{ObjectNo}
use Rattle.mm_types.specs.declared.value.Value.{Value}
use Rattle.mm_types.specs.declared.value.Value.TheVariants as value
use Rattle.links.specs.Links.{end, far_end, text_of}
use Rattle.models.specs.Legal.{IsLegal, is_legal_end, is_legal_target}
use Rattle.models.specs.Model.{Model, attribute_values, kept_values, reading, values_at}
use Rattle.models.specs.Reading.{Reading, at_end, held_at}
use Rattle.models.proofs.EndLemmas.{values-single}
use Rattle.containment.proofs.PartLemmas.{kinds-are, legal-at, values-linked}
use Rattle.fragment_paths.proofs.StayLemmas.{address-stays}
use Rattle.fragment_paths.specs.Finding.{at}
use Rattle.fragment_paths.specs.Fragments.{address}
use Rattle.handshake.specs.Effects.{model_after}
use Rattle.handshake.specs.Refusals.{early_refusal, late_refusal}
use Rattle.proxies.specs.Resolving.{counterpart, first_to, leads_to, target, target_at}
use Rattle.handshake.specs.FeatureChange.{values_after_change, ends_after_changes, feature_change}
use Rattle.handshake.specs.FeatureChanges.{changes_of_resolve, feature_changes}
use Rattle.handshake.specs.declared.change.Change.TheVariants.{At}
use Rattle.handshake.specs.declared.act.Act.TheVariants.{Resolve}
use Rattle.handshake.specs.declared.change_kind.ChangeKind.TheVariants.{Resolves}
use Rattle.handshake.specs.declared.change_kind.FeatureChange.{FeatureChange}
use Rattle.proxies.specs.declared.resolved_proxy.Counterpart.{Counterpart}
use Rattle.proxies.specs.declared.resolved_proxy.ResolvedProxy.{ResolvedProxy}
use Rattle.handshake.proofs.AllLemmas.{chain-replays}
use Rattle.handshake.proofs.HappenedLemmas.{done, done_at, done-here, done-other, ends_after_changes-at, happened_at}
use Rattle.handshake.proofs.KnownLemmas.{resolvable}
use Rattle.handshake.proofs.AllLemmas.{change-keeps-legal}
use Rattle.handshake.proofs.ReplayLemmas.{ends_after_notices-change_notices}
use Rattle.doc_writer.proofs.PlainLemmas.{reference-of}

---------------------------------------------------------------- what is shown

abbrev is_null : Value → Bool
is_null value.Null = true
is_null _ = false

-- values without nulls: the values that an end of a reference has, from those that it shows
abbrev unshown : List Value → List Value
unshown [] = []
unshown (v ∷ vs) = if is_null v then unshown vs else v ∷ unshown vs

-- none of them is null
abbrev AreSome : List Value → Type 0
AreSome vs = AllByRecursion (λ v. is_null v ≡ false) vs

target-some : (r : Reading) (f : FeatureNo) (v : Value) → is_legal_target r f v ≡ true → is_null v ≡ false
target-some r f value.Null h = absurd (false≢true h)
target-some r f (value.Object o) h = refl
target-some r f (value.Proxy t) h = refl
target-some r f (value.Bool x) h = refl
target-some r f (value.Int x) h = refl
target-some r f (value.Text x) h = refl
target-some r f (value.Literal x) h = refl

targets-some : (r : Reading) (f : FeatureNo) (vs : List Value) → list_all (is_legal_target r f) vs ≡ true → AreSome vs
targets-some r f [] all = tt
targets-some r f (v ∷ vs) all = let both = and_parts _ _ all in (target-some r f v both.0, targets-some r f vs both.1)

end-some : (r : Reading) (e : End) (vs : List Value) → IsTrue (is_legal_end r e vs) → AreSome vs
end-some r e [] h = tt
end-some r e (v ∷ vs) h = targets-some r e.feature (v ∷ vs) (and_parts _ _ (and_parts _ _ h).1).0

unshown-some : (vs : List Value) → AreSome vs → unshown vs ≡ vs
unshown-some [] all = refl
unshown-some (v ∷ vs) all = let rest = unshown-some vs all.1 in λ i. if all.0 i then unshown vs else v ∷ rest i

set-some : (vs : List Value) (i : ℕ) (v : Value) → AreSome vs → is_null v ≡ false → AreSome (slice_set vs i v)
set-some [] i v all some = tt
set-some (w ∷ ws) zero v all some = (some, all.1)
set-some (w ∷ ws) (suc i) v all some = (all.0, set-some ws i v all.1 some)

unshown-shown_values : (b : Bool) (vs : List Value) → AreSome vs → unshown (shown_values b vs) ≡ vs
unshown-shown_values true [] all = refl
unshown-shown_values false [] all = refl
unshown-shown_values true (v ∷ vs) all = unshown-some (v ∷ vs) all
unshown-shown_values false (v ∷ vs) all = unshown-some (v ∷ vs) all

values-some : (s : Model) → IsLegal s → (e : End) → (shape s.metamodel e.feature).is_reference ≡ true → AreSome (values_at s e)
values-some s legal e reference = subst AreSome (sym (values-linked s e reference)) (end-some (reading s) e (end s.links e) (legal.links.ends e))

-- the values of a reference are those that it shows, without null
from-shown : (s : Model) → IsLegal s → (e : End) → (shape s.metamodel e.feature).is_reference ≡ true → (vs : List Value) → (held_at (reading s) e).values ≡ vs → values_at s e ≡ unshown vs
from-shown s legal e reference vs is = sym (unshown-shown_values (shape s.metamodel e.feature).is_single (values_at s e) (values-some s legal e reference)) ∙ ap unshown is

-- the shown values after resolving
resolved-shown_values : (a : Shape) (vs : List Value) (i : ℕ) (p v : Value) → slice_get vs i ≡ Some p → (a.is_single ≡ true → vs ≡ option_to_list (slice_get vs 0)) → values_after_change a (Resolves i v) (shown_values a.is_single vs) ≡ slice_set vs i v
resolved-shown_values a [] i p v here one = absurd (none-some p here)
resolved-shown_values a (w ∷ ws) i p v here one =
    elim a.is_single as (λ b. a.is_single ≡ b → (if b then v ∷ [] else (if nat_lt i (length (shown_values b (w ∷ ws))) then slice_set (shown_values b (w ∷ ws)) i v else shown_values b (w ∷ ws))) ≡ slice_set (w ∷ ws) i v) [
      | true ↦ λ single. alone i ws here (one single)
      | false ↦ λ _.
          let within = slice_get_within (w ∷ ws) i p here in
          let low : nat_lt i (length (w ∷ ws)) ≡ true = grind (arith, nat_tests) in
          ap (λ (b : Bool). if b then slice_set (w ∷ ws) i v else w ∷ ws) low
    ] refl
  where
    alone : (j : ℕ) (us : List Value) → slice_get (w ∷ us) j ≡ Some p → w ∷ us ≡ w ∷ [] → v ∷ [] ≡ slice_set (w ∷ us) j v
    alone j (u ∷ us) at same = let long = ap (λ (xs : List Value). length xs) same in absurd (omega (arith, long))
    alone zero [] at same = refl
    alone (suc j) [] at same = absurd (none-some p at)

---------------------------------------------------------------- what is found

-- the counterpart is at the opposite end
pub counterpart-at : (r : Reading) (e : End) (o : ObjectNo) (c : Counterpart) → counterpart r e o ≡ Some c → (g : FeatureNo) × ((shape r.metamodel e.feature).opposite ≡ Some g) × (c.end ≡ far_end o g)
counterpart-at r e o c h = by (shape r.metamodel e.feature).opposite refl h
  where
    first : (g : FeatureNo) (q : Option ℕ) → option_map (λ j. record { end = far_end o g; index = j }) q ≡ Some c → c.end ≡ far_end o g
    first g None found = absurd (none-some c found)
    first g (Some j) found = ap (λ (x : Counterpart). x.end) (sym (same_Some (record { end = far_end o g; index = j }) c found))

    by : (q : Option FeatureNo) → (shape r.metamodel e.feature).opposite ≡ q → option_and_then (first_to r e.node) (option_map (far_end o) q) ≡ Some c → (g : FeatureNo) × ((shape r.metamodel e.feature).opposite ≡ Some g) × (c.end ≡ far_end o g)
    by None is found = absurd (none-some c found)
    by (Some g) is found = (g, is, first g (position (leads_to r e.node) (r.values (far_end o g))) found)

-- a target is found for a proxy, with the counterpart of its object
pub record IsTargetOf (r : Reading) (e : End) (i : ℕ) (x : ResolvedProxy) : Type 0 where
  pub text : List ℕ
  pub proxy : slice_get (r.values e) i ≡ Some (value.Proxy text)
  pub matched : x.counterpart ≡ counterpart r e x.object

pub target-is : (r : Reading) (e : End) (i : ℕ) (x : ResolvedProxy) → target_at r e i ≡ Some x → IsTargetOf r e i x
target-is r e i x h = by (slice_get (r.values e) i) refl h
  where
    led : (t : List ℕ) → slice_get (r.values e) i ≡ Some (value.Proxy t) → (q : Option ObjectNo) → option_map (target r e) q ≡ Some x → IsTargetOf r e i x
    led t is None found = absurd (none-some x found)
    led t is (Some o) found = subst (IsTargetOf r e i) (same_Some (target r e o) x found) (record { text = t; proxy = is; matched = refl })

    of : (v : Value) → slice_get (r.values e) i ≡ Some v → option_map (target r e) (option_and_then (at r) (text_of v)) ≡ Some x → IsTargetOf r e i x
    of (value.Proxy t) is found = led t is (at r t) found
    of _ is found = absurd (none-some x found)

    by : (q : Option Value) → slice_get (r.values e) i ≡ q → option_map (target r e) (option_and_then (at r) (option_and_then text_of q)) ≡ Some x → IsTargetOf r e i x
    by None is found = absurd (none-some x found)
    by (Some v) is found = of v is found

---------------------------------------------------------------- a resolve

module _ (s : Model) (legal : IsLegal s) (o : ObjectNo) (f : FeatureNo) (i : ℕ) (early : early_refusal (reading s) (At (at_end (node.Object o) f) (Resolve i)) ≡ None) (late : late_refusal (reading s) (At (at_end (node.Object o) f) (Resolve i)) ≡ None) where
  abbrev e : End
  e = at_end (node.Object o) f

  abbrev t : Model
  t = model_after s (At (at_end (node.Object o) f) (Resolve i))

  pub resolved-legal : IsLegal (model_after s (At (at_end (node.Object o) f) (Resolve i)))
  resolved-legal = change-keeps-legal s (At (at_end (node.Object o) f) (Resolve i)) legal early late tt tt

  module _ (x : ResolvedProxy) (is : target_at (reading s) (at_end (node.Object o) f) i ≡ Some x) where
    now-held : (d : End) → held_at (reading t) d ≡ happened_at s.metamodel (changes_of_resolve e i x) d (held_at (reading s) d)
    now-held d =
        sym (chain-replays s (At (at_end (node.Object o) f) (Resolve i)) legal early late tt d refl refl)
        ∙ ap (λ (q : Ends). q d) (ends_after_notices-change_notices s.metamodel (held_at (reading s)) (feature_changes (reading s) (At (at_end (node.Object o) f) (Resolve i))))
        ∙ ap (λ (q : Option ResolvedProxy). ends_after_changes s.metamodel (held_at (reading s)) (option_map_or (changes_of_resolve e i) q []) d) is
        ∙ ends_after_changes-at s.metamodel (held_at (reading s)) (changes_of_resolve e i x) d

    -- the counterpart is at an end
    abbrev pub is_far : End → Bool
    is_far d = option_map_or (λ (c : Counterpart). same_end c.end d) x.counterpart false

    abbrev far_feature_changes : Option Counterpart → List FeatureChange
    far_feature_changes q = option_map_or (λ c. feature_change c.end (Resolves c.index (value.Object o)) ∷ []) q []

    abbrev own_feature_change : FeatureChange
    own_feature_change = feature_change (at_end (node.Object o) f) (Resolves i (value.Object x.object))

    far-silent : (q : Option Counterpart) (d : End) (h : Held) → option_map_or (λ (c : Counterpart). same_end c.end d) q false ≡ false
        → happened_at s.metamodel (far_feature_changes q ++ own_feature_change ∷ []) d h ≡ done_at s.metamodel d own_feature_change h
    far-silent None d h other = refl
    far-silent (Some c) d h other = ap (done_at s.metamodel d own_feature_change) (done-other s.metamodel d (feature_change c.end (Resolves c.index (value.Object o))) h other)

    -- all other ends are as they were
    pub other-values : (d : End) → same_end e d ≡ false → is_far d ≡ false → values_at t d ≡ values_at s d
    other-values d own far =
        let kept : List Value = attribute_values (shape s.metamodel d.feature) (kept_values s.values d.node d.feature) in
        elim (shape s.metamodel d.feature).is_reference as (λ b. (shape s.metamodel d.feature).is_reference ≡ b → values_at t d ≡ values_at s d) [
          | true ↦ λ reference.
              let same = now-held d ∙ far-silent x.counterpart d (held_at (reading s) d) far ∙ done-other s.metamodel d own_feature_change (held_at (reading s) d) own in
              from-shown t resolved-legal d reference (held_at (reading s) d).values (ap (λ (h : Held). h.values) same)
              ∙ sym (from-shown s legal d reference (held_at (reading s) d).values refl)
          | false ↦ λ attribute. ap (λ (b : Bool). if b then end t.links d else kept) attribute ∙ sym (ap (λ (b : Bool). if b then end s.links d else kept) attribute)
        ] refl

    written : (d : End) (k : ℕ) (b : ObjectNo) (p : Value) → (shape s.metamodel d.feature).is_reference ≡ true → slice_get (values_at s d) k ≡ Some p
        → held_at (reading t) d ≡ done (shape s.metamodel d.feature) (Resolves k (value.Object b)) (held_at (reading s) d) → values_at t d ≡ slice_set (values_at s d) k (value.Object b)
    written d k b p reference here now =
        from-shown t resolved-legal d reference (slice_set (values_at s d) k (value.Object b))
        (ap (λ (h : Held). h.values) now ∙ resolved-shown_values (shape s.metamodel d.feature) (values_at s d) k p (value.Object b) here (λ single. values-single s d legal reference single))
        ∙ unshown-some (slice_set (values_at s d) k (value.Object b)) (set-some (values_at s d) k (value.Object b) (values-some s legal d reference) refl)

    -- the object is at the position of the proxy
    pub own-values : is_far e ≡ false → values_at t e ≡ slice_set (values_at s e) i (value.Object x.object)
    own-values far =
        let found = target-is (reading s) e i x is in
        written e i x.object (value.Proxy found.text) (reference-of s legal e i (value.Proxy found.text) found.proxy refl) found.proxy
        (now-held e ∙ far-silent x.counterpart e (held_at (reading s) e) far ∙ done-here s.metamodel e own_feature_change (held_at (reading s) e) (same_end-self e))

    -- the owner is at the position of its counterpart
    pub far-values : (c : Counterpart) (p : List ℕ) → x.counterpart ≡ Some c → slice_get (values_at s c.end) c.index ≡ Some (value.Proxy p) → same_end e c.end ≡ false
        → values_at t c.end ≡ slice_set (values_at s c.end) c.index (value.Object o)
    far-values c p there here apart =
        let d = c.end in
        let told = feature_change c.end (Resolves c.index (value.Object o)) in
        let h = held_at (reading s) d in
        written d c.index o (value.Proxy p) (reference-of s legal d c.index (value.Proxy p) here refl) here
        (now-held d
        ∙ ap (λ (q : Option Counterpart). happened_at s.metamodel (far_feature_changes q ++ own_feature_change ∷ []) d h) there
        ∙ done-other s.metamodel d own_feature_change (done_at s.metamodel d told h) apart
        ∙ done-here s.metamodel d told h (same_end-self d))

    ---------------------------------------------------------------- what contains

    -- neither end is a containment
    own-alone : (shape s.metamodel f).containing ≡ None
    own-alone =
        let found = target-is (reading s) e i x is in
        let reference = reference-of s legal e i (value.Proxy found.text) found.proxy refl in
        let may = (legal-at (reading s) e (end s.links e) i (value.Proxy found.text) (legal.links.ends e) (ap (λ (vs : List Value). slice_get vs i) (sym (values-linked s e reference)) ∙ found.proxy)).1 in
        none-of (shape s.metamodel f).containing (and_parts (shape s.metamodel f).is_reference (not (is_some (shape s.metamodel f).containing)) may).1
      where
        none-of : (q : Option FeatureNo) → not (is_some q) ≡ true → q ≡ None
        none-of None h = refl
        none-of (Some g) h = absurd (false≢true h)

    far-alone : (c : Counterpart) → x.counterpart ≡ Some c → (shape s.metamodel c.end.feature).containing ≡ None
    far-alone c there =
        let g = counterpart-at (reading s) e x.object c (sym (target-is (reading s) e i x is).matched ∙ there) in
        ap (λ (d : End). (shape s.metamodel d.feature).containing) g.2 ∙ sym ((kinds-are s.metamodel legal.metamodel).one_container f g.0 g.1) ∙ own-alone

    contains-apart : (d y : End) → is_containment s.metamodel y.feature ≡ true → (shape s.metamodel d.feature).containing ≡ None → same_end d y ≡ false
    contains-apart d y contains alone =
        elim (same_end d y) as (λ b. same_end d y ≡ b → b ≡ false) [
          | true ↦ λ same.
              let here = ap (λ (z : End). (shape s.metamodel z.feature).containing) (sym (same_end-true d y same)) ∙ alone in
              absurd (false≢true (sym (ap (is_feature y.feature) here) ∙ contains))
          | false ↦ λ _. refl
        ] refl

    -- so all containments are as they were
    pub parts-kept : (n : Node) (h : FeatureNo) → is_containment s.metamodel h ≡ true → values_at t (at_end n h) ≡ values_at s (at_end n h)
    parts-kept n h contains = other-values (at_end n h) (contains-apart e (at_end n h) contains own-alone) (by x.counterpart refl)
      where
        by : (q : Option Counterpart) → x.counterpart ≡ q → option_map_or (λ (c : Counterpart). same_end c.end (at_end n h)) q false ≡ false
        by None is = refl
        by (Some c) is = contains-apart c.end (at_end n h) contains (far-alone c is)

    -- all addresses are as they were
    pub address-kept : (y : ObjectNo) → address (reading t) y ≡ address (reading s) y
    address-kept y = address-stays s.metamodel s.values t.values s.links t.links legal resolved-legal parts-kept refl y

  pub addresses-kept : (y : ObjectNo) → address (reading t) y ≡ address (reading s) y
  addresses-kept y = let found = resolvable (reading s) e i late in address-kept found.target found.is y
