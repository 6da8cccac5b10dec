-- After a proxy is resolved, the model is partly resolved as before. All values mean the same, and a link with an opposite that has lost
-- the proxy at one end has lost the proxy at the other end too.
use Rattle.std.proofs.Common.{◌≡◌, ◌∙◌, ℕ, suc, ◌+◌, Bool, true, false, List, Option, Some, None, is_some, map, slice_get, slice_set, if◌then◌else◌, arith, refl, sym, ap, subst}
use Rattle.std.specs.Prelude.{option_and_then, option_map}
use Rattle.std.specs.Option.{option_map_or}
use Rattle.std.specs.Str.{bytes_eq}
use Rattle.std.proofs.lemmas.Bool.{false≢true}
use Rattle.std.proofs.lemmas.Option.{none-some, same_Some}
use Rattle.std.proofs.lemmas.Slice.Eq.{bytes_eq-Decides}
use Rattle.mm_types.specs.Ends.{has_value}
use Rattle.mm_types.specs.Same.{same_end}
use Rattle.mm_types.specs.Shapes.{shape}
use Rattle.mm_types.specs.declared.end.End.{End}
use Rattle.mm_types.specs.declared.numbers.FeatureNo.{FeatureNo}
use Rattle.mm_types.specs.declared.numbers.Node.TheVariants as node
use Rattle.mm_types.specs.declared.numbers.ObjectNo.{ObjectNo}
use Rattle.mm_types.specs.declared.value.Value.{Value}
use Rattle.mm_types.specs.declared.value.Value.TheVariants as value
use Rattle.mm_types.proofs.SameLemmas.{same_end-self, same_end-true}
use Rattle.links.specs.Links.{far_end}
use Rattle.models.specs.Legal.{IsLegal}
use Rattle.models.specs.Model.{Model, model_of, reading, values_at}
use Rattle.models.specs.Reading.{at_end, roots_end}
use Rattle.containment.proofs.DistinctLemmas.{features-distinct}
use Rattle.containment.proofs.PartLemmas.{kinds-are, values-linked}
use Rattle.containment.specs.Forest.{object_of_node}
use Rattle.fragment_paths.proofs.StayLemmas.{one-address}
use Rattle.fragment_paths.specs.Fragments.{address}
use Rattle.round_trip.proofs.ListLemmas.{each-of, map-each}
use Rattle.handshake.specs.Effects.{model_after}
use Rattle.handshake.specs.Refusals.{early_refusal, late_refusal}
use Rattle.proxies.specs.Resolving.{counterpart, first_to, target, target_at}
use Rattle.handshake.specs.declared.change.Change.TheVariants.{At}
use Rattle.handshake.specs.declared.act.Act.TheVariants.{Resolve}
use Rattle.proxies.specs.declared.resolved_proxy.Counterpart.{Counterpart}
use Rattle.reloading.specs.Addressed.{By, meant_value}
use Rattle.reloading.specs.Alike.{HasSame, HaveSame, IsThere}
use Rattle.reloading.specs.Between.{AreBothOrNone, Between, has_proxy}
use Rattle.reloading.specs.Proxies.{proxies_len}
use Rattle.reloading.proofs.LeftLemmas.{of-features, one-fewer, with_values}
use Rattle.reloading.proofs.MatchLemmas.{IsMatched, LeftProxy, early-none, from, goal, goal-at, goal-target, late-none, matched, place, reference}
use Rattle.doc_writer.proofs.PlainLemmas.{reference-of}
use Rattle.reloading.proofs.ListLemmas.{IsSet, New, Old, proxy-object, set-at, set-gone, set-name, set-other}
use Rattle.reloading.proofs.ResolvedLemmas.{addresses-kept, far-values, other-values, own-values, resolved-legal}

---------------------------------------------------------------- after a resolve

module _ (left : LeftProxy) where
  open left use {s, w, c, legal, other, between, p, f, i, text, here}
  open place left use {t, e}

  abbrev aim : ObjectNo
  aim = goal left

  -- the text of the owner's address
  abbrev own_text : List ℕ
  own_text = (from left).text

  own-at : address (reading t) p ≡ Some own_text
  own-at = (from left).now

  aim-at : address (reading t) aim ≡ Some text
  aim-at = goal-at left

  abbrev u : Model
  u = model_after (model_of s.metamodel w c) (At (at_end (node.Object p) f) (Resolve i))

  early : early_refusal (reading t) (At (at_end (node.Object p) f) (Resolve i)) ≡ None
  early = early-none left

  late : late_refusal (reading t) (At (at_end (node.Object p) f) (Resolve i)) ≡ None
  late = late-none left

  found : target_at (reading t) e i ≡ Some (target (reading t) e aim)
  found = goal-target left

  refers : (shape s.metamodel f).is_reference ≡ true
  refers = reference left

  pub now-legal : IsLegal u
  now-legal = resolved-legal t other p f i early late

  kept : (y : ObjectNo) → address (reading u) y ≡ address (reading t) y
  kept y = addresses-kept t other p f i early late y

  ---------------------------------------------------------------- ends

  abbrev is_far : End → Bool
  is_far d = option_map_or (λ (x : Counterpart). same_end x.end d) (counterpart (reading (model_of s.metamodel w c)) (at_end (node.Object p) f) aim) false

  mate : (g : FeatureNo) → (shape s.metamodel f).opposite ≡ Some g → IsMatched left g
  mate g pair = matched left g pair

  far-is : (g : FeatureNo) → (shape s.metamodel f).opposite ≡ Some g → (d : End) → is_far d ≡ same_end (far_end aim g) d
  far-is g pair d = ap (λ (q : Option Counterpart). option_map_or (λ (x : Counterpart). same_end x.end d) q false) (mate g pair).found

  far-none : (shape s.metamodel f).opposite ≡ None → (d : End) → is_far d ≡ false
  far-none alone d = ap (λ (q : Option FeatureNo). option_map_or (λ (x : Counterpart). same_end x.end d) (option_and_then (first_to (reading t) (node.Object p)) (option_map (far_end aim) q)) false) alone

  -- the two ends of a link are different
  ends-apart : (g : FeatureNo) → (shape s.metamodel f).opposite ≡ Some g → same_end (far_end aim g) e ≡ false
  ends-apart g pair =
      elim (same_end (far_end aim g) e) as (λ b. same_end (far_end aim g) e ≡ b → b ≡ false) [
        | true ↦ λ same. absurd ((kinds-are s.metamodel legal.metamodel).two f g pair (ap (λ (x : End). x.feature.0) (same_end-true (far_end aim g) e same)))
        | false ↦ λ _. refl
      ] refl

  turned-apart : (g : FeatureNo) → (shape s.metamodel f).opposite ≡ Some g → same_end e (far_end aim g) ≡ false
  turned-apart g pair =
      elim (same_end e (far_end aim g)) as (λ b. same_end e (far_end aim g) ≡ b → b ≡ false) [
        | true ↦ λ same. absurd ((kinds-are s.metamodel legal.metamodel).two f g pair (ap (λ (x : End). x.feature.0) (sym (same_end-true e (far_end aim g) same))))
        | false ↦ λ _. refl
      ] refl

  own-not-far : is_far e ≡ false
  own-not-far = by (shape s.metamodel f).opposite refl
    where
      by : (x : Option FeatureNo) → (shape s.metamodel f).opposite ≡ x → is_far e ≡ false
      by None alone = far-none alone e
      by (Some g) pair = far-is g pair e ∙ ends-apart g pair

  end-own : values_at u e ≡ slice_set (values_at t e) i (value.Object aim)
  end-own = own-values t other p f i early late (target (reading t) e aim) found own-not-far

  end-far : (g : FeatureNo) (pair : (shape s.metamodel f).opposite ≡ Some g) → values_at u (far_end aim g) ≡ slice_set (values_at t (far_end aim g)) (mate g pair).index (value.Object p)
  end-far g pair =
      far-values t other p f i early late (target (reading t) e aim) found (record { end = far_end aim g; index = (mate g pair).index }) own_text (mate g pair).found (mate g pair).proxy (turned-apart g pair)

  end-else : (d : End) → same_end e d ≡ false → is_far d ≡ false → values_at u d ≡ values_at t d
  end-else d own far = other-values t other p f i early late (target (reading t) e aim) found d own far

  not-two : (g : FeatureNo) (d : End) → (shape s.metamodel f).opposite ≡ Some g → d ≡ e → d ≡ far_end aim g → ⊥
  not-two g d pair own far = false≢true (sym (ends-apart g pair) ∙ ap (λ (x : End). same_end x e) (sym far ∙ own) ∙ same_end-self e)

  -- an end is the end of the proxy, the end of its match, or as it was
  data IsEnd (d : End) : Type 0 where
    Own : d ≡ e → values_at u d ≡ slice_set (values_at t d) i (value.Object aim) → slice_get (values_at t d) i ≡ Some (value.Proxy text) → IsEnd d
    Far : (g : FeatureNo) (j : ℕ) → (shape s.metamodel f).opposite ≡ Some g → d ≡ far_end aim g → values_at u d ≡ slice_set (values_at t d) j (value.Object p) → slice_get (values_at t d) j ≡ Some (value.Proxy own_text) → IsEnd d
    Else : (d ≡ e → ⊥) → ((g : FeatureNo) → (shape s.metamodel f).opposite ≡ Some g → d ≡ far_end aim g → ⊥) → values_at u d ≡ values_at t d → IsEnd d

  own-case : IsEnd e
  own-case = Own refl end-own here

  far-case : (g : FeatureNo) → (shape s.metamodel f).opposite ≡ Some g → IsEnd (far_end aim g)
  far-case g pair = Far g (mate g pair).index pair refl (end-far g pair) (mate g pair).proxy

  end-after : (d : End) → IsEnd d
  end-after d =
      elim (same_end e d) as (λ b. same_end e d ≡ b → IsEnd d) [
        | true ↦ λ same. subst IsEnd (same_end-true e d same) own-case
        | false ↦ λ own. by own (shape s.metamodel f).opposite refl
      ] refl
    where
      not-own : same_end e d ≡ false → d ≡ e → ⊥
      not-own own same = false≢true (sym own ∙ ap (same_end e) same ∙ same_end-self e)

      by : same_end e d ≡ false → (x : Option FeatureNo) → (shape s.metamodel f).opposite ≡ x → IsEnd d
      by own None alone = Else (not-own own) (λ g pair same. none-some g (sym alone ∙ pair)) (end-else d own (far-none alone d))
      by own (Some g) pair =
          elim (same_end (far_end aim g) d) as (λ b. same_end (far_end aim g) d ≡ b → IsEnd d) [
            | true ↦ λ same. subst IsEnd (same_end-true (far_end aim g) d same) (far-case g pair)
            | false ↦ λ far.
                Else (not-own own)
                (λ h over same. false≢true (sym far ∙ ap (λ (x : FeatureNo). same_end (far_end aim x) d) (same_Some g h (sym pair ∙ over)) ∙ ap (same_end (far_end aim h)) same ∙ same_end-self (far_end aim h)))
                (end-else d own (far-is g pair d ∙ far))
          ] refl

  -- a proxy after the resolve existed before, and is not the one that was resolved
  pub proxy-was : (d : End) (k : ℕ) (z : List ℕ) → slice_get (values_at u d) k ≡ Some (value.Proxy z) → (slice_get (values_at t d) k ≡ Some (value.Proxy z)) × (d ≡ e → k ≡ i → ⊥)
  proxy-was d k z at = by (end-after d)
    where
      old : (j : ℕ) (o : ObjectNo) → values_at u d ≡ slice_set (values_at t d) j (value.Object o) → (slice_get (values_at t d) k ≡ Some (value.Proxy z)) × (k ≡ j → ⊥)
      old j o now = of (set-at (values_at t d) j (value.Object o) (value.Proxy z) k (ap (λ (vs : List Value). slice_get vs k) (sym now) ∙ at))
        where
          of : IsSet (values_at t d) j (value.Object o) (value.Proxy z) k → (slice_get (values_at t d) k ≡ Some (value.Proxy z)) × (k ≡ j → ⊥)
          of (New same) = absurd (proxy-object z o same)
          of (Old other there) = (there, other)

      by : IsEnd d → (slice_get (values_at t d) k ≡ Some (value.Proxy z)) × (d ≡ e → k ≡ i → ⊥)
      by (Own is now was) = let x = old i aim now in (x.0, λ same. x.1)
      by (Far g j pair is now was) = let x = old j p now in (x.0, λ same index. not-two g d pair same is)
      by (Else own far now) = (ap (λ (vs : List Value). slice_get vs k) (sym now) ∙ at, λ same index. own same)

  ---------------------------------------------------------------- what all means

  meant_value-kept : (x : Value) → meant_value (reading u) x ≡ meant_value (reading t) x
  meant_value-kept (value.Object o) = ap By (kept o)
  meant_value-kept _ = refl

  names-kept : (d : End) → map (meant_value (reading u)) (values_at u d) ≡ map (meant_value (reading t)) (values_at t d)
  names-kept d = map-each (meant_value (reading u)) (meant_value (reading t)) (values_at u d) (each-of _ (values_at u d) (λ x there. meant_value-kept x)) ∙ by (end-after d)
    where
      by : IsEnd d → map (meant_value (reading t)) (values_at u d) ≡ map (meant_value (reading t)) (values_at t d)
      by (Own is now was) = ap (map (meant_value (reading t))) now ∙ set-name (meant_value (reading t)) (values_at t d) i (value.Proxy text) (value.Object aim) was (ap By aim-at)
      by (Far g j pair is now was) = ap (map (meant_value (reading t))) now ∙ set-name (meant_value (reading t)) (values_at t d) j (value.Proxy own_text) (value.Object p) was (ap By own-at)
      by (Else own far now) = ap (map (meant_value (reading t))) now

  same-still : (o q : ObjectNo) → HasSame meant_value (reading s) (reading t) o q → HasSame meant_value (reading s) (reading u) o q
  same-still o q h = record { class = h.class; values = λ g. names-kept (at_end (node.Object q) g) ∙ h.values g; flags = h.flags }

  there-still : (o : ObjectNo) (x : List ℕ) → IsThere meant_value (reading s) (reading t) o x → IsThere meant_value (reading s) (reading u) o x
  there-still o x h = record { object = h.object; at = kept h.object ∙ h.at; same = same-still o h.object h.same }

  all-still : HaveSame meant_value (reading s) (reading u)
  all-still = record {
    uris = between.same.uris;
    roots = λ x k j first second. names-kept (roots_end (reading t) j) ∙ between.same.roots x k j first second;
    there = λ o x at. there-still o x (between.same.there o x at);
    back = λ q x at. between.same.back q x (sym (kept q) ∙ at);
  }

  ---------------------------------------------------------------- pairs

  -- the proxy with a text is no longer at an end
  data IsGone (d : End) (z : List ℕ) : Type 0 where
    FromOwn : d ≡ e → z ≡ text → IsGone d z
    FromFar : (g : FeatureNo) → (shape s.metamodel f).opposite ≡ Some g → d ≡ far_end aim g → z ≡ own_text → IsGone d z

  data HasAfter (d : End) (z : List ℕ) : Type 0 where
    Gone : IsGone d z → has_value (values_at u d) (value.Proxy z) ≡ false → HasAfter d z
    Kept : (IsGone d z → ⊥) → has_value (values_at u d) (value.Proxy z) ≡ has_value (values_at t d) (value.Proxy z) → HasAfter d z

  distinct : (d : End) → (shape s.metamodel d.feature).is_reference ≡ true → (j k : ℕ) (x : Value) → slice_get (values_at t d) j ≡ Some x → slice_get (values_at t d) k ≡ Some x → j ≡ k
  distinct d refers j k x first second =
      let linked = values-linked t d refers in
      other.links.set.placed.distinct d j k x (ap (λ (vs : List Value). slice_get vs j) (sym linked) ∙ first) (ap (λ (vs : List Value). slice_get vs k) (sym linked) ∙ second)

  gone : (d : End) (j : ℕ) (o : ObjectNo) (z : List ℕ) → values_at u d ≡ slice_set (values_at t d) j (value.Object o) → slice_get (values_at t d) j ≡ Some (value.Proxy z) → has_value (values_at u d) (value.Proxy z) ≡ false
  gone d j o z now was =
      ap (λ (vs : List Value). has_value vs (value.Proxy z)) now
      ∙ set-gone (values_at t d) j (value.Proxy z) (value.Object o) (distinct d (reference-of t other d j (value.Proxy z) was refl)) was (proxy-object z o)

  stays : (d : End) (j : ℕ) (o : ObjectNo) (z y : List ℕ) → values_at u d ≡ slice_set (values_at t d) j (value.Object o) → slice_get (values_at t d) j ≡ Some (value.Proxy z) → bytes_eq y z ≡ false
      → has_value (values_at u d) (value.Proxy y) ≡ has_value (values_at t d) (value.Proxy y)
  stays d j o z y now was apart = ap (λ (vs : List Value). has_value vs (value.Proxy y)) now ∙ set-other (values_at t d) j (value.Proxy z) (value.Object o) (value.Proxy y) was apart refl

  not-same : (y z : List ℕ) → bytes_eq y z ≡ false → y ≡ z → ⊥
  not-same y z apart same = false≢true (sym apart ∙ (bytes_eq-Decides y z).1 same)

  has-after : (d : End) (z : List ℕ) → HasAfter d z
  has-after d z = by (end-after d)
    where
      by : IsEnd d → HasAfter d z
      by (Own is now was) =
          elim (bytes_eq z text) as (λ b. bytes_eq z text ≡ b → HasAfter d z) [
            | true ↦ λ same.
                let own = (bytes_eq-Decides z text).0 same in
                Gone (FromOwn is own) (ap (λ (y : List ℕ). has_value (values_at u d) (value.Proxy y)) own ∙ gone d i aim text now was)
            | false ↦ λ apart. Kept (no-own is apart) (stays d i aim text z now was apart)
          ] refl
        where
          no-own : d ≡ e → bytes_eq z text ≡ false → IsGone d z → ⊥
          no-own at apart (FromOwn at_own same) = not-same z text apart same
          no-own at apart (FromFar g pair far same) = not-two g d pair at far
      by (Far g j pair is now was) =
          elim (bytes_eq z own_text) as (λ b. bytes_eq z own_text ≡ b → HasAfter d z) [
            | true ↦ λ same.
                let own = (bytes_eq-Decides z own_text).0 same in
                Gone (FromFar g pair is own) (ap (λ (y : List ℕ). has_value (values_at u d) (value.Proxy y)) own ∙ gone d j p own_text now was)
            | false ↦ λ apart. Kept (no-far is apart) (stays d j p own_text z now was apart)
          ] refl
        where
          no-far : d ≡ far_end aim g → bytes_eq z own_text ≡ false → IsGone d z → ⊥
          no-far at apart (FromOwn at_own same) = not-two g d pair at_own at
          no-far at apart (FromFar h over far same) = not-same z own_text apart same
      by (Else own far now) = Kept neither (ap (λ (vs : List Value). has_value vs (value.Proxy z)) now)
        where
          neither : IsGone d z → ⊥
          neither (FromOwn at same) = own at
          neither (FromFar g pair at same) = far g pair at

  -- if the proxy of a link is gone from one end, it is gone from the other
  gone-over : (h k : FeatureNo) (x y : ObjectNo) (a b : List ℕ) → (shape s.metamodel h).opposite ≡ Some k → address (reading t) x ≡ Some a → address (reading t) y ≡ Some b
      → IsGone (at_end (node.Object x) h) b → IsGone (at_end (node.Object y) k) a
  gone-over h k x y a b pair at_x at_y (FromOwn is same) =
      let owner : x ≡ p = same_Some x p (ap (λ (d : End). object_of_node d.node) is) in
      let feature : h ≡ f = ap (λ (d : End). d.feature) is in
      let far : y ≡ aim = one-address t other y aim text (at_y ∙ ap (λ (z : List ℕ). Some z) same) aim-at in
      FromFar k (ap (λ (z : FeatureNo). (shape s.metamodel z).opposite) (sym feature) ∙ pair) (ap (λ (z : ObjectNo). at_end (node.Object z) k) far)
      (same_Some a own_text (sym at_x ∙ ap (address (reading t)) owner ∙ own-at))
  gone-over h k x y a b pair at_x at_y (FromFar g over is same) =
      let owner : x ≡ aim = same_Some x aim (ap (λ (d : End). object_of_node d.node) is) in
      let feature : h ≡ g = ap (λ (d : End). d.feature) is in
      let back = (kinds-are s.metamodel legal.metamodel).inverse f g over in
      let far : y ≡ p = one-address t other y p own_text (at_y ∙ ap (λ (z : List ℕ). Some z) same) own-at in
      let own : k ≡ f = same_Some k f (sym pair ∙ ap (λ (z : FeatureNo). (shape s.metamodel z).opposite) feature ∙ back) in
      FromOwn (λ j. at_end (node.Object (far j)) (own j)) (same_Some a text (sym at_x ∙ ap (address (reading t)) owner ∙ aim-at))

  pairs-still : AreBothOrNone (reading s) (reading u)
  pairs-still h k o b x y a z pair there at_o at_b now_x now_y =
      by (has-after (at_end (node.Object x) h) z) (has-after (at_end (node.Object y) k) a)
    where
      at-x : address (reading t) x ≡ Some a
      at-x = sym (kept x) ∙ now_x

      at-y : address (reading t) y ≡ Some z
      at-y = sym (kept y) ∙ now_y

      by : HasAfter (at_end (node.Object x) h) z → HasAfter (at_end (node.Object y) k) a → has_proxy (reading u) x h z ≡ has_proxy (reading u) y k a
      by (Gone first none_here) (Gone second none_there) = none_here ∙ sym none_there
      by (Gone first none_here) (Kept not_gone same) = absurd (not_gone (gone-over h k x y a z pair at-x at-y first))
      by (Kept not_gone same) (Gone second none_there) = absurd (not_gone (gone-over k h y x z a ((kinds-are s.metamodel legal.metamodel).inverse h k pair) at-y at-x second))
      by (Kept not_gone same) (Kept not_there same_there) = same ∙ between.pairs h k o b x y a z pair there at_o at_b at-x at-y ∙ sym same_there

  pub between-after : Between (reading s) (reading u)
  between-after = record { same = all-still; pairs = pairs-still; inside = λ q h. ap (λ (x : Option (List ℕ)). is_some x) (kept q) ∙ between.inside q h }

  ---------------------------------------------------------------- fewer are left

  abbrev near_values : End → List Value
  near_values d = if same_end (at_end (node.Object p) f) d then slice_set (values_at (model_of s.metamodel w c) (at_end (node.Object p) f)) i (value.Object aim) else values_at (model_of s.metamodel w c) d

  near-fewer : proxies_len (reading t) ≡ suc (proxies_len (with_values (reading t) near_values))
  near-fewer =
      let at = of-features t other p f i (value.Proxy text) refers here in
      one-fewer (reading t) p f i text (value.Object aim) near_values here refl (λ d. refl) at.low at.index at.own (features-distinct t other (node.Object p))

  alone-fewer : (shape s.metamodel f).opposite ≡ None → proxies_len (reading t) ≡ suc (proxies_len (reading u))
  alone-fewer alone =
      let at = of-features t other p f i (value.Proxy text) refers here in
      one-fewer (reading t) p f i text (value.Object aim) (values_at u) here refl now at.low at.index at.own (features-distinct t other (node.Object p))
    where
      now : (d : End) → values_at u d ≡ near_values d
      now d = elim (same_end e d) as (λ b. same_end e d ≡ b → values_at u d ≡ (if b then slice_set (values_at t e) i (value.Object aim) else values_at t d)) [
        | true ↦ λ same. ap (values_at u) (sym (same_end-true e d same)) ∙ end-own
        | false ↦ λ own. end-else d own (far-none alone d)
      ] refl

  module _ (g : FeatureNo) (pair : (shape s.metamodel f).opposite ≡ Some g) where
    abbrev d : End
    d = far_end aim g

    abbrev index : ℕ
    index = (mate g pair).index

    d-near : near_values d ≡ values_at t d
    d-near = ap (λ (b : Bool). if b then slice_set (values_at t e) i (value.Object aim) else values_at t d) (turned-apart g pair)

    far-now : (y : End) → values_at u y ≡ (if same_end d y then slice_set (near_values d) index (value.Object p) else near_values y)
    far-now y = elim (same_end d y) as (λ b. same_end d y ≡ b → values_at u y ≡ (if b then slice_set (near_values d) index (value.Object p) else near_values y)) [
      | true ↦ λ same. ap (values_at u) (sym (same_end-true d y same)) ∙ end-far g pair ∙ sym (ap (λ (vs : List Value). slice_set vs index (value.Object p)) d-near)
      | false ↦ λ far.
          elim (same_end e y) as (λ b. same_end e y ≡ b → values_at u y ≡ (if b then slice_set (values_at t e) i (value.Object aim) else values_at t y)) [
            | true ↦ λ same. ap (values_at u) (sym (same_end-true e y same)) ∙ end-own
            | false ↦ λ own. end-else y own (far-is g pair y ∙ far)
          ] refl
    ] refl

    far-fewer : proxies_len (with_values (reading t) near_values) ≡ suc (proxies_len (reading u))
    far-fewer =
        let there = (mate g pair).proxy in
        let at = of-features t other aim g index (value.Proxy own_text) (reference-of t other d index (value.Proxy own_text) there refl) there in
        one-fewer (with_values (reading t) near_values) aim g index own_text (value.Object p) (values_at u) (ap (λ (vs : List Value). slice_get vs index) d-near ∙ there) refl far-now at.low at.index at.own (features-distinct t other (node.Object aim))

  pub fewer-left : proxies_len (reading t) ≡ (if is_some (shape s.metamodel f).opposite then 2 else 1) + proxies_len (reading u)
  fewer-left = by (shape s.metamodel f).opposite refl
    where
      by : (x : Option FeatureNo) → (shape s.metamodel f).opposite ≡ x → proxies_len (reading t) ≡ (if is_some x then 2 else 1) + proxies_len (reading u)
      by None alone = let one = alone-fewer alone in omega (arith, one)
      by (Some g) pair = let one = near-fewer in let two = far-fewer g pair in omega (arith, one, two)
