-- In a partly resolved model, the text that a value means leads to an object of the saved model, and a value of that object leads back to a
-- value here, at the same position.
use Rattle.std.proofs.Common.{◌≡◌, ◌∙◌, ℕ, zero, suc, Bool, true, false, List, [], ◌∷◌, Option, Some, None, is_some, map, slice_get, refl, sym, ap, subst}
use Rattle.std.specs.Prelude.{option_map}
use Rattle.std.specs.Option.{option_map_or}
use Rattle.std.proofs.lemmas.Bool.{false≢true}
use Rattle.std.proofs.lemmas.Option.{none-some}
use Rattle.mm_types.specs.Shapes.{shape}
use Rattle.mm_types.specs.declared.numbers.FeatureNo.{FeatureNo}
use Rattle.mm_types.specs.declared.numbers.Node.TheVariants as node
use Rattle.mm_types.specs.declared.numbers.ObjectNo.{ObjectNo}
use Rattle.mm_types.specs.declared.value.Value.{Value}
use Rattle.mm_types.specs.declared.value.Value.TheVariants as value
use Rattle.mm_types.specs.Lookups as lookups
use Rattle.mm_values.specs.Values.{ValuesState, class_of}
use Rattle.links.specs.Links.{Links, end}
use Rattle.models.specs.Legal.{IsLegal}
use Rattle.models.specs.Model.{Model, model_of, reading, values_at}
use Rattle.models.specs.Reading.{Reading, at_end, has_feature, is_live}
use Rattle.containment.proofs.PartLemmas.{legal-at, values-linked}
use Rattle.fragment_paths.proofs.StayLemmas.{address-finds, one-address}
use Rattle.fragment_paths.specs.Finding.{at}
use Rattle.fragment_paths.specs.Fragments.{address}
use Rattle.round_trip.proofs.ListLemmas.{mapped-at}
use Rattle.round_trip.proofs.ValuesListLemmas.{stands}
use Rattle.reloading.specs.Addressed.{By, Named, Plain, meant_value}
use Rattle.reloading.specs.Alike.{HasSame}
use Rattle.reloading.specs.Between.{Between}
use Rattle.reloading.specs.Proxies.{HasNoProxy}

pub map-get : {X Y : Type 0} (g : X → Y) (xs : List X) (i : ℕ) → slice_get (map g xs) i ≡ option_map g (slice_get xs i)
map-get g [] i = refl
map-get g (x ∷ xs) zero = refl
map-get g (x ∷ xs) (suc i) = map-get g xs i

some-of : {X : Type 0} (p : X → Bool) (x : Option X) → option_map_or p x false ≡ true → is_some x ≡ true
some-of p None h = absurd (false≢true h)
some-of p (Some c) h = refl

some-is : {X : Type 0} (x : Option X) → is_some x ≡ true → (y : X) × (x ≡ Some y)
some-is None h = absurd (false≢true h)
some-is (Some y) h = (y, refl)

by_of : Named → Option (List ℕ)
by_of (By t) = t
by_of (Plain v) = None

-- without proxies a text means an object
means-object : (r : Reading) (v : Value) (t : List ℕ) → meant_value r v ≡ By (Some t) → ((u : List ℕ) → v ≡ value.Proxy u → ⊥) → (b : ObjectNo) × (v ≡ value.Object b) × (address r b ≡ Some t)
unfolding by_of
means-object r (value.Object b) t h other = (b, refl, ap by_of h)
means-object r (value.Proxy u) t h other = absurd (other u refl)
means-object r value.Null t h other = absurd (none-some t (ap by_of h))
means-object r (value.Bool x) t h other = absurd (none-some t (ap by_of h))
means-object r (value.Int x) t h other = absurd (none-some t (ap by_of h))
means-object r (value.Text x) t h other = absurd (none-some t (ap by_of h))
means-object r (value.Literal x) t h other = absurd (none-some t (ap by_of h))

-- an object has a value of a reference that means a text at most at one position
module _ (s : Model) (w : ValuesState) (c : Links) (legal : IsLegal s) (other : IsLegal (model_of s.metamodel w c)) (none : HasNoProxy (reading s)) where
  abbrev t : Model
  t = model_of s.metamodel w c

  module _ (o p : ObjectNo) (same : HasSame meant_value (reading s) (reading (model_of s.metamodel w c)) o p) where
    pub back-at : (f : FeatureNo) (k : ℕ) (x : Value) (y : List ℕ) → slice_get (values_at t (at_end (node.Object p) f)) k ≡ Some x → meant_value (reading t) x ≡ By (Some y)
        → (b : ObjectNo) × (slice_get (values_at s (at_end (node.Object o) f)) k ≡ Some (value.Object b)) × (address (reading s) b ≡ Some y)
    back-at f k x y here means =
        let vs = values_at s (at_end (node.Object o) f) in
        let name : slice_get (map (meant_value (reading s)) vs) k ≡ Some (By (Some y)) =
        ap (λ (xs : List Named). slice_get xs k) (sym (same.values f)) ∙ map-get (meant_value (reading t)) (values_at t (at_end (node.Object p) f)) k ∙ ap (option_map (meant_value (reading t))) here ∙ ap (λ (z : Named). Some z) means in
        let found = mapped-at (meant_value (reading s)) vs k (By (Some y)) name in
        let object = means-object (reading s) found.0 y found.2 (λ u is. none (at_end (node.Object o) f) u (stands vs k (value.Proxy u) (found.1 ∙ ap (λ (z : Value). Some z) is))) in
        (object.0, found.1 ∙ ap (λ (z : Value). Some z) object.1, object.2)

    pub one-place : (f : FeatureNo) (j k : ℕ) (x z : Value) (y : List ℕ) → (shape s.metamodel f).is_reference ≡ true → slice_get (values_at t (at_end (node.Object p) f)) j ≡ Some x → meant_value (reading t) x ≡ By (Some y)
        → slice_get (values_at t (at_end (node.Object p) f)) k ≡ Some z → meant_value (reading t) z ≡ By (Some y) → j ≡ k
    one-place f j k x z y reference first means second means_too =
        let d = at_end (node.Object o) f in
        let a = back-at f j x y first means in
        let b = back-at f k z y second means_too in
        let one = one-address s legal b.0 a.0 y b.2 a.2 in
        let linked = values-linked s d reference in
        legal.links.set.placed.distinct d j k (value.Object a.0) (ap (λ (vs : List Value). slice_get vs j) (sym linked) ∙ a.1)
        (ap (λ (vs : List Value). slice_get vs k) (sym linked) ∙ b.1 ∙ ap (λ (q : ObjectNo). Some (value.Object q)) one)

  module _ (between : Between (reading s) (reading (model_of s.metamodel w c))) where
    -- the saved object for an object at an address
    pub record IsFrom (p : ObjectNo) : Type 0 where
      pub object : ObjectNo
      pub text : List ℕ
      pub was : address (reading s) object ≡ Some text
      pub now : address (reading t) p ≡ Some text
      pub same : HasSame meant_value (reading s) (reading t) object p

    pub from-of : (p : ObjectNo) → is_live (reading t) p ≡ true → IsFrom p
    from-of p live =
        let x = some-is (address (reading t) p) (between.inside p live) in
        let o = between.same.back p x.0 x.1 in
        let met = between.same.there o.0 x.0 o.1 in
        let own : met.object ≡ p = one-address t other met.object p x.0 met.at x.1 in
        record { object = o.0; text = x.0; was = o.1; now = x.1; same = subst (λ (y : ObjectNo). HasSame meant_value (reading s) (reading t) o.0 y) own met.same }

    -- the object at a text that is the address of an object of s
    pub found-of : (b : ObjectNo) (y : List ℕ) → address (reading s) b ≡ Some y → (q : ObjectNo) × (address (reading t) q ≡ Some y) × (at (reading t) y ≡ Some q) × HasSame meant_value (reading s) (reading t) b q
    found-of b y at =
        let met = between.same.there b y at in
        (met.object, met.at, address-finds t other met.object y met.at, met.same)

    -- the owner of a proxy lives
    pub owner-live : (p : ObjectNo) (f : FeatureNo) (i : ℕ) (v : Value) → (shape s.metamodel f).is_reference ≡ true → slice_get (values_at t (at_end (node.Object p) f)) i ≡ Some v → (is_live (reading t) p ≡ true) × (has_feature (reading t) (node.Object p) f ≡ true)
    owner-live p f i v reference here =
        let e = at_end (node.Object p) f in
        let has = (legal-at (reading t) e (end c e) i v (other.links.ends e) (ap (λ (vs : List Value). slice_get vs i) (sym (values-linked t e reference)) ∙ here)).0 in
        (some-of (λ k. lookups.has_feature s.metamodel k f) (class_of w p) has, has)
