-- A value at a reference is an object whose class conforms, or a proxy if the reference takes proxies; and the text of a proxy there.
use Rattle.std.proofs.Common.{◌≡◌, ◌∙◌, ℕ, Bool, true, false, List, slice_get, Option, Some, None, if◌then◌else◌, eq-eqb, refl, sym, ap}
use Rattle.std.specs.Option.{option_map_or}
use Rattle.std.proofs.lemmas.Bool.{false≢true}
use Rattle.std.proofs.lemmas.Option.{none-some, some_pair_parts}
use Rattle.mm_types.specs.Lookups as lookups
use Rattle.mm_types.specs.Resolved.{Metamodel}
use Rattle.mm_types.specs.Shapes.{Shape, contents_shape, is_containment, shape, shape_of}
use Rattle.mm_types.specs.declared.feature.Feature.{Feature}
use Rattle.mm_types.specs.declared.feature.Kind.{Kind}
use Rattle.mm_types.specs.declared.feature.Kind.TheVariants.{Reference}
use Rattle.mm_types.specs.declared.numbers.ClassNo.{ClassNo}
use Rattle.mm_types.specs.declared.numbers.FeatureNo.{FeatureNo}
use Rattle.mm_types.specs.declared.numbers.Node.TheVariants as node
use Rattle.mm_types.specs.declared.numbers.ObjectNo.{ObjectNo}
use Rattle.mm_types.specs.declared.value.Value.{Value}
use Rattle.mm_types.specs.declared.value.Value.TheVariants as value
use Rattle.mm_types.specs.Same.{is_feature, node_value, same_end}
use Rattle.mm_types.specs.declared.end.End.{End}
use Rattle.mm_types.specs.declared.numbers.Node.{Node}
use Rattle.links.specs.Links.{end}
use Rattle.links.specs.Indexed.{far_indexed, far_value, indexed_value}
use Rattle.links.specs.declared.link.Far.{Far}
use Rattle.links.specs.declared.link.Far.TheVariants.{At, Alone, Proxy}
use Rattle.links.specs.declared.link.Link.{Link}
use Rattle.links.proofs.PlaceLemmas.{not_proxy}
use Rattle.web_uris.specs.Addresses.{IsSteadyProxy}
use Rattle.models.specs.Legal.{IsLegal, is_legal_target, takes_proxies}
use Rattle.models.specs.Model.{Model, reading}
use Rattle.models.specs.Reading.{at_end, takes}
use Rattle.models.specs.Steady.{HasSteadyTexts}
use Rattle.containment.proofs.PartLemmas.{legal-at, values-linked}

pub shape-of : (m : Metamodel) (f : FeatureNo) (g : Feature) (x : Kind) → lookups.feature m f ≡ Some g → g.kind ≡ x → shape m f ≡ shape_of m f g x
shape-of m f g x known kind = ap (λ (o : Option Feature). option_map_or (λ y. shape_of m f y y.kind) o (contents_shape m)) known ∙ ap (shape_of m f g) kind

module _ (m : Metamodel) (f : FeatureNo) (g : Feature) (target : ClassNo) (opposite : Option FeatureNo) (known : lookups.feature m f ≡ Some g) where
  -- a containment reference is a containment, and takes no proxies
  pub contains-parts : g.kind ≡ Reference target true opposite → is_containment m f ≡ true
  contains-parts kind = ap (λ (a : Shape). is_feature f a.containing) (shape-of m f g (Reference target true opposite) known kind) ∙ eq-eqb f.0 f.0 refl

  no-proxies : g.kind ≡ Reference target true opposite → takes_proxies (shape m f) ≡ false
  no-proxies kind = ap takes_proxies (shape-of m f g (Reference target true opposite) known kind)

  -- any other reference contains nothing, unless it is a container reference
  pub links-only : g.kind ≡ Reference target false opposite → lookups.is_container m f ≡ false → is_containment m f ≡ false
  links-only kind plain =
      ap (λ (a : Shape). is_feature f a.containing) (shape-of m f g (Reference target false opposite) known kind)
      ∙ ap (λ (b : Bool). is_feature f (if b then opposite else None)) plain

---------------------------------------------------------------- where a proxy is

far-of_value : (x : Far) (t : List ℕ) → far_value x ≡ value.Proxy t → x ≡ Proxy t
far-of_value (At d j) t h = absurd (not_proxy t d.node (sym h))
far-of_value (Alone o) t h = cc
far-of_value (Proxy u) t h = cc

abbrev at_index : ℕ → Value → Option (ℕ × Value)
at_index k v = Some (k, v)

far-placed : (x : Far) (n : Node) (e : End) (k : ℕ) (t : List ℕ) → far_indexed x (node_value n) e ≡ Some (k, value.Proxy t) → ⊥
far-placed (At d j) n e k t = elim (same_end d e) as (λ b. (if b then at_index j (node_value n) else None) ≡ Some (k, value.Proxy t) → ⊥) [
  | true ↦ λ h. not_proxy t n (sym (some_pair_parts j k (node_value n) (value.Proxy t) h).1)
  | false ↦ λ h. none-some _ h
]
far-placed (Alone o) n e k t = λ h. none-some _ h
far-placed (Proxy u) n e k t = λ h. none-some _ h

-- a link that has a proxy at a position is that proxy
placed-far : (l : Link) (e : End) (k : ℕ) (t : List ℕ) → indexed_value l e ≡ Some (k, value.Proxy t) → l.far ≡ Proxy t
placed-far l e k t = elim (same_end l.end e) as (λ b. (if b then at_index l.index (far_value l.far) else far_indexed l.far (node_value l.end.node) e) ≡ Some (k, value.Proxy t) → l.far ≡ Proxy t) [
  | true ↦ λ h. far-of_value l.far t (some_pair_parts l.index k (far_value l.far) (value.Proxy t) h).1
  | false ↦ λ h. absurd (far-placed l.far l.end.node e k t h)
]

---------------------------------------------------------------- what a reference holds

module _ (s : Model) (legal : IsLegal s) (o : ObjectNo) (f : FeatureNo) (g : Feature) (i : ℕ) (v : Value) (target : ClassNo) (containment : Bool) (opposite : Option FeatureNo)
    (known : lookups.feature s.metamodel f ≡ Some g) (kind : g.kind ≡ Reference target containment opposite) (at : slice_get ((reading s).values (at_end (node.Object o) f)) i ≡ Some v) where
  pub refers : (shape s.metamodel f).is_reference ≡ true
  refers = ap (λ (a : Shape). a.is_reference) (shape-of s.metamodel f g (Reference target containment opposite) known kind)

  legal-target : is_legal_target (reading s) f v ≡ true
  legal-target =
      let e = at_end (node.Object o) f in
      (legal-at (reading s) e (end s.links e) i v (legal.links.ends e) (ap (λ (vs : List Value). slice_get vs i) (sym (values-linked s e refers)) ∙ at)).1

  -- the class of an object there conforms
  class-conforms : (b : ObjectNo) → takes (reading s) f (value.Object b) ≡ true → option_map_or (λ c. lookups.conforms s.metamodel c target) ((reading s).class b) false ≡ true
  class-conforms b taken =
      let class = (reading s).class in
      sym (ap (λ (x : Option Feature). option_map_or (λ y. lookups.is_of_kind s.metamodel class (lookups.is_single y) y.kind (value.Object b)) x (lookups.is_live_object class (value.Object b))) known
      ∙ ap (λ (x : Kind). lookups.is_of_kind s.metamodel class (lookups.is_single g) x (value.Object b)) kind) ∙ taken

  -- a property of each object that conforms, and of each proxy if proxies are taken, holds for the value there
  pub each-target : (P : Value → Type 0) → ((b : ObjectNo) → v ≡ value.Object b → option_map_or (λ c. lookups.conforms s.metamodel c target) ((reading s).class b) false ≡ true → P (value.Object b))
      → ((t : List ℕ) → v ≡ value.Proxy t → takes_proxies (shape s.metamodel f) ≡ true → P (value.Proxy t)) → P v
  each-target P object proxy = by v refl legal-target
    where
      by : (w : Value) → v ≡ w → is_legal_target (reading s) f w ≡ true → P w
      by (value.Object b) is taken = object b is (class-conforms b taken)
      by (value.Proxy t) is taken = proxy t is taken
      by _ is taken = absurd (false≢true taken)

  -- a proxy there has a legal text, and joining leaves its URI as it is
  pub steady-there : HasSteadyTexts s → (t : List ℕ) → v ≡ value.Proxy t → IsSteadyProxy t
  steady-there steady t is =
      let e = at_end (node.Object o) f in
      let stands = (legal.links.set.placed.ends e).only i (value.Proxy t) (ap (λ (vs : List Value). slice_get vs i) (sym (values-linked s e refers)) ∙ at ∙ ap Some is) in
      steady.proxies stands.0 t stands.1 (placed-far stands.0 e i t stands.2)

-- a containment reference has only objects
pub each-part : (s : Model) → IsLegal s → (o : ObjectNo) (f : FeatureNo) (g : Feature) (i : ℕ) (v : Value) (target : ClassNo) (opposite : Option FeatureNo) → lookups.feature s.metamodel f ≡ Some g
    → g.kind ≡ Reference target true opposite → slice_get ((reading s).values (at_end (node.Object o) f)) i ≡ Some v → (P : Value → Type 0)
    → ((b : ObjectNo) → v ≡ value.Object b → option_map_or (λ c. lookups.conforms s.metamodel c target) ((reading s).class b) false ≡ true → P (value.Object b)) → P v
each-part s legal o f g i v target opposite known kind at P object =
    each-target s legal o f g i v target true opposite known kind at P object (λ t _ taken. absurd (false≢true (sym (no-proxies s.metamodel f g target opposite known kind) ∙ taken)))
