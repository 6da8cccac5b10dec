-- A link has a name at each of its ends. Two links share no single end, so two links with the same name there are the same link.
use Rattle.std.proofs.Common.{◌≡◌, ℕ, zero, suc, ◌<◌, ◌≤◌, eq-eqb, eqb-true, Bool, if◌then◌else◌, arith, true, false, IsTrue, List, [], ◌∷◌, slice_get, Option, Some, None, option_to_list, refl, sym, ap, ◌∙◌, subst, inl, inr}
use Rattle.std.specs.Prelude.{◌⊎◌}
use Rattle.std.specs.List.{list_all}
use Rattle.std.specs.Option.{option_map_or}
use Rattle.std.proofs.lemmas.Bool.{and_parts, false≢true, or_left, or_right, true≢false}
use Rattle.std.proofs.lemmas.Option.{none-some, same_Some}
use Rattle.mm_meta.proofs.ShapeLemmas.{containing_is_known, opposites_are_pairs}
use Rattle.mm_meta.specs.Laws.{IsPair}
use Rattle.mm_types.specs.Same.{node_value, same_feature}
use Rattle.mm_types.specs.Shapes.{shape}
use Rattle.mm_types.specs.declared.end.End.{End}
use Rattle.mm_types.specs.declared.numbers.FeatureNo.{FeatureNo}
use Rattle.mm_types.specs.declared.numbers.Node.TheVariants as node
use Rattle.mm_types.specs.declared.numbers.Node.{Node}
use Rattle.mm_types.specs.declared.numbers.ObjectNo.{ObjectNo}
use Rattle.mm_types.specs.declared.value.Value.TheVariants as value
use Rattle.mm_types.specs.declared.value.Value.{Value}
use Rattle.links.proofs.SideLemmas.{both_ends_agree}
use Rattle.links.specs.Holders.{node_contained}
use Rattle.links.specs.Links.{end, far_end}
use Rattle.links.specs.Plans.{Has}
use Rattle.models.proofs.EndLemmas.{values-single}
use Rattle.models.specs.Legal.{IsLegal, is_legal_end, is_legal_target, kinds_of}
use Rattle.models.specs.Model.{Model, reading}
use Rattle.models.specs.Reading.{Reading, at_end, has_feature}
use Rattle.containment.proofs.PartLemmas.{object-reference}
use Rattle.handshake.proofs.CutLinkEndLemmas.{HasLinkEnd, same_link_end-self, values-linked}
use Rattle.handshake.proofs.KnownLemmas.{resource-alone}
use Rattle.handshake.proofs.YieldLemmas.{Origin, holder-contains}
use Rattle.handshake.specs.Displaced.{opposite_link_end, other_side, same_link, same_link_end}
use Rattle.removal.specs.TreeLinkEnds.{link_end}
use Rattle.removal.specs.declared.link_end.LinkEnd.{LinkEnd}

---------------------------------------------------------------- what is in legal ends

-- an end that has a value is the end of a reference of its node
pub record IsOpen (s : Model) (e : End) : Type 0 where
  pub has : has_feature (reading s) e.node e.feature ≡ true
  pub reference : (shape s.metamodel e.feature).is_reference ≡ true

object_takes : (s : Model) (f : FeatureNo) (v : Value) → is_legal_target (reading s) f v ≡ true → (shape s.metamodel f).is_reference ≡ true
object_takes s f (value.Object o) h = object-reference s.metamodel (reading s).class f o h
object_takes s f (value.Proxy t) h = (and_parts (shape s.metamodel f).is_reference _ h).0
object_takes s f _ h = absurd (false≢true h)

open_by : (s : Model) (e : End) (vs : List Value) (k : ℕ) (v : Value) → IsTrue (is_legal_end (reading s) e vs) → slice_get vs k ≡ Some v → IsOpen s e
open_by s e [] k v legal at = absurd (none-some v at)
open_by s e (w ∷ ws) k v legal at =
    let all = and_parts (has_feature (reading s) e.node e.feature) _ legal in
    let typed = and_parts (list_all (is_legal_target (reading s) e.feature) (w ∷ ws)) _ all.1 in
    record { has = all.0; reference = object_takes s e.feature w (and_parts (is_legal_target (reading s) e.feature w) _ typed.0).0 }

pub open-of : (s : Model) → IsLegal s → (t : LinkEnd) → HasLinkEnd s.links t → IsOpen s t.end
open-of s legal t at = open_by s t.end (end s.links t.end) at.0 t.value (legal.links.ends t.end) at.1

one_of : (o : Option Value) (j k : ℕ) (v w : Value) → slice_get (option_to_list o) j ≡ Some v → slice_get (option_to_list o) k ≡ Some w → v ≡ w
one_of None j k v w a b = absurd (none-some v a)
one_of (Some x) zero zero v w a b = same_Some v w (sym a ∙ b)
one_of (Some x) zero (suc k) v w a b = absurd (none-some w b)
one_of (Some x) (suc j) k v w a b = absurd (none-some v a)

-- a single end has one value
one_value : (s : Model) → IsLegal s → (t u : LinkEnd) → (shape s.metamodel t.end.feature).is_single ≡ true → t.end ≡ u.end → HasLinkEnd s.links t → HasLinkEnd s.links u → t.value ≡ u.value
one_value s legal t u single same at_t at_u =
    let o = open-of s legal t at_t in
    let first = slice_get ((reading s).values t.end) 0 in
    let is : end s.links t.end ≡ option_to_list first = sym (values-linked s t.end o.reference) ∙ values-single s t.end legal o.reference single in
    let here = subst (λ (e : End). slice_get (end s.links e) at_u.0 ≡ Some u.value) (sym same) at_u.1 in
    one_of first at_t.0 at_u.0 t.value u.value
    (subst (λ (vs : List Value). slice_get vs at_t.0 ≡ Some t.value) is at_t.1)
    (subst (λ (vs : List Value). slice_get vs at_u.0 ≡ Some u.value) is here)

---------------------------------------------------------------- the two names of a link

abbrev pub IsNameOf : Reading → LinkEnd → LinkEnd → Type 0
IsNameOf r t y = (y ≡ t) ⊎ (opposite_link_end r t ≡ Some y)

module _ (s : Model) (legal : IsLegal s) where
  turned_by-stands : (e : End) (v : Value) (q : Option FeatureNo) (y : LinkEnd) → (shape s.metamodel e.feature).opposite ≡ q → Has s.links e v → other_side e.node v q ≡ Some y → Has s.links y.end y.value
  turned_by-stands e (value.Object o) (Some g) y opposite at is =
      let there : Has s.links (far_end o g) (node_value e.node) = both_ends_agree (kinds_of s.metamodel) s.links legal.links.set legal.links.kinds e (far_end o g) opposite at in
      subst (λ (x : LinkEnd). Has s.links x.end x.value) (same_Some (link_end (far_end o g) (node_value e.node)) y is) there
  turned_by-stands e v q y opposite at is = absurd (none-some y is)

  pub name-stands : (t y : LinkEnd) → HasLinkEnd s.links t → IsNameOf (reading s) t y → HasLinkEnd s.links y
  name-stands t y at (inl same) = subst (λ (x : LinkEnd). HasLinkEnd s.links x) (sym same) at
  name-stands t y at (inr is) = turned_by-stands t.end t.value (shape s.metamodel t.end.feature).opposite y refl at is

  turned_by-apart : (e : End) (v : Value) (q : Option FeatureNo) (y : LinkEnd) → (shape s.metamodel e.feature).opposite ≡ q → other_side e.node v q ≡ Some y → e ≡ y.end → ⊥
  turned_by-apart e (value.Object o) (Some g) y opposite is same =
      let far : far_end o g ≡ e = ap (λ (x : LinkEnd). x.end) (same_Some (link_end (far_end o g) (node_value e.node)) y is) ∙ sym same in
      (opposites_are_pairs s.metamodel legal.metamodel e.feature g opposite).apart (ap (λ (x : End). x.feature.0) far)
  turned_by-apart e v q y opposite is same = absurd (none-some y is)

  -- the two ends of a link are different
  pub opposite_link_end-apart : (t y : LinkEnd) → opposite_link_end (reading s) t ≡ Some y → t.end ≡ y.end → ⊥
  opposite_link_end-apart t y is = turned_by-apart t.end t.value (shape s.metamodel t.end.feature).opposite y refl is

  turned_by-back : (n : Node) (f : FeatureNo) (v : Value) (q : Option FeatureNo) (y : LinkEnd) → (shape s.metamodel f).opposite ≡ q → has_feature (reading s) n f ≡ true → other_side n v q ≡ Some y
      → opposite_link_end (reading s) y ≡ Some (link_end (at_end n f) v)
  turned_by-back (node.Object p) f (value.Object o) (Some g) y opposite has is =
      let back : opposite_link_end (reading s) (link_end (far_end o g) (value.Object p)) ≡ Some (link_end (far_end p f) (value.Object o)) =
      ap (other_side (node.Object o) (value.Object p)) (opposites_are_pairs s.metamodel legal.metamodel f g opposite).back in
      subst (λ (x : LinkEnd). opposite_link_end (reading s) x ≡ Some (link_end (far_end p f) (value.Object o))) (same_Some (link_end (far_end o g) (value.Object p)) y is) back
  turned_by-back (node.Resource k) f (value.Object o) (Some g) y opposite has is = absurd (resource-alone (reading s) k f g has opposite)
  turned_by-back n f v q y opposite has is = absurd (none-some y is)

  -- a name that is turned twice is as it was
  opposite_link_end-back : (t y : LinkEnd) → HasLinkEnd s.links t → opposite_link_end (reading s) t ≡ Some y → opposite_link_end (reading s) y ≡ Some t
  opposite_link_end-back t y at is = turned_by-back t.end.node t.end.feature t.value (shape s.metamodel t.end.feature).opposite y refl (open-of s legal t at).has is

  ---------------------------------------------------------------- links that are different

  linked_by : (t u y : LinkEnd) → opposite_link_end (reading s) t ≡ Some y → same_link_end u y ≡ true → same_link (reading s) u t ≡ true
  linked_by t u y is same = or_right (same_link_end u t) _ (ap (λ (o : Option LinkEnd). option_map_or (same_link_end u) o false) is ∙ same)

  -- two links with a name in common are the same link
  one_link : (t u y : LinkEnd) → HasLinkEnd s.links t → HasLinkEnd s.links u → IsNameOf (reading s) t y → IsNameOf (reading s) u y → same_link (reading s) u t ≡ true
  one_link t u y at_t at_u (inl is_t) (inl is_u) = or_left (same_link_end u t) _ (subst (λ (x : LinkEnd). same_link_end u x ≡ true) (sym is_u ∙ is_t) (same_link_end-self u))
  one_link t u y at_t at_u (inr is_t) (inl is_u) = linked_by t u y is_t (subst (λ (x : LinkEnd). same_link_end u x ≡ true) (sym is_u) (same_link_end-self u))
  one_link t u y at_t at_u (inl is_t) (inr is_u) =
      linked_by t u u (ap (opposite_link_end (reading s)) (sym is_t) ∙ opposite_link_end-back u y at_u is_u) (same_link_end-self u)
  one_link t u y at_t at_u (inr is_t) (inr is_u) =
      let same : t ≡ u = same_Some t u (sym (opposite_link_end-back t y at_t is_t) ∙ opposite_link_end-back u y at_u is_u) in
      or_left (same_link_end u t) _ (subst (λ (x : LinkEnd). same_link_end u x ≡ true) (sym same) (same_link_end-self u))

  -- names of two links are not the same
  pub names-apart : (t u y z : LinkEnd) → HasLinkEnd s.links t → HasLinkEnd s.links u → same_link (reading s) u t ≡ false → IsNameOf (reading s) t y → IsNameOf (reading s) u z → y.end ≡ z.end → y.value ≡ z.value → ⊥
  names-apart t u y z at_t at_u other name_y name_z same values =
      let is : y ≡ z = λ i. link_end (same i) (values i) in
      true≢false (sym (one_link t u y at_t at_u name_y (subst (IsNameOf (reading s) u) (sym is) name_z)) ∙ other)

---------------------------------------------------------------- the names of what a new link displaces

-- a name of a displaced link: in a single end, or of the object, the node or the part of the new link
pub data IsYielded (s : Model) (e : End) (o : ObjectNo) (y : LinkEnd) : Type 0 where
  InSingle : (shape s.metamodel y.end.feature).is_single ≡ true → IsYielded s e o y
  OfObject : y.end.feature ≡ e.feature → y.value ≡ value.Object o → IsYielded s e o y
  OfNode : (shape s.metamodel e.feature).opposite ≡ Some y.end.feature → y.value ≡ node_value e.node → IsYielded s e o y
  OfPart : (p : Node) → node_contained e o (shape s.metamodel e.feature).containing ≡ Some p → (shape s.metamodel y.end.feature).containing ≡ Some y.end.feature → y.value ≡ node_value p → IsYielded s e o y

module _ (s : Model) (legal : IsLegal s) (e : End) (o : ObjectNo) where
  r : Reading
  r = reading s

  pair : (f g : FeatureNo) → (shape s.metamodel f).opposite ≡ Some g → IsPair s.metamodel f g
  pair = opposites_are_pairs s.metamodel legal.metamodel

  turned-near : (t y : LinkEnd) (q : Option FeatureNo) → (shape s.metamodel e.feature).opposite ≡ q → other_side e.node t.value q ≡ Some y → IsYielded s e o y
  turned-near t y q opposite is = by t.value q opposite is
    where
      by : (v : Value) (q : Option FeatureNo) → (shape s.metamodel e.feature).opposite ≡ q → other_side e.node v q ≡ Some y → IsYielded s e o y
      by (value.Object x) (Some g) opposite is =
          let same = same_Some (link_end (far_end x g) (node_value e.node)) y is in
          OfNode (opposite ∙ ap (λ (z : LinkEnd). Some z.end.feature) same) (ap (λ (z : LinkEnd). z.value) (sym same))
      by v q opposite is = absurd (none-some y is)

  turned-far : (t y : LinkEnd) (f : FeatureNo) (v : Value) → f ≡ e.feature → other_side (node.Object o) v (Some f) ≡ Some y → IsYielded s e o y
  turned-far t y f (value.Object x) same is =
      let made = same_Some (link_end (far_end x f) (value.Object o)) y is in
      OfObject (ap (λ (z : LinkEnd). z.end.feature) (sym made) ∙ same) (ap (λ (z : LinkEnd). z.value) (sym made))
  turned-far t y f v same is = absurd (none-some y is)

  -- the other end of a containing link is single
  turned-held : (d : End) (v : Value) (q : Option FeatureNo) (y : LinkEnd) → (shape s.metamodel d.feature).containing ≡ Some d.feature → (shape s.metamodel d.feature).opposite ≡ q → other_side d.node v q ≡ Some y → IsYielded s e o y
  turned-held d (value.Object c) (Some g) y contains opposite is =
      let p = pair d.feature g opposite in
      let held : (shape s.metamodel g).containing ≡ Some d.feature = sym p.one_containing ∙ contains in
      let made = same_Some (link_end (far_end c g) (node_value d.node)) y is in
      elim (containing_is_known s.metamodel legal.metamodel g d.feature (below p.far_there) held) [
        | inl same ↦ absurd (p.apart (ap (λ (f : FeatureNo). f.0) (sym same)))
        | inr container ↦ InSingle (subst (λ (z : LinkEnd). (shape s.metamodel z.end.feature).is_single ≡ true) made container.single)
      ]
    where
      below : {m n : ℕ} → m < n → m ≤ n
      below h = omega (arith, h)
  turned-held d v q y contains opposite is = absurd (none-some y is)

  -- each name of a displaced link is one of these
  pub yielded : (t y : LinkEnd) → Origin s e o t → IsNameOf (reading s) t y → IsYielded s e o y
  yielded t y (inl near) (inl is) = InSingle (subst (λ (d : End). (shape s.metamodel d.feature).is_single ≡ true) (sym (ap (λ (z : LinkEnd). z.end) is ∙ near.0)) near.1)
  yielded t y (inl near) (inr is) =
      turned-near t y (shape s.metamodel e.feature).opposite refl (subst (λ (d : End). other_side d.node t.value (shape s.metamodel d.feature).opposite ≡ Some y) near.0 is)
  yielded t y (inr (inl far)) (inl is) = InSingle (subst (λ (d : End). (shape s.metamodel d.feature).is_single ≡ true) (sym (ap (λ (z : LinkEnd). z.end) is ∙ far.here)) far.single)
  yielded t y (inr (inl far)) (inr is) =
      let back = (pair e.feature far.feature far.opposite).back in
      turned-far t y e.feature t.value refl (subst (λ (q : Option FeatureNo). other_side (node.Object o) t.value q ≡ Some y) back (subst (λ (d : End). other_side d.node t.value (shape s.metamodel d.feature).opposite ≡ Some y) far.here is))
  yielded t y (inr (inr held)) (inl is) =
      OfPart held.part held.becomes (subst (λ (z : LinkEnd). (shape s.metamodel z.end.feature).containing ≡ Some z.end.feature) (sym is) (holder-contains s held.part t.end legal held.held)) (ap (λ (z : LinkEnd). z.value) is ∙ held.value)
  yielded t y (inr (inr held)) (inr is) = turned-held t.end t.value (shape s.metamodel t.end.feature).opposite y (holder-contains s held.part t.end legal held.held) refl is

  -- the part, if the near feature is a containment, and if the far one is
  near-part : (p : Node) (f : FeatureNo) → f ≡ e.feature → (shape s.metamodel f).containing ≡ Some f → node_contained e o (shape s.metamodel e.feature).containing ≡ Some p → node_value p ≡ value.Object o
  near-part p f same contains becomes =
      let own : (shape s.metamodel e.feature).containing ≡ Some e.feature = subst (λ (x : FeatureNo). (shape s.metamodel x).containing ≡ Some x) same contains in
      let becomes_own = subst (λ (q : Option FeatureNo). node_contained e o q ≡ Some p) own becomes in
      let self : same_feature e.feature e.feature ≡ true = eq-eqb e.feature.0 e.feature.0 refl in
      ap node_value (sym (same_Some _ p (sym (ap (λ (b : Bool). Some (if b then node.Object o else e.node)) self) ∙ becomes_own)))

  far-part : (p : Node) (g : FeatureNo) → (shape s.metamodel e.feature).opposite ≡ Some g → (shape s.metamodel g).containing ≡ Some g → node_contained e o (shape s.metamodel e.feature).containing ≡ Some p → node_value p ≡ node_value e.node
  far-part p g opposite contains becomes =
      let two = pair e.feature g opposite in
      let becomes_far = subst (λ (q : Option FeatureNo). node_contained e o q ≡ Some p) (two.one_containing ∙ contains) becomes in
      let other : same_feature g e.feature ≡ false = elim (same_feature g e.feature) as (λ b. same_feature g e.feature ≡ b → b ≡ false) [ true ↦ λ h. absurd (two.apart (eqb-true g.0 e.feature.0 h)) | false ↦ λ _. refl ] refl in
      ap node_value (sym (same_Some _ p (sym (ap (λ (b : Bool). Some (if b then node.Object o else e.node)) other) ∙ becomes_far)))

  -- names in one end have the same value
  pub yielded-agree : (y z : LinkEnd) → HasLinkEnd s.links y → HasLinkEnd s.links z → IsYielded s e o y → IsYielded s e o z → y.end ≡ z.end → y.value ≡ z.value
  yielded-agree y z at_y at_z (InSingle single) other same = one_value s legal y z single same at_y at_z
  yielded-agree y z at_y at_z name (InSingle single) same = sym (one_value s legal z y single (sym same) at_z at_y)
  yielded-agree y z at_y at_z (OfObject f v) (OfObject h w) same = v ∙ sym w
  yielded-agree y z at_y at_z (OfObject f v) (OfNode opposite w) same =
      absurd ((pair e.feature z.end.feature opposite).apart (ap (λ (x : FeatureNo). x.0) (sym (ap (λ (d : End). d.feature) same) ∙ f)))
  yielded-agree y z at_y at_z (OfObject f v) (OfPart p becomes contains w) same = v ∙ sym (w ∙ near-part p z.end.feature (sym (ap (λ (d : End). d.feature) same) ∙ f) contains becomes)
  yielded-agree y z at_y at_z (OfNode opposite v) (OfObject h w) same =
      absurd ((pair e.feature y.end.feature opposite).apart (ap (λ (x : FeatureNo). x.0) (ap (λ (d : End). d.feature) same ∙ h)))
  yielded-agree y z at_y at_z (OfNode opposite v) (OfNode h w) same = v ∙ sym w
  yielded-agree y z at_y at_z (OfNode opposite v) (OfPart p becomes contains w) same =
      v ∙ sym (w ∙ far-part p z.end.feature (opposite ∙ ap (λ (d : End). Some d.feature) same) contains becomes)
  yielded-agree y z at_y at_z (OfPart p becomes contains v) (OfObject h w) same = v ∙ near-part p y.end.feature (ap (λ (d : End). d.feature) same ∙ h) contains becomes ∙ sym w
  yielded-agree y z at_y at_z (OfPart p becomes contains v) (OfNode opposite w) same =
      v ∙ far-part p y.end.feature (opposite ∙ ap (λ (d : End). Some d.feature) (sym same)) contains becomes ∙ sym w
  yielded-agree y z at_y at_z (OfPart p becomes contains v) (OfPart q also more w) same = v ∙ ap node_value (same_Some p q (sym becomes ∙ also)) ∙ sym w

  -- a name in a list at an end of the new link would have the value of the new link
  pub yielded-near : (y : LinkEnd) → IsYielded s e o y → (shape s.metamodel e.feature).is_single ≡ false → y.end ≡ e → y.value ≡ value.Object o
  yielded-near y (InSingle single) many same = absurd (true≢false (sym single ∙ ap (λ (d : End). (shape s.metamodel d.feature).is_single) same ∙ many))
  yielded-near y (OfObject f v) many same = v
  yielded-near y (OfNode opposite v) many same = absurd ((pair e.feature y.end.feature opposite).apart (ap (λ (d : End). d.feature.0) same))
  yielded-near y (OfPart p becomes contains v) many same = v ∙ near-part p y.end.feature (ap (λ (d : End). d.feature) same) contains becomes

  pub yielded-far : (y : LinkEnd) (g : FeatureNo) → (shape s.metamodel e.feature).opposite ≡ Some g → IsYielded s e o y → (shape s.metamodel g).is_single ≡ false → y.end ≡ far_end o g → y.value ≡ node_value e.node
  yielded-far y g opposite (InSingle single) many same = absurd (true≢false (sym single ∙ ap (λ (d : End). (shape s.metamodel d.feature).is_single) same ∙ many))
  yielded-far y g opposite (OfObject f v) many same = absurd ((pair e.feature g opposite).apart (ap (λ (x : FeatureNo). x.0) (sym (ap (λ (d : End). d.feature) same) ∙ f)))
  yielded-far y g opposite (OfNode h v) many same = v
  yielded-far y g opposite (OfPart p becomes contains v) many same =
      let is : y.end.feature ≡ g = ap (λ (d : End). d.feature) same in
      v ∙ far-part p g opposite (subst (λ (f : FeatureNo). (shape s.metamodel f).containing ≡ Some f) is contains) becomes
