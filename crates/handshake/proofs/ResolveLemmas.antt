-- What resolving a proxy makes of the links: the object is where the proxy was, and all else is as it was, but that in a reference
-- with an opposite the object that refers is where the proxy of the same link was.
use Rattle.std.proofs.Common.{◌≡◌, ℕ, zero, suc, ◌≤◌, ◌&&◌, ◌||◌, not, Bool, true, false, List, [], ◌∷◌, ◌++◌, filter, length, slice_get, insert, remove, Option, Some, None, is_some, option_map, option_to_list, if◌then◌else◌, refl, sym, ap, ◌∙◌, subst, arith, ◌-◌}
use Rattle.std.specs.Prelude.{slice_set}
use Rattle.std.specs.List.{list_all}
use Rattle.std.proofs.lemmas.Bool.{and_parts, false≢true, true≢false}
use Rattle.std.proofs.lemmas.Option.{none-some, slice_get_within}
use Rattle.mm_meta.proofs.ShapeLemmas.{opposites_are_pairs}
use Rattle.mm_types.proofs.SameLemmas.{same_end-self, same_end-true}
use Rattle.mm_types.specs.Ends.{has_value}
use Rattle.mm_types.specs.Lists.{put_back, values_after_move}
use Rattle.mm_types.specs.Same.{node_value, same_end, same_value}
use Rattle.mm_types.specs.Shapes.{Shape, is_bounded, shape}
use Rattle.mm_types.specs.declared.end.End.{End}
use Rattle.mm_types.specs.declared.numbers.FeatureNo.{FeatureNo}
use Rattle.mm_types.specs.declared.value.Value.{Value}
use Rattle.mm_types.specs.declared.value.Value.TheVariants as value
use Rattle.links.proofs.CutLemmas.{end-shift_near, end-shift_other}
use Rattle.links.proofs.CutNamedLemmas.{end-without_all, lacks-without_all, without_all_legal, without_all_no_cycle}
use Rattle.links.proofs.FilterLemmas.{filter_all, filter_alike, remove-filter}
use Rattle.links.proofs.LegalLemmas.{put_legal}
use Rattle.links.proofs.PutEndLemmas.{end-put, put_outside}
use Rattle.links.specs.Holders.{node_contained}
use Rattle.links.specs.Laws.{IsPutOutside, is_far, is_named, put_end, without_all}
use Rattle.links.specs.LegalSets.{IsLegalSet}
use Rattle.links.specs.Links.{Links, end, far_end, put, shift}
use Rattle.links.specs.Plans.{EditFits, FarFitsIn, IsFree, Lacks, MakesNoCycle, PutFits, put_of}
use Rattle.links.specs.declared.plan.Edit.TheVariants as edit
use Rattle.models.proofs.PlaceLemmas.{has-at}
use Rattle.models.specs.Legal.{IsLegal, is_legal_end, is_legal_target, kinds_of, takes_proxies}
use Rattle.models.specs.Model.{Model, reading}
use Rattle.models.specs.Reading.{has_feature, shape_at}
use Rattle.containment.proofs.PartLemmas.{kinds-are, legal-at}
use Rattle.removal.specs.TreeLinkEnds.{link_end}
use Rattle.handshake.specs.Displaced.{link_end_in}
use Rattle.proxies.specs.declared.resolved_proxy.ResolvedProxy.{ResolvedProxy}
use Rattle.handshake.proofs.CutLinkEndLemmas.{values-linked}
use Rattle.handshake.proofs.KnownLemmas.{IsResolvable, far-reference}
use Rattle.handshake.proofs.LegalEndLemmas.{end-from, list_all-insert, taken_out, takes-back}
use Rattle.handshake.proofs.LinkLemmas.{lacks-far, object-has}
use Rattle.proxies.proofs.TargetLemmas.{match-apart}

---------------------------------------------------------------- one value instead of another

pub length-without : (vs : List Value) (i : ℕ) (v : Value) → slice_get vs i ≡ Some v → suc (length (remove vs i)) ≡ length vs
length-without [] i v at = absurd (none-some v at)
length-without (w ∷ ws) zero v at = refl
length-without (w ∷ ws) (suc i) v at = ap suc (length-without ws i v at)

pub length-with : (vs : List Value) (i : ℕ) (v : Value) → length (insert vs i v) ≡ suc (length vs)
length-with vs zero v = refl
length-with [] (suc i) v = refl
length-with (w ∷ ws) (suc i) v = ap suc (length-with ws i v)

-- taking a value out and putting another one there is writing over the first
pub set-there : (vs : List Value) (i : ℕ) (v w : Value) → slice_get vs i ≡ Some v → slice_set vs i w ≡ insert (remove vs i) i w
set-there [] i v w at = absurd (none-some v at)
set-there (x ∷ xs) zero v w at = refl
set-there (x ∷ xs) (suc i) v w at = ap (λ (ys : List Value). x ∷ ys) (set-there xs i v w at)

-- in a list of one value the other one is then the only value
pub alone-there : (vs : List Value) (i : ℕ) (v w : Value) → length vs ≤ 1 → slice_get vs i ≡ Some v → insert (remove vs i) i w ≡ w ∷ []
alone-there [] i v w few at = absurd (none-some v at)
alone-there (x ∷ []) zero v w few at = refl
alone-there (x ∷ []) (suc i) v w few at = absurd (none-some v at)
alone-there (x ∷ y ∷ xs) i v w few at = absurd (omega (arith, few))

-- the last value, taken out and put in at an index
last-there : (vs : List Value) (w : Value) → slice_get (vs ++ w ∷ []) (length vs) ≡ Some w
last-there [] w = refl
last-there (v ∷ vs) w = last-there vs w

without-last : (vs : List Value) (w : Value) → remove (vs ++ w ∷ []) (length vs) ≡ vs
without-last [] w = refl
without-last (v ∷ vs) w = ap (λ (ys : List Value). v ∷ ys) (without-last vs w)

values_after_move-last : (vs : List Value) (w : Value) (j : ℕ) → values_after_move (vs ++ w ∷ []) j (length vs) ≡ insert vs j w
values_after_move-last vs w j =
    ap (λ (q : Option Value). put_back q (vs ++ w ∷ []) j (length vs)) (last-there vs w) ∙ ap (λ (ys : List Value). insert ys j w) (without-last vs w)

pub length-pushed : (vs : List Value) (w : Value) → length (vs ++ w ∷ []) ≡ suc (length vs)
length-pushed [] w = refl
length-pushed (v ∷ vs) w = ap suc (length-pushed vs w)

-- an end stays legal if a value of its type is written over another
pub swapped-legal : (s : Model) (e : End) (i : ℕ) (v w : Value) → slice_get (end s.links e) i ≡ Some v → is_legal_end (reading s) e (end s.links e) ≡ true → is_legal_target (reading s) e.feature w ≡ true
    → is_legal_end (reading s) e (insert (remove (end s.links e) i) i w) ≡ true
swapped-legal s e i v w at h takes = by (end s.links e) at h
  where
    by : (vs : List Value) → slice_get vs i ≡ Some v → is_legal_end (reading s) e vs ≡ true → is_legal_end (reading s) e (insert (remove vs i) i w) ≡ true
    by [] at h = absurd (none-some v at)
    by (x ∷ xs) at h =
        let r = reading s in
        let vs = x ∷ xs in
        let has = and_parts (has_feature r e.node e.feature) _ h in
        let held = and_parts (list_all (is_legal_target r e.feature) vs) _ has.1 in
        let rest = taken_out vs i v at (is_legal_target r e.feature) held.0 in
        let same = length-with (remove vs i) i w ∙ rest.2 in
        end-from r e (insert (remove vs i) i w) has.0 (list_all-insert (is_legal_target r e.feature) (remove vs i) i w rest.1 takes)
        (subst (λ (n : ℕ). is_bounded (shape_at r e) n ≡ true) (sym same) held.1)

-- one end has other values
abbrev pub swapped : End → List Value → (End → List Value) → End → List Value
swapped e vs ends d = if same_end e d then vs else ends d

pub swapped-here : (e : End) (vs : List Value) (ends : End → List Value) → swapped e vs ends e ≡ vs
swapped-here e vs ends = ap (λ (b : Bool). if b then vs else ends e) (same_end-self e)

module _ (s : Model) (legal : IsLegal s) (e : End) (i : ℕ) (x : ResolvedProxy) (is : IsResolvable (reading s) e i x) where
  abbrev a : Shape
  a = shape s.metamodel e.feature

  abbrev proxy : Value
  proxy = value.Proxy is.found.text

  abbrev v : Value
  v = value.Object x.object

  abbrev was : List Value
  was = end s.links e

  abbrev pub now : List Value
  now = insert (remove was i) i v

  linked : (reading s).values e ≡ was
  linked = values-linked s e is.reference

  pub there : slice_get was i ≡ Some proxy
  there = subst (λ (vs : List Value). slice_get vs i ≡ Some proxy) linked is.found.proxy

  -- only the proxy is cut at this end
  pub one-cut : link_end_in (reading s) e i ≡ link_end e proxy ∷ []
  one-cut = ap (λ (q : Option Value). option_to_list (option_map (link_end e) q)) is.found.proxy

  ---------------------------------------------------------------- a reference that takes proxies contains nothing

  legal-there : (has_feature (reading s) e.node e.feature ≡ true) × (takes_proxies a ≡ true)
  legal-there = legal-at (reading s) e was i proxy (legal.links.ends e) there

  pub feature-there : has_feature (reading s) e.node e.feature ≡ true
  feature-there = legal-there.0

  contains-none : a.containing ≡ None
  contains-none = by a.containing (and_parts a.is_reference _ legal-there.1).1
    where
      by : (q : Option FeatureNo) → not (is_some q) ≡ true → q ≡ None
      by None h = refl
      by (Some h) contains = absurd (false≢true contains)

  lacks : Lacks s.links e v
  lacks k at = false≢true (sym (subst (λ (vs : List Value). has_value vs v ≡ false) linked is.absent) ∙ has-at was v k at)

  now-legal : is_legal_end (reading s) e now ≡ true
  now-legal = swapped-legal s e i proxy v there (legal.links.ends e) is.takes

  ---------------------------------------------------------------- the links without the proxy, and perhaps without others at other ends

  abbrev pub left : List (End × Value) → Links
  left ms = without_all s.links ((e, proxy) ∷ ms)

  abbrev pub placed : List (End × Value) → Links
  placed ms = put (left ms) e i x.object a.opposite a.containing

  module _ (ms : List (End × Value)) (apart : (w : Value) → is_named (kinds_of s.metamodel) ms e w ≡ false) where
    abbrev rest : Links
    rest = left ms

    left-legal : IsLegalSet rest
    left-legal = without_all_legal s.links ((e, proxy) ∷ ms) legal.links.set

    gives : (d : End) → end rest d ≡ filter (λ w. not (is_named (kinds_of s.metamodel) ((e, proxy) ∷ ms) d w)) (end s.links d)
    gives d = let m = kinds_of s.metamodel in end-without_all m (kinds-are s.metamodel legal.metamodel) s.links ((e, proxy) ∷ ms) legal.links.set legal.links.kinds d

    near-left : end rest e ≡ remove was i
    near-left =
        gives e
        ∙ filter_alike (λ w. not (is_named (kinds_of s.metamodel) ((e, proxy) ∷ ms) e w)) (λ w. not (same_value proxy w)) was
        (λ k w at. ap not ((λ j. ((same_end-self e j && same_value proxy w) || false) || apart w j) ∙ plain (same_value proxy w)))
        ∙ sym (remove-filter was i proxy (legal.links.set.placed.distinct e) there)
      where
        plain : (b : Bool) → ((b || false) || false) ≡ b
        plain true = refl
        plain false = refl

    -- another end loses the values that the other names name
    other-left : (d : End) → same_end e d ≡ false → end rest d ≡ filter (λ w. not (is_named (kinds_of s.metamodel) ms d w)) (end s.links d)
    other-left d other =
        gives d
        ∙ filter_alike (λ w. not (is_named (kinds_of s.metamodel) ((e, proxy) ∷ ms) d w)) (λ w. not (is_named (kinds_of s.metamodel) ms d w)) (end s.links d)
        (λ k w at. ap (λ (b : Bool). not (((b && same_value proxy w) || false) || is_named (kinds_of s.metamodel) ms d w)) other)

    still-lacks : (d : End) (w : Value) → Lacks s.links d w → Lacks rest d w
    still-lacks = let m = kinds_of s.metamodel in lacks-without_all m (kinds-are s.metamodel legal.metamodel) s.links ((e, proxy) ∷ ms) legal.links.set legal.links.kinds

    near-fits : PutFits rest e i v
    near-fits =
        let low = slice_get_within was i proxy there in
        let less = length-without was i proxy there in
        let few = legal.links.set.placed.few e in
        let long = ap (λ (vs : List Value). length vs) near-left in
        record { in_range = omega (arith, low, less, long); absent = still-lacks e v lacks; room = omega (arith, less, few, long) }

    free : IsFree rest (node_contained e x.object a.containing)
    free = subst (λ (q : Option FeatureNo). IsFree rest (node_contained e x.object q)) (sym contains-none) tt

    module _ (fits : EditFits rest (put_of e i x.object a.opposite a.containing)) where
      outside : MakesNoCycle rest (put_of e i x.object a.opposite a.containing)
      outside =
          put_outside rest e i x.object a.opposite a.containing left-legal fits (without_all_no_cycle s.links ((e, proxy) ∷ ms) legal.links.set legal.links.forest)
          (subst (λ (q : Option FeatureNo). IsPutOutside rest e x.object q) (sym contains-none) (λ y d at_y at_d. absurd (none-some y at_y)))

      placed-legal : IsLegalSet (placed ms)
      placed-legal = put_legal rest e i x.object a.opposite a.containing left-legal fits

      end-placed : (d : End) → end (placed ms) d ≡ put_end rest e i x.object a.opposite d
      end-placed = end-put rest e i x.object a.opposite a.containing left-legal fits

      near-placed : end (placed ms) e ≡ now
      near-placed =
          end-placed e ∙ ap (λ (b : Bool). if b then insert (end rest e) i v else (if is_far x.object a.opposite e then end rest e ++ node_value e.node ∷ [] else end rest e)) (same_end-self e)
          ∙ ap (λ (vs : List Value). insert vs i v) near-left

      other-placed : (d : End) → same_end e d ≡ false → end (placed ms) d ≡ (if is_far x.object a.opposite d then end rest d ++ node_value e.node ∷ [] else end rest d)
      other-placed d other = end-placed d ∙ ap (λ (b : Bool). if b then insert (end rest d) i v else (if is_far x.object a.opposite d then end rest d ++ node_value e.node ∷ [] else end rest d)) other

  ---------------------------------------------------------------- a reference without an opposite

  module _ (alone : a.opposite ≡ None) where
    alone-apart : (w : Value) → is_named (kinds_of s.metamodel) [] e w ≡ false
    alone-apart w = refl

    pub alone-fits : EditFits (left []) (put_of e i x.object a.opposite a.containing)
    alone-fits = (near-fits [] alone-apart, subst (λ (q : Option FeatureNo). FarFitsIn (left []) e x.object q) (sym alone) tt, free [] alone-apart)

    pub alone-outside : MakesNoCycle (left []) (put_of e i x.object a.opposite a.containing)
    alone-outside = outside [] alone-apart alone-fits

    -- the object is at the position of the proxy, and each other end is as it was
    pub end-alone : (d : End) → end (placed []) d ≡ swapped e now (end s.links) d
    end-alone d =
        elim (same_end e d) as (λ b. same_end e d ≡ b → end (placed []) d ≡ (if b then now else end s.links d)) [
          | true ↦ λ same. subst (λ (y : End). end (placed []) y ≡ now) (same_end-true e d same) (near-placed [] alone-apart alone-fits)
          | false ↦ λ other.
              other-placed [] alone-apart alone-fits d other
              ∙ ap (λ (q : Option FeatureNo). if is_far x.object q d then end (left []) d ++ node_value e.node ∷ [] else end (left []) d) alone
              ∙ other-left [] alone-apart d other ∙ filter_all (λ w. false) (end s.links d) (λ k w at. refl)
        ] refl

    pub alone-legal : (d : End) → is_legal_end (reading s) d (end (placed []) d) ≡ true
    alone-legal d =
        rw (end-alone d)
        (elim (same_end e d) as (λ b. same_end e d ≡ b → is_legal_end (reading s) d (if b then now else end s.links d) ≡ true) [
          | true ↦ λ same. subst (λ (y : End). is_legal_end (reading s) y now ≡ true) (same_end-true e d same) now-legal
          | false ↦ λ _. legal.links.ends d
        ] refl)

  ---------------------------------------------------------------- a proxy at both ends

  module _ (g : FeatureNo) (opposite : a.opposite ≡ Some g) (j : ℕ) (text : List ℕ) (stands : slice_get ((reading s).values (far_end x.object g)) j ≡ Some (value.Proxy text)) where
    abbrev pub far : End
    far = far_end x.object g

    abbrev pub mate : Value
    mate = value.Proxy text

    abbrev self : Value
    self = node_value e.node

    abbrev met : List Value
    met = end s.links far

    abbrev pub far-now : List Value
    far-now = insert (remove met j) j self

    abbrev pub both : List (End × Value)
    both = (far, mate) ∷ []

    pub far-there : slice_get met j ≡ Some mate
    far-there = subst (λ (vs : List Value). slice_get vs j ≡ Some mate) (values-linked s far (far-reference s.metamodel legal.metamodel e.feature g opposite)) stands

    far-apart : same_end far e ≡ false
    far-apart = match-apart (reading s) e x.object g legal.metamodel opposite

    pub near-apart : same_end e far ≡ false
    near-apart = elim (same_end e far) as (λ b. same_end e far ≡ b → b ≡ false) [
      | true ↦ λ same. absurd (true≢false (sym (same_end-self e) ∙ subst (λ (y : End). same_end y e ≡ false) (sym (same_end-true e far same)) far-apart))
      | false ↦ λ _. refl
    ] refl

    both-apart : (w : Value) → is_named (kinds_of s.metamodel) both e w ≡ false
    both-apart w = ap (λ (b : Bool). ((b && same_value mate w) || false) || false) far-apart

    far-left : end (left both) far ≡ remove met j
    far-left =
        other-left both both-apart far near-apart
        ∙ filter_alike (λ w. not (is_named (kinds_of s.metamodel) both far w)) (λ w. not (same_value mate w)) met
        (λ k w at. ap not ((λ k. ((same_end-self far k && same_value mate w) || false) || false) ∙ plain (same_value mate w)))
        ∙ sym (remove-filter met j mate (legal.links.set.placed.distinct far) far-there)
      where
        plain : (b : Bool) → ((b || false) || false) ≡ b
        plain true = refl
        plain false = refl

    rest-left : (d : End) → same_end e d ≡ false → same_end far d ≡ false → end (left both) d ≡ end s.links d
    rest-left d other third =
        other-left both both-apart d other
        ∙ filter_all (is_named (kinds_of s.metamodel) both d) (end s.links d) (λ k w at. ap (λ (b : Bool). ((b && same_value mate w) || false) || false) third)

    far-fits : FarFitsIn (left both) e x.object (Some g)
    far-fits =
        let less = length-without met j mate far-there in
        let few = legal.links.set.placed.few far in
        let long = ap (λ (vs : List Value). length vs) far-left in
        record {
          apart = (opposites_are_pairs s.metamodel legal.metamodel e.feature g opposite).apart;
          object = object-has (reading s) e.node e.feature g opposite legal-there.0;
          absent = still-lacks both both-apart far self (lacks-far s legal e x.object lacks g opposite);
          room = omega (arith, less, few, long);
        }

    pub joint-fits : EditFits (left both) (put_of e i x.object a.opposite a.containing)
    joint-fits = (near-fits both both-apart, subst (λ (q : Option FeatureNo). FarFitsIn (left both) e x.object q) (sym opposite) far-fits, free both both-apart)

    pub joint-outside : MakesNoCycle (left both) (put_of e i x.object a.opposite a.containing)
    joint-outside = outside both both-apart joint-fits

    far-placed : end (placed both) far ≡ remove met j ++ self ∷ []
    far-placed =
        other-placed both both-apart joint-fits far near-apart
        ∙ ap (λ (q : Option FeatureNo). if is_far x.object q far then end (left both) far ++ self ∷ [] else end (left both) far) opposite
        ∙ ap (λ (b : Bool). if b then end (left both) far ++ self ∷ [] else end (left both) far) (same_end-self far)
        ∙ ap (λ (vs : List Value). vs ++ self ∷ []) far-left

    -- the new link is last at the opposite end
    pub last-index : length (end (left both) far) ≡ length ((reading s).values far) - 1
    last-index =
        let less = length-without met j mate far-there in
        let long = ap (λ (vs : List Value). length vs) far-left in
        let same = ap (λ (vs : List Value). length vs) (values-linked s far (far-reference s.metamodel legal.metamodel e.feature g opposite)) in
        omega (arith, less, long, same)

    pub shift-fits : EditFits (placed both) (edit.Shift far j (length (end (left both) far)))
    shift-fits =
        let less = length-without met j mate far-there in
        let low = slice_get_within met j mate far-there in
        let long = ap (λ (vs : List Value). length vs) far-left in
        let more = ap (λ (vs : List Value). length vs) far-placed ∙ length-pushed (remove met j) self in
        (omega (arith, less, long, more), omega (arith, less, low, more))

    abbrev pub joint : Links
    joint = shift (placed both) far j (length (end (left both) far))

    far-joint : end joint far ≡ far-now
    far-joint =
        let n = length (end (left both) far) in
        end-shift_near (placed both) (placed-legal both both-apart joint-fits).placed far j n shift-fits.0 shift-fits.1
        ∙ (λ k. values_after_move (far-placed k) j (length (far-left k))) ∙ values_after_move-last (remove met j) self j

    other-joint : (d : End) → same_end far d ≡ false → end joint d ≡ end (placed both) d
    other-joint d other =
        let n = length (end (left both) far) in
        end-shift_other (placed both) (placed-legal both both-apart joint-fits).placed far j n shift-fits.0 shift-fits.1 d (λ same. true≢false (sym (same_end-self far) ∙ ap (same_end far) same ∙ other))

    -- the objects are at the positions of the proxies, and each other end is as it was
    pub end-joint : (d : End) → end joint d ≡ swapped e now (swapped far far-now (end s.links)) d
    end-joint d =
        elim (same_end e d) as (λ b. same_end e d ≡ b → end joint d ≡ (if b then now else swapped far far-now (end s.links) d)) [
          | true ↦ λ same. subst (λ (y : End). end joint y ≡ now) (same_end-true e d same) (other-joint e far-apart ∙ near-placed both both-apart joint-fits)
          | false ↦ λ other. elim (same_end far d) as (λ b. same_end far d ≡ b → end joint d ≡ (if b then far-now else end s.links d)) [
            | true ↦ λ same. subst (λ (y : End). end joint y ≡ far-now) (same_end-true far d same) far-joint
            | false ↦ λ third.
                other-joint d third ∙ other-placed both both-apart joint-fits d other
                ∙ ap (λ (q : Option FeatureNo). if is_far x.object q d then end (left both) d ++ self ∷ [] else end (left both) d) opposite
                ∙ ap (λ (b : Bool). if b then end (left both) d ++ self ∷ [] else end (left both) d) third ∙ rest-left d other third
          ] refl
        ] refl

    pub joint-legal : (d : End) → is_legal_end (reading s) d (end joint d) ≡ true
    joint-legal d =
        let fit = takes-back s legal e x.object legal-there.0 is.takes g opposite in
        rw (end-joint d)
        (elim (same_end e d) as (λ b. same_end e d ≡ b → is_legal_end (reading s) d (if b then now else swapped far far-now (end s.links) d) ≡ true) [
          | true ↦ λ same. subst (λ (y : End). is_legal_end (reading s) y now ≡ true) (same_end-true e d same) now-legal
          | false ↦ λ _. elim (same_end far d) as (λ b. same_end far d ≡ b → is_legal_end (reading s) d (if b then far-now else end s.links d) ≡ true) [
            | true ↦ λ same. subst (λ (y : End). is_legal_end (reading s) y far-now ≡ true) (same_end-true far d same) (swapped-legal s far j mate self far-there (legal.links.ends far) fit.1)
            | false ↦ λ _. legal.links.ends d
          ] refl
        ] refl)
