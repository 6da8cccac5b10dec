-- The plan of a change that puts one link and edits nothing else.
use Rattle.std.proofs.Common.{arith, eq-eqb, not, ◌≡◌, ◌++◌, ◌||◌, ◌&&◌, ℕ, suc, Bool, true, false, List, [], ◌∷◌, length, map, flat_map, nat_lt, is_some, option_map, option_to_list, IfSome, Option, Some, None, if◌then◌else◌, refl, sym, ap, subst, ◌∙◌}
use Rattle.links.specs.declared.plan.Edit.TheVariants as edit
use Rattle.std.specs.List.{AllByRecursion}
use Rattle.std.specs.Option.{option_map_or}
use Rattle.std.proofs.Math.Bool.{and-false}
use Rattle.std.proofs.lemmas.Bool.{true≢false, or_parts}
use Rattle.std.proofs.lemmas.Bool.Decides.{nat_tests}
use Rattle.std.proofs.lemmas.Option.{none-some}
use Rattle.mm_types.specs.declared.end.End.{End}
use Rattle.mm_types.specs.declared.numbers.FeatureNo.{FeatureNo}
use Rattle.mm_types.specs.declared.numbers.Node.{Node}
use Rattle.mm_types.specs.declared.numbers.Node.TheVariants as node
use Rattle.mm_types.specs.declared.numbers.ObjectNo.{ObjectNo}
use Rattle.mm_types.specs.Ends.{has_value, index_in}
use Rattle.mm_types.specs.Same.{node_value, same_feature}
use Rattle.mm_types.specs.Shapes.{is_containment, shape}
use Rattle.mm_types.specs.declared.value.Value.{Value}
use Rattle.mm_types.specs.declared.value.Value.TheVariants as value
use Rattle.links.specs.Holders.{holder, node_contained}
use Rattle.links.specs.Links.{far_end}
use Rattle.models.specs.Legal.{IsLegal}
use Rattle.models.specs.Model.{Model, reading, values_at}
use Rattle.models.proofs.PlaceLemmas.{index-at}
use Rattle.mm_meta.proofs.FeatureListLemmas.{all-append}
use Rattle.containment.proofs.PartLemmas.{contains-itself, contains-reference, holder-at}
use Rattle.notice_chain.specs.declared.notice.Notice.{Notice}
use Rattle.models.specs.Reading.{Reading, at_end, held_at, is_repeat, position_for, shape_at}
use Rattle.removal.specs.TreeLinkEnds.{link_end}
use Rattle.removal.specs.declared.link_end.LinkEnd.{LinkEnd}
use Rattle.handshake.specs.declared.change.Change.{Change}
use Rattle.handshake.specs.declared.change.Change.TheVariants.{At}
use Rattle.handshake.specs.declared.act.Act.TheVariants.{Set, Add}
use Rattle.links.specs.declared.link.NewLink.{NewLink}
use Rattle.handshake.specs.Displaced.{cut_by_new, cut_by_set, displaces, has_already, holding_link_end, is_plain_add, is_plain_set, is_taken, each_link_once, link_ends_if_single, displaced_link_ends}
use Rattle.handshake.specs.FeatureChange.{feature_change}
use Rattle.handshake.specs.FeatureChanges.{before_gain, chain, far_gain, feature_changes, gain_at, other_losses}
use Rattle.handshake.specs.declared.change_kind.ChangeKind.{ChangeKind}
use Rattle.handshake.specs.declared.change_kind.ChangeKind.TheVariants.{Gains}
use Rattle.handshake.specs.declared.change_kind.FeatureChange.{FeatureChange}
use Rattle.handshake.specs.Edits.{cut_of, link_edits, new_put}
use Rattle.handshake.specs.Effects.{add_value, put_values, value_edits}
use Rattle.change_plans.specs.LonePuts.{lone_put, of_put, put_at}
use Rattle.change_plans.specs.Plans.{IsPlanOf}
use Rattle.handshake.specs.Refusals.{early_refusal, late_refusal}
use Rattle.proxies.specs.Resolving.{opposite_end}
use Rattle.handshake.proofs.CutLinkEndLemmas.{plain-not}
use Rattle.change_plans.proofs.PlannedLemmas.{planned}
use Rattle.change_plans.proofs.NotifierLemmas.{change_notices-notifiers}

---------------------------------------------------------------- nothing displaced

positive : (n : ℕ) → nat_lt 0 (suc n) ≡ false → ⊥
positive n h = grind (arith, nat_tests)

none-of : (e : End) (vs : List Value) → nat_lt 0 (length vs) ≡ false → map (link_end e) vs ≡ []
none-of e [] h = refl
none-of e (v ∷ vs) h = absurd (positive (length vs) h)

none-held : (r : Reading) (e : End) → is_taken r e ≡ false → link_ends_if_single r e ≡ []
none-held r e h = by (shape_at r e).is_single h
  where
    by : (b : Bool) → (b && nat_lt 0 (length (r.values e))) ≡ false → (if b then map (link_end e) (r.values e) else []) ≡ []
    by true h = none-of e (r.values e) h
    by false h = refl

none-far : (r : Reading) (q : Option End) → option_map_or (is_taken r) q false ≡ false → option_map_or (link_ends_if_single r) q [] ≡ []
none-far r (Some d) h = none-held r d h
none-far r None h = refl

none-holding : (r : Reading) (q : Option Node) → option_map_or (λ n. is_some (r.holder n)) q false ≡ false → option_map_or (λ n. option_to_list (holding_link_end r n)) q [] ≡ []
none-holding r (Some n) h = by (r.holder n) h
  where
    by : (q : Option End) → is_some q ≡ false → option_to_list (option_map (λ d. link_end d (node_value n)) q) ≡ []
    by (Some d) h = absurd (true≢false h)
    by None h = refl
none-holding r None h = refl

pub displaced_link_ends-none : (r : Reading) (e : End) (o : ObjectNo) → displaces r e o ≡ false → displaced_link_ends r e o ≡ []
displaced_link_ends-none r e o h =
    let first = or_parts (is_taken r e) _ h in
    let second = or_parts (option_map_or (is_taken r) (opposite_end r e o) false) _ first.1 in
    let near = none-held r e first.0 in
    let far = none-far r (opposite_end r e o) second.0 in
    let up = none-holding r (node_contained e o (shape_at r e).containing) second.1 in
    ap (each_link_once r) (λ i. near i ++ (far i ++ up i))

---------------------------------------------------------------- an object that nothing contains

-- an object that nothing contains is at no containment end
uncontained-absent : (s : Model) (e : End) (o : ObjectNo) → IsLegal s → is_containment s.metamodel e.feature ≡ true → is_some (holder s.links (node.Object o)) ≡ false → has_value (values_at s e) (value.Object o) ≡ false
uncontained-absent s e o legal contains unheld =
    let vs = values_at s e in
    let v = value.Object o in
    elim (has_value vs v) as (λ b. has_value vs v ≡ b → b ≡ false) [
      | true ↦ λ there. absurd (true≢false (sym (ap is_some (holder-at s legal e.node e.feature contains (index_in vs v) o (index-at vs v there))) ∙ unheld))
      | false ↦ λ _. refl
    ] refl

unheld-part : (s : Model) (e : End) (o : ObjectNo) (h : Option FeatureNo) → h ≡ Some e.feature → option_map_or (λ n. is_some (holder s.links n)) (node_contained e o h) false ≡ false → is_some (holder s.links (node.Object o)) ≡ false
unheld-part s e o h is unheld =
    let self : same_feature e.feature e.feature ≡ true = eq-eqb e.feature.0 e.feature.0 refl in
    sym (ap (λ q. option_map_or (λ n. is_some (holder s.links n)) (node_contained e o q) false) is ∙ ap (λ (b : Bool). is_some (holder s.links (if b then node.Object o else e.node))) self) ∙ unheld

-- so a containment end does not have an object that displaces nothing
pub lone-absent : (s : Model) (e : End) (o : ObjectNo) → IsLegal s → is_containment s.metamodel e.feature ≡ true → displaces (reading s) e o ≡ false → is_plain_add (reading s) e (value.Object o) ≡ false
lone-absent s e o legal contains h =
    let a = shape s.metamodel e.feature in
    let own = contains-itself e.feature a.containing contains in
    let refers = contains-reference s.metamodel e.feature e.feature own in
    let nowhere = (or_parts _ _ (or_parts (is_taken (reading s) e) _ h).1).1 in
    let absent = uncontained-absent s e o legal contains (unheld-part s e o a.containing own nowhere) in
    ap (λ b. not b || (a.is_unique && has_value (values_at s e) (value.Object o))) refers ∙ ap (λ b. a.is_unique && b) absent ∙ and-false a.is_unique

---------------------------------------------------------------- the plan

-- facts that hold if all tests pass
record Chosen (a b c : Bool) (x p : NewLink) : Type 0 where
  displaced : a ≡ false
  plain : b ≡ false
  refused : c ≡ false
  is : x ≡ p

chosen : (a b c : Bool) (x p : NewLink) → (if a then None else if b then None else if c then None else Some x) ≡ Some p → Chosen a b c x p
chosen true b c x p h = absurd (none-some p h)
chosen false true c x p h = absurd (none-some p h)
chosen false false true x p h = absurd (none-some p h)
chosen false false false x p h = record { displaced = refl; plain = refl; refused = refl; is = cc }

nothing : {X : Type 0} (q : Option X) → is_some q ≡ false → q ≡ None
nothing None h = refl
nothing (Some x) h = absurd (true≢false h)

set-planned : (s : Model) (n : Node) (f : FeatureNo) (v : Value) (p : NewLink) → IsLegal s → early_refusal (reading s) (At (at_end n f) (Set v)) ≡ None → lone_put (reading s) (At (at_end n f) (Set v)) ≡ Some p → IsPlanOf false s (At (at_end n f) (Set v)) (of_put p)
set-planned s n f (value.Object o) p legal early h =
    let r = reading s in
    let e = at_end n f in
    let v = value.Object o in
    let c = At (at_end n f) (Set v) in
    let k = chosen (displaces r e o) (is_plain_set r e v) (is_some (late_refusal r c)) (put_at r e 0 o) p h in
    let late = nothing (late_refusal r c) k.refused in
    let reference = (plain-not (shape_at r e).is_reference (has_already r e v) k.plain).0 in
    let edits : edit.Put p ∷ [] ≡ link_edits r c =
    sym (ap (λ (b : Bool). map cut_of (if b then [] else cut_by_set r e v) ++ option_to_list (if b then None else new_put r e 0 v)) k.plain
    ∙ ap (λ (ts : List LinkEnd). map cut_of ts ++ edit.Put (put_at r e 0 o) ∷ []) (displaced_link_ends-none r e o k.displaced)
    ∙ ap (λ (q : NewLink). edit.Put q ∷ []) k.is) in
    let lists : [] ≡ value_edits r c = sym (ap (λ (b : Bool). if b then [] else put_values e (v ∷ []) (shape_at r e).is_unsettable) reference) in
    planned false s c (of_put p) refl legal early late tt (record { whose = refl; found = tt }) refl refl edits lists refl
set-planned s n f _ p legal early h = absurd (none-some p h)

add-planned : (s : Model) (n : Node) (f : FeatureNo) (v : Value) (i : Option ℕ) (p : NewLink) → IsLegal s → early_refusal (reading s) (At (at_end n f) (Add v i)) ≡ None → lone_put (reading s) (At (at_end n f) (Add v i)) ≡ Some p → IsPlanOf false s (At (at_end n f) (Add v i)) (of_put p)
add-planned s n f (value.Object o) i p legal early h =
    let r = reading s in
    let e = at_end n f in
    let v = value.Object o in
    let c = At (at_end n f) (Add v i) in
    let at = position_for r e i in
    let k = chosen (displaces r e o) (is_plain_add r e v) (is_some (late_refusal r c)) (put_at r e at o) p h in
    let late = nothing (late_refusal r c) k.refused in
    let reference = (plain-not (shape_at r e).is_reference (is_repeat r e v) k.plain).0 in
    let edits : edit.Put p ∷ [] ≡ link_edits r c =
    sym (ap (λ (b : Bool). map cut_of (if b then [] else cut_by_new r e v) ++ option_to_list (if b then None else new_put r e at v)) k.plain
    ∙ ap (λ (ts : List LinkEnd). map cut_of ts ++ edit.Put (put_at r e at o) ∷ []) (displaced_link_ends-none r e o k.displaced)
    ∙ ap (λ (q : NewLink). edit.Put q ∷ []) k.is) in
    let lists : [] ≡ value_edits r c = sym (ap (λ (b : Bool). if b then [] else add_value r e v i) reference) in
    planned false s c (of_put p) refl legal early late tt (record { whose = refl; found = tt }) refl refl edits lists refl
add-planned s n f _ i p legal early h = absurd (none-some p h)

lone-planned : (s : Model) (c : Change) (p : NewLink) → IsLegal s → early_refusal (reading s) c ≡ None → lone_put (reading s) c ≡ Some p → IsPlanOf false s c (of_put p)
lone-planned s (At e (Set v)) p legal early h = set-planned s e.node e.feature v p legal early h
lone-planned s (At e (Add v i)) p legal early h = add-planned s e.node e.feature v i p legal early h
lone-planned s _ p legal early h = absurd (none-some p h)

---------------------------------------------------------------- its notifications

-- the opposite end is of the object
far-notifier : (P : Node → Type 0) (o : ObjectNo) (w : Value) (q : Option FeatureNo) → (is_some q ≡ true → P (node.Object o)) → AllByRecursion (λ (t : FeatureChange). P t.at.node) (option_map_or (λ d. feature_change d (Gains w) ∷ []) (option_map (far_end o) q) [])
far-notifier P o w None far = tt
far-notifier P o w (Some g) far = (far refl, tt)

both-notifiers : (P : Node → Type 0) (r : Reading) (e : End) (o : ObjectNo) (k : ChangeKind) → P e.node → (is_some (shape_at r e).opposite ≡ true → P (node.Object o)) → AllByRecursion (λ (t : FeatureChange). P t.at.node) (far_gain r e o ++ feature_change e k ∷ [])
both-notifiers P r e o k near far = all-append (λ (t : FeatureChange). P t.at.node) (far_gain r e o) (feature_change e k ∷ []) (far-notifier P o (node_value e.node) (shape_at r e).opposite far) (near, tt)

-- the notifications of a change that is one put are at its end, and at the object if the feature has an opposite
pub put-notifiers : (P : Node → Type 0) (r : Reading) (c : Change) (p : NewLink) → lone_put r c ≡ Some p → P p.end.node → (is_some p.opposite ≡ true → P (node.Object p.object)) → AllByRecursion (λ (n : Notice). P n.notifier) (chain r c)
put-notifiers P r (At e (Set (value.Object o))) p h near far =
    let v = value.Object o in
    let k = chosen (displaces r e o) (is_plain_set r e v) (is_some (late_refusal r (At e (Set v)))) (put_at r e 0 o) p h in
    let changes : feature_changes r (At e (Set v)) ≡ far_gain r e o ++ feature_change e (Gains v) ∷ [] =
    ap (λ (b : Bool). (if b then [] else before_gain r e v (if b then [] else displaced_link_ends r e o)) ++ feature_change e (Gains v) ∷ []) k.plain
    ∙ ap (λ (ts : List LinkEnd). (flat_map (other_losses r e o) ts ++ far_gain r e o) ++ feature_change e (Gains v) ∷ []) (displaced_link_ends-none r e o k.displaced) in
    change_notices-notifiers P r.metamodel (held_at r) (feature_changes r (At e (Set v))) (subst (AllByRecursion (λ (t : FeatureChange). P t.at.node)) (sym changes)
    (both-notifiers P r e o (Gains v) (subst (λ (q : NewLink). P q.end.node) (sym k.is) near) (subst (λ (q : NewLink). is_some q.opposite ≡ true → P (node.Object q.object)) (sym k.is) far)))
put-notifiers P r (At e (Add (value.Object o) i)) p h near far =
    let v = value.Object o in
    let k = chosen (displaces r e o) (is_plain_add r e v) (is_some (late_refusal r (At e (Add v i)))) (put_at r e (position_for r e i) o) p h in
    let changes : feature_changes r (At e (Add v i)) ≡ far_gain r e o ++ feature_change e (gain_at i v) ∷ [] =
    ap (λ (b : Bool). if b then [] else before_gain r e v (if is_plain_add r e v then [] else displaced_link_ends r e o) ++ feature_change e (gain_at i v) ∷ []) (plain-not (shape_at r e).is_reference (is_repeat r e v) k.plain).1
    ∙ ap (λ (b : Bool). before_gain r e v (if b then [] else displaced_link_ends r e o) ++ feature_change e (gain_at i v) ∷ []) k.plain
    ∙ ap (λ (ts : List LinkEnd). (flat_map (other_losses r e o) ts ++ far_gain r e o) ++ feature_change e (gain_at i v) ∷ []) (displaced_link_ends-none r e o k.displaced) in
    change_notices-notifiers P r.metamodel (held_at r) (feature_changes r (At e (Add v i))) (subst (AllByRecursion (λ (t : FeatureChange). P t.at.node)) (sym changes)
    (both-notifiers P r e o (gain_at i v) (subst (λ (q : NewLink). P q.end.node) (sym k.is) near) (subst (λ (q : NewLink). is_some q.opposite ≡ true → P (node.Object q.object)) (sym k.is) far)))
put-notifiers P r _ p h near far = absurd (none-some p h)

-- a put that is found is the whole plan
pub found-planned : (s : Model) (c : Change) (q : Option NewLink) → IsLegal s → early_refusal (reading s) c ≡ None → q ≡ lone_put (reading s) c → IfSome q (λ p. IsPlanOf false s c (of_put p))
found-planned s c None legal early is = tt
found-planned s c (Some p) legal early is = lone-planned s c p legal early (sym is)
