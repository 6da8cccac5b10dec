-- A change that edits only values has a plan without edits of links, and a change that edits only links has a plan without edits of values.
use Rattle.std.proofs.Common.{◌≡◌, ◌∙◌, ◌++◌, ◌∷◌, ℕ, zero, suc, Bool, true, false, not, ◌||◌, List, [], length, map, option_map, Option, Some, None, if◌then◌else◌, refl, sym, ap, subst}
use Rattle.std.specs.List.{AllByRecursion}
use Rattle.std.specs.Option.{option_map_or}
use Rattle.std.proofs.lemmas.Bool.{and_parts, false≢true, not-true}
use Rattle.mm_types.specs.Resolved.{Metamodel}
use Rattle.mm_types.specs.Same.{node_value}
use Rattle.mm_types.specs.Shapes.{shape}
use Rattle.mm_types.specs.declared.end.End.{End}
use Rattle.mm_types.specs.declared.numbers.FeatureNo.{FeatureNo}
use Rattle.mm_types.specs.declared.numbers.Node.{Node}
use Rattle.mm_types.specs.declared.value.Value.{Value}
use Rattle.mm_types.specs.declared.value.Value.TheVariants as value
use Rattle.mm_values.specs.declared.value_edit.ValueEdit.{ValueEdit}
use Rattle.links.specs.Links.{Links, far_end}
use Rattle.links.specs.declared.plan.Edit.{Edit}
use Rattle.models.specs.Legal.{IsLegal}
use Rattle.models.specs.Model.{Model, reading}
use Rattle.models.specs.Reading.{Reading, first_at, held_at, is_repeat, shape_at}
use Rattle.removal.specs.declared.link_end.LinkEnd.{LinkEnd}
use Rattle.doc_loader.proofs.SideLemmas.{opposite-reference}
use Rattle.handshake.specs.declared.change.Change.{Change}
use Rattle.handshake.specs.declared.act.Act.{Act}
use Rattle.handshake.specs.declared.change.Change.TheVariants.{At, Create}
use Rattle.handshake.specs.FeatureChange.{change_notices, feature_change, notice_at}
use Rattle.handshake.specs.declared.change_kind.ChangeKind.{ChangeKind}
use Rattle.handshake.specs.declared.change_kind.ChangeKind.TheVariants.{Gains, Unsets}
use Rattle.handshake.specs.declared.change_kind.FeatureChange.{FeatureChange}
use Rattle.handshake.specs.declared.act.Act.TheVariants.{Add, Move, Remove, RemoveValue, Resolve, Set, Unset}
use Rattle.notice_chain.specs.declared.notice.Notice.{Notice}
use Rattle.handshake.specs.Displaced.{cut_link_ends, has_already}
use Rattle.handshake.specs.Edits.{cut_of, link_edits, made_edits}
use Rattle.handshake.proofs.ActLemmas.{act-puts}
use Rattle.handshake.proofs.CutLinkEndLemmas.{act-cuts, plain-not}
use Rattle.handshake.specs.Effects.{act_edits, value_edits}
use Rattle.handshake.specs.Changes.{HasFittingDocument, HasReadDocument, edits_links_alone, edits_one_kind, edits_values_alone, is_at_reference}
use Rattle.change_plans.specs.Plans.{IsAllowed, IsPlanOf, of_links, of_values}
use Rattle.handshake.specs.Refusals.{early_refusal, late_refusal}
use Rattle.handshake.specs.FeatureChanges.{all_lost, before_gain, chain, changes_of_remove, changes_of_unset, destroyed_by, feature_changes, feature_changes_with, gain_at, resolved_by, resolves_all, target_of}
use Rattle.change_plans.proofs.NotifierLemmas.{change_notices-notifiers}
use Rattle.change_plans.proofs.PlannedLemmas.{planned}

-- it loads nothing, destroys nothing, and resolves nothing
pub record IsPlain (r : Reading) (c : Change) : Type 0 where
  pub one : resolves_all c ≡ false
  pub read : HasReadDocument r.metamodel c
  pub fits : HasFittingDocument r.next c
  pub whose : None ≡ destroyed_by c
  pub found : None ≡ target_of r c
  pub resolved : None ≡ resolved_by r c

plain-of : (r : Reading) (c : Change) → edits_one_kind c ≡ true → IsPlain r c
plain-of r (Create k) h = record { one = refl; read = tt; fits = tt; whose = refl; found = refl; resolved = refl }
plain-of r (At e (Resolve i)) h = absurd (false≢true h)
plain-of r (At e a) h = record { one = refl; read = tt; fits = tt; whose = refl; found = refl; resolved = refl }
plain-of r _ h = absurd (false≢true h)

pub is-plain : (r : Reading) (c : Change) → edits_values_alone r.metamodel c ≡ true → IsPlain r c
is-plain r c h = plain-of r c (and_parts (edits_one_kind c) (not (is_at_reference r.metamodel c)) h).0

pub is-plain-link : (r : Reading) (c : Change) → edits_links_alone r.metamodel c ≡ true → IsPlain r c
is-plain-link r c h = plain-of r c (and_parts (edits_one_kind c) (is_at_reference r.metamodel c) h).0

-- it deletes nothing and resolves no proxy
pub plain-allowed : (r : Reading) (c : Change) → IsPlain r c → early_refusal r c ≡ None → late_refusal r c ≡ None → IsAllowed r c None None
plain-allowed r c plain early late = record { asked = early; allowed = late; removal = record { whose = plain.whose; found = tt }; found = plain.found; fits = plain.fits; one = plain.one }

no-values : (r : Reading) (c : Change) → edits_links_alone r.metamodel c ≡ true → [] ≡ value_edits r c
no-values r (At e (Resolve i)) h = absurd (false≢true h)
no-values r (At e a) h = sym (ap (λ (b : Bool). let vs : List ValueEdit = if b then [] else act_edits r e a in vs) h)
no-values r _ h = absurd (false≢true h)

pub links-planned : (is_heard : Bool) (s : Model) (c : Change) (es : List Edit) (ns : List Notice) → edits_links_alone s.metamodel c ≡ true → IsLegal s → early_refusal (reading s) c ≡ None → late_refusal (reading s) c ≡ None
    → es ≡ link_edits (reading s) c → ns ≡ (if is_heard then chain (reading s) c else []) → IsPlanOf is_heard s c (of_links es ns)
links-planned is_heard s c es ns h legal early late edits tells =
    let r = reading s in
    let plain = is-plain-link r c h in
    planned is_heard s c (of_links es ns) plain.one legal early late plain.read (record { whose = plain.whose; found = tt }) plain.found plain.resolved edits (no-values r c h) tells

-- what it does at an end, it does at an attribute
at-attribute : (m : Metamodel) (e : End) (a : Act) → edits_values_alone m (At e a) ≡ true → (shape m e.feature).is_reference ≡ true → ⊥
at-attribute m e a h reference = false≢true (sym (not-true (shape m e.feature).is_reference (and_parts (edits_one_kind (At e a)) (not (shape m e.feature).is_reference) h).1) ∙ reference)

-- it cuts no link
pub no-cuts : (r : Reading) (c : Change) → edits_values_alone r.metamodel c ≡ true → [] ≡ cut_link_ends r c
no-cuts r (Create k) h = refl
no-cuts r (At e a) h =
    let never = at-attribute r.metamodel e a h in
    act-cuts (λ (ts : List LinkEnd). [] ≡ ts) r e refl a
    (λ v _ reference. absurd (never reference)) (λ v reference. absurd (never reference)) (λ reference. absurd (never reference)) (λ i reference. absurd (never reference)) (λ i reference. absurd (never reference))
no-cuts r _ h = absurd (false≢true h)

-- it makes no link, and moves none
none-made : (r : Reading) (c : Change) → edits_values_alone r.metamodel c ≡ true → [] ≡ made_edits r c
none-made r (At e a) h =
    let never = at-attribute r.metamodel e a h in
    act-puts (λ (ts : List LinkEnd) (xs : List Edit) (made : Links → Links). [] ≡ xs) r e (λ ts. refl) a (λ v is new. absurd (never (plain-not (shape_at r e).is_reference (has_already r e v) new).0))
    (λ v i is new. absurd (never (plain-not (shape_at r e).is_reference (is_repeat r e v) new).0)) (λ to from is reference. absurd (never reference))
    (λ i is. absurd (false≢true (subst (λ (b : Act). edits_values_alone r.metamodel (At e b) ≡ true) is h)))
none-made r (Create k) h = refl
none-made r _ h = absurd (false≢true h)

no-links : (r : Reading) (c : Change) → edits_values_alone r.metamodel c ≡ true → [] ≡ link_edits r c
no-links r c h = λ i. map cut_of (no-cuts r c h i) ++ none-made r c h i

pub values-planned : (is_heard : Bool) (s : Model) (c : Change) (vs : List ValueEdit) (ns : List Notice) → edits_values_alone s.metamodel c ≡ true → IsLegal s → early_refusal (reading s) c ≡ None → late_refusal (reading s) c ≡ None
    → vs ≡ value_edits (reading s) c → ns ≡ (if is_heard then chain (reading s) c else []) → IsPlanOf is_heard s c (of_values vs ns)
values-planned is_heard s c vs ns h legal early late lists tells =
    let r = reading s in
    let plain = is-plain r c h in
    planned is_heard s c (of_values vs ns) plain.one legal early late plain.read (record { whose = plain.whose; found = tt }) plain.found plain.resolved (no-links r c h) lists tells

---------------------------------------------------------------- its notifications

-- the notification of a set of an attribute is the notification of its gain
pub set-told : (r : Reading) (e : End) (v : Value) → (shape_at r e).is_reference ≡ false → notice_at r (feature_change e (Gains v)) ∷ [] ≡ chain r (At e (Set v))
set-told r e v attribute =
    sym (ap (λ (b : Bool). change_notices r.metamodel (held_at r) ((if b || has_already r e v then [] else before_gain r e v (cut_link_ends r (At e (Set v)))) ++ feature_change e (Gains v) ∷ [])) (ap not attribute))

lost-near : (P : Node → Type 0) (e : End) (n : ℕ) → P e.node → AllByRecursion (λ (t : FeatureChange). P t.at.node) (all_lost e n)
lost-near P e zero near = tt
lost-near P e (suc n) near = (near, lost-near P e n near)

changes_of_unset-near : (P : Node → Type 0) (r : Reading) (e : End) → P e.node → AllByRecursion (λ (t : FeatureChange). P t.at.node) (changes_of_unset r e)
changes_of_unset-near P r e near =
    elim (shape_at r e).is_single as (λ b. AllByRecursion (λ (t : FeatureChange). P t.at.node) (if b then feature_change e Unsets ∷ [] else all_lost e (length (r.values e)))) [
      | true ↦ (near, tt)
      | false ↦ lost-near P e (length (r.values e)) near
    ]

no-opposite : (m : Metamodel) (f : FeatureNo) → (shape m f).is_reference ≡ false → (shape m f).opposite ≡ None
no-opposite m f attribute = by (shape m f).opposite refl
  where
    by : (q : Option FeatureNo) → (shape m f).opposite ≡ q → q ≡ None
    by None is = refl
    by (Some g) is = absurd (false≢true (sym attribute ∙ opposite-reference m f g is))

-- if no link is cut, and no opposite end gains, there are notifications only at the end itself
gain-near : (P : Node → Type 0) (r : Reading) (e : End) (v : Value) (k : ChangeKind) → (shape_at r e).is_reference ≡ false → P e.node → AllByRecursion (λ (t : FeatureChange). P t.at.node) (before_gain r e v [] ++ feature_change e k ∷ [])
gain-near P r e (value.Object o) k attribute near =
    subst (λ (q : Option FeatureNo). AllByRecursion (λ (t : FeatureChange). P t.at.node) (option_map_or (λ d. feature_change d (Gains (node_value e.node)) ∷ []) (option_map (far_end o) q) [] ++ feature_change e k ∷ [])) (sym (no-opposite r.metamodel e.feature attribute)) (near, tt)
gain-near P r e _ k attribute near = (near, tt)

-- a property of the node of the end at which a change acts
abbrev pub near_at : (Node → Type 0) → Change → Type 0
near_at P (At e a) = P e.node
near_at P _ = Unit {0}

-- the notifications of a change that edits no link are at its end
near-changes : (P : Node → Type 0) (r : Reading) (c : Change) → edits_values_alone r.metamodel c ≡ true → near_at P c → AllByRecursion (λ (t : FeatureChange). P t.at.node) (feature_changes_with r c [])
near-changes P r (Create k) h near = tt
near-changes P r (At e (Set v)) h near =
    subst (λ (b : Bool). AllByRecursion (λ (t : FeatureChange). P t.at.node) ((if b || has_already r e v then [] else before_gain r e v []) ++ feature_change e (Gains v) ∷ [])) (sym h) (near, tt)
near-changes P r (At e Unset) h near = changes_of_unset-near P r e near
near-changes P r (At e (Add v i)) h near =
    elim (is_repeat r e v) as (λ b. AllByRecursion (λ (t : FeatureChange). P t.at.node) (if b then [] else before_gain r e v [] ++ feature_change e (gain_at i v) ∷ [])) [
      | true ↦ tt
      | false ↦ gain-near P r e v (gain_at i v) (not-true (shape r.metamodel e.feature).is_reference h) near
    ]
near-changes P r (At e (Remove i)) h near = (near, tt)
near-changes P r (At e (RemoveValue v)) h near = by (first_at r e v)
  where
    by : (q : Option ℕ) → AllByRecursion (λ (t : FeatureChange). P t.at.node) (option_map_or (changes_of_remove r e []) q [])
    by None = tt
    by (Some i) = (near, tt)
near-changes P r (At e (Move to from)) h near = (near, tt)
near-changes P r _ h near = absurd (false≢true h)

pub near-notifiers : (P : Node → Type 0) (r : Reading) (c : Change) → edits_values_alone r.metamodel c ≡ true → near_at P c → AllByRecursion (λ (n : Notice). P n.notifier) (chain r c)
near-notifiers P r c h near =
    change_notices-notifiers P r.metamodel (held_at r) (feature_changes r c) (subst (λ (ts : List LinkEnd). AllByRecursion (λ (t : FeatureChange). P t.at.node) (feature_changes_with r c ts)) (no-cuts r c h) (near-changes P r c h near))
