-- A chain has no end twice, except a list that is unset. So its notifications can be computed in the model as it is.
use Rattle.std.proofs.Common.{◌≡◌, ◌≢◌, ◌<◌, ◌≤◌, ◌||◌, ℕ, zero, suc, pos, nat_lt, length, take, remove, slice_get, option_to_list, arith, Bool, true, false, not, List, [], ◌∷◌, ◌++◌, filter, flat_map, map, Option, Some, None, is_some, option_map, if◌then◌else◌, refl, sym, ap, ◌∙◌, subst, inl, inr, true≢false}
use Rattle.std.specs.List.{AllByRecursion}
use Rattle.std.specs.Option.{option_map_or}
use Rattle.std.proofs.lemmas.Bool.{and_from, false≢true, not-true, or_left, or_right}
use Rattle.std.proofs.lemmas.Bool.Decides.{nat_tests}
use Rattle.std.proofs.lemmas.Option.{none-some, same_Some}
use Rattle.mm_meta.proofs.ShapeLemmas.{opposites_are_pairs}
use Rattle.mm_types.proofs.SameLemmas.{same_end-self}
use Rattle.mm_types.specs.Ends.{Ends, Held, is_set, shown_values, value_in, with_held}
use Rattle.mm_types.specs.Lookups as lookups
use Rattle.mm_types.specs.Resolved.{Metamodel}
use Rattle.mm_types.specs.Same.{is_nil, node_value, same_end}
use Rattle.mm_types.specs.Shapes.{Shape, is_containment, shape}
use Rattle.mm_types.specs.declared.end.End.{End}
use Rattle.mm_types.specs.declared.numbers.FeatureNo.{FeatureNo}
use Rattle.mm_types.specs.declared.numbers.Node.{Node}
use Rattle.mm_types.specs.declared.numbers.ObjectNo.{ObjectNo}
use Rattle.mm_types.specs.declared.numbers.ResourceNo.{ResourceNo}
use Rattle.mm_types.specs.declared.value.Value.TheVariants as value
use Rattle.mm_types.specs.declared.value.Value.{Value}
use Rattle.links.proofs.PlaceLemmas.{ne-same_end}
use Rattle.links.specs.Links.{end, far_end}
use Rattle.links.specs.Plans.{Lacks}
use Rattle.models.specs.Legal.{IsLegal}
use Rattle.models.specs.Model.{Model, reading}
use Rattle.models.specs.Reading.{Reading, at_end, held_at, is_repeat}
use Rattle.notice_chain.specs.Replay.{ends_after_notice, list_after_remove}
use Rattle.notice_chain.specs.declared.kind.NoticeKind.TheVariants as kind
use Rattle.notice_chain.specs.declared.notice.Notice.{Notice}
use Rattle.mm_meta.proofs.FeatureListLemmas.{all-append}
use Rattle.containment.proofs.PartLemmas.{object-reference}
use Rattle.handshake.proofs.CutLinkEndLemmas.{HasLinkEnd, all_front, all_push, backwards-different, plain-not, link_end_in-different, link_end_in-stand, link_ends_at-different, link_ends_at-stand, link_ends_backwards-stand, values-linked, displaced_link_ends-different, displaced_link_ends-stand}
use Rattle.handshake.proofs.KnownLemmas.{add-taken, set-named}
use Rattle.handshake.proofs.LinkLemmas.{IsNewLink, far-lacks}
use Rattle.handshake.proofs.PlanLemmas.{add-new, set-new}
use Rattle.handshake.proofs.YieldLemmas.{Origin, displaced_link_ends-origin}
use Rattle.handshake.proofs.ReplayLemmas.{ends_after_notices-change_notices}
use Rattle.handshake.proofs.LinkEndNameLemmas.{IsNameOf, IsYielded, name-stands, names-apart, opposite_link_end-apart, yielded, yielded-agree, yielded-far, yielded-near}
use Rattle.handshake.specs.Displaced.{cut_by_new, cut_by_set, cut_link_ends, has_already, is_plain_add, is_plain_set, other_side, same_link, link_end_in, link_ends_at, link_ends_backwards, taken_index, opposite_link_end, displaced_link_ends}
use Rattle.removal.specs.TreeLinkEnds.{link_end}
use Rattle.handshake.specs.Laws.{AreApart, AreDifferent, takes_many}
use Rattle.handshake.specs.Refusals.{early_refusal, late_refusal}
use Rattle.handshake.specs.FeatureChange.{values_after_change, flag_after_change, ends_after_change, ends_after_changes, has_flag, notice_at, notice_of, feature_change, change_notices}
use Rattle.handshake.specs.FeatureChanges.{all_lost, before_gain, chain, destroyed_by, far_gain, far_loss, far_losses, gain_at, is_replaced, loaded_by, loss, losses, other_losses, resolves_all, changes_of_remove, feature_changes, feature_changes_with}
use Rattle.handshake.specs.declared.change.Change.TheVariants.{At, Create, NewResource, Load}
use Rattle.handshake.specs.declared.act.Act.TheVariants.{Set, Unset, Add, Move, Resolve}
use Rattle.resource_docs.specs.declared.doc.Doc.{Doc}
use Rattle.handshake.specs.declared.change.Change.{Change}
use Rattle.handshake.specs.declared.change_kind.ChangeKind.TheVariants.{Gains, LosesAt, Moves, Resolves, Unsets}
use Rattle.handshake.specs.declared.change_kind.ChangeKind.{ChangeKind}
use Rattle.handshake.specs.declared.change_kind.FeatureChange.{FeatureChange}
use Rattle.removal.specs.declared.link_end.LinkEnd.{LinkEnd}
use Rattle.removal.proofs.ListLemmas.{all-map, all-weaker}
use Rattle.removal.proofs.OuterLemmas.{all_of}
use Rattle.handshake.proofs.ResolvedLemmas.{resolved-as}
use Rattle.handshake.proofs.FeatureChangeLemmas.{take-whole}
use Rattle.proxies.proofs.TargetLemmas.{match-apart}

---------------------------------------------------------------- lists

all_both : {X : Type 0} (P Q : X → Type 0) (xs : List X) → AllByRecursion P xs → AllByRecursion Q xs → AllByRecursion (λ (x : X). P x × Q x) xs
all_both P Q [] a b = tt
all_both P Q (x ∷ xs) a b = ((a.0, b.0), all_both P Q xs a.1 b.1)

pub all_filter : {X : Type 0} (P : X → Type 0) (p : X → Bool) (xs : List X) → AllByRecursion P xs → AllByRecursion P (filter p xs)
all_filter P p [] all = tt
all_filter P p (x ∷ xs) all =
    elim (p x) as (λ b. AllByRecursion P (if b then x ∷ filter p xs else filter p xs)) [ true ↦ (all.0, all_filter P p xs all.1) | false ↦ all_filter P p xs all.1 ]

-- the elements that a filter keeps pass the test
all_pass : {X : Type 0} (p : X → Bool) (xs : List X) → AllByRecursion (λ (x : X). p x ≡ true) (filter p xs)
all_pass p [] = tt
all_pass p (x ∷ xs) =
    elim (p x) as (λ b. p x ≡ b → AllByRecursion (λ y. p y ≡ true) (if b then x ∷ filter p xs else filter p xs)) [ true ↦ λ h. (h, all_pass p xs) | false ↦ λ _. all_pass p xs ] refl

all_flat : {X Y : Type 0} (P : X → Type 0) (Q : Y → Type 0) (f : X → List Y) (xs : List X) → ((x : X) → P x → AllByRecursion Q (f x)) → AllByRecursion P xs → AllByRecursion Q (flat_map f xs)
all_flat P Q f [] each all = tt
all_flat P Q f (x ∷ xs) each all = all-append Q (f x) (flat_map f xs) (each x all.0) (all_flat P Q f xs each all.1)

---------------------------------------------------------------- feature changes at other ends

-- no feature change of the list is at this end
abbrev pub IsNotAt : End → List FeatureChange → Type 0
IsNotAt e ts = AllByRecursion (λ (t : FeatureChange). e ≡ t.at → ⊥) ts

pub apart_append : (ts us : List FeatureChange) → AreApart ts → AreApart us → AllByRecursion (λ (t : FeatureChange). IsNotAt t.at us) ts → AreApart (ts ++ us)
apart_append [] us a b away = b
apart_append (t ∷ ts) us a b away = (all-append (λ (u : FeatureChange). t.at ≡ u.at → ⊥) ts us a.0 away.0, apart_append ts us a.1 b away.1)

pub apart_filter : (p : FeatureChange → Bool) (ts : List FeatureChange) → AreApart ts → AreApart (filter p ts)
apart_filter p [] apart = tt
apart_filter p (t ∷ ts) apart =
    elim (p t) as (λ b. AreApart (if b then t ∷ filter p ts else filter p ts)) [ true ↦ (all_filter (λ (u : FeatureChange). t.at ≡ u.at → ⊥) p ts apart.0, apart_filter p ts apart.1) | false ↦ apart_filter p ts apart.1 ]

-- one more feature change, at a different end than all earlier ones
apart_push : (ts : List FeatureChange) (u : FeatureChange) → AreApart ts → AllByRecursion (λ (t : FeatureChange). t.at ≡ u.at → ⊥) ts → AreApart (ts ++ u ∷ [])
apart_push ts u apart away = apart_append ts (u ∷ []) apart (tt, tt) (all-weaker _ _ ts (λ t h. (h, tt)) away)

---------------------------------------------------------------- feature changes read in the model as it is

-- the notification of a feature change, computed in these ends
abbrev read_in : Metamodel → Ends → FeatureChange → Notice
read_in m e t = notice_of (shape m t.at.feature) t.at t.does (e t.at)

with_held-other : (e : Ends) (x d : End) (h : Held) → x ≢ d → with_held e x h d ≡ e d
with_held-other e x d h ne = ap (λ (b : Bool). if b then h else e d) (ne-same_end x d ne)

-- a notification changes no other end
ends_after_notice-other : (m : Metamodel) (e : Ends) (t : FeatureChange) (d : End) → t.at ≢ d → ends_after_notice (has_flag m) e (read_in m e t) d ≡ e d
ends_after_notice-other m e t d ne = ap (λ (f : Ends). f d) (ends_after_notices-change_notices m e (t ∷ [])) ∙ with_held-other e t.at d (record { values = values_after_change (shape m t.at.feature) t.does (e t.at).values; flag = flag_after_change (shape m t.at.feature) t.does (e t.at).flag }) ne

change_notices-agreeing : (m : Metamodel) (e d : Ends) (ts : List FeatureChange) → AreApart ts → AllByRecursion (λ (t : FeatureChange). d t.at ≡ e t.at) ts → change_notices m d ts ≡ map (read_in m e) ts
change_notices-agreeing m e d [] apart same = refl
change_notices-agreeing m e d (t ∷ ts) apart same =
    let next : Ends = ends_after_notice (has_flag m) d (read_in m d t) in
    let kept : (u : FeatureChange) → (t.at ≡ u.at → ⊥) × (d u.at ≡ e u.at) → next u.at ≡ e u.at = λ u h. ends_after_notice-other m d t u.at h.0 ∙ h.1 in
    ap (λ h. notice_of (shape m t.at.feature) t.at t.does h ∷ change_notices m next ts) same.0
    ∙ ap (λ ns. read_in m e t ∷ ns) (change_notices-agreeing m e next ts apart.1 (all-weaker _ _ ts kept (all_both _ _ ts apart.0 same.1)))

-- if no end has two notifications, each can be computed in the ends as they are
pub change_notices-apart : (m : Metamodel) (e : Ends) (ts : List FeatureChange) → AreApart ts → change_notices m e ts ≡ map (λ t. notice_of (shape m t.at.feature) t.at t.does (e t.at)) ts
change_notices-apart m e ts apart = change_notices-agreeing m e e ts apart (all_of (λ (t : FeatureChange). e t.at ≡ e t.at) ts (λ t. refl))

---------------------------------------------------------------- losses

-- a feature change is at an end of a link
record IsOf (r : Reading) (t : LinkEnd) (x : FeatureChange) : Type 0 where
  name : LinkEnd
  is_name : IsNameOf r t name
  at : x.at ≡ name.end

of_near : (r : Reading) (t : LinkEnd) → IsOf r t (loss t)
of_near r t = record { name = t; is_name = inl refl; at = refl }

of_far : (r : Reading) (t u : LinkEnd) → opposite_link_end r t ≡ Some u → IsOf r t (loss u)
of_far r t u is = record { name = u; is_name = inr is; at = refl }

losses-of : (r : Reading) (t : LinkEnd) → AllByRecursion (IsOf r t) (losses r t)
losses-of r t = by (opposite_link_end r t) refl
  where
    by : (q : Option LinkEnd) → opposite_link_end r t ≡ q → AllByRecursion (IsOf r t) (option_map_or (λ u. if is_containment r.metamodel u.end.feature then loss u ∷ loss t ∷ [] else loss t ∷ loss u ∷ []) q (loss t ∷ []))
    by None _ = (of_near r t, tt)
    by (Some u) is =
        elim (is_containment r.metamodel u.end.feature) as (λ b. AllByRecursion (IsOf r t) (if b then loss u ∷ loss t ∷ [] else loss t ∷ loss u ∷ [])) [
          | true ↦ (of_far r t u is, (of_near r t, tt))
          | false ↦ (of_near r t, (of_far r t u is, tt))
        ]

far_loss-apart : (r : Reading) (t : LinkEnd) → AreApart (far_loss r t)
far_loss-apart r t = elim (opposite_link_end r t) as (λ q. AreApart (option_map_or (λ u. loss u ∷ []) q [])) [ None ↦ tt | Some u ↦ (tt, tt) ]

module _ (s : Model) (legal : IsLegal s) where
  losses-apart : (t : LinkEnd) → AreApart (losses (reading s) t)
  losses-apart t = by (opposite_link_end (reading s) t) refl
    where
      by : (q : Option LinkEnd) → opposite_link_end (reading s) t ≡ q → AreApart (option_map_or (λ u. if is_containment s.metamodel u.end.feature then loss u ∷ loss t ∷ [] else loss t ∷ loss u ∷ []) q (loss t ∷ []))
      by None _ = (tt, tt)
      by (Some u) is =
          elim (is_containment s.metamodel u.end.feature) as (λ b. AreApart (if b then loss u ∷ loss t ∷ [] else loss t ∷ loss u ∷ [])) [
            | true ↦ ((λ same. opposite_link_end-apart s legal t u is (sym same), tt), (tt, tt))
            | false ↦ ((opposite_link_end-apart s legal t u is, tt), (tt, tt))
          ]

  -- the feature changes of several links, each at its own ends: names of these links in one end have the same value
  module _ (f : LinkEnd → List FeatureChange) (of : (t : LinkEnd) → AllByRecursion (IsOf (reading s) t) (f t)) (Ok Key : LinkEnd → Type 0)
      (key : (t y : LinkEnd) → Ok t → IsNameOf (reading s) t y → Key y) (agree : (y z : LinkEnd) → HasLinkEnd s.links y → HasLinkEnd s.links z → Key y → Key z → y.end ≡ z.end → y.value ≡ z.value) where
    abbrev Known : LinkEnd → Type 0
    Known t = HasLinkEnd s.links t × Ok t

    others_away : (t : LinkEnd) (ts : List LinkEnd) (x : FeatureChange) → Known t → AllByRecursion (λ (u : LinkEnd). same_link (reading s) u t ≡ false) ts → AllByRecursion Known ts → IsOf (reading s) t x → IsNotAt x.at (flat_map f ts)
    others_away t ts x at_t others known of_x =
        let away : (u : LinkEnd) → (same_link (reading s) u t ≡ false) × Known u → IsNotAt x.at (f u) = λ u h. all-weaker (IsOf (reading s) u) (λ (y : FeatureChange). x.at ≡ y.at → ⊥) (f u)
        (λ y of_y same.
        let one = sym of_x.at ∙ same ∙ of_y.at in
        names-apart s legal t u of_x.name of_y.name at_t.0 h.1.0 h.0 of_x.is_name of_y.is_name one
        (agree of_x.name of_y.name (name-stands s legal t of_x.name at_t.0 of_x.is_name) (name-stands s legal u of_y.name h.1.0 of_y.is_name) (key t of_x.name at_t.1 of_x.is_name) (key u of_y.name h.1.1 of_y.is_name) one)) (of u) in
        all_flat (λ (u : LinkEnd). (same_link (reading s) u t ≡ false) × Known u) (λ (y : FeatureChange). x.at ≡ y.at → ⊥) f ts away (all_both _ _ ts others known)

    flat-apart : ((t : LinkEnd) → AreApart (f t)) → (ts : List LinkEnd) → AreDifferent (reading s) ts → AllByRecursion Known ts → AreApart (flat_map f ts)
    flat-apart each [] different known = tt
    flat-apart each (t ∷ ts) different known =
        apart_append (f t) (flat_map f ts) (each t) (flat-apart each ts different.1 known.1)
        (all-weaker (IsOf (reading s) t) (λ (x : FeatureChange). IsNotAt x.at (flat_map f ts)) (f t) (λ x of_x. others_away t ts x known.0 different.0 known.1 of_x) (of t))

  ---------------------------------------------------------------- what cuts of an end tell

  pub far_losses-away : (e : End) (ts : List LinkEnd) → AllByRecursion (λ (t : LinkEnd). t.end ≡ e) ts → AllByRecursion (λ (x : FeatureChange). x.at ≡ e → ⊥) (far_losses (reading s) ts)
  far_losses-away e ts all = all_flat (λ (t : LinkEnd). t.end ≡ e) (λ (x : FeatureChange). x.at ≡ e → ⊥) (far_loss (reading s)) ts each all
    where
      by : (t : LinkEnd) (q : Option LinkEnd) → t.end ≡ e → opposite_link_end (reading s) t ≡ q → AllByRecursion (λ (x : FeatureChange). x.at ≡ e → ⊥) (option_map_or (λ u. loss u ∷ []) q [])
      by t None is _ = tt
      by t (Some u) is turns = (λ same. opposite_link_end-apart s legal t u turns (is ∙ sym same), tt)

      each : (t : LinkEnd) → t.end ≡ e → AllByRecursion (λ (x : FeatureChange). x.at ≡ e → ⊥) (far_loss (reading s) t)
      each t is = by t (opposite_link_end (reading s) t) is refl

  -- links that are in one end, with notifications at their far ends
  far-name : (e : End) (t y : LinkEnd) → t.end ≡ e → opposite_link_end (reading s) t ≡ Some y → y.value ≡ node_value e.node
  far-name e t y is turns = by t.value (shape s.metamodel t.end.feature).opposite turns ∙ ap (λ (d : End). node_value d.node) is
    where
      by : (v : Value) (q : Option FeatureNo) → other_side t.end.node v q ≡ Some y → y.value ≡ node_value t.end.node
      by (value.Object o) (Some g) h = ap (λ (z : LinkEnd). z.value) (sym (same_Some (link_end (far_end o g) (node_value t.end.node)) y h))
      by v q h = absurd (none-some y h)

  far_loss-far : (e : End) (t : LinkEnd) → t.end ≡ e → AllByRecursion (λ (x : FeatureChange). (y : LinkEnd) × (opposite_link_end (reading s) t ≡ Some y) × (x.at ≡ y.end)) (far_loss (reading s) t)
  far_loss-far e t is = by (opposite_link_end (reading s) t) refl
    where
      by : (q : Option LinkEnd) → opposite_link_end (reading s) t ≡ q → AllByRecursion (λ (x : FeatureChange). (y : LinkEnd) × (opposite_link_end (reading s) t ≡ Some y) × (x.at ≡ y.end)) (option_map_or (λ u. loss u ∷ []) q [])
      by None _ = tt
      by (Some u) turns = ((u, turns, refl), tt)

  -- two links of one end have different far ends
  far-others : (e : End) (t u y z : LinkEnd) → t.end ≡ e → u.end ≡ e → HasLinkEnd s.links t → HasLinkEnd s.links u → same_link (reading s) u t ≡ false → opposite_link_end (reading s) t ≡ Some y → opposite_link_end (reading s) u ≡ Some z → y.end ≡ z.end → ⊥
  far-others e t u y z is_t is_u at_t at_u other turns_t turns_u same =
      names-apart s legal t u y z at_t at_u other (inr turns_t) (inr turns_u) same (far-name e t y is_t turns_t ∙ sym (far-name e u z is_u turns_u))

  far-apart : (e : End) (ts : List LinkEnd) → AllByRecursion (λ (t : LinkEnd). t.end ≡ e) ts → AreDifferent (reading s) ts → AllByRecursion (HasLinkEnd s.links) ts → AreApart (far_losses (reading s) ts)
  far-apart e [] here different stand = tt
  far-apart e (t ∷ ts) here different stand =
      let r = reading s in
      let Here : LinkEnd → Type 0 = λ u. (same_link r u t ≡ false) × ((u.end ≡ e) × HasLinkEnd s.links u) in
      let away : (x : FeatureChange) → ((y : LinkEnd) × (opposite_link_end r t ≡ Some y) × (x.at ≡ y.end)) → IsNotAt x.at (far_losses r ts) = λ x of_x. all_flat Here (λ (w : FeatureChange). x.at ≡ w.at → ⊥) (far_loss r) ts
      (λ u h. all-weaker _ _ (far_loss r u) (λ w of_w same. far-others e t u of_x.0 of_w.0 here.0 h.1.0 stand.0 h.1.1 h.0 of_x.1 of_w.1 (sym of_x.2 ∙ same ∙ of_w.2)) (far_loss-far e u h.1.0))
      (all_both _ _ ts different.0 (all_both _ _ ts here.1 stand.1)) in
      apart_append (far_loss r t) (far_losses r ts) (far_loss-apart r t) (far-apart e ts here.1 different.1 stand.1)
      (all-weaker _ _ (far_loss r t) away (far_loss-far e t here.0))

  -- the notifications of cuts of an end, and then of the end itself
  pub emptied-apart : (e : End) (ts : List LinkEnd) (h : ChangeKind) → AllByRecursion (λ (t : LinkEnd). t.end ≡ e) ts → AreDifferent (reading s) ts → AllByRecursion (HasLinkEnd s.links) ts → AreApart (far_losses (reading s) ts ++ feature_change e h ∷ [])
  emptied-apart e ts h here different stand = apart_push (far_losses (reading s) ts) (feature_change e h) (far-apart e ts here different stand) (far_losses-away e ts here)

  ---------------------------------------------------------------- the notifications of a new link

  module _ (e : End) (o : ObjectNo) (new : IsNewLink s e o) where
    -- the notifications of the displaced links
    abbrev kept : List FeatureChange
    kept = flat_map (other_losses (reading s) e o) (displaced_link_ends (reading s) e o)

    abbrev gain_by : Option FeatureNo → List FeatureChange
    gain_by q = option_map_or (λ d. feature_change d (Gains (node_value e.node)) ∷ []) (option_map (far_end o) q) []

    other_losses-of : (t : LinkEnd) → AllByRecursion (IsOf (reading s) t) (other_losses (reading s) e o t)
    other_losses-of t = all_filter (IsOf (reading s) t) (λ x. not (is_replaced (reading s) e o x.at)) (losses (reading s) t) (losses-of (reading s) t)

    other_losses-apart : (t : LinkEnd) → AreApart (other_losses (reading s) e o t)
    other_losses-apart t = apart_filter (λ x. not (is_replaced (reading s) e o x.at)) (losses (reading s) t) (losses-apart t)

    known : AllByRecursion (λ (t : LinkEnd). HasLinkEnd s.links t × Origin s e o t) (displaced_link_ends (reading s) e o)
    known = all_both _ _ (displaced_link_ends (reading s) e o) (displaced_link_ends-stand s e o legal new.reference) (displaced_link_ends-origin s e o)

    kept-apart : AreApart kept
    kept-apart = flat-apart (other_losses (reading s) e o) other_losses-of (Origin s e o) (IsYielded s e o) (yielded s legal e o) (yielded-agree s legal e o) other_losses-apart (displaced_link_ends (reading s) e o) (displaced_link_ends-different (reading s) e o) known

    kept-other : AllByRecursion (λ (x : FeatureChange). not (is_replaced (reading s) e o x.at) ≡ true) kept
    kept-other = all_flat (λ (t : LinkEnd). Unit {0}) (λ (x : FeatureChange). not (is_replaced (reading s) e o x.at) ≡ true) (other_losses (reading s) e o) (displaced_link_ends (reading s) e o)
        (λ t _. all_pass (λ x. not (is_replaced (reading s) e o x.at)) (losses (reading s) t)) (all_of (λ (t : LinkEnd). Unit {0}) (displaced_link_ends (reading s) e o) (λ t. tt))

    -- the new link replaces the values of both its single ends
    replaced_away : (d : End) → is_replaced (reading s) e o d ≡ true → AllByRecursion (λ (x : FeatureChange). x.at ≡ d → ⊥) kept
    replaced_away d replaced =
        let away : (x : FeatureChange) → not (is_replaced (reading s) e o x.at) ≡ true → x.at ≡ d → ⊥ = λ x h same. false≢true (sym (ap not (subst (λ (y : End). is_replaced (reading s) e o y ≡ true) (sym same) replaced)) ∙ h) in
        all-weaker _ _ kept away kept-other

    -- a list of the new link lacks the values that the displaced links would lose there
    lacking_away : (d : End) (w : Value) → Lacks s.links d w → ((y : LinkEnd) → IsYielded s e o y → y.end ≡ d → y.value ≡ w) → AllByRecursion (λ (x : FeatureChange). x.at ≡ d → ⊥) kept
    lacking_away d w lacks only =
        all_flat (λ (t : LinkEnd). HasLinkEnd s.links t × Origin s e o t) (λ (x : FeatureChange). x.at ≡ d → ⊥) (other_losses (reading s) e o) (displaced_link_ends (reading s) e o)
        (λ t at_t. all-weaker (IsOf (reading s) t) (λ (x : FeatureChange). x.at ≡ d → ⊥) (other_losses (reading s) e o t) (λ x of_x same.
        let y = of_x.name in
        let here : y.end ≡ d = sym of_x.at ∙ same in
        let at_y = name-stands s legal t y at_t.0 of_x.is_name in
        let is = only y (yielded s legal e o t y at_t.1 of_x.is_name) here in
        lacks at_y.0 (subst (λ (v : Value). slice_get (end s.links d) at_y.0 ≡ Some v) is (subst (λ (x : End). slice_get (end s.links x) at_y.0 ≡ Some y.value) here at_y.1))) (other_losses-of t)) known

    near-away : AllByRecursion (λ (x : FeatureChange). x.at ≡ e → ⊥) kept
    near-away =
        elim (shape s.metamodel e.feature).is_single as (λ b. (shape s.metamodel e.feature).is_single ≡ b → AllByRecursion (λ (x : FeatureChange). x.at ≡ e → ⊥) kept) [
          | true ↦ λ single. replaced_away e (and_from (shape s.metamodel e.feature).is_single _ single (or_left (same_end e e) _ (same_end-self e)))
          | false ↦ λ many. lacking_away e (value.Object o) new.lacks (λ y name same. yielded-near s legal e o y name many same)
        ] refl

    far-away : (g : FeatureNo) → (shape s.metamodel e.feature).opposite ≡ Some g → AllByRecursion (λ (x : FeatureChange). x.at ≡ far_end o g → ⊥) kept
    far-away g opposite =
        elim (shape s.metamodel g).is_single as (λ b. (shape s.metamodel g).is_single ≡ b → AllByRecursion (λ (x : FeatureChange). x.at ≡ far_end o g → ⊥) kept) [
          | true ↦ λ single. replaced_away (far_end o g) (and_from (shape s.metamodel g).is_single _ single
              (or_right (same_end e (far_end o g)) _ (ap (λ (q : Option FeatureNo). option_map_or (same_end (far_end o g)) (option_map (far_end o) q) false) opposite ∙ same_end-self (far_end o g))))
          | false ↦ λ many. lacking_away (far_end o g) (node_value e.node) (far-lacks s legal e o new g opposite) (λ y name same. yielded-far s legal e o y g opposite name many same)
        ] refl

    with_gain-apart : (q : Option FeatureNo) → (shape s.metamodel e.feature).opposite ≡ q → (h : ChangeKind) → AreApart ((kept ++ gain_by q) ++ feature_change e h ∷ [])
    with_gain-apart None opposite h = apart_push (kept ++ []) (feature_change e h)
        (apart_append kept [] kept-apart tt (all_of (λ (x : FeatureChange). IsNotAt x.at []) kept (λ x. tt)))
        (all-append (λ (x : FeatureChange). x.at ≡ e → ⊥) kept [] near-away tt)
    with_gain-apart (Some g) opposite h = apart_push (kept ++ gain_by (Some g)) (feature_change e h)
        (apart_push kept (feature_change (far_end o g) (Gains (node_value e.node))) kept-apart (far-away g opposite))
        (all-append (λ (x : FeatureChange). x.at ≡ e → ⊥) kept (gain_by (Some g)) near-away (λ same. (opposites_are_pairs s.metamodel legal.metamodel e.feature g opposite).apart (ap (λ (x : End). x.feature.0) same), tt))

    linked-apart : (h : ChangeKind) → AreApart ((kept ++ far_gain (reading s) e o) ++ feature_change e h ∷ [])
    linked-apart h = with_gain-apart (shape s.metamodel e.feature).opposite refl h

---------------------------------------------------------------- changes

pub backwards-here : (e : End) (vs : List Value) → AllByRecursion (λ (t : LinkEnd). t.end ≡ e) (link_ends_backwards e vs)
backwards-here e [] = tt
backwards-here e (v ∷ vs) = all_push (λ (t : LinkEnd). t.end ≡ e) (link_ends_backwards e vs) (link_end e v) (backwards-here e vs) refl

pub link_end_in-here : (r : Reading) (e : End) (i : ℕ) → AllByRecursion (λ (t : LinkEnd). t.end ≡ e) (link_end_in r e i)
link_end_in-here r e i = elim (slice_get (r.values e) i) as (λ q. AllByRecursion (λ (t : LinkEnd). t.end ≡ e) (option_to_list (option_map (link_end e) q))) [ None ↦ tt | Some v ↦ (refl, tt) ]

pub link_ends_at-here : (r : Reading) (e : End) → AllByRecursion (λ (t : LinkEnd). t.end ≡ e) (link_ends_at r e)
link_ends_at-here r e = all-map (λ (t : LinkEnd). t.end ≡ e) (link_end e) (r.values e) (all_of _ (r.values e) (λ v. refl))

one-apart : (t : FeatureChange) → AreApart (t ∷ [])
one-apart t = (tt, tt)

-- the case of a reference, and of an attribute, which cuts no link
reference-tells : (P : List LinkEnd → Type 0) (b : Bool) (ts : List LinkEnd) → (b ≡ true → P ts) → P [] → P (if b then ts else [])
reference-tells P true ts some none = some refl
reference-tells P false ts some none = none

set-apart : (s : Model) (n : Node) (f : FeatureNo) (v : Value) → IsLegal s → early_refusal (reading s) (At (at_end n f) (Set v)) ≡ None → late_refusal (reading s) (At (at_end n f) (Set v)) ≡ None → is_plain_set (reading s) (at_end n f) v ≡ false
    → AreApart (before_gain (reading s) (at_end n f) v (cut_by_set (reading s) (at_end n f) v) ++ feature_change (at_end n f) (Gains v) ∷ [])
set-apart s n f (value.Object o) legal early late h = linked-apart s legal (at_end n f) o (set-new s n f o legal early late h) (Gains (value.Object o))
set-apart s n f v legal early late h =
    let e = at_end n f in
    let both = plain-not (shape s.metamodel f).is_reference (has_already (reading s) e v) h in
    emptied-apart s legal e (link_ends_at (reading s) e) (Gains v) (link_ends_at-here (reading s) e) (link_ends_at-different s e legal both.0 (set-named (reading s) n f v early).single) (link_ends_at-stand s e both.0)

add-apart : (s : Model) (n : Node) (f : FeatureNo) (v : Value) (i : Option ℕ) → IsLegal s → early_refusal (reading s) (At (at_end n f) (Add v i)) ≡ None → late_refusal (reading s) (At (at_end n f) (Add v i)) ≡ None → is_plain_add (reading s) (at_end n f) v ≡ false
    → AreApart (before_gain (reading s) (at_end n f) v (cut_by_new (reading s) (at_end n f) v) ++ feature_change (at_end n f) (gain_at i v) ∷ [])
add-apart s n f (value.Object o) i legal early late h = linked-apart s legal (at_end n f) o (add-new s n f o i early late h) (gain_at i (value.Object o))
add-apart s n f v i legal early late h = one-apart (feature_change (at_end n f) (gain_at i v))

-- an addition to an attribute has only the notification of the attribute
attribute-add : (s : Model) (n : Node) (f : FeatureNo) (v : Value) (h : ChangeKind) → (shape s.metamodel f).is_reference ≡ false → lookups.takes s.metamodel (reading s).class f v ≡ true
    → AreApart (before_gain (reading s) (at_end n f) v [] ++ feature_change (at_end n f) h ∷ [])
attribute-add s n f (value.Object o) h attribute takes = absurd (false≢true (sym attribute ∙ object-reference s.metamodel (reading s).class f o takes))
attribute-add s n f v h attribute takes = one-apart (feature_change (at_end n f) h)

taken-apart : (s : Model) (n : Node) (f : FeatureNo) (i : ℕ) → IsLegal s → AreApart (changes_of_remove (reading s) (at_end n f) (if (shape s.metamodel f).is_reference then link_end_in (reading s) (at_end n f) i else []) i)
taken-apart s n f i legal =
    let e = at_end n f in
    reference-tells (λ ts. AreApart (changes_of_remove (reading s) e ts i)) (shape s.metamodel f).is_reference (link_end_in (reading s) e i)
    (λ reference. emptied-apart s legal e (link_end_in (reading s) e i) (LosesAt i) (link_end_in-here (reading s) e i) (link_end_in-different (reading s) e i) (link_end_in-stand s e i reference)) (one-apart (feature_change e (LosesAt i)))

-- if an end is unset, no far end has two notifications, and none of them is the end itself
pub unset-apart : (s : Model) (n : Node) (f : FeatureNo) (h : ChangeKind) → IsLegal s → AreApart (far_losses (reading s) (cut_link_ends (reading s) (At (at_end n f) Unset)) ++ feature_change (at_end n f) h ∷ [])
unset-apart s n f h legal =
    let e = at_end n f in
    let vs = (reading s).values e in
    reference-tells (λ ts. AreApart (far_losses (reading s) ts ++ feature_change e h ∷ [])) (shape s.metamodel f).is_reference (link_ends_backwards e vs)
    (λ reference. emptied-apart s legal e (link_ends_backwards e vs) h (backwards-here e vs)
    (subst (λ (ws : List Value). AreDifferent (reading s) (link_ends_backwards e ws)) (sym (values-linked s e reference)) (backwards-different s e (end s.links e) legal (legal.links.set.placed.distinct e)))
    (link_ends_backwards-stand s e reference))
    (one-apart (feature_change e h))

-- no end has two notifications, except a list that is unset
pub feature_changes-apart : (s : Model) (c : Change) → IsLegal s → early_refusal (reading s) c ≡ None → late_refusal (reading s) c ≡ None → takes_many (reading s) c ≡ false → AreApart (feature_changes (reading s) c)
feature_changes-apart s (Create c) legal early late few = tt
feature_changes-apart s (NewResource u) legal early late few = tt
feature_changes-apart s (At e (Set v)) legal early late few =
    let r = reading s in
    elim (is_plain_set r e v) as (λ b. is_plain_set r e v ≡ b → AreApart ((if b then [] else before_gain r e v (if b then [] else cut_by_set r e v)) ++ feature_change e (Gains v) ∷ [])) [
      | true ↦ λ _. one-apart (feature_change e (Gains v))
      | false ↦ λ h. set-apart s e.node e.feature v legal early late h
    ] refl
feature_changes-apart s (At e Unset) legal early late few =
    let single = not-not (shape s.metamodel e.feature).is_single few in
    subst (λ (b : Bool). AreApart (far_losses (reading s) (cut_link_ends (reading s) (At e Unset)) ++ (if b then feature_change e Unsets ∷ [] else all_lost e (length ((reading s).values e))))) (sym single)
    (unset-apart s e.node e.feature Unsets legal)
  where
    not-not : (b : Bool) → not b ≡ false → b ≡ true
    not-not true h = refl
    not-not false h = absurd (false≢true (sym h))
feature_changes-apart s (At e (Add v i)) legal early late few =
    let r = reading s in
    elim (is_repeat r e v) as (λ b. is_repeat r e v ≡ b → AreApart (if b then [] else before_gain r e v (if not (shape s.metamodel e.feature).is_reference || b then [] else cut_by_new r e v) ++ feature_change e (gain_at i v) ∷ [])) [
      | true ↦ λ _. tt
      | false ↦ λ new. elim (shape s.metamodel e.feature).is_reference as (λ b. (shape s.metamodel e.feature).is_reference ≡ b → AreApart (before_gain r e v (if not b || false then [] else cut_by_new r e v) ++ feature_change e (gain_at i v) ∷ [])) [
        | true ↦ λ reference. add-apart s e.node e.feature v i legal early late (λ j. not (reference j) || new j)
        | false ↦ λ attribute. attribute-add s e.node e.feature v (gain_at i v) attribute (add-taken r e.node e.feature v i late).takes
      ] refl
    ] refl
feature_changes-apart s (At e (Move to from)) legal early late few = one-apart (feature_change e (Moves to from))
feature_changes-apart s (At e (Resolve i)) legal early late few =
    resolved-as s legal e i late (λ ts xs us u. AreApart us) (λ x is alone. one-apart (feature_change e (Resolves i (value.Object x.object))))
    (λ x is g opposite j text stands.
    let d = far_end x.object g in
    let apart : d ≡ e → ⊥ = λ same. true≢false (sym (same_end-self d) ∙ ap (same_end d) same ∙ match-apart (reading s) e x.object g legal.metamodel opposite) in
    ((apart, tt), one-apart (feature_change e (Resolves i (value.Object x.object)))))
feature_changes-apart s (At e a) legal early late few =
    let r = reading s in
    elim (taken_index r e a) as (λ q. AreApart (option_map_or (changes_of_remove r e (if (shape s.metamodel e.feature).is_reference then option_map_or (link_end_in r e) q [] else [])) q [])) [
      | None ↦ tt
      | Some i ↦ taken-apart s e.node e.feature i legal
    ]
feature_changes-apart s _ legal early late few = absurd (true≢false few)

---------------------------------------------------------------- a list that is unset

take-length : (vs : List Value) (n : ℕ) → n ≤ length vs → length (take n vs) ≡ n
take-length vs zero low = refl
take-length [] (suc n) low = absurd (omega (arith, low))
take-length (v ∷ vs) (suc n) low = ap suc (take-length vs n (omega (arith, low)))

take-value : (vs : List Value) (n : ℕ) → n < length vs → value_in (take (suc n) vs) n ≡ value_in vs n
take-value [] n low = absurd (omega (arith, low))
take-value (v ∷ vs) zero low = refl
take-value (v ∷ vs) (suc n) low = take-value vs n (omega (arith, low))

take-remove : (vs : List Value) (n : ℕ) → n < length vs → remove (take (suc n) vs) n ≡ take n vs
take-remove [] n low = absurd (omega (arith, low))
take-remove (v ∷ vs) zero low = refl
take-remove (v ∷ vs) (suc n) low = ap (λ (ws : List Value). v ∷ ws) (take-remove vs n (omega (arith, low)))

-- the last value of a list is taken out
take-list_after_remove : (vs : List Value) (n : ℕ) → n < length vs → list_after_remove (take (suc n) vs) (pos n) ≡ take n vs
take-list_after_remove vs n low =
    let long = take-length vs (suc n) (omega (arith, low)) in
    let below : nat_lt n (length (take (suc n) vs)) ≡ true = rw long (grind (arith, nat_tests)) in
    rw below (take-remove vs n low)

pub not-nil : (vs : List Value) (n : ℕ) → n < length vs → not (is_nil vs) ≡ true
not-nil [] n low = absurd (omega (arith, low))
not-nil (v ∷ vs) n low = refl

-- the losses of the end itself, from the rest of its list
lost-read : (m : Metamodel) (e : Ends) (x : End) (n : ℕ) (d : Ends) → (shape m x.feature).is_single ≡ false → (d x).values ≡ take n (e x).values → n ≤ length (e x).values → change_notices m d (all_lost x n) ≡ map (read_in m e) (all_lost x n)
lost-read m e x zero d many is low = refl
lost-read m e x (suc n) d many is low =
    let a = shape m x.feature in
    let vs = (e x).values in
    let t = feature_change x (LosesAt n) in
    let next : Ends = ends_after_notice (has_flag m) d (read_in m d t) in
    let below : n < length vs = omega (arith, low) in
    let left : (next x).values ≡ take n vs =
    ap (λ (f : Ends). (f x).values) (ends_after_notices-change_notices m d (t ∷ []))
    ∙ ap (λ (b : Bool). (if b then record { values = list_after_remove (d x).values (pos n); flag = (d x).flag } else d x).values) (same_end-self x)
    ∙ ap (λ (ws : List Value). list_after_remove ws (pos n)) is ∙ take-list_after_remove vs n below in
    let old : value_in (d x).values n ≡ value_in vs n = ap (λ (ws : List Value). value_in ws n) is ∙ take-value vs n below in
    let long : n < length (take (suc n) vs) = subst (λ (k : ℕ). n < k) (sym (take-length vs (suc n) low)) (omega arith) in
    let set : is_set a (d x) ≡ is_set a (e x) =
    list-set a (d x) many (ap (λ (ws : List Value). not (is_nil ws)) is ∙ not-nil (take (suc n) vs) n long) ∙ sym (list-set a (e x) many (not-nil vs n below)) in
    let same : read_in m d t ≡ read_in m e t = λ i. record { notifier = x.node; feature = Some x.feature; kind = kind.Remove; old_value = old i; new_value = value.Null; position = pos n; was_set = set i } in
    ap (λ (y : Notice). y ∷ change_notices m next (all_lost x n)) same ∙ ap (λ (ns : List Notice). read_in m e t ∷ ns) (lost-read m e x n next many left (omega (arith, low)))
  where
    list-set : (a : Shape) (h : Held) → a.is_single ≡ false → not (is_nil h.values) ≡ true → is_set a h ≡ true
    list-set a h many set = rw many set

happened-away : (m : Metamodel) (e : Ends) (ts : List FeatureChange) (x : End) → AllByRecursion (λ (t : FeatureChange). t.at ≡ x → ⊥) ts → ends_after_changes m e ts x ≡ e x
happened-away m e [] x away = refl
happened-away m e (t ∷ ts) x away =
    happened-away m (ends_after_change m e t) ts x away.1
    ∙ with_held-other e t.at x (record { values = values_after_change (shape m t.at.feature) t.does (e t.at).values; flag = flag_after_change (shape m t.at.feature) t.does (e t.at).flag }) away.0

pub change_notices-append : (m : Metamodel) (e : Ends) (ts us : List FeatureChange) → change_notices m e (ts ++ us) ≡ change_notices m e ts ++ change_notices m (ends_after_changes m e ts) us
change_notices-append m e [] us = refl
change_notices-append m e (t ∷ ts) us =
    let n = read_in m e t in
    let next : Ends = ends_after_notice (has_flag m) e n in
    ap (λ (ns : List Notice). n ∷ ns) (change_notices-append m next ts us ∙ ap (λ (d : Ends). change_notices m next ts ++ change_notices m (ends_after_changes m d ts) us) (ends_after_notices-change_notices m e (t ∷ [])))

map-append : (f : FeatureChange → Notice) (ts us : List FeatureChange) → map f (ts ++ us) ≡ map f ts ++ map f us
map-append f [] us = refl
map-append f (t ∷ ts) us = ap (λ (ns : List Notice). f t ∷ ns) (map-append f ts us)

pub apart-front : (ts us : List FeatureChange) → AreApart (ts ++ us) → AreApart ts
apart-front [] us apart = tt
apart-front (t ∷ ts) us apart = (all_front (λ (u : FeatureChange). t.at ≡ u.at → ⊥) ts us apart.0, apart-front ts us apart.1)

push-away : (ts : List FeatureChange) (u : FeatureChange) → AreApart (ts ++ u ∷ []) → AllByRecursion (λ (t : FeatureChange). t.at ≡ u.at → ⊥) ts
push-away [] u apart = tt
push-away (t ∷ ts) u apart = (last ts apart.0, push-away ts u apart.1)
  where
    last : (xs : List FeatureChange) → AllByRecursion (λ (w : FeatureChange). t.at ≡ w.at → ⊥) (xs ++ u ∷ []) → t.at ≡ u.at → ⊥
    last [] all = all.0
    last (x ∷ xs) all = last xs all.1

unset-read : (s : Model) (n : Node) (f : FeatureNo) → IsLegal s → (shape s.metamodel f).is_single ≡ false → chain (reading s) (At (at_end n f) Unset) ≡ map (notice_at (reading s)) (feature_changes (reading s) (At (at_end n f) Unset))
unset-read s n f legal many =
    let m = s.metamodel in
    let r = reading s in
    let e = at_end n f in
    let h = held_at r in
    let far = far_losses r (cut_link_ends r (At (at_end n f) Unset)) in
    let own = all_lost e (length (r.values e)) in
    let apart = unset-apart s n f Unsets legal in
    let away = push-away far (feature_change e Unsets) apart in
    let listed : (h e).values ≡ r.values e = ap (λ (b : Bool). shown_values b (r.values e)) many in
    let is : (ends_after_changes m h far e).values ≡ take (length (r.values e)) (h e).values =
    ap (λ (k : Held). k.values) (happened-away m h far e away) ∙ listed ∙ sym (ap (take (length (r.values e))) listed ∙ take-whole (r.values e)) in
    let whole : change_notices m h (far ++ own) ≡ map (read_in m h) (far ++ own) =
    change_notices-append m h far own
    ∙ (λ i. change_notices-apart m h far (apart-front far (feature_change e Unsets ∷ []) apart) i ++ lost-read m h e (length (r.values e)) (ends_after_changes m h far) many is (within r e listed) i)
    ∙ sym (map-append (read_in m h) far own) in
    subst (λ (b : Bool). change_notices m h (far ++ (if b then feature_change e Unsets ∷ [] else own)) ≡ map (read_in m h) (far ++ (if b then feature_change e Unsets ∷ [] else own))) (sym many) whole
  where
    within : (r : Reading) (e : End) → (held_at r e).values ≡ r.values e → length (r.values e) ≤ length (held_at r e).values
    within r e is = subst (λ (vs : List Value). length (r.values e) ≤ length vs) (sym is) (omega arith)

-- a change that is no load loads nothing
pub nothing-loaded : (c : Change) → ((k : ResourceNo) (doc : Doc) → c ≡ Load k doc → ⊥) → loaded_by c ≡ None
nothing-loaded (Load k doc) none = absurd (none k doc refl)
nothing-loaded _ none = refl

-- the chain of a change that destroys and loads nothing has the notifications that are computed in the model as it is
pub chain-read : (s : Model) (c : Change) → resolves_all c ≡ false → IsLegal s → destroyed_by c ≡ None → loaded_by c ≡ None → early_refusal (reading s) c ≡ None → late_refusal (reading s) c ≡ None → chain (reading s) c ≡ map (notice_at (reading s)) (feature_changes (reading s) c)
chain-read s c one legal none unloaded early late =
    elim (takes_many (reading s) c) as (λ b. takes_many (reading s) c ≡ b → chain (reading s) c ≡ map (notice_at (reading s)) (feature_changes (reading s) c)) [
      | true ↦ λ many. by c one none unloaded many
      | false ↦ λ few. change_notices-apart s.metamodel (held_at (reading s)) (feature_changes (reading s) c) (feature_changes-apart s c legal early late few)
    ] refl
  where
    few : (x : Option ObjectNo) (all : Bool) (y : Option Doc) → x ≡ None → all ≡ false → y ≡ None → (is_some x || all || is_some y) ≡ true → ⊥
    few x all y none one unloaded many = false≢true (sym (λ i. is_some (none i) || one i || is_some (unloaded i)) ∙ many)

    by : (c : Change) → resolves_all c ≡ false → destroyed_by c ≡ None → loaded_by c ≡ None → takes_many (reading s) c ≡ true → chain (reading s) c ≡ map (notice_at (reading s)) (feature_changes (reading s) c)
    by (At e Unset) one none unloaded many = unset-read s e.node e.feature legal (not-true (shape s.metamodel e.feature).is_single many)
    by d one none unloaded many = absurd (few (destroyed_by d) (resolves_all d) (loaded_by d) none one unloaded many)

---------------------------------------------------------------- feature changes that are made

-- the notifications that are made are the chain
pub made-chain : (s : Model) (c : Change) (cut : List LinkEnd) → resolves_all c ≡ false → IsLegal s → destroyed_by c ≡ None → loaded_by c ≡ None → early_refusal (reading s) c ≡ None → late_refusal (reading s) c ≡ None → cut ≡ cut_link_ends (reading s) c
    → map (notice_at (reading s)) (feature_changes_with (reading s) c cut) ≡ chain (reading s) c
made-chain s c cut one legal none unloaded early late is_cut =
    ap (λ (ts : List LinkEnd). map (notice_at (reading s)) (feature_changes_with (reading s) c ts)) is_cut ∙ sym (chain-read s c one legal none unloaded early late)
