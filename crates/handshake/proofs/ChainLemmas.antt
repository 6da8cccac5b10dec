-- The chain of a change that doesn't resolve all proxies, replayed at each end, gives the values of the end after the change.
use Rattle.std.proofs.Common.{◌≡◌, ℕ, zero, suc, ◌≤◌, nat_le, nat_lt, pos, insert, remove, length, slice_get, slice_index_or, option_map, option_to_list, arith, Bool, true, false, ◌||◌, not, List, [], ◌∷◌, ◌++◌, map, Option, Some, None, if◌then◌else◌, refl, sym, ap, ◌∙◌, subst}
use Rattle.std.specs.Prelude.{slice_set}
use Rattle.std.specs.List.{AllByRecursion, list_any}
use Rattle.std.specs.Option.{option_map_or}
use Rattle.std.proofs.lemmas.Bool.{false≢true, or_left, or_right, true≢false, ltb-true}
use Rattle.std.proofs.lemmas.Bool.Decides.{nat_tests}
use Rattle.std.proofs.lemmas.Option.{none-some, same_Some, slice_get_within, slice_get-get_or}
use Rattle.mm_types.proofs.SameLemmas.{same_end-self}
use Rattle.mm_types.specs.Ends.{Ends, Held, first_in}
use Rattle.mm_types.specs.Lookups as lookups
use Rattle.mm_types.specs.Resolved.{Metamodel}
use Rattle.mm_types.specs.Shapes.{Shape, contents_shape, shape, shape_of}
use Rattle.mm_types.specs.declared.end.End.{End}
use Rattle.mm_types.specs.declared.feature.Feature.{Feature}
use Rattle.mm_types.specs.declared.feature.Kind.{Kind}
use Rattle.mm_types.specs.declared.feature.Kind.TheVariants.{Attribute, Reference}
use Rattle.mm_types.specs.declared.numbers.ClassNo.{ClassNo}
use Rattle.mm_types.specs.declared.numbers.FeatureNo.{FeatureNo}
use Rattle.mm_types.specs.declared.numbers.Node.{Node}
use Rattle.mm_types.specs.declared.numbers.Node.TheVariants as node
use Rattle.mm_types.specs.declared.numbers.ObjectNo.{ObjectNo}
use Rattle.mm_types.specs.declared.value.Value.{Value}
use Rattle.mm_types.specs.declared.value.Value.TheVariants as value
use Rattle.mm_values.specs.Values.{ValuesState, values_after_edits}
use Rattle.mm_values.specs.declared.value_edit.ValueEdit.{ValueEdit}
use Rattle.mm_values.specs.declared.value_edit.ValueEdit.TheVariants.{InsertValue, MoveValue}
use Rattle.links.proofs.CutLemmas.{end-shift_near, end-shift_other}
use Rattle.links.proofs.CutNamedLemmas.{end-without_all}
use Rattle.links.proofs.FilterLemmas.{remove-filter}
use Rattle.links.specs.Laws.{is_named, without_all}
use Rattle.links.specs.Links.{Links, end, put, shift, far_end}
use Rattle.models.proofs.PlaceLemmas.{first-below}
use Rattle.models.specs.Legal.{IsLegal, kinds_of}
use Rattle.models.specs.Model.{Model, kept_flag, reading}
use Rattle.models.specs.Reading.{Reading, at_end, first_at, has_feature, held_at, is_repeat, object_of, position_for}
use Rattle.notice_chain.specs.Replay as replay
use Rattle.notice_chain.specs.Replay.{list_after_position_move, list_after_resolve as list-resolved}
use Rattle.containment.proofs.PartLemmas.{kinds-are, object-reference}
use Rattle.handshake.specs.Displaced.{cut_by_new, cut_by_set, has_already, is_plain_add, is_plain_set, same_link, link_end_in, link_ends_at, link_ends_backwards, displaced_link_ends, cut_link_ends}
use Rattle.removal.specs.TreeLinkEnds.{link_end}
use Rattle.handshake.specs.Effects.{add_value, model_after, of_object, put_values, take_value, value_edits, with_value, without_link_ends, put_by}
use Rattle.handshake.specs.Laws.{AreDifferent, ChainReplays, comes_with, goes_with}
use Rattle.handshake.specs.Changes.{HasReadDocument}
use Rattle.handshake.specs.Refusals.{early_refusal, late_refusal}
use Rattle.handshake.specs.FeatureChange.{feature_change}
use Rattle.handshake.specs.FeatureChanges.{all_lost, before_gain, far_losses, gain_at, resolves_all, changes_of_remove, feature_changes}
use Rattle.handshake.specs.declared.change.Change.{Change}
use Rattle.handshake.specs.declared.change.Change.TheVariants.{At, Create, Delete, NewResource, Load}
use Rattle.handshake.specs.declared.act.Act.TheVariants.{Set, Unset, Add, Remove, RemoveValue, Move, Resolve}
use Rattle.handshake.specs.declared.change_kind.ChangeKind.{ChangeKind}
use Rattle.handshake.specs.declared.change_kind.ChangeKind.TheVariants.{Gains, LosesAt, Moves, Resolves, Unsets}
use Rattle.handshake.specs.declared.change_kind.FeatureChange.{FeatureChange}
use Rattle.removal.specs.declared.link_end.LinkEnd.{LinkEnd}
use Rattle.handshake.proofs.ApartLemmas.{backwards-here, link_end_in-here, link_ends_at-here}
use Rattle.handshake.proofs.AttributeLemmas.{Replays, create-replays}
use Rattle.handshake.proofs.CutEndLemmas.{held-none, held-one, reference-flag, reference-plain, same-held}
use Rattle.handshake.proofs.CutHeldLemmas.{all-left, held_in, near-gives}
use Rattle.mm_types.specs.Same.{same_end, node_value}
use Rattle.mm_types.specs.Lists.{put_back, values_after_move}
use Rattle.handshake.proofs.CutLinkEndLemmas.{HasLinkEnd, any_push, backwards-different, filter_none, is_named-same_link, plain-not, same_link-self, link_end_in-different, link_end_in-stand, link_ends_at-different, link_ends_at-stand, link_ends_backwards-stand, values-linked, without_link_ends-names_of}
use Rattle.removal.specs.Laws.{names_of}
use Rattle.removal.proofs.ListLemmas.{all-at, any-left}
use Rattle.handshake.proofs.DestroyLemmas.{changes_of_delete-replays}
use Rattle.handshake.proofs.HappenedLemmas.{at-own, done, ends_after_changes-at, happened_at, done-here, done-other, done_at}
use Rattle.handshake.proofs.KnownLemmas.{IsResolvable, add-named, add-taken, delete-named, move-named, move-placed, remove-named, remove-placed, resource-keeps-none, set-named, set-taken, take-named, unset-there, far-reference}
use Rattle.handshake.proofs.LoadChainLemmas.{load-replays}
use Rattle.handshake.proofs.LinkLemmas.{IsNewLink, near-empty, without_displaced}
use Rattle.handshake.proofs.ListReplayLemmas.{all_lost-own, list-added, list-moved, list-taken, list-unset, lost-done, one-done, own-one, single-set, single-unset}
use Rattle.handshake.proofs.LossLemmas.{gained, gained-single, lost}
use Rattle.handshake.proofs.PlanLemmas.{add-new, add-site, set-new}
use Rattle.handshake.proofs.RelinkLemmas.{add-replays, at-each, cut-replays, kept-replays, list-held, set-replays}
use Rattle.handshake.proofs.ReplayLemmas.{ends_after_notices-change_notices}
use Rattle.handshake.proofs.ResolveLemmas.{alone-there, end-alone, end-joint, far-now, far-there, joint, near-apart, now, placed, set-there, swapped, swapped-here, there}
use Rattle.handshake.proofs.ResolvedLemmas.{resolved-as}
use Rattle.proxies.proofs.TargetLemmas.{match-apart}
use Rattle.proxies.specs.declared.resolved_proxy.ResolvedProxy.{ResolvedProxy}

---------------------------------------------------------------- ends that are emptied

-- an end whose links are all named is empty after they are cut
all-named : (s : Model) (e : End) (ts : List LinkEnd) → IsLegal s → ((k : ℕ) (w : Value) → slice_get (end s.links e) k ≡ Some w → list_any (same_link (reading s) (link_end e w)) ts ≡ true) → end (without_all s.links (names_of ts)) e ≡ []
all-named s e ts legal each =
    let m = kinds_of s.metamodel in
    end-without_all m (kinds-are s.metamodel legal.metamodel) s.links (names_of ts) legal.links.set legal.links.kinds e
    ∙ filter_none (is_named m (names_of ts) e) (end s.links e) (all-at _ (end s.links e) (λ k w at. is_named-same_link (reading s) ts (link_end e w) ∙ each k w at))

backwards-named : (r : Reading) (e : End) (vs : List Value) (k : ℕ) (w : Value) → slice_get vs k ≡ Some w → list_any (same_link r (link_end e w)) (link_ends_backwards e vs) ≡ true
backwards-named r e [] k w at = absurd (none-some w at)
backwards-named r e (v ∷ vs) zero w at =
    any_push (same_link r (link_end e w)) (link_ends_backwards e vs) (link_end e v) (subst (λ (x : Value). same_link r (link_end e x) (link_end e v) ≡ true) (same_Some v w at) (same_link-self r (link_end e v)))
backwards-named r e (v ∷ vs) (suc k) w at = any-left (same_link r (link_end e w)) (link_ends_backwards e vs) (link_end e v ∷ []) (backwards-named r e vs k w at)

map-named : (r : Reading) (e : End) (vs : List Value) (k : ℕ) (w : Value) → slice_get vs k ≡ Some w → list_any (same_link r (link_end e w)) (map (link_end e) vs) ≡ true
map-named r e [] k w at = absurd (none-some w at)
map-named r e (v ∷ vs) zero w at = or_left (same_link r (link_end e w) (link_end e v)) _ (subst (λ (x : Value). same_link r (link_end e x) (link_end e v) ≡ true) (same_Some v w at) (same_link-self r (link_end e v)))
map-named r e (v ∷ vs) (suc k) w at = or_right (same_link r (link_end e w) (link_end e v)) _ (map-named r e vs k w at)

---------------------------------------------------------------- references

null-value : (m : Metamodel) (class : ObjectNo → Option ClassNo) (single : Bool) (target : ClassNo) (v : Value) → lookups.is_reference_value m class single target v ≡ true → object_of v ≡ None → v ≡ value.Null
null-value m class single target value.Null h none = refl
null-value m class single target (value.Object o) h none = absurd (none-some o (sym none))
null-value m class single target _ h none = absurd (false≢true h)

object-value : (class : ObjectNo → Option ClassNo) (v : Value) → lookups.is_live_object class v ≡ true → object_of v ≡ None → v ≡ value.Null
object-value class (value.Object o) h none = absurd (none-some o (sym none))
object-value class _ h none = absurd (false≢true h)

null-of_kind : (m : Metamodel) (class : ObjectNo → Option ClassNo) (f : FeatureNo) (x : Feature) (k : Kind) (v : Value) → (shape_of m f x k).is_reference ≡ true
    → lookups.is_of_kind m class (lookups.is_single x) k v ≡ true → object_of v ≡ None → v ≡ value.Null
null-of_kind m class f x (Attribute t unique unsettable default) v reference h none = absurd (false≢true reference)
null-of_kind m class f x (Reference target containment opposite) v reference h none = null-value m class (lookups.is_single x) target v h none

-- besides objects a reference takes only null
null-taken : (m : Metamodel) (class : ObjectNo → Option ClassNo) (f : FeatureNo) (v : Value) → (shape m f).is_reference ≡ true → lookups.takes m class f v ≡ true → object_of v ≡ None → v ≡ value.Null
null-taken m class f v reference h none = by (lookups.feature m f) reference h
  where
    by : (x : Option Feature) → (option_map_or (λ g. shape_of m f g g.kind) x (contents_shape m)).is_reference ≡ true
        → option_map_or (λ g. lookups.is_of_kind m class (lookups.is_single g) g.kind v) x (lookups.is_live_object class v) ≡ true → v ≡ value.Null
    by None reference h = object-value class v h none
    by (Some x) reference h = null-of_kind m class f x x.kind v reference h none

-- the model with other links
abbrev relinked : Model → Links → Model
relinked s t = record s { links = t }

relinked-by : (s : Model) (ts : List FeatureChange) (t u : Links) → t ≡ u → Replays s ts (relinked s t) → Replays s ts (relinked s u)
relinked-by s ts t u same = subst (λ (x : Links). Replays s ts (relinked s x)) same

module _ (s : Model) (legal : IsLegal s) (e : End) (reference : (shape s.metamodel e.feature).is_reference ≡ true) where
  abbrev r : Reading
  r = reading s

  abbrev a : Shape
  a = shape s.metamodel e.feature

  -- the losses of the far ends of cut links, and then of the end itself
  cut-tells : (ts : List LinkEnd) → AllByRecursion (λ (t : LinkEnd). t.end ≡ e) ts → AreDifferent r ts → AllByRecursion (HasLinkEnd s.links) ts → (own : List FeatureChange) → AllByRecursion (λ (t : FeatureChange). t.at ≡ e) own
      → happened_at s.metamodel own e (held_at r e) ≡ held_in s (without_all s.links (names_of ts)) e → Replays s (far_losses r ts ++ own) (relinked s (without_link_ends s.links ts))
  cut-tells ts here different stand own own_here makes =
      relinked-by s (far_losses r ts ++ own) (without_all s.links (names_of ts)) (without_link_ends s.links ts) (sym (without_link_ends-names_of s.links ts)) (cut-replays s legal e ts here different stand own own_here makes)

  -- a single end is emptied
  null-replays : a.is_single ≡ true → (x : ChangeKind) → ((k : Held) → done a x k ≡ lost a) → Replays s (far_losses r (link_ends_at r e) ++ feature_change e x ∷ []) (relinked s (without_link_ends s.links (link_ends_at r e)))
  null-replays single x does =
      let ts = link_ends_at r e in
      let none : end (without_all s.links (names_of ts)) e ≡ [] = all-named s e ts legal (λ k w at. map-named r e (r.values e) k w (subst (λ (vs : List Value). slice_get vs k ≡ Some w) (sym (values-linked s e reference)) at)) in
      cut-tells ts (link_ends_at-here r e) (link_ends_at-different s e legal reference single) (link_ends_at-stand s e reference) (feature_change e x ∷ []) (own-one e x)
      (one-done s.metamodel e x (held_at r e) ∙ does (held_at r e) ∙ held-none s (without_all s.links (names_of ts)) e legal reference single none)

  all-gone : end (without_all s.links (names_of (link_ends_backwards e (r.values e)))) e ≡ []
  all-gone = all-named s e (link_ends_backwards e (r.values e)) legal (λ k w at. backwards-named r e (r.values e) k w (subst (λ (vs : List Value). slice_get vs k ≡ Some w) (sym (values-linked s e reference)) at))

  backwards-apart : AreDifferent r (link_ends_backwards e (r.values e))
  backwards-apart = subst (λ (vs : List Value). AreDifferent r (link_ends_backwards e vs)) (sym (values-linked s e reference)) (backwards-different s e (end s.links e) legal (legal.links.set.placed.distinct e))

  -- a single end is unset
  single-unset_link : a.is_single ≡ true → Replays s (far_losses r (link_ends_backwards e (r.values e)) ++ feature_change e Unsets ∷ []) (relinked s (without_link_ends s.links (link_ends_backwards e (r.values e))))
  single-unset_link single =
      let ts = link_ends_backwards e (r.values e) in
      let plain = reference-plain s.metamodel e.feature reference in
      let lost-so : (k : Held) → done a Unsets k ≡ lost a = λ k i. record { values = plain.1 i ∷ []; flag = sym plain.0 i } in
      cut-tells ts (backwards-here e (r.values e)) backwards-apart (link_ends_backwards-stand s e reference) (feature_change e Unsets ∷ []) (own-one e Unsets)
      (one-done s.metamodel e Unsets (held_at r e) ∙ lost-so (held_at r e) ∙ held-none s (without_all s.links (names_of ts)) e legal reference single all-gone)

  -- a list that is unset loses each value
  many-unset_link : a.is_single ≡ false → Replays s (far_losses r (link_ends_backwards e (r.values e)) ++ all_lost e (length (r.values e))) (relinked s (without_link_ends s.links (link_ends_backwards e (r.values e))))
  many-unset_link many =
      let ts = link_ends_backwards e (r.values e) in
      let n = length (r.values e) in
      let b = kept_flag s.values e.node e.feature in
      cut-tells ts (backwards-here e (r.values e)) backwards-apart (link_ends_backwards-stand s e reference) (all_lost e n) (all_lost-own e n)
      (ap (happened_at s.metamodel (all_lost e n) e) (list-held s s.links e reference many)
      ∙ lost-done s.metamodel e n (end s.links e) b many (sym (ap (λ (vs : List Value). length vs) (values-linked s e reference)))
      ∙ sym (list-held s (without_all s.links (names_of ts)) e reference many ∙ ap (λ (vs : List Value). record { values = vs; flag = b }) all-gone))

  -- one value is taken out of a list
  take-link : (i : ℕ) → a.is_single ≡ false → nat_lt i (length (r.values e)) ≡ true → Replays s (changes_of_remove r e (link_end_in r e i) i) (relinked s (without_link_ends s.links (link_end_in r e i)))
  take-link i many low =
      let vs = end s.links e in
      let b = kept_flag s.values e.node e.feature in
      let below_links = subst (λ (ws : List Value). nat_lt i (length ws) ≡ true) (values-linked s e reference) low in
      let v = slice_index_or vs i value.Null in
      let at = slice_get-get_or vs i value.Null (ltb-true i (length vs) below_links) in
      let one : link_end_in r e i ≡ link_end e v ∷ [] = ap (λ (ws : List Value). option_to_list (option_map (link_end e) (slice_get ws i))) (values-linked s e reference) ∙ ap (λ (q : Option Value). option_to_list (option_map (link_end e) q)) at in
      let cut : end (without_all s.links (names_of (link_end_in r e i))) e ≡ remove vs i =
      ap (λ (ts : List LinkEnd). end (without_all s.links (names_of ts)) e) one ∙ near-gives s legal s.links e v (all-left s legal) (i, at) ∙ sym (remove-filter vs i v (legal.links.set.placed.distinct e) at) in
      cut-tells (link_end_in r e i) (link_end_in-here r e i) (link_end_in-different r e i) (link_end_in-stand s e i reference) (feature_change e (LosesAt i) ∷ []) (own-one e (LosesAt i))
      (one-done s.metamodel e (LosesAt i) (held_at r e)
      ∙ ap (done a (LosesAt i)) (list-held s s.links e reference many)
      ∙ ap (λ (x : Bool). record { values = if x then remove vs i else vs; flag = b }) below_links
      ∙ sym (list-held s (without_all s.links (names_of (link_end_in r e i))) e reference many ∙ ap (λ (ws : List Value). record { values = ws; flag = b }) cut))

  -- one value is moved in a list
  move-link : (to from : ℕ) → a.is_single ≡ false → nat_lt to (length (r.values e)) ≡ true → nat_lt from (length (r.values e)) ≡ true → Replays s (feature_change e (Moves to from) ∷ []) (relinked s (shift s.links e to from))
  move-link to from many low_to low_from d =
      let vs = end s.links e in
      let b = kept_flag s.values e.node e.feature in
      let linked = values-linked s e reference in
      let to_links = subst (λ (ws : List Value). nat_lt to (length ws) ≡ true) linked low_to in
      let from_links = subst (λ (ws : List Value). nat_lt from (length ws) ≡ true) linked low_from in
      let placed = legal.links.set.placed in
      at-each (λ y. happened_at s.metamodel (feature_change e (Moves to from) ∷ []) y (held_at r y) ≡ held_in s (shift s.links e to from) y) e d
      (one-done s.metamodel e (Moves to from) (held_at r e)
      ∙ ap (done a (Moves to from)) (list-held s s.links e reference many)
      ∙ ap (λ (ws : List Value). record { values = ws; flag = b }) (moved-linked vs to from to_links from_links)
      ∙ sym (list-held s (shift s.links e to from) e reference many ∙ ap (λ (ws : List Value). record { values = ws; flag = b }) (end-shift_near s.links placed e to from (ltb-true from _ from_links) (ltb-true to _ to_links))))
      (λ other.
      at-own s.metamodel e d (feature_change e (Moves to from) ∷ []) (held_at r d) (own-one e (Moves to from)) other
      ∙ same-held s s.links (shift s.links e to from) d (sym (end-shift_other s.links placed e to from (ltb-true from _ from_links) (ltb-true to _ to_links) d (λ same. true≢false (sym (same_end-self e) ∙ ap (same_end e) same ∙ other)))))
    where
      moved-linked : (vs : List Value) (to from : ℕ) → nat_lt to (length vs) ≡ true → nat_lt from (length vs) ≡ true → list_after_position_move vs (pos from) (pos to) ≡ values_after_move vs to from
      moved-linked vs to from low_to low_from =
          ap (λ (b : Bool). if b then (if nat_lt to (length vs) then replay.list_after_index_move vs to from else vs) else vs) low_from
          ∙ ap (λ (b : Bool). if b then replay.list_after_index_move vs to from else vs) low_to
          ∙ elim (slice_get vs from) as (λ q. option_map_or (λ x. insert (remove vs from) to x) q vs ≡ put_back q vs to from) [ None ↦ refl | Some v ↦ refl ]

---------------------------------------------------------------- a proxy that is resolved

-- a value replaces a proxy at an end
module _ (s : Model) (legal : IsLegal s) (e : End) (reference : (shape s.metamodel e.feature).is_reference ≡ true) (i : ℕ) (t : List ℕ) (v : Value) (there : slice_get (end s.links e) i ≡ Some (value.Proxy t)) (u : Links)
    (swapped : end u e ≡ insert (remove (end s.links e) i) i v) where
  abbrev proxied : List Value
  proxied = end s.links e

  resolve-single : (shape s.metamodel e.feature).is_single ≡ true → done (shape s.metamodel e.feature) (Resolves i v) (held_at (reading s) e) ≡ held_in s u e
  resolve-single single =
      let a = shape s.metamodel e.feature in
      let plain = (reference-plain s.metamodel e.feature reference).0 in
      let off = reference-flag s e.node e.feature legal reference in
      let only = swapped ∙ alone-there proxied i (value.Proxy t) v ((all-left s legal).one e single) there in
      let so : done a (Resolves i v) (held_at (reading s) e) ≡ gained a v = λ j. record { values = if single j then v ∷ [] else list-resolved (held_at (reading s) e).values (pos i) v; flag = (off ∙ sym plain) j } in
      so ∙ held-one s u e legal reference single v only

  resolve-many : (shape s.metamodel e.feature).is_single ≡ false → done (shape s.metamodel e.feature) (Resolves i v) (held_at (reading s) e) ≡ held_in s u e
  resolve-many many =
      let a = shape s.metamodel e.feature in
      let b = kept_flag s.values e.node e.feature in
      let below = slice_get_within proxied i (value.Proxy t) there in
      let low : nat_lt i (length proxied) ≡ true = grind (arith, nat_tests) in
      ap (done a (Resolves i v)) (list-held s s.links e reference many)
      ∙ (λ j. record { values = if many j then v ∷ [] else (if low j then slice_set proxied i v else proxied); flag = b })
      ∙ ap (λ (ws : List Value). record { values = ws; flag = b }) (set-there proxied i (value.Proxy t) v there ∙ sym swapped)
      ∙ sym (list-held s u e reference many)

  resolve-done : done (shape s.metamodel e.feature) (Resolves i v) (held_at (reading s) e) ≡ held_in s u e
  resolve-done = elim (shape s.metamodel e.feature).is_single as (λ b. (shape s.metamodel e.feature).is_single ≡ b → done (shape s.metamodel e.feature) (Resolves i v) (held_at (reading s) e) ≡ held_in s u e) [ true ↦ resolve-single | false ↦ resolve-many ] refl

-- the case of a reference without an opposite
alone-replays : (s : Model) (legal : IsLegal s) (e : End) (i : ℕ) (x : ResolvedProxy) (is : IsResolvable (reading s) e i x) (alone : (shape s.metamodel e.feature).opposite ≡ None)
    → Replays s (feature_change e (Resolves i (value.Object x.object)) ∷ []) (relinked s (placed s legal e i x is []))
alone-replays s legal e i x is alone d =
    let v = value.Object x.object in
    let u = placed s legal e i x is [] in
    let ends = end-alone s legal e i x is alone in
    at-each (λ y. happened_at s.metamodel (feature_change e (Resolves i v) ∷ []) y (held_at (reading s) y) ≡ held_in s u y) e d
    (one-done s.metamodel e (Resolves i v) (held_at (reading s) e)
    ∙ resolve-done s legal e is.reference i is.found.text v (there s legal e i x is) u (ends e ∙ swapped-here e (now s legal e i x is) (end s.links)))
    (λ other.
    at-own s.metamodel e d (feature_change e (Resolves i v) ∷ []) (held_at (reading s) d) (own-one e (Resolves i v)) other
    ∙ same-held s s.links u d (sym (ends d ∙ ap (λ (b : Bool). if b then now s legal e i x is else end s.links d) other)))

-- the case of a proxy at both ends
joint-replays : (s : Model) (legal : IsLegal s) (e : End) (i : ℕ) (x : ResolvedProxy) (is : IsResolvable (reading s) e i x) (g : FeatureNo) (opposite : (shape s.metamodel e.feature).opposite ≡ Some g) (j : ℕ) (text : List ℕ)
    (stands : slice_get ((reading s).values (far_end x.object g)) j ≡ Some (value.Proxy text))
    → Replays s (feature_change (far_end x.object g) (Resolves j (node_value e.node)) ∷ feature_change e (Resolves i (value.Object x.object)) ∷ []) (relinked s (joint s legal e i x is g opposite j text stands))
joint-replays s legal e i x is g opposite j text stands d =
    let m = s.metamodel in
    let r = reading s in
    let v = value.Object x.object in
    let y = far_end x.object g in
    let w = node_value e.node in
    let u = joint s legal e i x is g opposite j text stands in
    let ends = end-joint s legal e i x is g opposite j text stands in
    let mine = now s legal e i x is in
    let theirs = far-now s legal e i x is g opposite j text stands in
    let away = match-apart r e x.object g legal.metamodel opposite in
    let back = near-apart s legal e i x is g opposite j text stands in
    let near = feature_change e (Resolves i v) ∷ [] in
    at-each (λ z. happened_at m (feature_change y (Resolves j w) ∷ near) z (held_at r z) ≡ held_in s u z) e d
    (ap (happened_at m near e) (done-other m e (feature_change y (Resolves j w)) (held_at r e) away) ∙ one-done m e (Resolves i v) (held_at r e)
    ∙ resolve-done s legal e is.reference i is.found.text v (there s legal e i x is) u (ends e ∙ swapped-here e mine (swapped y theirs (end s.links))))
    (λ other.
    at-own m e d near (done_at m d (feature_change y (Resolves j w)) (held_at r d)) (own-one e (Resolves i v)) other
    ∙ at-each (λ z. same_end e z ≡ false → done_at m z (feature_change y (Resolves j w)) (held_at r z) ≡ held_in s u z) y d
    (λ _.
    done-here m y (feature_change y (Resolves j w)) (held_at r y) (same_end-self y)
    ∙ resolve-done s legal y (far-reference m legal.metamodel e.feature g opposite) j text w (far-there s legal e i x is g opposite j text stands) u
    (ends y ∙ ap (λ (b : Bool). if b then mine else swapped y theirs (end s.links) y) back ∙ swapped-here y theirs (end s.links)))
    (λ third apart.
    done-other m d (feature_change y (Resolves j w)) (held_at r d) third
    ∙ same-held s s.links u d (sym (ends d ∙ ap (λ (b : Bool). if b then mine else swapped y theirs (end s.links) d) apart ∙ ap (λ (b : Bool). if b then theirs else end s.links d) third)))
    other)

pub resolve-changes : (s : Model) (legal : IsLegal s) (e : End) (i : ℕ) → late_refusal (reading s) (At e (Resolve i)) ≡ None → Replays s (feature_changes (reading s) (At e (Resolve i))) (model_after s (At e (Resolve i)))
resolve-changes s legal e i late =
    relinked-by s (feature_changes (reading s) (At e (Resolve i))) _ _ (ap (λ (t : Links). put_by t (reading s) (At e (Resolve i))) (sym (without_link_ends-names_of s.links (cut_link_ends (reading s) (At e (Resolve i))))))
    (resolved-as s legal e i late (λ ts xs us u. Replays s us (relinked s u)) (λ x is alone. alone-replays s legal e i x is alone)
    (λ x is g opposite j text stands. joint-replays s legal e i x is g opposite j text stands))

---------------------------------------------------------------- changes of a reference, and of an attribute

right-of : (a b : Bool) → a ≡ true → (not a || b) ≡ true → b ≡ true
right-of a b is h = subst (λ (x : Bool). (not x || b) ≡ true) is h

-- a node that has an attribute is an object
by-object : (s : Model) (f : FeatureNo) (P : Node → Type 0) → (shape s.metamodel f).is_reference ≡ false → ((o : ObjectNo) → has_feature (reading s) (node.Object o) f ≡ true → P (node.Object o)) → (n : Node) → has_feature (reading s) n f ≡ true → P n
by-object s f P attribute each (node.Object o) has = each o has
by-object s f P attribute each (node.Resource k) has = absurd (resource-keeps-none (reading s) k f has attribute)

---------------------------------------------------------------- each change

-- a set that cuts no link: of an attribute, or to the present value
plain-set : (s : Model) (n : Node) (f : FeatureNo) (v : Value) → IsLegal s → has_feature (reading s) n f ≡ true → (shape s.metamodel f).is_single ≡ true → is_plain_set (reading s) (at_end n f) v ≡ true
    → Replays s (feature_change (at_end n f) (Gains v) ∷ []) (record s { values = values_after_edits s.values (value_edits (reading s) (At (at_end n f) (Set v))) })
plain-set s n f v legal has single plain =
    let e = at_end n f in
    let a = shape s.metamodel f in
    elim a.is_reference as (λ b. a.is_reference ≡ b → Replays s (feature_change e (Gains v) ∷ []) (record s { values = values_after_edits s.values (if b then [] else put_values e (v ∷ []) a.is_unsettable) })) [
      | true ↦ λ reference. kept-replays s e legal reference single v (right-of a.is_reference (has_already (reading s) e v) reference plain)
      | false ↦ λ attribute. by-object s f (λ n. Replays s (feature_change (at_end n f) (Gains v) ∷ []) (record s { values = values_after_edits s.values (put_values (at_end n f) (v ∷ []) a.is_unsettable) })) attribute (λ o has. single-set s legal o f has attribute v single) n has
    ] refl

-- a single end is empty when its new link is put
new-put_set : (s : Model) (legal : IsLegal s) (e : End) (o : ObjectNo) (new : IsNewLink s e o) → (shape s.metamodel e.feature).is_single ≡ true
    → put (without_displaced s e o) e 0 o (shape s.metamodel e.feature).opposite (shape s.metamodel e.feature).containing ≡ with_value (without_link_ends s.links (displaced_link_ends (reading s) e o)) (reading s) e None (value.Object o)
new-put_set s legal e o new single =
    let t = without_displaced s e o in
    let a = shape s.metamodel e.feature in
    ap (λ (vs : List Value). put t e (length vs) o a.opposite a.containing) (sym (near-empty s legal e o new single))
    ∙ ap (λ (t : Links). with_value t (reading s) e None (value.Object o)) (sym (without_link_ends-names_of s.links (displaced_link_ends (reading s) e o)))

-- a set that may cut links
new-set : (s : Model) (n : Node) (f : FeatureNo) (v : Value) → IsLegal s → early_refusal (reading s) (At (at_end n f) (Set v)) ≡ None → late_refusal (reading s) (At (at_end n f) (Set v)) ≡ None → is_plain_set (reading s) (at_end n f) v ≡ false
    → (let e = at_end n f in Replays s (before_gain (reading s) e v (cut_by_set (reading s) e v) ++ feature_change e (Gains v) ∷ []) (relinked s (with_value (without_link_ends s.links (cut_by_set (reading s) e v)) (reading s) e None v)))
new-set s n f (value.Object o) legal early late h =
    let e = at_end n f in
    let r = reading s in
    let a = shape s.metamodel f in
    let new = set-new s n f o legal early late h in
    let single = (set-named r n f (value.Object o) early).single in
    relinked-by s (before_gain r e (value.Object o) (displaced_link_ends r e o) ++ feature_change e (Gains (value.Object o)) ∷ []) (put (without_displaced s e o) e 0 o a.opposite a.containing)
    (with_value (without_link_ends s.links (displaced_link_ends r e o)) r e None (value.Object o)) (new-put_set s legal e o new single) (set-replays s legal e o new single)
new-set s n f v legal early late h =
    let e = at_end n f in
    let a = shape s.metamodel f in
    let reference = (plain-not a.is_reference (has_already (reading s) e v) h).0 in
    let single = (set-named (reading s) n f v early).single in
    let is = null-taken s.metamodel (reading s).class f v reference (set-taken (reading s) n f v late).takes refl in
    null-replays s legal e reference single (Gains v) (λ k. ap (λ (w : Value). done a (Gains w) k) is ∙ gained-single a value.Null k single)

-- a change of a reference puts no value
no-values : (s : Model) (f : FeatureNo) (es : List ValueEdit) → (shape s.metamodel f).is_reference ≡ true → s.values ≡ values_after_edits s.values (if (shape s.metamodel f).is_reference then [] else es)
no-values s f es reference = ap (λ b. values_after_edits s.values (if b then [] else es)) (sym reference)

set-changes : (s : Model) (n : Node) (f : FeatureNo) (v : Value) → IsLegal s → early_refusal (reading s) (At (at_end n f) (Set v)) ≡ None → late_refusal (reading s) (At (at_end n f) (Set v)) ≡ None → Replays s (feature_changes (reading s) (At (at_end n f) (Set v))) (model_after s (At (at_end n f) (Set v)))
set-changes s n f v legal early late =
    let r = reading s in
    let e = at_end n f in
    let vs = values_after_edits s.values (value_edits r (At (at_end n f) (Set v))) in
    let cut : Bool → List LinkEnd = λ b. if b then [] else cut_by_set r e v in
    elim (is_plain_set r e v) as (λ b. is_plain_set r e v ≡ b → Replays s ((if b then [] else before_gain r e v (cut b)) ++ feature_change e (Gains v) ∷ [])
    (record s { values = vs; links = if b then without_link_ends s.links (cut b) else with_value (without_link_ends s.links (cut b)) r e None v })) [
      | true ↦ λ plain. plain-set s n f v legal (set-named r n f v early).there (set-named r n f v early).single plain
      | false ↦ λ new.
          let reference = (plain-not (shape s.metamodel f).is_reference (has_already r e v) new).0 in
          let t = with_value (without_link_ends s.links (cut_by_set r e v)) r e None v in
          subst (λ (x : ValuesState). Replays s (before_gain r e v (cut_by_set r e v) ++ feature_change e (Gains v) ∷ []) (record s { values = x; links = t })) (no-values s f (put_values e (v ∷ []) (shape s.metamodel f).is_unsettable) reference)
          (new-set s n f v legal early late new)
    ] refl

unset-changes : (s : Model) (n : Node) (f : FeatureNo) → IsLegal s → has_feature (reading s) n f ≡ true → Replays s (feature_changes (reading s) (At (at_end n f) Unset)) (model_after s (At (at_end n f) Unset))
unset-changes s n f legal has =
    let r = reading s in
    let e = at_end n f in
    let a = shape s.metamodel f in
    let cut : Bool → List LinkEnd = λ b. if b then link_ends_backwards e (r.values e) else [] in
    let own : Bool → List FeatureChange = λ b. if b then feature_change e Unsets ∷ [] else all_lost e (length (r.values e)) in
    elim a.is_reference as (λ b. a.is_reference ≡ b → Replays s (far_losses r (cut b) ++ own a.is_single)
    (record s { values = values_after_edits s.values (if b then [] else put_values e [] false); links = without_link_ends s.links (cut b) })) [
      | true ↦ λ reference. elim a.is_single as (λ c. a.is_single ≡ c → Replays s (far_losses r (cut true) ++ own c) (record s { links = without_link_ends s.links (cut true) })) [
        | true ↦ λ single. single-unset_link s legal e reference single
        | false ↦ λ many. many-unset_link s legal e reference many
      ] refl
      | false ↦ λ attribute. elim a.is_single as (λ c. a.is_single ≡ c → Replays s (own c) (record s { values = values_after_edits s.values (put_values e [] false) })) [
        | true ↦ λ single. by-object s f (λ n. Replays s (feature_change (at_end n f) Unsets ∷ []) (record s { values = values_after_edits s.values (put_values (at_end n f) [] false) })) attribute (λ o has. single-unset s legal o f has attribute single) n has
        | false ↦ λ many. by-object s f (λ n. Replays s (all_lost (at_end n f) (length (r.values (at_end n f)))) (record s { values = values_after_edits s.values (put_values (at_end n f) [] false) })) attribute (λ o has. list-unset s legal o f has attribute many) n has
      ] refl
    ] refl

-- a new link in a list
new-add : (s : Model) (n : Node) (f : FeatureNo) (v : Value) (i : Option ℕ) → IsLegal s → early_refusal (reading s) (At (at_end n f) (Add v i)) ≡ None → late_refusal (reading s) (At (at_end n f) (Add v i)) ≡ None → is_plain_add (reading s) (at_end n f) v ≡ false
    → (let e = at_end n f in Replays s (before_gain (reading s) e v (cut_by_new (reading s) e v) ++ feature_change e (gain_at i v) ∷ []) (relinked s (with_value (without_link_ends s.links (cut_by_new (reading s) e v)) (reading s) e i v)))
new-add s n f (value.Object o) i legal early late h =
    let e = at_end n f in
    let r = reading s in
    let a = shape s.metamodel f in
    let new = add-new s n f o i early late h in
    let many = (add-named r n f (value.Object o) i early).single in
    let at = add-site s n f o i legal early late h in
    let k = position_for r e i in
    relinked-by s (before_gain r e (value.Object o) (displaced_link_ends r e o) ++ feature_change e (gain_at i (value.Object o)) ∷ []) (put (without_displaced s e o) e k o a.opposite a.containing)
    (with_value (without_link_ends s.links (displaced_link_ends r e o)) r e i (value.Object o))
    (ap (λ (x : ℕ). put (without_displaced s e o) e x o a.opposite a.containing) at.1 ∙ ap (λ (t : Links). with_value t r e i (value.Object o)) (sym (without_link_ends-names_of s.links (displaced_link_ends r e o))))
    (add-replays s legal e o new i k many at.0 at.1)
new-add s n f v i legal early late h =
    let both = plain-not (shape s.metamodel f).is_reference (is_repeat (reading s) (at_end n f) v) h in
    absurd (not-null s f v both.0 (add-named (reading s) n f v i early).single (add-taken (reading s) n f v i late).takes refl)
  where
    null-kind : (m : Metamodel) (class : ObjectNo → Option ClassNo) (f : FeatureNo) (x : Feature) (k : Kind) → (shape_of m f x k).is_reference ≡ true → (shape_of m f x k).is_single ≡ false → lookups.is_of_kind m class (lookups.is_single x) k value.Null ≡ true → ⊥
    null-kind m class f x (Attribute t unique unsettable default) reference many h = false≢true reference
    null-kind m class f x (Reference target containment opposite) reference many h = false≢true (sym many ∙ h)

    null-many : (m : Metamodel) (class : ObjectNo → Option ClassNo) (f : FeatureNo) → (shape m f).is_reference ≡ true → (shape m f).is_single ≡ false → lookups.takes m class f value.Null ≡ true → ⊥
    null-many m class f reference many h = by (lookups.feature m f) reference many h
      where
        by : (x : Option Feature) → (option_map_or (λ g. shape_of m f g g.kind) x (contents_shape m)).is_reference ≡ true → (option_map_or (λ g. shape_of m f g g.kind) x (contents_shape m)).is_single ≡ false
            → option_map_or (λ g. lookups.is_of_kind m class (lookups.is_single g) g.kind value.Null) x (lookups.is_live_object class value.Null) ≡ true → ⊥
        by None reference many h = false≢true h
        by (Some x) reference many h = null-kind m class f x x.kind reference many h

    -- a list of a reference takes only objects
    not-null : (s : Model) (f : FeatureNo) (v : Value) → (shape s.metamodel f).is_reference ≡ true → (shape s.metamodel f).is_single ≡ false → lookups.takes s.metamodel (reading s).class f v ≡ true → object_of v ≡ None → ⊥
    not-null s f v reference many takes none =
        null-many s.metamodel (reading s).class f reference many (subst (λ (w : Value). lookups.takes s.metamodel (reading s).class f w ≡ true) (null-taken s.metamodel (reading s).class f v reference takes none) takes)

-- a value that is added to an attribute
attribute-add : (s : Model) (n : Node) (f : FeatureNo) (v : Value) (i : Option ℕ) → IsLegal s → early_refusal (reading s) (At (at_end n f) (Add v i)) ≡ None → late_refusal (reading s) (At (at_end n f) (Add v i)) ≡ None → (shape s.metamodel f).is_reference ≡ false → is_repeat (reading s) (at_end n f) v ≡ false
    → Replays s (before_gain (reading s) (at_end n f) v [] ++ feature_change (at_end n f) (gain_at i v) ∷ []) (record s { values = values_after_edits s.values (add_value (reading s) (at_end n f) v i) })
attribute-add s (node.Resource k) f v i legal early late attribute new = absurd (resource-keeps-none (reading s) k f (add-named (reading s) (node.Resource k) f v i early).there attribute)
attribute-add s (node.Object o) f (value.Object p) i legal early late attribute new =
    absurd (false≢true (sym attribute ∙ object-reference s.metamodel (reading s).class f p (add-taken (reading s) (node.Object o) f (value.Object p) i late).takes))
attribute-add s (node.Object o) f v i legal early late attribute new =
    let r = reading s in
    let e = at_end (node.Object o) f in
    let named = add-named r (node.Object o) f v i early in
    let low = (add-taken r (node.Object o) f v i late).placed in
    let a = shape s.metamodel f in
    subst (λ (b : Bool). Replays s (feature_change e (gain_at i v) ∷ []) (record s { values = values_after_edits s.values (if b then [] else InsertValue o f (position_for r e i) v a.is_unique ∷ []) })) (sym new)
    (list-added s legal o f named.there attribute named.single v i (position_for r e i) refl (below_or _ _ low))
  where
    below_or : (k n : ℕ) → nat_le k n ≡ true → k ≤ n
    below_or k n h = grind (arith, nat_tests)

add-changes : (s : Model) (n : Node) (f : FeatureNo) (v : Value) (i : Option ℕ) → IsLegal s → early_refusal (reading s) (At (at_end n f) (Add v i)) ≡ None → late_refusal (reading s) (At (at_end n f) (Add v i)) ≡ None → Replays s (feature_changes (reading s) (At (at_end n f) (Add v i))) (model_after s (At (at_end n f) (Add v i)))
add-changes s n f v i legal early late =
    let r = reading s in
    let e = at_end n f in
    let a = shape s.metamodel f in
    let edits : Bool → List ValueEdit = λ c. if c then [] else of_object n (λ o. InsertValue o f (position_for r e i) v a.is_unique) in
    let cut : Bool → Bool → List LinkEnd = λ b c. if not b || c then [] else cut_by_new r e v in
    let made : Bool → Bool → Links = λ b c. let t = without_link_ends s.links (cut b c) in if not b || c then t else with_value t r e i v in
    elim (is_repeat r e v) as (λ c. is_repeat r e v ≡ c → Replays s (if c then [] else before_gain r e v (cut a.is_reference c) ++ feature_change e (gain_at i v) ∷ []) (record s { values = values_after_edits s.values (if a.is_reference then [] else edits c); links = made a.is_reference c })) [
      | true ↦ λ _. elim a.is_reference as (λ b. Replays s [] (record s { values = values_after_edits s.values (if b then [] else []); links = made b true })) [ true ↦ λ d. refl | false ↦ λ d. refl ]
      | false ↦ λ new. elim a.is_reference as (λ b. a.is_reference ≡ b → Replays s (before_gain r e v (cut b false) ++ feature_change e (gain_at i v) ∷ []) (record s { values = values_after_edits s.values (if b then [] else edits false); links = made b false })) [
        | true ↦ λ reference. new-add s n f v i legal early late (λ j. not (reference j) || new j)
        | false ↦ λ attribute. subst (λ (c : Bool). Replays s (before_gain r e v [] ++ feature_change e (gain_at i v) ∷ []) (record s { values = values_after_edits s.values (edits c) })) new (attribute-add s n f v i legal early late attribute new)
      ] refl
    ] refl

-- the value at a position is taken out
take-changes : (s : Model) (n : Node) (f : FeatureNo) (i : ℕ) → IsLegal s → has_feature (reading s) n f ≡ true → (shape s.metamodel f).is_single ≡ false → nat_lt i (length ((reading s).values (at_end n f))) ≡ true
    → (let r = reading s in let e = at_end n f in let cut = if (shape s.metamodel f).is_reference then link_end_in r e i else [] in
    Replays s (changes_of_remove r e cut i) (record s { values = values_after_edits s.values (if (shape s.metamodel f).is_reference then [] else take_value e i); links = without_link_ends s.links cut }))
take-changes s n f i legal has many low =
    let r = reading s in
    let e = at_end n f in
    elim (shape s.metamodel f).is_reference as (λ b. (shape s.metamodel f).is_reference ≡ b → Replays s (changes_of_remove r e (if b then link_end_in r e i else []) i) (record s { values = values_after_edits s.values (if b then [] else take_value e i); links = without_link_ends s.links (if b then link_end_in r e i else []) })) [
      | true ↦ λ reference. take-link s legal e reference i many low
      | false ↦ λ attribute. by-object s f (λ n. nat_lt i (length (r.values (at_end n f))) ≡ true → Replays s (feature_change (at_end n f) (LosesAt i) ∷ []) (record s { values = values_after_edits s.values (take_value (at_end n f) i) })) attribute (λ o has low. list-taken s legal o f has attribute many i low) n has low
    ] refl

-- the first position of a value is in the list
first-low : (vs : List Value) (v : Value) (i : ℕ) → first_in vs v ≡ Some i → nat_lt i (length vs) ≡ true
first-low vs v i h =
    let low = first-below vs v i (sym h) in
    grind (arith, nat_tests)

take-value_changes : (s : Model) (n : Node) (f : FeatureNo) (v : Value) → IsLegal s → has_feature (reading s) n f ≡ true → (shape s.metamodel f).is_single ≡ false → Replays s (feature_changes (reading s) (At (at_end n f) (RemoveValue v))) (model_after s (At (at_end n f) (RemoveValue v)))
take-value_changes s n f v legal has many =
    let r = reading s in
    let e = at_end n f in
    let b = (shape s.metamodel f).is_reference in
    elim (first_at r e v) as (λ q. first_at r e v ≡ q → (let cut = if b then option_map_or (link_end_in r e) q [] else [] in
    Replays s (option_map_or (changes_of_remove r e cut) q []) (record s { values = values_after_edits s.values (if b then [] else option_map_or (take_value e) q []); links = without_link_ends s.links cut }))) [
      | None ↦ λ _. elim b as (λ c. Replays s [] (record s { values = values_after_edits s.values (if c then [] else []); links = without_link_ends s.links (if c then [] else []) })) [ true ↦ λ d. refl | false ↦ λ d. refl ]
      | Some i ↦ λ at. take-changes s n f i legal has many (first-low (r.values e) v i at)
    ] refl

move-changes : (s : Model) (n : Node) (f : FeatureNo) (to from : ℕ) → IsLegal s → has_feature (reading s) n f ≡ true → (shape s.metamodel f).is_single ≡ false → late_refusal (reading s) (At (at_end n f) (Move to from)) ≡ None → Replays s (feature_changes (reading s) (At (at_end n f) (Move to from))) (model_after s (At (at_end n f) (Move to from)))
move-changes s n f to from legal has many late =
    let r = reading s in
    let e = at_end n f in
    let placed = move-placed r n f to from late in
    elim (shape s.metamodel f).is_reference as (λ b. (shape s.metamodel f).is_reference ≡ b → Replays s (feature_change e (Moves to from) ∷ []) (let t = without_link_ends s.links (if b then [] else []) in
    record s { values = values_after_edits s.values (if b then [] else of_object n (λ o. MoveValue o f to from)); links = if b then shift t e to from else t })) [
      | true ↦ λ reference. move-link s legal e reference to from many placed.0 placed.1
      | false ↦ λ attribute. by-object s f (λ n. nat_lt to (length (r.values (at_end n f))) ≡ true → nat_lt from (length (r.values (at_end n f))) ≡ true → Replays s (feature_change (at_end n f) (Moves to from) ∷ []) (record s { values = values_after_edits s.values (of_object n (λ o. MoveValue o f to from)) }))
          attribute (λ o has low_to low_from. list-moved s legal o f has attribute many to from low_to low_from) n has placed.0 placed.1
    ] refl

-- a change that destroys nothing replays at every end
everywhere : (s : Model) (c : Change) → Replays s (feature_changes (reading s) c) (model_after s c) → (d : End) → goes_with (reading s) c d.node ≡ false → comes_with (reading s) c d.node ≡ false → happened_at s.metamodel (feature_changes (reading s) c) d (held_at (reading s) d) ≡ held_at (reading (model_after s c)) d
everywhere s c replays d stays old = replays d

changes-replay : (s : Model) (c : Change) → resolves_all c ≡ false → IsLegal s → early_refusal (reading s) c ≡ None → late_refusal (reading s) c ≡ None → HasReadDocument s.metamodel c
    → (d : End) → goes_with (reading s) c d.node ≡ false → comes_with (reading s) c d.node ≡ false → happened_at s.metamodel (feature_changes (reading s) c) d (held_at (reading s) d) ≡ held_at (reading (model_after s c)) d
changes-replay s (Create k) one legal early late read = everywhere s (Create k) (create-replays s k)
changes-replay s (NewResource u) one legal early late read = everywhere s (NewResource u) (λ d. refl)
changes-replay s (Delete o) one legal early late read = (λ d stays old. changes_of_delete-replays s legal o (delete-named (reading s) o early) d stays)
changes-replay s (At e (Set v)) one legal early late read = everywhere s (At e (Set v)) (set-changes s e.node e.feature v legal early late)
changes-replay s (At e Unset) one legal early late read = everywhere s (At e Unset) (unset-changes s e.node e.feature legal (unset-there (reading s) e.node e.feature early))
changes-replay s (At e (Add v i)) one legal early late read = everywhere s (At e (Add v i)) (add-changes s e.node e.feature v i legal early late)
changes-replay s (At e (Remove i)) one legal early late read =
    let named = remove-named (reading s) e.node e.feature i early in
    everywhere s (At e (Remove i)) (take-changes s e.node e.feature i legal named.0 named.1 (remove-placed (reading s) e.node e.feature i late))
changes-replay s (At e (RemoveValue v)) one legal early late read =
    let named = take-named (reading s) e.node e.feature v early in
    everywhere s (At e (RemoveValue v)) (take-value_changes s e.node e.feature v legal named.there named.single)
changes-replay s (At e (Move to from)) one legal early late read =
    let named = move-named (reading s) e.node e.feature to from early in
    everywhere s (At e (Move to from)) (move-changes s e.node e.feature to from legal named.0 named.1 late)
changes-replay s (At e (Resolve i)) one legal early late read = everywhere s (At e (Resolve i)) (resolve-changes s legal e i late)
changes-replay s (Load k doc) one legal early late read = λ d stays old. load-replays s k doc legal late read d old
changes-replay s _ one legal early late read = absurd (true≢false one)

pub one-replays : (s : Model) (c : Change) → resolves_all c ≡ false → ChainReplays s c
one-replays s c one legal early late read d stays old =
    let m = s.metamodel in
    let r = reading s in
    ap (λ (y : Ends). y d) (ends_after_notices-change_notices m (held_at r) (feature_changes r c)) ∙ ends_after_changes-at m (held_at r) (feature_changes r c) d ∙ changes-replay s c one legal early late read d stays old
