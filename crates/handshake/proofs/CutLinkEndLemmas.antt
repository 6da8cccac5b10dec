-- The links that a change cuts: each exists, none is cut twice, and the ends of the new link are free after the cuts.
use Rattle.std.proofs.Common.{◌≡◌, ℕ, suc, Bool, true, false, not, List, [], ◌∷◌, ◌++◌, filter, fold, map, slice_get, Option, Some, None, option_map, option_to_list, if◌then◌else◌, refl, sym, ap, ◌∙◌, subst, arith}
use Rattle.std.specs.Prelude.{◌&&◌, ◌||◌}
use Rattle.std.specs.List.{AllByRecursion, list_any}
use Rattle.std.specs.Option.{option_map_or}
use Rattle.std.proofs.lemmas.Bool.{and_from, false≢true, or_left, or_parts, or_right}
use Rattle.std.proofs.lemmas.Option.{none-some, same_Some}
use Rattle.mm_meta.proofs.ShapeLemmas.{opposites_are_pairs}
use Rattle.mm_types.proofs.SameLemmas.{same_end-self, same_end-true}
use Rattle.mm_types.specs.Same.{node_value, same_end, same_value}
use Rattle.mm_types.specs.Shapes.{shape}
use Rattle.mm_types.specs.declared.numbers.FeatureNo.{FeatureNo}
use Rattle.mm_types.specs.declared.numbers.ObjectNo.{ObjectNo}
use Rattle.mm_types.specs.declared.numbers.Node.{Node}
use Rattle.mm_types.specs.declared.end.End.{End}
use Rattle.mm_types.specs.declared.value.Value.{Value}
use Rattle.mm_types.specs.declared.value.Value.TheVariants as value
use Rattle.links.proofs.CutNamedLemmas.{end-without_all, holder-without_all}
use Rattle.links.proofs.HolderLemmas.{holder-some, indexed_held}
use Rattle.mm_types.specs.SameValues.{same_value-self, same_value-true}
use Rattle.links.specs.Holders.{holder, node_contained}
use Rattle.links.specs.Laws.{AreOnce, AreThere, is_named, kept_holder, names, names_far, without_all}
use Rattle.links.specs.LegalSets.{IsDistinct, IsLegalSet}
use Rattle.links.specs.Links.{Links, cut_value, end, far_end}
use Rattle.links.specs.Plans.{Has}
use Rattle.links.proofs.GoneLemmas.{without_all-nodes}
use Rattle.links.proofs.RankLemmas.{same-tests}
use Rattle.models.proofs.EndLemmas.{values-single}
use Rattle.models.specs.Legal.{IsLegal, kinds_of}
use Rattle.models.specs.Model.{Model, reading}
use Rattle.models.specs.Reading.{Reading, is_repeat, shape_at}
use Rattle.mm_meta.proofs.FeatureListLemmas.{all-append}
use Rattle.containment.proofs.PartLemmas.{kinds-are}
use Rattle.handshake.proofs.KnownLemmas.{delete-named, far-reference, set-named}
use Rattle.handshake.specs.declared.act.Act.{Act}
use Rattle.handshake.specs.declared.change.Change.{Change}
use Rattle.handshake.specs.declared.change.Change.TheVariants.{At, Delete}
use Rattle.handshake.specs.declared.act.Act.TheVariants.{Set, Unset, Add, Resolve}
use Rattle.removal.specs.declared.link_end.LinkEnd.{LinkEnd}
use Rattle.handshake.specs.Displaced.{cut_by_new, cut_by_set, cut_link_ends, link_end_in, link_ends_backwards, has_already, in_the_way, each_link_once, holding_link_end, other_side, same_link, same_link_end, link_ends_at, link_ends_if_single, with_link_end, displaced_link_ends, link_ends_resolved, taken_index}
use Rattle.proxies.specs.Resolving.{opposite_end}
use Rattle.removal.specs.TreeLinkEnds.{link_end, tree_link_ends}
use Rattle.removal.specs.Laws.{names_of}
use Rattle.removal.specs.Outer.{is_in_subtree}
use Rattle.removal.proofs.TreeLemmas.{tree-named}
use Rattle.removal.proofs.ListLemmas.{all-at, all-map, all-weaker, any-left}
use Rattle.handshake.specs.Effects.{links_left, without_link_ends}
use Rattle.handshake.specs.Laws.{AreDifferent}
use Rattle.handshake.specs.Refusals.{early_refusal, late_refusal}
use Rattle.proxies.proofs.TargetLemmas.{IsMatch, match-apart}
use Rattle.handshake.proofs.ResolvedCutLemmas.{resolved-cuts}
use Rattle.proxies.specs.declared.resolved_proxy.Counterpart.{Counterpart}
use Rattle.doc_loader.proofs.FillLemmas.{distinct-tail}

pub without_link_ends-names_of : (s : Links) (ts : List LinkEnd) → without_link_ends s ts ≡ without_all s (names_of ts)
without_link_ends-names_of s [] = refl
without_link_ends-names_of s (t ∷ ts) = without_link_ends-names_of (cut_value s t.end t.value) ts

---------------------------------------------------------------- lists

pub all_push : {X : Type 0} (P : X → Type 0) (xs : List X) (x : X) → AllByRecursion P xs → P x → AllByRecursion P (xs ++ x ∷ [])
all_push P [] x all here = (here, tt)
all_push P (y ∷ ys) x all here = (all.0, all_push P ys x all.1 here)

pub all_front : {X : Type 0} (P : X → Type 0) (xs ys : List X) → AllByRecursion P (xs ++ ys) → AllByRecursion P xs
all_front P [] ys all = tt
all_front P (x ∷ xs) ys all = (all.0, all_front P xs ys all.1)

pub all_back : {X : Type 0} (P : X → Type 0) (xs ys : List X) → AllByRecursion P (xs ++ ys) → AllByRecursion P ys
all_back P [] ys all = all
all_back P (x ∷ xs) ys all = all_back P xs ys all.1

pub all_from_map : {X Y : Type 0} (P : Y → Type 0) (f : X → Y) (xs : List X) → AllByRecursion P (map f xs) → AllByRecursion (λ (x : X). P (f x)) xs
all_from_map P f [] all = tt
all_from_map P f (x ∷ xs) all = (all.0, all_from_map P f xs all.1)

pub filter_none : (p : Value → Bool) (vs : List Value) → AllByRecursion (λ (v : Value). p v ≡ true) vs → filter (λ w. not (p w)) vs ≡ []
filter_none p [] all = refl
filter_none p (v ∷ vs) all = ap (λ (b : Bool). if not b then v ∷ filter (λ w. not (p w)) vs else filter (λ w. not (p w)) vs) all.0 ∙ filter_none p vs all.1

pub any_push : {X : Type 0} (p : X → Bool) (xs : List X) (x : X) → p x ≡ true → list_any p (xs ++ x ∷ []) ≡ true
any_push p [] x h = or_left (p x) false h
any_push p (y ∷ ys) x h = or_right (p y) (list_any p (ys ++ x ∷ [])) (any_push p ys x h)

---------------------------------------------------------------- names of one link

pub same_end-symmetric : (d e : End) → same_end d e ≡ same_end e d
same_end-symmetric d e = same-tests _ _ (one d e) (one e d)
  where
    one : (x y : End) → same_end x y ≡ true → same_end y x ≡ true
    one x y h = subst (λ (z : End). same_end z x ≡ true) (same_end-true x y h) (same_end-self x)

pub same_value-symmetric : (v w : Value) → same_value v w ≡ same_value w v
same_value-symmetric v w = same-tests _ _ (one v w) (one w v)
  where
    one : (x y : Value) → same_value x y ≡ true → same_value y x ≡ true
    one x y h = subst (λ (z : Value). same_value z x ≡ true) (same_value-true x y h) (same_value-self x)

pub same_link_end-symmetric : (t u : LinkEnd) → same_link_end t u ≡ same_link_end u t
same_link_end-symmetric t u = λ i. same_end-symmetric t.end u.end i && same_value-symmetric t.value u.value i

pub same_link_end-self : (t : LinkEnd) → same_link_end t t ≡ true
same_link_end-self t = and_from (same_end t.end t.end) (same_value t.value t.value) (same_end-self t.end) (same_value-self t.value)

names_far-other : (e : End) (v : Value) (q : Option FeatureNo) (t : LinkEnd) → names_far e v q t.end t.value ≡ option_map_or (same_link_end t) (other_side e.node v q) false
names_far-other e (value.Object o) (Some g) t = same_link_end-symmetric (link_end (far_end o g) (node_value e.node)) t
names_far-other e _ _ t = refl

-- a name names the link of another name if the two are names of the same link
pub names-same_link : (r : Reading) (t u : LinkEnd) → names (kinds_of r.metamodel) u.end u.value t.end t.value ≡ same_link r t u
names-same_link r t u = λ i. same_link_end-symmetric u t i || names_far-other u.end u.value (shape r.metamodel u.end.feature).opposite t i

pub is_named-same_link : (r : Reading) (ts : List LinkEnd) (t : LinkEnd) → is_named (kinds_of r.metamodel) (names_of ts) t.end t.value ≡ list_any (same_link r t) ts
is_named-same_link r [] t = refl
is_named-same_link r (u ∷ us) t = λ i. names-same_link r t u i || is_named-same_link r us t i

pub once-of_different : (r : Reading) (ts : List LinkEnd) → AreDifferent r ts → AreOnce (kinds_of r.metamodel) (names_of ts)
once-of_different r [] different = tt
once-of_different r (t ∷ ts) different =
    let other : (u : LinkEnd) → same_link r u t ≡ false → names (kinds_of r.metamodel) t.end t.value u.end u.value ≡ false = λ u h. names-same_link r u t ∙ h in (
      all-map (λ (x : End × Value). names (kinds_of r.metamodel) t.end t.value x.0 x.1 ≡ false) (λ (u : LinkEnd). (u.end, u.value)) ts (all-weaker _ _ ts other different.0),
      once-of_different r ts different.1,
    )

---------------------------------------------------------------- each link once

module _ (r : Reading) where
  with_link_end-cases : (P : List LinkEnd → Type 0) (ts : List LinkEnd) (t : LinkEnd) → (list_any (same_link r t) ts ≡ true → P ts) → (list_any (same_link r t) ts ≡ false → P (ts ++ t ∷ [])) → P (with_link_end r ts t)
  with_link_end-cases P ts t there new =
      elim (list_any (same_link r t) ts) as (λ b. list_any (same_link r t) ts ≡ b → P (if b then ts else ts ++ t ∷ [])) [ true ↦ there | false ↦ new ] refl

  different_push : (ts : List LinkEnd) (t : LinkEnd) → AreDifferent r ts → list_any (same_link r t) ts ≡ false → AreDifferent r (ts ++ t ∷ [])
  different_push [] t different h = (tt, tt)
  different_push (u ∷ us) t different h =
      let both = or_parts (same_link r t u) (list_any (same_link r t) us) h in
      (all_push (λ (x : LinkEnd). same_link r x u ≡ false) us t different.0 both.0, different_push us t different.1 both.1)

  different_fold : (done ts : List LinkEnd) → AreDifferent r done → AreDifferent r (fold (with_link_end r) done ts)
  different_fold done [] different = different
  different_fold done (t ∷ ts) different = different_fold (with_link_end r done t) ts (with_link_end-cases (AreDifferent r) done t (λ _. different) (different_push done t different))

  pub each_link_once-different : (ts : List LinkEnd) → AreDifferent r (each_link_once r ts)
  each_link_once-different ts = different_fold [] ts tt

  pub displaced_link_ends-different : (e : End) (o : ObjectNo) → AreDifferent r (displaced_link_ends r e o)
  displaced_link_ends-different e o = each_link_once-different (in_the_way r e o)

  all_fold : (P : LinkEnd → Type 0) (done ts : List LinkEnd) → AllByRecursion P done → AllByRecursion P ts → AllByRecursion P (fold (with_link_end r) done ts)
  all_fold P done [] all more = all
  all_fold P done (t ∷ ts) all more = all_fold P (with_link_end r done t) ts (with_link_end-cases (AllByRecursion P) done t (λ _. all) (λ _. all_push P done t all more.0)) more.1

  pub all_once : (P : LinkEnd → Type 0) (ts : List LinkEnd) → AllByRecursion P ts → AllByRecursion P (each_link_once r ts)
  all_once P ts all = all_fold P [] ts tt all

  pub same_link-self : (t : LinkEnd) → same_link r t t ≡ true
  same_link-self t = or_left (same_link_end t t) _ (same_link_end-self t)

  named_fold : (x : LinkEnd) (done ts : List LinkEnd) → list_any (same_link r x) done ≡ true → list_any (same_link r x) (fold (with_link_end r) done ts) ≡ true
  named_fold x done [] h = h
  named_fold x done (t ∷ ts) h =
      named_fold x (with_link_end r done t) ts (with_link_end-cases (λ (us : List LinkEnd). list_any (same_link r x) us ≡ true) done t (λ _. h) (λ _. any-left (same_link r x) done (t ∷ []) h))

  named_here : (done : List LinkEnd) (t : LinkEnd) → list_any (same_link r t) (with_link_end r done t) ≡ true
  named_here done t = with_link_end-cases (λ (us : List LinkEnd). list_any (same_link r t) us ≡ true) done t (λ h. h) (λ _. any_push (same_link r t) done t (same_link-self t))

  named_all : (done ts : List LinkEnd) → AllByRecursion (λ (x : LinkEnd). list_any (same_link r x) (fold (with_link_end r) done ts) ≡ true) ts
  named_all done [] = tt
  named_all done (t ∷ ts) = (named_fold t (with_link_end r done t) ts (named_here done t), named_all (with_link_end r done t) ts)

  -- each of the links is among the links that are taken once
  pub each_link_once-names : (ts : List LinkEnd) → AllByRecursion (λ (x : LinkEnd). list_any (same_link r x) (each_link_once r ts) ≡ true) ts
  each_link_once-names ts = named_all [] ts

---------------------------------------------------------------- what is there

-- a far end is the end of a reference
pub opposite_end-reference : (s : Model) (e : End) (o : ObjectNo) (d : End) → IsLegal s → opposite_end (reading s) e o ≡ Some d → (shape s.metamodel d.feature).is_reference ≡ true
opposite_end-reference s e o d legal is = by (shape s.metamodel e.feature).opposite refl is
  where
    by : (q : Option FeatureNo) → (shape s.metamodel e.feature).opposite ≡ q → option_map (far_end o) q ≡ Some d → (shape s.metamodel d.feature).is_reference ≡ true
    by None _ h = absurd (none-some d h)
    by (Some g) opposite h = subst (λ (x : End). (shape s.metamodel x.feature).is_reference ≡ true) (same_Some (far_end o g) d h) (far-reference s.metamodel legal.metamodel e.feature g opposite)

-- the value of the name is in its end
abbrev pub HasLinkEnd : Links → LinkEnd → Type 0
HasLinkEnd s t = Has s t.end t.value

-- a node with a holder is in the end that is its holder
pub held_stands : (s : Links) → IsLegalSet s → (n : Node) (d : End) → holder s n ≡ Some d → Has s d (node_value n)
held_stands s legal n d h =
    let l = holder-some s n d h in
    let at = indexed_held l.0 n d (legal.placed.sides l.0 l.1) l.2 in
    (at.0, (legal.placed.ends d).has at.0 (node_value n) (l.0, l.1, at.1))

pub values-linked : (s : Model) (e : End) → (shape s.metamodel e.feature).is_reference ≡ true → (reading s).values e ≡ end s.links e
values-linked s e reference = rw reference refl

pub link_ends_at-stand : (s : Model) (e : End) → (shape s.metamodel e.feature).is_reference ≡ true → AllByRecursion (HasLinkEnd s.links) (link_ends_at (reading s) e)
link_ends_at-stand s e reference =
    subst (λ (vs : List Value). AllByRecursion (HasLinkEnd s.links) (map (link_end e) vs)) (sym (values-linked s e reference))
    (all-map (HasLinkEnd s.links) (link_end e) (end s.links e) (all-at (Has s.links e) (end s.links e) (λ k v at. (k, at))))

link_ends_if_single-stand : (s : Model) (e : End) → (shape s.metamodel e.feature).is_reference ≡ true → AllByRecursion (HasLinkEnd s.links) (link_ends_if_single (reading s) e)
link_ends_if_single-stand s e reference =
    elim (shape s.metamodel e.feature).is_single as (λ b. AllByRecursion (HasLinkEnd s.links) (if b then link_ends_at (reading s) e else [])) [ true ↦ link_ends_at-stand s e reference | false ↦ tt ]

far-stand : (s : Model) (e : End) (o : ObjectNo) → IsLegal s → AllByRecursion (HasLinkEnd s.links) (option_map_or (link_ends_if_single (reading s)) (opposite_end (reading s) e o) [])
far-stand s e o legal =
    elim (shape s.metamodel e.feature).opposite as (λ q. (shape s.metamodel e.feature).opposite ≡ q → AllByRecursion (HasLinkEnd s.links) (option_map_or (link_ends_if_single (reading s)) (option_map (far_end o) q) [])) [
      | None ↦ λ _. tt
      | Some g ↦ λ h. link_ends_if_single-stand s (far_end o g) (far-reference s.metamodel legal.metamodel e.feature g h)
    ] refl

holding-stand : (s : Model) (n : Node) → IsLegal s → AllByRecursion (HasLinkEnd s.links) (option_to_list (holding_link_end (reading s) n))
holding-stand s n legal =
    elim (holder s.links n) as (λ q. holder s.links n ≡ q → AllByRecursion (HasLinkEnd s.links) (option_to_list (option_map (λ (d : End). link_end d (node_value n)) q))) [
      | None ↦ λ _. tt
      | Some d ↦ λ h. (held_stands s.links legal.links.set n d h, tt)
    ] refl

part-stand : (s : Model) (q : Option Node) → IsLegal s → AllByRecursion (HasLinkEnd s.links) (option_map_or (λ n. option_to_list (holding_link_end (reading s) n)) q [])
part-stand s None legal = tt
part-stand s (Some n) legal = holding-stand s n legal

pub displaced_link_ends-stand : (s : Model) (e : End) (o : ObjectNo) → IsLegal s → (shape s.metamodel e.feature).is_reference ≡ true → AllByRecursion (HasLinkEnd s.links) (displaced_link_ends (reading s) e o)
displaced_link_ends-stand s e o legal reference =
    let P : LinkEnd → Type 0 = HasLinkEnd s.links in
    all_once (reading s) P (in_the_way (reading s) e o)
    (all-append P _ _ (link_ends_if_single-stand s e reference) (all-append P _ _ (far-stand s e o legal) (part-stand s (node_contained e o (shape s.metamodel e.feature).containing) legal)))

---------------------------------------------------------------- the cuts of a change

-- a set that may cut links is a set of a reference to another value
pub plain-not : (a b : Bool) → (not a || b) ≡ false → (a ≡ true) × (b ≡ false)
plain-not true b h = (refl, h)
plain-not false b h = absurd (false≢true (sym h))

-- a property of what an act cuts, if it holds of no links, and of all that an act may cut at a reference
module _ (P : List LinkEnd → Type 0) (r : Reading) (e : End) (none : P []) where
  -- what is cut unless nothing is to be done
  plain-cuts : (b : Bool) (ts : List LinkEnd) → ((shape_at r e).is_reference ≡ true → P ts) → P (if not (shape_at r e).is_reference || b then [] else ts)
  plain-cuts b ts some =
      elim (not (shape_at r e).is_reference || b) as (λ c. (not (shape_at r e).is_reference || b) ≡ c → P (if c then [] else ts)) [
        | true ↦ λ _. none
        | false ↦ λ h. some (plain-not (shape_at r e).is_reference b h).0
      ] refl

  -- only a change of a reference cuts links
  reference-cuts : (ts : List LinkEnd) → ((shape_at r e).is_reference ≡ true → P ts) → P (if (shape_at r e).is_reference then ts else [])
  reference-cuts ts some =
      elim (shape_at r e).is_reference as (λ b. (shape_at r e).is_reference ≡ b → P (if b then ts else [])) [ true ↦ some | false ↦ λ _. none ] refl

  pub act-cuts : (a : Act) → ((v : Value) → a ≡ Set v → (shape_at r e).is_reference ≡ true → P (cut_by_set r e v)) → ((v : Value) → (shape_at r e).is_reference ≡ true → P (cut_by_new r e v))
      → ((shape_at r e).is_reference ≡ true → P (link_ends_backwards e (r.values e))) → ((i : ℕ) → (shape_at r e).is_reference ≡ true → P (link_end_in r e i))
      → ((i : ℕ) → (shape_at r e).is_reference ≡ true → P (link_ends_resolved r e i)) → P (cut_link_ends r (At e a))
  act-cuts (Set v) set add unset at resolve = plain-cuts (has_already r e v) (cut_by_set r e v) (set v refl)
  act-cuts Unset set add unset at resolve = reference-cuts (link_ends_backwards e (r.values e)) unset
  act-cuts (Add v i) set add unset at resolve = plain-cuts (is_repeat r e v) (cut_by_new r e v) (add v)
  act-cuts (Resolve i) set add unset at resolve = reference-cuts (link_ends_resolved r e i) (resolve i)
  act-cuts a set add unset at resolve =
      elim (taken_index r e a) as (λ q. P (if (shape_at r e).is_reference then option_map_or (link_end_in r e) q [] else [])) [
        | None ↦ reference-cuts [] (λ _. none)
        | Some i ↦ reference-cuts (link_end_in r e i) (at i)
      ]

cut_by_set-stand : (s : Model) (e : End) (v : Value) → IsLegal s → (shape s.metamodel e.feature).is_reference ≡ true → AllByRecursion (HasLinkEnd s.links) (cut_by_set (reading s) e v)
cut_by_set-stand s e (value.Object o) legal reference = displaced_link_ends-stand s e o legal reference
cut_by_set-stand s e _ legal reference = link_ends_at-stand s e reference

cut_by_new-stand : (s : Model) (e : End) (v : Value) → IsLegal s → (shape s.metamodel e.feature).is_reference ≡ true → AllByRecursion (HasLinkEnd s.links) (cut_by_new (reading s) e v)
cut_by_new-stand s e (value.Object o) legal reference = displaced_link_ends-stand s e o legal reference
cut_by_new-stand s e _ legal reference = tt

backwards-all : (P : LinkEnd → Type 0) (e : End) (vs : List Value) → AllByRecursion (λ (v : Value). P (link_end e v)) vs → AllByRecursion P (link_ends_backwards e vs)
backwards-all P e [] all = tt
backwards-all P e (v ∷ vs) all = all_push P (link_ends_backwards e vs) (link_end e v) (backwards-all P e vs all.1) all.0

pub link_ends_backwards-stand : (s : Model) (e : End) → (shape s.metamodel e.feature).is_reference ≡ true → AllByRecursion (HasLinkEnd s.links) (link_ends_backwards e ((reading s).values e))
link_ends_backwards-stand s e reference =
    subst (λ (vs : List Value). AllByRecursion (HasLinkEnd s.links) (link_ends_backwards e vs)) (sym (values-linked s e reference))
    (backwards-all (HasLinkEnd s.links) e (end s.links e) (all-at (Has s.links e) (end s.links e) (λ k v at. (k, at))))

pub link_end_in-stand : (s : Model) (e : End) (i : ℕ) → (shape s.metamodel e.feature).is_reference ≡ true → AllByRecursion (HasLinkEnd s.links) (link_end_in (reading s) e i)
link_end_in-stand s e i reference =
    subst (λ (vs : List Value). AllByRecursion (HasLinkEnd s.links) (option_to_list (option_map (link_end e) (slice_get vs i)))) (sym (values-linked s e reference))
    (elim (slice_get (end s.links e) i) as (λ q. slice_get (end s.links e) i ≡ q → AllByRecursion (HasLinkEnd s.links) (option_to_list (option_map (link_end e) q))) [ None ↦ λ _. tt | Some v ↦ λ at. ((i, at), tt) ] refl)

---------------------------------------------------------------- the links of what is destroyed

different-of_once : (r : Reading) (ts : List LinkEnd) → AreOnce (kinds_of r.metamodel) (names_of ts) → AreDifferent r ts
different-of_once r [] once = tt
different-of_once r (t ∷ ts) once =
    let m = kinds_of r.metamodel in
    let other : (u : LinkEnd) → names m t.end t.value u.end u.value ≡ false → same_link r u t ≡ false = λ u h. sym (names-same_link r u t) ∙ h in (
      all-weaker _ _ ts other (all_from_map (λ (x : End × Value). names m t.end t.value x.0 x.1 ≡ false) (λ (u : LinkEnd). (u.end, u.value)) ts once.0),
      different-of_once r ts once.1,
    )

-- the links that a change leaves, by the names of those that it cuts
pub left-cuts : (s : Model) (c : Change) → IsLegal s → early_refusal (reading s) c ≡ None → links_left s.links (reading s) c ≡ without_all s.links (names_of (cut_link_ends (reading s) c))
left-cuts s (Delete o) legal early =
    let r = reading s in
    let m = kinds_of s.metamodel in
    sym (without_all-nodes m (kinds-are s.metamodel legal.metamodel) s.links (is_in_subtree r o) (names_of (tree_link_ends r o)) legal.links.set legal.links.kinds (tree-named s legal o (delete-named r o early)).all)
left-cuts s c legal early = without_link_ends-names_of s.links (cut_link_ends (reading s) c)

-- each link that a change cuts is where its name says
pub cuts-stand : (s : Model) (c : Change) → IsLegal s → early_refusal (reading s) c ≡ None → AllByRecursion (HasLinkEnd s.links) (cut_link_ends (reading s) c)
cuts-stand s (Delete o) legal early = all_from_map (λ (t : End × Value). Has s.links t.0 t.1) (λ (t : LinkEnd). (t.end, t.value)) (tree_link_ends (reading s) o) (tree-named s legal o (delete-named (reading s) o early)).there
cuts-stand s (At e a) legal early =
    let r = reading s in
    act-cuts (AllByRecursion (HasLinkEnd s.links)) r e tt a (λ v _ reference. cut_by_set-stand s e v legal reference) (λ v reference. cut_by_new-stand s e v legal reference)
    (λ reference. link_ends_backwards-stand s e reference) (λ i reference. link_end_in-stand s e i reference)
    (λ i reference. resolved-cuts (AllByRecursion (HasLinkEnd s.links)) r e i (link_end_in-stand s e i reference) (λ b c t is at.
    all-append (HasLinkEnd s.links) (link_end_in r e i) (link_end_in r c.end c.index) (link_end_in-stand s e i reference)
    (link_end_in-stand s c.end c.index (subst (λ (d : End). (shape s.metamodel d.feature).is_reference ≡ true) (sym is.stands) (far-reference s.metamodel legal.metamodel e.feature is.feature is.opposite)))))
cuts-stand s _ legal early = tt

pub cuts-there : (s : Model) (c : Change) → IsLegal s → early_refusal (reading s) c ≡ None → late_refusal (reading s) c ≡ None → AreThere s.links (names_of (cut_link_ends (reading s) c))
cuts-there s c legal early late = all-map (λ (t : End × Value). Has s.links t.0 t.1) (λ (t : LinkEnd). (t.end, t.value)) (cut_link_ends (reading s) c) (cuts-stand s c legal early)

-- the link of the value of a single end, if it has one
pub link_ends-single : (s : Model) (e : End) → IsLegal s → (shape s.metamodel e.feature).is_reference ≡ true → (shape s.metamodel e.feature).is_single ≡ true
    → link_ends_if_single (reading s) e ≡ option_to_list (option_map (link_end e) (slice_get ((reading s).values e) 0))
link_ends-single s e legal reference single =
    ap (λ (b : Bool). if b then link_ends_at (reading s) e else []) single
    ∙ ap (λ (vs : List Value). map (link_end e) vs) (values-single s e legal reference single) ∙ by (slice_get ((reading s).values e) 0)
  where
    by : (q : Option Value) → map (link_end e) (option_to_list q) ≡ option_to_list (option_map (link_end e) q)
    by None = refl
    by (Some v) = refl

-- a single end has at most one link
pub link_ends_at-different : (s : Model) (e : End) → IsLegal s → (shape s.metamodel e.feature).is_reference ≡ true → (shape s.metamodel e.feature).is_single ≡ true → AreDifferent (reading s) (link_ends_at (reading s) e)
link_ends_at-different s e legal reference single =
    subst (λ (vs : List Value). AreDifferent (reading s) (map (link_end e) vs)) (sym (values-single s e legal reference single))
    (elim (slice_get ((reading s).values e) 0) as (λ q. AreDifferent (reading s) (map (link_end e) (option_to_list q))) [ None ↦ tt | Some v ↦ (tt, tt) ])

cut_by_set-different : (s : Model) (e : End) (v : Value) → IsLegal s → (shape s.metamodel e.feature).is_reference ≡ true → (shape s.metamodel e.feature).is_single ≡ true → AreDifferent (reading s) (cut_by_set (reading s) e v)
cut_by_set-different s e (value.Object o) legal reference single = displaced_link_ends-different (reading s) e o
cut_by_set-different s e _ legal reference single = link_ends_at-different s e legal reference single

-- two values of an end are two links
pub near-different : (s : Model) (e : End) (v w : Value) → IsLegal s → same_value v w ≡ false → same_link (reading s) (link_end e v) (link_end e w) ≡ false
near-different s e v w legal other = by (shape s.metamodel e.feature).opposite refl
  where
    not_same : (q : Option LinkEnd) → same_link_end (link_end e v) (link_end e w) ≡ false → option_map_or (same_link_end (link_end e v)) q false ≡ false → (same_link_end (link_end e v) (link_end e w) || option_map_or (same_link_end (link_end e v)) q false) ≡ false
    not_same q a b = rw (a, b) refl

    here : same_link_end (link_end e v) (link_end e w) ≡ false
    here = rw (other, same_end-self e) refl

    there : (g : FeatureNo) (o : ObjectNo) → (shape s.metamodel e.feature).opposite ≡ Some g → same_link_end (link_end e v) (link_end (far_end o g) (node_value e.node)) ≡ false
    there g o opposite =
        elim (same_end e (far_end o g)) as (λ b. same_end e (far_end o g) ≡ b → (b && same_value v (node_value e.node)) ≡ false) [
          | true ↦ λ same. absurd ((opposites_are_pairs s.metamodel legal.metamodel e.feature g opposite).apart (ap (λ (x : End). x.feature.0) (sym (same_end-true e (far_end o g) same))))
          | false ↦ λ _. refl
        ] refl

    other_side-not : (q : Option FeatureNo) (x : Value) → (shape s.metamodel e.feature).opposite ≡ q → option_map_or (same_link_end (link_end e v)) (other_side e.node x q) false ≡ false
    other_side-not (Some g) (value.Object o) opposite = there g o opposite
    other_side-not None (value.Object o) opposite = refl
    other_side-not q x opposite = refl

    by : (q : Option FeatureNo) → (shape s.metamodel e.feature).opposite ≡ q → same_link (reading s) (link_end e v) (link_end e w) ≡ false
    by q opposite = not_same (other_side e.node w (shape s.metamodel e.feature).opposite) here (other_side-not (shape s.metamodel e.feature).opposite w refl)

-- in a list without repetitions the other values are different
others-differ : (v : Value) (vs : List Value) → IsDistinct (v ∷ vs) → AllByRecursion (λ (w : Value). same_value v w ≡ false) vs
others-differ v vs distinct = all-at (λ (w : Value). same_value v w ≡ false) vs (λ k w at.
    elim (same_value v w) as (λ b. same_value v w ≡ b → b ≡ false) [
      | true ↦ λ same. absurd (zero-not_suc k (distinct 0 (suc k) w (ap Some (same_value-true v w same)) at))
      | false ↦ λ _. refl
    ] refl)
  where
    zero-not_suc : (k : ℕ) → 0 ≡ suc k → ⊥
    zero-not_suc k h = omega (arith, h)

none_of : (p : LinkEnd → Bool) (ts : List LinkEnd) → AllByRecursion (λ (t : LinkEnd). p t ≡ false) ts → list_any p ts ≡ false
none_of p [] all = refl
none_of p (t ∷ ts) all = rw all.0 (none_of p ts all.1)

pub backwards-different : (s : Model) (e : End) (vs : List Value) → IsLegal s → IsDistinct vs → AreDifferent (reading s) (link_ends_backwards e vs)
backwards-different s e [] legal distinct = tt
backwards-different s e (v ∷ vs) legal distinct =
    let r = reading s in
    let others = backwards-all (λ (t : LinkEnd). same_link r (link_end e v) t ≡ false) e vs (all-weaker _ _ vs (λ w other. near-different s e v w legal other) (others-differ v vs distinct)) in
    different_push r (link_ends_backwards e vs) (link_end e v) (backwards-different s e vs legal (distinct-tail v vs distinct)) (none_of (same_link r (link_end e v)) (link_ends_backwards e vs) others)

pub link_end_in-different : (r : Reading) (e : End) (i : ℕ) → AreDifferent r (link_end_in r e i)
link_end_in-different r e i = elim (slice_get (r.values e) i) as (λ q. AreDifferent r (option_to_list (option_map (link_end e) q))) [ None ↦ tt | Some v ↦ (tt, tt) ]

cut_by_new-different : (r : Reading) (e : End) (v : Value) → AreDifferent r (cut_by_new r e v)
cut_by_new-different r e (value.Object o) = displaced_link_ends-different r e o
cut_by_new-different r e _ = tt

-- the proxies at both ends of a link are two links
proxies-different : (s : Model) (e : End) (i : ℕ) (o : ObjectNo) (c : Counterpart) (t : List ℕ) → IsLegal s → IsMatch (reading s) e o c → slice_get ((reading s).values e) i ≡ Some (value.Proxy t)
    → AreDifferent (reading s) (link_end_in (reading s) e i ++ link_end_in (reading s) c.end c.index)
proxies-different s e i o c t legal is at =
    let r = reading s in
    let near : link_end_in r e i ≡ link_end e (value.Proxy t) ∷ [] = ap (λ (q : Option Value). option_to_list (option_map (link_end e) q)) at in
    let far : link_end_in r c.end c.index ≡ link_end c.end (value.Proxy is.text) ∷ [] = ap (λ (q : Option Value). option_to_list (option_map (link_end c.end) q)) is.proxy in
    let other : same_end c.end e ≡ false = ap (λ (d : End). same_end d e) is.stands ∙ match-apart r e o is.feature legal.metamodel is.opposite in
    let apart : same_link r (link_end c.end (value.Proxy is.text)) (link_end e (value.Proxy t)) ≡ false = ap (λ (b : Bool). (b && same_value (value.Proxy is.text) (value.Proxy t)) || false) other in
    subst (AreDifferent r) (sym (λ k. near k ++ far k)) ((apart, tt), (tt, tt))

pub cuts-different : (s : Model) (c : Change) → IsLegal s → early_refusal (reading s) c ≡ None → AreDifferent (reading s) (cut_link_ends (reading s) c)
cuts-different s (Delete o) legal early = different-of_once (reading s) (tree_link_ends (reading s) o) (tree-named s legal o (delete-named (reading s) o early)).once
cuts-different s (At e a) legal early =
    let r = reading s in
    act-cuts (AreDifferent r) r e tt a
    (λ v is reference. cut_by_set-different s e v legal reference (set-named r e.node e.feature v (ap (λ (b : Act). early_refusal r (At e b)) (sym is) ∙ early)).single)
    (λ v reference. cut_by_new-different r e v)
    (λ reference. subst (λ (vs : List Value). AreDifferent r (link_ends_backwards e vs)) (sym (values-linked s e reference)) (backwards-different s e (end s.links e) legal (legal.links.set.placed.distinct e)))
    (λ i reference. link_end_in-different r e i)
    (λ i reference. resolved-cuts (AreDifferent r) r e i (link_end_in-different r e i) (λ b c t is at. proxies-different s e i b c t legal is at))
cuts-different s _ legal early = tt

pub cuts-once : (s : Model) (c : Change) → IsLegal s → early_refusal (reading s) c ≡ None → late_refusal (reading s) c ≡ None → AreOnce (kinds_of s.metamodel) (names_of (cut_link_ends (reading s) c))
cuts-once s c legal early late = once-of_different (reading s) (cut_link_ends (reading s) c) (cuts-different s c legal early)

---------------------------------------------------------------- what a new link needs

-- a link of which each name is among those that a new link displaces
abbrev IsDisplaced : Model → End → ObjectNo → LinkEnd → Type 0
IsDisplaced s e o t = list_any (same_link (reading s) t) (displaced_link_ends (reading s) e o) ≡ true

-- an end whose links are all displaced is empty after they are cut
emptied : (s : Model) (e : End) (o : ObjectNo) (d : End) → IsLegal s → (shape s.metamodel d.feature).is_reference ≡ true → (shape s.metamodel d.feature).is_single ≡ true
    → AllByRecursion (IsDisplaced s e o) (link_ends_if_single (reading s) d) → end (without_all s.links (names_of (displaced_link_ends (reading s) e o))) d ≡ []
emptied s e o d legal reference single all =
    let ts : List LinkEnd = displaced_link_ends (reading s) e o in
    let m = kinds_of s.metamodel in
    let at_d = subst (λ (b : Bool). AllByRecursion (IsDisplaced s e o) (if b then link_ends_at (reading s) d else [])) single all in
    let linked = subst (λ (vs : List Value). AllByRecursion (IsDisplaced s e o) (map (link_end d) vs)) (values-linked s d reference) at_d in
    let named : (v : Value) → IsDisplaced s e o (link_end d v) → is_named m (names_of ts) d v ≡ true = λ v h. is_named-same_link (reading s) ts (link_end d v) ∙ h in
    end-without_all m (kinds-are s.metamodel legal.metamodel) s.links (names_of ts) legal.links.set legal.links.kinds d
    ∙ filter_none (is_named m (names_of ts) d) (end s.links d) (all-weaker _ _ (end s.links d) named (all_from_map (IsDisplaced s e o) (link_end d) (end s.links d) linked))

-- a single near end is empty after the links that a new link displaces are cut
pub near-emptied : (s : Model) (e : End) (o : ObjectNo) → IsLegal s → (shape s.metamodel e.feature).is_reference ≡ true → (shape s.metamodel e.feature).is_single ≡ true
    → end (without_all s.links (names_of (displaced_link_ends (reading s) e o))) e ≡ []
near-emptied s e o legal reference single =
    emptied s e o e legal reference single (all_front (IsDisplaced s e o) (link_ends_if_single (reading s) e) _ (each_link_once-names (reading s) (in_the_way (reading s) e o)))

-- a single far end is empty then too
pub far-emptied : (s : Model) (e : End) (o : ObjectNo) (g : FeatureNo) → IsLegal s → (shape s.metamodel e.feature).opposite ≡ Some g → (shape s.metamodel g).is_single ≡ true
    → end (without_all s.links (names_of (displaced_link_ends (reading s) e o))) (far_end o g) ≡ []
far-emptied s e o g legal opposite single =
    let P : LinkEnd → Type 0 = IsDisplaced s e o in
    let rest = all_back P (link_ends_if_single (reading s) e) _ (each_link_once-names (reading s) (in_the_way (reading s) e o)) in
    let far = all_front P (option_map_or (link_ends_if_single (reading s)) (opposite_end (reading s) e o) []) _ rest in
    emptied s e o (far_end o g) legal (far-reference s.metamodel legal.metamodel e.feature g opposite) single
    (subst (λ (q : Option FeatureNo). AllByRecursion P (option_map_or (link_ends_if_single (reading s)) (option_map (far_end o) q) [])) opposite far)

-- the node that becomes contained has no container then
pub freed : (s : Model) (e : End) (o : ObjectNo) (x : Node) → IsLegal s → node_contained e o (shape s.metamodel e.feature).containing ≡ Some x
    → holder (without_all s.links (names_of (displaced_link_ends (reading s) e o))) x ≡ None
freed s e o x legal part =
    let P : LinkEnd → Type 0 = IsDisplaced s e o in
    let ts : List LinkEnd = displaced_link_ends (reading s) e o in
    let m = kinds_of s.metamodel in
    let rest = all_back P (link_ends_if_single (reading s) e) _ (each_link_once-names (reading s) (in_the_way (reading s) e o)) in
    let parts = all_back P (option_map_or (link_ends_if_single (reading s)) (opposite_end (reading s) e o) []) _ rest in
    let held = subst (λ (q : Option Node). AllByRecursion P (option_map_or (λ n. option_to_list (holding_link_end (reading s) n)) q [])) part parts in
    holder-without_all m (kinds-are s.metamodel legal.metamodel) s.links (names_of ts) legal.links.set legal.links.kinds x
    ∙ elim (holder s.links x) as (λ q. AllByRecursion P (option_to_list (option_map (λ (d : End). link_end d (node_value x)) q)) → kept_holder m (names_of ts) x q ≡ None) [
      | None ↦ λ _. refl
      | Some d ↦ λ h. ap (λ (b : Bool). if b then None else Some d) (is_named-same_link (reading s) ts (link_end d (node_value x)) ∙ h.0)
    ] held
