-- The edits of links that make a change other than a resolve of all proxies: they fit the links, are of the kinds of the metamodel, make no
-- cycle, and make what the change makes of the links.
use Rattle.std.proofs.Common.{◌≡◌, ℕ, ◌≤◌, nat_lt, unwrap_or, option_to_list, Bool, true, false, List, [], ◌∷◌, ◌++◌, length, map, Option, Some, None, if◌then◌else◌, refl, sym, ap, ◌∙◌, subst, arith, slice_get, ◌-◌}
use Rattle.std.proofs.lemmas.Bool.{true≢false, ltb-true}
use Rattle.std.proofs.lemmas.Bool.Decides.{nat_tests}
use Rattle.mm_types.specs.Shapes.{shape}
use Rattle.mm_types.specs.declared.end.End.{End}
use Rattle.mm_types.specs.declared.numbers.FeatureNo.{FeatureNo}
use Rattle.mm_types.specs.declared.numbers.Node.{Node}
use Rattle.mm_types.specs.declared.numbers.ObjectNo.{ObjectNo}
use Rattle.mm_types.specs.declared.numbers.ResourceNo.{ResourceNo}
use Rattle.mm_types.specs.declared.value.Value.{Value}
use Rattle.mm_types.specs.declared.value.Value.TheVariants as value
use Rattle.links.specs.declared.plan.Edit.{Edit}
use Rattle.links.specs.Laws.{cut_edits, without_all}
use Rattle.links.specs.Links.{Links, end, put, shift, far_end}
use Rattle.links.specs.Plans.{IsPlanOfKind, PlanFits, PlanMakesNoCycle, links_after_edits}
use Rattle.links.specs.declared.plan.Edit.TheVariants as edit
use Rattle.links.proofs.CutNamedLemmas.{cuts_fit, cuts_of_kind, cuts_without_cycle, links_after_edits-cut_edits}
use Rattle.links.proofs.LegalLemmas.{IsPlanOfKind-append, PlanFits-append, PlanMakesNoCycle-append, links_after_edits-append}
use Rattle.mm_values.specs.Values as values
use Rattle.models.specs.Legal.{IsLegal, kinds_of}
use Rattle.models.specs.Model.{Model, reading}
use Rattle.models.specs.Reading.{at_end, is_repeat, position_for, shape_at}
use Rattle.resource_docs.specs.declared.doc.Doc.{Doc}
use Rattle.doc_loader.specs.LoadEdits.{load_edits}
use Rattle.doc_loader.specs.Loading.{loaded_links, with_links}
use Rattle.doc_loader.proofs.KindLemmas.{read-kind}
use Rattle.containment.proofs.PartLemmas.{kinds-are}
use Rattle.handshake.specs.declared.act.Act.{Act}
use Rattle.handshake.specs.declared.change.Change.{Change}
use Rattle.handshake.specs.declared.change.Change.TheVariants.{At, ResolveAll, Load}
use Rattle.handshake.specs.declared.act.Act.TheVariants.{Set, Add, Move, Resolve}
use Rattle.removal.specs.declared.link_end.LinkEnd.{LinkEnd}
use Rattle.handshake.specs.FeatureChanges.{resolves_all}
use Rattle.handshake.specs.Displaced.{cut_by_new, cut_by_set, cut_link_ends, has_already, is_plain_add, is_plain_set}
use Rattle.handshake.specs.Edits.{cut_of, link_edits, made_edits, new_put}
use Rattle.handshake.specs.Effects.{links_after, put_by, with_value}
use Rattle.handshake.specs.Changes.{HasReadDocument, IsDocument}
use Rattle.handshake.specs.Refusals.{early_refusal, late_refusal, link_refusal}
use Rattle.handshake.proofs.ActLemmas.{act-puts}
use Rattle.handshake.proofs.KnownLemmas.{IsResolvable, add-gains, add-named, add-taken, linkable, move-placed, set-named, set-taken}
use Rattle.handshake.proofs.LoadLemmas.{load-makes}
use Rattle.handshake.proofs.LinkLemmas.{IsNewLink, many-lacks, near-empty, near-same, new-fits, new-outside, new_edit, single-lacks, without_displaced}
use Rattle.handshake.proofs.CutLinkEndLemmas.{cuts-once, cuts-there, left-cuts, plain-not, values-linked}
use Rattle.removal.specs.Laws.{names_of}
use Rattle.handshake.proofs.ResolveLemmas.{alone-fits, alone-outside, both, joint, joint-fits, joint-outside, last-index, left, shift-fits}
use Rattle.handshake.proofs.ResolvedLemmas.{resolved-as}
use Rattle.proxies.specs.declared.resolved_proxy.ResolvedProxy.{ResolvedProxy}

---------------------------------------------------------------- new links

-- a set and an addition of an object that may cut links
pub set-new : (s : Model) (n : Node) (f : FeatureNo) (o : ObjectNo) → IsLegal s → early_refusal (reading s) (At (at_end n f) (Set (value.Object o))) ≡ None → late_refusal (reading s) (At (at_end n f) (Set (value.Object o))) ≡ None
    → is_plain_set (reading s) (at_end n f) (value.Object o) ≡ false → IsNewLink s (at_end n f) o
set-new s n f o legal early late h =
    let r = reading s in
    let e = at_end n f in
    let both = plain-not (shape_at r e).is_reference (has_already r e (value.Object o)) h in
    let named = set-named r n f (value.Object o) early in
    record {
      reference = both.0;
      has = named.there;
      lacks = single-lacks s e o legal both.0 named.single both.1;
      linkable = linkable r e o (subst (λ (b : Bool). (if b then None else link_refusal r e o) ≡ None) both.1 (set-taken r n f (value.Object o) late).allowed);
    }

pub add-new : (s : Model) (n : Node) (f : FeatureNo) (o : ObjectNo) (i : Option ℕ) → early_refusal (reading s) (At (at_end n f) (Add (value.Object o) i)) ≡ None → late_refusal (reading s) (At (at_end n f) (Add (value.Object o) i)) ≡ None
    → is_plain_add (reading s) (at_end n f) (value.Object o) ≡ false → IsNewLink s (at_end n f) o
add-new s n f o i early late h =
    let r = reading s in
    let e = at_end n f in
    let both = plain-not (shape_at r e).is_reference (is_repeat r e (value.Object o)) h in
    record {
      reference = both.0;
      has = (add-named r n f (value.Object o) i early).there;
      lacks = many-lacks s e o both.0 both.1;
      linkable = linkable r e o (add-gains r e (value.Object o) i both.1 (add-taken r n f (value.Object o) i late).allowed);
    }

---------------------------------------------------------------- the edit after the cuts

-- the edits after the cuts fit, and lead from the remaining links to the links after the change
record ArePuts (s : Model) (t : Links) (xs : List Edit) (u : Links) : Type 0 where
  pub fits : PlanFits t xs
  pub of_kind : IsPlanOfKind (kinds_of s.metamodel) xs
  pub no_cycle : PlanMakesNoCycle t xs
  pub makes : links_after_edits t xs ≡ u

no-puts : (s : Model) (t : Links) → ArePuts s t [] t
no-puts s t = record { fits = tt; of_kind = tt; no_cycle = tt; makes = refl }

one-put : (s : Model) (legal : IsLegal s) (e : End) (o : ObjectNo) (new : IsNewLink s e o) (i : ℕ) (u : Links) → i ≤ length (end (without_displaced s e o) e) → links_after_edits (without_displaced s e o) (new_edit s e i o ∷ []) ≡ u
    → ArePuts s (without_displaced s e o) (new_edit s e i o ∷ []) u
one-put s legal e o new i u placed makes = record { fits = (new-fits s legal e o new i placed, tt); of_kind = ((refl, refl), tt); no_cycle = (new-outside s legal e o new i placed, tt); makes = makes }

-- the edits of a set of an end that may cut links
set-puts : (s : Model) (n : Node) (f : FeatureNo) (v : Value) → IsLegal s → early_refusal (reading s) (At (at_end n f) (Set v)) ≡ None → late_refusal (reading s) (At (at_end n f) (Set v)) ≡ None → is_plain_set (reading s) (at_end n f) v ≡ false
    → (let t = without_all s.links (names_of (cut_by_set (reading s) (at_end n f) v)) in ArePuts s t (option_to_list (new_put (reading s) (at_end n f) 0 v)) (with_value t (reading s) (at_end n f) None v))
set-puts s n f (value.Object o) legal early late h =
    let e = at_end n f in
    let a = shape s.metamodel f in
    let t = without_displaced s e o in
    let new = set-new s n f o legal early late h in
    let empty = near-empty s legal e o new (set-named (reading s) n f (value.Object o) early).single in
    one-put s legal e o new 0 _ (omega arith) (ap (λ (vs : List Value). put t e (length vs) o a.opposite a.containing) (sym empty))
set-puts s n f _ legal early late h = no-puts s _

-- the position of an addition is in the list that is left
pub add-site : (s : Model) (n : Node) (f : FeatureNo) (o : ObjectNo) (i : Option ℕ) → IsLegal s → (early : early_refusal (reading s) (At (at_end n f) (Add (value.Object o) i)) ≡ None) (late : late_refusal (reading s) (At (at_end n f) (Add (value.Object o) i)) ≡ None)
    → (h : is_plain_add (reading s) (at_end n f) (value.Object o) ≡ false) → (let xs = end (without_displaced s (at_end n f) o) (at_end n f) in let k = position_for (reading s) (at_end n f) i in (k ≤ length xs) × (k ≡ unwrap_or i (length xs)) × (xs ≡ end s.links (at_end n f)))
add-site s n f o i legal early late h =
    let r = reading s in
    let e = at_end n f in
    let new = add-new s n f o i early late h in
    let same = near-same s legal e o new (add-named r n f (value.Object o) i early).single in
    let linked = values-linked s e new.reference in
    let is : (reading s).values e ≡ end (without_displaced s e o) e = linked ∙ sym same in
    let placed = (add-taken r n f (value.Object o) i late).placed in
    let low : position_for r e i ≤ length (r.values e) = grind (arith, nat_tests) in
    (subst (λ (vs : List Value). position_for r e i ≤ length vs) is low, ap (λ (vs : List Value). unwrap_or i (length vs)) is, same)

add-puts : (s : Model) (n : Node) (f : FeatureNo) (v : Value) (i : Option ℕ) → IsLegal s → early_refusal (reading s) (At (at_end n f) (Add v i)) ≡ None → late_refusal (reading s) (At (at_end n f) (Add v i)) ≡ None → is_plain_add (reading s) (at_end n f) v ≡ false
    → (let t = without_all s.links (names_of (cut_by_new (reading s) (at_end n f) v)) in ArePuts s t (option_to_list (new_put (reading s) (at_end n f) (position_for (reading s) (at_end n f) i) v)) (with_value t (reading s) (at_end n f) i v))
add-puts s n f (value.Object o) i legal early late h =
    let r = reading s in
    let e = at_end n f in
    let a = shape s.metamodel f in
    let t = without_displaced s e o in
    let at = add-site s n f o i legal early late h in
    one-put s legal e o (add-new s n f o i early late h) (position_for r e i) _ at.0 (ap (λ (k : ℕ). put t e k o a.opposite a.containing) at.1)
add-puts s n f _ i legal early late h = no-puts s _

-- of a move of a reference
move-puts : (s : Model) (n : Node) (f : FeatureNo) (to from : ℕ) → late_refusal (reading s) (At (at_end n f) (Move to from)) ≡ None → (shape s.metamodel f).is_reference ≡ true
    → ArePuts s s.links (edit.Shift (at_end n f) to from ∷ []) (shift s.links (at_end n f) to from)
move-puts s n f to from late reference =
    let e = at_end n f in
    let placed = move-placed (reading s) n f to from late in
    let linked = values-linked s e reference in
    let low_to = subst (λ (vs : List Value). nat_lt to (length vs) ≡ true) linked placed.0 in
    let low_from = subst (λ (vs : List Value). nat_lt from (length vs) ≡ true) linked placed.1 in
    record { fits = ((ltb-true from _ low_from, ltb-true to _ low_to), tt); of_kind = (tt, tt); no_cycle = (tt, tt); makes = refl }

-- the edits of a proxy that is resolved
joint-puts : (s : Model) (legal : IsLegal s) (e : End) (i : ℕ) (x : ResolvedProxy) (is : IsResolvable (reading s) e i x) (g : FeatureNo) (opposite : (shape s.metamodel e.feature).opposite ≡ Some g) (j : ℕ) (text : List ℕ)
    (stands : slice_get ((reading s).values (far_end x.object g)) j ≡ Some (value.Proxy text))
    → (let d = far_end x.object g in let t = left s legal e i x is (both s legal e i x is g opposite j text stands) in
    ArePuts s t (new_edit s e i x.object ∷ edit.Shift d j (length ((reading s).values d) - 1) ∷ []) (joint s legal e i x is g opposite j text stands))
joint-puts s legal e i x is g opposite j text stands =
    let d = far_end x.object g in
    let t = left s legal e i x is (both s legal e i x is g opposite j text stands) in
    subst (λ (n : ℕ). ArePuts s t (new_edit s e i x.object ∷ edit.Shift d j n ∷ []) (joint s legal e i x is g opposite j text stands)) (last-index s legal e i x is g opposite j text stands)
    (record {
      fits = (joint-fits s legal e i x is g opposite j text stands, (shift-fits s legal e i x is g opposite j text stands, tt));
      of_kind = ((refl, refl), (tt, tt));
      no_cycle = (joint-outside s legal e i x is g opposite j text stands, (tt, tt));
      makes = refl;
    })

-- the edits of a document that is loaded
load-puts : (s : Model) (k : ResourceNo) (doc : Doc) → IsLegal s → late_refusal (reading s) (Load k doc) ≡ None → IsDocument s.metamodel doc
    → ArePuts s s.links (load_edits s.metamodel (length s.values.objects) k doc) (with_links s.links (loaded_links s.metamodel (length s.values.objects) k doc))
load-puts s k doc legal late read =
    let made = load-makes s k doc legal late read in
    record { fits = made.fits; of_kind = read-kind s.metamodel read.uri doc (length s.values.objects) k read.read; no_cycle = made.no_cycle; makes = made.makes }

are-puts : (s : Model) (c : Change) → resolves_all c ≡ false → IsLegal s → early_refusal (reading s) c ≡ None → late_refusal (reading s) c ≡ None → HasReadDocument s.metamodel c
    → ArePuts s (without_all s.links (names_of (cut_link_ends (reading s) c))) (made_edits (reading s) c) (put_by (without_all s.links (names_of (cut_link_ends (reading s) c))) (reading s) c)
are-puts s (At e a) one legal early late read =
    let r = reading s in
    let t : List LinkEnd → Links = λ ts. without_all s.links (names_of ts) in
    let asked : (b : Act) → a ≡ b → early_refusal r (At e b) ≡ None = λ b is. subst (λ (x : Act). early_refusal r (At e x) ≡ None) is early in
    let allowed : (b : Act) → a ≡ b → late_refusal r (At e b) ≡ None = λ b is. subst (λ (x : Act). late_refusal r (At e x) ≡ None) is late in
    act-puts (λ ts xs made. ArePuts s (t ts) xs (made (t ts))) r e (λ ts. no-puts s (t ts)) a
    (λ v is new. set-puts s e.node e.feature v legal (asked (Set v) is) (allowed (Set v) is) new)
    (λ v i is new. add-puts s e.node e.feature v i legal (asked (Add v i) is) (allowed (Add v i) is) new)
    (λ to from is reference. move-puts s e.node e.feature to from (allowed (Move to from) is) reference)
    (λ i is.
    resolved-as s legal e i (allowed (Resolve i) is) (λ ts xs us u. ArePuts s (t ts) xs u)
    (λ x is alone. record { fits = (alone-fits s legal _ i x is alone, tt); of_kind = ((refl, refl), tt); no_cycle = (alone-outside s legal _ i x is alone, tt); makes = refl })
    (λ x is g opposite j text stands. joint-puts s legal _ i x is g opposite j text stands))
are-puts s ResolveAll one legal early late read = absurd (true≢false one)
are-puts s (Load k doc) one legal early late read = load-puts s k doc legal late read
are-puts s _ one legal early late read = no-puts s _

---------------------------------------------------------------- the whole plan

cut_edits-pairs : (ts : List LinkEnd) → map cut_of ts ≡ cut_edits (names_of ts)
cut_edits-pairs [] = refl
cut_edits-pairs (t ∷ ts) = ap (λ (xs : List Edit). cut_of t ∷ xs) (cut_edits-pairs ts)

-- how the edits of a change act on the links of its model
pub record IsPlanFor (s : Model) (c : Change) (xs : List Edit) : Type 0 where
  pub fits : PlanFits s.links xs
  pub of_kind : IsPlanOfKind (kinds_of s.metamodel) xs
  pub no_cycle : PlanMakesNoCycle s.links xs
  pub makes : links_after_edits s.links xs ≡ links_after s.links (reading s) c

module _ (s : Model) (c : Change) (one : resolves_all c ≡ false) (legal : IsLegal s) (early : early_refusal (reading s) c ≡ None) (late : late_refusal (reading s) c ≡ None) (read : HasReadDocument s.metamodel c) where
  ts : List (End × Value)
  ts = names_of (cut_link_ends (reading s) c)

  pub plan-for : IsPlanFor s c (link_edits (reading s) c)
  unfolding ts
  plan-for =
      let m = kinds_of s.metamodel in
      let ok = kinds-are s.metamodel legal.metamodel in
      let there = cuts-there s c legal early late in
      let once = cuts-once s c legal early late in
      let xs = made_edits (reading s) c in
      let cut : links_after_edits s.links (cut_edits ts) ≡ without_all s.links ts = links_after_edits-cut_edits m ok s.links ts legal.links.set legal.links.kinds there once in
      let last = are-puts s c one legal early late read in
      let whole : IsPlanFor s c (cut_edits ts ++ xs) = record {
        fits = PlanFits-append s.links (cut_edits ts) xs (cuts_fit m ok s.links ts legal.links.set legal.links.kinds there once) (subst (λ (t : Links). PlanFits t xs) (sym cut) last.fits);
        of_kind = IsPlanOfKind-append m (cut_edits ts) xs (cuts_of_kind m ts) last.of_kind;
        no_cycle = PlanMakesNoCycle-append s.links (cut_edits ts) xs (cuts_without_cycle s.links ts) (subst (λ (t : Links). PlanMakesNoCycle t xs) (sym cut) last.no_cycle);
        makes =
            links_after_edits-append s.links (cut_edits ts) xs ∙ ap (λ (t : Links). links_after_edits t xs) cut ∙ last.makes
            ∙ ap (λ (t : Links). put_by t (reading s) c) (sym (left-cuts s c legal early));
      } in
      subst (λ (ys : List Edit). IsPlanFor s c (ys ++ xs)) (sym (cut_edits-pairs (cut_link_ends (reading s) c))) whole
