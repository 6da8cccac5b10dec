-- The chain of a load: the list of the resource's roots gains each root, one after the other, and no other end of existing nodes changes.
use Rattle.std.proofs.Common.{◌≡◌, ◌∙◌, ◌+◌, ◌++◌, ℕ, Bool, true, false, List, [], ◌∷◌, Some, None, append_assoc, append-nil, length, map, nat_le, nat_lt, not, pos, if◌then◌else◌, arith, refl, sym, ap, subst, ◌<◌}
use Rattle.std.specs.List.{AllByRecursion, enumerate_from}
use Rattle.std.proofs.lemmas.Bool.{true≢false}
use Rattle.std.proofs.lemmas.Bool.Decides.{nat_tests}
use Rattle.std.proofs.lemmas.List.{length-append}
use Rattle.mm_types.specs.Ends.{Ends, Held, is_set, shown_values, value_in}
use Rattle.mm_types.specs.Resolved.{Metamodel}
use Rattle.mm_types.specs.Same.{is_nil, same_end, same_value}
use Rattle.mm_types.specs.Shapes.{Shape, shape}
use Rattle.mm_types.specs.declared.end.End.{End}
use Rattle.mm_types.specs.declared.numbers.FeatureNo.{FeatureNo}
use Rattle.mm_types.specs.declared.numbers.Node.{Node}
use Rattle.mm_types.specs.declared.numbers.Node.TheVariants as node
use Rattle.mm_types.specs.declared.numbers.ObjectNo.{ObjectNo}
use Rattle.mm_types.specs.declared.numbers.ResourceNo.{ResourceNo}
use Rattle.mm_types.specs.declared.value.Value.{Value}
use Rattle.mm_types.specs.declared.value.Value.TheVariants as value
use Rattle.mm_types.proofs.SameLemmas.{same_end-self, same_end-true}
use Rattle.models.specs.Legal.{IsLegal}
use Rattle.models.specs.Model.{Model, attribute_values, reading}
use Rattle.models.specs.Reading.{at_end, contents_end, held_at}
use Rattle.notice_chain.specs.Kinds.{no_index}
use Rattle.notice_chain.specs.Replay.{ends_after_notice}
use Rattle.notice_chain.specs.declared.kind.NoticeKind.TheVariants as kind
use Rattle.resource_docs.specs.declared.doc.Doc.{Doc}
use Rattle.doc_loader.specs.Loading.{loaded_number, roots_loaded}
use Rattle.doc_loader.proofs.SideLemmas.{contents-shape}
use Rattle.doc_loader.proofs.TypedLemmas.{read-typed}
use Rattle.handshake.specs.Effects.{model_after}
use Rattle.handshake.specs.Laws.{comes_with}
use Rattle.handshake.specs.Changes.{IsDocument}
use Rattle.handshake.specs.Refusals.{late_refusal}
use Rattle.handshake.specs.Reports.{root_notice}
use Rattle.handshake.specs.FeatureChange.{ends_after_change, has_flag, notice, notice_of, feature_change, change_notices}
use Rattle.handshake.specs.FeatureChanges.{chain, changes_of_load as tells_loaded}
use Rattle.handshake.specs.declared.change.Change.TheVariants.{Load}
use Rattle.handshake.specs.declared.change_kind.ChangeKind.TheVariants.{Gains}
use Rattle.handshake.specs.declared.change_kind.FeatureChange.{FeatureChange}
use Rattle.handshake.proofs.AttributeLemmas.{held_at-object, held_of, stored_for}
use Rattle.handshake.proofs.HappenedLemmas.{at-own, done, done-here, happened_at}
use Rattle.handshake.proofs.LoadEndLemmas.{linked-before, linked-roots}
use Rattle.handshake.proofs.LoadLemmas.{no-roots}
use Rattle.handshake.proofs.LoadValueLemmas.{AreLoaded, load-values}
use Rattle.handshake.proofs.RelinkLemmas.{list-held}
use Rattle.handshake.proofs.ReplayLemmas.{ends_after_notice-gain}

-- a list gains several values
abbrev gains : End → List Value → List FeatureChange
gains e vs = map (λ v. feature_change e (Gains v)) vs

gains-own : (e : End) (vs : List Value) → AllByRecursion (λ (t : FeatureChange). t.at ≡ e) (gains e vs)
gains-own e [] = tt
gains-own e (v ∷ vs) = (refl, gains-own e vs)

gained : (m : Metamodel) (e : End) (many : (shape m e.feature).is_single ≡ false) (vs : List Value) (h : Held) → happened_at m (gains e vs) e h ≡ record { values = h.values ++ vs; flag = h.flag }
gained m e many [] h = ap (λ (vs : List Value). record { values = vs; flag = h.flag }) (sym (append-nil h.values))
gained m e many (v ∷ vs) h =
    let one : done (shape m e.feature) (Gains v) h ≡ record { values = h.values ++ v ∷ []; flag = h.flag } =
    λ i. record { values = if many i then v ∷ [] else h.values ++ v ∷ []; flag = if many i then (shape m e.feature).is_unsettable else h.flag } in
    ap (happened_at m (gains e vs) e) (done-here m e (feature_change e (Gains v)) h (same_end-self e) ∙ one)
    ∙ gained m e many vs (record { values = h.values ++ v ∷ []; flag = h.flag })
    ∙ ap (λ (ws : List Value). record { values = ws; flag = h.flag }) (append_assoc h.values (v ∷ []) vs)

---------------------------------------------------------------- the notifications

some-length : (vs : List Value) → not (is_nil vs) ≡ nat_lt 0 (length vs)
some-length [] = refl
some-length (v ∷ vs) = grind (arith, nat_tests)

-- the notification of a gain after a number of values
gain-notice : (m : Metamodel) (e : End) (many : (shape m e.feature).is_single ≡ false) (n : ℕ) (h : Held) (j : ℕ) (o : ObjectNo) → length h.values ≡ j
    → notice_of (shape m e.feature) e (Gains (value.Object (loaded_number n o))) h ≡ root_notice n e (j, o)
gain-notice m e many n h j o len =
    let a = shape m e.feature in
    let v = value.Object (loaded_number n o) in
    let set : is_set a h ≡ nat_lt 0 j = ap (λ (b : Bool). if b then (if a.is_unsettable then h.flag else not (same_value (value_in h.values 0) a.default)) else not (is_nil h.values)) many ∙ some-length h.values ∙ ap (nat_lt 0) len in
    ap (λ (b : Bool). if b then notice a e h kind.Set (value_in h.values 0) v no_index else notice a e h kind.Add value.Null v (pos (length h.values))) many
    ∙ (λ i. record { notifier = e.node; feature = Some e.feature; kind = kind.Add; old_value = value.Null; new_value = v; position = pos (len i); was_set = set i })

change_notices-gains : (m : Metamodel) (e : End) (many : (shape m e.feature).is_single ≡ false) (n : ℕ) (ends : Ends) (j : ℕ) (os : List ObjectNo) → length (ends e).values ≡ j
    → change_notices m ends (gains e (map (λ o. value.Object (loaded_number n o)) os)) ≡ map (root_notice n e) (enumerate_from j os)
change_notices-gains m e many n ends j [] len = refl
change_notices-gains m e many n ends j (o ∷ os) len =
    let a = shape m e.feature in
    let v = value.Object (loaded_number n o) in
    let h = ends e in
    let longer : length (ends_after_change m ends (feature_change e (Gains v)) e).values ≡ j + 1 =
    ap (λ (b : Bool). length (if b then done a (Gains v) h else h).values) (same_end-self e)
    ∙ ap (λ (b : Bool). length (if b then v ∷ [] else h.values ++ v ∷ [])) many
    ∙ length-append h.values (v ∷ []) ∙ ap (λ (x : ℕ). x + 1) len in
    let rest : change_notices m (ends_after_notice (has_flag m) ends (notice_of a e (Gains v) h)) (gains e (map (λ o. value.Object (loaded_number n o)) os)) ≡ map (root_notice n e) (enumerate_from (j + 1) os) =
    ap (λ (x : Ends). change_notices m x (gains e (map (λ o. value.Object (loaded_number n o)) os))) (ends_after_notice-gain m ends e v)
    ∙ change_notices-gains m e many n (ends_after_change m ends (feature_change e (Gains v))) (j + 1) os longer in
    λ i. gain-notice m e many n h j o len i ∷ rest i

---------------------------------------------------------------- the list of roots

module _ (s : Model) (k : ResourceNo) (doc : Doc) (legal : IsLegal s) (late : late_refusal (reading s) (Load k doc) ≡ None) where
  abbrev roots : End
  roots = contents_end s.metamodel k

  reference : (shape s.metamodel roots.feature).is_reference ≡ true
  reference = ap (λ (a : Shape). a.is_reference) (contents-shape s.metamodel)

  pub roots-many : (shape s.metamodel roots.feature).is_single ≡ false
  roots-many = ap (λ (a : Shape). a.is_single) (contents-shape s.metamodel)

  roots-before : held_at (reading s) roots ≡ record { values = []; flag = false }
  roots-before = list-held s s.links roots reference roots-many ∙ ap (λ (vs : List Value). record { values = vs; flag = false }) (no-roots s k doc legal late)

  pub load-chain : chain (reading s) (Load k doc) ≡ map (root_notice (length s.values.objects) roots) (enumerate_from 0 doc.roots)
  load-chain = change_notices-gains s.metamodel roots roots-many (length s.values.objects) (held_at (reading s)) 0 doc.roots (ap (λ (h : Held). length h.values) roots-before)

---------------------------------------------------------------- the chain replays

module _ (s : Model) (k : ResourceNo) (doc : Doc) (legal : IsLegal s) (late : late_refusal (reading s) (Load k doc) ≡ None) (read : IsDocument s.metamodel doc) where
  abbrev m : Metamodel
  m = s.metamodel

  abbrev n : ℕ
  n = length s.values.objects

  abbrev e : End
  e = contents_end m k

  abbrev t : Model
  t = model_after s (Load k doc)

  made : AreLoaded s.metamodel (length s.values.objects) doc s.values (model_after s (Load k doc)).values
  made = load-values m s.values doc (read-typed m read.uri doc legal.metamodel read.read) legal.objects

  roots-after : held_at (reading t) e ≡ record { values = roots_loaded n doc; flag = false }
  roots-after = list-held t t.links e (reference s k doc legal late) (roots-many s k doc legal late) ∙ ap (λ (vs : List Value). record { values = vs; flag = false }) (linked-roots s k doc legal late read)

  roots-replay : happened_at m (gains e (roots_loaded n doc)) e (held_at (reading s) e) ≡ held_at (reading t) e
  roots-replay = ap (happened_at m (gains e (roots_loaded n doc)) e) (roots-before s k doc legal late) ∙ gained m e (roots-many s k doc legal late) (roots_loaded n doc) (record { values = []; flag = false }) ∙ sym roots-after

  -- an end of an existing node has the same values as before
  others-stay : (x : Node) (f : FeatureNo) → comes_with (reading s) (Load k doc) x ≡ false → same_end e (at_end x f) ≡ false → held_at (reading s) (at_end x f) ≡ held_at (reading t) (at_end x f)
  others-stay (node.Object o) f old other =
      let high : nat_le n o.0 ≡ false = old in
      let low : o.0 < n = grind (arith, nat_tests) in
      let same = linked-before s k doc legal late read (at_end (node.Object o) f) old (λ q. true≢false (sym (same_end-self e) ∙ ap (same_end e) q ∙ other)) in
      held_at-object s o f
      ∙ (λ i. held_of (shape m f) (sym same i) (stored_for f (sym (made.below o low) i)))
      ∙ sym (held_at-object t o f)
  others-stay (node.Resource j) f old other =
      let a = shape m f in
      let same = linked-before s k doc legal late read (at_end (node.Resource j) f) old (λ q. true≢false (sym (same_end-self e) ∙ ap (same_end e) q ∙ other)) in
      λ i. record { values = shown_values a.is_single (if a.is_reference then sym same i else attribute_values a []); flag = false }

  pub load-replays : (d : End) → comes_with (reading s) (Load k doc) d.node ≡ false → happened_at m (tells_loaded (reading s) k doc) d (held_at (reading s) d) ≡ held_at (reading t) d
  load-replays d old =
      elim (same_end e d) as (λ b. same_end e d ≡ b → happened_at m (gains e (roots_loaded n doc)) d (held_at (reading s) d) ≡ held_at (reading t) d) [
        | true ↦ λ same. subst (λ (y : End). happened_at m (gains e (roots_loaded n doc)) y (held_at (reading s) y) ≡ held_at (reading t) y) (same_end-true e d same) roots-replay
        | false ↦ λ other. at-own m e d (gains e (roots_loaded n doc)) (held_at (reading s) d) (gains-own e (roots_loaded n doc)) other ∙ others-stay d.node d.feature old other
      ] refl
