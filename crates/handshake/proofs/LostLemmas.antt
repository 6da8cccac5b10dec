-- The notifications if objects are destroyed: the losses of each end in order, each with its position at that moment.
use Rattle.std.proofs.Common.{◌≡◌, ℕ, ◌+◌, suc, pos, nat_lt, remove, length, slice_get, Bool, true, false, ◌||◌, not, List, [], ◌∷◌, ◌++◌, filter, flat_map, map, Option, Some, None, option_to_list, if◌then◌else◌, refl, sym, ap, ◌∙◌, subst, arith}
use Rattle.std.specs.List.{AllByRecursion}
use Rattle.std.proofs.lemmas.Bool.{false≢true}
use Rattle.std.proofs.lemmas.Bool.Decides.{nat_tests}
use Rattle.std.proofs.lemmas.List.{append_assoc, length-append, map-append}
use Rattle.mm_types.proofs.SameLemmas.{same_end-self, same_end-true}
use Rattle.mm_types.specs.Ends.{Ends, Held, index_in, is_set, shown_values}
use Rattle.mm_types.specs.Resolved.{Metamodel}
use Rattle.mm_types.specs.Same.{is_nil, same_end}
use Rattle.mm_types.specs.Shapes.{Shape, shape}
use Rattle.mm_types.specs.declared.end.End.{End}
use Rattle.mm_types.specs.declared.numbers.ObjectNo.{ObjectNo}
use Rattle.mm_types.specs.declared.value.Value.{Value}
use Rattle.mm_types.specs.declared.value.Value.TheVariants as value
use Rattle.links.specs.LegalSets.{IsDistinct}
use Rattle.links.specs.Plans.{AreInOrder, has_end}
use Rattle.links.proofs.ListLemmas.{distinct_remove}
use Rattle.models.proofs.EndLemmas.{values-single}
use Rattle.models.proofs.PlaceLemmas.{has-at, index-at}
use Rattle.models.specs.Legal.{IsLegal}
use Rattle.models.specs.Model.{Model, reading}
use Rattle.models.specs.Reading.{Reading, held_at}
use Rattle.notice_chain.specs.Kinds.{no_index}
use Rattle.notice_chain.specs.Replay.{ends_after_notice, list_after_remove}
use Rattle.notice_chain.specs.declared.kind.NoticeKind.TheVariants as kind
use Rattle.notice_chain.specs.declared.notice.Notice.{Notice}
use Rattle.links.proofs.OrderLemmas.{order-apart}
use Rattle.removal.specs.Losses.{is_lost, loss, losses_at, losses_from, values_kept}
use Rattle.removal.specs.declared.loss.Loss.{Loss}
use Rattle.handshake.specs.Reports.{lost_notice}
use Rattle.handshake.specs.FeatureChange.{has_flag, ends_after_changes, notice, notice_of, feature_change, change_notices, list_without_value}
use Rattle.handshake.specs.FeatureChanges.{lost_with}
use Rattle.handshake.specs.declared.change_kind.ChangeKind.TheVariants.{Loses}
use Rattle.handshake.specs.declared.change_kind.FeatureChange.{FeatureChange}
use Rattle.handshake.proofs.ApartLemmas.{change_notices-append}
use Rattle.handshake.proofs.CutEndLemmas.{reference-flag, reference-plain}
use Rattle.handshake.proofs.CutLinkEndLemmas.{same_end-symmetric, values-linked}
use Rattle.handshake.proofs.HappenedLemmas.{at-own, done, done-here, ends_after_changes-at, happened_at, happened_at-append}
use Rattle.handshake.proofs.ReplayLemmas.{ends_after_notices-change_notices, list_after_remove-index}
use Rattle.handshake.proofs.ResolveLemmas.{length-pushed}

---------------------------------------------------------------- a value between others

get-middle : (ks : List Value) (v : Value) (vs : List Value) → slice_get (ks ++ v ∷ vs) (length ks) ≡ Some v
get-middle [] v vs = refl
get-middle (k ∷ ks) v vs = get-middle ks v vs

remove-middle : (ks : List Value) (v : Value) (vs : List Value) → remove (ks ++ v ∷ vs) (length ks) ≡ ks ++ vs
remove-middle [] v vs = refl
remove-middle (k ∷ ks) v vs = ap (λ (ws : List Value). k ∷ ws) (remove-middle ks v vs)

index-middle : (ks : List Value) (v : Value) (vs : List Value) → IsDistinct (ks ++ v ∷ vs) → index_in (ks ++ v ∷ vs) v ≡ length ks
index-middle ks v vs distinct =
    let at = get-middle ks v vs in
    distinct (index_in (ks ++ v ∷ vs) v) (length ks) v (index-at (ks ++ v ∷ vs) v (has-at (ks ++ v ∷ vs) v (length ks) at)) at

list_without_value-middle : (ks : List Value) (v : Value) (vs : List Value) → IsDistinct (ks ++ v ∷ vs) → list_without_value (ks ++ v ∷ vs) v ≡ ks ++ vs
list_without_value-middle ks v vs distinct =
    let long : length (ks ++ v ∷ vs) ≡ length ks + suc (length vs) = length-append ks (v ∷ vs) in
    let below : nat_lt (length ks) (length (ks ++ v ∷ vs)) ≡ true = rw long (grind (arith, nat_tests)) in
    sym (list_after_remove-index (ks ++ v ∷ vs) v) ∙ ap (λ (k : ℕ). list_after_remove (ks ++ v ∷ vs) (pos k)) (index-middle ks v vs distinct)
    ∙ ap (λ (b : Bool). if b then remove (ks ++ v ∷ vs) (length ks) else ks ++ v ∷ vs) below ∙ remove-middle ks v vs

distinct-middle : (ks : List Value) (v : Value) (vs : List Value) → IsDistinct (ks ++ v ∷ vs) → IsDistinct (ks ++ vs)
distinct-middle ks v vs distinct = subst IsDistinct (remove-middle ks v vs) (distinct_remove (ks ++ v ∷ vs) (length ks) distinct)

push-middle : (ks : List Value) (v : Value) (vs : List Value) → ks ++ v ∷ vs ≡ (ks ++ v ∷ []) ++ vs
push-middle ks v vs = sym (append_assoc ks (v ∷ []) vs)

---------------------------------------------------------------- one feature change

abbrev pub loses : End → Value → FeatureChange
loses d v = feature_change d (Loses v)

-- the values of an end after a loss is replayed
next-at : (m : Metamodel) (e : Ends) (d : End) (v : Value) (h : Held) → e d ≡ h → ends_after_notice (has_flag m) e (notice_of (shape m d.feature) d (Loses v) (e d)) d ≡ done (shape m d.feature) (Loses v) h
next-at m e d v h is =
    ap (λ (f : Ends). f d) (ends_after_notices-change_notices m e (loses d v ∷ [])) ∙ ends_after_changes-at m e (loses d v ∷ []) d ∙ done-here m d (loses d v) (e d) (same_end-self d)
    ∙ ap (done (shape m d.feature) (Loses v)) is

---------------------------------------------------------------- one end

-- the notification of a loss from a list that is not empty
abbrev removal : Loss → Notice
removal l = record { notifier = l.end.node; feature = Some l.end.feature; kind = kind.Remove; old_value = l.value; new_value = value.Null; position = pos l.position; was_set = true }

-- a list loses several of its values
module _ (m : Metamodel) (d : End) (many : (shape m d.feature).is_single ≡ false) (lost : Value → Bool) (b : Bool) where
  abbrev sh : Shape
  sh = shape m d.feature

  many-loss : (ks : List Value) (v : Value) (vs : List Value) → IsDistinct (ks ++ v ∷ vs) → done sh (Loses v) (record { values = ks ++ v ∷ vs; flag = b }) ≡ record { values = ks ++ vs; flag = b }
  many-loss ks v vs distinct = rw many (λ i. record { values = list_without_value-middle ks v vs distinct i; flag = b })

  many-notice : (ks : List Value) (v : Value) (vs : List Value) (h : Held) → IsDistinct (ks ++ v ∷ vs) → h ≡ record { values = ks ++ v ∷ vs; flag = b } → notice_of sh d (Loses v) h ≡ removal (loss d v (length ks))
  many-notice ks v vs h distinct is =
      let ws = ks ++ v ∷ vs in
      let set : is_set sh (record { values = ws; flag = b }) ≡ true = rw many (has-some ks) in
      ap (notice_of sh d (Loses v)) is
      ∙ ap (λ (x : Bool). if x then notice sh d (record { values = ws; flag = b }) kind.Set v value.Null no_index else notice sh d (record { values = ws; flag = b }) kind.Remove v value.Null (pos (index_in ws v))) many
      ∙ (λ i. record { notifier = d.node; feature = Some d.feature; kind = kind.Remove; old_value = v; new_value = value.Null; position = pos (index-middle ks v vs distinct i); was_set = set i })
    where
      has-some : (ks : List Value) → not (is_nil (ks ++ v ∷ vs)) ≡ true
      has-some [] = refl
      has-some (k ∷ ks) = refl

  many-notices : (told_as : Loss → Notice) → ((v : Value) (k : ℕ) → removal (loss d v k) ≡ told_as (loss d v k)) → (e : Ends) (ks vs : List Value) → IsDistinct (ks ++ vs) → e d ≡ record { values = ks ++ vs; flag = b }
      → change_notices m e (map (loses d) (filter lost vs)) ≡ map told_as (losses_from lost d vs (length ks))
  many-notices told_as each e ks [] distinct is = refl
  many-notices told_as each e ks (v ∷ vs) distinct is =
      let next : Ends = ends_after_notice (has_flag m) e (notice_of sh d (Loses v) (e d)) in
      elim (lost v) as (λ x. change_notices m e (map (loses d) (if x then v ∷ filter lost vs else filter lost vs)) ≡ map told_as (if x then loss d v (length ks) ∷ losses_from lost d vs (length ks) else losses_from lost d vs (suc (length ks)))) [
        | true ↦
            ap (λ (n : Notice). n ∷ change_notices m next (map (loses d) (filter lost vs))) (many-notice ks v vs (e d) distinct is ∙ each v (length ks))
            ∙ ap (λ (ns : List Notice). told_as (loss d v (length ks)) ∷ ns) (many-notices told_as each next ks vs (distinct-middle ks v vs distinct) (next-at m e d v _ is ∙ many-loss ks v vs distinct))
        | false ↦
            many-notices told_as each e (ks ++ v ∷ []) vs (subst IsDistinct (push-middle ks v vs) distinct) (is ∙ (λ i. record { values = push-middle ks v vs i; flag = b }))
            ∙ ap (λ (k : ℕ). map told_as (losses_from lost d vs k)) (length-pushed ks v)
      ]

  many-held : (ks vs : List Value) → IsDistinct (ks ++ vs) → happened_at m (map (loses d) (filter lost vs)) d (record { values = ks ++ vs; flag = b }) ≡ record { values = ks ++ filter (λ v. not (lost v)) vs; flag = b }
  many-held ks [] distinct = refl
  many-held ks (v ∷ vs) distinct =
      elim (lost v) as (λ x. happened_at m (map (loses d) (if x then v ∷ filter lost vs else filter lost vs)) d (record { values = ks ++ v ∷ vs; flag = b }) ≡ record { values = ks ++ (if not x then v ∷ filter (λ v. not (lost v)) vs else filter (λ v. not (lost v)) vs); flag = b }) [
        | true ↦
            ap (happened_at m (map (loses d) (filter lost vs)) d) (done-here m d (loses d v) (record { values = ks ++ v ∷ vs; flag = b }) (same_end-self d) ∙ many-loss ks v vs distinct)
            ∙ many-held ks vs (distinct-middle ks v vs distinct)
        | false ↦
            ap (λ (ws : List Value). happened_at m (map (loses d) (filter lost vs)) d (record { values = ws; flag = b })) (push-middle ks v vs)
            ∙ many-held (ks ++ v ∷ []) vs (subst IsDistinct (push-middle ks v vs) distinct)
            ∙ sym (λ i. record { values = push-middle ks v (filter (λ v. not (lost v)) vs) i; flag = b })
      ]

-- the end of a reference of a legal model
module _ (s : Model) (legal : IsLegal s) (o : ObjectNo) (d : End) (reference : (shape s.metamodel d.feature).is_reference ≡ true) where
  abbrev r : Reading
  r = reading s

  abbrev a : Shape
  a = shape s.metamodel d.feature

  values-apart : IsDistinct (r.values d)
  values-apart = subst IsDistinct (sym (values-linked s d reference)) (legal.links.set.placed.distinct d)

  listed : a.is_single ≡ false → held_at r d ≡ record { values = r.values d; flag = r.flag d }
  listed many = ap (λ (b : Bool). record { values = shown_values b (r.values d); flag = r.flag d }) many

  -- the notification of a loss from a list that is not empty is the same, computed before the earlier losses
  removal-read : a.is_single ≡ false → (v : Value) (vs : List Value) → r.values d ≡ v ∷ vs → (l : Loss) → l.end ≡ d → removal l ≡ lost_notice r l
  removal-read many v vs has l at =
      subst (λ (x : End). removal (record l { end = x }) ≡ lost_notice r (record l { end = x })) (sym at) here
    where
      set : is_set a (held_at r d) ≡ true
      set = ap (λ (ws : List Value). is_set a (record { values = shown_values a.is_single ws; flag = r.flag d })) has ∙ rw many refl

      here : removal (record l { end = d }) ≡ lost_notice r (record l { end = d })
      here =
          sym (λ i. record { notifier = d.node; feature = Some d.feature; kind = kind.Remove; old_value = l.value; new_value = value.Null; position = pos l.position; was_set = set i })
          ∙ ap (λ (b : Bool). if b then notice a d (held_at r d) kind.Set l.value value.Null no_index else notice a d (held_at r d) kind.Remove l.value value.Null (pos l.position)) (sym many)

  list-notices : a.is_single ≡ false → (vs : List Value) → r.values d ≡ vs → (e : Ends) → e d ≡ held_at r d → change_notices s.metamodel e (map (loses d) (filter (is_lost r o d) vs)) ≡ map (lost_notice r) (losses_from (is_lost r o d) d vs 0)
  list-notices many [] has e is = refl
  list-notices many (v ∷ vs) has e is =
      many-notices s.metamodel d many (is_lost r o d) (r.flag d) (lost_notice r) (λ w k. removal-read many v vs has (loss d w k) refl) e [] (v ∷ vs) (subst IsDistinct has values-apart)
      (is ∙ listed many ∙ ap (λ (ws : List Value). record { values = ws; flag = r.flag d }) has)

  -- a single end has at most one value
  single-notices : a.is_single ≡ true → (q : Option Value) → (e : Ends) → e d ≡ held_at r d
      → (let vs = option_to_list q in change_notices s.metamodel e (map (loses d) (filter (is_lost r o d) vs)) ≡ map (lost_notice r) (losses_from (is_lost r o d) d vs 0))
  single-notices single None e is = refl
  single-notices single (Some v) e is =
      let m = s.metamodel in
      elim (is_lost r o d v) as (λ b. change_notices m e (map (loses d) (if b then v ∷ [] else [])) ≡ map (lost_notice r) (if b then loss d v 0 ∷ [] else [])) [
        | true ↦ ap (λ (n : Notice). n ∷ []) (single-notice v)
        | false ↦ refl
      ]
    where
      single-notice : (v : Value) → notice_of a d (Loses v) (e d) ≡ lost_notice r (loss d v 0)
      single-notice v =
          ap (notice_of a d (Loses v)) is
          ∙ ap (λ (b : Bool). if b then notice a d (held_at r d) kind.Set v value.Null no_index else notice a d (held_at r d) kind.Remove v value.Null (pos (index_in (held_at r d).values v))) single
          ∙ ap (λ (b : Bool). if b then notice a d (held_at r d) kind.Set v value.Null no_index else notice a d (held_at r d) kind.Remove v value.Null (pos 0)) (sym single)

  -- the notifications of the losses of the end
  pub end-notices : (e : Ends) → e d ≡ held_at r d → change_notices s.metamodel e (lost_with r o d) ≡ map (lost_notice r) (losses_at r o d)
  end-notices e is =
      let lost = is_lost r o d in
      elim a.is_single as (λ b. a.is_single ≡ b → change_notices s.metamodel e (lost_with r o d) ≡ map (lost_notice r) (losses_at r o d)) [
        | true ↦ λ single.
            subst (λ (vs : List Value). change_notices s.metamodel e (map (loses d) (filter lost vs)) ≡ map (lost_notice r) (losses_from lost d vs 0)) (sym (values-single s d legal reference single))
            (single-notices single (slice_get (r.values d) 0) e is)
        | false ↦ λ many. list-notices many (r.values d) refl e is
      ] refl

  single-held : a.is_single ≡ true → (q : Option Value)
      → (let vs = option_to_list q in happened_at s.metamodel (map (loses d) (filter (is_lost r o d) vs)) d (record { values = shown_values true vs; flag = r.flag d }) ≡ record { values = shown_values true (filter (λ v. not (is_lost r o d v)) vs); flag = r.flag d })
  single-held single None = refl
  single-held single (Some v) =
      let h : Held = record { values = v ∷ []; flag = r.flag d } in
      let off = (reference-plain s.metamodel d.feature reference).0 ∙ sym (reference-flag s d.node d.feature legal reference) in
      elim (is_lost r o d v) as (λ b. happened_at s.metamodel (map (loses d) (if b then v ∷ [] else [])) d h ≡ record { values = shown_values true (if not b then v ∷ [] else []); flag = r.flag d }) [
        | true ↦ done-here s.metamodel d (loses d v) h (same_end-self d) ∙ rw single (λ i. record { values = value.Null ∷ []; flag = off i })
        | false ↦ refl
      ]

  -- the values of the end after its losses
  pub end-held : happened_at s.metamodel (lost_with r o d) d (held_at r d) ≡ record { values = shown_values a.is_single (values_kept r o d); flag = r.flag d }
  end-held =
      let lost = is_lost r o d in
      elim a.is_single as (λ b. a.is_single ≡ b → happened_at s.metamodel (lost_with r o d) d (record { values = shown_values b (r.values d); flag = r.flag d }) ≡ record { values = shown_values b (values_kept r o d); flag = r.flag d }) [
        | true ↦ λ single.
            subst (λ (vs : List Value). happened_at s.metamodel (map (loses d) (filter lost vs)) d (record { values = shown_values true vs; flag = r.flag d }) ≡ record { values = shown_values true (filter (λ v. not (lost v)) vs); flag = r.flag d }) (sym (values-single s d legal reference single))
            (single-held single (slice_get (r.values d) 0))
        | false ↦ λ many. many-held s.metamodel d many lost (r.flag d) [] (r.values d) values-apart
      ] refl

---------------------------------------------------------------- all ends

own-losses : (d : End) (vs : List Value) → AllByRecursion (λ (t : FeatureChange). t.at ≡ d) (map (loses d) vs)
own-losses d [] = tt
own-losses d (v ∷ vs) = (refl, own-losses d vs)

module _ (s : Model) (legal : IsLegal s) (o : ObjectNo) where
  abbrev rd : Reading
  rd = reading s

  abbrev lost_ends : List End → List FeatureChange
  lost_ends ds = flat_map (lost_with rd o) ds

  pub ends-notices : (ds : List End) (e : Ends) → AreInOrder ds → AllByRecursion (λ (d : End). (shape s.metamodel d.feature).is_reference ≡ true) ds → AllByRecursion (λ (d : End). e d ≡ held_at rd d) ds
      → change_notices s.metamodel e (lost_ends ds) ≡ map (lost_notice rd) (flat_map (losses_at rd o) ds)
  ends-notices [] e order references are = refl
  ends-notices (d ∷ ds) e order references are =
      let m = s.metamodel in
      let next : Ends = ends_after_changes m e (lost_with rd o d) in
      change_notices-append m e (lost_with rd o d) (lost_ends ds)
      ∙ (λ i. end-notices s legal o d references.0 e are.0 i ++ ends-notices ds next order.1 references.1 (others ds (order-apart d ds order.0 order.1) are.1) i)
      ∙ sym (map-append (lost_notice rd) (losses_at rd o d) (flat_map (losses_at rd o) ds))
    where
      others : (xs : List End) → AllByRecursion (λ (x : End). same_end d x ≡ false) xs → AllByRecursion (λ (x : End). e x ≡ held_at rd x) xs → AllByRecursion (λ (x : End). ends_after_changes s.metamodel e (lost_with rd o d) x ≡ held_at rd x) xs
      others [] apart are = tt
      others (x ∷ xs) apart are =
          (ends_after_changes-at s.metamodel e (lost_with rd o d) x ∙ at-own s.metamodel d x (lost_with rd o d) (e x) (own-losses d (filter (is_lost rd o d) (rd.values d))) apart.0 ∙ are.0, others xs apart.1 are.1)

  -- all other ends are as they were
  pub ends-away : (ds : List End) (x : End) (h : Held) → AllByRecursion (λ (d : End). same_end d x ≡ false) ds → happened_at s.metamodel (lost_ends ds) x h ≡ h
  ends-away [] x h away = refl
  ends-away (d ∷ ds) x h away =
      let m = s.metamodel in
      happened_at-append m (lost_with rd o d) (lost_ends ds) x h
      ∙ ap (happened_at m (lost_ends ds) x) (at-own m d x (lost_with rd o d) h (own-losses d (filter (is_lost rd o d) (rd.values d))) away.0)
      ∙ ends-away ds x h away.1

  -- each of these ends loses its own losses
  pub ends-here : (ds : List End) (x : End) (h : Held) → AreInOrder ds → has_end ds x ≡ true → happened_at s.metamodel (lost_ends ds) x h ≡ happened_at s.metamodel (lost_with rd o x) x h
  ends-here [] x h order has = absurd (false≢true has)
  ends-here (d ∷ ds) x h order has =
      let m = s.metamodel in
      let split = happened_at-append m (lost_with rd o d) (lost_ends ds) x h in
      elim (same_end d x) as (λ b. same_end d x ≡ b → (b || has_end ds x) ≡ true → happened_at m (lost_ends (d ∷ ds)) x h ≡ happened_at m (lost_with rd o x) x h) [
        | true ↦ λ same here.
            let is = same_end-true d x same in
            split
            ∙ ends-away ds x (happened_at m (lost_with rd o d) x h) (subst (λ (y : End). AllByRecursion (λ (z : End). same_end z y ≡ false) ds) is (turned-apart ds (order-apart d ds order.0 order.1)))
            ∙ ap (λ (y : End). happened_at m (lost_with rd o y) x h) is
        | false ↦ λ other here.
            split
            ∙ ap (happened_at m (lost_ends ds) x) (at-own m d x (lost_with rd o d) h (own-losses d (filter (is_lost rd o d) (rd.values d))) other)
            ∙ ends-here ds x h order.1 here
      ] refl has
    where
      turned-apart : (xs : List End) → AllByRecursion (λ (x : End). same_end d x ≡ false) xs → AllByRecursion (λ (x : End). same_end x d ≡ false) xs
      turned-apart [] all = tt
      turned-apart (x ∷ xs) all = (same_end-symmetric x d ∙ all.0, turned-apart xs all.1)
