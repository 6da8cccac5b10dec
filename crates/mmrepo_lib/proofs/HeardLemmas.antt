-- An adapter that is attached before a command was notified by it of what the reply says: its notifications of the chain, and then those of
-- the targets that it lost.
use Rattle.std.proofs.Common.{◌≡◌, ◌⊎◌, inl, inr, true, false, cond, IsTrue, nat_eq, not, List, [], ◌∷◌, ◌++◌, map, filter, Option, Some, None, is_some, option_map, if◌then◌else◌, refl, sym, ap, ◌∙◌, subst}
use Rattle.std.specs.List.{AllByRecursion, find}
use Rattle.std.specs.Option.{option_map_or}
use Rattle.std.proofs.lemmas.Map.Keys.{IsDistinct-head, IsDistinct-tail}
use Rattle.std.proofs.lemmas.Option.{none-some, same_Some}
use Rattle.std.proofs.lemmas.Bool.{eqb-true}
use Rattle.mm_types.specs.declared.numbers.AdapterNo.{AdapterNo}
use Rattle.mm_types.specs.declared.numbers.Node.{Node}
use Rattle.mm_types.specs.declared.refused.Refused.{Refused}
use Rattle.notice_chain.specs.Listed.{Above, HasDistinctNumbers, Listed, adapter, adapter_after_notices, adapters_after_watch, has_no, heard_of, hears, is_target, same_no, tell_chain, told_list, told_of, with_changed, with_target}
use Rattle.notice_chain.specs.Released.{Spot, adapter_after_loss, adapters_without_target, adapters_without_targets, has_targets, last_notice, leaving_adapters, released_adapters, staying_adapters, told_of_all, told_of_leaving}
use Rattle.notice_chain.specs.View.{View, hear_all}
use Rattle.notice_chain.specs.declared.notice.Notice.{Notice}
use Rattle.notice_chain.specs.declared.target.Target.{Target}
use Rattle.notice_chain.proofs.ViewLemmas.{hear_all-append}
use Rattle.models.specs.Reading.{Reading}
use Rattle.mmrepo_lib.specs.Heard.{HearsItsReply, handed_out, told_by, told_to, view_after, view_among}
use Rattle.repository.specs.Refusals.{chain}
use Rattle.repository.specs.State.{State, reads}
use Rattle.repository.specs.Step.{adapters_after, adapters_after_attach, attached_adapters, going_spots, refusal_of, releases, reply, step_unless}
use Rattle.repository.specs.declared.command.Command.{Command}
use Rattle.repository.specs.declared.command.Command.TheVariants.{Attach, Watch}
use Rattle.repository.proofs.LegalAdapterLemmas.{numbers-tell_chain}
use Rattle.repository.proofs.SpotLemmas.{distinct-all}

abbrev found : AdapterNo → List Listed → Option Listed
found k rs = find (has_no k) rs

found-told : (up : Above) (ns : List Notice) (k : AdapterNo) (rs : List Listed) → found k (tell_chain up ns rs) ≡ option_map (λ r. adapter_after_notices r (heard_of up ns r)) (found k rs)
found-told up ns k [] = refl
found-told up ns k (r ∷ rs) =
    elim (has_no k r) as (λ b. (if b then Some (adapter_after_notices r (heard_of up ns r)) else found k (tell_chain up ns rs)) ≡ option_map (λ r. adapter_after_notices r (heard_of up ns r)) (if b then Some r else found k rs)) [
      | true ↦ refl
      | false ↦ found-told up ns k rs
    ]

found-front : (k : AdapterNo) (xs ys : List Listed) (a : Listed) → found k xs ≡ Some a → found k (xs ++ ys) ≡ Some a
found-front k [] ys a h = absurd (none-some a h)
found-front k (x ∷ xs) ys a h =
    elim (has_no k x) as (λ b. (if b then Some x else found k xs) ≡ Some a → (if b then Some x else found k (xs ++ ys)) ≡ Some a) [
      | true ↦ λ e. e
      | false ↦ λ e. found-front k xs ys a e
    ] h

---------------------------------------------------------------- who has a number

no-other : (k : AdapterNo) (r : Listed) (rs : List Listed) → has_no k r ≡ true → AllByRecursion (λ y. same_no r.no y ≡ false) (map (λ q. q.no) rs) → found k rs ≡ None
no-other k r [] h apart = refl
no-other k r (q ∷ rs) h apart =
    let other : has_no k q ≡ false = ap (λ m. nat_eq m q.no.0) (eqb-true k.0 r.no.0 h) ∙ apart.0 in
    rw other (no-other k r rs h apart.1)

none-filtered : (k : AdapterNo) (rs : List Listed) → found k rs ≡ None → found k (filter has_targets rs) ≡ None
none-filtered k [] h = refl
none-filtered k (r ∷ rs) h =
    elim (has_no k r) as (λ q. has_no k r ≡ q → cond q (Some r) (found k rs) ≡ None → found k (cond (has_targets r) (r ∷ filter has_targets rs) (filter has_targets rs)) ≡ None) [
      | true ↦ λ _ e. absurd (none-some r (sym e))
      | false ↦ λ other e. elim (has_targets r) as (λ p. found k (cond p (r ∷ filter has_targets rs) (filter has_targets rs)) ≡ None) [
        | true ↦ ap (λ q. cond q (Some r) (found k (filter has_targets rs))) other ∙ none-filtered k rs e
        | false ↦ none-filtered k rs e
      ]
    ] refl h

---------------------------------------------------------------- what a list has for an adapter

pub told_to-append : (k : AdapterNo) (ts us : List (AdapterNo × Notice)) → told_to k (ts ++ us) ≡ told_to k ts ++ told_to k us
told_to-append k [] us = refl
told_to-append k (t ∷ ts) us =
    elim (same_no k t.0) as (λ b. (if b then t.1 ∷ told_to k (ts ++ us) else told_to k (ts ++ us)) ≡ (if b then t.1 ∷ told_to k ts else told_to k ts) ++ told_to k us) [
      | true ↦ ap (λ (ns : List Notice). t.1 ∷ ns) (told_to-append k ts us)
      | false ↦ told_to-append k ts us
    ]

-- the adapters that get a notification, each with the notification
abbrev with_notice : Notice → List Listed → List (AdapterNo × Notice)
with_notice n rs = map (λ (r : Listed). (r.no, n)) rs

abbrev hearing : Above → Notice → List Listed → List Listed
hearing up n rs = filter (λ (r : Listed). hears up r n) rs

-- an adapter that is not among these is not notified
told-nobody : (up : Above) (n : Notice) (k : AdapterNo) (rs : List Listed) → found k rs ≡ None → told_to k (with_notice n (hearing up n rs)) ≡ []
told-nobody up n k [] none = refl
told-nobody up n k (r ∷ rs) none =
    elim (has_no k r) as (λ q. has_no k r ≡ q → cond q (Some r) (found k rs) ≡ None → told_to k (with_notice n (if hears up r n then r ∷ hearing up n rs else hearing up n rs)) ≡ []) [
      | true ↦ λ _ e. absurd (none-some r (sym e))
      | false ↦ λ other e. elim (hears up r n) as (λ h. told_to k (with_notice n (if h then r ∷ hearing up n rs else hearing up n rs)) ≡ []) [
        | true ↦ ap (λ b. if b then n ∷ told_to k (with_notice n (hearing up n rs)) else told_to k (with_notice n (hearing up n rs))) other ∙ told-nobody up n k rs e
        | false ↦ told-nobody up n k rs e
      ]
    ] refl none

-- an adapter is among the adapters of a notification if it gets it
told-one : (up : Above) (n : Notice) (k : AdapterNo) (rs : List Listed) (a : Listed) → HasDistinctNumbers rs → found k rs ≡ Some a → told_to k (with_notice n (hearing up n rs)) ≡ (if hears up a n then n ∷ [] else [])
told-one up n k [] a distinct some = absurd (none-some a some)
told-one up n k (r ∷ rs) a distinct some =
    elim (has_no k r) as (λ q. has_no k r ≡ q → cond q (Some r) (found k rs) ≡ Some a → told_to k (with_notice n (if hears up r n then r ∷ hearing up n rs else hearing up n rs)) ≡ (if hears up a n then n ∷ [] else [])) [
      | true ↦ λ mine e.
          let none = told-nobody up n k rs (no-other k r rs mine (IsDistinct-head same_no r.no (map (λ q. q.no) rs) distinct)) in
          subst (λ (x : Listed). told_to k (with_notice n (if hears up r n then r ∷ hearing up n rs else hearing up n rs)) ≡ (if hears up x n then n ∷ [] else [])) (same_Some r a e)
          (elim (hears up r n) as (λ h. told_to k (with_notice n (if h then r ∷ hearing up n rs else hearing up n rs)) ≡ (if h then n ∷ [] else [])) [
            | true ↦ ap (λ b. if b then n ∷ told_to k (with_notice n (hearing up n rs)) else told_to k (with_notice n (hearing up n rs))) mine ∙ ap (λ (ns : List Notice). n ∷ ns) none
            | false ↦ none
          ])
      | false ↦ λ other e.
          let later = told-one up n k rs a (IsDistinct-tail same_no r.no (map (λ q. q.no) rs) distinct) e in
          elim (hears up r n) as (λ h. told_to k (with_notice n (if h then r ∷ hearing up n rs else hearing up n rs)) ≡ (if hears up a n then n ∷ [] else [])) [
            | true ↦ ap (λ b. if b then n ∷ told_to k (with_notice n (hearing up n rs)) else told_to k (with_notice n (hearing up n rs))) other ∙ later
            | false ↦ later
          ]
    ] refl some

-- the list has for each adapter the notifications of the chain that it gets
told-chain : (up : Above) (ns : List Notice) (k : AdapterNo) (rs : List Listed) (a : Listed) → HasDistinctNumbers rs → found k rs ≡ Some a → told_to k (told_list up ns rs) ≡ heard_of up ns a
told-chain up [] k rs a distinct some = refl
told-chain up (n ∷ ns) k rs a distinct some =
    told_to-append k (told_of up n rs) (told_list up ns rs)
    ∙ (λ i. told-one up n k rs a distinct some i ++ told-chain up ns k rs a distinct some i)
    ∙ elim (hears up a n) as (λ h. (if h then n ∷ [] else []) ++ heard_of up ns a ≡ (if h then n ∷ heard_of up ns a else heard_of up ns a)) [ true ↦ refl | false ↦ refl ]

---------------------------------------------------------------- once targets have gone

-- notifications without a feature, as the last one from a target
abbrev pub AreOfNoFeature : List Notice → Type 0
AreOfNoFeature ns = AllByRecursion (λ (n : Notice). n.feature ≡ None) ns

no-feature-append : (xs ys : List Notice) → AreOfNoFeature xs → AreOfNoFeature ys → AreOfNoFeature (xs ++ ys)
no-feature-append [] ys p q = q
no-feature-append (x ∷ xs) ys p q = (p.0, no-feature-append xs ys p.1 q)

same-of : (k j : AdapterNo) (r : Listed) → has_no j r ≡ true → same_no k j ≡ has_no k r
same-of k j r h = ap (nat_eq k.0) (eqb-true j.0 r.no.0 h)

other-than : (k j : AdapterNo) (r : Listed) → has_no j r ≡ false → has_no k r ≡ true → same_no k j ≡ false
other-than k j r other mine =
    elim (same_no k j) as (λ b. same_no k j ≡ b → b ≡ false) [
      | true ↦ λ e. sym mine ∙ ap (λ m. nat_eq m r.no.0) (eqb-true k.0 j.0 e) ∙ other
      | false ↦ λ _. refl
    ] refl

-- the adapter of a number after the first adapter of a number got a last notification
found-changed : (k j : AdapterNo) (x : Node) (n : Notice) (rs : List Listed) (a : Listed) → found k rs ≡ Some a
    → (b : Listed) × (found k (with_changed j (adapter_after_loss x n) rs) ≡ Some b) × (b.view ≡ hear_all a.view (if same_no k j then n ∷ [] else []))
found-changed k j x n [] a some = absurd (none-some a some)
found-changed k j x n (r ∷ rs) a some =
    elim (has_no j r) as (λ p. has_no j r ≡ p → (b : Listed) × (found k (if p then (adapter_after_loss x n r ∷ rs) else r ∷ with_changed j (adapter_after_loss x n) rs) ≡ Some b) × (b.view ≡ hear_all a.view (if same_no k j then n ∷ [] else []))) [
      | true ↦ λ this. elim (has_no k r) as (λ q. has_no k r ≡ q → cond q (Some r) (found k rs) ≡ Some a → (b : Listed) × (cond q (Some (adapter_after_loss x n r)) (found k rs) ≡ Some b) × (b.view ≡ hear_all a.view (if same_no k j then n ∷ [] else []))) [
        | true ↦ λ mine e. (adapter_after_loss x n r, refl, ap (λ (y : Listed). hear_all y.view (n ∷ [])) (same_Some r a e) ∙ ap (λ b. hear_all a.view (if b then n ∷ [] else [])) (sym (same-of k j r this ∙ mine)))
        | false ↦ λ not_mine e. (a, e, ap (λ b. hear_all a.view (if b then n ∷ [] else [])) (sym (same-of k j r this ∙ not_mine)))
      ] refl some
      | false ↦ λ other. elim (has_no k r) as (λ q. has_no k r ≡ q → cond q (Some r) (found k rs) ≡ Some a → (b : Listed) × (cond q (Some r) (found k (with_changed j (adapter_after_loss x n) rs)) ≡ Some b) × (b.view ≡ hear_all a.view (if same_no k j then n ∷ [] else []))) [
        | true ↦ λ mine e. (r, refl, ap (λ (y : Listed). y.view) (same_Some r a e) ∙ ap (λ b. hear_all a.view (if b then n ∷ [] else [])) (sym (other-than k j r other mine)))
        | false ↦ λ _ e. found-changed k j x n rs a e
      ] refl some
    ] refl

view-adapters_without_target : (s : Spot) (rs : List Listed) (k : AdapterNo) (a : Listed) → found k rs ≡ Some a → (b : Listed) × (found k (adapters_without_target s rs) ≡ Some b) × (b.view ≡ hear_all a.view (told_to k (told_of_leaving s rs)))
view-adapters_without_target s rs k a some =
    elim (is_target s.0 s.1 rs) as (λ p. (b : Listed) × (found k (if p then with_changed s.0 (adapter_after_loss s.1 (last_notice s rs)) rs else rs) ≡ Some b) × (b.view ≡ hear_all a.view (told_to k (if p then (s.0, last_notice s rs) ∷ [] else [])))) [
      | true ↦ found-changed k s.0 s.1 (last_notice s rs) rs a some
      | false ↦ (a, some, refl)
    ]

view-all : (ss : List Spot) (rs : List Listed) (k : AdapterNo) (a : Listed) → found k rs ≡ Some a → (b : Listed) × (found k (adapters_without_targets ss rs) ≡ Some b) × (b.view ≡ hear_all a.view (told_to k (told_of_all ss rs)))
view-all [] rs k a some = (a, some, refl)
view-all (s ∷ ss) rs k a some =
    let one = view-adapters_without_target s rs k a some in
    let rest = view-all ss (adapters_without_target s rs) k one.0 one.1 in
    let here = told_to k (told_of_leaving s rs) in
    let later = told_to k (told_of_all ss (adapters_without_target s rs)) in
    (rest.0, rest.1, rest.2 ∙ ap (λ (v : View). hear_all v later) one.2 ∙ sym (hear_all-append a.view here later) ∙ ap (hear_all a.view) (sym (told_to-append k (told_of_leaving s rs) (told_of_all ss (adapters_without_target s rs)))))

no-feature-all : (ss : List Spot) (rs : List Listed) (k : AdapterNo) → AreOfNoFeature (told_to k (told_of_all ss rs))
no-feature-all [] rs k = tt
no-feature-all (s ∷ ss) rs k =
    subst AreOfNoFeature (sym (told_to-append k (told_of_leaving s rs) (told_of_all ss (adapters_without_target s rs))))
    (no-feature-append (told_to k (told_of_leaving s rs)) (told_to k (told_of_all ss (adapters_without_target s rs))) first (no-feature-all ss (adapters_without_target s rs) k))
  where
    first : AreOfNoFeature (told_to k (told_of_leaving s rs))
    first = elim (is_target s.0 s.1 rs) as (λ p. AreOfNoFeature (told_to k (if p then (s.0, last_notice s rs) ∷ [] else []))) [
      | true ↦ elim (same_no k s.0) as (λ q. AreOfNoFeature (if q then last_notice s rs ∷ [] else [])) [ true ↦ (refl, tt) | false ↦ tt ]
      | false ↦ tt
    ]

pub no-feature-released_adapters : (ss : List Spot) (rs : List Listed) (k : AdapterNo) → AreOfNoFeature (told_to k (released_adapters ss rs).told)
no-feature-released_adapters [] rs k = tt
no-feature-released_adapters (s ∷ ss) rs k = no-feature-all (s ∷ ss) rs k

---------------------------------------------------------------- who stays, and who is handed out

abbrev attached_view : Option Listed → Option View → Option View
attached_view o v = option_map_or (λ (a : Listed). Some a.view) o v

-- an adapter is among the adapters that stay, or among those that are given back
parted : (rs : List Listed) (k : AdapterNo) (b : Listed) → HasDistinctNumbers rs → found k rs ≡ Some b → view_among k (staying_adapters rs) (leaving_adapters rs) ≡ Some b.view
parted [] k b distinct some = absurd (none-some b some)
parted (r ∷ rs) k b distinct some =
    elim (has_no k r) as (λ q. has_no k r ≡ q → cond q (Some r) (found k rs) ≡ Some b → view_among k (staying_adapters (r ∷ rs)) (leaving_adapters (r ∷ rs)) ≡ Some b.view) [
      | true ↦ λ mine e.
          let none = none-filtered k rs (no-other k r rs mine (IsDistinct-head same_no r.no (map (λ q. q.no) rs) distinct)) in
          let is = ap (λ (y : Listed). Some y.view) (same_Some r b e) in
          elim (has_targets r) as (λ p. view_among k (cond p (r ∷ staying_adapters rs) (staying_adapters rs)) (map (λ (x : Listed). (x.no, x.view)) (cond (not p) (r ∷ filter (λ x. not (has_targets x)) rs) (filter (λ x. not (has_targets x)) rs))) ≡ Some b.view) [
            | true ↦ ap (λ q. attached_view (cond q (Some r) (found k (staying_adapters rs))) (handed_out k (leaving_adapters rs))) mine ∙ is
            | false ↦ ap (λ o. attached_view o (handed_out k ((r.no, r.view) ∷ leaving_adapters rs))) none ∙ ap (λ q. option_map (λ (v : AdapterNo × View). v.1) (cond q (Some (r.no, r.view)) (find (λ (v : AdapterNo × View). same_no k v.0) (leaving_adapters rs)))) mine ∙ is
          ]
      | false ↦ λ other e.
          let later = parted rs k b (IsDistinct-tail same_no r.no (map (λ q. q.no) rs) distinct) e in
          elim (has_targets r) as (λ p. view_among k (cond p (r ∷ staying_adapters rs) (staying_adapters rs)) (map (λ (x : Listed). (x.no, x.view)) (cond (not p) (r ∷ filter (λ x. not (has_targets x)) rs) (filter (λ x. not (has_targets x)) rs))) ≡ Some b.view) [
            | true ↦ ap (λ q. attached_view (cond q (Some r) (found k (staying_adapters rs))) (handed_out k (leaving_adapters rs))) other ∙ later
            | false ↦ ap (λ q. attached_view (found k (staying_adapters rs)) (option_map (λ (v : AdapterNo × View). v.1) (cond q (Some (r.no, r.view)) (find (λ (v : AdapterNo × View). same_no k v.0) (leaving_adapters rs))))) other ∙ later
          ]
    ] refl some

nobody-leaves : (k : AdapterNo) (rs : List Listed) → found k rs ≡ None → handed_out k (leaving_adapters rs) ≡ None
nobody-leaves k [] none = refl
nobody-leaves k (r ∷ rs) none =
    elim (has_no k r) as (λ q. has_no k r ≡ q → cond q (Some r) (found k rs) ≡ None → handed_out k (leaving_adapters (r ∷ rs)) ≡ None) [
      | true ↦ λ _ e. absurd (none-some r (sym e))
      | false ↦ λ other e. elim (has_targets r) as (λ p. handed_out k (map (λ (x : Listed). (x.no, x.view)) (cond (not p) (r ∷ filter (λ x. not (has_targets x)) rs) (filter (λ x. not (has_targets x)) rs))) ≡ None) [
        | true ↦ nobody-leaves k rs e
        | false ↦ ap (λ q. option_map (λ (v : AdapterNo × View). v.1) (cond q (Some (r.no, r.view)) (find (λ (v : AdapterNo × View). same_no k v.0) (leaving_adapters rs)))) other ∙ nobody-leaves k rs e
      ]
    ] refl none

-- an adapter that is given back has the view that it had
leaving_adapters-view : (rs : List Listed) (k : AdapterNo) (b : Listed) (w : View) → HasDistinctNumbers rs → found k rs ≡ Some b → handed_out k (leaving_adapters rs) ≡ Some w → w ≡ b.view
leaving_adapters-view [] k b w distinct some out = absurd (none-some b some)
leaving_adapters-view (r ∷ rs) k b w distinct some out =
    elim (has_no k r) as (λ q. has_no k r ≡ q → cond q (Some r) (found k rs) ≡ Some b → w ≡ b.view) [
      | true ↦ λ mine e.
          let none = nobody-leaves k rs (no-other k r rs mine (IsDistinct-head same_no r.no (map (λ q. q.no) rs) distinct)) in
          elim (has_targets r) as (λ p. handed_out k (map (λ (x : Listed). (x.no, x.view)) (cond (not p) (r ∷ filter (λ x. not (has_targets x)) rs) (filter (λ x. not (has_targets x)) rs))) ≡ Some w → w ≡ b.view) [
            | true ↦ λ o. absurd (none-some w (sym none ∙ o))
            | false ↦ λ o. same_Some w b.view (sym o ∙ ap (λ q. option_map (λ (v : AdapterNo × View). v.1) (cond q (Some (r.no, r.view)) (find (λ (v : AdapterNo × View). same_no k v.0) (leaving_adapters rs)))) mine ∙ ap (λ (y : Listed). Some y.view) (same_Some r b e))
          ] out
      | false ↦ λ other e.
          let later = leaving_adapters-view rs k b w (IsDistinct-tail same_no r.no (map (λ q. q.no) rs) distinct) e in
          elim (has_targets r) as (λ p. handed_out k (map (λ (x : Listed). (x.no, x.view)) (cond (not p) (r ∷ filter (λ x. not (has_targets x)) rs) (filter (λ x. not (has_targets x)) rs))) ≡ Some w → w ≡ b.view) [
            | true ↦ later
            | false ↦ λ o. later (sym (ap (λ q. option_map (λ (v : AdapterNo × View). v.1) (cond q (Some (r.no, r.view)) (find (λ (v : AdapterNo × View). same_no k v.0) (leaving_adapters rs)))) other) ∙ o)
          ] out
    ] refl some

view-released_adapters : (ss : List Spot) (rs : List Listed) (k : AdapterNo) (a : Listed) → HasDistinctNumbers rs → found k rs ≡ Some a → view_among k (released_adapters ss rs).others (released_adapters ss rs).views ≡ Some (hear_all a.view (told_to k (released_adapters ss rs).told))
view-released_adapters [] rs k a distinct some = ap (λ o. attached_view o None) some
view-released_adapters (s ∷ ss) rs k a distinct some =
    let all = view-all (s ∷ ss) rs k a some in
    parted (adapters_without_targets (s ∷ ss) rs) k all.0 (distinct-all (s ∷ ss) rs distinct) all.1 ∙ ap (λ (v : View). Some v) all.2

pub handed-out-view : (ss : List Spot) (rs : List Listed) (k : AdapterNo) (a : Listed) (w : View) → HasDistinctNumbers rs → found k rs ≡ Some a → handed_out k (released_adapters ss rs).views ≡ Some w → w ≡ hear_all a.view (told_to k (released_adapters ss rs).told)
handed-out-view [] rs k a w distinct some out = absurd (none-some w out)
handed-out-view (s ∷ ss) rs k a w distinct some out =
    let all = view-all (s ∷ ss) rs k a some in
    leaving_adapters-view (adapters_without_targets (s ∷ ss) rs) k all.0 w (distinct-all (s ∷ ss) rs distinct) all.1 out ∙ all.2

---------------------------------------------------------------- a command

-- a command that attaches an adapter, or gives an adapter a target, releases none
takes-none : (r : Reading) (rs : List Listed) (c : Command View) → (going_spots r rs c ≡ []) ⊎ ((qs : List Listed) → adapters_after_attach c qs ≡ qs)
takes-none r rs (Attach number target deep view) = inl refl
takes-none r rs (Watch number target deep) = inl refl
takes-none r rs _ = inr (λ qs. refl)

found-adapters_after_watch : (k j : AdapterNo) (t : Target) (rs : List Listed) (q : Listed) → found k rs ≡ Some q → (b : Listed) × (found k (adapters_after_watch j t rs) ≡ Some b) × (b.view ≡ q.view)
found-adapters_after_watch k j t [] q h = absurd (none-some q h)
found-adapters_after_watch k j t (r ∷ rs) q h =
    elim (has_no j r) as (λ p. (b : Listed) × (found k (if p then (with_target t r ∷ rs) else r ∷ with_changed j (with_target t) rs) ≡ Some b) × (b.view ≡ q.view)) [
      | true ↦ elim (has_no k r) as (λ m. cond m (Some r) (found k rs) ≡ Some q → (b : Listed) × (cond m (Some (with_target t r)) (found k rs) ≡ Some b) × (b.view ≡ q.view)) [
        | true ↦ λ e. (with_target t r, refl, ap (λ (x : Listed). x.view) (same_Some r q e))
        | false ↦ λ e. (q, e, refl)
      ] h
      | false ↦ elim (has_no k r) as (λ m. cond m (Some r) (found k rs) ≡ Some q → (b : Listed) × (cond m (Some r) (found k (with_changed j (with_target t) rs)) ≡ Some b) × (b.view ≡ q.view)) [
        | true ↦ λ e. (r, refl, ap (λ (x : Listed). x.view) (same_Some r q e))
        | false ↦ λ e. found-adapters_after_watch k j t rs q e
      ] h
    ]

on : (qs : List Listed) (c : Command View) (k : AdapterNo) (q : Listed) → found k qs ≡ Some q → (b : Listed) × (found k (adapters_after_attach c qs) ≡ Some b) × (b.view ≡ q.view)
on qs (Attach number target deep view) k q h = (q, found-front k qs (attached_adapters (Attach number target deep view)) q h, refl)
on qs (Watch number target deep) k q h =
    elim (is_target number target qs) as (λ p. (b : Listed) × (found k (if p then qs else adapters_after_watch number (record { node = target; deep = deep }) qs) ≡ Some b) × (b.view ≡ q.view)) [
      | true ↦ (q, h, refl)
      | false ↦ found-adapters_after_watch k number (record { node = target; deep = deep }) qs q h
    ]
on qs _ k q h = (q, h, refl)

module _ (r : Reading) (rs : List Listed) (c : Command View) (k : AdapterNo) (a : Listed) (distinct : HasDistinctNumbers rs) (some : adapter k rs ≡ Some a) where
  abbrev heard : List Notice
  heard = heard_of r.above (chain r c) a

  abbrev told : List Listed
  told = tell_chain r.above (chain r c) rs

  abbrev lost : List Notice
  lost = told_to k (releases r rs c).told

  told-distinct : HasDistinctNumbers told
  told-distinct = rw (numbers-tell_chain r.above (chain r c) rs) distinct

  told-there : found k told ≡ Some (adapter_after_notices a heard)
  told-there = found-told r.above (chain r c) k rs ∙ ap (option_map (λ q. adapter_after_notices q (heard_of r.above (chain r c) q))) some

  -- the notifications that the reply has for the adapter
  pub told-parts : told_to k (reply r rs c).told ≡ heard ++ lost
  told-parts = told_to-append k (told_list r.above (chain r c) rs) (releases r rs c).told ∙ ap (λ (ns : List Notice). ns ++ lost) (told-chain r.above (chain r c) k rs a distinct some)

  whole : hear_all (hear_all a.view heard) lost ≡ hear_all a.view (told_to k (reply r rs c).told)
  whole = sym (hear_all-append a.view heard lost) ∙ ap (hear_all a.view) (sym told-parts)

  pub reply-heard : view_among k (adapters_after r rs c) (releases r rs c).views ≡ Some (hear_all a.view (told_to k (reply r rs c).told))
  reply-heard =
      let others = (releases r rs c).others in
      let out = handed_out k (releases r rs c).views in
      let main = view-released_adapters (going_spots r rs c) told k (adapter_after_notices a heard) told-distinct told-there ∙ ap (λ (v : View). Some v) whole in
      elim (takes-none r rs c) [
        | inl none ↦
            let still : found k others ≡ Some (adapter_after_notices a heard) = ap (λ (ss : List Spot). found k (released_adapters ss told).others) none ∙ told-there in
            let now = on others c k (adapter_after_notices a heard) still in
            ap (λ o. attached_view o out) now.1 ∙ ap (λ (v : View). Some v) now.2 ∙ sym (ap (λ o. attached_view o out) still) ∙ main
        | inr same ↦ ap (λ (qs : List Listed). view_among k qs (releases r rs c).views) (same others) ∙ main
      ]

  pub handed-heard : (w : View) → handed_out k (releases r rs c).views ≡ Some w → w ≡ hear_all a.view (told_to k (reply r rs c).told)
  handed-heard w out = handed-out-view (going_spots r rs c) told k (adapter_after_notices a heard) w told-distinct told-there out ∙ whole

pub hears-reply : (s : State) (c : Command View) (k : AdapterNo) (a : Listed) → HearsItsReply s c k a
hears-reply s c k a legal some =
    elim (refusal_of s c) as (λ (q : Option Refused). view_after k (step_unless s c q) ≡ Some (hear_all a.view (told_to k (told_by (step_unless s c q).outcome)))) [
      | Some q ↦ ap (λ o. attached_view o None) some
      | None ↦ reply-heard (reads s) s.adapters c k a legal.distinct some
    ]

there : (k : AdapterNo) (qs : List Listed) → IsTrue (is_some (found k qs)) → (q : Listed) × (found k qs ≡ Some q)
there k qs h = elim (found k qs) as (λ o. IsTrue (is_some o) → (q : Listed) × (o ≡ Some q)) [ None ↦ λ e. absurd (let no : false ≡ true = e in cc) | Some q ↦ λ _. (q, refl) ] h

-- an adapter that stays attached was notified of its notifications in the reply: those of the chain, and then some without a feature
pub record Stays (r : Reading) (rs : List Listed) (c : Command View) (k : AdapterNo) (a : Listed) : Type 0 where
  pub b : Listed
  pub attached : adapter k (adapters_after r rs c) ≡ Some b
  pub more : List Notice
  pub passed : AreOfNoFeature more
  pub told : told_to k (reply r rs c).told ≡ heard_of r.above (chain r c) a ++ more
  pub view : b.view ≡ hear_all a.view (told_to k (reply r rs c).told)

pub stays-told : (r : Reading) (rs : List Listed) (c : Command View) (k : AdapterNo) (a : Listed) → HasDistinctNumbers rs → adapter k rs ≡ Some a → IsTrue (is_some (adapter k (adapters_after r rs c))) → Stays r rs c k a
stays-told r rs c k a distinct some attached =
    let kept = there k (adapters_after r rs c) attached in
    record {
      b = kept.0;
      attached = kept.1;
      more = told_to k (releases r rs c).told;
      passed = no-feature-released_adapters (going_spots r rs c) (tell_chain r.above (chain r c) rs) k;
      told = told-parts r rs c k a distinct some;
      view = same_Some _ _ (sym (ap (λ o. attached_view o (handed_out k (releases r rs c).views)) kept.1) ∙ reply-heard r rs c k a distinct some);
    }
