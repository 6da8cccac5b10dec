-- One end after feature changes: the feature changes at other ends change nothing there.
use Rattle.std.proofs.Common.{◌≡◌, Bool, true, false, cond, List, [], ◌∷◌, ◌++◌, filter, if◌then◌else◌, refl, sym, ap, ◌∙◌}
use Rattle.std.specs.List.{AllByRecursion}
use Rattle.std.proofs.lemmas.Bool.{true≢false}
use Rattle.mm_types.proofs.SameLemmas.{same_end-true}
use Rattle.mm_types.specs.Ends.{Ends, Held}
use Rattle.mm_types.specs.Resolved.{Metamodel}
use Rattle.mm_types.specs.Same.{same_end}
use Rattle.mm_types.specs.Shapes.{Shape, shape}
use Rattle.mm_types.specs.declared.end.End.{End}
use Rattle.links.proofs.PlaceLemmas.{ne-same_end}
use Rattle.handshake.specs.FeatureChange.{ends_after_change, ends_after_changes, flag_after_change, values_after_change}
use Rattle.handshake.specs.declared.change_kind.ChangeKind.{ChangeKind}
use Rattle.handshake.specs.declared.change_kind.FeatureChange.{FeatureChange}

-- the values and the flag of an end after a feature change
abbrev pub done : Shape → ChangeKind → Held → Held
done a x h = record { values = values_after_change a x h.values; flag = flag_after_change a x h.flag }

-- the same for d, if the feature change is at d
abbrev pub done_at : Metamodel → End → FeatureChange → Held → Held
done_at m d t h = if same_end t.at d then done (shape m d.feature) t.does h else h

-- the values and the flag of d after feature changes
abbrev pub happened_at : Metamodel → List FeatureChange → End → Held → Held
happened_at m [] d h = h
happened_at m (t ∷ ts) d h = happened_at m ts d (done_at m d t h)

ends_after_change-done : (m : Metamodel) (e : Ends) (t : FeatureChange) (d : End) → ends_after_change m e t d ≡ done_at m d t (e d)
ends_after_change-done m e t d =
    elim (same_end t.at d) as (λ b. same_end t.at d ≡ b → (if b then done (shape m t.at.feature) t.does (e t.at) else e d) ≡ (if b then done (shape m d.feature) t.does (e d) else e d)) [
      | true ↦ λ same. ap (λ (x : End). done (shape m x.feature) t.does (e x)) (same_end-true t.at d same)
      | false ↦ λ _. refl
    ] refl

-- at an end, feature changes do what those of them at the end do
pub ends_after_changes-at : (m : Metamodel) (e : Ends) (ts : List FeatureChange) (d : End) → ends_after_changes m e ts d ≡ happened_at m ts d (e d)
ends_after_changes-at m e [] d = refl
ends_after_changes-at m e (t ∷ ts) d = ends_after_changes-at m (ends_after_change m e t) ts d ∙ ap (happened_at m ts d) (ends_after_change-done m e t d)

pub happened_at-append : (m : Metamodel) (xs ys : List FeatureChange) (d : End) (h : Held) → happened_at m (xs ++ ys) d h ≡ happened_at m ys d (happened_at m xs d h)
happened_at-append m [] ys d h = refl
happened_at-append m (t ∷ xs) ys d h = happened_at-append m xs ys d (done_at m d t h)

-- an end that a test distinguishes from another one is not that one
pub apart-of : (q : End → Bool) (x d : End) → q x ≡ false → q d ≡ true → same_end x d ≡ false
apart-of q x d out within = elim (same_end x d) as (λ b. same_end x d ≡ b → b ≡ false) [
  | true ↦ λ same. absurd (true≢false (sym within ∙ ap q (sym (same_end-true x d same)) ∙ out))
  | false ↦ λ _. refl
] refl

pub done-other : (m : Metamodel) (d : End) (t : FeatureChange) (h : Held) → same_end t.at d ≡ false → done_at m d t h ≡ h
done-other m d t h other = ap (λ b. if b then done (shape m d.feature) t.does h else h) other

pub done-here : (m : Metamodel) (d : End) (t : FeatureChange) (h : Held) → same_end t.at d ≡ true → done_at m d t h ≡ done (shape m d.feature) t.does h
done-here m d t h here = ap (λ b. if b then done (shape m d.feature) t.does h else h) here

-- at an end whose feature changes are all kept, a filter of feature changes changes nothing
pub happened_at-filter : (m : Metamodel) (q : End → Bool) (ts : List FeatureChange) (d : End) (h : Held) → q d ≡ true → happened_at m (filter (λ x. q x.at) ts) d h ≡ happened_at m ts d h
happened_at-filter m q [] d h kept = refl
happened_at-filter m q (t ∷ ts) d h kept =
    let rest = filter (λ (x : FeatureChange). q x.at) ts in
    elim (q t.at) as (λ b. q t.at ≡ b → happened_at m (cond b (t ∷ rest) rest) d h ≡ happened_at m ts d (done_at m d t h)) [
      | true ↦ λ _. happened_at-filter m q ts d (done_at m d t h) kept
      | false ↦ λ out. happened_at-filter m q ts d h kept ∙ ap (happened_at m ts d) (sym (done-other m d t h (apart-of q t.at d out kept)))
    ] refl

-- feature changes at e do nothing at another end
pub at-own : (m : Metamodel) (e d : End) (own : List FeatureChange) (h : Held) → AllByRecursion (λ (t : FeatureChange). t.at ≡ e) own → same_end e d ≡ false → happened_at m own d h ≡ h
at-own m e d [] h here other = refl
at-own m e d (t ∷ ts) h here other =
    ap (happened_at m ts d) (done-other m d t h (ap (λ (x : End). same_end x d) here.0 ∙ other)) ∙ at-own m e d ts h here.1 other

-- feature changes at other ends do nothing at e
pub at-others : (m : Metamodel) (e : End) (ts : List FeatureChange) (h : Held) → AllByRecursion (λ (t : FeatureChange). t.at ≡ e → ⊥) ts → happened_at m ts e h ≡ h
at-others m e [] h away = refl
at-others m e (t ∷ ts) h away = ap (happened_at m ts e) (done-other m e t h (ne-same_end t.at e away.0)) ∙ at-others m e ts h away.1
