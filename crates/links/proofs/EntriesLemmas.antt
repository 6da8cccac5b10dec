-- Lists of ends joined, and the positions that a search finds in ends.
use Rattle.std.proofs.Common.{◌≡◌, ℕ, true, List, [], ◌∷◌, ◌++◌, map, Option, Some, None, MatchOption, refl, sym, ap, ◌∙◌, subst, inl, inr, arith}
use Rattle.std.specs.Prelude.{◌⊎◌}
use Rattle.std.specs.List.{Contains, slice_get}
use Rattle.std.proofs.lemmas.Bool.{false≢true, or_cases, or_left, or_right}
use Rattle.std.proofs.lemmas.List.Elements.{Contains-append_cases, Contains-append_left, Contains-append_right, Contains-push, Contains-push_cases}
use Rattle.links.specs.LegalSets.{IsDistinct}
use Rattle.links.specs.Links.{Links, end}
use Rattle.links.specs.Plans.{AreIncoming, AreInOrder, AreEntriesOf, Has, Lacks, has_end, incoming_end}
use Rattle.links.specs.Found.{entry_if, entries_by}
use Rattle.links.specs.declared.incoming.Incoming.{Incoming}
use Rattle.mm_types.proofs.SameLemmas.{same_end-self, same_end-true}
use Rattle.mm_types.specs.Same.{same_end}
use Rattle.mm_types.specs.declared.end.End.{End}
use Rattle.mm_types.specs.declared.numbers.ObjectNo.{ObjectNo}
use Rattle.mm_types.specs.declared.value.Value.TheVariants as value
use Rattle.mm_types.specs.declared.value.Value.{Value}

pub has_end_left : (a b : List End) (c : End) → has_end a c ≡ true → has_end (a ++ b) c ≡ true
has_end_left [] b c h = absurd (false≢true h)
has_end_left (x ∷ xs) b c h = elim (or_cases (same_end x c) (has_end xs c) h) [ inl here ↦ or_left _ _ here | inr later ↦ or_right _ _ (has_end_left xs b c later) ]

pub has_end_right : (a b : List End) (c : End) → has_end b c ≡ true → has_end (a ++ b) c ≡ true
has_end_right [] b c h = h
has_end_right (x ∷ xs) b c h = or_right _ _ (has_end_right xs b c h)

pub has_end_cases : (a b : List End) (c : End) → has_end (a ++ b) c ≡ true → (has_end a c ≡ true) ⊎ (has_end b c ≡ true)
has_end_cases [] b c h = inr h
has_end_cases (x ∷ xs) b c h = elim (or_cases (same_end x c) (has_end (xs ++ b) c) h) [
  | inl here ↦ inl (or_left _ _ here)
  | inr later ↦ elim (has_end_cases xs b c later) [ inl p ↦ inl (or_right _ _ p) | inr p ↦ inr p ]
]

nothing_in : (i : Incoming) → Contains [] i → ⊥
nothing_in i (k, lt, at) = omega (arith, lt)

in_entry_if : (e : End) (o : Option ℕ) (i : Incoming) → Contains (entry_if e o) i → (e ≡ incoming_end i) × (o ≡ Some i.position)
in_entry_if e None i h = absurd (nothing_in i h)
in_entry_if e (Some k) i h = elim (Contains-push_cases [] (record { feature = e.feature; node = e.node; position = k }) i h) [
  | inl nothing ↦ absurd (nothing_in i nothing)
  | inr same ↦ ((λ t. incoming_end (same t)), (λ t. Some (same t).position))
]

entry_if_has : (e : End) (i : Incoming) → incoming_end i ≡ e → Contains (entry_if e (Some i.position)) i
entry_if_has e i same = subst (λ (x : End). Contains (entry_if x (Some i.position)) i) same (Contains-push [] i)

module _ (s : Links) (distinct : (e : End) → IsDistinct (end s e)) (v : Value) (search : End → Option ℕ) (law : (e : End) → MatchOption (search e) (Lacks s e v) (λ k. slice_get (end s e) k ≡ Some v)) where
  stands : (e : End) (k : ℕ) → search e ≡ Some k → slice_get (end s e) k ≡ Some v
  stands e k h = subst (λ (o : Option ℕ). MatchOption o (Lacks s e v) (λ j. slice_get (end s e) j ≡ Some v)) h (law e)

  found : (e : End) (k : ℕ) → slice_get (end s e) k ≡ Some v → search e ≡ Some k
  found e k at = elim (search e) as (λ o. search e ≡ o → o ≡ Some k) [
    | None ↦ λ h. absurd (subst (λ (o : Option ℕ). MatchOption o (Lacks s e v) (λ j. slice_get (end s e) j ≡ Some v)) h (law e) k at)
    | Some j ↦ λ h. ap Some (distinct e j k v (stands e j h) at)
  ] refl

  -- each entry is a position of the value
  entries-stand : (es : List End) (i : Incoming) → Contains (entries_by search es) i → slice_get (end s (incoming_end i)) i.position ≡ Some v
  entries-stand [] i h = absurd (nothing_in i h)
  entries-stand (e ∷ es) i h = elim (Contains-append_cases (entry_if e (search e)) (entries_by search es) i h) [
    | inl here ↦
        let is = in_entry_if e (search e) i here in
        subst (λ (x : End). slice_get (end s x) i.position ≡ Some v) is.0 (stands e i.position is.1)
    | inr later ↦ entries-stand es i later
  ]

  -- each position in one of the ends has an entry
  stand-entries : (es : List End) (i : Incoming) → has_end es (incoming_end i) ≡ true → slice_get (end s (incoming_end i)) i.position ≡ Some v → Contains (entries_by search es) i
  stand-entries [] i h at = absurd (false≢true h)
  stand-entries (e ∷ es) i h at = elim (or_cases (same_end e (incoming_end i)) (has_end es (incoming_end i)) h) [
    | inl here ↦
        let same = same_end-true e (incoming_end i) here in
        let is = found e i.position (subst (λ (x : End). slice_get (end s x) i.position ≡ Some v) (sym same) at) in
        Contains-append_left (entry_if e (search e)) (entries_by search es) i (subst (λ (o : Option ℕ). Contains (entry_if e o) i) (sym is) (entry_if_has e i (sym same)))
    | inr later ↦ Contains-append_right (entry_if e (search e)) (entries_by search es) i (stand-entries es i later at)
  ]

  -- one entry for each end, in their order
  ends_of_entries : (es : List End) → ((e : End) → has_end es e ≡ true → Has s e v) → map incoming_end (entries_by search es) ≡ es
  ends_of_entries [] all = refl
  ends_of_entries (e ∷ es) all =
      let has = all e (or_left _ _ (same_end-self e)) in
      let is = found e has.0 has.1 in
      let rest = ends_of_entries es (λ d h. all d (or_right (same_end e d) _ h)) in
      rw is (ap (λ (ds : List End). e ∷ ds) rest)

-- two lists with the same ends give the same entries of the object
pub incoming-same : (s : Links) (o : ObjectNo) (es ds : List End) → ((e : End) → has_end ds e ≡ has_end es e) → AreIncoming s o es → AreIncoming s o ds
incoming-same s o es ds same are e = (λ h. (are e).0 (sym (same e) ∙ h), λ has. same e ∙ (are e).1 has)

-- all positions of an object, in ends in order
pub entries_all : (s : Links) → ((e : End) → IsDistinct (end s e)) → (o : ObjectNo) (search : End → Option ℕ) → ((e : End) → MatchOption (search e) (Lacks s e (value.Object o)) (λ k. slice_get (end s e) k ≡ Some (value.Object o))) → (es : List End) → AreIncoming s o es → AreInOrder es → (let is = entries_by search es in AreEntriesOf s o is × AreInOrder (map incoming_end is))
entries_all s distinct o search law es are order =
    let v = value.Object o in (
      λ i. (
        λ h. entries-stand s distinct v search law es i h,
        λ at. stand-entries s distinct v search law es i ((are (incoming_end i)).1 (i.position, at)) at,
      ),
      subst (λ (fs : List End). AreInOrder fs) (sym (ends_of_entries s distinct v search law es (λ e h. (are e).0 h))) order,
    )
