-- Lists in which no end is twice, with one end more or one end less.
use Rattle.std.proofs.Common.{◌≡◌, ◌≢◌, ℕ, zero, suc, ◌<◌, true, List, [], ◌∷◌, ◌++◌, length, Some, None, refl, sym, ap, ◌∙◌, subst, inl, inr, arith}
use Rattle.std.specs.Prelude.{◌⊎◌}
use Rattle.std.specs.List.{position, remove, slice_get}
use Rattle.std.specs.Option.{option_map_or}
use Rattle.std.proofs.lemmas.Bool.{cases_lt, cases_order, false≢true, or_cases, or_left, or_right}
use Rattle.std.proofs.lemmas.Option.{none-some, same_Some, slice_get_within}
use Rattle.mm_types.specs.Same.{same_end}
use Rattle.mm_types.specs.declared.end.End.{End}
use Rattle.mm_types.proofs.SameLemmas.{same_end-self, same_end-true}
use Rattle.links.specs.Links.{raise}
use Rattle.links.specs.Plans.{has_end}
use Rattle.links.proofs.ListLemmas.{raise_above, raise_below, raise_injective, raise_other, slice_get-push, slice_get-push_below, slice_get-remove_above, slice_get-remove_below, length_push}
use Rattle.slot_store.specs.CellLinks.{IsOnce}
use Rattle.slot_store.proofs.PositionLemmas.{end_at, end_lacks}

pub has_end_at : (ds : List End) (d : End) → has_end ds d ≡ true → (k : ℕ) × (slice_get ds k ≡ Some d)
has_end_at [] d h = absurd (false≢true h)
has_end_at (x ∷ ds) d h = elim (or_cases (same_end x d) (has_end ds d) h) [
  | inl is ↦ (zero, ap Some (same_end-true x d is))
  | inr later ↦ (let r = has_end_at ds d later in (suc r.0, r.1))
]

pub at_has_end : (ds : List End) (d : End) (k : ℕ) → slice_get ds k ≡ Some d → has_end ds d ≡ true
at_has_end [] d k h = absurd (none-some d h)
at_has_end (x ∷ ds) d zero h = or_left _ _ (subst (λ (y : End). same_end x y ≡ true) (same_Some x d h) (same_end-self x))
at_has_end (x ∷ ds) d (suc k) h = or_right (same_end x d) _ (at_has_end ds d k h)

---------------------------------------------------------------- one less

-- the rest of a list was in the whole list
removed_from : (ds : List End) (i j : ℕ) → slice_get (remove ds i) j ≡ slice_get ds (raise i j)
removed_from ds i j = elim (cases_lt j i) [
  | inl lt ↦ slice_get-remove_below ds i j lt ∙ ap (λ (k : ℕ). slice_get ds k) (sym (raise_below i j lt))
  | inr ge ↦ slice_get-remove_above ds i j ge ∙ ap (λ (k : ℕ). slice_get ds k) (sym (raise_above i j ge))
]

once-remove : (ds : List End) (i : ℕ) → IsOnce ds → IsOnce (remove ds i)
once-remove ds i once j k d a b = raise_injective i j k (once (raise i j) (raise i k) d (sym (removed_from ds i j) ∙ a) (sym (removed_from ds i k) ∙ b))

remove_at : (ds : List End) (i k : ℕ) (d : End) → k ≢ i → slice_get ds k ≡ Some d → has_end (remove ds i) d ≡ true
remove_at ds i k d ne h = elim (cases_order k i) [
  | inl same ↦ absurd (ne same)
  | inr (inl lt) ↦ at_has_end (remove ds i) d k (slice_get-remove_below ds i k lt ∙ h)
  | inr (inr gt) ↦ above k gt h
]
  where
    above : (k : ℕ) → i < k → slice_get ds k ≡ Some d → has_end (remove ds i) d ≡ true
    above zero gt h = absurd (omega (arith, gt))
    above (suc k) gt h = at_has_end (remove ds i) d k (slice_get-remove_above ds i k (omega (arith, gt)) ∙ h)

-- the list without an end, if it has it
abbrev pub without_end : End → List End → List End
without_end e ds = option_map_or (λ (i : ℕ). remove ds i) (position (same_end e) ds) ds

module _ (e : End) (ds : List End) (once : IsOnce ds) where
  pub once-without : IsOnce (without_end e ds)
  once-without = elim (position (same_end e) ds) as (λ o. IsOnce (option_map_or (λ (i : ℕ). remove ds i) o ds)) [ None ↦ once | Some i ↦ once-remove ds i once ]

  pub has_end-without : (d : End) → has_end (without_end e ds) d ≡ true → (has_end ds d ≡ true) × (e ≢ d)
  has_end-without d = elim (position (same_end e) ds) as (λ o. position (same_end e) ds ≡ o → has_end (option_map_or (λ (i : ℕ). remove ds i) o ds) d ≡ true → (has_end ds d ≡ true) × (e ≢ d)) [
    | None ↦ λ q h. (h, λ same. let at = has_end_at ds d h in end_lacks ds e at.0 q (at.1 ∙ ap Some (sym same)))
    | Some i ↦ λ q h. (
        let at = has_end_at (remove ds i) d h in
        let old = sym (removed_from ds i at.0) ∙ at.1 in (
          at_has_end ds d (raise i at.0) old,
          λ same. raise_other i at.0 (once (raise i at.0) i d old (end_at ds e i q ∙ ap Some same)),
        ))
  ] refl

  pub has_end_without : (d : End) → e ≢ d → has_end ds d ≡ true → has_end (without_end e ds) d ≡ true
  has_end_without d ne h = elim (position (same_end e) ds) as (λ o. position (same_end e) ds ≡ o → has_end (option_map_or (λ (i : ℕ). remove ds i) o ds) d ≡ true) [
    | None ↦ λ q. h
    | Some i ↦ λ q. (
        let at = has_end_at ds d h in
        remove_at ds i at.0 d (λ same. ne (same_Some e d (sym (end_at ds e i q) ∙ ap (λ (k : ℕ). slice_get ds k) (sym same) ∙ at.1))) at.1)
  ] refl

---------------------------------------------------------------- one more

pub once-push : (ds : List End) (e : End) → IsOnce ds → (has_end ds e ≡ true → ⊥) → IsOnce (ds ++ e ∷ [])
once-push ds e once new j k d a b = elim (either j a) [
  | inl (lt, at) ↦ elim (either k b) [
    | inl (lt', bt) ↦ once j k d at bt
    | inr (same, is) ↦ absurd (new (at_has_end ds e j (at ∙ ap Some (sym is))))
  ]
  | inr (here, was) ↦ elim (either k b) [
    | inl (lt', bt) ↦ absurd (new (at_has_end ds e k (bt ∙ ap Some (sym was))))
    | inr (same, is) ↦ here ∙ sym same
  ]
]
  where
    either : (j : ℕ) → slice_get (ds ++ e ∷ []) j ≡ Some d → ((j < length ds) × (slice_get ds j ≡ Some d)) ⊎ ((j ≡ length ds) × (e ≡ d))
    either j a = elim (cases_order j (length ds)) [
      | inl same ↦ inr (same, same_Some e d (sym (slice_get-push ds e) ∙ ap (λ (k : ℕ). slice_get (ds ++ e ∷ []) k) (sym same) ∙ a))
      | inr (inl lt) ↦ inl (lt, sym (slice_get-push_below ds e j lt) ∙ a)
      | inr (inr gt) ↦ absurd (omega (arith, gt, slice_get_within (ds ++ e ∷ []) j d a, length_push ds e))
    ]
