-- The position of an object at a reference is its first position.
use Rattle.std.proofs.Common.{◌≡◌, ℕ, true, false, List, Option, Some, nat_eq, slice_get, unwrap_or, refl, sym, ap, ◌∙◌, subst}
use Rattle.std.specs.Prelude.{cond}
use Rattle.std.specs.Map.{lookup}
use Rattle.std.proofs.lemmas.Bool.{eqb-true}
use Rattle.std.proofs.lemmas.Option.{same_Some}
use Rattle.mm_types.specs.Shapes.{shape}
use Rattle.mm_types.specs.declared.end.End.{End}
use Rattle.mm_types.specs.declared.numbers.ObjectNo.{ObjectNo}
use Rattle.mm_types.specs.declared.value.Value.TheVariants as value
use Rattle.links.specs.Links.{end}
use Rattle.models.specs.Legal.{IsLegal}
use Rattle.models.specs.Model.{Model, reading, values_at}
use Rattle.models.proofs.PlaceLemmas.{position-target}
use Rattle.fragment_paths.specs.Fragments.{position_in}
use Rattle.fragment_paths.specs.Known.{KnowsPositions}
use Rattle.fragment_paths.specs.declared.positions.EndPosition.{EndPosition}

stands-at : (s : Model) (e : End) (i : ℕ) (o : ObjectNo) → IsLegal s → (shape s.metamodel e.feature).is_reference ≡ true → slice_get ((reading s).values e) i ≡ Some (value.Object o) → position_in (reading s) e o ≡ i
stands-at s e i o legal reference there =
    let linked : values_at s e ≡ end s.links e = rw reference refl in
    ap (λ (x : Option ℕ). unwrap_or x 0) (sym (position-target s e (value.Object o) (Some i) legal reference (ap (λ vs. slice_get vs i) (sym linked) ∙ there)))

-- one more position is known
pub one-more-known : (s : Model) (old new : List (ℕ × EndPosition)) (e : End) (i : ℕ) (o : ObjectNo) → IsLegal s → (shape s.metamodel e.feature).is_reference ≡ true → slice_get ((reading s).values e) i ≡ Some (value.Object o)
    → ((k : ℕ) → lookup (nat_eq k) new ≡ cond (nat_eq o.0 k) (Some (record { end = e; index = i })) (lookup (nat_eq k) old)) → KnowsPositions (reading s) old → KnowsPositions (reading s) new
one-more-known s old new e i o legal reference there sets known p q h =
    elim (nat_eq o.0 p.0) as (λ b. nat_eq o.0 p.0 ≡ b → cond b (Some (record { end = e; index = i })) (lookup (nat_eq p.0) old) ≡ Some q → position_in (reading s) q.end p ≡ q.index) [
      | true ↦ λ same is.
          let number = eqb-true o.0 p.0 same in
          let object : o ≡ p = λ j. record { 0 = number j } in
          let noted = same_Some _ q is in
          subst (λ (x : EndPosition). position_in (reading s) x.end p ≡ x.index) noted (subst (λ (x : ObjectNo). position_in (reading s) e x ≡ i) object (stands-at s e i o legal reference there))
      | false ↦ λ _ is. known p q is
    ] refl (sym (sets p.0) ∙ h)
