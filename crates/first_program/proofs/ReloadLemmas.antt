-- If a model of one resource is saved and loaded into an empty repository, the result is isomorphic to it.
use Rattle.std.proofs.Common.{◌≡◌, ◌||◌, ℕ, true, false, nat_eq, nat_lt, List, [], ◌∷◌, length, Ok, slice_get, unwrap_or, refl, sym, ap, ◌∙◌, subst, arith}
use Rattle.std.specs.Str.{is_utf8}
use Rattle.std.proofs.lemmas.Bool.Decides.{nat_tests}
use Rattle.mmrepo_lib.specs.Commands.{Command, CreateResource, Load, ResolveAll}
use Rattle.mmrepo_lib.specs.Nodes.{ResourceNo}
use Rattle.mmrepo_lib.specs.Steps.{Alike, AreTexts, Executed, Fill, HasSteadyTexts, IsLegal, IsOrder, IsReadAs, IsSaved, Make, Reading, ReloadsInAnyOrder, Reply, State, Stepped, View, empty_state, has_resource, reads, step}

abbrev pub first : ResourceNo
first = record { 0 = 0 }

-- the only resource
only-first : (r : Reading) (uri : List ℕ) (k : ResourceNo) → r.uris ≡ uri ∷ [] → has_resource r k ≡ true → k ≡ first
only-first r uri k one there = ap (λ (n : ℕ). let x : ResourceNo = record { 0 = n } in x) (zero-of k.0 (subst (λ (us : List (List ℕ)). nat_lt k.0 (length us) ≡ true) one there))
  where
    zero-of : (n : ℕ) → nat_lt n 1 ≡ true → n ≡ 0
    zero-of n low = grind (arith, nat_tests)

abbrev pub uri_of_first : Reading → List ℕ
uri_of_first r = unwrap_or (slice_get r.uris 0) []

pub loaded-again : (s empty made filled after : State) (uri text bytes : List ℕ) (p q x : Reply View)
    → ReloadsInAnyOrder s → IsLegal s → HasSteadyTexts s.model → IsSaved (reads s) → (reads s).uris ≡ uri ∷ []
    → IsReadAs (reads s) first text → is_utf8 text ≡ true
    → empty ≡ empty_state s.model.metamodel
    → Executed empty (CreateResource uri) (Ok p) made → bytes ≡ text → Executed made (Load first bytes) (Ok q) filled → Executed filled ResolveAll (Ok x) after
    → Alike (reads s) (reads after)
loaded-again s empty made filled after uri text bytes p q x law legal steady saved one is_read utf8 is_empty create is_text given resolve =
    let load : Executed made (Load first text) (Ok q) filled = subst (λ (t : List ℕ). Executed made (Load first t) (Ok q) filled) is_text given in
    let r = reads s in
    let there : has_resource r first ≡ true = subst (λ (us : List (List ℕ)). nat_lt 0 (length us) ≡ true) (sym one) refl in
    let texts : AreTexts r (λ k. text) = record {
      reads = λ k h. subst (λ (j : ResourceNo). IsReadAs r j text) (sym (only-first r uri k one h)) is_read;
      utf8 = λ k h. utf8;
    } in
    let order : IsOrder r [] [] (Make first ∷ Fill first ∷ []) = (record { there = there; new = refl }, (record { there = refl; new = refl }, λ k h. subst (λ (j : ResourceNo). (nat_eq j.0 0 || false) ≡ true) (sym (only-first r uri k one h)) refl)) in
    let had = law legal steady saved (λ k. text) texts (Make first ∷ Fill first ∷ []) order in
    let uris : uri_of_first r ≡ uri = ap (λ (us : List (List ℕ)). unwrap_or (slice_get us 0) []) one in
    let one_made : (step (empty_state s.model.metamodel) (CreateResource (uri_of_first r))).after ≡ made = (λ i. (step (sym is_empty i) (CreateResource (uris i))).after) ∙ ap (λ (y : Stepped). y.after) create in
    let both : (step (step (empty_state s.model.metamodel) (CreateResource (uri_of_first r))).after (Load first text)).after ≡ filled = ap (λ (z : State). (step z (Load first text)).after) one_made ∙ ap (λ (y : Stepped). y.after) load in
    let last : (step (step (step (empty_state s.model.metamodel) (CreateResource (uri_of_first r))).after (Load first text)).after ResolveAll).after ≡ after = ap (λ (z : State). (step z ResolveAll).after) both ∙ ap (λ (y : Stepped). y.after) resolve in
    subst (λ (z : State). Alike r (reads z)) last had.all.alike
