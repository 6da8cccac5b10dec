-- An empty model is legal, and joining leaves its texts as they are, since it has none.
use Rattle.std.proofs.Common.{◌≡◌, ℕ, List, [], ◌∷◌, slice_get, refl, sym, ap, ◌∙◌, arith, IsTrue}
use Rattle.std.specs.FinSet as set
use Rattle.std.specs.List.{IsDistinct}
use Rattle.std.specs.Str.{bytes_eq}
use Rattle.std.proofs.lemmas.Bool.{false≢true}
use Rattle.std.proofs.lemmas.List.Elements.{All-nil}
use Rattle.mm_types.specs.OfDocument.{IsOfDocument}
use Rattle.mm_types.specs.Resolved.{Metamodel}
use Rattle.mm_types.specs.declared.end.End.{End}
use Rattle.mm_types.specs.declared.value.Value.{Value}
use Rattle.links.specs.Links.{end, no_links}
use Rattle.links.specs.Order.{link_cmp}
use Rattle.links.proofs.CycleLemmas.{none_no_cycle}
use Rattle.links.proofs.LegalLemmas.{none_kinds, none_legal}
use Rattle.web_uris.specs.Addresses.{IsProxyText, IsSteadyProxy}
use Rattle.web_uris.specs.Joined.{IsJoined, IsWebUri}
use Rattle.models.specs.Legal.{IsLegal, IsLegalObject, OfProxies, is_short_text, kinds_of}
use Rattle.models.specs.Model.{empty_model}
use Rattle.models.specs.Steady.{HasSteadyTexts}

-- without links every end is empty
empty-end : (e : End) → end no_links e ≡ []
empty-end e = elim (end no_links e) as (λ vs. end no_links e ≡ vs → vs ≡ []) [
  | [] ↦ λ h. refl
  | v ∷ vs ↦ λ h.
      let st = (none_legal.placed.ends e).only 0 v (ap (λ (xs : List Value). slice_get xs 0) h) in
      absurd (false≢true (sym (set.contains-empty link_cmp st.0) ∙ st.1))
] refl

no-repeats : IsDistinct bytes_eq []
unfolding IsDistinct
no-repeats = tt

no-proxies : (Holds : List ℕ → Type 0) → OfProxies Holds no_links
no-proxies Holds l t within far = absurd (false≢true (sym (set.contains-empty link_cmp l) ∙ within))

pub empty-legal : (m : Metamodel) → IsOfDocument m → IsLegal (empty_model m)
empty-legal m accepted =
    record {
      metamodel = accepted;
      count = omega arith;
      objects = All-nil (IsLegalObject m);
      links = record {
        set = none_legal;
        kinds = none_kinds (kinds_of m);
        forest = none_no_cycle;
        ends = λ e. rw (empty-end e) refl;
        proxies = no-proxies IsProxyText;
      };
      uris = record { count = omega arith; joined = All-nil IsJoined; short = All-nil (λ u. IsTrue (is_short_text u)); distinct = no-repeats };
    }

pub empty-steady : (m : Metamodel) → HasSteadyTexts (empty_model m)
empty-steady m = record { uris = All-nil IsWebUri; proxies = no-proxies IsSteadyProxy }
