-- The rest of an object after a member was taken.
use Rattle.std.proofs.Common.{◌≡◌, ◌∙◌, Bool, true, false, cond, List, [], ◌∷◌, Some, ℕ, ap, bytes_eq, is_eq, nat_cmp, refl, string_bytes, sym, true≢false}
use Rattle.std.proofs.lemmas.Map.Text.{is_eq-slice_cmp}
use Rattle.std.proofs.lemmas.Slice.Eq.{bytes_eq-Decides}
use Rattle.std.specs.Prelude.{◌||◌}
use Rattle.std.specs.BTreeMap.{is_at}
use Rattle.std.specs.Cmp.Lexicographic.{slice_cmp}
use Rattle.std.specs.Map.{remove_entry}
use Rattle.std.specs.Ordering.{match_ordering}
use Rattle.serde_json.proofs.Views.{Entry, member_later}
use Rattle.serde_json.specs.Find.{get_member}
use Rattle.serde_json.specs.View.{members_view, view}

pub not_either : (b : Bool) → b || false ≡ false → b ≡ false
not_either true h = h
not_either false h = refl

kept_at : (b : Bool) (k q : List ℕ) (e : Entry) (es rest : List Entry) → is_eq (slice_cmp nat_cmp k (string_bytes e.0)) ≡ b → bytes_eq k q ≡ false
    → get_member q (members_view rest) ≡ get_member q (members_view es)
    → get_member q (members_view (cond b es (e ∷ rest))) ≡ get_member q (members_view (e ∷ es))
kept_at true k q e es rest is apart h =
    let same : k ≡ string_bytes e.0 = (bytes_eq-Decides k (string_bytes e.0)).0 (sym (is_eq-slice_cmp k (string_bytes e.0)) ∙ is) in
    sym (member_later q e es (λ at. true≢false (sym ((bytes_eq-Decides k q).1 (same ∙ sym at)) ∙ apart)))
kept_at false k q e es rest is apart h = ap (λ r. match_ordering (slice_cmp nat_cmp q (string_bytes e.0)) r (Some (view e.1)) r) h

-- the members of other names are as they were
pub kept : (k q : List ℕ) (es : List Entry) → bytes_eq k q ≡ false
    → get_member q (members_view (remove_entry (is_at (λ x. slice_cmp nat_cmp k (string_bytes x))) es)) ≡ get_member q (members_view es)
kept k q [] apart = refl
kept k q (e ∷ es) apart = kept_at _ k q e es _ refl apart (kept k q es apart)
