-- The targets of texts: a fragment leads to a path in the document, and an address in another resource leads to a proxy.
use Rattle.std.proofs.Common.{◌≡◌, ◌∙◌, ◌<◌, ◌||◌, ℕ, Bool, true, false, cond, not, List, [], ◌∷◌, ◌++◌, length, Option, Some, None, option_map, refl, ap, sym, codes, bytes_eq, get_or, true≢false, ⊎_elim, eq-or-lt_of_le}
use Rattle.std.specs.Prelude.{is_some}
use Rattle.std.specs.List.{list_any, position_or_len}
use Rattle.std.proofs.lemmas.Bool.{cases_Bool, cond-false, cond-true}
use Rattle.std.proofs.lemmas.Bool.Decides.{Decides-eqb}
use Rattle.std.proofs.lemmas.List.Sums.{passes_at_first, prefix_len-le-length, split_at_first}
use Rattle.std.proofs.lemmas.Option.{option_and_then_some, same_Some}
use Rattle.std.proofs.lemmas.Slice.Eq.{bytes_eq-Decides}
use Rattle.url.specs.Parser.{parse_url}
use Rattle.url.specs.Parts.{serialize}
use Rattle.json_fields.specs.Fields.{◌>>=◌}
use Rattle.web_uris.specs.Addresses.{IsSteadyProxy, address_text, fragment_part, has_mark, uri_part}
use Rattle.web_uris.specs.Joined.{IsWebUri, if_parsed, is_mark, is_web, web_text}
use Rattle.web_uris.specs.Paths.{parse}
use Rattle.web_uris.specs.declared.path.Path.{Path}
use Rattle.web_uris.proofs.AddressFacts.{steady_proxy, uri-of_address}
use Rattle.web_uris.proofs.CutLemmas.{none_passes}
use Rattle.web_uris.proofs.JoinFacts.{joined_uri-web, web_joined}
use Rattle.resource_docs.specs.Texts.{base_of, target, target_at, target_in, uri_meant}
use Rattle.resource_docs.specs.declared.referent.Referent.TheVariants.{Here, Elsewhere}

---------------------------------------------------------------- the URI that is meant

no-scheme : (s rest : List ℕ) → bytes_eq s (codes "http") || bytes_eq s (codes "https") ≡ true → s ++ rest ≡ [] → ⊥
no-scheme [] rest web none = cc
no-scheme (x ∷ xs) rest web none = cc

empty-web : (b c : Bool) (s rest : List ℕ) → bytes_eq s (codes "http") || bytes_eq s (codes "https") ≡ b → cond b (cond c None (Some (s ++ rest))) None ≡ Some [] → ⊥
empty-web true true s rest web text = cc
empty-web true false s rest web text = no-scheme s rest web (same_Some (s ++ rest) [] text)
empty-web false c s rest web text = cc

-- a URI of http or https begins with its scheme, so it is not empty
web-not-empty : IsWebUri [] → ⊥
web-not-empty web = option_and_then_some web_text (if_parsed (parse_url None [])) [] web
    (λ u parsed text. empty-web (is_web u) (list_any is_mark (serialize u)) u.scheme _ refl text)

-- joined with any base, a URI of http or https is the URI that is meant
meant-web : (uri u : List ℕ) → IsWebUri u → uri_meant (base_of uri) u ≡ Some u
meant-web uri [] web = absurd (web-not-empty web)
meant-web uri (c ∷ cs) web = joined_uri-web uri (c ∷ cs) web

---------------------------------------------------------------- a text around its first `#`

mark-within : (t : List ℕ) → has_mark t ≡ true → position_or_len is_mark t < length t
mark-within t marked = ⊎_elim (λ last. absurd (true≢false (sym marked ∙ none_passes is_mark t last))) (λ below. below) (eq-or-lt_of_le (prefix_len-le-length (λ c. not (is_mark c)) t))

-- a text with `#` is the text before the first `#`, the `#`, and the text after it
around-mark : (t : List ℕ) → has_mark t ≡ true → address_text (uri_part t) (fragment_part t) ≡ t
around-mark t marked =
    let below = mark-within t marked in
    ap (λ c. uri_part t ++ c ∷ fragment_part t) (sym ((Decides-eqb (get_or t (position_or_len is_mark t) 35) 35).0 (passes_at_first is_mark t 35 below)))
    ∙ sym (split_at_first is_mark t 35 below)

---------------------------------------------------------------- targets

-- a fragment without `#` leads to its path
pub target-fragment : (uri t : List ℕ) (p : Path) → has_mark t ≡ false → parse t ≡ Some p → target (base_of uri) t ≡ Some (Here p)
target-fragment uri t p unmarked parsed = cond-false _ _ _ unmarked ∙ ap (option_map Here) parsed

apart-texts : (u w : List ℕ) → (u ≡ w → ⊥) → bytes_eq u w ≡ false
apart-texts u w apart = ⊎_elim (λ same. absurd (apart ((bytes_eq-Decides u w).0 same))) (λ e. e) (cases_Bool (bytes_eq u w))

target-parts : (uri u rest : List ℕ) (p : Path) → IsWebUri u → (u ≡ uri → ⊥) → parse rest ≡ Some p → target_at (base_of uri) u rest ≡ Some (Elsewhere (address_text u rest))
target-parts uri u rest p web apart parsed =
    ap (λ x. x >>= (λ q. option_map (λ v. target_in (base_of uri) rest v q) (uri_meant (base_of uri) u))) parsed
    ∙ ap (option_map (λ v. target_in (base_of uri) rest v p)) (meant-web uri u web)
    ∙ ap Some (cond-false _ _ _ (apart-texts u uri apart))

-- the text of a proxy, of a URI other than the resource's own, leads to that proxy
pub target-proxy : (uri t : List ℕ) → IsSteadyProxy t → (uri_part t ≡ uri → ⊥) → target (base_of uri) t ≡ Some (Elsewhere t)
target-proxy uri t proxy apart = by (parse (fragment_part t)) refl proxy.text.fragment
  where
    by : (x : Option Path) → parse (fragment_part t) ≡ x → is_some x ≡ true → target (base_of uri) t ≡ Some (Elsewhere t)
    by None parsed some = cc
    by (Some p) parsed some =
        cond-true _ _ _ proxy.text.mark
        ∙ target-parts uri (uri_part t) (fragment_part t) p proxy.steady apart parsed
        ∙ ap (λ x. Some (Elsewhere x)) (around-mark t proxy.text.mark)

-- the address of an object in another resource leads to a proxy with this address
pub target-address : (uri u rest : List ℕ) (p : Path) → IsWebUri u → (u ≡ uri → ⊥) → parse rest ≡ Some p → target (base_of uri) (address_text u rest) ≡ Some (Elsewhere (address_text u rest))
target-address uri u rest p web apart parsed =
    target-proxy uri (address_text u rest) (steady_proxy u rest p web parsed) (λ same. apart (sym (uri-of_address u rest (web_joined u web)) ∙ same))
