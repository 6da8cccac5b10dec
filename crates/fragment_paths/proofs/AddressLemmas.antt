-- The path, the fragment and the address of an object lead to that object.
use Rattle.std.proofs.Common.{◌≡◌, ℕ, zero, suc, ◌+◌, Bool, true, false, cond, nat_lt, List, [], ◌∷◌, length, slice_get, slice_index_or, Some, None, option_map, inl, inr, arith, refl, sym, ap, ◌∙◌, subst}
use Rattle.std.specs.Prelude.{option_and_then, not, if◌then◌else◌}
use Rattle.std.specs.List.{All, AllByRecursion, IsDistinct, list_any, position_or_len}
use Rattle.std.specs.Str.{bytes_eq}
use Rattle.std.proofs.lemmas.Bool.{false≢true, lt-ltb, ltb-true, or_right}
use Rattle.std.proofs.lemmas.List.Elements.{All-head, All-tail}
use Rattle.std.proofs.lemmas.List.Folds.{list_any-append}
use Rattle.std.proofs.lemmas.Option.{none-some, same_Some, slice_get-get_or, slice_get_within}
use Rattle.std.proofs.lemmas.Slice.Eq.{bytes_eq-Decides}
use Rattle.mm_types.specs.declared.numbers.ObjectNo.{ObjectNo}
use Rattle.mm_types.specs.declared.numbers.ResourceNo.{ResourceNo}
use Rattle.models.specs.Legal.{IsLegal}
use Rattle.models.specs.Model.{Model, reading}
use Rattle.models.specs.Reading.{Reading, resource_named}
use Rattle.containment.specs.Above.{resource_of}
use Rattle.web_uris.specs.Addresses.{address_text, fragment_part, has_mark, uri_part}
use Rattle.web_uris.specs.Joined.{IsJoined, is_mark}
use Rattle.web_uris.specs.Paths.{Writes, path_text}
use Rattle.web_uris.proofs.AddressFacts.{joined_unmarked}
use Rattle.web_uris.proofs.CutLemmas.{after_around, before_around}
use Rattle.web_uris.proofs.PathFacts.{parse-Writes}
use Rattle.fragment_paths.specs.Finding.{at, find, found_by}
use Rattle.fragment_paths.specs.Fragments as fragments
use Rattle.fragment_paths.specs.Fragments.{has_one_root, path_of}
use Rattle.fragment_paths.specs.Laws.{IsFound}
use Rattle.fragment_paths.proofs.FoundLemmas.{IsLocated, located-object}

---------------------------------------------------------------- the resource of a URI

uri-at : (us : List (List ℕ)) (k : ℕ) (u : List ℕ) → All IsJoined us → slice_get us k ≡ Some u → IsJoined u
uri-at [] k u all h = absurd (none-some u h)
uri-at (w ∷ ws) zero u all h = subst IsJoined (same_Some w u h) (All-head IsJoined w ws all)
uri-at (w ∷ ws) (suc k) u all h = uri-at ws k u (All-tail IsJoined w ws all) h

apart-at : (w u : List ℕ) (us : List (List ℕ)) (k : ℕ) → AllByRecursion (λ y. bytes_eq w y ≡ false) us → slice_get us k ≡ Some u → bytes_eq u w ≡ false
apart-at w u [] k all h = absurd (none-some u h)
apart-at w u (y ∷ ys) zero all h = elim (bytes_eq u w) as (λ b. bytes_eq u w ≡ b → b ≡ false) [
  | true ↦ λ same. absurd (false≢true (sym all.0 ∙ (bytes_eq-Decides w y).1 (sym ((bytes_eq-Decides u w).0 same) ∙ sym (same_Some y u h))))
  | false ↦ λ _. refl
] refl
apart-at w u (y ∷ ys) (suc k) all h = apart-at w u ys k all.1 h

one-more : (a b : ℕ) → a ≡ b → 1 + a ≡ suc b
one-more a b h = omega arith

-- if all URIs are different, each is found at its own index
first-at : (us : List (List ℕ)) (k : ℕ) (u : List ℕ) → IsDistinct bytes_eq us → slice_get us k ≡ Some u → position_or_len (bytes_eq u) us ≡ k
unfolding IsDistinct
first-at [] k u distinct h = absurd (none-some u h)
first-at (w ∷ ws) zero u distinct h = ap (λ b. cond (not b) (1 + position_or_len (bytes_eq u) ws) 0) ((bytes_eq-Decides u w).1 (sym (same_Some w u h)))
first-at (w ∷ ws) (suc k) u distinct h =
    ap (λ b. cond (not b) (1 + position_or_len (bytes_eq u) ws) 0) (apart-at w u ws k distinct.0 h) ∙ one-more _ _ (first-at ws k u distinct.1 h)

pub named-at : (r : Reading) (k : ResourceNo) (u : List ℕ) → IsDistinct bytes_eq r.uris → slice_get r.uris k.0 ≡ Some u → resource_named r u ≡ Some k
named-at r k u distinct h =
    let below = slice_get_within r.uris k.0 u h in
    ap (λ i. option_map (λ j. record { 0 = j }) (cond (nat_lt i (length r.uris)) (Some i) None)) (first-at r.uris k.0 u distinct h)
    ∙ ap (λ b. option_map (λ j. record { 0 = j }) (cond b (Some k.0) None)) (lt-ltb k.0 (length r.uris) below)

---------------------------------------------------------------- what is found

-- in an address with a URI that joining gives, the fragment after it is found
pub at-address : (r : Reading) (k : ResourceNo) (u f : List ℕ) → IsJoined u → resource_named r u ≡ Some k → at r (address_text u f) ≡ found_by r k f
at-address r k u f is named =
    let none = joined_unmarked u is in
    let t = address_text u f in
    let marked : has_mark t ≡ true = list_any-append is_mark u (35 ∷ f) ∙ or_right (list_any is_mark u) (list_any is_mark (35 ∷ f)) refl in
    ap (λ (b : Bool). if b then option_and_then (λ j. found_by r j (fragment_part t)) (resource_named r (uri_part t)) else None) marked
    ∙ ap (λ x. option_and_then (λ j. found_by r j (fragment_part t)) (resource_named r x)) (before_around is_mark u 35 f none refl)
    ∙ ap (option_and_then (λ j. found_by r j (fragment_part t))) named
    ∙ ap (found_by r k) (after_around is_mark u 35 f none refl)

written : (b : Bool) (s : Model) (o : ObjectNo) (k : ResourceNo) (l : IsLocated s o k) → has_one_root (reading s) k ≡ b → Writes (path_text b l.path) l.path
written true s o k l one = (l.writable, inr (refl, l.first one))
written false s o k l one = (l.writable, inl refl)

module _ (s : Model) (legal : IsLegal s) (o : ObjectNo) (k : ResourceNo) (inside : resource_of (reading s).above o ≡ Some k) where
  here : IsLocated s o k
  here = located-object s legal o k inside

  text : List ℕ
  text = path_text (has_one_root (reading s) k) here.path

  fragment-is : fragments.fragment (reading s) o ≡ Some text
  unfolding text
  fragment-is =
      ap (option_and_then (λ j. option_map (path_text (has_one_root (reading s) j)) (path_of (reading s) o))) inside
      ∙ ap (option_map (path_text (has_one_root (reading s) k))) here.is

  text-finds : found_by (reading s) k text ≡ Some o
  unfolding text
  text-finds = ap (option_and_then (find (reading s) k)) (parse-Writes text here.path (written (has_one_root (reading s) k) s o k here refl)) ∙ here.finds

  uri : List ℕ
  uri = slice_index_or (reading s).uris k.0 []

  uri-is : slice_get (reading s).uris k.0 ≡ Some uri
  unfolding uri
  uri-is = slice_get-get_or (reading s).uris k.0 [] (ltb-true k.0 (length (reading s).uris) here.there)

  address-is : fragments.address (reading s) o ≡ Some (address_text uri text)
  address-is =
      ap (option_and_then (λ (j : ResourceNo). option_and_then (λ u. option_map (address_text u) (fragments.fragment (reading s) o)) (slice_get (reading s).uris j.0))) inside
      ∙ ap (option_and_then (λ u. option_map (address_text u) (fragments.fragment (reading s) o))) uri-is
      ∙ ap (option_map (address_text uri)) fragment-is

  pub object-found : IsFound (reading s) o k
  object-found = record {
    by_path = ap (option_and_then (find (reading s) k)) here.is ∙ here.finds;
    by_fragment = ap (option_and_then (found_by (reading s) k)) fragment-is ∙ text-finds;
    by_address =
        ap (option_and_then (at (reading s))) address-is
        ∙ at-address (reading s) k uri text (uri-at (reading s).uris k.0 uri legal.uris.joined uri-is) (named-at (reading s) k uri legal.uris.distinct uri-is)
        ∙ text-finds;
  }
