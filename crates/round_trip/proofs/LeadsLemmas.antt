-- The text of a reference leads back to the object for which it was written, and no two objects have the same address.
use Rattle.std.proofs.Common.{◌≡◌, ◌∙◌, ℕ, Bool, true, false, List, [], length, slice_get, slice_index_or, Some, option_map, inl, inr, nat_eq, unwrap_or, refl, sym, ap, eq-eqb}
use Rattle.std.specs.Prelude.{option_and_then, if◌then◌else◌}
use Rattle.std.specs.Option.{option_map_or}
use Rattle.std.proofs.lemmas.Bool.{false≢true, ltb-true}
use Rattle.std.proofs.lemmas.Option.{option_and_then_some, same_Some, slice_get-get_or}
use Rattle.mm_types.specs.declared.numbers.ObjectNo.{ObjectNo}
use Rattle.mm_types.specs.declared.numbers.ResourceNo.{ResourceNo}
use Rattle.models.specs.Legal.{IsLegal}
use Rattle.models.specs.Model.{Model, reading}
use Rattle.models.specs.Reading.{resource_named}
use Rattle.models.specs.Steady.{HasSteadyTexts}
use Rattle.containment.specs.Above.{resource_of}
use Rattle.web_uris.specs.Addresses.{address_text}
use Rattle.web_uris.specs.Paths.{IsWritable, new_path, parse, path_text}
use Rattle.web_uris.specs.declared.path.Path.{Path}
use Rattle.web_uris.proofs.PathFacts.{parse-Writes}
use Rattle.fragment_paths.specs.Finding.{at}
use Rattle.fragment_paths.specs.Fragments.{address, fragment, has_one_root, is_in, path_of}
use Rattle.fragment_paths.proofs.AddressLemmas.{named-at, object-found}
use Rattle.fragment_paths.proofs.FoundLemmas.{IsLocated, located-object}
use Rattle.doc_writer.specs.Document.{reference_text}
use Rattle.resource_docs.specs.Texts.{base_of, target}
use Rattle.resource_docs.specs.declared.referent.Referent.TheVariants.{Here, Elsewhere}
use Rattle.round_trip.specs.TextsLaws.{LeadsBack, target_of}
use Rattle.round_trip.proofs.TextsTargetLemmas.{target-address, target-fragment, target-proxy}
use Rattle.round_trip.proofs.UnmarkedLemmas.{path-unmarked}

-- the text of a path that can be written is read as that path
path-read : (b : Bool) (p : Path) → IsWritable p → (b ≡ true → p.root ≡ 0) → parse (path_text b p) ≡ Some p
path-read true p can first = parse-Writes (path_text true p) p (can, inr (refl, first refl))
path-read false p can first = parse-Writes (path_text false p) p (can, inl refl)

---------------------------------------------------------------- what is written

-- the text of the path of an object that is in resource j
abbrev text_in : (s : Model) (o : ObjectNo) (j : ResourceNo) → IsLocated s o j → List ℕ
text_in s o j l = path_text (has_one_root (reading s) j) l.path

module _ (s : Model) (o : ObjectNo) (j : ResourceNo) (inside : resource_of (reading s).above o ≡ Some j) (l : IsLocated s o j) where
  fragment-is : fragment (reading s) o ≡ Some (text_in s o j l)
  fragment-is =
      ap (option_and_then (λ i. option_map (path_text (has_one_root (reading s) i)) (path_of (reading s) o))) inside
      ∙ ap (option_map (path_text (has_one_root (reading s) j))) l.is

  address-is : (u : List ℕ) → slice_get (reading s).uris j.0 ≡ Some u → address (reading s) o ≡ Some (address_text u (text_in s o j l))
  address-is u uri-is =
      ap (option_and_then (λ (i : ResourceNo). option_and_then (λ v. option_map (address_text v) (fragment (reading s) o)) (slice_get (reading s).uris i.0))) inside
      ∙ ap (option_and_then (λ v. option_map (address_text v) (fragment (reading s) o))) uri-is
      ∙ ap (option_map (address_text u)) fragment-is

  text-read : parse (text_in s o j l) ≡ Some l.path
  text-read = path-read (has_one_root (reading s) j) l.path l.writable l.first

---------------------------------------------------------------- where it leads

module _ (s : Model) (legal : IsLegal s) where
  -- resources with different numbers have different URIs
  two-uris : (j k : ResourceNo) (u w : List ℕ) → nat_eq j.0 k.0 ≡ false → slice_get (reading s).uris j.0 ≡ Some u → slice_get (reading s).uris k.0 ≡ Some w → u ≡ w → ⊥
  two-uris j k u w other first second same =
      let one : j ≡ k = same_Some j k (sym (named-at (reading s) j u legal.uris.distinct first) ∙ ap (resource_named (reading s)) same ∙ named-at (reading s) k w legal.uris.distinct second) in
      false≢true (sym other ∙ eq-eqb j.0 k.0 (ap (λ (i : ResourceNo). i.0) one))

  object-leads : HasSteadyTexts s → (k : ResourceNo) (uri : List ℕ) → slice_get (reading s).uris k.0 ≡ Some uri → (o : ObjectNo) (j : ResourceNo) → resource_of (reading s).above o ≡ Some j
      → target (base_of uri) (reference_text (reading s) k o) ≡ Some (target_of (reading s) k o)
  object-leads steady k uri known o j inside = by (located-object s legal o j inside) (is_in (reading s) k o) refl
    where
      by : IsLocated s o j → (b : Bool) → is_in (reading s) k o ≡ b
          → target (base_of uri) (unwrap_or (if b then fragment (reading s) o else address (reading s) o) [])
          ≡ Some (if b then Here (unwrap_or (path_of (reading s) o) (new_path 0 [])) else Elsewhere (unwrap_or (address (reading s) o) []))
      by l true _ =
          ap (λ x. target (base_of uri) (unwrap_or x [])) (fragment-is s o j inside l)
          ∙ target-fragment uri (text_in s o j l) l.path (path-unmarked (has_one_root (reading s) j) l.path l.writable) (text-read s o j inside l)
          ∙ ap (λ x. Some (Here (unwrap_or x (new_path 0 [])))) (sym l.is)
      by l false out =
          let u = slice_index_or (reading s).uris j.0 [] in
          let below = ltb-true j.0 (length (reading s).uris) l.there in
          let uri-is : slice_get (reading s).uris j.0 ≡ Some u = slice_get-get_or (reading s).uris j.0 [] below in
          let other : nat_eq j.0 k.0 ≡ false = sym (ap (λ x. option_map_or (λ (i : ResourceNo). nat_eq i.0 k.0) x false) inside) ∙ out in
          let is = address-is s o j inside l u uri-is in
          ap (λ x. target (base_of uri) (unwrap_or x [])) is
          ∙ target-address uri u (text_in s o j l) l.path (steady.uris j.0 [] below) (two-uris j k u uri other uri-is known) (text-read s o j inside l)
          ∙ ap (λ x. Some (Elsewhere (unwrap_or x []))) (sym is)

  -- an address leads to its object
  address-finds : (o : ObjectNo) (t : List ℕ) → address (reading s) o ≡ Some t → at (reading s) t ≡ Some o
  address-finds o t is =
      option_and_then_some _ (resource_of (reading s).above o) t is
      (λ j inside _. ap (option_and_then (at (reading s))) (sym is) ∙ (object-found s legal o j inside).by_address)

  pub leads-back : HasSteadyTexts s → (k : ResourceNo) (uri : List ℕ) → slice_get (reading s).uris k.0 ≡ Some uri → LeadsBack (reading s) k uri
  leads-back steady k uri known = record {
    object = object-leads steady k uri known;
    proxy = target-proxy uri;
    one_address = λ a b t first second. same_Some a b (sym (address-finds a t first) ∙ address-finds b t second);
  }
