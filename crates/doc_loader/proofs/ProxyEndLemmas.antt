-- The proxies under the higher features of pairs, which their edits put at each end.
use Rattle.std.proofs.Common.{◌≡◌, ◌∙◌, ◌+◌, ◌++◌, ℕ, Bool, true, false, cond, if◌then◌else◌, List, [], ◌∷◌, Option, Some, None, refl, sym, ap, subst}
use Rattle.std.specs.Prelude.{◌&&◌, flat_map, is_some, nat_eq}
use Rattle.std.specs.List.{AllByRecursion, enumerate_from}
use Rattle.std.proofs.lemmas.Bool.{eqb-true, false_from_ne_true}
use Rattle.std.proofs.lemmas.Option.{none-some}
use Rattle.mm_types.specs.Resolved.{Metamodel}
use Rattle.mm_types.specs.Same.{same_end, same_feature}
use Rattle.mm_types.specs.Shapes.{shape}
use Rattle.mm_types.specs.declared.end.End.{End}
use Rattle.mm_types.specs.declared.numbers.FeatureNo.{FeatureNo}
use Rattle.mm_types.specs.declared.numbers.ObjectNo.{ObjectNo}
use Rattle.mm_types.specs.declared.value.Value.{Value}
use Rattle.mm_types.specs.declared.value.Value.TheVariants as value
use Rattle.links.proofs.PlaceLemmas.{ne-same_end}
use Rattle.links.specs.declared.plan.Edit.{Edit}
use Rattle.models.specs.Legal.{kinds_of}
use Rattle.resource_docs.specs.Read.{values_in}
use Rattle.resource_docs.specs.declared.doc.Content.{Content}
use Rattle.resource_docs.specs.declared.doc.Doc.{Doc}
use Rattle.doc_loader.specs.LoadEdits.{proxy_edits, proxy_puts}
use Rattle.doc_loader.specs.Loading.{object_end, of_contents, of_object}
use Rattle.doc_loader.specs.Pairs.{lower_of}
use Rattle.doc_loader.proofs.AgainLemmas.{IsNotHigher}
use Rattle.doc_loader.proofs.FillLemmas.{IsFill, fills, proxies_from}
use Rattle.doc_loader.proofs.GatherLemmas.{gathered-none, gathered-one}
use Rattle.doc_loader.proofs.PairLemmas.{all-every, all-flat_map}
use Rattle.doc_loader.proofs.SideLemmas.{IsHigher, higher, lower-is}
use Rattle.doc_loader.proofs.SoundLemmas.{AreSoundContents, IsSound, IsSoundContent}
use Rattle.doc_loader.proofs.TotalLemmas.{add-eq, nested}
use Rattle.mm_meta.proofs.ByNameLemmas.{numbered_alike}
use Rattle.mm_meta.proofs.OwnerLemmas.{nat_eq-turned}

abbrev Filled : Type 0
Filled = List (ℕ × List ℕ)

-- the proxies among values that are put at an end
values-filled : (d e : End) (i : ℕ) (vs : List Value) → flat_map (fills d) (flat_map (proxy_puts e) (enumerate_from i vs)) ≡ cond (same_end e d) (proxies_from i vs) []
values-filled d e i [] = both (same_end e d)
  where
    both : (t : Bool) → [] ≡ cond t (proxies_from i []) []
    both true = refl
    both false = refl
values-filled d e i (value.Proxy p ∷ vs) =
    ap (λ (xs : Filled). (if same_end e d then (i, p) ∷ [] else []) ++ xs) (values-filled d e (i + 1) vs) ∙ step (same_end e d)
  where
    step : (t : Bool) → (if t then (i, p) ∷ [] else []) ++ cond t (proxies_from (i + 1) vs) [] ≡ cond t ((i, p) ∷ proxies_from (i + 1) vs) []
    step true = refl
    step false = refl
values-filled d e i (value.Object o ∷ vs) = values-filled d e (i + 1) vs
values-filled d e i (value.Null ∷ vs) = values-filled d e (i + 1) vs
values-filled d e i (value.Bool b ∷ vs) = values-filled d e (i + 1) vs
values-filled d e i (value.Int b ∷ vs) = values-filled d e (i + 1) vs
values-filled d e i (value.Text b ∷ vs) = values-filled d e (i + 1) vs
values-filled d e i (value.Literal b ∷ vs) = values-filled d e (i + 1) vs

module _ (m : Metamodel) (n : ℕ) (doc : Doc) (sound : IsSound m doc) where
  abbrev puts_if : ObjectNo → Content → Option FeatureNo → List Edit
  puts_if o c low = if is_some low then flat_map (proxy_puts (object_end n o c.feature)) (enumerate_from 0 c.values) else []

  content-filled : (b : ObjectNo) (g f : FeatureNo) → IsHigher m sound.kinds g f → (o : ObjectNo) (c : Content) → IsSoundContent m doc o c
      → flat_map (fills (object_end n b g)) (proxy_edits m n o c) ≡ cond (same_feature g c.feature) (cond (nat_eq o.0 b.0) (proxies_from 0 c.values) []) []
  content-filled b g f high o c s = by (lower_of (shape m c.feature) c.feature) refl
    where
      by : (h : Option FeatureNo) → lower_of (shape m c.feature) c.feature ≡ h
          → flat_map (fills (object_end n b g)) (puts_if o c h) ≡ cond (same_feature g c.feature) (cond (nat_eq o.0 b.0) (proxies_from 0 c.values) []) []
      by None none =
          let other = false_from_ne_true (same_feature g c.feature) (λ q. none-some f (sym none ∙ subst (λ (x : FeatureNo). lower_of (shape m x) x ≡ Some f) (numbered_alike g c.feature (eqb-true g.0 c.feature.0 q)) (lower-is m sound.kinds g f high))) in
          ap (λ (t : Bool). cond t (cond (nat_eq o.0 b.0) (proxies_from 0 c.values) []) []) (sym other)
      by (Some h) is =
          values-filled (object_end n b g) (object_end n o c.feature) 0 c.values
          ∙ nested (nat_eq o.0 b.0) (same_feature g c.feature) (same_end (object_end n o c.feature) (object_end n b g)) (proxies_from 0 c.values) (λ i. (sym (add-eq n o.0 b.0) i) && (nat_eq-turned g.0 c.feature.0 i))

  pub filled-higher : (b : ObjectNo) (g f : FeatureNo) → IsHigher m sound.kinds g f → flat_map (fills (object_end n b g)) (of_contents (proxy_edits m n) doc) ≡ proxies_from 0 (values_in doc b g)
  filled-higher b g f high = gathered-one (proxy_edits m n) (fills (object_end n b g)) m doc sound b g (proxies_from 0) refl (content-filled b g f high)

  content-unfilled : (d : End) → IsNotHigher m n doc sound d → (o : ObjectNo) (c : Content) → IsSoundContent m doc o c → flat_map (fills d) (proxy_edits m n o c) ≡ []
  content-unfilled d stays o c s = by (lower_of (shape m c.feature) c.feature) refl
    where
      by : (h : Option FeatureNo) → lower_of (shape m c.feature) c.feature ≡ h → flat_map (fills d) (puts_if o c h) ≡ []
      by None none = refl
      by (Some h) is =
          values-filled d (object_end n o c.feature) 0 c.values
          ∙ ap (λ (t : Bool). cond t (proxies_from 0 c.values) []) (ne-same_end (object_end n o c.feature) d (stays o c.feature h (higher m sound.kinds c.feature h is)))

  pub filled-none : (d : End) → IsNotHigher m n doc sound d → flat_map (fills d) (of_contents (proxy_edits m n) doc) ≡ []
  filled-none d stays = gathered-none (proxy_edits m n) (fills d) m doc sound (content-unfilled d stays)

  ---------------------------------------------------------------- they fill

  puts-fill : (e : End) → (shape m e.feature).containing ≡ None → (x : ℕ × Value) → AllByRecursion (IsFill (kinds_of m)) (proxy_puts e x)
  puts-fill e plain (i, value.Proxy p) = (plain, tt)
  puts-fill e plain (i, value.Object o) = tt
  puts-fill e plain (i, value.Null) = tt
  puts-fill e plain (i, value.Bool b) = tt
  puts-fill e plain (i, value.Int b) = tt
  puts-fill e plain (i, value.Text b) = tt
  puts-fill e plain (i, value.Literal b) = tt

  content-fills : (o : ObjectNo) (c : Content) → AllByRecursion (IsFill (kinds_of m)) (proxy_edits m n o c)
  content-fills o c = by (lower_of (shape m c.feature) c.feature) refl
    where
      by : (h : Option FeatureNo) → lower_of (shape m c.feature) c.feature ≡ h → AllByRecursion (IsFill (kinds_of m)) (puts_if o c h)
      by None none = tt
      by (Some h) is =
          all-flat_map (λ (x : ℕ × Value). Unit {0}) (IsFill (kinds_of m)) (proxy_puts (object_end n o c.feature)) (enumerate_from 0 c.values)
          (λ x t. puts-fill (object_end n o c.feature) (higher m sound.kinds c.feature h is).plain x)
          (all-every (λ (x : ℕ × Value). Unit {0}) (enumerate_from 0 c.values) (λ x. tt))

  pub proxies-fill : AllByRecursion (IsFill (kinds_of m)) (of_contents (proxy_edits m n) doc)
  proxies-fill =
      all-flat_map (AreSoundContents m doc) (IsFill (kinds_of m)) (of_object (proxy_edits m n)) (enumerate_from 0 doc.objects)
      (λ y h. all-flat_map (IsSoundContent m doc (record { 0 = y.0 })) (IsFill (kinds_of m)) (proxy_edits m n (record { 0 = y.0 })) y.1.contents (λ c s. content-fills (record { 0 = y.0 }) c) h) sound.contents
