-- The document of a resource nests no deeper than JSON that can be read: three levels for each level of objects.
use Rattle.std.proofs.Common.{◌≡◌, ◌≤◌, ◌+◌, ◌*◌, ℕ, zero, suc, Bool, true, false, List, [], ◌∷◌, Ordering, Less, Equal, Greater, ap, arith, codes, length, map, refl, slice_get, subst, Some}
use Rattle.std.specs.Prelude.{Contains, if◌then◌else◌}
use Rattle.std.specs.Cmp.Lexicographic.{slice_cmp}
use Rattle.std.specs.List.{AllByRecursion}
use Rattle.std.specs.Ordering.{match_ordering, nat_cmp}
use Rattle.serde_json.specs.Data.{Data, Members, no_members, member, array, depth, items_depth, members_depth, number, object, put, string, unsigned}
use Rattle.serde_json.specs.View.{items_of}
use Rattle.mm_types.specs.Ends.{value_in}
use Rattle.mm_types.specs.Shapes.{is_containment, shape}
use Rattle.mm_types.specs.declared.numbers.FeatureNo.{FeatureNo}
use Rattle.mm_types.specs.declared.numbers.Node.{Node}
use Rattle.mm_types.specs.declared.numbers.Node.TheVariants as node
use Rattle.mm_types.specs.declared.numbers.ObjectNo.{ObjectNo}
use Rattle.mm_types.specs.declared.numbers.ResourceNo.{ResourceNo}
use Rattle.mm_types.specs.declared.value.Value.{Value}
use Rattle.mm_types.specs.declared.value.Value.TheVariants as value
use Rattle.models.specs.Legal.{IsLegal}
use Rattle.models.specs.Model.{Model, reading, values_at}
use Rattle.models.specs.Reading.{at_end}
use Rattle.containment.proofs.PartLemmas.{holder-at}
use Rattle.fragment_paths.specs.Finding.{roots}
use Rattle.fragment_paths.proofs.UpLemmas.{above-node}
use Rattle.doc_writer.specs.Document.{reference_text, class_name, content_data, document, feature_member, members_with, two_members, value_data}
use Rattle.doc_writer.specs.Written.{level, objects_in, written_features}
use Rattle.round_trip.specs.Parts.{data_of, features_data}
use Rattle.round_trip.proofs.LevelLemmas.{data-is}
use Rattle.round_trip.specs.PartsLaws.{AreParts}
use Rattle.round_trip.specs.ValuesLaws.{AreReadAs}
use Rattle.round_trip.proofs.InsideLemmas.{part-written}
use Rattle.round_trip.proofs.CopyLemmas.{root-inside}
use Rattle.round_trip.proofs.EndLemmas.{some-values, written-of}
use Rattle.round_trip.proofs.ListLemmas.{each-at, each-mapped, each-of}
use Rattle.round_trip.proofs.ShapeLemmas.{live-inside}

---------------------------------------------------------------- JSON

put-depth : (k : List ℕ) (d : Data) (ms : Members) (n : ℕ) → depth d ≤ n → members_depth ms ≤ n → members_depth (put k d ms) ≤ n
put-depth k d no_members n here low = omega (arith, here)
put-depth k d (member l e ms) n here low =
    by (slice_cmp nat_cmp k l) (put-depth k d ms n here (omega (arith, low)))
  where
    by : (o : Ordering) → members_depth (put k d ms) ≤ n → members_depth (match_ordering o (member k d (member l e ms)) (member l d ms) (member l e (put k d ms))) ≤ n
    by Less later = omega (arith, here, low)
    by Equal later = omega (arith, here, low)
    by Greater later = omega (arith, low, later)

with-depth : (xs : List (List ℕ × Data)) (ms : Members) (n : ℕ) → members_depth ms ≤ n → AllByRecursion (λ (x : List ℕ × Data). depth x.1 ≤ n) xs → members_depth (members_with ms xs) ≤ n
with-depth [] ms n low each = low
with-depth (x ∷ xs) ms n low each = with-depth xs (put x.0 x.1 ms) n (put-depth x.0 x.1 ms n each.0 low) each.1

two_members-depth : (k l : List ℕ) (d e : Data) (n : ℕ) → depth d ≤ n → depth e ≤ n → depth (two_members k d l e) ≤ suc n
two_members-depth k l d e n first second =
    let low = with-depth ((k, d) ∷ (l, e) ∷ []) no_members n (omega arith) (first, (second, tt)) in
    omega (arith, low)

items-depth : (ds : List Data) (n : ℕ) → AllByRecursion (λ d. depth d ≤ n) ds → items_depth (items_of ds) ≤ n
items-depth [] n each = omega arith
items-depth (d ∷ ds) n each = let here = each.0 in let low = items-depth ds n each.1 in omega (arith, here, low)

content-depth : (single : Bool) (v : Value → Data) (vs : List Value) (n : ℕ) → (single ≡ true → vs ≡ value_in vs 0 ∷ []) → AllByRecursion (λ w. depth (v w) ≤ n) vs
    → depth (if single then v (value_in vs 0) else array (items_of (map v vs))) ≤ suc n
content-depth true v vs n one each =
    let first = subst (AllByRecursion (λ w. depth (v w) ≤ n)) (one refl) each in
    let low = first.0 in
    omega (arith, low)
content-depth false v vs n one each = let low = items-depth (map v vs) n (each-mapped v (λ d. depth d ≤ n) vs each) in omega (arith, low)

---------------------------------------------------------------- objects

module _ (s : Model) (legal : IsLegal s) (k : ResourceNo) (uri : List ℕ) (found : AreParts (reading s) k) (read : AreReadAs (reading s) k uri) (shallow : (o : ObjectNo) → Contains (objects_in (reading s) k) o → level (reading s) o ≤ 40) where
  abbrev os : List ObjectNo
  os = objects_in (reading s) k

  abbrev made : ObjectNo → FeatureNo → Value → Data
  made o f = value_data (reading s) k (data_of (reading s) k) f

  -- a part of an object is in the resource too, one level deeper
  contained : (o c : ObjectNo) (f : FeatureNo) (i : ℕ) → Contains os o → is_containment s.metamodel f ≡ true → slice_get (values_at s (at_end (node.Object o) f)) i ≡ Some (value.Object c)
      → Contains os c × (level (reading s) c ≡ suc (level (reading s) o))
  contained o c f i inside contains at =
      let h = holder-at s legal (node.Object o) f contains i c at in (
        part-written s legal k o f i c inside contains at,
        ap (λ (ns : List Node). length ns) (above-node s legal c (at_end (node.Object o) f) (node.Object o) h refl),
      )

  value-depth : (n : ℕ) (o : ObjectNo) (f : FeatureNo) (i : ℕ) (v : Value) → ((c : ObjectNo) → Contains os c → level (reading s) c ≡ suc (level (reading s) o) → depth (data_of (reading s) k c) ≤ n)
      → Contains os o → slice_get (values_at s (at_end (node.Object o) f)) i ≡ Some v → depth (made o f v) ≤ n
  value-depth n o f i (value.Object c) below inside at =
      elim (is_containment s.metamodel f) as (λ b. is_containment s.metamodel f ≡ b → depth (if b then data_of (reading s) k c else string (reference_text (reading s) k c)) ≤ n) [
        | true ↦ λ contains. (let in_it = contained o c f i inside contains at in below c in_it.0 in_it.1)
        | false ↦ λ _. omega arith
      ] refl
  value-depth n o f i value.Null below inside at = omega arith
  value-depth n o f i (value.Bool b) below inside at = omega arith
  value-depth n o f i (value.Int z) below inside at = omega arith
  value-depth n o f i (value.Text t) below inside at = omega arith
  value-depth n o f i (value.Literal l) below inside at = omega arith
  value-depth n o f i (value.Proxy t) below inside at = omega arith

  -- the depth of an object: three levels for each level of objects that may still come
  object-depth : (j : ℕ) (o : ObjectNo) → Contains os o → 41 ≤ level (reading s) o + j → depth (data_of (reading s) k o) ≤ 3 * j
  object-depth zero o inside low = let most = shallow o inside in absurd (omega (arith, low, most))
  object-depth (suc j) o inside low =
      let r = reading s in
      let fs = written_features r o in
      let member-of = feature_member r k (data_of r k) o in
      let live = live-inside s legal o k (read.objects o inside).inside in
      let below : (c : ObjectNo) → Contains os c → level r c ≡ suc (level r o) → depth (data_of r k c) ≤ 3 * j = λ c there next. object-depth j c there (omega (arith, low, next)) in
      let content : (f : FeatureNo) → Contains fs f → depth (content_data r k (data_of r k) o f) ≤ suc (3 * j) = λ f there.
      content-depth (shape s.metamodel f).is_single (made o f) (values_at s (at_end (node.Object o) f)) (3 * j) (some-values s legal o f (written-of s legal o f there).set).one
      (each-at (λ v. depth (made o f v) ≤ 3 * j) (values_at s (at_end (node.Object o) f)) (λ i v at. value-depth (3 * j) o f i v below inside at)) in
      let features = with-depth (map member-of fs) no_members (suc (3 * j)) (omega arith) (each-mapped member-of (λ (x : List ℕ × Data). depth x.1 ≤ suc (3 * j)) fs (each-of _ fs content)) in
      let whole = two_members-depth (codes "class") (codes "features") (string (class_name r o)) (object (features_data r k o)) (suc (suc (3 * j))) (omega arith) (omega (arith, features)) in
      let same = ap depth (data-is s legal k o live) in
      omega (arith, whole, same)

  pub document-depth : depth (document (reading s) k) ≤ 127
  unfolding document
  document-depth =
      let r = reading s in
      let rs = roots r k in
      let each = each-of (λ o. depth (data_of r k o) ≤ 120) rs (λ o there.
      let inside = root-inside s legal k uri found read o there in
      let placed = (read.objects o inside).level in
      object-depth 40 o inside (omega (arith, placed))) in
      let low = items-depth (map (data_of r k) rs) 120 (each-mapped (data_of r k) (λ d. depth d ≤ 120) rs each) in
      let whole = two_members-depth (codes "format") (codes "roots") (number (unsigned 1)) (array (items_of (map (data_of r k) rs))) 121 (omega arith) (omega (arith, low)) in
      omega (arith, whole)
