-- A document that is read agrees with its metamodel.
use Rattle.std.proofs.Common.{◌≡◌, ◌∙◌, ◌<◌, ◌≤◌, ℕ, ℤ, Bool, true, false, List, [], ◌∷◌, Option, Some, None, length, map, refl, sym, ap, subst, arith}
use Rattle.std.specs.Prelude.{◌&&◌, IfSome, filter_map, if◌then◌else◌, int_le, nat_le, negsuc, option_map, pos, slice_get, unwrap_or}
use Rattle.std.specs.List.{All, AllByRecursion, IsDistinct, enumerate_from, list_any}
use Rattle.std.specs.Option.{option_map_or}
use Rattle.std.proofs.lemmas.Bool.{and_from, and_parts, false≢true, not-false, or_parts}
use Rattle.std.proofs.lemmas.Bool.Decides.{nat_tests}
use Rattle.std.proofs.lemmas.List.{length-map}
use Rattle.std.proofs.lemmas.List.FromFn.{length-enumerate_from}
use Rattle.std.proofs.lemmas.List.Elements.{All-from_recursion}
use Rattle.std.proofs.lemmas.Option.{same_Some}
use Rattle.serde_json.specs.Data.{Data}
use Rattle.mm_types.specs.Lookups as lookups
use Rattle.mm_types.specs.OfDocument.{IsOfDocument}
use Rattle.mm_types.specs.Resolved.{Metamodel}
use Rattle.mm_types.specs.Same.{same_value}
use Rattle.mm_types.specs.Shapes.{Shape, contents_shape, is_bounded, shape}
use Rattle.mm_types.specs.declared.feature.Feature.{Feature}
use Rattle.mm_types.specs.declared.limits.TheConstants.{LIST_VALUES}
use Rattle.mm_types.specs.declared.numbers.ClassNo.{ClassNo}
use Rattle.mm_types.specs.declared.numbers.ObjectNo.{ObjectNo}
use Rattle.mm_types.specs.declared.value.Value.{Value}
use Rattle.models.specs.Legal.{IsUniqueList}
use Rattle.web_uris.specs.declared.path.Path.{Path}
use Rattle.doc_parts.specs.Faults.{is_long, of_entry}
use Rattle.doc_parts.specs.Parts.{Entry, Part, entries, number_of, parts, root_parts, values_of}
use Rattle.doc_parts.proofs.WayLemmas.{number_below}
use Rattle.resource_docs.specs.Causes.{IsRead, has_many_roots, has_repeat, repeats_value}
use Rattle.resource_docs.specs.Read.{doc_read, object_read, root_number, values_read}
use Rattle.resource_docs.specs.Texts.{Base, base_of}
use Rattle.resource_docs.specs.Values.{value_of}
use Rattle.resource_docs.specs.declared.doc.Content.{Content}
use Rattle.resource_docs.specs.declared.doc.Doc.{Doc}
use Rattle.resource_docs.specs.declared.doc.DocObject.{DocObject}
use Rattle.doc_loader.specs.Typed.{IsTyped, IsTypedContent, IsTypedObject, IsTypedValue}
use Rattle.doc_loader.proofs.CauseLemmas.{IsFaultless, read-faultless}
use Rattle.doc_loader.proofs.DocSoundLemmas.{objects-are, roots-read}
use Rattle.doc_loader.proofs.FitLemmas.{all-filtered, few-filtered}
use Rattle.doc_loader.proofs.NameLemmas.{names-apart}
use Rattle.doc_loader.proofs.PairLemmas.{all-and, all-at, all-from_at}
use Rattle.doc_loader.proofs.SoundLemmas.{IsSort, IsThere, all-none}
use Rattle.doc_loader.proofs.StandingLemmas.{contained-conforms, entries-have, entry-content, part-class}
use Rattle.doc_loader.proofs.TypedValueLemmas.{HasClasses, IsEntry, IsTaken, typed-value, values-taken}
use Rattle.doc_loader.proofs.WholeLemmas.{NamesAreApart}
use Rattle.doc_loader.proofs.WrittenLemmas.{known-at, none-of, object-at, read-at, written}

---------------------------------------------------------------- lists

pub int-less : (u : ℤ) (k n : ℕ) → k ≤ n → int_le (pos n) u ≡ true → int_le (pos k) u ≡ true
int-less (pos u) k n le h = grind (arith, nat_tests)
int-less (negsuc u) k n le h = absurd (false≢true h)

-- fewer values are no more than a list may have
pub bounded-less : (a : Shape) (k n : ℕ) → k ≤ n → is_bounded a n ≡ true → is_bounded a k ≡ true
bounded-less a k n le h =
    let both = and_parts (nat_le n LIST_VALUES) (if int_le (pos 1) a.upper then int_le (pos n) a.upper else true) h in
    let few : nat_le k LIST_VALUES ≡ true = let most = both.0 in grind (arith, nat_tests) in
    and_from (nat_le k LIST_VALUES) (if int_le (pos 1) a.upper then int_le (pos k) a.upper else true) few (by (int_le (pos 1) a.upper) both.1)
  where
    by : (b : Bool) → (if b then int_le (pos n) a.upper else true) ≡ true → (if b then int_le (pos k) a.upper else true) ≡ true
    by true within = int-less a.upper k n le within
    by false within = refl

unique-list : (b : Bool) (vs : List Value) → b && repeats_value vs ≡ false → IsUniqueList b vs
unfolding IsDistinct
unique-list false vs none = tt
unique-list true [] none = tt
unique-list true (v ∷ vs) none = let r = or_parts (list_any (same_value v) vs) (repeats_value vs) none in (all-none (same_value v) vs r.0, unique-list true vs r.1)

-- no more values are read than are written
few-read : (m : Metamodel) (b : Base) (ps : List Part) (path : Path) (e : Entry) → length (values_read m b ps path e) ≤ length (values_of m e)
few-read m b ps path e = by (lookups.feature m e.feature)
  where
    by : (o : Option Feature) → length (option_map_or (λ g. filter_map (value_of m b ps path e.feature g.kind) (enumerate_from 0 (values_of m e))) o []) ≤ length (values_of m e)
    by None = omega arith
    by (Some g) =
        let few = few-filtered (value_of m b ps path e.feature g.kind) (enumerate_from 0 (values_of m e)) in
        let same = length-enumerate_from 0 (values_of m e) in
        omega (arith, few, same)

---------------------------------------------------------------- objects

module _ (m : Metamodel) (names : NamesAreApart m) (b : Base) (d : Data) (doc : Doc) (objects : doc.objects ≡ map (object_read m b (parts m d)) (parts m d)) (faultless : IsFaultless m d doc) where
  classes : HasClasses m doc (parts m d)
  classes n q at = ap (option_map (λ (x : DocObject). x.class)) (read-at m b (parts m d) doc objects n q at)

  entry-bounded : (k i : ℕ) (p : Part) (e : Entry) → slice_get (parts m d) k ≡ Some p → slice_get (entries m p.json) i ≡ Some e → is_bounded (shape m e.feature) (length (values_of m e)) ≡ true
  entry-bounded k i p e here there =
      let short = (or_parts (has_many_roots m d) (of_entry m (is_long m) (parts m d)) faultless.long).1 in
      let each = all-at (λ q. list_any (is_long m) (entries m q.json) ≡ false) (parts m d) k p (all-none (λ q. list_any (is_long m) (entries m q.json)) (parts m d) short) here in
      not-false (is_bounded (shape m e.feature) (length (values_of m e))) (all-at (λ e. is_long m e ≡ false) (entries m p.json) i e (all-none (is_long m) (entries m p.json) each) there)

  typed-content : (o : ObjectNo) (c : Content) (there : IsThere doc o c) → IsTypedContent m doc there.object.class c
  typed-content o c there =
      let ps = parts m d in
      let w = written m b ps doc objects o c there in
      let e = w.entry in
      let class = part-class m names d faultless.form o.0 w.part w.here in
      let read : object_read m b ps w.part ≡ there.object = same_Some (object_read m b ps w.part) there.object (sym (read-at m b ps doc objects o.0 w.part w.here) ∙ there.at) in
      let own : class.0 ≡ there.object.class = sym (ap (λ (x : Option ClassNo). unwrap_or x (record { 0 = 0 })) class.1) ∙ ap (λ (x : DocObject). x.class) read in
      let has = all-at (λ (x : Entry). lookups.has_feature m class.0 x.feature ≡ true) (entries m w.part.json) w.index e (entries-have m w.part.json class.0 class.1) w.there in
      let fine : IsEntry m ps w.part.path e = record {
        content = entry-content m names d faultless.form o.0 w.index w.part e w.here w.there;
        contained = λ n k g target opposite known kind number. contained-conforms m names d faultless.form o.0 w.index n k w.part e g target opposite w.here w.there known kind number;
      } in
      let taken = subst (λ (x : Content). AllByRecursion (IsTaken m doc x.feature) x.values) w.is (values-taken m b ps doc classes w.part.path e fine) in
      let sorts = (known-at m b ps doc objects o c there w).sorts in
      let bounded = bounded-less (shape m e.feature) (length (values_read m b ps w.part.path e)) (length (values_of m e)) (few-read m b ps w.part.path e) (entry-bounded o.0 w.index w.part e w.here w.there) in
      record {
        has = subst (λ (x : Content). lookups.has_feature m there.object.class x.feature ≡ true) w.is (subst (λ (x : ClassNo). lookups.has_feature m x e.feature ≡ true) own has);
        takes = All-from_recursion (IsTypedValue m doc c.feature) c.values (all-and (IsSort (shape m c.feature)) (IsTaken m doc c.feature) (IsTypedValue m doc c.feature) c.values (typed-value m doc c.feature) sorts taken);
        bounded = subst (λ (x : Content). is_bounded (shape m x.feature) (length x.values) ≡ true) w.is bounded;
        unique = unique-list (shape m c.feature).is_unique c.values (none-of doc (λ o c. has_repeat m c) faultless.repeats o c there);
        some = w.some;
      }

  typed-object : (n : ℕ) (x : DocObject) → slice_get doc.objects n ≡ Some x → IsTypedObject m doc x
  typed-object n x at =
      let p = object-at m b (parts m d) doc objects n x at in
      let class = part-class m names d faultless.form n p.0 p.1 in
      let own : class.0 ≡ x.class = sym (ap (λ (o : Option ClassNo). unwrap_or o (record { 0 = 0 })) class.1) ∙ ap (λ (y : DocObject). y.class) p.2 in
      record {
        concrete = subst (λ (c : ClassNo). lookups.is_concrete m c ≡ true) own class.2;
        contents = All-from_recursion (IsTypedContent m doc x.class) x.contents
            (all-from_at (IsTypedContent m doc x.class) x.contents (λ i c there. typed-content (record { 0 = n }) c (record { object = x; at = at; index = i; in_object = there })));
      }

---------------------------------------------------------------- documents

root-below : (l : ℕ) (o : Option ℕ) → ((n : ℕ) → o ≡ Some n → n < l) → IfSome (option_map (λ (n : ℕ). record { 0 = n }) o) (λ (x : ObjectNo). x.0 < l)
root-below l None below = tt
root-below l (Some n) below = below n refl

doc-typed : (m : Metamodel) → NamesAreApart m → (b : Base) (d : Data) (doc : Doc) → doc ≡ doc_read m b d → IsFaultless m d doc → IsTyped m doc
doc-typed m names b d doc is faultless =
    let ps = parts m d in
    let objects : doc.objects ≡ map (object_read m b ps) ps = ap (λ (x : Doc). x.objects) is ∙ objects-are m b d in
    let roots : doc.roots ≡ filter_map (λ p. root_number ps p.path) (root_parts d) = ap (λ (x : Doc). x.roots) is ∙ roots-read m b d in
    let long : length doc.objects ≡ length ps = ap (λ (xs : List DocObject). length xs) objects ∙ length-map ps (object_read m b ps) in
    let few = not-false (is_bounded (contents_shape m) (length (root_parts d))) (or_parts (has_many_roots m d) (of_entry m (is_long m) ps) faultless.long).0 in
    record {
      objects = All-from_recursion (IsTypedObject m doc) doc.objects (all-from_at (IsTypedObject m doc) doc.objects (typed-object m names b d doc objects faultless));
      roots = subst (λ (rs : List ObjectNo). All (λ (o : ObjectNo). o.0 < length doc.objects) rs) (sym roots)
          (all-filtered (λ (o : ObjectNo). o.0 < length doc.objects) (λ p. root_number ps p.path) (root_parts d)
          (λ p. root-below (length doc.objects) (number_of ps p.path) (λ n number. subst (λ (l : ℕ). n < l) (sym long) (number_below p.path ps n number))));
      few_roots = subst (λ (rs : List ObjectNo). is_bounded (contents_shape m) (length rs) ≡ true) (sym roots)
          (bounded-less (contents_shape m) (length (filter_map (λ p. root_number ps p.path) (root_parts d))) (length (root_parts d)) (few-filtered (λ p. root_number ps p.path) (root_parts d)) few);
    }

pub read-typed : (m : Metamodel) (uri : List ℕ) (doc : Doc) → IsOfDocument m → IsRead m uri doc → IsTyped m doc
read-typed m uri doc accepted read =
    let right = read-faultless m uri doc read in
    doc-typed m (names-apart m accepted) (base_of uri) read.source doc (sym right.0) (subst (IsFaultless m read.source) right.0 right.1)
