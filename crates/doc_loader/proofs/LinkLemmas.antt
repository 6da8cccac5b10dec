-- The edits that were made, and the edits that are left to make.
use Rattle.std.proofs.Common.{◌≡◌, ◌∙◌, ◌+◌, ◌<◌, ◌++◌, Bool, true, false, List, [], ◌∷◌, Option, Some, None, ℕ, ap, append_assoc, append-nil, cond, drop, get_or, length, map, refl, sym}
use Rattle.std.specs.Prelude.{◌&&◌, flat_map, is_some, not, unwrap_or}
use Rattle.std.specs.List.{enumerate_from, list_any}
use Rattle.std.specs.Option.{option_map_or}
use Rattle.std.proofs.lemmas.Bool.{false≢true}
use Rattle.std.proofs.lemmas.List.{drop_more}
use Rattle.mm_types.specs.Resolved.{Metamodel}
use Rattle.mm_types.specs.Shapes.{shape}
use Rattle.mm_types.specs.declared.numbers.FeatureNo.{FeatureNo}
use Rattle.mm_types.specs.declared.numbers.ObjectNo.{ObjectNo}
use Rattle.mm_types.specs.declared.numbers.ResourceNo.{ResourceNo}
use Rattle.mm_types.specs.declared.end.End.{End}
use Rattle.links.specs.declared.plan.Edit.{Edit}
use Rattle.resource_docs.specs.declared.doc.Content.{Content}
use Rattle.resource_docs.specs.declared.doc.Doc.{Doc}
use Rattle.resource_docs.specs.declared.doc.DocObject.{DocObject}
use Rattle.doc_loader.specs.LoadEdits.{far_edits, in_order, is_ascending_from, is_higher, is_unordered, load_edits, near_edits, proxy_edits, proxy_puts, put_at, puts_again}
use Rattle.doc_loader.specs.Loading.{object_end, of_object}
use Rattle.doc_loader.specs.Pairs.{lower_of}
use Rattle.doc_loader.specs.ListIndexes.{all_indexes, found_at, last_index, index_at, index_among}
use Rattle.doc_loader.proofs.FitLemmas.{or-left, or-right}
use Rattle.models.specs.declared.reference_key.ReferenceKey.{ReferenceKey}
use Rattle.doc_loader.specs.declared.indexes.ListIndexes.{ListIndexes}
use Rattle.models.specs.Reading.{contents_end}

pub made_numbered-more : {X Y : Type 0} (f : ℕ × X → List Y) (xs : List X) (i : ℕ) (x : X) (old new whole : List Y) → i < length xs → x ≡ get_or xs i x → new ≡ old ++ f (i, x)
    → old ++ flat_map f (enumerate_from i (drop i xs)) ≡ whole → new ++ flat_map f (enumerate_from (i + 1) (drop (i + 1) xs)) ≡ whole
made_numbered-more f xs i x old new whole below is more so_far =
    let rest = flat_map f (enumerate_from (i + 1) (drop (i + 1) xs)) in
    let left = drop_more xs i x below ∙ ap (λ y. y ∷ drop (i + 1) xs) (sym is) in
    ap (λ ys. ys ++ rest) more
    ∙ append_assoc old (f (i, x)) rest
    ∙ ap (λ ys. old ++ flat_map f (enumerate_from i ys)) (sym left)
    ∙ so_far

---------------------------------------------------------------- ends that are in order

in-order : (o : Option FeatureNo) (ascending : Bool) (made : FeatureNo → List Edit) → is_some o && not ascending ≡ false → option_map_or (λ f. cond ascending [] (made f)) o [] ≡ []
in-order None ascending made none = refl
in-order (Some f) true made none = refl
in-order (Some f) false made none = absurd (false≢true (sym none))

contents-in-order : (m : Metamodel) (n : ℕ) (index_of : ReferenceKey → ℕ) (o : ObjectNo) (cs : List Content) → list_any (is_unordered m) cs ≡ false → flat_map (far_edits m n index_of o) cs ≡ []
contents-in-order m n index_of o [] none = refl
contents-in-order m n index_of o (c ∷ cs) none =
    ap (λ es. es ++ flat_map (far_edits m n index_of o) cs)
    (in-order (lower_of (shape m c.feature) c.feature) (is_ascending_from 0 c.values) (λ f. flat_map (puts_again m n index_of o f) c.values) (or-left (is_unordered m c) (list_any (is_unordered m) cs) none))
    ∙ contents-in-order m n index_of o cs (or-right (is_unordered m c) (list_any (is_unordered m) cs) none)

objects-in-order : (m : Metamodel) (n : ℕ) (index_of : ReferenceKey → ℕ) (i : ℕ) (os : List DocObject) → list_any (λ o. list_any (is_unordered m) o.contents) os ≡ false
    → flat_map (of_object (far_edits m n index_of)) (enumerate_from i os) ≡ []
objects-in-order m n index_of i [] none = refl
objects-in-order m n index_of i (o ∷ os) none =
    let rest = list_any (λ x. list_any (is_unordered m) x.contents) os in
    ap (λ es. es ++ flat_map (of_object (far_edits m n index_of)) (enumerate_from (i + 1) os)) (contents-in-order m n index_of (record { 0 = i }) o.contents (or-left (list_any (is_unordered m) o.contents) rest none))
    ∙ objects-in-order m n index_of (i + 1) os (or-right (list_any (is_unordered m) o.contents) rest none)

-- if all ends are in order, no edit is left to make
pub nothing-left : (m : Metamodel) (n : ℕ) (index_of : ReferenceKey → ℕ) (os : List DocObject) (old : List Edit) → list_any (λ o. list_any (is_unordered m) o.contents) os ≡ false
    → old ≡ old ++ flat_map (of_object (far_edits m n index_of)) (enumerate_from 0 os)
nothing-left m n index_of os old none = sym (append-nil old) ∙ ap (λ es. old ++ es) (sym (objects-in-order m n index_of 0 os none))

---------------------------------------------------------------- no content under the higher feature of a pair

none-made : {X Y : Type 0} (p : X → Bool) (made : X → List Y) → ((x : X) → p x ≡ false → made x ≡ []) → (xs : List X) → list_any p xs ≡ false → flat_map made xs ≡ []
none-made p made nothing [] none = refl
none-made p made nothing (x ∷ xs) none =
    ap (λ ys. ys ++ flat_map made xs) (nothing x (or-left (p x) (list_any p xs) none)) ∙ none-made p made nothing xs (or-right (p x) (list_any p xs) none)

none-higher : (m : Metamodel) (made : ObjectNo → Content → List Edit) → ((o : ObjectNo) (c : Content) → is_higher m c ≡ false → made o c ≡ []) → (i : ℕ) (os : List DocObject)
    → list_any (λ o. list_any (is_higher m) o.contents) os ≡ false → flat_map (of_object made) (enumerate_from i os) ≡ []
none-higher m made nothing i [] none = refl
none-higher m made nothing i (o ∷ os) none =
    let rest = list_any (λ x. list_any (is_higher m) x.contents) os in
    ap (λ es. es ++ flat_map (of_object made) (enumerate_from (i + 1) os)) (none-made (is_higher m) (made (record { 0 = i })) (nothing (record { 0 = i })) o.contents (or-left (list_any (is_higher m) o.contents) rest none))
    ∙ none-higher m made nothing (i + 1) os (or-right (list_any (is_higher m) o.contents) rest none)

no-lower : {Y : Type 0} (o : Option FeatureNo) (made : FeatureNo → List Y) → is_some o ≡ false → option_map_or made o [] ≡ []
no-lower None made none = refl
no-lower (Some f) made none = absurd (false≢true (sym none))

-- then no link is put again, and no proxy is left to put
pub far-none : (m : Metamodel) (n : ℕ) (index_of : ReferenceKey → ℕ) (os : List DocObject) (old : List Edit) → list_any (λ o. list_any (is_higher m) o.contents) os ≡ false
    → old ≡ old ++ flat_map (of_object (far_edits m n index_of)) (enumerate_from 0 os)
far-none m n index_of os old none =
    sym (append-nil old)
    ∙ ap (λ es. old ++ es) (sym (none-higher m (far_edits m n index_of) (λ o c is. no-lower (lower_of (shape m c.feature) c.feature) (in_order m n index_of o c.values) is) 0 os none))

pub proxies-none : (m : Metamodel) (n : ℕ) (os : List DocObject) (old : List Edit) → list_any (λ o. list_any (is_higher m) o.contents) os ≡ false
    → old ≡ old ++ flat_map (of_object (proxy_edits m n)) (enumerate_from 0 os)
proxies-none m n os old none =
    sym (append-nil old)
    ∙ ap (λ es. old ++ es) (sym (none-higher m (proxy_edits m n) (λ o c is. ap (λ b. cond b (flat_map (proxy_puts (object_end n o c.feature)) (enumerate_from 0 c.values)) []) is) 0 os none))

---------------------------------------------------------------- all edits

indexes-found : (p : ListIndexes) (m : Metamodel) (os : List DocObject) → ((k : ReferenceKey) → index_at p k ≡ last_index (all_indexes m os) k) → found_at p ≡ index_among m os
indexes-found p m os known = λ i k. ap (λ (o : Option ℕ). unwrap_or o 0) (known k) i

pub far-found : (m : Metamodel) (n : ℕ) (os : List DocObject) (p : ListIndexes) (old new : List Edit) → ((k : ReferenceKey) → index_at p k ≡ last_index (all_indexes m os) k)
    → new ≡ old ++ flat_map (of_object (far_edits m n (found_at p))) (enumerate_from 0 os) → new ≡ old ++ flat_map (of_object (far_edits m n (index_among m os))) (enumerate_from 0 os)
far-found m n os p old new known made = made ∙ ap (λ index_of. old ++ flat_map (of_object (far_edits m n index_of)) (enumerate_from 0 os)) (indexes-found p m os known)

pub all_edits : (m : Metamodel) (n : ℕ) (k : ResourceNo) (doc : Doc) (end : End) (objects : List DocObject) (roots : List ObjectNo) (none with_roots with_near with_far all : List Edit)
    → objects ≡ doc.objects → roots ≡ doc.roots → end ≡ contents_end m k
    → none ≡ [] → with_roots ≡ none ++ map (λ x. put_at m n end x.0 x.1) (enumerate_from 0 roots)
    → with_near ≡ with_roots ++ flat_map (of_object (near_edits m n)) (enumerate_from 0 objects)
    → with_far ≡ with_near ++ flat_map (of_object (far_edits m n (index_among m doc.objects))) (enumerate_from 0 doc.objects)
    → all ≡ with_far ++ flat_map (of_object (proxy_edits m n)) (enumerate_from 0 objects)
    → all ≡ load_edits m n k doc
all_edits m n k doc end objects roots none with_roots with_near with_far all of_doc roots_of_doc at nothing by_roots by_near by_far by_proxies =
    let near : List DocObject → List Edit = λ os. flat_map (of_object (near_edits m n)) (enumerate_from 0 os) in
    let far : List Edit = flat_map (of_object (far_edits m n (index_among m doc.objects))) (enumerate_from 0 doc.objects) in
    let first : End → List ObjectNo → List Edit = λ e os. map (λ x. put_at m n e x.0 x.1) (enumerate_from 0 os) in
    let proxies : List DocObject → List Edit = λ os. flat_map (of_object (proxy_edits m n)) (enumerate_from 0 os) in
    by_proxies
    ∙ ap (λ es. es ++ proxies objects) (by_far ∙ ap (λ es. es ++ far) (by_near ∙ ap (λ es. es ++ near objects) (by_roots ∙ ap (λ es. es ++ first end roots) nothing)))
    ∙ append_assoc (first end roots ++ near objects) far (proxies objects)
    ∙ append_assoc (first end roots) (near objects) (far ++ proxies objects)
    ∙ ap (λ e. first e roots ++ (near objects ++ (far ++ proxies objects))) at
    ∙ ap (λ os. first (contents_end m k) os ++ (near objects ++ (far ++ proxies objects))) roots_of_doc
    ∙ ap (λ os. first (contents_end m k) doc.roots ++ (near os ++ (far ++ proxies os))) of_doc
