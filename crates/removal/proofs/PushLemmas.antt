-- Results that are added one after another.
use Rattle.std.proofs.Common.{◌≡◌, ℕ, ◌<◌, ◌≤◌, ◌+◌, Bool, true, false, cond, List, [], ◌∷◌, ◌++◌, length, drop, slice_get, slice_index_or, Option, Some, None, option_and_then, option_map, option_to_list, filter, flat_map, map, if◌then◌else◌, append_assoc, refl, sym, ap, ◌∙◌}
use Rattle.std.proofs.lemmas.List.{append-nil, drop_all, drop_more}
use Rattle.std.proofs.lemmas.Option.{slice_get-get_or}
use Rattle.mm_types.specs.Shapes.{shape}
use Rattle.mm_types.specs.declared.end.End.{End}
use Rattle.mm_types.specs.declared.value.Value.{Value}
use Rattle.mm_types.specs.declared.numbers.FeatureNo.{FeatureNo}
use Rattle.mm_types.specs.declared.numbers.Node.{Node}
use Rattle.mm_types.specs.declared.numbers.Node.TheVariants as node
use Rattle.mm_types.specs.declared.numbers.ObjectNo.{ObjectNo}
use Rattle.mm_types.specs.declared.value.Value.TheVariants as value
use Rattle.links.specs.Laws.{goes}
use Rattle.models.specs.Reading.{Reading, all_features_of, at_end, object_of}
use Rattle.containment.specs.Forest.{subtree}
use Rattle.removal.specs.Outer.{is_in_subtree, touched_ends}
use Rattle.removal.specs.Ranks.{HasGone, is_in}
use Rattle.removal.specs.TreeLinkEnds.{end_link_ends, node_link_ends, outer_link_ends, link_end, tree_link_ends}
use Rattle.removal.specs.declared.link_end.LinkEnd.{LinkEnd}
use Rattle.removal.specs.declared.numbers.Numbers.{Numbers}

module _ {X Y : Type 0} (f : X → List Y) where
  -- the results of one more element
  pub flat-step : (xs : List X) (i : ℕ) (d : X) (out new all : List Y) → i < length xs → new ≡ out ++ f (slice_index_or xs i d) → out ++ flat_map f (drop i xs) ≡ all → new ++ flat_map f (drop (i + 1) xs) ≡ all
  flat-step xs i d out new all low made whole =
      ap (λ ys. ys ++ flat_map f (drop (i + 1) xs)) made
      ∙ append_assoc out (f (slice_index_or xs i d)) (flat_map f (drop (i + 1) xs))
      ∙ ap (λ zs. out ++ flat_map f zs) (sym (drop_more xs i d low))
      ∙ whole

  pub flat-end : (xs : List X) (i : ℕ) (out all : List Y) → length xs ≤ i → out ++ flat_map f (drop i xs) ≡ all → out ≡ all
  flat-end xs i out all past whole = sym (ap (λ zs. out ++ flat_map f zs) (drop_all i xs past) ∙ append-nil out) ∙ whole

-- a filter, as a test of each element
pub flat-filter : {X Y : Type 0} (f : X → List Y) (p : X → Bool) (xs : List X) → flat_map (λ x. if p x then f x else []) xs ≡ flat_map f (filter p xs)
flat-filter f p [] = refl
flat-filter f p (x ∷ xs) = elim (p x) as (λ b. cond b (f x) [] ++ flat_map (λ x. if p x then f x else []) xs ≡ flat_map f (cond b (x ∷ filter p xs) (filter p xs))) [
  | true ↦ ap (λ ys. f x ++ ys) (flat-filter f p xs)
  | false ↦ flat-filter f p xs
]

-- all ends of a node are added
pub node-end : (r : Reading) (is_gone : Node → Bool) (x : ObjectNo) (fs : List FeatureNo) (i : ℕ) (out old : List LinkEnd) → fs ≡ all_features_of r (node.Object x) → length fs ≤ i
    → (let of_feature = λ (f : FeatureNo). if (shape r.metamodel f).is_reference then end_link_ends r is_gone (at_end (node.Object x) f) else [] in out ++ flat_map of_feature (drop i fs) ≡ old ++ flat_map of_feature fs)
    → out ≡ old ++ node_link_ends r is_gone x
node-end r is_gone x fs i out old is past whole =
    let refers = λ (f : FeatureNo). (shape r.metamodel f).is_reference in
    let at_feature = λ (f : FeatureNo). end_link_ends r is_gone (at_end (node.Object x) f) in
    let of_feature = λ (f : FeatureNo). if refers f then at_feature f else [] in
    flat-end of_feature fs i out (old ++ flat_map of_feature fs) past whole
    ∙ ap (λ ts. old ++ ts) (flat-filter at_feature refers fs ∙ ap (λ (gs : List FeatureNo). flat_map at_feature (filter refers gs)) is)

---------------------------------------------------------------- the links of one end

module _ (e : End) (p : Value → Bool) where
  -- the value at one position, if it passes
  named-first : (v : Value) (vs : List Value) → map (link_end e) (filter p (v ∷ [])) ++ map (link_end e) (filter p vs) ≡ map (link_end e) (filter p (v ∷ vs))
  named-first v vs = elim (p v) as (λ b. map (link_end e) (cond b (v ∷ []) []) ++ map (link_end e) (filter p vs) ≡ map (link_end e) (cond b (v ∷ filter p vs) (filter p vs))) [ true ↦ refl | false ↦ refl ]

  pub named-step : (vs : List Value) (k : ℕ) (out new all : List LinkEnd) (o : Option Value) → k < length vs → new ≡ out ++ map (link_end e) (filter p (option_to_list o)) → o ≡ slice_get vs k
      → out ++ map (link_end e) (filter p (drop k vs)) ≡ all → new ++ map (link_end e) (filter p (drop (k + 1) vs)) ≡ all
  named-step vs k out new all o low made is whole =
      let v = slice_index_or vs k value.Null in
      ap (λ ts. ts ++ map (link_end e) (filter p (drop (k + 1) vs))) (made ∙ ap (λ (x : Option Value). out ++ map (link_end e) (filter p (option_to_list x))) (is ∙ slice_get-get_or vs k value.Null low))
      ∙ append_assoc out (map (link_end e) (filter p (v ∷ []))) (map (link_end e) (filter p (drop (k + 1) vs)))
      ∙ ap (λ ts. out ++ ts) (named-first v (drop (k + 1) vs) ∙ ap (λ (ws : List Value). map (link_end e) (filter p ws)) (sym (drop_more vs k value.Null low)))
      ∙ whole

  pub named-end : (vs : List Value) (k : ℕ) (out all : List LinkEnd) → length vs ≤ k → out ++ map (link_end e) (filter p (drop k vs)) ≡ all → out ≡ all
  named-end vs k out all past whole = sym (ap (λ (ws : List Value). out ++ map (link_end e) (filter p ws)) (drop_all k vs past) ∙ append-nil out) ∙ whole

-- whether an object that was read is destroyed, by its value
pub goes-read : (g : Node → Bool) (x : Option Value) (q : Option ObjectNo) → q ≡ option_and_then object_of x → filter (goes g) (option_to_list (option_map value.Object q)) ≡ filter (goes g) (option_to_list x)
goes-read g x q read = ap (λ (o : Option ObjectNo). filter (goes g) (option_to_list (option_map value.Object o))) read ∙ by x
  where
    of_value : (v : Value) → filter (goes g) (option_to_list (option_map value.Object (object_of v))) ≡ filter (goes g) (v ∷ [])
    of_value (value.Object o) = refl
    of_value _ = refl

    by : (y : Option Value) → filter (goes g) (option_to_list (option_map value.Object (option_and_then object_of y))) ≡ filter (goes g) (option_to_list y)
    by None = refl
    by (Some v) = of_value v

-- whether an object is destroyed is known by its number
pub tree-gone : (r : Reading) (o : ObjectNo) (s : Numbers) (os : List ObjectNo) (es : List End) → HasGone r o s → os ≡ subtree r o → es ≡ touched_ends r o
    → flat_map (node_link_ends r (is_in s)) os ++ flat_map (outer_link_ends r (is_in s)) es ≡ tree_link_ends r o
tree-gone r o s os es has objects ends =
    let same : is_in s ≡ is_in_subtree r o = λ i n. has n i in
    ap (λ (xs : List ObjectNo). flat_map (node_link_ends r (is_in s)) xs ++ flat_map (outer_link_ends r (is_in s)) es) objects
    ∙ ap (λ (ds : List End). flat_map (node_link_ends r (is_in s)) (subtree r o) ++ flat_map (outer_link_ends r (is_in s)) ds) ends
    ∙ ap (λ (p : Node → Bool). flat_map (node_link_ends r p) (subtree r o) ++ flat_map (outer_link_ends r p) (touched_ends r o)) same
