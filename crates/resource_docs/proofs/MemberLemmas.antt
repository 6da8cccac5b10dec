-- As many contents as there are members: then each member is the content of a feature, and no other feature has a content.
use Rattle.std.proofs.Common.{◌≡◌, ◌∙◌, ◌≤◌, ◌++◌, ℕ, suc, Bool, true, false, cond, List, [], ◌∷◌, Bor, Option, Some, None, ap, arith, drop, inl, inr, length, map, refl, subst, sym, take}
use Rattle.std.specs.Prelude.{◌&&◌, filter, fold, is_some, not, option_map, unwrap_or, if◌then◌else◌}
use Rattle.std.specs.Cmp.Lexicographic.{nat_list_eq_equiv}
use Rattle.std.specs.List.{AllByRecursion, cons_option, filter_map, list_all}
use Rattle.std.specs.Option.{option_map_or}
use Rattle.std.specs.Set.{is_member}
use Rattle.std.specs.Str.{bytes_eq}
use Rattle.std.proofs.lemmas.Bool.{false≢true, false_from_ne_true, or_cases, or_left, or_right}
use Rattle.std.proofs.lemmas.List.{append-nil, length-append, length-map, nil_from_length, take-append-drop}
use Rattle.std.proofs.lemmas.List.Elements.{filter_map-append}
use Rattle.std.proofs.lemmas.Map.Keys.{IsDistinct-cons}
use Rattle.std.proofs.lemmas.Map.Made.{length-le_from_is_member}
use Rattle.std.proofs.lemmas.Slice.Eq.{bytes_eq-Decides}
use Rattle.serde_json.specs.Data.{Data, Members, no_members, put}
use Rattle.serde_json.specs.Find.{get_member}
use Rattle.serde_json.proofs.Views.{get_member-put_other}
use Rattle.borrowed_json.specs.View.{members_view, view}
use Rattle.borrowed_json.proofs.ViewLemmas.{Entry as Member}
use Rattle.mm_types.specs.Lookups as lookups
use Rattle.mm_types.specs.OfDocument.{IsOfDocument}
use Rattle.mm_types.specs.Resolved.{Metamodel}
use Rattle.mm_types.specs.declared.numbers.ClassNo.{ClassNo}
use Rattle.mm_types.specs.declared.numbers.FeatureNo.{FeatureNo}
use Rattle.mm_meta.proofs.OwnNameLemmas.{own-name}
use Rattle.doc_parts.specs.Faults.{is_readable}
use Rattle.doc_parts.specs.Parts.{entry_at, new_entry}
use Rattle.mm_meta.proofs.FeatureListLemmas.{class-features, names-distinct}

---------------------------------------------------------------- keys

keys : List Member → List (List ℕ)
keys ms = map (λ (x : Member). x.0.now) ms

-- a key that no member has leads to nothing
absent : (n : List ℕ) (old : Members) (ms : List Member) → is_member bytes_eq (keys ms) n ≡ false
    → get_member n (fold (λ found (x : Bor (List ℕ) × Data). put x.0.now x.1 found) old (map (λ (x : Member). (x.0, view x.1)) ms)) ≡ get_member n old
unfolding keys
absent n old [] out = refl
absent n old (x ∷ ms) out =
    absent n (put x.0.now (view x.1) old) ms (false_from_ne_true (is_member bytes_eq (keys ms) n) (λ q. false≢true (sym out ∙ or_right (bytes_eq n x.0.now) (is_member bytes_eq (keys ms) n) q)))
    ∙ get_member-put_other n x.0.now (view x.1) old (λ same. false≢true (sym out ∙ or_left (bytes_eq n x.0.now) (is_member bytes_eq (keys ms) n) ((bytes_eq-Decides n x.0.now).1 same)))

---------------------------------------------------------------- contents

none-there : (c : Bool) (f : FeatureNo) (o : Option Data) → o ≡ None → is_some (option_map (new_entry f) (if c then None else o)) ≡ false
none-there true f o none = refl
none-there false f o none = ap (λ x. is_some (option_map (new_entry f) x)) none

no-container : (c : Bool) (f : FeatureNo) (o : Option Data) → is_some (option_map (new_entry f) (if c then None else o)) ≡ true → c ≡ false
no-container true f o there = absurd (false≢true there)
no-container false f o there = refl

none-same : (q : List ℕ) (ns : List (List ℕ)) → is_member bytes_eq ns q ≡ false → AllByRecursion (λ n. bytes_eq q n ≡ false) ns
none-same q [] out = tt
none-same q (n ∷ ns) out = (
  false_from_ne_true (bytes_eq q n) (λ e. false≢true (sym out ∙ or_left (bytes_eq q n) (is_member bytes_eq ns q) e)),
  none-same q ns (false_from_ne_true (is_member bytes_eq ns q) (λ e. false≢true (sym out ∙ or_right (bytes_eq q n) (is_member bytes_eq ns q) e))),
)

module _ (m : Metamodel) (xs : List Member) where
  abbrev has_entry : FeatureNo → Bool
  has_entry f = is_some (entry_at m (members_view xs) f)

  abbrev name : FeatureNo → List ℕ
  name f = lookups.feature_name m f

  named : (f : FeatureNo) → has_entry f ≡ true → is_member bytes_eq (keys xs) (name f) ≡ true
  named f there = elim (is_member bytes_eq (keys xs) (name f)) as (λ b. is_member bytes_eq (keys xs) (name f) ≡ b → b ≡ true) [
    | true ↦ λ _. refl
    | false ↦ λ out. absurd (false≢true (sym (none-there (lookups.is_container m f) f (get_member (name f) (members_view xs)) (absent (name f) no_members xs out)) ∙ there))
  ] refl

  count : (fs : List FeatureNo) → length (filter_map (entry_at m (members_view xs)) fs) ≡ length (filter has_entry fs)
  count [] = refl
  count (f ∷ fs) = elim (entry_at m (members_view xs) f) as (λ o. length (cons_option o (filter_map (entry_at m (members_view xs)) fs)) ≡ length (cond (is_some o) (f ∷ filter has_entry fs) (filter has_entry fs))) [
    | None ↦ count fs
    | Some e ↦ ap suc (count fs)
  ]

  all-named : (fs : List FeatureNo) (q : List ℕ) → is_member bytes_eq (map name (filter has_entry fs)) q ≡ true → is_member bytes_eq (keys xs) q ≡ true
  all-named [] q there = absurd (false≢true there)
  all-named (f ∷ fs) q there =
      elim (has_entry f) as (λ b. has_entry f ≡ b → is_member bytes_eq (map name (cond b (f ∷ filter has_entry fs) (filter has_entry fs))) q ≡ true → is_member bytes_eq (keys xs) q ≡ true) [
        | true ↦ λ h at. elim (or_cases (bytes_eq q (name f)) (is_member bytes_eq (map name (filter has_entry fs)) q) at) [
          | inl here ↦ subst (λ n. is_member bytes_eq (keys xs) n ≡ true) (sym ((bytes_eq-Decides q (name f)).0 here)) (named f h)
          | inr later ↦ all-named fs q later
        ]
        | false ↦ λ h at. all-named fs q at
      ] refl there

  module _ (d : IsOfDocument m) (c : ClassNo) (fs : List FeatureNo) (is : Some fs ≡ lookups.features m c) where
    abbrev names : List (List ℕ)
    names = map name (filter has_entry fs)

    count-keys : length (keys xs) ≡ length xs
    unfolding keys
    count-keys = length-map xs (λ (x : Member). x.0.now)

    count-names : length names ≡ length (filter_map (entry_at m (members_view xs)) fs)
    count-names = length-map (filter has_entry fs) name ∙ sym (count fs)

    few : length (filter_map (entry_at m (members_view xs)) fs) ≤ length xs
    few =
        let a = length-le_from_is_member nat_list_eq_equiv names (keys xs) (names-distinct m d c has_entry fs is) (all-named fs) in
        omega (arith, a, count-keys, count-names)

    -- no other feature has a content
    pub no-others : (i : ℕ) → length xs ≤ length (filter_map (entry_at m (members_view xs)) (take i fs)) → filter_map (entry_at m (members_view xs)) (take i fs) ≡ filter_map (entry_at m (members_view xs)) fs
    no-others i all =
        let entry = entry_at m (members_view xs) in
        let split : filter_map entry fs ≡ filter_map entry (take i fs) ++ filter_map entry (drop i fs) = ap (filter_map entry) (sym (take-append-drop i fs)) ∙ filter_map-append entry (take i fs) (drop i fs) in
        let sum = ap length split ∙ length-append (filter_map entry (take i fs)) (filter_map entry (drop i fs)) in
        let most = few in
        let none = nil_from_length (filter_map entry (drop i fs)) (omega (arith, sum, most, all)) in
        sym (split ∙ ap (λ es. filter_map entry (take i fs) ++ es) none ∙ append-nil (filter_map entry (take i fs)))

    covered : length xs ≤ length (filter_map (entry_at m (members_view xs)) fs) → (q : List ℕ) → is_member bytes_eq (keys xs) q ≡ true → is_member bytes_eq names q ≡ true
    covered all q there = elim (is_member bytes_eq names q) as (λ b. is_member bytes_eq names q ≡ b → b ≡ true) [
      | true ↦ λ _. refl
      | false ↦ λ out.
          let more = length-le_from_is_member nat_list_eq_equiv (q ∷ names) (keys xs) (IsDistinct-cons bytes_eq q names (none-same q names out) (names-distinct m d c has_entry fs is))
          (λ r at. elim (or_cases (bytes_eq r q) (is_member bytes_eq names r) at) [
            | inl here ↦ subst (λ n. is_member bytes_eq (keys xs) n ≡ true) (sym ((bytes_eq-Decides r q).0 here)) there
            | inr later ↦ all-named fs r later
          ]) in
          absurd (omega (arith, more, count-keys, count-names, all))
    ] refl

    by-name : (f : FeatureNo) → lookups.has_feature m c f ≡ true → has_entry f ≡ true → is_readable m c (name f) ≡ true
    by-name f own there =
        ap (λ o. option_map_or (λ g. not (lookups.is_container m g)) o false) (own-name m d c f own)
        ∙ ap not (no-container (lookups.is_container m f) f (get_member (name f) (members_view xs)) there)

    readable : (gs : List FeatureNo) → AllByRecursion (λ f. lookups.has_feature m c f ≡ true) gs → (q : List ℕ) → is_member bytes_eq (map name (filter has_entry gs)) q ≡ true → is_readable m c q ≡ true
    readable [] own q there = absurd (false≢true there)
    readable (f ∷ gs) own q there =
        elim (has_entry f) as (λ b. has_entry f ≡ b → is_member bytes_eq (map name (cond b (f ∷ filter has_entry gs) (filter has_entry gs))) q ≡ true → is_readable m c q ≡ true) [
          | true ↦ λ h at. elim (or_cases (bytes_eq q (name f)) (is_member bytes_eq (map name (filter has_entry gs)) q) at) [
            | inl here ↦ ap (is_readable m c) ((bytes_eq-Decides q (name f)).0 here) ∙ by-name f own.0 h
            | inr later ↦ readable gs own.1 q later
          ]
          | false ↦ λ h at. readable gs own.1 q at
        ] refl there

    all-of : (ys : List Member) → ((q : List ℕ) → is_member bytes_eq (keys ys) q ≡ true → is_readable m c q ≡ true) → list_all (λ (x : Member). is_readable m c x.0.now) ys ≡ true
    unfolding keys
    all-of [] each = refl
    all-of (x ∷ ys) each =
        let here = each x.0.now (or_left (bytes_eq x.0.now x.0.now) (is_member bytes_eq (keys ys) x.0.now) ((bytes_eq-Decides x.0.now x.0.now).1 refl)) in
        let later = all-of ys (λ q there. each q (or_right (bytes_eq q x.0.now) (is_member bytes_eq (keys ys) q) there)) in
        ap (λ b. b && list_all (λ (y : Member). is_readable m c y.0.now) ys) here ∙ later

    -- each member is the content of a feature
    pub all-readable : length xs ≤ length (filter_map (entry_at m (members_view xs)) fs) → list_all (λ (x : Member). is_readable m c x.0.now) xs ≡ true
    all-readable all =
        let own = subst (λ (o : Option (List FeatureNo)). AllByRecursion (λ f. lookups.has_feature m c f ≡ true) (unwrap_or o [])) (sym is) (class-features m c) in
        all-of xs (λ q there. readable fs own q (covered all q there))
