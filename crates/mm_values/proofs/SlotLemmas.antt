-- The objects and their capacity after a write to one slot.
use Rattle.std.proofs.Common.{◌≡◌, ℕ, zero, suc, ◌-◌, ◌<◌, ◌≤◌, ◌⊎◌, cond, eqb, eq-eqb, subst, true, false, List, [], ◌∷◌, ◌++◌, ◌+◌, length, get_or, set, take, Option, Some, None, is_some, refl, inl, inr, sym, ap, ◌∙◌, arith}
use Rattle.std.specs.Option.{option_map}
use Rattle.std.specs.FinMap as map
use Rattle.std.proofs.lemmas.List.{length-set, length-take, get_or-set_same, get_or-set_other, get_or-take, set-get_or, set_past, get_or_read, take-append-le, take_more_set}
use Rattle.std.proofs.lemmas.Bool.{cases_lt, cases_order}
use Rattle.mm_types.specs.declared.numbers.ClassNo.{ClassNo}
use Rattle.mm_types.specs.declared.numbers.FeatureNo.{FeatureNo}
use Rattle.mm_types.specs.declared.numbers.ObjectNo.{ObjectNo}
use Rattle.mm_values.specs.declared.attribute_lists.Entry.{Entry}
use Rattle.mm_values.specs.Attributes.{stored_in, taken_of, HasPlace}
use Rattle.mm_values.specs.Values.{ObjectState}
use Rattle.mm_values.specs.Slots.{Slots, state_of, states_of, objects_of, none_taken, taken_at, IsDead, HasPlaceAt, KeepsPlaces}
use Rattle.mm_values.proofs.Place.{fewer, none_of}

abbrev pub columns : List (Option ClassNo) → List (List Entry) → ℕ → Slots
columns cs ls n = record { classes = cs; lists = ls; next = n }

take_set : {X : Type 0} (n i : ℕ) (xs : List X) (y : X) → take n (set xs i y) ≡ set (take n xs) i y
take_set zero i xs y = refl
take_set (suc n) i [] y = refl
take_set (suc n) zero (x ∷ xs) y = refl
take_set (suc n) (suc i) (x ∷ xs) y = ap (λ l. x ∷ l) (take_set n i xs y)

length-states_of : (cs : List (Option ClassNo)) (ls : List (List Entry)) → length cs ≡ length ls → length (states_of cs ls) ≡ length ls
length-states_of [] [] same = refl
length-states_of [] (l ∷ ls) same = absurd (omega arith)
length-states_of (c ∷ cs) [] same = absurd (omega arith)
length-states_of (c ∷ cs) (l ∷ ls) same = ap suc (length-states_of cs ls (omega arith))

get_or-states_of : (cs : List (Option ClassNo)) (ls : List (List Entry)) (i : ℕ) (d : List Entry) → length cs ≡ length ls → i < length ls → get_or (states_of cs ls) i None ≡ state_of (get_or cs i None) (get_or ls i d)
get_or-states_of [] [] i d same within = absurd (omega arith)
get_or-states_of [] (l ∷ ls) i d same within = absurd (omega arith)
get_or-states_of (c ∷ cs) [] i d same within = absurd (omega arith)
get_or-states_of (c ∷ cs) (l ∷ ls) zero d same within = refl
get_or-states_of (c ∷ cs) (l ∷ ls) (suc i) d same within = get_or-states_of cs ls i d (omega arith) (omega arith)

states_of-set : (cs : List (Option ClassNo)) (ls : List (List Entry)) (i : ℕ) (c : Option ClassNo) (l : List Entry) → states_of (set cs i c) (set ls i l) ≡ set (states_of cs ls) i (state_of c l)
states_of-set [] ls i c l = refl
states_of-set (x ∷ cs) [] zero c l = refl
states_of-set (x ∷ cs) [] (suc i) c l = refl
states_of-set (x ∷ cs) (y ∷ ls) zero c l = refl
states_of-set (x ∷ cs) (y ∷ ls) (suc i) c l = ap (λ os. state_of x y ∷ os) (states_of-set cs ls i c l)

states_of-append : (cs : List (Option ClassNo)) (ls : List (List Entry)) (c : Option ClassNo) (l : List Entry) → length cs ≡ length ls → states_of (cs ++ c ∷ []) (ls ++ l ∷ []) ≡ states_of cs ls ++ state_of c l ∷ []
states_of-append [] [] c l same = refl
states_of-append [] (y ∷ ls) c l same = absurd (omega arith)
states_of-append (x ∷ cs) [] c l same = absurd (omega arith)
states_of-append (x ∷ cs) (y ∷ ls) c l same = ap (λ os. state_of x y ∷ os) (states_of-append cs ls c l (omega arith))

module _ (cs : List (Option ClassNo)) (ls : List (List Entry)) (n : ℕ) (same : length cs ≡ length ls) where
  -- there are as many objects as were made
  pub length-objects : n ≤ length ls → n ≡ length (objects_of (columns cs ls n))
  length-objects in_range = omega (arith, length-take n (states_of cs ls), length-states_of cs ls same)

  -- one more slot is not one more object
  pub objects-append : (c : Option ClassNo) (l : List Entry) → n ≤ length ls → objects_of (columns (cs ++ c ∷ []) (ls ++ l ∷ []) n) ≡ objects_of (columns cs ls n)
  objects-append c l in_range = ap (take n) (states_of-append cs ls c l same) ∙ take-append-le n (states_of cs ls) (state_of c l ∷ []) (omega (arith, length-states_of cs ls same))

  -- writing a class into the first free slot makes an object
  pub objects-made : (c : ClassNo) → n < length ls → stored_in (get_or ls n []) ≡ map.empty → objects_of (columns (set cs n (Some c)) ls (n + 1)) ≡ objects_of (columns cs ls n) ++ Some (record { class = c; stored = map.empty }) ∷ []
  objects-made c within nothing =
      ap (λ ks. take (n + 1) (states_of (set cs n (Some c)) ks)) (sym (set-get_or ls n []))
      ∙ ap (take (n + 1)) (states_of-set cs ls n (Some c) (get_or ls n []))
      ∙ take_more_set (states_of cs ls) n (state_of (Some c) (get_or ls n [])) (omega (arith, length-states_of cs ls same))
      ∙ ap (λ m. take n (states_of cs ls) ++ Some (record { class = c; stored = m }) ∷ []) nothing

some_none : (y : Option ClassNo) → is_some y ≡ true → y ≡ None → ⊥
some_none None live none = cc
some_none (Some c) live none = cc

dead_none : (y : Option ClassNo) → is_some y ≡ false → y ≡ None
dead_none None dead = refl
dead_none (Some c) dead = cc

-- a slot without a class has no object
pub none_read : (cs : List (Option ClassNo)) (i : ℕ) (y : Option ClassNo) → i < length cs → y ≡ get_or cs i y → is_some y ≡ false → get_or cs i None ≡ None
none_read cs i y within read dead = sym (get_or_read cs i y within read None) ∙ dead_none y dead

module _ (cs : List (Option ClassNo)) (ls : List (List Entry)) (n i : ℕ) where
  pub objects-set : (c : Option ClassNo) (l : List Entry) → objects_of (columns (set cs i c) (set ls i l) n) ≡ set (objects_of (columns cs ls n)) i (state_of c l)
  objects-set c l = ap (take n) (states_of-set cs ls i c l) ∙ take_set n i (states_of cs ls) (state_of c l)

  objects-set_list : (l : List Entry) → objects_of (columns cs (set ls i l) n) ≡ set (objects_of (columns cs ls n)) i (state_of (get_or cs i None) l)
  objects-set_list l = ap (λ ks. objects_of (columns ks (set ls i l) n)) (sym (set-get_or cs i None)) ∙ objects-set (get_or cs i None) l

  -- the object of a slot that was made
  pub object-get_or : (d : List Entry) → length cs ≡ length ls → i < n → i < length ls → get_or (objects_of (columns cs ls n)) i None ≡ state_of (get_or cs i None) (get_or ls i d)
  object-get_or d same made within = get_or-take n (states_of cs ls) i None made ∙ get_or-states_of cs ls i d same within

  -- the same for a class and a list that were read
  pub object_read : (y : Option ClassNo) (x : List Entry) → length cs ≡ length ls → i < n → i < length ls → y ≡ get_or cs i y → x ≡ get_or ls i x → get_or (objects_of (columns cs ls n)) i None ≡ state_of y x
  object_read y x same made within class read = object-get_or x same made within ∙ ap (λ c. state_of c (get_or ls i x)) (sym (get_or_read cs i y (omega arith) class None)) ∙ ap (state_of y) (sym read)

  -- lists with the same values make the same object
  pub objects_same : (x l : List Entry) → length cs ≡ length ls → i < length ls → x ≡ get_or ls i x → stored_in l ≡ stored_in x → objects_of (columns cs (set ls i l) n) ≡ objects_of (columns cs ls n)
  objects_same x l same within read holds = objects-set_list l ∙ elim (cases_lt i n) [
    | inl made ↦
        let was : state_of (get_or cs i None) l ≡ get_or (objects_of (columns cs ls n)) i None = ap (λ m. option_map (λ (c : ClassNo). record { class = c; stored = m }) (get_or cs i None)) (holds ∙ ap stored_in read) ∙ sym (object-get_or x same made within) in
        ap (set (objects_of (columns cs ls n)) i) was ∙ set-get_or (objects_of (columns cs ls n)) i None
    | inr ahead ↦ set_past (objects_of (columns cs ls n)) i (state_of (get_or cs i None) l) (omega (arith, length-take n (states_of cs ls)))
  ]

  -- a change of the lists is a change of the object
  pub objects_changed : (x l : List Entry) (g : ObjectState → ObjectState) → length cs ≡ length ls → i < n → i < length ls → x ≡ get_or ls i x → ((c : ClassNo) → record { class = c; stored = stored_in l } ≡ g (record { class = c; stored = stored_in x })) → objects_of (columns cs (set ls i l) n) ≡ set (objects_of (columns cs ls n)) i (option_map g (get_or (objects_of (columns cs ls n)) i None))
  objects_changed x l g same made within read change =
      let was : state_of (get_or cs i None) x ≡ get_or (objects_of (columns cs ls n)) i None = ap (state_of (get_or cs i None)) read ∙ sym (object-get_or x same made within) in
      objects-set_list l ∙ ap (set (objects_of (columns cs ls n)) i) (changed (get_or cs i None) ∙ ap (option_map g) was)
    where
      changed : (c : Option ClassNo) → state_of c l ≡ option_map g (state_of c x)
      changed None = refl
      changed (Some c) = ap Some (change c)

  -- if no object is live, nothing changes
  pub objects_dead : (g : ObjectState → ObjectState) → length cs ≡ length ls → n ≤ length ls → (i < n → get_or cs i None ≡ None) → objects_of (columns cs ls n) ≡ set (objects_of (columns cs ls n)) i (option_map g (get_or (objects_of (columns cs ls n)) i None))
  objects_dead g same in_range dead = elim (cases_lt i n) [
    | inl made ↦
        let none : get_or (objects_of (columns cs ls n)) i None ≡ None = object-get_or [] same made (omega arith) ∙ ap (λ c. state_of c (get_or ls i [])) (dead made) in
        sym (ap (λ o. set (objects_of (columns cs ls n)) i (option_map g o)) none ∙ ap (set (objects_of (columns cs ls n)) i) (sym none) ∙ set-get_or (objects_of (columns cs ls n)) i None)
    | inr ahead ↦ sym (set_past (objects_of (columns cs ls n)) i (option_map g (get_or (objects_of (columns cs ls n)) i None)) (omega (arith, length-take n (states_of cs ls))))
  ]

  -- a property that holds for a live object and may fail for a dead one
  pub live_has : (P : List Entry → Type 0) (y : Option ClassNo) (x : List Entry) → length cs ≡ length ls → i < length ls → y ≡ get_or cs i y → is_some y ≡ true → x ≡ get_or ls i x → ((d : List Entry) → i < length ls → IsDead (columns cs ls n) i ⊎ P (get_or ls i d)) → P x
  live_has P y x same within class live read has = elim (has x within) [
    | inl dead ↦ let none : y ≡ None = get_or_read cs i y (omega arith) class None ∙ dead.1 in absurd (some_none y live none)
    | inr here ↦ subst P (sym read) here
  ]

  -- the lists of one slot are written, with some capacity less
  pub kept_set : (x l : List Entry) (taken : ℕ → ℕ → ℕ) → i < length ls → x ≡ get_or ls i x → ((f m : ℕ) → HasPlace x f m → HasPlace l f (m - taken i f)) → KeepsPlaces taken (columns cs ls n) (columns cs (set ls i l) n)
  kept_set x l taken within read more = record { slots = length-set ls i l; places = places }
    where
      others : (o f m : ℕ) → (o ≡ i → ⊥) → HasPlaceAt (columns cs ls n) o f m → HasPlaceAt (columns cs (set ls i l) n) o f (m - taken o f)
      others o f m apart has d lt = rw (get_or-set_other ls i o l d apart) (elim (has d (omega (arith, length-set ls i l))) [
        | inl dead ↦ inl dead
        | inr index ↦ inr (fewer _ f m (m - taken o f) (omega arith) index)
      ])

      here : (f m : ℕ) → HasPlaceAt (columns cs ls n) i f m → HasPlaceAt (columns cs (set ls i l) n) i f (m - taken i f)
      here f m has d lt = rw (get_or-set_same ls i l d within) (elim (has x within) [
        | inl dead ↦ inl dead
        | inr index ↦ inr (more f m (subst (λ y. HasPlace y f m) (sym read) index))
      ])

      places : (o f m : ℕ) → HasPlaceAt (columns cs ls n) o f m → HasPlaceAt (columns cs (set ls i l) n) o f (m - taken o f)
      places o f m has = elim (cases_order o i) [
        | inl same ↦ subst (λ k. HasPlaceAt (columns cs (set ls i l) n) k f (m - taken k f)) (sym same) (here f m (subst (λ k. HasPlaceAt (columns cs ls n) k f m) same has))
        | inr (inl less) ↦ others o f m (λ e. omega arith) has
        | inr (inr more) ↦ others o f m (λ e. omega arith) has
      ]

  -- the same with no less capacity
  pub kept_all : (x l : List Entry) → i < length ls → x ≡ get_or ls i x → ((f m : ℕ) → HasPlace x f m → HasPlace l f m) → KeepsPlaces none_taken (columns cs ls n) (columns cs (set ls i l) n)
  kept_all x l within read more = kept_set x l none_taken within read (λ f m index. fewer l f m (m - 0) (omega arith) (more f m index))

  -- an object that is ended needs no capacity
  pub kept_ended : (l : List Entry) → length cs ≡ length ls → i < n → n ≤ length ls → KeepsPlaces none_taken (columns cs ls n) (columns (set cs i None) (set ls i l) n)
  kept_ended l same made in_range = record { slots = length-set ls i l; places = places }
    where
      others : (o f m : ℕ) → (o ≡ i → ⊥) → HasPlaceAt (columns cs ls n) o f m → HasPlaceAt (columns (set cs i None) (set ls i l) n) o f (m - 0)
      others o f m apart has d lt = rw (get_or-set_other ls i o l d apart) (elim (has d (omega (arith, length-set ls i l))) [
        | inl dead ↦ inl (dead.0, get_or-set_other cs i o None None apart ∙ dead.1)
        | inr index ↦ inr (fewer _ f m (m - 0) (omega arith) index)
      ])

      places : (o f m : ℕ) → HasPlaceAt (columns cs ls n) o f m → HasPlaceAt (columns (set cs i None) (set ls i l) n) o f (m - 0)
      places o f m has = elim (cases_order o i) [
        | inl here ↦ λ d lt. inl (omega arith, rw here (get_or-set_same cs i None None (omega arith)))
        | inr (inl less) ↦ others o f m (λ e. omega arith) has
        | inr (inr more) ↦ others o f m (λ e. omega arith) has
      ]

-- the same with some capacity less for one attribute
pub kept_taken : (cs : List (Option ClassNo)) (ls : List (List Entry)) (n : ℕ) (o : ObjectNo) (g : FeatureNo) (k : ℕ) (x l : List Entry) → o.0 < length ls → x ≡ get_or ls o.0 x → ((f m : ℕ) → HasPlace x f m → HasPlace l f (m - taken_of g.0 k f)) → KeepsPlaces (taken_at o g k) (columns cs ls n) (columns cs (set ls o.0 l) n)
kept_taken cs ls n o g k x l within read more = kept_set cs ls n o.0 x l (taken_at o g k) within read (λ f m index.
    subst (λ t. HasPlace l f (m - t)) (sym (ap (λ b. cond b (taken_of g.0 k f) 0) (eq-eqb o.0 o.0 refl))) (more f m index))

-- if nothing is written, the capacity is not less
pub kept_same : (r : Slots) (taken : ℕ → ℕ → ℕ) → KeepsPlaces taken r r
kept_same r taken = record {
  slots = refl;
  places = λ o f m has d lt. elim (has d lt) [
    | inl dead ↦ inl dead
    | inr index ↦ inr (fewer _ f m (m - taken o f) (omega arith) index)
  ];
}

-- if no capacity of one attribute is used, none is used
none_at : (x : ObjectNo) (g : FeatureNo) (o f : ℕ) → taken_at x g 0 o f ≡ 0
none_at x g o f = elim (eqb o x.0) as (λ b. cond b (taken_of g.0 0 f) 0 ≡ 0) [
  | true ↦ none_of g.0 f
  | false ↦ refl
]

pub kept_none : (r r' : Slots) (x : ObjectNo) (g : FeatureNo) → KeepsPlaces (taken_at x g 0) r r' → KeepsPlaces none_taken r r'
kept_none r r' x g kept = record {
  slots = kept.slots;
  places = λ o f m has. subst (λ t. HasPlaceAt r' o f (m - t)) (none_at x g o f) (kept.places o f m has);
}
