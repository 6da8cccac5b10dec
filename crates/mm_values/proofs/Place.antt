-- The index that a search finds among entries in the order of their attributes, and an edit at that index.
use Rattle.std.proofs.Common.{◌≡◌, ℕ, ◌+◌, ◌-◌, ◌<◌, ◌≤◌, eqb, cond, Bool, List, length, get_or, set, None, Result, Ok, Err, IfOk, IfErr, unwrap_or, refl, inl, inr, sym, ap, subst, ◌∙◌, arith, [], false, eq-eqb, true}
use Rattle.std.specs.List.{insert}
use Rattle.std.specs.List.Sorted.{IsSearchInRange, IsBinarySearchResult, IsNonDecreasingBy}
use Rattle.std.specs.Ordering.{nat_cmp, ordering_index}
use Rattle.std.specs.FinMap as map
use Rattle.std.proofs.lemmas.Cmp.{ranked}
use Rattle.std.proofs.lemmas.List.Sorted.{IsNonDecreasingBy-from_default}
use Rattle.std.proofs.lemmas.List.Edits.{length-insert, get_or-insert_below, get_or-insert_at, get_or-insert_above}
use Rattle.std.proofs.lemmas.Bool.Decides.{nat_tests}
use Rattle.std.proofs.lemmas.Grind.{common_steps}
use Rattle.std.proofs.lemmas.Bool.{cases_eq, cases_lt, cases_order}
use Rattle.std.proofs.lemmas.List.{get_or_default, get_or-set_same, get_or-set_other}
use Rattle.mm_types.specs.declared.value.Value.{Value}
use Rattle.mm_values.specs.Stored.{list_changed, nothing_stored, with_stored}
use Rattle.mm_values.specs.Attributes.{change_stored, stored_in, stored_of, place_for, feature_at, spare_at, taken_of, IsRising, IsAt, IsGapFor, HasPlace}
use Rattle.mm_values.specs.declared.attribute_lists.Entry.{Entry}
use Rattle.mm_values.proofs.StoredIn.{NoneBefore, kept, found, get-stored_in, get-with_stored, same_stored, found_absent, found_present, found-set, found-insert, unwrap_or-kept, with_stored_same}

module _ (l : List Entry) (rising : IsRising l) (f : ℕ) where
  -- the comparisons with f rise along the row, as a binary search requires
  comparisons_rise : IsNonDecreasingBy (λ e. ordering_index (nat_cmp e.feature.0 f)) l
  comparisons_rise = IsNonDecreasingBy-from_default (λ e. ordering_index (nat_cmp e.feature.0 f)) l (place_for 0) (λ i j le in_range.
      let features_rise : feature_at l i ≤ feature_at l j = grind (arith, rising i j, λ (same : i ≡ j). ap (feature_at l) same) in
      grind (arith, nat_tests))

  -- a binary search ends at the attribute's entry, or at the gap for it
  pub searched : (r : Result ℕ ℕ) → IsSearchInRange r (length l) → IsBinarySearchResult (λ e. nat_cmp e.feature.0 f) l r → record { found : IfOk r (IsAt l f); absent : IfErr r (IsGapFor l f) }
  searched (Ok at) in_range equal = record { found = record { in_range = in_range; has_feature = ranked _ f _ (sym (equal (place_for 0))) }; absent = tt }
  searched (Err at) in_range parted = record {
    found = tt;
    absent = record {
      in_range = in_range;
      smaller_before = λ j lt. ranked _ f _ (sym ((parted comparisons_rise).0 j (place_for 0) (omega arith) lt));
      greater_after = λ j le lt. ranked _ f _ (sym ((parted comparisons_rise).1 j (place_for 0) le lt));
    };
  }

module _ (l : List Entry) (rising : IsRising l) (f at : ℕ) (is_at : IsAt l f at) where
  -- the numbers before the index are smaller, so none is f
  none_before_at : NoneBefore l f at
  none_before_at j lt same = omega (arith, rising j at lt is_at.in_range, is_at.has_feature)

  -- the entry at the index has the stored list and flag
  pub stored_at : unwrap_or (map.get (stored_in l) f) nothing_stored ≡ stored_of (get_or l at (place_for 0))
  stored_at = ap (λ o. unwrap_or o nothing_stored) (get-stored_in l f ∙ found_present l f at is_at none_before_at) ∙ unwrap_or-kept (stored_of (get_or l at (place_for 0)))

  -- if an entry of the attribute is written there, its list and flag are stored
  stored_in-set : (e : Entry) → e.feature.0 ≡ f → stored_in (set l at e) ≡ with_stored (stored_in l) f (stored_of e)
  stored_in-set e is = same_stored _ _ (λ q. get-stored_in (set l at e) q ∙ found-set l f at e is is_at none_before_at q
      ∙ ap (λ r. cond (eqb q f) (kept (stored_of e)) r) (sym (get-stored_in l q)) ∙ sym (get-with_stored (stored_in l) f (stored_of e) q))

  feature_at-set : (e : Entry) → e.feature.0 ≡ f → (i : ℕ) → feature_at (set l at e) i ≡ feature_at l i
  feature_at-set e is i = grind (arith, common_steps, is_at.in_range, is_at.has_feature, is)

  -- the order stays, since every number stays
  pub rising_set : (e : Entry) → e.feature.0 ≡ f → IsRising (set l at e)
  rising_set e is i j lt in_range = grind (arith, common_steps, rising i j, feature_at-set e is i, feature_at-set e is j)

  -- the entry that was read there
  pub read_is : (x : Entry) → x ≡ get_or l at x → get_or l at (place_for 0) ≡ x
  read_is x read = sym (read ∙ get_or_default l at x (place_for 0) is_at.in_range)

  pub read_feature : (x : Entry) → x ≡ get_or l at x → x.feature.0 ≡ f
  read_feature x read = ap (λ (y : Entry). y.feature.0) (sym (read_is x read)) ∙ is_at.has_feature

  -- the entry that was read has the stored list and flag
  pub stored_read : (x : Entry) → x ≡ get_or l at x → unwrap_or (map.get (stored_in l) f) nothing_stored ≡ stored_of x
  stored_read x read = stored_at ∙ ap stored_of (read_is x read)

  -- a list and a flag that are written there are stored
  pub stored_in-put : (e : Entry) (vs : List Value) (b : Bool) → e.feature.0 ≡ f → e.list.items ≡ vs → e.flag ≡ b → stored_in (set l at e) ≡ with_stored (stored_in l) f (record { list = vs; flag = b })
  stored_in-put e vs b is items flag = stored_in-set e is ∙ ap (with_stored (stored_in l) f) (λ i. record { list = items i; flag = flag i })

  -- writing the same list and flag changes nothing
  pub stored_in_kept : (x e : Entry) → x ≡ get_or l at x → e.feature.0 ≡ f → e.list.items ≡ x.list.items → e.flag ≡ x.flag → stored_in (set l at e) ≡ stored_in l
  stored_in_kept x e read is items flag = stored_in-put e x.list.items x.flag is items flag ∙ ap (with_stored (stored_in l) f) (sym (stored_read x read)) ∙ with_stored_same l f

  -- a changed list changes what is stored
  pub stored_in-changed : (x e : Entry) (g : List Value → List Value) → x ≡ get_or l at x → e.feature.0 ≡ f → e.list.items ≡ g x.list.items → e.flag ≡ x.flag → stored_in (set l at e) ≡ change_stored (stored_in l) f g
  stored_in-changed x e g read is items flag = stored_in-put e (g x.list.items) x.flag is items flag ∙ ap (λ h. with_stored (stored_in l) f (list_changed g h)) (sym (stored_read x read))

  -- its capacity stays, minus the capacity that is used, and the capacity of the others stays whole
  pub index-set : (x e : Entry) (k : ℕ) → x ≡ get_or l at x → e.feature.0 ≡ f → x.list.spare ≤ e.list.spare + k → (q n : ℕ) → HasPlace l q n → HasPlace (set l at e) q (n - taken_of f k q)
  index-set x e k read is spare q n has = record {
    index = has.index;
    is_at = record { in_range = grind (arith, common_steps, has.is_at.in_range); has_feature = feature_at-set e is has.index ∙ has.is_at.has_feature };
    spare = elim (cases_eq has.index at) [
      | inl here ↦
          let same : q ≡ f = sym has.is_at.has_feature ∙ ap (feature_at l) here ∙ is_at.has_feature in
          let was : spare_at l has.index ≡ x.list.spare = ap (spare_at l) here ∙ ap (λ (y : Entry). y.list.spare) (read_is x read) in
          let now : spare_at (set l at e) has.index ≡ e.list.spare = ap (spare_at (set l at e)) here ∙ ap (λ (y : Entry). y.list.spare) (get_or-set_same l at e (place_for 0) is_at.in_range) in
          let took : taken_of f k q ≡ k = ap (λ b. cond b k 0) (eq-eqb q f same) in
          omega (arith, has.spare, was, now, took)
      | inr apart ↦
          let same : spare_at (set l at e) has.index ≡ spare_at l has.index = ap (λ (y : Entry). y.list.spare) (get_or-set_other l at has.index e (place_for 0) apart) in
          omega (arith, has.spare, same)
    ];
  }

  -- an entry has as much capacity as its list
  pub place_here : (e : Entry) (n : ℕ) → e.feature.0 ≡ f → n ≤ e.list.spare → HasPlace (set l at e) f n
  place_here e n is many = record {
    index = at;
    is_at = record { in_range = grind (arith, common_steps, is_at.in_range); has_feature = feature_at-set e is at ∙ is_at.has_feature };
    spare = subst (λ s. n ≤ s) (sym (ap (λ (y : Entry). y.list.spare) (get_or-set_same l at e (place_for 0) is_at.in_range))) many;
  }

  -- of one attribute there is one entry
  pub spare_here : (x : Entry) (n : ℕ) → x ≡ get_or l at x → HasPlace l f n → n ≤ x.list.spare
  spare_here x n read has = elim (cases_order has.index at) [
    | inl same ↦
        let was : spare_at l has.index ≡ x.list.spare = ap (spare_at l) same ∙ ap (λ (y : Entry). y.list.spare) (read_is x read) in
        omega (arith, has.spare, was)
    | inr (inl less) ↦ absurd (omega (arith, rising has.index at less is_at.in_range, has.is_at.has_feature, is_at.has_feature))
    | inr (inr more) ↦ absurd (omega (arith, rising at has.index more has.is_at.in_range, has.is_at.has_feature, is_at.has_feature))
  ]

pub holds_nothing : (e : Entry) → e.list.items ≡ [] → e.flag ≡ false → stored_of e ≡ nothing_stored
holds_nothing e items flag = λ i. record { list = items i; flag = flag i }

-- if no capacity is used, none of any attribute is used
pub none_of : (f q : ℕ) → taken_of f 0 q ≡ 0
none_of f q = elim (eqb q f) as (λ b. ◌≡◌ {A = ℕ} (cond b 0 0) 0) [
  | true ↦ refl
  | false ↦ refl
]

-- capacity for many is capacity for fewer
pub fewer : (l : List Entry) (f n m : ℕ) → m ≤ n → HasPlace l f n → HasPlace l f m
fewer l f n m le has = record { index = has.index; is_at = has.is_at; spare = omega (arith, has.spare) }

module _ (l : List Entry) (f at : ℕ) (gap : IsGapFor l f at) where
  none : NoneBefore l f (length l)
  none j lt same = grind (arith, gap.smaller_before j, gap.greater_after j)

  -- nothing is stored under an attribute that has a gap
  pub stored_in_gap : unwrap_or (map.get (stored_in l) f) nothing_stored ≡ nothing_stored
  stored_in_gap = ap (λ o. unwrap_or o nothing_stored) (get-stored_in l f ∙ found_absent l f none)

  -- an attribute with a gap has no capacity
  pub no_place : (n : ℕ) → HasPlace l f n → ⊥
  no_place n has = none has.index has.is_at.in_range has.is_at.has_feature

  -- a change that leaves an empty list empty changes nothing
  pub unchanged_gap : (g : List Value → List Value) → g [] ≡ [] → stored_in l ≡ change_stored (stored_in l) f g
  unchanged_gap g nothing = sym (ap (λ h. with_stored (stored_in l) f (list_changed g h)) stored_in_gap ∙ ap (λ vs. with_stored (stored_in l) f (record { list = vs; flag = false })) nothing ∙ ap (with_stored (stored_in l) f) (sym stored_in_gap) ∙ with_stored_same l f)

  none_found : (q : ℕ) → cond (eqb q f) None (found l q) ≡ found l q
  none_found q = grind (arith, nat_tests, found_absent l f none)

module _ (l : List Entry) (f at : ℕ) (gap : IsGapFor l f at) (e : Entry) (is : e.feature.0 ≡ f) where
  none_before_gap : NoneBefore l f at
  none_before_gap j lt same = omega (arith, gap.smaller_before j lt)

  -- the list and the flag of an entry that is put into the gap are stored
  stored_in-insert : stored_in (insert l at e) ≡ with_stored (stored_in l) f (stored_of e)
  stored_in-insert = same_stored _ _ (λ q. get-stored_in _ q ∙ found-insert l f at e is none_before_gap q
      ∙ ap (λ r. cond (eqb q f) (kept (stored_of e)) r) (sym (get-stored_in l q)) ∙ sym (get-with_stored (stored_in l) f (stored_of e) q))

  -- the same for a list and a flag that are given
  pub stored_in-put_new : (vs : List Value) (b : Bool) → e.list.items ≡ vs → e.flag ≡ b → stored_in (insert l at e) ≡ with_stored (stored_in l) f (record { list = vs; flag = b })
  stored_in-put_new vs b items flag = stored_in-insert ∙ ap (with_stored (stored_in l) f) (λ i. record { list = items i; flag = flag i })

  -- an entry that is put into the gap changes nothing that is stored
  pub stored_in-made : stored_of e ≡ nothing_stored → stored_in (insert l at e) ≡ stored_in l
  stored_in-made holds = stored_in-insert ∙ ap (with_stored (stored_in l) f) (holds ∙ sym (stored_in_gap l f at gap)) ∙ with_stored_same l f

  feature_below : (i : ℕ) → i < at → feature_at (insert l at e) i ≡ feature_at l i
  feature_below i below = ap (λ (e : Entry). e.feature.0) (get_or-insert_below l at e (place_for 0) i below gap.in_range)

  feature_here : (i : ℕ) → i ≡ at → feature_at (insert l at e) i ≡ f
  feature_here i here = rw here (ap (λ (e : Entry). e.feature.0) (get_or-insert_at l at e (place_for 0) gap.in_range) ∙ is)

  entry_above : (i : ℕ) → at ≤ i → get_or (insert l at e) (i + 1) (place_for 0) ≡ get_or l i (place_for 0)
  entry_above i above = get_or-insert_above l at e (place_for 0) i above gap.in_range

  -- the new entry is at the gap
  pub is_at_made : IsAt (insert l at e) f at
  is_at_made = record { in_range = omega (arith, length-insert l at e gap.in_range, gap.in_range); has_feature = feature_here at refl }

  -- and each earlier entry stays, or has moved up by one
  pub index-insert : (q n : ℕ) → HasPlace l q n → HasPlace (insert l at e) q n
  index-insert q n has = elim (cases_lt has.index at) [
    | inl below ↦ record {
      index = has.index;
      is_at = record { in_range = omega (arith, length-insert l at e gap.in_range, has.is_at.in_range); has_feature = feature_below has.index below ∙ has.is_at.has_feature };
      spare = subst (λ s. n ≤ s) (sym (ap (λ (y : Entry). y.list.spare) (get_or-insert_below l at e (place_for 0) has.index below gap.in_range))) has.spare;
    }
    | inr above ↦ record {
      index = has.index + 1;
      is_at = record { in_range = omega (arith, length-insert l at e gap.in_range, has.is_at.in_range); has_feature = ap (λ (y : Entry). y.feature.0) (entry_above has.index above) ∙ has.is_at.has_feature };
      spare = subst (λ s. n ≤ s) (sym (ap (λ (y : Entry). y.list.spare) (entry_above has.index above))) has.spare;
    }
  ]
