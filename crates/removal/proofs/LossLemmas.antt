-- The losses of an end, position by position, and the position of the object itself then.
use Rattle.std.proofs.Common.{◌≡◌, ℕ, zero, suc, ◌+◌, ◌<◌, ◌≤◌, length, drop, slice_get, slice_index_or, eq-eqb, Bool, true, false, not, ◌&&◌, cond, List, [], ◌∷◌, ◌++◌, filter, Option, Some, option_and_then, option_map, option_to_list, append_assoc, add-one, refl, sym, ap, ◌∙◌, arith, subst}
use Rattle.std.specs.Option.{option_map_or}
use Rattle.std.proofs.lemmas.Bool.{false≢true}
use Rattle.std.proofs.lemmas.List.{append-nil, drop_all, drop_more}
use Rattle.std.proofs.lemmas.Option.{none-some, same_Some, slice_get-get_or}
use Rattle.std.proofs.Math.Bool.{and-false}
use Rattle.mm_types.proofs.SameLemmas.{same_end-self}
use Rattle.mm_types.specs.Ends.{index_in}
use Rattle.mm_types.specs.Same.{node_value, same_end, same_object, same_value}
use Rattle.mm_types.specs.Shapes.{shape}
use Rattle.mm_types.specs.declared.end.End.{End}
use Rattle.mm_types.specs.declared.numbers.Node.TheVariants as node
use Rattle.mm_types.specs.declared.numbers.ObjectNo.{ObjectNo}
use Rattle.mm_types.specs.declared.value.Value.{Value}
use Rattle.mm_types.specs.declared.value.Value.TheVariants as value
use Rattle.links.proofs.HolderLemmas.{holder-some, indexed_held}
use Rattle.links.specs.Laws.{goes}
use Rattle.links.specs.Links.{end}
use Rattle.models.specs.Legal.{IsLegal}
use Rattle.models.specs.Model.{Model, reading}
use Rattle.models.specs.Reading.{Reading, object_of}
use Rattle.containment.proofs.PartLemmas.{legal-at, legal-reference}
use Rattle.removal.specs.Losses.{is_held_by, is_lost, loss, losses_from}
use Rattle.removal.specs.Outer.{is_in_subtree}
use Rattle.removal.specs.Ranks.{HasGone, is_in}
use Rattle.removal.specs.declared.loss.Loss.{Loss}
use Rattle.removal.specs.declared.numbers.Numbers.{Numbers}

---------------------------------------------------------------- positions

get-at : (vs : List Value) (i : ℕ) (v : Value) → slice_get vs i ≡ Some v → (i < length vs) × (slice_index_or vs i v ≡ v)
get-at [] i v at = absurd (none-some v at)
get-at (w ∷ ws) zero v at = (omega arith, same_Some w v at)
get-at (w ∷ ws) (suc i) v at = let r = get-at ws i v at in ((let low = r.0 in omega (arith, low)), r.1)

-- from a position on, the value there comes first
drop-at : (vs : List Value) (i : ℕ) (v : Value) → slice_get vs i ≡ Some v → drop i vs ≡ v ∷ drop (i + 1) vs
drop-at vs i v at = let r = get-at vs i v at in drop_more vs i v r.0 ∙ ap (λ (w : Value). w ∷ drop (i + 1) vs) r.1

-- a position of the list has a value
pub some-below : (vs : List Value) (i : ℕ) → i < length vs → (v : Value) × (slice_get vs i ≡ Some v)
some-below vs i low = (slice_index_or vs i value.Null, slice_get-get_or vs i value.Null low)

-- a read of that value
pub read-of : (vs : List Value) (i : ℕ) (v : Value) (q : Option ObjectNo) → slice_get vs i ≡ Some v → q ≡ option_and_then object_of (slice_get vs i) → q ≡ object_of v
read-of vs i v q at read = read ∙ ap (λ (x : Option Value). option_and_then object_of x) at

---------------------------------------------------------------- one end

-- a value is lost if it is an object whose number is in the set, and is not the deleted object itself at its holder
lost-is : (r : Reading) (o : ObjectNo) (e : End) (v : Value) (q : Option ObjectNo) (numbers : Numbers) (held answer : Bool) → HasGone r o numbers → held ≡ is_held_by r o e → q ≡ object_of v
    → answer ≡ option_map_or (λ x. is_in numbers (node.Object x) && not (held && same_value (value.Object x) (value.Object o))) q false → answer ≡ is_lost r o e v
lost-is r o e v q numbers held answer has holds read told =
    told ∙ ap (λ (x : Option ObjectNo). option_map_or (λ y. is_in numbers (node.Object y) && not (held && same_value (value.Object y) (value.Object o))) x false) read ∙ by v
  where
    by : (w : Value) → option_map_or (λ y. is_in numbers (node.Object y) && not (held && same_value (value.Object y) (value.Object o))) (object_of w) false ≡ is_lost r o e w
    by (value.Object x) = λ i. has (node.Object x) i && not (holds i && same_value (value.Object x) (value.Object o))
    by _ = refl

-- the value at a position of an end, and whether it is lost
pub record IsAt (r : Reading) (o : ObjectNo) (e : End) (i : ℕ) (q : Option ObjectNo) (answer : Bool) : Type 0 where
  pub value : Value
  pub at : slice_get (r.values e) i ≡ Some value
  pub read : q ≡ object_of value
  pub told : answer ≡ is_lost r o e value

pub place-told : (r : Reading) (o : ObjectNo) (e : End) (i : ℕ) (q : Option ObjectNo) (numbers : Numbers) (held answer : Bool) (n : ℕ) → n ≡ length (r.values e) → i < n
    → q ≡ option_and_then object_of (slice_get (r.values e) i) → HasGone r o numbers → held ≡ is_held_by r o e
    → answer ≡ option_map_or (λ x. is_in numbers (node.Object x) && not (held && same_value (value.Object x) (value.Object o))) q false → IsAt r o e i q answer
place-told r o e i q numbers held answer n long low found has holds told =
    let here = some-below (r.values e) i (subst (λ (k : ℕ). i < k) long low) in
    let read = read-of (r.values e) i here.0 q here.1 found in
    record { value = here.0; at = here.1; read = read; told = lost-is r o e here.0 q numbers held answer has holds read told }

-- the loss that is added for a lost value
pub added-is : (r : Reading) (o : ObjectNo) (e : End) (v : Value) (k : ℕ) (q : Option ObjectNo) → q ≡ object_of v → is_lost r o e v ≡ true
    → option_to_list (option_map (λ x. loss e (value.Object x) k) q) ≡ loss e v k ∷ []
added-is r o e v k q read lost = ap (λ (x : Option ObjectNo). option_to_list (option_map (λ y. loss e (value.Object y) k) x)) read ∙ by v lost
  where
    by : (w : Value) → is_lost r o e w ≡ true → option_to_list (option_map (λ y. loss e (value.Object y) k) (object_of w)) ≡ loss e w k ∷ []
    by (value.Object x) h = refl
    by _ h = absurd (false≢true h)

module _ (e : End) (p : Value → Bool) where
  lost-yes : (v : Value) (vs : List Value) (k : ℕ) → p v ≡ true → losses_from p e (v ∷ vs) k ≡ loss e v k ∷ losses_from p e vs k
  lost-yes v vs k h = ap (λ (b : Bool). cond b (loss e v k ∷ losses_from p e vs k) (losses_from p e vs (suc k))) h

  lost-no : (v : Value) (vs : List Value) (k : ℕ) → p v ≡ false → losses_from p e (v ∷ vs) k ≡ losses_from p e vs (suc k)
  lost-no v vs k h = ap (λ (b : Bool). cond b (loss e v k ∷ losses_from p e vs k) (losses_from p e vs (suc k))) h

  -- one position further, if the value is lost
  pub lost-step : (vs : List Value) (i k : ℕ) (v : Value) (out new all : List Loss) → slice_get vs i ≡ Some v → p v ≡ true
      → new ≡ out ++ loss e v k ∷ [] → out ++ losses_from p e (drop i vs) k ≡ all → new ++ losses_from p e (drop (i + 1) vs) k ≡ all
  lost-step vs i k v out new all at h made whole =
      let rest = drop (i + 1) vs in
      ap (λ (ls : List Loss). ls ++ losses_from p e rest k) made
      ∙ append_assoc out (loss e v k ∷ []) (losses_from p e rest k)
      ∙ ap (λ (ls : List Loss). out ++ ls) (sym (lost-yes v rest k h) ∙ ap (λ (ws : List Value). losses_from p e ws k) (sym (drop-at vs i v at)))
      ∙ whole

  -- one position further, if the value stays
  pub kept-step : (vs : List Value) (i k : ℕ) (v : Value) (out all : List Loss) → slice_get vs i ≡ Some v → p v ≡ false
      → out ++ losses_from p e (drop i vs) k ≡ all → out ++ losses_from p e (drop (i + 1) vs) (k + 1) ≡ all
  kept-step vs i k v out all at h whole =
      let rest = drop (i + 1) vs in
      ap (λ (n : ℕ). out ++ losses_from p e rest n) (add-one k)
      ∙ ap (λ (ls : List Loss). out ++ ls) (sym (lost-no v rest k h) ∙ ap (λ (ws : List Value). losses_from p e ws k) (sym (drop-at vs i v at)))
      ∙ whole

  lost-done : (ws : List Value) (k : ℕ) (out all : List Loss) → ws ≡ [] → out ++ losses_from p e ws k ≡ all → out ≡ all
  lost-done ws k out all none whole = sym (ap (λ (vs : List Value). out ++ losses_from p e vs k) none ∙ append-nil out) ∙ whole

  -- past the last position
  pub lost-end : (vs : List Value) (i k : ℕ) (out all : List Loss) → length vs ≤ i → out ++ losses_from p e (drop i vs) k ≡ all → out ≡ all
  lost-end vs i k out all past = lost-done (drop i vs) k out all (drop_all i vs past)

---------------------------------------------------------------- the object itself

module _ (p : Value → Bool) (o : ObjectNo) where
  -- the position of the object among the values that are not lost
  abbrev pub place_left : List Value → ℕ
  place_left vs = index_in (filter (λ v. not (p v)) vs) (value.Object o)

  left-lost : (v : Value) (vs : List Value) → p v ≡ true → place_left (v ∷ vs) ≡ place_left vs
  left-lost v vs h = ap (λ (b : Bool). index_in (cond (not b) (v ∷ filter (λ w. not (p w)) vs) (filter (λ w. not (p w)) vs)) (value.Object o)) h

  left-kept : (v : Value) (vs : List Value) → p v ≡ false → place_left (v ∷ vs) ≡ cond (same_value (value.Object o) v) 0 (suc (place_left vs))
  left-kept v vs h = ap (λ (b : Bool). index_in (cond (not b) (v ∷ filter (λ w. not (p w)) vs) (filter (λ w. not (p w)) vs)) (value.Object o)) h

  left-here : (vs : List Value) (i : ℕ) (v : Value) → slice_get vs i ≡ Some v → place_left (drop i vs) ≡ place_left (v ∷ drop (i + 1) vs)
  left-here vs i v at = ap place_left (drop-at vs i v at)

  -- one position further
  pub left-lost_step : (vs : List Value) (i k all : ℕ) (v : Value) → slice_get vs i ≡ Some v → p v ≡ true → k + place_left (drop i vs) ≡ all → k + place_left (drop (i + 1) vs) ≡ all
  left-lost_step vs i k all v at h whole = ap (λ (n : ℕ). k + n) (sym (left-here vs i v at ∙ left-lost v (drop (i + 1) vs) h)) ∙ whole

  pub left-kept_step : (vs : List Value) (i k all : ℕ) (v : Value) → slice_get vs i ≡ Some v → p v ≡ false → same_value (value.Object o) v ≡ false
      → k + place_left (drop i vs) ≡ all → k + 1 + place_left (drop (i + 1) vs) ≡ all
  left-kept_step vs i k all v at h other whole =
      let rest = drop (i + 1) vs in
      let one : place_left (drop i vs) ≡ suc (place_left rest) = left-here vs i v at ∙ left-kept v rest h ∙ ap (λ (b : Bool). cond b 0 (suc (place_left rest))) other in
      omega (arith, one, whole)

  -- at the object itself
  pub left-found : (vs : List Value) (i k all : ℕ) → slice_get vs i ≡ Some (value.Object o) → p (value.Object o) ≡ false → k + place_left (drop i vs) ≡ all → k ≡ all
  left-found vs i k all at h whole =
      let rest = drop (i + 1) vs in
      let none : place_left (drop i vs) ≡ 0 = left-here vs i (value.Object o) at ∙ left-kept (value.Object o) rest h ∙ ap (λ (b : Bool). cond b 0 (suc (place_left rest))) (eq-eqb o.0 o.0 refl) in
      omega (arith, none, whole)

-- an object is a value if it was read from it
pub same-read : (o : ObjectNo) (v : Value) (q : Option ObjectNo) → q ≡ object_of v → same_value (value.Object o) v ≡ option_map_or (same_object o) q false
same-read o v q read = by v ∙ sym (ap (λ (x : Option ObjectNo). option_map_or (same_object o) x false) read)
  where
    by : (w : Value) → same_value (value.Object o) w ≡ option_map_or (same_object o) (object_of w) false
    by (value.Object x) = refl
    by _ = refl

-- the end that contains the object does not lose it before the end
pub held-by : (r : Reading) (o : ObjectNo) (e : End) → r.holder (node.Object o) ≡ Some e → true ≡ is_held_by r o e
held-by r o e held = sym (ap (λ (h : Option End). option_map_or (same_end e) h false) held ∙ same_end-self e)

pub itself-stays : (r : Reading) (o : ObjectNo) (e : End) → r.holder (node.Object o) ≡ Some e → is_lost r o e (value.Object o) ≡ false
itself-stays r o e held =
    ap (λ (b : Bool). goes (is_in_subtree r o) (value.Object o) && not (b && same_value (value.Object o) (value.Object o))) (sym (held-by r o e held))
    ∙ ap (λ (b : Bool). goes (is_in_subtree r o) (value.Object o) && not b) (eq-eqb o.0 o.0 refl) ∙ and-false (goes (is_in_subtree r o) (value.Object o))

-- the end that contains the object is one of a reference
pub holder-reference : (s : Model) → IsLegal s → (o : ObjectNo) (e : End) → (reading s).holder (node.Object o) ≡ Some e → (shape s.metamodel e.feature).is_reference ≡ true
holder-reference s legal o e held =
    let n = node.Object o in
    let l = holder-some s.links n e held in
    let at = indexed_held l.0 n e (legal.links.set.placed.sides l.0 l.1) l.2 in
    let there = (legal.links.set.placed.ends e).has at.0 (node_value n) (l.0, l.1, at.1) in
    legal-reference (reading s) e.feature (value.Object o) (legal-at (reading s) e (end s.links e) at.0 (value.Object o) (legal.links.ends e) there).1
