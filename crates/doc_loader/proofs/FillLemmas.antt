-- An end is complete after its proxies are put at their indexes among its objects, in the order of the indexes.
use Rattle.std.proofs.Common.{◌≡◌, ◌≢◌, ◌∙◌, ◌+◌, ◌<◌, ◌≤◌, ◌++◌, ℕ, zero, suc, Bool, true, false, List, [], ◌∷◌, Some, None, if◌then◌else◌, length, append_assoc, refl, sym, ap, subst, arith}
use Rattle.std.specs.Prelude.{◌&&◌, cond, filter, flat_map, nat_le}
use Rattle.std.specs.List.{AllByRecursion, insert, slice_get}
use Rattle.std.proofs.lemmas.Bool.{false≢true, true≢false}
use Rattle.std.proofs.lemmas.Option.{none-some, same_Some, slice_get_within}
use Rattle.std.proofs.lemmas.List.{length-append}
use Rattle.links.proofs.LegalLemmas.{edited_legal}
use Rattle.links.proofs.PutLemmas.{end-put_proxy_near, end-put_proxy_other}
use Rattle.links.specs.LegalSets.{IsDistinct, IsLegalSet, Kinds, most}
use Rattle.links.specs.Links.{Links, end, put_proxy}
use Rattle.links.specs.Plans.{IsPlanOfKind, PlanFits, PlanMakesNoCycle, PutFits, links_after_edits}
use Rattle.links.specs.declared.plan.Edit.TheVariants as edit
use Rattle.links.specs.declared.plan.Edit.{Edit}
use Rattle.mm_types.proofs.SameLemmas.{same_end-self, same_end-true}
use Rattle.mm_types.specs.Same.{same_end}
use Rattle.mm_types.specs.declared.end.End.{End}
use Rattle.mm_types.specs.declared.value.Value.TheVariants as value
use Rattle.mm_types.specs.declared.value.Value.{Value}
use Rattle.doc_loader.specs.LoadEdits.{is_ascending_from}
use Rattle.doc_loader.specs.Loading.{loaded_number}
use Rattle.doc_loader.proofs.GainLemmas.{got_left, got_mid}
use Rattle.doc_loader.proofs.SoundLemmas.{filter-at}
use Rattle.doc_loader.proofs.SourceLemmas.{loaded_values}

---------------------------------------------------------------- lists

-- a value that is no proxy
abbrev pub is_no_proxy : Value → Bool
is_no_proxy (value.Proxy t) = false
is_no_proxy _ = true

-- the values of a list without its proxies
abbrev pub others : List Value → List Value
others vs = filter is_no_proxy vs

-- the proxies of a list, whose first value is at index i, each with its index
abbrev pub proxies_from : ℕ → List Value → List (ℕ × List ℕ)
proxies_from i [] = []
proxies_from i (value.Proxy t ∷ vs) = (i, t) ∷ proxies_from (i + 1) vs
proxies_from i (v ∷ vs) = proxies_from (i + 1) vs

-- if no proxy is left, no value is left out
without_proxies : (i : ℕ) (vs : List Value) → proxies_from i vs ≡ [] → others vs ≡ vs
without_proxies i [] is = refl
without_proxies i (value.Proxy t ∷ vs) is = cc
without_proxies i (value.Object o ∷ vs) is = ap (λ (xs : List Value). value.Object o ∷ xs) (without_proxies (i + 1) vs is)
without_proxies i (value.Null ∷ vs) is = ap (λ (xs : List Value). value.Null ∷ xs) (without_proxies (i + 1) vs is)
without_proxies i (value.Bool b ∷ vs) is = ap (λ (xs : List Value). value.Bool b ∷ xs) (without_proxies (i + 1) vs is)
without_proxies i (value.Int b ∷ vs) is = ap (λ (xs : List Value). value.Int b ∷ xs) (without_proxies (i + 1) vs is)
without_proxies i (value.Text b ∷ vs) is = ap (λ (xs : List Value). value.Text b ∷ xs) (without_proxies (i + 1) vs is)
without_proxies i (value.Literal b ∷ vs) is = ap (λ (xs : List Value). value.Literal b ∷ xs) (without_proxies (i + 1) vs is)

-- the first proxy of a list, and the values before and after it
record IsFirst (k i : ℕ) (p : List ℕ) (rest : List (ℕ × List ℕ)) (zs : List Value) : Type 0 where
  front : List Value
  behind : List Value
  is : zs ≡ front ++ value.Proxy p ∷ behind
  plain : others zs ≡ front ++ others behind
  index_of : i ≡ k + length front
  left : rest ≡ proxies_from (i + 1) behind

first-more : (k i : ℕ) (p : List ℕ) (rest : List (ℕ × List ℕ)) (v : Value) (zs : List Value) → others (v ∷ zs) ≡ v ∷ others zs → IsFirst (k + 1) i p rest zs → IsFirst k i p rest (v ∷ zs)
first-more k i p rest v zs kept h =
    let index_of = h.index_of in
    record {
      front = v ∷ h.front;
      behind = h.behind;
      is = ap (λ (xs : List Value). v ∷ xs) h.is;
      plain = kept ∙ ap (λ (xs : List Value). v ∷ xs) h.plain;
      index_of = omega (arith, index_of);
      left = h.left;
    }

first-proxy : (k i : ℕ) (p : List ℕ) (rest : List (ℕ × List ℕ)) (zs : List Value) → (i, p) ∷ rest ≡ proxies_from k zs → IsFirst k i p rest zs
first-proxy k i p rest [] is = absurd (none-some (i, p) (ap (λ (xs : List (ℕ × List ℕ)). slice_get xs 0) (sym is)))
first-proxy k i p rest (value.Proxy t ∷ zs) is =
    let head : (i, p) ≡ (k, t) = same_Some (i, p) (k, t) (ap (λ (xs : List (ℕ × List ℕ)). slice_get xs 0) is) in
    let index_of : i ≡ k = ap (λ (x : ℕ × List ℕ). x.0) head in
    let text : p ≡ t = ap (λ (x : ℕ × List ℕ). x.1) head in
    let left : rest ≡ proxies_from (k + 1) zs = cc in
    record {
      front = [];
      behind = zs;
      is = ap (λ (u : List ℕ). value.Proxy u ∷ zs) (sym text);
      plain = refl;
      index_of = omega (arith, index_of);
      left = left ∙ ap (λ (j : ℕ). proxies_from (j + 1) zs) (sym index_of);
    }
first-proxy k i p rest (value.Object o ∷ zs) is = first-more k i p rest (value.Object o) zs refl (first-proxy (k + 1) i p rest zs is)
first-proxy k i p rest (value.Null ∷ zs) is = first-more k i p rest value.Null zs refl (first-proxy (k + 1) i p rest zs is)
first-proxy k i p rest (value.Bool b ∷ zs) is = first-more k i p rest (value.Bool b) zs refl (first-proxy (k + 1) i p rest zs is)
first-proxy k i p rest (value.Int b ∷ zs) is = first-more k i p rest (value.Int b) zs refl (first-proxy (k + 1) i p rest zs is)
first-proxy k i p rest (value.Text b ∷ zs) is = first-more k i p rest (value.Text b) zs refl (first-proxy (k + 1) i p rest zs is)
first-proxy k i p rest (value.Literal b ∷ zs) is = first-more k i p rest (value.Literal b) zs refl (first-proxy (k + 1) i p rest zs is)

-- none of the other values is a proxy
others-plain : (vs : List Value) (j : ℕ) (t : List ℕ) → slice_get (others vs) j ≡ Some (value.Proxy t) → ⊥
others-plain vs j t at = false≢true (filter-at is_no_proxy vs j (value.Proxy t) at).2

-- the other values are in the list
pub others-at : (vs : List Value) (j : ℕ) (v : Value) → slice_get (others vs) j ≡ Some v → (i : ℕ) × (slice_get vs i ≡ Some v)
others-at vs j v at = let r = filter-at is_no_proxy vs j v at in (r.0, r.1)

pub at-others : (vs : List Value) (i : ℕ) (v : Value) → is_no_proxy v ≡ true → slice_get vs i ≡ Some v → (j : ℕ) × (slice_get (others vs) j ≡ Some v)
at-others [] i v plain at = absurd (none-some v at)
at-others (w ∷ vs) zero v plain at =
    let here : is_no_proxy w ≡ true = ap is_no_proxy (same_Some w v at) ∙ plain in
    (0, ap (λ (b : Bool). slice_get (cond b (w ∷ others vs) (others vs)) 0) here ∙ at)
at-others (w ∷ vs) (suc i) v plain at =
    let r = at-others vs i v plain at in
    elim (is_no_proxy w) as (λ b. (j : ℕ) × (slice_get (cond b (w ∷ others vs) (others vs)) j ≡ Some v)) [ true ↦ (suc r.0, r.1) | false ↦ r ]

pub distinct-tail : (v : Value) (vs : List Value) → IsDistinct (v ∷ vs) → IsDistinct vs
distinct-tail v vs d j k w a b = let e = d (suc j) (suc k) w a b in omega (arith, e)

distinct-more : (v : Value) (vs : List Value) → IsDistinct (v ∷ vs) → IsDistinct (others vs) → IsDistinct (v ∷ others vs)
distinct-more v vs d rest j k w a b = by j k a b
  where
    again : (k : ℕ) → slice_get (others vs) k ≡ Some v → ⊥
    again k at = let r = others-at vs k v at in let e = d 0 (suc r.0) v refl r.1 in omega (arith, e)

    by : (j k : ℕ) → slice_get (v ∷ others vs) j ≡ Some w → slice_get (v ∷ others vs) k ≡ Some w → j ≡ k
    by zero zero a b = refl
    by zero (suc k) a b = absurd (again k (b ∙ sym a))
    by (suc j) zero a b = absurd (again j (a ∙ sym b))
    by (suc j) (suc k) a b = ap suc (rest j k w a b)

pub others-distinct : (vs : List Value) → IsDistinct vs → IsDistinct (others vs)
others-distinct [] d = λ j k w a b. absurd (none-some w a)
others-distinct (v ∷ vs) d =
    let rest = others-distinct vs (distinct-tail v vs d) in
    elim (is_no_proxy v) as (λ b. IsDistinct (cond b (v ∷ others vs) (others vs))) [ true ↦ distinct-more v vs d rest | false ↦ rest ]

-- leaving proxies out does not change whether the objects are in order
pub others-ascending : (k : ℕ) (vs : List Value) → is_ascending_from k (others vs) ≡ is_ascending_from k vs
others-ascending k [] = refl
others-ascending k (value.Proxy t ∷ vs) = others-ascending k vs
others-ascending k (value.Object a ∷ vs) = ap (λ (b : Bool). nat_le k a.0 && b) (others-ascending (suc a.0) vs)
others-ascending k (value.Null ∷ vs) = others-ascending k vs
others-ascending k (value.Bool b ∷ vs) = others-ascending k vs
others-ascending k (value.Int b ∷ vs) = others-ascending k vs
others-ascending k (value.Text b ∷ vs) = others-ascending k vs
others-ascending k (value.Literal b ∷ vs) = others-ascending k vs

-- leaving proxies out does not change which numbers the objects get
pub others-loaded : (n : ℕ) (vs : List Value) → others (loaded_values n vs) ≡ loaded_values n (others vs)
others-loaded n [] = refl
others-loaded n (value.Proxy t ∷ vs) = others-loaded n vs
others-loaded n (value.Object a ∷ vs) = ap (λ (xs : List Value). value.Object (loaded_number n a) ∷ xs) (others-loaded n vs)
others-loaded n (value.Null ∷ vs) = ap (λ (xs : List Value). value.Null ∷ xs) (others-loaded n vs)
others-loaded n (value.Bool b ∷ vs) = ap (λ (xs : List Value). value.Bool b ∷ xs) (others-loaded n vs)
others-loaded n (value.Int b ∷ vs) = ap (λ (xs : List Value). value.Int b ∷ xs) (others-loaded n vs)
others-loaded n (value.Text b ∷ vs) = ap (λ (xs : List Value). value.Text b ∷ xs) (others-loaded n vs)
others-loaded n (value.Literal b ∷ vs) = ap (λ (xs : List Value). value.Literal b ∷ xs) (others-loaded n vs)

-- loading keeps proxies where they are
pub proxies-loaded : (n i : ℕ) (vs : List Value) → proxies_from i (loaded_values n vs) ≡ proxies_from i vs
proxies-loaded n i [] = refl
proxies-loaded n i (value.Proxy t ∷ vs) = ap (λ (xs : List (ℕ × List ℕ)). (i, t) ∷ xs) (proxies-loaded n (i + 1) vs)
proxies-loaded n i (value.Object a ∷ vs) = proxies-loaded n (i + 1) vs
proxies-loaded n i (value.Null ∷ vs) = proxies-loaded n (i + 1) vs
proxies-loaded n i (value.Bool b ∷ vs) = proxies-loaded n (i + 1) vs
proxies-loaded n i (value.Int b ∷ vs) = proxies-loaded n (i + 1) vs
proxies-loaded n i (value.Text b ∷ vs) = proxies-loaded n (i + 1) vs
proxies-loaded n i (value.Literal b ∷ vs) = proxies-loaded n (i + 1) vs

insert-mid : (xs ys : List Value) (v : Value) → insert (xs ++ ys) (length xs) v ≡ xs ++ v ∷ ys
insert-mid [] [] v = refl
insert-mid [] (y ∷ ys) v = refl
insert-mid (x ∷ xs) ys v = ap (λ (zs : List Value). x ∷ zs) (insert-mid xs ys v)

others-few : (vs : List Value) → length (others vs) ≤ length vs
others-few [] = omega arith
others-few (value.Proxy t ∷ vs) = let less = others-few vs in omega (arith, less)
others-few (value.Object o ∷ vs) = let less = others-few vs in omega (arith, less)
others-few (value.Null ∷ vs) = let less = others-few vs in omega (arith, less)
others-few (value.Bool b ∷ vs) = let less = others-few vs in omega (arith, less)
others-few (value.Int b ∷ vs) = let less = others-few vs in omega (arith, less)
others-few (value.Text b ∷ vs) = let less = others-few vs in omega (arith, less)
others-few (value.Literal b ∷ vs) = let less = others-few vs in omega (arith, less)

split-at : (xs ys : List Value) (k : ℕ) (v : Value) → slice_get (xs ++ ys) k ≡ Some v → ((slice_get xs k ≡ Some v) → ⊥) → (j : ℕ) × (slice_get ys j ≡ Some v)
split-at [] ys k v at other = (k, at)
split-at (x ∷ xs) ys zero v at other = absurd (other at)
split-at (x ∷ xs) ys (suc k) v at other = split-at xs ys k v at other

---------------------------------------------------------------- a plan of proxies

-- the proxies that an edit puts at an end
abbrev pub fills : End → Edit → List (ℕ × List ℕ)
fills d (edit.PutProxy e i t) = if same_end e d then (i, t) ∷ [] else []
fills d _ = []

abbrev pub IsFill : Kinds → Edit → Type 0
IsFill m (edit.PutProxy e i t) = m.container e.feature ≡ None
IsFill m _ = ⊥

pub fills-kinds : (m : Kinds) (ys : List Edit) → AllByRecursion (IsFill m) ys → IsPlanOfKind m ys
fills-kinds m [] all = tt
fills-kinds m (edit.PutProxy e i t ∷ ys) all = (all.0, fills-kinds m ys all.1)
fills-kinds m (edit.Put l ∷ ys) all = absurd all.0
fills-kinds m (edit.Cut e v ∷ ys) all = absurd all.0
fills-kinds m (edit.Shift e to from ∷ ys) all = absurd all.0

-- an end that waits for proxies: its first values are complete, and of the later values all except the proxies are there
pub record Waits (t : Links) (ys : List Edit) (d : End) (vs : List Value) : Type 0 where
  pub there : List Value
  pub waiting : List Value
  pub whole : vs ≡ there ++ waiting
  pub now : end t d ≡ there ++ others waiting
  pub next : flat_map (fills d) ys ≡ proxies_from (length there) waiting

fills-here : (e : End) (i : ℕ) (p : List ℕ) → fills e (edit.PutProxy e i p) ≡ (i, p) ∷ []
fills-here e i p = let self = same_end-self e in rw self refl

---------------------------------------------------------------- one proxy

module _ (t : Links) (legal : IsLegalSet t) (ys : List Edit) (e : End) (i : ℕ) (p : List ℕ) (vs : List Value) (distinct : IsDistinct vs) (few : length vs ≤ most) (w : Waits t (edit.PutProxy e i p ∷ ys) e vs) where
  here : IsFirst (length w.there) i p (flat_map (fills e) ys) w.waiting
  here = first-proxy (length w.there) i p (flat_map (fills e) ys) w.waiting (ap (λ (xs : List (ℕ × List ℕ)). xs ++ flat_map (fills e) ys) (sym (fills-here e i p)) ∙ w.next)

  abbrev before : List Value
  before = w.there ++ here.front

  at_now : end t e ≡ before ++ others here.behind
  at_now = w.now ∙ ap (λ (xs : List Value). w.there ++ xs) here.plain ∙ sym (append_assoc w.there here.front (others here.behind))

  at_last : vs ≡ before ++ value.Proxy p ∷ here.behind
  at_last = w.whole ∙ ap (λ (xs : List Value). w.there ++ xs) here.is ∙ sym (append_assoc w.there here.front (value.Proxy p ∷ here.behind))

  index_of : i ≡ length before
  index_of = here.index_of ∙ sym (length-append w.there here.front)

  absent : (k : ℕ) → slice_get (end t e) k ≡ Some (value.Proxy p) → ⊥
  absent k at =
      let early : slice_get before k ≡ Some (value.Proxy p) → ⊥ = λ found.
      (let one = ap (λ (xs : List Value). slice_get xs k) at_last ∙ got_left before (value.Proxy p ∷ here.behind) k (value.Proxy p) found in
      let two = ap (λ (xs : List Value). slice_get xs (length before)) at_last ∙ got_mid before (value.Proxy p) here.behind in
      let same = distinct k (length before) (value.Proxy p) one two in
      let low = slice_get_within before k (value.Proxy p) found in
      omega (arith, same, low)) in
      let r = split-at before (others here.behind) k (value.Proxy p) (ap (λ (xs : List Value). slice_get xs k) (sym at_now) ∙ at) early in
      others-plain here.behind r.0 p r.1

  room : length (end t e) < most
  room =
      let a = ap length at_now in
      let b = ap length at_last in
      let c = length-append before (others here.behind) in
      let d = length-append before (value.Proxy p ∷ here.behind) in
      let f = few in
      let g = others-few here.behind in
      omega (arith, a, b, c, d, f, g)

  pub fill-fits : PutFits t e i (value.Proxy p)
  fill-fits = record {
    in_range = (let a = ap length at_now in let c = length-append before (others here.behind) in let q = index_of in omega (arith, a, c, q));
    absent = absent;
    room = room;
  }

  pub fill-here : Waits (put_proxy t e i p) ys e vs
  fill-here = record {
    there = before ++ value.Proxy p ∷ [];
    waiting = here.behind;
    whole = at_last ∙ sym (append_assoc before (value.Proxy p ∷ []) here.behind);
    now =
        end-put_proxy_near t e i p legal.placed fill-fits
        ∙ (λ j. insert (at_now j) (index_of j) (value.Proxy p))
        ∙ insert-mid before (others here.behind) (value.Proxy p)
        ∙ sym (append_assoc before (value.Proxy p ∷ []) (others here.behind));
    next =
        here.left
        ∙ ap (λ (k : ℕ). proxies_from k here.behind) (let a = length-append before (value.Proxy p ∷ []) in let q = index_of in omega (arith, a, q));
  }

fill-other : (t : Links) → IsLegalSet t → (ys : List Edit) (e : End) (i : ℕ) (p : List ℕ) → PutFits t e i (value.Proxy p) → (d : End) (vs : List Value) → same_end e d ≡ false → Waits t (edit.PutProxy e i p ∷ ys) d vs
    → Waits (put_proxy t e i p) ys d vs
fill-other t legal ys e i p fits d vs other w =
    let ne : e ≢ d = λ same. true≢false (sym (subst (λ (x : End). same_end e x ≡ true) same (same_end-self e)) ∙ other) in
    let none : fills d (edit.PutProxy e i p) ≡ [] = ap (λ (b : Bool). if b then (i, p) ∷ [] else []) other in
    record {
      there = w.there;
      waiting = w.waiting;
      whole = w.whole;
      now = end-put_proxy_other t e i p legal.placed fits d ne ∙ w.now;
      next = ap (λ (xs : List (ℕ × List ℕ)). xs ++ flat_map (fills d) ys) (sym none) ∙ w.next;
    }

---------------------------------------------------------------- a plan

-- an end that waits for proxies, and its final list, which has no value twice and is short
pub record IsReady (t : Links) (ys : List Edit) (d : End) : Type 0 where
  pub last : List Value
  pub distinct : IsDistinct last
  pub few : length last ≤ most
  pub waits : Waits t ys d last

next-ready : (t : Links) → IsLegalSet t → (ys : List Edit) (e : End) (i : ℕ) (p : List ℕ) → PutFits t e i (value.Proxy p) → (d : End) (r : IsReady t (edit.PutProxy e i p ∷ ys) d) → Waits (put_proxy t e i p) ys d r.last
next-ready t legal ys e i p fit d r =
    elim (same_end e d) as (λ b. same_end e d ≡ b → Waits (put_proxy t e i p) ys d r.last) [
      | true ↦ λ q.
          let is : e ≡ d = same_end-true e d q in
          subst (λ (x : End). Waits (put_proxy t e i p) ys x r.last) is (fill-here t legal ys e i p r.last r.distinct r.few (subst (λ (x : End). Waits t (edit.PutProxy e i p ∷ ys) x r.last) (sym is) r.waits))
      | false ↦ λ q. fill-other t legal ys e i p fit d r.last q r.waits
    ] refl

pub record AreFilled (t : Links) (ys : List Edit) : Type 0 where
  pub fits : PlanFits t ys
  pub no_cycle : PlanMakesNoCycle t ys

pub all_filled : (m : Kinds) (ys : List Edit) (t : Links) → IsLegalSet t → AllByRecursion (IsFill m) ys → ((d : End) → IsReady t ys d) → AreFilled t ys
all_filled m [] t legal all ready = record { fits = tt; no_cycle = tt }
all_filled m (edit.PutProxy e i p ∷ ys) t legal all ready =
    let r = ready e in
    let fit = fill-fits t legal ys e i p r.last r.distinct r.few r.waits in
    let rest = all_filled m ys (put_proxy t e i p) (edited_legal t (edit.PutProxy e i p) legal fit) all.1 (λ d. (let x = ready d in record { last = x.last; distinct = x.distinct; few = x.few; waits = next-ready t legal ys e i p fit d x })) in
    record { fits = (fit, rest.fits); no_cycle = (tt, rest.no_cycle) }
all_filled m (edit.Put l ∷ ys) t legal all ready = absurd all.0
all_filled m (edit.Cut e v ∷ ys) t legal all ready = absurd all.0
all_filled m (edit.Shift e to from ∷ ys) t legal all ready = absurd all.0

-- each end gets its final list
pub end_filled : (m : Kinds) (ys : List Edit) (t : Links) → IsLegalSet t → AllByRecursion (IsFill m) ys → PlanFits t ys → (d : End) (r : IsReady t ys d) → end (links_after_edits t ys) d ≡ r.last
end_filled m [] t legal all fits d r = let w = r.waits in w.now ∙ ap (λ (xs : List Value). w.there ++ xs) (without_proxies (length w.there) w.waiting (sym w.next)) ∙ sym w.whole
end_filled m (edit.PutProxy e i p ∷ ys) t legal all fits d r =
    end_filled m ys (put_proxy t e i p) (edited_legal t (edit.PutProxy e i p) legal fits.0) all.1 fits.1 d (record { last = r.last; distinct = r.distinct; few = r.few; waits = next-ready t legal ys e i p fits.0 d r })
end_filled m (edit.Put l ∷ ys) t legal all fits d r = absurd all.0
end_filled m (edit.Cut e v ∷ ys) t legal all fits d r = absurd all.0
end_filled m (edit.Shift e to from ∷ ys) t legal all fits d r = absurd all.0
