-- A set that grows by the classes that a class reaches.
use Rattle.std.proofs.Common.{◌≡◌, ◌∙◌, ◌≢◌, ◌⊎◌, ◌+◌, ◌<◌, ◌≤◌, Bool, true, false, not, List, [], ◌∷◌, ℕ, ⊎_elim, inl, inr, suc, zero, ap, arith, cond, get_or, get_or-set_same, get_or-set_other, replicate, length, length-set, refl, set, sym, subst}
use Rattle.std.specs.List.{Contains, count_by}
use Rattle.std.proofs.lemmas.Bool.{cases_eq}
use Rattle.std.proofs.lemmas.List.{get_or_default, length-replicate}
use Rattle.std.proofs.lemmas.List.Elements.{All-contains, Contains-get_or}
use Rattle.std.proofs.lemmas.List.Sums.{sum_by-set}
use Rattle.mm_types.specs.Graph.{Conforms, Reaches, Walk, by_class}
use Rattle.mm_graph.specs.Sets.{HasSupers, IsAdded, IsSetOf, is_in}
use Rattle.mm_graph.specs.Order.{IsBefore, IsOrder}

-- the set has c, the first i of its supertypes, and all classes that these reach
pub record IsAdding (g : List (List ℕ)) (c : ℕ) (old s : List Bool) (i : ℕ) : Type 0 where
  pub new : is_in old c ≡ false
  pub long : length s ≡ length old
  pub keeps : (k : ℕ) → is_in (set old c true) k ≡ true → is_in s k ≡ true
  pub sound : (k : ℕ) → is_in s k ≡ true → (is_in old k ≡ true) ⊎ Conforms g c k
  pub closed : (k : ℕ) → is_in s k ≡ true → (is_in (set old c true) k ≡ true) ⊎ HasSupers g s k
  pub visited : (j : ℕ) → j < i → is_in s (get_or (by_class g c) j 0) ≡ true
  pub fewer : count_by not s + 1 ≤ count_by not old

same_test : (s : List Bool) (c k : ℕ) (b : Bool) → c < length s → k ≡ c → is_in (set s c b) k ≡ b
same_test s c k b within e = rw e (get_or-set_same s c b false within)

pub other_test : (s : List Bool) (c k : ℕ) (b : Bool) → k ≢ c → is_in (set s c b) k ≡ is_in s k
other_test s c k b n = get_or-set_other s c k b false n

counted_set : (s : List Bool) (c : ℕ) (b old : Bool) → c < length s → is_in s c ≡ old
    → count_by not (set s c b) + cond (not old) 1 0 ≡ count_by not s + cond (not b) 1 0
counted_set s c b old within is = rw (← is) (sum_by-set (λ x. cond (not x) 1 0) s c b false within)

pub one_fewer : (s : List Bool) (c : ℕ) → c < length s → is_in s c ≡ false → count_by not (set s c true) + 1 ≡ count_by not s
one_fewer s c within is = let e = counted_set s c true false within is in omega arith

pub adding_none : (g : List (List ℕ)) (c : ℕ) (old : List Bool) → c < length old → is_in old c ≡ false → IsAdding g c old (set old c true) 0
adding_none g c old within is = record {
  new = is;
  long = length-set old c true;
  keeps = λ k h. h;
  sound = λ k h. ⊎_elim
      (λ (s : k ≡ c). inr (0, sym s))
      (λ (n : k ≢ c). inl (sym (other_test old c k true n) ∙ h)) (cases_eq k c);
  closed = λ k h. inl h;
  visited = λ j h. absurd (omega arith);
  fewer = let e = one_fewer old c within is in omega arith;
}

pub conforms_more : (g : List (List ℕ)) (c e k : ℕ) → Contains (by_class g c) e → Conforms g e k → Conforms g c k
conforms_more g c e k step h = (suc h.0, (e, step, h.1))

pub adding_more : (g : List (List ℕ)) (c e : ℕ) (old s more : List Bool) (i : ℕ) → IsAdding g c old s i → i < length (by_class g c) → e ≡ get_or (by_class g c) i 0
    → IsAdded g e s more → IsAdding g c old more (i + 1)
adding_more g c e old s more i a low is b = record {
  new = a.new;
  long = b.long ∙ a.long;
  keeps = λ k h. b.keeps k (a.keeps k h);
  sound = λ k h. ⊎_elim (λ (x : is_in s k ≡ true). a.sound k x)
      (λ (x : Conforms g e k). inr (conforms_more g c e k (rw is (Contains-get_or (by_class g c) i 0 low)) x)) (b.sound k h);
  closed = λ k h. ⊎_elim (λ (x : is_in s k ≡ true). ⊎_elim (λ (y : is_in (set old c true) k ≡ true). inl y)
      (λ (y : HasSupers g s k). inr (λ j d less. b.keeps _ (y j d less))) (a.closed k x))
      (λ (x : HasSupers g more k). inr x) (b.closed k h);
  visited = λ j h. ⊎_elim (λ (x : j ≡ i). rw (x, ← is) b.here)
      (λ (x : j ≢ i). b.keeps _ (a.visited j (omega arith))) (cases_eq j i);
  fewer = let x = a.fewer in let y = b.fewer in omega arith;
}

pub added : (g : List (List ℕ)) (c : ℕ) (old s : List Bool) (i : ℕ) → IsAdding g c old s i → c < length old → length (by_class g c) ≤ i → IsAdded g c old s
added g c old s i a within all = record {
  long = a.long;
  here = a.keeps c (same_test old c c true within refl);
  keeps = λ k h. a.keeps k (⊎_elim (λ (x : k ≡ c). same_test old c k true within x) (λ (x : k ≢ c). other_test old c k true x ∙ h) (cases_eq k c));
  sound = a.sound;
  closed = λ k h. ⊎_elim (λ (x : is_in (set old c true) k ≡ true). ⊎_elim
      (λ (y : k ≡ c). inr (subst (λ (n : ℕ). HasSupers g s n) (sym y)
      (λ j d low. ap (is_in s) (get_or_default (by_class g c) j d 0 low) ∙ a.visited j (omega arith))))
      (λ (y : k ≢ c). inl (sym (other_test old c k true y) ∙ x)) (cases_eq k c))
      (λ (x : HasSupers g s k). inr x) (a.closed k h);
  fewer = let x = a.fewer in omega arith;
}

-- a set that has all supertypes of its classes has all classes that they reach
pub closed_reaches : (g : List (List ℕ)) (s : List Bool) → ((k : ℕ) → is_in s k ≡ true → HasSupers g s k)
    → (n c d : ℕ) → is_in s c ≡ true → Walk g n c d → is_in s d ≡ true
closed_reaches g s closed zero c d h w = ap (is_in s) (sym w) ∙ h
closed_reaches g s closed (suc n) c d h w = closed_reaches g s closed n w.0 d (All-contains (λ (e : ℕ). is_in s e ≡ true) (by_class g c) w.0 (closed c h) w.1) w.2

none_in : (n k : ℕ) → get_or (replicate n false) k false ≡ false
none_in zero k = refl
none_in (suc n) zero = refl
none_in (suc n) (suc k) = none_in n k

pub nothing_in : (s : List Bool) (n k : ℕ) → s ≡ replicate n false → is_in s k ≡ true → ⊥
nothing_in s n k e h = let bad : false ≡ true = sym (none_in n k) ∙ (sym (ap (λ l. is_in l k) e) ∙ h) in cc

pub conforms_set : (g : List (List ℕ)) (c n : ℕ) (old s : List Bool) → old ≡ replicate n false → IsAdded g c old s → IsSetOf (Conforms g c) s
conforms_set g c n old s e a k =
    let closed : (k : ℕ) → is_in s k ≡ true → HasSupers g s k =
    λ k h. ⊎_elim (λ (x : is_in old k ≡ true). absurd (nothing_in old n k e x)) (λ (x : HasSupers g s k). x) (a.closed k h) in (
      (λ h. ⊎_elim (λ (x : is_in old k ≡ true). absurd (nothing_in old n k e x)) (λ (x : Conforms g c k). x) (a.sound k h)),
      (λ h. closed_reaches g s closed h.0 c k a.here h.1),
    )

-- the set has the classes to which the first i of c's supertypes conform
pub record IsReaching (g : List (List ℕ)) (c : ℕ) (s : List Bool) (i : ℕ) : Type 0 where
  pub long : length s ≡ length g
  pub sound : (k : ℕ) → is_in s k ≡ true → Reaches g c k
  pub closed : (k : ℕ) → is_in s k ≡ true → HasSupers g s k
  pub visited : (j : ℕ) → j < i → is_in s (get_or (by_class g c) j 0) ≡ true

pub reaching_none : (g : List (List ℕ)) (c : ℕ) (s : List Bool) → s ≡ replicate (length g) false → IsReaching g c s 0
reaching_none g c s e = record {
  long = ap length e ∙ length-replicate (length g) false;
  sound = λ k h. absurd (nothing_in s (length g) k e h);
  closed = λ k h. absurd (nothing_in s (length g) k e h);
  visited = λ j h. absurd (omega arith);
}

pub reaching_more : (g : List (List ℕ)) (c e : ℕ) (s more : List Bool) (i : ℕ) → IsReaching g c s i → i < length (by_class g c) → e ≡ get_or (by_class g c) i 0
    → IsAdded g e s more → IsReaching g c more (i + 1)
reaching_more g c e s more i a low is b = record {
  long = b.long ∙ a.long;
  sound = λ k h. ⊎_elim (λ (x : is_in s k ≡ true). a.sound k x)
      (λ (x : Conforms g e k). let r : Reaches g c k = (x.0, (e, rw is (Contains-get_or (by_class g c) i 0 low), x.1)) in r) (b.sound k h);
  closed = λ k h. ⊎_elim (λ (x : is_in s k ≡ true). λ j d less. b.keeps _ (a.closed k x j d less))
      (λ (x : HasSupers g more k). x) (b.closed k h);
  visited = λ j h. ⊎_elim (λ (x : j ≡ i). rw (x, ← is) b.here)
      (λ (x : j ≢ i). b.keeps _ (a.visited j (omega arith))) (cases_eq j i);
}

pub reaching_all : (g : List (List ℕ)) (c : ℕ) (s : List Bool) (i : ℕ) → IsReaching g c s i → length (by_class g c) ≤ i → IsSetOf (Reaches g c) s
reaching_all g c s i a all k =
    let supers : HasSupers g s c = λ j d low. ap (is_in s) (get_or_default (by_class g c) j d 0 low) ∙ a.visited j (omega arith) in
    (a.sound k, (λ h. closed_reaches g s a.closed h.0 h.1.0 k (All-contains (λ (e : ℕ). is_in s e ≡ true) (by_class g c) h.1.0 supers h.1.1) h.1.2))

-- The classes that a class of an order reaches are before it.
pub order_falls : (g : List (List ℕ)) (order : List ℕ) → IsOrder g order → (n j c d : ℕ) → j < length order → get_or order j 0 ≡ c → Walk g (suc n) c d
    → (i : ℕ) × (i < j) × (get_or order i 0 ≡ d)
order_falls g order o zero j c d low at w =
    let p = All-contains (IsBefore order j) (by_class g (get_or order j 0)) w.0 (o.behind j low) (rw at w.1) in
    (p.0, p.1, p.2 ∙ w.2)
order_falls g order o (suc n) j c d low at w =
    let p = All-contains (IsBefore order j) (by_class g (get_or order j 0)) w.0 (o.behind j low) (rw at w.1) in
    let q = order_falls g order o n p.0 w.0 d (omega (arith, p.1)) p.2 w.2 in
    (q.0, omega (arith, p.1, q.1), q.2)

never_falls : (g : List (List ℕ)) (order : List ℕ) → IsOrder g order → (bound j c : ℕ) → j < bound → j < length order → get_or order j 0 ≡ c → Reaches g c c → ⊥
never_falls g order o zero j c below low at r = absurd (omega arith)
never_falls g order o (suc bound) j c below low at r =
    let p = order_falls g order o r.0 j c c low at r.1 in
    never_falls g order o bound p.0 c (omega (arith, p.1)) (omega (arith, p.1)) p.2 r

-- what has a supertype is a class
pub has_row : (g : List (List ℕ)) (c e : ℕ) → Contains (by_class g c) e → c < length g
has_row [] c e h = absurd (omega (arith, h.1))
has_row (x ∷ g) zero e h = omega arith
has_row (x ∷ g) (suc c) e h = let p = has_row g c e h in omega arith

-- If there is an order, no class reaches itself.
pub no_cycle : (g : List (List ℕ)) (order : List ℕ) → IsOrder g order → (c : ℕ) → Reaches g c c → ⊥
no_cycle g order o c r =
    let p = o.every c (has_row g c r.1.0 r.1.1) in
    never_falls g order o (suc p.0) p.0 c (omega arith) p.1 (get_or_default order p.0 0 c p.1 ∙ p.2) r
