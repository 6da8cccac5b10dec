-- A class has the features that are declared by the classes to which it conforms.
use Rattle.std.proofs.Common.{◌≡◌, ◌∙◌, ◌≢◌, ◌↔◌, ◌<◌, ◌≤◌, Bool, true, false, not, List, [], ◌∷◌, ℕ, ⊎_elim, suc, zero, arith, eqb, length, length-set, refl, replicate, set, subst, sym}
use Rattle.std.specs.Cmp.{nat_eq_equiv}
use Rattle.std.specs.List.{All, Contains, count_by, flat_map, list_any}
use Rattle.std.proofs.lemmas.Bool.{cases_eq, eqb-true, false_from_ne_true}
use Rattle.std.proofs.lemmas.List.{length-replicate}
use Rattle.std.proofs.lemmas.List.Elements.{All-cons, All-contains, All-nil, All-weaker, Contains-append_cases, Contains-append_left, Contains-append_right}
use Rattle.std.proofs.lemmas.List.Sums.{count_by-le-length}
use Rattle.std.proofs.lemmas.Map.Views.{Contains-from_any, list_any-from_Contains}
use Rattle.mm_types.specs.Features.{all_features, first_occurrences, listed_features}
use Rattle.mm_types.specs.Graph.{Conforms, Reaches, Walk, by_class}
use Rattle.mm_graph.specs.Order.{HasCycle, InRange}
use Rattle.mm_graph.specs.Sets.{is_in}
use Rattle.mm_graph.proofs.Merging.{any-with_new}
use Rattle.mm_graph.proofs.Reaching.{nothing_in, one_fewer, other_test}
use Rattle.mm_graph.proofs.Visiting.{walk_more}

-- each class in the set reaches c
abbrev AllReach : List (List ℕ) → List Bool → ℕ → Type 0
AllReach g s c = (k : ℕ) → is_in s k ≡ true → Reaches g k c

-- after c is put into the set, each class in it reaches each supertype of c
all_reach_super : (g : List (List ℕ)) (s : List Bool) (c e : ℕ) → AllReach g s c → Contains (by_class g c) e → AllReach g (set s c true) e
all_reach_super g s c e all step k is = ⊎_elim
    (λ (h : k ≡ c). (0, (e, subst (λ (x : ℕ). Contains (by_class g x) e) (sym h) step, refl)))
    (λ (n : k ≢ c).
    let r : Reaches g k c = all k (sym (other_test s c k true n) ∙ is) in
    (suc r.0, walk_more g (suc r.0) k c e r.1 step))
    (cases_eq k c)

-- without cycles a walk does not come back to a class: each step goes to a class that is not in the set
steps_left : (g : List (List ℕ)) → InRange g → (HasCycle g → ⊥) → (s : List Bool) (n c d : ℕ) → length s ≡ length g → c < length g
    → AllReach g s c → Walk g n c d → n < count_by not s
steps_left g range acyclic s zero c d long low all w =
    let fewer = one_fewer s c (omega arith) (false_from_ne_true (is_in s c) (λ h. acyclic (c, all c h))) in
    omega arith
steps_left g range acyclic s (suc n) c d long low all w =
    let fewer = one_fewer s c (omega arith) (false_from_ne_true (is_in s c) (λ h. acyclic (c, all c h))) in
    let super : w.0 < length g = All-contains (λ (e : ℕ). e < length g) (by_class g c) w.0 (range c [] low) w.1 in
    let rest : n < count_by not (set s c true) = steps_left g range acyclic (set s c true) n w.0 d (length-set s c true ∙ long) super (all_reach_super g s c w.0 all w.1) w.2 in
    omega arith

-- Without cycles no walk has as many steps as there are classes.
pub walk_is_short : (g : List (List ℕ)) → InRange g → (HasCycle g → ⊥) → (n c d : ℕ) → c < length g → Walk g n c d → n < length g
walk_is_short g range acyclic n c d low w =
    let s : List Bool = replicate (length g) false in
    let long : length s ≡ length g = length-replicate (length g) false in
    let steps : n < count_by not s = steps_left g range acyclic s n c d long low (λ k h. absurd (nothing_in s (length g) k refl h)) w in
    let most : count_by not s ≤ length s = count_by-le-length not s in
    omega arith

all_flat : (f : ℕ → List ℕ) (x : ℕ) (es : List ℕ) → All (λ (e : ℕ). Contains (f e) x → Contains (flat_map f es) x) es
all_flat f x [] = All-nil (λ (e : ℕ). Contains (f e) x → Contains (flat_map f []) x)
all_flat f x (e ∷ es) =
    All-cons (λ (y : ℕ). Contains (f y) x → Contains (flat_map f (e ∷ es)) x) e es
    (Contains-append_left (f e) (flat_map f es) x)
    (All-weaker (λ (y : ℕ). Contains (f y) x → Contains (flat_map f es) x) (λ (y : ℕ). Contains (f y) x → Contains (flat_map f (e ∷ es)) x)
    (λ y h c. Contains-append_right (f e) (flat_map f es) x (h c)) es (all_flat f x es))

flat_cases : (f : ℕ → List ℕ) (x : ℕ) (es : List ℕ) → Contains (flat_map f es) x → (e : ℕ) × Contains es e × Contains (f e) x
flat_cases f x [] h = absurd (omega (arith, h.1))
flat_cases f x (e ∷ es) h = ⊎_elim
    (λ (a : Contains (f e) x). (e, (0, omega arith, refl), a))
    (λ (b : Contains (flat_map f es) x).
    let r : (e : ℕ) × Contains es e × Contains (f e) x = flat_cases f x es b in
    (r.0, (suc r.1.0, omega (arith, r.1.1), r.1.2), r.2))
    (Contains-append_cases (f e) (flat_map f es) x h)

-- a class that c conforms to declares f
abbrev pub HasDeclarer : List (List ℕ) → List (List ℕ) → ℕ → ℕ → Type 0
HasDeclarer g own c f = (d : ℕ) × Conforms g c d × Contains (by_class own d) f

listed_from : (g own : List (List ℕ)) (f depth n c d : ℕ) → n < depth → Walk g n c d → Contains (by_class own d) f → Contains (listed_features g own depth c) f
listed_from g own f zero n c d below w h = absurd (omega arith)
listed_from g own f (suc depth) zero c d below w h =
    Contains-append_right (flat_map (listed_features g own depth) (by_class g c)) (by_class own c) f (subst (λ (x : ℕ). Contains (by_class own x) f) (sym w) h)
listed_from g own f (suc depth) (suc n) c d below w h =
    let inherited : Contains (flat_map (listed_features g own depth) (by_class g c)) f =
    All-contains (λ (e : ℕ). Contains (listed_features g own depth e) f → Contains (flat_map (listed_features g own depth) (by_class g c)) f) (by_class g c) w.0
    (all_flat (listed_features g own depth) f (by_class g c)) w.1 (listed_from g own f depth n w.0 d (omega arith) w.2 h) in
    Contains-append_left (flat_map (listed_features g own depth) (by_class g c)) (by_class own c) f inherited

listed_cases : (g own : List (List ℕ)) (f depth c : ℕ) → Contains (listed_features g own depth c) f → HasDeclarer g own c f
listed_cases g own f zero c h = absurd (omega (arith, h.1))
listed_cases g own f (suc depth) c h = ⊎_elim
    (λ (a : Contains (flat_map (listed_features g own depth) (by_class g c)) f).
    let p = flat_cases (listed_features g own depth) f (by_class g c) a in
    let r : HasDeclarer g own p.0 f = listed_cases g own f depth p.0 p.2 in
    (r.0, (suc r.1.0, (p.0, p.1, r.1.1)), r.2))
    (λ (b : Contains (by_class own c) f). (c, (0, refl), b))
    (Contains-append_cases (flat_map (listed_features g own depth) (by_class g c)) (by_class own c) f h)

-- the first occurrences of a list are elements of the list
in_firsts : (xs : List ℕ) (x : ℕ) → Contains (first_occurrences xs) x ↔ Contains xs x
in_firsts xs x =
    let same : list_any (eqb x) (first_occurrences xs) ≡ list_any (eqb x) xs = any-with_new x [] xs in (
      (λ h. Contains-from_any eqb-true x xs (sym same ∙ list_any-from_Contains nat_eq_equiv x (first_occurrences xs) h)),
      (λ h. Contains-from_any eqb-true x (first_occurrences xs) (same ∙ list_any-from_Contains nat_eq_equiv x xs h)),
    )

-- Without cycles all features of a class are the features that are declared by the classes to which it conforms.
pub has_declarer : (g own : List (List ℕ)) → InRange g → (HasCycle g → ⊥) → (c f : ℕ) → c < length g
    → Contains (all_features g own c) f ↔ HasDeclarer g own c f
unfolding all_features
has_declarer g own range acyclic c f low =
    let firsts = in_firsts (listed_features g own (length g) c) f in (
      (λ h. listed_cases g own f (length g) c (firsts.0 h)),
      (λ h. firsts.1 (listed_from g own f (length g) h.1.0 c h.0 (walk_is_short g range acyclic h.1.0 c h.0 low h.1.1) h.1.1 h.2)),
    )
