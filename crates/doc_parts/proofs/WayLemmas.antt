-- Each path leads to the first part with this path, while parts are added.
use Rattle.std.proofs.Common.{◌≡◌, ◌∙◌, ◌+◌, ◌<◌, ◌++◌, Bool, true, false, List, [], ◌∷◌, Option, Some, None, ℕ, suc, ap, arith, cond, refl, sym, subst, length, nat_lt}
use Rattle.std.specs.Prelude.{◌&&◌, nat_eq, option_and_then, option_map, not, position}
use Rattle.std.specs.Option.{option_or}
use Rattle.std.specs.List.{position_or_len}
use Rattle.std.specs.Str.{bytes_eq}
use Rattle.std.proofs.lemmas.Bool.{and_parts, true≢false}
use Rattle.std.proofs.lemmas.Bool.Decides.{Decides-eqb, nat_tests}
use Rattle.std.proofs.lemmas.Option.{same_Some}
use Rattle.std.proofs.lemmas.Slice.Eq.{bytes_eq-Decides}
use Rattle.web_uris.specs.Paths.{new_path, same_index, same_path, same_steps}
use Rattle.web_uris.specs.declared.path.Path.{Path}
use Rattle.web_uris.specs.declared.path.Step.{Step}
use Rattle.doc_parts.specs.Parts.{Part, number_of}
use Rattle.doc_parts.specs.Keys.{Key, RootKey, UnderKey, way}
use Rattle.doc_parts.proofs.PlaceLemmas.{same_index_tells}

---------------------------------------------------------------- when paths are the same

same_step_of : (s t : Step) → s.name ≡ t.name → s.index ≡ t.index → s ≡ t
same_step_of s t names indices = ap (λ w. record { name = w; index = s.index }) names ∙ ap (λ i. record { name = t.name; index = i }) indices

pub same_steps_tells : (ss ts : List Step) → same_steps ss ts ≡ true → ss ≡ ts
same_steps_tells [] [] h = refl
same_steps_tells [] (t ∷ ts) h = cc
same_steps_tells (s ∷ ss) [] h = cc
same_steps_tells (s ∷ ss) (t ∷ ts) h =
    let (first, rest) = and_parts (bytes_eq s.name t.name) (same_index s.index t.index && same_steps ss ts) h in
    let (second, third) = and_parts (same_index s.index t.index) (same_steps ss ts) rest in
    ap (λ x. x ∷ ss) (same_step_of s t ((bytes_eq-Decides s.name t.name).0 first) (same_index_tells s.index t.index second)) ∙ ap (λ xs. t ∷ xs) (same_steps_tells ss ts third)

pub both_true : (a b : Bool) → a ≡ true → b ≡ true → a && b ≡ true
both_true a b h g = rw (h, g) refl

pub same_index_self : (i : Option ℕ) → same_index i i ≡ true
same_index_self None = refl
same_index_self (Some i) = (Decides-eqb i i).1 refl

pub same_steps_self : (ss : List Step) → same_steps ss ss ≡ true
same_steps_self [] = refl
same_steps_self (s ∷ ss) = both_true (bytes_eq s.name s.name) _ ((bytes_eq-Decides s.name s.name).1 refl) (both_true (same_index s.index s.index) _ (same_index_self s.index) (same_steps_self ss))

pub same_path_tells : (p q : Path) → same_path p q ≡ true → p ≡ q
same_path_tells p q h =
    let (first, rest) = and_parts (nat_eq p.root q.root) (same_steps p.steps q.steps) h in
    ap (λ n. new_path n p.steps) ((Decides-eqb p.root q.root).0 first) ∙ ap (new_path q.root) (same_steps_tells p.steps q.steps rest)

pub same_path_self : (p : Path) → same_path p p ≡ true
same_path_self p = both_true (nat_eq p.root p.root) _ ((Decides-eqb p.root p.root).1 refl) (same_steps_self p.steps)

---------------------------------------------------------------- the first part of a path

abbrev is_of : Path → Part → Bool
is_of q p = same_path q p.path

at_later : (b c : Bool) (n m : ℕ) → c ≡ b → m ≡ suc n → cond c (Some m) None ≡ option_map suc (cond b (Some n) None)
at_later true c n m same next = rw (same, next) refl
at_later false c n m same next = rw same refl

lt_next : (n l m : ℕ) → m ≡ 1 + n → nat_lt m (suc l) ≡ nat_lt n l
lt_next n l m e = grind (arith, nat_tests)

position_at : {X : Type 0} (b : Bool) (test : X → Bool) (xs : List X) → cond (nat_lt (cond (not b) (1 + position_or_len test xs) 0) (suc (length xs))) (Some (cond (not b) (1 + position_or_len test xs) 0)) None
    ≡ cond b (Some 0) (option_map suc (position test xs))
position_at true test xs = let e : nat_lt 0 (suc (length xs)) ≡ true = grind (arith, nat_tests) in rw e refl
position_at false test xs = at_later (nat_lt (position_or_len test xs) (length xs)) _ (position_or_len test xs) _ (lt_next (position_or_len test xs) (length xs) _ refl) (omega arith)

pub position_cons : {X : Type 0} (test : X → Bool) (x : X) (xs : List X) → position test (x ∷ xs) ≡ cond (test x) (Some 0) (option_map suc (position test xs))
position_cons test x xs = position_at (test x) test xs

later_or : (b c : Bool) (o : Option ℕ) (n : ℕ) → cond b (Some 0) (option_map suc (option_or o (cond c (Some n) None))) ≡ option_or (cond b (Some 0) (option_map suc o)) (cond c (Some (suc n)) None)
later_or true c o n = refl
later_or false true None n = refl
later_or false false None n = refl
later_or false c (Some m) n = refl

alone : (b : Bool) → cond b (Some 0) (option_map suc None) ≡ cond b (Some 0) None
alone true = refl
alone false = refl

pub number_pushed : (q : Path) (ps : List Part) (x : Part) → number_of (ps ++ x ∷ []) q ≡ option_or (number_of ps q) (cond (same_path q x.path) (Some (length ps)) None)
number_pushed q [] x = position_cons (is_of q) x [] ∙ alone (same_path q x.path)
number_pushed q (p ∷ ps) x =
    position_cons (is_of q) p (ps ++ x ∷ [])
    ∙ ap (λ o. cond (same_path q p.path) (Some 0) (option_map suc o)) (number_pushed q ps x)
    ∙ later_or (same_path q p.path) (same_path q x.path) (number_of ps q) (length ps)
    ∙ ap (λ o. option_or o (cond (same_path q x.path) (Some (suc (length ps))) None)) (sym (position_cons (is_of q) p ps))

pub below_at : (b : Bool) (o : Option ℕ) (l n : ℕ) → ((m : ℕ) → o ≡ Some m → m < l) → cond b (Some 0) (option_map suc o) ≡ Some n → n < suc l
below_at true o l n less h = let e = same_Some 0 n h in omega (arith, e)
below_at false None l n less h = cc
below_at false (Some m) l n less h = let e = same_Some (suc m) n h in let f = less m refl in omega (arith, e, f)

pub number_below : (q : Path) (ps : List Part) (n : ℕ) → number_of ps q ≡ Some n → n < length ps
number_below q [] n h = cc
number_below q (p ∷ ps) n h = below_at (same_path q p.path) (number_of ps q) (length ps) n (number_below q ps) (sym (position_cons (is_of q) p ps) ∙ h)

tells_at : (b c : Bool) (o u : Option ℕ) (n : ℕ) (P : Type 0) → (b ≡ true → c ≡ true → P) → ((m : ℕ) → o ≡ Some m → u ≡ Some m → P)
    → cond b (Some 0) (option_map suc o) ≡ Some n → cond c (Some 0) (option_map suc u) ≡ Some n → P
tells_at true true o u n P here later h g = here refl refl
tells_at true false o None n P here later h g = cc
tells_at true false o (Some m) n P here later h g = let e = same_Some 0 n h in let f = same_Some (suc m) n g in absurd (omega (arith, e, f))
tells_at false true None u n P here later h g = cc
tells_at false true (Some m) u n P here later h g = let e = same_Some 0 n g in let f = same_Some (suc m) n h in absurd (omega (arith, e, f))
tells_at false false None u n P here later h g = cc
tells_at false false (Some m) None n P here later h g = cc
tells_at false false (Some m) (Some k) n P here later h g =
    let e = same_Some (suc m) n h in let f = same_Some (suc k) n g in
    let same : k ≡ m = omega (arith, e, f) in
    later m refl (ap Some same)

pub number_tells : (q r : Path) (ps : List Part) (n : ℕ) → number_of ps q ≡ Some n → number_of ps r ≡ Some n → q ≡ r
number_tells q r [] n h g = cc
number_tells q r (p ∷ ps) n h g =
    tells_at (same_path q p.path) (same_path r p.path) (number_of ps q) (number_of ps r) n (q ≡ r)
    (λ a b. same_path_tells q p.path a ∙ sym (same_path_tells r p.path b)) (number_tells q r ps) (sym (position_cons (is_of q) p ps) ∙ h) (sym (position_cons (is_of r) p ps) ∙ g)

---------------------------------------------------------------- one more part

abbrev same_way : ℕ → List Step → ℕ → List Step → Bool
same_way i rs j ss = nat_eq i j && same_steps rs ss

-- the key of a part: the key of a root, or of a step below the part to which a path leads
abbrev pub IsKeyOf : (Key → Option ℕ) → Key → ℕ → List Step → Type 0
IsKeyOf at k j [] = k ≡ RootKey j
IsKeyOf at k j (s ∷ ss) = (c : ℕ) × (way at j ss ≡ Some c) × (k ≡ UnderKey c s.name s.index)

pub record Adds (at new : Key → Option ℕ) (n : ℕ) (k : Key) (test : Key → Bool) : Type 0 where
  pub none : at k ≡ None
  pub own : test k ≡ true
  pub tells : (x : Key) → test x ≡ true → x ≡ k
  pub new_at : (x : Key) → new x ≡ option_or (at x) (cond (test x) (Some n) None)
  pub fresh : (w : List ℕ) (i : Option ℕ) → at (UnderKey n w i) ≡ None
  pub apart : (w : List ℕ) (i : Option ℕ) → k ≡ UnderKey n w i → ⊥
  pub ways : (i : ℕ) (rs : List Step) (j : ℕ) (ss : List Step) (c : ℕ) → way at i rs ≡ Some c → way at j ss ≡ Some c → (i ≡ j) × (rs ≡ ss)

number_in : Key → ℕ
number_in (RootKey i) = i
number_in (UnderKey n w i) = n

name_in : Key → List ℕ
name_in (RootKey i) = []
name_in (UnderKey n w i) = w

index_in : Key → Option ℕ
index_in (RootKey i) = None
index_in (UnderKey n w i) = i

under_same : (n m : ℕ) (w v : List ℕ) (i j : Option ℕ) → UnderKey n w i ≡ UnderKey m v j → (n ≡ m) × (w ≡ v) × (i ≡ j)
unfolding number_in name_in index_in
under_same n m w v i j e = (ap number_in e, ap name_in e, ap index_in e)

root_same : (i j : ℕ) → RootKey i ≡ RootKey j → i ≡ j
unfolding number_in
root_same i j e = ap number_in e

no_root : (j n : ℕ) (w : List ℕ) (i : Option ℕ) → RootKey j ≡ UnderKey n w i → ⊥
no_root j n w i e = cc

new_own : (at new : Key → Option ℕ) (n : ℕ) (k : Key) (test : Key → Bool) → Adds at new n k test → new k ≡ Some n
new_own at new n k test a = a.new_at k ∙ ap (λ o. option_or o (cond (test k) (Some n) None)) a.none ∙ ap (λ b. cond b (Some n) None) a.own

pub or_none : (o : Option ℕ) → option_or o None ≡ o
or_none None = refl
or_none (Some x) = refl

unless_own : (at new : Key → Option ℕ) (n : ℕ) (k : Key) (test : Key → Bool) (x : Key) (b : Bool) → test x ≡ b → Adds at new n k test → (x ≡ k → ⊥) → new x ≡ at x
unless_own at new n k test x true is a other = absurd (other (a.tells x is))
unless_own at new n k test x false is a other = a.new_at x ∙ ap (λ b. option_or (at x) (cond b (Some n) None)) is ∙ or_none (at x)

pub new_other : (at new : Key → Option ℕ) (n : ℕ) (k : Key) (test : Key → Bool) (x : Key) → Adds at new n k test → (x ≡ k → ⊥) → new x ≡ at x
new_other at new n k test x a other = unless_own at new n k test x _ refl a other

pub way_of_key : (at : Key → Option ℕ) (k : Key) (j : ℕ) (ss : List Step) → IsKeyOf at k j ss → way at j ss ≡ at k
way_of_key at k j [] is = ap at (sym is)
way_of_key at k j (s ∷ ss) (c, leads, is) = ap (option_and_then (λ n. at (UnderKey n s.name s.index))) leads ∙ ap at (sym is)

not_longer : (s : Step) (rs ss : List Step) → s ∷ rs ≡ ss → rs ≡ ss → ⊥
not_longer s rs ss e f = let g = ap length (e ∙ sym f) in omega (arith, g)

abbrev SameWay : ℕ → List Step → ℕ → List Step → Type 0
SameWay i rs j ss = (i ≡ j) × (rs ≡ ss)

root_apart : (at : Key → Option ℕ) (k : Key) (i j : ℕ) (ss : List Step) → IsKeyOf at k j ss → (SameWay i [] j ss → ⊥) → RootKey i ≡ k → ⊥
root_apart at k i j [] is other e = other (root_same i j (e ∙ is), refl)
root_apart at k i j (s ∷ ss) (c, leads, is) other e = no_root i c s.name s.index (e ∙ is)

under_apart : (at new : Key → Option ℕ) (n : ℕ) (k : Key) (test : Key → Bool) (i j c : ℕ) (s : Step) (rs ss : List Step) → Adds at new n k test → IsKeyOf at k j ss → (SameWay i (s ∷ rs) j ss → ⊥)
    → way at i rs ≡ Some c → UnderKey c s.name s.index ≡ k → ⊥
under_apart at new n k test i j c s rs [] a is other leads e = no_root j c s.name s.index (sym is ∙ sym e)
under_apart at new n k test i j c s rs (t ∷ ss) a (d, other_leads, is) other leads e =
    let (parts, names, indices) = under_same c d s.name t.name s.index t.index (e ∙ is) in
    let (roots, steps) = a.ways i rs j ss c leads (other_leads ∙ ap Some (sym parts)) in
    other (roots, ap (λ x. x ∷ rs) (same_step_of s t names indices) ∙ ap (λ xs. t ∷ xs) steps)

further : (at new : Key → Option ℕ) (n : ℕ) (k : Key) (test : Key → Bool) (i j : ℕ) (s : Step) (rs ss : List Step) (o : Option ℕ) → way at i rs ≡ o → Adds at new n k test → IsKeyOf at k j ss
    → (SameWay i (s ∷ rs) j ss → ⊥) → option_and_then (λ m. new (UnderKey m s.name s.index)) o ≡ option_and_then (λ m. at (UnderKey m s.name s.index)) o
further at new n k test i j s rs ss None leads a is other = refl
further at new n k test i j s rs ss (Some c) leads a is other = new_other at new n k test (UnderKey c s.name s.index) a (under_apart at new n k test i j c s rs ss a is other leads)

abbrev Goes : (Key → Option ℕ) → (Key → Option ℕ) → ℕ → ℕ → List Step → ℕ → List Step → Type 0
Goes at new n i rs j ss = (SameWay i rs j ss → way new i rs ≡ Some n) × ((SameWay i rs j ss → ⊥) → way new i rs ≡ way at i rs)

beyond : (at new : Key → Option ℕ) (n : ℕ) (k : Key) (test : Key → Bool) (i j : ℕ) (s : Step) (rs ss : List Step) (b : Bool) → same_way i rs j ss ≡ b → Adds at new n k test → IsKeyOf at k j ss
    → Goes at new n i rs j ss → (SameWay i (s ∷ rs) j ss → ⊥) → way new i (s ∷ rs) ≡ way at i (s ∷ rs)
beyond at new n k test i j s rs ss true same a is goes other =
    let (first, second) = and_parts (nat_eq i j) (same_steps rs ss) same in
    let roots = (Decides-eqb i j).0 first in
    let steps = same_steps_tells rs ss second in
    ap (option_and_then (λ m. new (UnderKey m s.name s.index))) (goes.0 (roots, steps))
    ∙ new_other at new n k test (UnderKey n s.name s.index) a (λ e. a.apart s.name s.index (sym e))
    ∙ a.fresh s.name s.index
    ∙ sym (ap (option_and_then (λ m. at (UnderKey m s.name s.index))) (ap (λ x. way at x rs) roots ∙ ap (way at j) steps ∙ way_of_key at k j ss is ∙ a.none))
beyond at new n k test i j s rs ss false same a is goes other =
    ap (option_and_then (λ m. new (UnderKey m s.name s.index))) (goes.1 (λ (roots, steps). true≢false (sym (both_true (nat_eq i j) _ ((Decides-eqb i j).1 roots) (let e = same_steps_self ss in rw (steps, e) refl)) ∙ same)))
    ∙ further at new n k test i j s rs ss (way at i rs) refl a is other

-- the path of a new part leads to it, and other paths lead to the same parts as before
pub goes : (at new : Key → Option ℕ) (n : ℕ) (k : Key) (test : Key → Bool) (i j : ℕ) (rs ss : List Step) → Adds at new n k test → IsKeyOf at k j ss → Goes at new n i rs j ss
goes at new n k test i j [] ss a is = (
  (λ (roots, steps). let own : k ≡ RootKey j = subst (IsKeyOf at k j) (sym steps) is in ap new (ap RootKey roots ∙ sym own) ∙ new_own at new n k test a),
  (λ other. new_other at new n k test (RootKey i) a (root_apart at k i j ss is other)),
)
goes at new n k test i j (s ∷ rs) ss a is =
    let before = goes at new n k test i j rs ss a is in (
      (λ (roots, steps).
          let (c, leads, own) = subst (IsKeyOf at k j) (sym steps) is in
          ap (option_and_then (λ m. new (UnderKey m s.name s.index))) (before.1 (λ (_, same). not_longer s rs ss steps same) ∙ ap (λ x. way at x rs) roots ∙ leads)
          ∙ ap new (sym own) ∙ new_own at new n k test a),
      (λ other. beyond at new n k test i j s rs ss _ refl a is before other),
    )
