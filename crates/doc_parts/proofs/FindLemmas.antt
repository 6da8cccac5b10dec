-- One more part is found.
use Rattle.std.proofs.Common.{◌≡◌, ◌∙◌, ◌<◌, ◌++◌, Bool, true, false, List, [], ◌∷◌, Option, Some, None, ℕ, ap, arith, cond, refl, sym, subst, length, length-append}
use Rattle.std.specs.Prelude.{option_and_then, reverse}
use Rattle.std.specs.Option.{option_or}
use Rattle.std.proofs.lemmas.List.{reverse-append, reverse-reverse}
use Rattle.std.proofs.lemmas.Bool.{true≢false}
use Rattle.std.proofs.lemmas.Bool.Decides.{Decides-eqb}
use Rattle.std.proofs.lemmas.Slice.Eq.{bytes_eq-Decides}
use Rattle.web_uris.specs.Paths.{new_path, new_step, same_path, with_step}
use Rattle.web_uris.specs.declared.path.Path.{Path}
use Rattle.web_uris.specs.declared.path.Step.{Step}
use Rattle.doc_parts.specs.FoundParts.{Finds, IsPlaced}
use Rattle.doc_parts.specs.Parts.{Part, number_of}
use Rattle.doc_parts.specs.Keys.{Key, RootKey, UnderKey, is_at, key_of, number_at, way, way_of}
use Rattle.doc_parts.specs.declared.found.Numbers.{Numbers}
use Rattle.doc_parts.specs.declared.found.PartKey.{PartKey}
use Rattle.doc_parts.specs.declared.found.PartKey.TheVariants.{Root, Under}
use Rattle.doc_parts.proofs.PlaceLemmas.{is_at_tells}
use Rattle.doc_parts.proofs.WayLemmas.{both_true, same_index_self, Adds, IsKeyOf, goes, new_other, or_none, number_below, number_pushed, number_tells, same_path_self, same_path_tells, way_of_key}

reverse_push : (ss : List Step) (s : Step) → reverse (ss ++ s ∷ []) ≡ s ∷ reverse ss
reverse_push ss s = reverse-append ss (s ∷ [])

placed_key : (t : Numbers) (ps : List Part) (k : Key) (path : Path) → Finds t ps → IsPlaced ps k path → IsKeyOf (number_at t) k path.root (reverse path.steps)
placed_key t ps (RootKey i) path f is = rw is refl
placed_key t ps (UnderKey n w i) path f (above, first, is) =
    rw is (subst (IsKeyOf (number_at t) (UnderKey n w i) above.root) (sym (reverse_push above.steps (new_step w i))) (n, f.ways above ∙ first, refl))

number_placed : (t : Numbers) (ps : List Part) (k : Key) (path : Path) → Finds t ps → IsPlaced ps k path → number_of ps path ≡ number_at t k
number_placed t ps k path f is = sym (f.ways path) ∙ way_of_key (number_at t) k path.root (reverse path.steps) (placed_key t ps k path f is)

under_below : (ps : List Part) (k : Key) (path : Path) (n : ℕ) (w : List ℕ) (i : Option ℕ) → IsPlaced ps k path → k ≡ UnderKey n w i → n < length ps
under_below ps k path n w i is e =
    let (above, first, _) = subst (λ x. IsPlaced ps x path) e is in
    number_below above ps n first

-- the number of a part that is a step below a part with a number
pub number_under : (t : Numbers) (ps : List Part) (path : Path) (n : ℕ) (s : Step) → Finds t ps → number_of ps path ≡ Some n → number_of ps (with_step path s) ≡ number_at t (UnderKey n s.name s.index)
number_under t ps path n s f first =
    sym (f.ways (with_step path s))
    ∙ ap (way (number_at t) path.root) (reverse_push path.steps s)
    ∙ ap (option_and_then (λ k. number_at t (UnderKey k s.name s.index))) (f.ways path ∙ first)

---------------------------------------------------------------- a path that was found before

kept_at : (b : Bool) (o : Option ℕ) (n l : ℕ) → (b ≡ true → o ≡ Some n) → option_or o (cond b (Some l) None) ≡ o
kept_at true o n l found = let e = found refl in rw e refl
kept_at false None n l found = refl
kept_at false (Some m) n l found = refl

pub number_kept : (ps : List Part) (p : Part) (n : ℕ) (q : Path) → number_of ps p.path ≡ Some n → number_of (ps ++ p ∷ []) q ≡ number_of ps q
number_kept ps p n q first = number_pushed q ps p ∙ kept_at (same_path q p.path) (number_of ps q) n (length ps) (λ same. ap (number_of ps) (same_path_tells q p.path same) ∙ first)

pub found_again : (t : Numbers) (ps : List Part) (p : Part) (k : Key) (n : ℕ) → Finds t ps → IsPlaced ps k p.path → number_at t k ≡ Some n → Finds t (ps ++ p ∷ []) × (number_of (ps ++ p ∷ []) p.path ≡ Some n)
found_again t ps p k n f is at =
    let first = number_placed t ps k p.path f is ∙ at in (
      record {
        ways = λ q. f.ways q ∙ sym (number_kept ps p n q first);
        below = λ m w i over. let e = length-append ps (p ∷ []) in f.below m w i (omega (arith, e, over));
      },
      number_kept ps p n p.path first ∙ first,
    )

pub finds_same : (t new : Numbers) (ps : List Part) → ((k : Key) → number_at new k ≡ number_at t k) → Finds t ps → Finds new ps
finds_same t new ps same f =
    record {
      ways = λ q. (λ i. way_of (λ k. same k i) q) ∙ f.ways q;
      below = λ n w i low. same (UnderKey n w i) ∙ f.below n w i low;
    }

---------------------------------------------------------------- a new path

way_path : (t : Numbers) (ps : List Part) (i : ℕ) (rs : List Step) → Finds t ps → number_of ps (new_path i (reverse rs)) ≡ way (number_at t) i rs
way_path t ps i rs f = sym (f.ways (new_path i (reverse rs))) ∙ ap (way (number_at t) i) (reverse-reverse rs)

one_way : (t : Numbers) (ps : List Part) (i : ℕ) (rs : List Step) (j : ℕ) (ss : List Step) (c : ℕ) → Finds t ps → way (number_at t) i rs ≡ Some c → way (number_at t) j ss ≡ Some c → (i ≡ j) × (rs ≡ ss)
one_way t ps i rs j ss c f first second =
    let e = number_tells (new_path i (reverse rs)) (new_path j (reverse ss)) ps c (way_path t ps i rs f ∙ first) (way_path t ps j ss f ∙ second) in
    (ap (λ q. q.root) e, sym (reverse-reverse rs) ∙ ap (λ q. reverse q.steps) e ∙ reverse-reverse ss)

adds : (t new : Numbers) (ps : List Part) (p : Part) (key : PartKey) (n : ℕ) → n ≡ length ps → Finds t ps → IsPlaced ps (key_of key) p.path → number_at t (key_of key) ≡ None
    → ((k : Key) → number_at new k ≡ option_or (number_at t k) (cond (is_at k key) (Some n) None)) → is_at (key_of key) key ≡ true → Adds (number_at t) (number_at new) n (key_of key) (λ k. is_at k key)
adds t new ps p key n count f is none more own =
    record {
      none = none;
      own = own;
      tells = λ x at. is_at_tells x key at;
      new_at = more;
      fresh = λ w i. f.below n w i (omega (arith, count));
      apart = λ w i e. let b = under_below ps (key_of key) p.path n w i is e in omega (arith, b, count);
      ways = λ i rs j ss c first second. one_way t ps i rs j ss c f first second;
    }

abbrev Puts : Numbers → Numbers → PartKey → ℕ → Type 0
Puts t new key n = (k : Key) → number_at new k ≡ option_or (number_at t k) (cond (is_at k key) (Some n) None)

way_added : (t new : Numbers) (ps : List Part) (p : Part) (k : Key) (test : Key → Bool) (q : Path) (b : Bool) → same_path q p.path ≡ b → Finds t ps → IsPlaced ps k p.path → Adds (number_at t) (number_at new) (length ps) k test
    → way_of (number_at new) q ≡ option_or (number_of ps q) (cond b (Some (length ps)) None)
way_added t new ps p k test q true same f is a =
    let e = same_path_tells q p.path same in
    (goes (number_at t) (number_at new) (length ps) k test q.root p.path.root (reverse q.steps) (reverse p.path.steps) a (placed_key t ps k p.path f is)).0 (ap (λ x. x.root) e, ap (λ x. reverse x.steps) e)
    ∙ sym (ap (λ o. option_or o (Some (length ps))) (ap (number_of ps) e ∙ number_placed t ps k p.path f is ∙ a.none))
way_added t new ps p k test q false other f is a =
    (goes (number_at t) (number_at new) (length ps) k test q.root p.path.root (reverse q.steps) (reverse p.path.steps) a (placed_key t ps k p.path f is)).1
    (λ (roots, steps). true≢false (sym (ap (λ x. same_path x p.path) (ap (λ n. new_path n q.steps) roots ∙ ap (new_path p.path.root) (sym (reverse-reverse q.steps) ∙ ap reverse steps ∙ reverse-reverse p.path.steps)) ∙ same_path_self p.path) ∙ other))
    ∙ f.ways q ∙ sym (or_none (number_of ps q))

pub found_new : (t new : Numbers) (ps : List Part) (p : Part) (key : PartKey) (n : ℕ) → n ≡ length ps → Finds t ps → IsPlaced ps (key_of key) p.path → number_at t (key_of key) ≡ None → Puts t new key n
    → is_at (key_of key) key ≡ true → Finds new (ps ++ p ∷ []) × (number_of (ps ++ p ∷ []) p.path ≡ Some n)
found_new t new ps p key n count f is none more own =
    let more_there : Puts t new key (length ps) = subst (Puts t new key) count more in
    let a = adds t new ps p key (length ps) refl f is none more_there own in (
      record {
        ways = λ q. way_added t new ps p (key_of key) (λ k. is_at k key) q _ refl f is a ∙ sym (number_pushed q ps p);
        below = λ m w i over.
            let e = length-append ps (p ∷ []) in
            new_other (number_at t) (number_at new) (length ps) (key_of key) (λ k. is_at k key) (UnderKey m w i) a
            (λ same. let b = under_below ps (key_of key) p.path m w i is (sym same) in omega (arith, b, e, over))
            ∙ f.below m w i (omega (arith, e, over));
      },
      number_pushed p.path ps p ∙ ap (λ o. option_or o (cond (same_path p.path p.path) (Some (length ps)) None)) (number_placed t ps (key_of key) p.path f is ∙ none)
          ∙ ap (λ b. cond b (Some (length ps)) None) (same_path_self p.path) ∙ ap Some (sym count),
    )

pub own_place : (key : PartKey) → is_at (key_of key) key ≡ true
own_place (Root i) = (Decides-eqb i i).1 refl
own_place (Under n w i) = both_true _ _ ((Decides-eqb n n).1 refl) (both_true _ _ ((bytes_eq-Decides w.now w.now).1 refl) (same_index_self i))

none_found : (at : Key → Option ℕ) (i : ℕ) (ss : List Step) → ((k : Key) → at k ≡ None) → way at i ss ≡ None
none_found at i [] none = none (RootKey i)
none_found at i (s ∷ ss) none = ap (option_and_then (λ n. at (UnderKey n s.name s.index))) (none_found at i ss none)

pub finds_none : (t : Numbers) → ((k : Key) → number_at t k ≡ None) → Finds t []
finds_none t none = record { ways = λ q. none_found (number_at t) q.root (reverse q.steps) none; below = λ n w i over. none (UnderKey n w i) }
