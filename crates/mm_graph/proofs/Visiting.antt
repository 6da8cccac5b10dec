-- One visit and the next.
use Rattle.std.proofs.Common.{◌≡◌, ◌∙◌, ◌≢◌, ◌+◌, ◌<◌, ◌++◌, Bool, List, [], ◌∷◌, ℕ, ⊎_elim, suc, zero, ap, arith, cond, get_or, get_or-set_same, get_or-set_other, length, length-set, refl, set, sym, subst}
use Rattle.std.specs.List.{All, Contains, count_by}
use Rattle.std.proofs.lemmas.Bool.{cases_eq}
use Rattle.std.proofs.lemmas.List.{get_or_append_left, get_or_default, get_or_push, length_push}
use Rattle.std.proofs.lemmas.List.Elements.{All-push, Contains-append_left, Contains-push}
use Rattle.std.proofs.lemmas.List.Sums.{sum_by-set}
use Rattle.mm_types.specs.Graph.{Reaches, Walk, by_class}
use Rattle.mm_graph.specs.Order.{IsBefore}
use Rattle.mm_graph.specs.Visits.{Goes, IsBegun, IsVisited, OpenReach, is_done, is_unseen, mark}
use Rattle.mm_graph.specs.declared.order.Mark.{Mark}
use Rattle.mm_graph.specs.declared.order.Mark.TheVariants.{Unseen, Open, Done}

-- one step more
pub walk_more : (g : List (List ℕ)) (n a c e : ℕ) → Walk g n a c → Contains (by_class g c) e → Walk g (suc n) a e
walk_more g zero a c e w step = (e, subst (λ (x : ℕ). Contains (by_class g x) e) (sym w) step, refl)
walk_more g (suc n) a c e w step = (w.0, w.1, walk_more g n w.0 c e w.2 step)

same_mark : (ms : List Mark) (c k : ℕ) (m : Mark) → c < length ms → k ≡ c → mark (set ms c m) k ≡ m
same_mark ms c k m within e = rw e (get_or-set_same ms c m Unseen within)

other_mark : (ms : List Mark) (c k : ℕ) (m : Mark) → k ≢ c → mark (set ms c m) k ≡ mark ms k
other_mark ms c k m n = get_or-set_other ms c k m Unseen n

counted_set : (p : Mark → Bool) (ms : List Mark) (c : ℕ) (m old : Mark) → c < length ms → mark ms c ≡ old
    → count_by p (set ms c m) + cond (p old) 1 0 ≡ count_by p ms + cond (p m) 1 0
counted_set p ms c m old within is = rw (← is) (sum_by-set (λ x. cond (p x) 1 0) ms c m Unseen within)

-- a class that was unseen is opened
pub fewer_unseen : (ms : List Mark) (c : ℕ) → c < length ms → mark ms c ≡ Unseen → count_by is_unseen (set ms c Open) + 1 ≡ count_by is_unseen ms
fewer_unseen ms c within is = let e = counted_set is_unseen ms c Open Unseen within is in omega arith

behind_push : (g : List (List ℕ)) (order : List ℕ) (c : ℕ)
    → ((j : ℕ) → j < length order → All (IsBefore order j) (by_class g (get_or order j 0)))
    → All (λ (e : ℕ). Contains order e) (by_class g c)
    → (j : ℕ) → j < length (order ++ c ∷ []) → All (IsBefore (order ++ c ∷ []) j) (by_class g (get_or (order ++ c ∷ []) j 0))
behind_push g order c behind supers j less = ⊎_elim
    (λ (s : j ≡ length order).
    let at : get_or (order ++ c ∷ []) j 0 ≡ c = get_or_push order c 0 j (sym s) in
    subst (λ (x : ℕ). All (IsBefore (order ++ c ∷ []) j) (by_class g x)) (sym at)
    (λ k d low. (let p = supers k d low in (p.0, omega (arith, p.1), get_or_append_left order (c ∷ []) 0 p.0 p.1 ∙ (get_or_default order p.0 0 (get_or (by_class g c) k d) p.1 ∙ p.2)))))
    (λ (n : j ≢ length order).
    let low : j < length order = let e = length_push order c in omega arith in
    let at : get_or (order ++ c ∷ []) j 0 ≡ get_or order j 0 = get_or_append_left order (c ∷ []) 0 j low in
    subst (λ (x : ℕ). All (IsBefore (order ++ c ∷ []) j) (by_class g x)) (sym at)
    (λ k d less. (let p = behind j low k d less in (p.0, p.1, get_or_append_left order (c ∷ []) 0 p.0 (omega (arith, p.1)) ∙ p.2))))
    (cases_eq j (length order))

-- the class is closed after its supertypes are done
pub begun_done : (g : List (List ℕ)) (ms : List Mark) (order : List ℕ) (c : ℕ) → IsBegun g ms order → c < length g → mark ms c ≡ Open
    → ((j : ℕ) → j < length (by_class g c) → mark ms (get_or (by_class g c) j 0) ≡ Done) → IsBegun g (set ms c Done) (order ++ c ∷ [])
begun_done g ms order c b low is supers =
    let within : c < length ms = omega (arith, b.long) in
    record {
      long = length-set ms c Done ∙ b.long;
      within = All-push (λ (x : ℕ). x < length g) order c b.within low;
      done = λ k e. ⊎_elim
          (λ (s : k ≡ c). subst (λ (x : ℕ). Contains (order ++ c ∷ []) x) (sym s) (Contains-push order c))
          (λ (n : k ≢ c). Contains-append_left order (c ∷ []) k (b.done k (sym (other_mark ms c k Done n) ∙ e))) (cases_eq k c);
      behind = behind_push g order c b.behind (λ k d less. b.done _ (ap (mark ms) (get_or_default (by_class g c) k d 0 less) ∙ supers k less));
      counted = let e = counted_set is_done ms c Done Open within is in let f = b.counted in length_push order c ∙ omega arith;
    }

pub goes_closed : (old ms : List Mark) (c : ℕ) → c < length old → mark old c ≡ Unseen → Goes (set old c Open) ms → Goes old (set ms c Done)
goes_closed old ms c within is go =
    let still : c < length ms = let e = go.same_length in let f = length-set old c Open in omega arith in
    let open_yet : mark ms c ≡ Open = go.stays_open c (same_mark old c c Open within refl) in
    record {
      same_length = length-set ms c Done ∙ (go.same_length ∙ length-set old c Open);
      opened = λ k e. ⊎_elim
          (λ (s : k ≡ c). let bad : Done ≡ Open = sym (same_mark ms c k Done still s) ∙ e in cc)
          (λ (n : k ≢ c). sym (other_mark old c k Open n) ∙ go.opened k (sym (other_mark ms c k Done n) ∙ e)) (cases_eq k c);
      stays_open = λ k e. ⊎_elim
          (λ (s : k ≡ c). let bad : Unseen ≡ Open = sym is ∙ (ap (mark old) (sym s) ∙ e) in cc)
          (λ (n : k ≢ c). other_mark ms c k Done n ∙ go.stays_open k (other_mark old c k Open n ∙ e)) (cases_eq k c);
      stays_done = λ k e. ⊎_elim
          (λ (s : k ≡ c). same_mark ms c k Done still s)
          (λ (n : k ≢ c). other_mark ms c k Done n ∙ go.stays_done k (other_mark old c k Open n ∙ e)) (cases_eq k c);
      fewer = let e = counted_set is_unseen ms c Done Open still open_yet in let f = go.fewer in let h = fewer_unseen old c within is in omega arith;
    }

pub visited : (g : List (List ℕ)) (c : ℕ) (old ms : List Mark) (order grown : List ℕ) → c < length g → length old ≡ length g → mark old c ≡ Unseen
    → Goes (set old c Open) ms → IsBegun g ms order → ((j : ℕ) → j < length (by_class g c) → mark ms (get_or (by_class g c) j 0) ≡ Done)
    → grown ≡ order ++ c ∷ [] → IsVisited g c old (set ms c Done) grown
visited g c old ms order grown low long is go b supers grown_is =
    let within : c < length old = omega (arith, long) in
    let still : c < length ms = let e = b.long in omega arith in
    record {
      begun = subst (λ (o : List ℕ). IsBegun g (set ms c Done) o) (sym grown_is)
          (begun_done g ms order c b low (go.stays_open c (same_mark old c c Open within refl)) supers);
      done = same_mark ms c c Done still refl;
      goes = goes_closed old ms c within is go;
    }

-- the open classes reach a supertype of the one that was opened last
pub reach_super : (g : List (List ℕ)) (old ms : List Mark) (c e k : ℕ) → OpenReach g old c → Goes (set old c Open) ms
    → Contains (by_class g c) e → mark ms k ≡ Open → Reaches g k e
reach_super g old ms c e k reach go step is = ⊎_elim
    (λ (s : k ≡ c). (0, (e, subst (λ (x : ℕ). Contains (by_class g x) e) (sym s) step, refl)))
    (λ (n : k ≢ c).
    let r : Reaches g k c = reach k (sym (other_mark old c k Open n) ∙ go.opened k is) in
    (suc r.0, walk_more g (suc r.0) k c e r.1 step))
    (cases_eq k c)
