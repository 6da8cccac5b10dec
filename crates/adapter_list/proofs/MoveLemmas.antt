-- The lists of the nodes after one target is removed, and the position of its adapter in its list.
use Rattle.std.proofs.Common.{◌≡◌, ◌+◌, ℕ, suc, Bool, true, false, cond, not, ◌&&◌, ◌||◌, nat_eq, List, [], ◌∷◌, map, filter, remove, Option, Some, None, option_map, position, if◌then◌else◌, refl, sym, ap, ◌∙◌, arith, eqb-true}
use Rattle.std.specs.List.{AllByRecursion, cons_option, find, list_any, prefix_len}
use Rattle.std.proofs.lemmas.Bool.{false≢true}
use Rattle.std.proofs.lemmas.Map.Keys.{IsDistinct-head, IsDistinct-tail}
use Rattle.mm_types.proofs.SameLemmas.{same_node-true}
use Rattle.mm_types.proofs.PositionLemmas.{position-first, position-rest}
use Rattle.mm_types.specs.Same.{same_node}
use Rattle.mm_types.specs.declared.numbers.AdapterNo.{AdapterNo}
use Rattle.mm_types.specs.declared.numbers.Node.{Node}
use Rattle.notice_chain.specs.Listed.{HasDistinctNumbers, Listed, has_no, has_target, is_at, is_target, same_no, with_changed}
use Rattle.notice_chain.specs.Released.{adapter_after_loss, adapters_with_target, index_at}
use Rattle.notice_chain.specs.declared.notice.Notice.{Notice}
use Rattle.notice_chain.specs.declared.target.Target.{Target}
use Rattle.adapter_list.specs.Targets.{entries, entry_of}
use Rattle.adapter_list.specs.declared.target_lists.Entry.{Entry}

----------------------------------------------------------------- one adapter

-- an adapter that has a node as a target has an entry there
pub has-some : (x : Node) (ts : List Target) → (list_any (is_at x) ts ≡ true → (t : Target) × (find (is_at x) ts ≡ Some t)) × (list_any (is_at x) ts ≡ false → find (is_at x) ts ≡ None)
has-some x [] = (λ h. absurd (false≢true h), λ h. refl)
has-some x (t ∷ ts) =
    let later = has-some x ts in
    elim (is_at x t) as (λ b. ((b || list_any (is_at x) ts) ≡ true → (q : Target) × (cond b (Some t) (find (is_at x) ts) ≡ Some q)) × ((b || list_any (is_at x) ts) ≡ false → cond b (Some t) (find (is_at x) ts) ≡ None)) [
      | true ↦ (λ h. (t, refl), λ h. absurd (false≢true (sym h)))
      | false ↦ later
    ]

-- after a target is removed, the adapter has no entry there, and its other entries are as they were
find-gone : (x : Node) (ts : List Target) → find (is_at x) (filter (λ t. not (is_at x t)) ts) ≡ None
find-gone x [] = refl
find-gone x (t ∷ ts) =
    elim (is_at x t) as (λ b. is_at x t ≡ b → find (is_at x) (cond (not b) (t ∷ filter (λ q. not (is_at x q)) ts) (filter (λ q. not (is_at x q)) ts)) ≡ None) [
      | true ↦ λ _. find-gone x ts
      | false ↦ λ apart. ap (λ b. cond b (Some t) (find (is_at x) (filter (λ q. not (is_at x q)) ts))) apart ∙ find-gone x ts
    ] refl

find-others : (x y : Node) (ts : List Target) → same_node x y ≡ false → find (is_at y) (filter (λ t. not (is_at x t)) ts) ≡ find (is_at y) ts
find-others x y [] other = refl
find-others x y (t ∷ ts) other =
    elim (is_at x t) as (λ b. is_at x t ≡ b → find (is_at y) (cond (not b) (t ∷ filter (λ q. not (is_at x q)) ts) (filter (λ q. not (is_at x q)) ts)) ≡ find (is_at y) (t ∷ ts)) [
      | true ↦ λ same. find-others x y ts other ∙ ap (λ b. cond b (Some t) (find (is_at y) ts)) (sym (ap (λ (z : Node). same_node z y) (same_node-true t.node x same) ∙ other))
      | false ↦ λ _. ap (λ o. cond (is_at y t) (Some t) o) (find-others x y ts other)
    ] refl

----------------------------------------------------------------- all of them

pub only : (a b : Bool) → b ≡ false → (a || b) ≡ true → a ≡ true
only true b h k = refl
only false b h k = sym h ∙ k

pub none-later : (number : AdapterNo) (x : Node) (r : Listed) (rs : List Listed) → has_no number r ≡ true → AllByRecursion (λ k. same_no r.no k ≡ false) (map (λ q. q.no) rs) → list_any (λ q. has_no number q && has_target x q) rs ≡ false
none-later number x r [] same apart = refl
none-later number x r (q ∷ rs) same apart =
    let other : has_no number q ≡ false = ap (λ k. nat_eq k q.no.0) (eqb-true number.0 r.no.0 same) ∙ apart.0 in
    ap (λ b. (b && has_target x q) || list_any (λ p. has_no number p && has_target x p) rs) other ∙ none-later number x r rs same apart.1

abbrev entry : Listed → Target → Entry
entry r t = record { no = r.no; deep = t.deep }

pub with-entry : (x : Node) (r : Listed) (t : Target) (es : List Entry) → find (is_at x) r.targets ≡ Some t → cons_option (entry_of x r) es ≡ record { no = r.no; deep = t.deep } ∷ es
with-entry x r t es is = ap (λ (o : Option Target). cons_option (option_map (λ q. let e : Entry = record { no = r.no; deep = q.deep } in e) o) es) is

pub no-entry : (x : Node) (r : Listed) (es : List Entry) → find (is_at x) r.targets ≡ None → cons_option (entry_of x r) es ≡ es
no-entry x r es is = ap (λ (o : Option Target). cons_option (option_map (λ q. let e : Entry = record { no = r.no; deep = q.deep } in e) o) es) is

pub index-here : (x : Node) (number : AdapterNo) (r : Listed) (rs : List Listed) → has_no number r ≡ true → has_target x r ≡ true → index_at (number, x) (r ∷ rs) ≡ 0
index-here x number r rs same target =
    ap (λ b. prefix_len (λ q. not (has_no number q)) (cond b (r ∷ adapters_with_target x rs) (adapters_with_target x rs))) target ∙ ap (λ b. cond (not b) (1 + prefix_len (λ q. not (has_no number q)) (adapters_with_target x rs)) 0) same

pub index-behind : (x : Node) (number : AdapterNo) (r : Listed) (rs : List Listed) → has_no number r ≡ false → has_target x r ≡ true → index_at (number, x) (r ∷ rs) ≡ suc (index_at (number, x) rs)
index-behind x number r rs apart target =
    let next : 1 + index_at (number, x) rs ≡ suc (index_at (number, x) rs) = omega arith in
    ap (λ b. prefix_len (λ q. not (has_no number q)) (cond b (r ∷ adapters_with_target x rs) (adapters_with_target x rs))) target ∙ ap (λ b. cond (not b) (1 + prefix_len (λ q. not (has_no number q)) (adapters_with_target x rs)) 0) apart ∙ next

pub index-other : (x : Node) (number : AdapterNo) (r : Listed) (rs : List Listed) → has_target x r ≡ false → index_at (number, x) (r ∷ rs) ≡ index_at (number, x) rs
index-other x number r rs target = ap (λ b. prefix_len (λ q. not (has_no number q)) (cond b (r ∷ adapters_with_target x rs) (adapters_with_target x rs))) target

here : (x : Node) (number : AdapterNo) (n : Notice) (r : Listed) (rs : List Listed) → has_no number r ≡ true → has_target x r ≡ true → entries x (adapter_after_loss x n r ∷ rs) ≡ remove (entries x (r ∷ rs)) (index_at (number, x) (r ∷ rs))
here x number n r rs same target =
    let some = (has-some x r.targets).0 target in
    no-entry x (adapter_after_loss x n r) (entries x rs) (find-gone x r.targets)
    ∙ sym (ap (λ (es : List Entry). remove es (index_at (number, x) (r ∷ rs))) (with-entry x r some.0 (entries x rs) some.1) ∙ ap (λ (i : ℕ). remove (entry r some.0 ∷ entries x rs) i) (index-here x number r rs same target))

behind : (x : Node) (number : AdapterNo) (n : Notice) (r : Listed) (rs : List Listed) → has_no number r ≡ false → entries x (with_changed number (adapter_after_loss x n) rs) ≡ remove (entries x rs) (index_at (number, x) rs) → (b : Bool) → has_target x r ≡ b → entries x (r ∷ with_changed number (adapter_after_loss x n) rs) ≡ remove (entries x (r ∷ rs)) (index_at (number, x) (r ∷ rs))
behind x number n r rs apart rest true target =
    let some = (has-some x r.targets).0 target in
    with-entry x r some.0 (entries x (with_changed number (adapter_after_loss x n) rs)) some.1 ∙ ap (λ (es : List Entry). entry r some.0 ∷ es) rest
    ∙ sym (ap (λ (es : List Entry). remove es (index_at (number, x) (r ∷ rs))) (with-entry x r some.0 (entries x rs) some.1) ∙ ap (λ (i : ℕ). remove (entry r some.0 ∷ entries x rs) i) (index-behind x number r rs apart target))
behind x number n r rs apart rest false target =
    let none = (has-some x r.targets).1 target in
    no-entry x r (entries x (with_changed number (adapter_after_loss x n) rs)) none ∙ rest
    ∙ sym (ap (λ (es : List Entry). remove es (index_at (number, x) (r ∷ rs))) (no-entry x r (entries x rs) none) ∙ ap (λ (i : ℕ). remove (entries x rs) i) (index-other x number r rs target))

-- the position of an adapter in the list of a node is its index among the adapters that have the node as a target
pub entries-gone : (x : Node) (number : AdapterNo) (n : Notice) (rs : List Listed) → list_any (λ r. has_no number r && has_target x r) rs ≡ true → HasDistinctNumbers rs → entries x (with_changed number (adapter_after_loss x n) rs) ≡ remove (entries x rs) (index_at (number, x) rs)
entries-gone x number n [] there distinct = absurd (false≢true there)
entries-gone x number n (r ∷ rs) there distinct =
    elim (has_no number r) as (λ b. has_no number r ≡ b → ((b && has_target x r) || list_any (λ q. has_no number q && has_target x q) rs) ≡ true → entries x (if b then (adapter_after_loss x n r ∷ rs) else r ∷ with_changed number (adapter_after_loss x n) rs) ≡ remove (entries x (r ∷ rs)) (index_at (number, x) (r ∷ rs))) [
      | true ↦ λ same at. here x number n r rs same (only (has_target x r) (list_any (λ q. has_no number q && has_target x q) rs) (none-later number x r rs same (IsDistinct-head same_no r.no (map (λ q. q.no) rs) distinct)) at)
      | false ↦ λ apart at. behind x number n r rs apart (entries-gone x number n rs at (IsDistinct-tail same_no r.no (map (λ q. q.no) rs) distinct)) (has_target x r) refl
    ] refl there

pub entries-others : (x y : Node) (number : AdapterNo) (n : Notice) (rs : List Listed) → same_node x y ≡ false → entries y (with_changed number (adapter_after_loss x n) rs) ≡ entries y rs
entries-others x y number n [] other = refl
entries-others x y number n (r ∷ rs) other =
    elim (has_no number r) as (λ b. entries y (if b then (adapter_after_loss x n r ∷ rs) else r ∷ with_changed number (adapter_after_loss x n) rs) ≡ entries y (r ∷ rs)) [
      | true ↦ ap (λ (o : Option Target). cons_option (option_map (λ t. let e : Entry = record { no = r.no; deep = t.deep } in e) o) (entries y rs)) (find-others x y r.targets other)
      | false ↦ ap (cons_option (entry_of y r)) (entries-others x y number n rs other)
    ]

----------------------------------------------------------------- where an adapter is

abbrev pub at-number : AdapterNo → Entry → Bool
at-number number e = same_no number e.no

abbrev pub spot-at : Bool → ℕ → Option ℕ
spot-at b i = if b then Some i else None

spot-next : (b : Bool) (i j : ℕ) → j ≡ suc i → option_map suc (spot-at b i) ≡ spot-at b j
spot-next true i j e = ap Some (sym e)
spot-next false i j e = refl

at-first : (x : Node) (number : AdapterNo) (r : Listed) (rs : List Listed) (b : Bool) → has_target x r ≡ b → (d : Bool) → has_no number r ≡ d → position (at-number number) (entries x rs) ≡ spot-at (is_target number x rs) (index_at (number, x) rs)
    → position (at-number number) (entries x (r ∷ rs)) ≡ spot-at (is_target number x (r ∷ rs)) (index_at (number, x) (r ∷ rs))
at-first x number r rs true target true same rest =
    let some = (has-some x r.targets).0 target in
    ap (position (at-number number)) (with-entry x r some.0 (entries x rs) some.1) ∙ position-first (at-number number) (entry r some.0) (entries x rs) same
    ∙ ap Some (sym (index-here x number r rs same target)) ∙ ap (λ b. spot-at b (index_at (number, x) (r ∷ rs))) (sym (ap (λ b. (b && has_target x r) || is_target number x rs) same ∙ ap (λ b. b || is_target number x rs) target))
at-first x number r rs true target false apart rest =
    let some = (has-some x r.targets).0 target in
    ap (position (at-number number)) (with-entry x r some.0 (entries x rs) some.1) ∙ position-rest (at-number number) (entry r some.0) (entries x rs) apart
    ∙ ap (option_map suc) rest ∙ spot-next (is_target number x rs) (index_at (number, x) rs) (index_at (number, x) (r ∷ rs)) (index-behind x number r rs apart target)
    ∙ ap (λ b. spot-at b (index_at (number, x) (r ∷ rs))) (sym (ap (λ b. (b && has_target x r) || is_target number x rs) apart))
at-first x number r rs false target d is rest =
    let none = (has-some x r.targets).1 target in
    ap (position (at-number number)) (no-entry x r (entries x rs) none) ∙ rest
    ∙ ap (spot-at (is_target number x rs)) (sym (index-other x number r rs target))
    ∙ ap (λ b. spot-at b (index_at (number, x) (r ∷ rs))) (sym (ap (λ b. (has_no number r && b) || is_target number x rs) target ∙ ap (λ b. b || is_target number x rs) (none-and (has_no number r))))
  where
    none-and : (c : Bool) → (c && false) ≡ false
    none-and true = refl
    none-and false = refl

-- the position of a number in the list of a node is the index of its adapter among the adapters that have the node as a target, if it has
pub position-entries : (x : Node) (number : AdapterNo) (rs : List Listed) → position (at-number number) (entries x rs) ≡ spot-at (is_target number x rs) (index_at (number, x) rs)
position-entries x number [] = refl
position-entries x number (r ∷ rs) = at-first x number r rs (has_target x r) refl (has_no number r) refl (position-entries x number rs)
