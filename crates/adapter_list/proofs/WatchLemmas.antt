-- The targets of the adapters after one of them got one more.
use Rattle.std.proofs.Common.{◌^◌, length-append, length-set, eqb-true, nat_le, option_and_then, ◌≡◌, ◌<◌, ◌≤◌, ◌+◌, ℕ, zero, suc, Bool, true, false, cond, ◌&&◌, nat_lt, List, [], ◌∷◌, ◌++◌, map, filter, length, set, insert, take, get_or, slice_get, position, Option, Some, None, option_map, if◌then◌else◌, refl, sym, ap, subst, ◌∙◌, arith, eq-eqb}
use Rattle.std.specs.List.{AllByRecursion, IsDistinct, cons_option, find, fold, list_any}
use Rattle.std.specs.Option.{IfSome, option_map_or}
use Rattle.std.proofs.lemmas.Bool.{le-leb, le-ltb, leb-true, lt-ltb, ltb-false, ltb-true, or_parts}
use Rattle.std.proofs.lemmas.List.Elements.{All-set, recursion_from_All}
use Rattle.std.proofs.lemmas.Option.{slice_get-map, slice_get_read}
use Rattle.std.proofs.lemmas.Map.Keys.{IsDistinct-head, IsDistinct-tail}
use Rattle.mm_types.proofs.SameLemmas.{same_node-true}
use Rattle.mm_types.specs.Same.{same_node}
use Rattle.mm_types.specs.declared.numbers.AdapterNo.{AdapterNo}
use Rattle.mm_types.specs.declared.limits.TheConstants.{TARGETS}
use Rattle.mm_types.specs.declared.numbers.Node.{Node}
use Rattle.mm_types.specs.declared.numbers.Node.TheVariants as node
use Rattle.mm_types.specs.declared.refused.Refused.TheVariants as refused
use Rattle.adapters.specs.declared.adapter.NoRoom.{NoRoom}
use Rattle.adapters.specs.declared.adapter.NoRoom.TheVariants as room
use Rattle.notice_chain.specs.View.{View}
use Rattle.notice_chain.specs.Listed.{HasDistinctNumbers, HasDistinctTargets, HaveTargets, Listed, adapter, adapters_after_watch, has_no, has_target, is_at, is_target, same_no, targets_len, with_target}
use Rattle.notice_chain.specs.declared.target.Target.{Target}
use Rattle.adapter_list.specs.Attached.{IsSound, IsWhole, listed_adapters, listed_one}
use Rattle.adapter_list.specs.Counts.{told_at_ordinal}
use Rattle.adapter_list.specs.Refusals.{but_memory, refusal_of, target_refusal, watch_refusal}
use Rattle.adapter_list.specs.Targets.{AreSameMarks, AreSetAt, HasNoEmpty, IsOnce, entries, entries_in, entry_of, is_any, targets_at}
use Rattle.adapter_list.specs.declared.attached.Attached.{Attached}
use Rattle.adapter_list.specs.declared.target_lists.Entry.{Entry}
use Rattle.adapter_list.specs.declared.target_lists.TargetLists.{TargetLists}
use Rattle.adapter_list.proofs.GoingLemmas.{changed-set, listed_adapters-put, total-from}
use Rattle.adapter_list.proofs.ListedLemmas.{AreReady-at, AreReady-set, listed_adapters-set_same, numbers_of-set}
use Rattle.adapter_list.proofs.MarkLemmas.{mark-put}
use Rattle.adapter_list.proofs.MoveLemmas.{has-some, no-entry, with-entry}
use Rattle.mm_types.proofs.PositionLemmas.{position-first, position-rest}
use Rattle.adapter_list.proofs.NumberLemmas.{below, distinct-numbers, find-position}
use Rattle.adapter_list.proofs.PlaceLemmas.{flipped, no-some, number-at, once-there, passes-at}
use Rattle.adapter_list.proofs.SomeLemmas.{some-set}
use Rattle.adapter_list.proofs.ReserveLemmas.{targets-there, there, told-there}

----------------------------------------------------------------- one adapter

-- a target that is the last is found if no other is at its node
find-last : (z : Node) (q : Target) (ts : List Target) → list_any (is_at z) ts ≡ false → same_node q.node z ≡ true → find (is_at z) (ts ++ q ∷ []) ≡ Some q
find-last z q [] none same = ap (λ b. cond b (Some q) None) same
find-last z q (t ∷ ts) none same =
    let parts = or_parts (is_at z t) (list_any (is_at z) ts) none in
    ap (λ b. cond b (Some t) (find (is_at z) (ts ++ q ∷ []))) parts.0 ∙ find-last z q ts parts.1 same

-- at other nodes a new target changes nothing
find-same : (z : Node) (q : Target) (ts : List Target) → same_node q.node z ≡ false → find (is_at z) (ts ++ q ∷ []) ≡ find (is_at z) ts
find-same z q [] other = ap (λ b. cond b (Some q) None) other
find-same z q (t ∷ ts) other = ap (λ (o : Option Target). cond (is_at z t) (Some t) o) (find-same z q ts other)

apart-last : (k : Node) (q : Target) (ts : List Target) → AllByRecursion (λ y. same_node k y ≡ false) (map (λ t. t.node) ts) → same_node k q.node ≡ false → AllByRecursion (λ y. same_node k y ≡ false) (map (λ t. t.node) (ts ++ q ∷ []))
apart-last k q [] h other = (other, tt)
apart-last k q (t ∷ ts) h other = (h.0, apart-last k q ts h.1 other)

pub once-last : (q : Target) (ts : List Target) → IsDistinct same_node (map (λ t. t.node) ts) → list_any (is_at q.node) ts ≡ false → IsDistinct same_node (map (λ t. t.node) (ts ++ q ∷ []))
unfolding IsDistinct
once-last q [] once none = (tt, tt)
once-last q (t ∷ ts) once none =
    let parts = or_parts (is_at q.node t) (list_any (is_at q.node) ts) none in
    (apart-last t.node q ts once.0 parts.0, once-last q ts once.1 parts.1)

----------------------------------------------------------------- all of them

insert-behind : (o : Option Entry) (es ds : List Entry) (e : Entry) → cons_option o (insert es (length ds) e) ≡ insert (cons_option o es) (length (cons_option o ds)) e
insert-behind None es ds e = refl
insert-behind (Some d) es ds e = refl

module _ (q : Target) (z : Node) where
  abbrev put : List Listed → ℕ → AdapterNo → Bool → List Entry
  put rs i k b = if b then insert (entries z rs) (length (entries z (take i rs))) (record { no = k; deep = q.deep }) else entries z rs

  put-first : (r : Listed) (rs : List Listed) → list_any (is_at q.node) r.targets ≡ false → (b : Bool) → same_node q.node z ≡ b → entries z (with_target q r ∷ rs) ≡ put (r ∷ rs) 0 r.no b
  put-first r rs none true same =
      let is : q.node ≡ z = same_node-true q.node z same in
      let none_here : list_any (is_at z) r.targets ≡ false = ap (λ (y : Node). list_any (is_at y) r.targets) (sym is) ∙ none in
      with-entry z (with_target q r) q (entries z rs) (find-last z q r.targets none_here same)
      ∙ ap (λ (es : List Entry). record { no = r.no; deep = q.deep } ∷ es) (sym (no-entry z r (entries z rs) ((has-some z r.targets).1 none_here)))
  put-first r rs none false other = ap (λ (o : Option Target). cons_option (option_map (λ t. let e : Entry = record { no = r.no; deep = t.deep } in e) o) (entries z rs)) (find-same z q r.targets other)

  put-behind : (p : Listed) (rs : List Listed) (i : ℕ) (k : AdapterNo) (es : List Entry) (b : Bool) → es ≡ put rs i k b → cons_option (entry_of z p) es ≡ put (p ∷ rs) (suc i) k b
  put-behind p rs i k es true is = ap (cons_option (entry_of z p)) is ∙ insert-behind (entry_of z p) (entries z rs) (entries z (take i rs)) (record { no = k; deep = q.deep })
  put-behind p rs i k es false is = ap (cons_option (entry_of z p)) is

  -- the entry of a new target is after the entries of the earlier adapters
  pub entries-watched : (rs : List Listed) (i : ℕ) (r : Listed) → slice_get rs i ≡ Some r → list_any (is_at q.node) r.targets ≡ false → entries z (set rs i (with_target q r)) ≡ put rs i r.no (same_node q.node z)
  entries-watched [] i r at none = absurd (no-some r at)
  entries-watched (p ∷ rs) zero r at none =
      let first : r ≡ p = cc in
      subst (λ (s : Listed). entries z (with_target q r ∷ rs) ≡ put (s ∷ rs) 0 r.no (same_node q.node z)) first (put-first r rs none (same_node q.node z) refl)
  entries-watched (p ∷ rs) (suc i) r at none = put-behind p rs i r.no (entries z (set rs i (with_target q r))) (same_node q.node z) (entries-watched rs i r at none)

total-more : (m : ℕ) (rs : List Listed) (i : ℕ) (q p : Listed) → slice_get rs i ≡ Some q → length p.targets ≡ suc (length q.targets) → fold (λ a (r : Listed). a + length r.targets) m (set rs i p) ≡ fold (λ a (r : Listed). a + length r.targets) m rs + 1
total-more m [] i q p at more = absurd (no-some q at)
total-more m (r ∷ rs) zero q p at more =
    let first : q ≡ r = cc in
    let many : m + length p.targets ≡ m + length r.targets + 1 = omega (arith, more, ap (λ (s : Listed). length s.targets) first) in
    ap (λ (a : ℕ). fold (λ b (s : Listed). b + length s.targets) a rs) many ∙ total-from (m + length r.targets) 1 rs
total-more m (r ∷ rs) (suc i) q p at more = total-more (m + length r.targets) rs i q p at more

pub targets_len-more : (rs : List Listed) (i : ℕ) (q p : Listed) → slice_get rs i ≡ Some q → length p.targets ≡ suc (length q.targets) → targets_len (set rs i p) ≡ targets_len rs + 1
targets_len-more rs i q p at more = total-more 0 rs i q p at more

----------------------------------------------------------------- how many are before

-- the number of an adapter is found at its index
position-here : (rs : List Listed) (j : ℕ) (r : Listed) → HasDistinctNumbers rs → slice_get rs j ≡ Some r → position (has_no r.no) rs ≡ Some j
position-here [] j r distinct at = absurd (no-some r at)
position-here (q ∷ rs) zero r distinct at =
    let first : r ≡ q = cc in
    position-first (has_no r.no) q rs (ap (λ (s : Listed). has_no r.no s) (sym first) ∙ eq-eqb r.no.0 r.no.0 refl)
position-here (q ∷ rs) (suc j) r distinct at =
    let apart : same_no q.no r.no ≡ false = number-at (λ (p : Listed). p.no) (λ n. same_no q.no n ≡ false) rs j r (IsDistinct-head same_no q.no (map (λ p. p.no) rs) distinct) at in
    position-rest (has_no r.no) q rs (flipped q.no r.no apart) ∙ ap (option_map suc) (position-here rs j r (IsDistinct-tail same_no q.no (map (λ p. p.no) rs) distinct) at)

lt-suc : (j n : ℕ) → nat_lt (suc j) (suc n) ≡ nat_lt j n
lt-suc j n = elim (nat_lt j n) as (λ b. nat_lt j n ≡ b → nat_lt (suc j) (suc n) ≡ b) [
  | true ↦ λ q. lt-ltb _ _ (omega (arith, ltb-true j n q))
  | false ↦ λ q. le-ltb _ _ (omega (arith, ltb-false j n q))
] refl

module _ (before : AdapterNo → Bool) (x : Node) where
  abbrev pub stands : Entry → Bool
  stands e = before e.no

  none-step : (r : Listed) (es : List Entry) → before r.no ≡ false → length (filter stands es) ≡ 0 → (o : Option Target) → length (filter stands (cons_option (option_map (λ t. let e : Entry = record { no = r.no; deep = t.deep } in e) o) es)) ≡ 0
  none-step r es other rest None = rest
  none-step r es other rest (Some t) = ap (λ b. length (cond b (record { no = r.no; deep = t.deep } ∷ filter stands es) (filter stands es))) other ∙ rest

  none-before : (rs : List Listed) → ((j : ℕ) (r : Listed) → slice_get rs j ≡ Some r → before r.no ≡ false) → length (filter stands (entries x rs)) ≡ 0
  none-before [] h = refl
  none-before (r ∷ rs) h = none-step r (entries x rs) (h 0 r refl) (none-before rs (λ j q e. h (suc j) q e)) (find (is_at x) r.targets)

  some-step : (r : Listed) (es ds : List Entry) → before r.no ≡ true → length (filter stands es) ≡ length ds → (o : Option Target) → length (filter stands (cons_option (option_map (λ t. let e : Entry = record { no = r.no; deep = t.deep } in e) o) es)) ≡ length (cons_option (option_map (λ t. let e : Entry = record { no = r.no; deep = t.deep } in e) o) ds)
  some-step r es ds same rest None = rest
  some-step r es ds same rest (Some t) = ap (λ b. length (cond b (record { no = r.no; deep = t.deep } ∷ filter stands es) (filter stands es))) same ∙ ap suc rest

  count-before : (rs : List Listed) (n : ℕ) → ((j : ℕ) (r : Listed) → slice_get rs j ≡ Some r → before r.no ≡ nat_lt j n) → length (filter stands (entries x rs)) ≡ length (entries x (take n rs))
  count-before [] zero h = refl
  count-before [] (suc n) h = refl
  count-before (r ∷ rs) zero h = none-before (r ∷ rs) (λ j q e. h j q e ∙ le-ltb j 0 (omega arith))
  count-before (r ∷ rs) (suc n) h =
      let yes : before r.no ≡ true = h 0 r refl ∙ lt-ltb 0 (suc n) (omega arith) in
      some-step r (entries x rs) (entries x (take n rs)) yes (count-before rs n (λ j q e. h (suc j) q e ∙ lt-suc j n)) (find (is_at x) r.targets)

-- the entries of a node whose adapters are before an index
pub entries-before : (x : Node) (rs : List Listed) (ordinal : ℕ) → HasDistinctNumbers rs → length (filter (λ e. option_map_or (λ k. nat_lt k ordinal) (position (has_no e.no) rs) false) (entries x rs)) ≡ length (entries x (take ordinal rs))
entries-before x rs ordinal distinct =
    count-before (λ n. option_map_or (λ k. nat_lt k ordinal) (position (has_no n) rs) false) x rs ordinal (λ j r e. ap (λ (o : Option ℕ). option_map_or (λ k. nat_lt k ordinal) o false) (position-here rs j r distinct e))

-- at most all entries are before an index
fewer-before : (o : Option Entry) (ds es : List Entry) → length ds ≤ length es → length (cons_option o ds) ≤ length (cons_option o es)
fewer-before None ds es h = h
fewer-before (Some e) ds es h = omega (arith, h)

pub before-low : (x : Node) (rs : List Listed) (i : ℕ) → length (entries x (take i rs)) ≤ length (entries x rs)
before-low x [] zero = omega arith
before-low x [] (suc i) = omega arith
before-low x (r ∷ rs) zero = omega arith
before-low x (r ∷ rs) (suc i) = fewer-before (entry_of x r) (entries x (take i rs)) (entries x rs) (before-low x rs i)

----------------------------------------------------------------- a list that is sound

-- an adapter with the number lacks the target, if no adapter with that number has it
target-apart : (x : Node) (number : AdapterNo) (rs : List Listed) (i : ℕ) (q : Listed) → slice_get rs i ≡ Some q → has_no number q ≡ true → is_target number x rs ≡ false → has_target x q ≡ false
target-apart x number [] i q at has none = absurd (no-some q at)
target-apart x number (r ∷ rs) zero q at has none =
    let first : q ≡ r = cc in
    let parts = or_parts (has_no number r && has_target x r) (is_target number x rs) none in
    ap (has_target x) first ∙ sym (ap (λ b. b && has_target x r) (ap (has_no number) (sym first) ∙ has)) ∙ parts.0
target-apart x number (r ∷ rs) (suc i) q at has none = target-apart x number rs i q at has (or_parts (has_no number r && has_target x r) (is_target number x rs) none).1

-- the adapter at an index with the targets that it had
pub listed_adapters-same : {A : Type 0} (heard : A → View) (xs : List (Attached A)) (i : ℕ) (x y : Attached A) → x ≡ get_or xs i x → y.no ≡ x.no → y.targets.items ≡ x.targets.items → y.adapter ≡ x.adapter → listed_adapters heard (set xs i y) ≡ listed_adapters heard xs
listed_adapters-same heard xs i x y is number targets same =
    let now : listed_one heard y ≡ listed_one heard x = λ j. record { no = number j; targets = targets j; view = heard (same j) } in
    listed_adapters-set_same heard xs i x y is now

module _ {A : Type 0} {heard : A → View} {places : A → ℕ} {xs : List (Attached A)} {keys : List AdapterNo} {t : TargetLists} {bs : List Bool} {count used room : ℕ} (sound : IsSound heard places xs keys t bs count used room) (i : ℕ) (x y : Attached A) (low : i < length xs) (is : x ≡ get_or xs i x) (same_number : y.no ≡ x.no) (same_adapter : y.adapter ≡ x.adapter) (u : TargetLists) (cs : List Bool) (some : HasNoEmpty t → HasNoEmpty u) where
  as-many : length (set xs i y) ≡ length xs
  as-many = length-set xs i y

  -- the same for the rules of the list: the adapter has capacity for more targets, and the table and the marks are as they were
  sound-same : y.targets.items ≡ x.targets.items → ((z : Node) → entries_in u z ≡ entries_in t z) → AreSameMarks bs cs → IsSound heard places (set xs i y) keys u cs count used room
  sound-same targets kept marks =
      let after : listed_adapters heard (set xs i y) ≡ listed_adapters heard xs = listed_adapters-same heard xs i x y is same_number targets same_adapter in
      let ready = AreReady-at heard places xs i x sound.ready low is in
      let long = ap (λ (ts : List Target). length ts) targets in
      let many = ap places same_adapter in
      let told = ap (λ (a : A). (heard a).told) same_adapter in
      record {
        few = sound.few;
        counted = sound.counted ∙ sym (ap targets_len after);
        ready = AreReady-set heard places xs i y sound.ready (record { reserve = omega (arith, ready.reserve, long, many); countable = omega (arith, ready.countable, told, many) });
        numbered = sound.numbered ∙ sym (numbers_of-set xs i x y is same_number);
        distinct = sound.distinct;
        once = subst HasDistinctTargets (sym after) sound.once;
        tied = λ z. kept z ∙ sound.tied z ∙ ap (entries z) (sym after);
        none_empty = some sound.none_empty;
        marked = λ o. marks o.0 ∙ sound.marked o ∙ ap is_any (sym (kept (node.Object o)));
        unused = sound.unused;
        releasable = omega (arith, as-many, sound.releasable);
      }

  pub whole-same : HaveTargets (listed_adapters heard xs) → y.targets.items ≡ x.targets.items → ((z : Node) → entries_in u z ≡ entries_in t z) → AreSameMarks bs cs → IsWhole heard places (set xs i y) keys u cs count used room
  whole-same each targets kept marks =
      record { sound = sound-same targets kept marks; some = subst HaveTargets (sym (listed_adapters-same heard xs i x y is same_number targets same_adapter)) each }

  module _ (q : Target) (number : AdapterNo) (seen : List Listed) (seen_as : seen ≡ listed_adapters heard xs) (at_place : Some i ≡ position (has_no number) seen) (has_not : is_target number q.node seen ≡ false) (targets : y.targets.items ≡ x.targets.items ++ q ∷ []) where
    at : Some i ≡ position (has_no number) (listed_adapters heard xs)
    at = subst (λ (rs : List Listed). Some i ≡ position (has_no number) rs) seen_as at_place

    none : is_target number q.node (listed_adapters heard xs) ≡ false
    none = subst (λ (rs : List Listed). is_target number q.node rs ≡ false) seen_as has_not

    stands-at : slice_get (listed_adapters heard xs) i ≡ Some (listed_one heard x)
    stands-at = slice_get-map (listed_one heard) xs i ∙ ap (option_map (listed_one heard)) (slice_get_read xs (length xs) i x refl low is)

    has-number : has_no number (listed_one heard x) ≡ true
    has-number = passes-at (has_no number) (listed_adapters heard xs) i (listed_one heard x) at stands-at

    put-there : listed_adapters heard (set xs i y) ≡ set (listed_adapters heard xs) i (with_target q (listed_one heard x))
    put-there =
        let now : listed_one heard y ≡ with_target q (listed_one heard x) = λ j. record { no = same_number j; targets = targets j; view = heard (same_adapter j) } in
        listed_adapters-put heard xs i y ∙ ap (set (listed_adapters heard xs) i) now

    -- the adapter at an index with one more target
    pub listed-watched : listed_adapters heard (set xs i y) ≡ adapters_after_watch number q seen
    listed-watched =
        put-there ∙ sym (changed-set number (with_target q) (listed_adapters heard xs) i (listed_one heard x) (distinct-numbers heard xs keys sound.numbered sound.distinct) stands-at has-number)
        ∙ ap (adapters_after_watch number q) (sym seen_as)

    some-watched : HaveTargets (listed_adapters heard xs) → HaveTargets (listed_adapters heard (set xs i y))
    some-watched each = subst HaveTargets (sym put-there) (some-set (listed_adapters heard xs) i (listed_one heard x) q each)

    -- the same for the rules of the list: with reserved capacity, an entry and a mark
    sound-watched : length x.targets.items < places x.adapter → count < TARGETS → (index : ℕ) → index ≡ length (entries q.node (take i (listed_adapters heard xs)))
        → ((z : Node) → entries_in u z ≡ (if same_node q.node z then insert (entries_in t z) index (record { no = number; deep = q.deep }) else entries_in t z)) → AreSetAt bs q.node true cs
        → IsSound heard places (set xs i y) keys u cs (count + 1) used room
    sound-watched spare few index index_is entry marks =
        let rs = listed_adapters heard xs in
        let r = listed_one heard x in
        let e : Entry = record { no = number; deep = q.deep } in
        let mine : number ≡ x.no = ap (λ (k : ℕ). let n : AdapterNo = record { 0 = k } in n) (eqb-true number.0 x.no.0 has-number) in
        let apart : has_target q.node r ≡ false = target-apart q.node number rs i r stands-at has-number none in
        let once : IsOnce r = subst (λ (o : Option Listed). IfSome o IsOnce) stands-at (once-there rs i (recursion_from_All IsOnce rs sound.once)) in
        let ready = AreReady-at heard places xs i x sound.ready low is in
        let long : length (x.targets.items ++ q ∷ []) ≡ suc (length x.targets.items) = let l = length-append x.targets.items (q ∷ []) in omega (arith, l) in
        let len = ap (λ (ts : List Target). length ts) targets in
        let many = ap places same_adapter in
        let told = ap (λ (a : A). (heard a).told) same_adapter in
        record {
          few = omega (arith, few);
          counted = ap (λ (n : ℕ). n + 1) sound.counted ∙ sym (ap targets_len put-there ∙ targets_len-more rs i r (with_target q r) stands-at long);
          ready = AreReady-set heard places xs i y sound.ready (record { reserve = omega (arith, spare, long, len, many); countable = omega (arith, ready.countable, told, many) });
          numbered = sound.numbered ∙ sym (numbers_of-set xs i x y is same_number);
          distinct = sound.distinct;
          once = subst HasDistinctTargets (sym put-there) (All-set IsOnce rs i (with_target q r) (once-last q r.targets once apart) sound.once);
          tied = λ z. entry z ∙ ap (λ es. if same_node q.node z then insert es index e else es) (sound.tied z)
              ∙ elim (same_node q.node z) as (λ b. same_node q.node z ≡ b → (if b then insert (entries z rs) index e else entries z rs) ≡ put q z rs i x.no b) [
                | true ↦ λ same. ap (λ (k : ℕ). insert (entries z rs) k e) (index_is ∙ ap (λ (v : Node). length (entries v (take i rs))) (same_node-true q.node z same)) ∙ ap (λ (n : AdapterNo). insert (entries z rs) (length (entries z (take i rs))) (record { no = n; deep = q.deep })) mine
                | false ↦ λ _. refl
              ] refl
              ∙ sym (entries-watched q z rs i r stands-at apart) ∙ ap (entries z) (sym put-there);
          none_empty = some sound.none_empty;
          marked = λ o.
              let v = node.Object o in
              marks o ∙ mark-put (same_node q.node v) (get_or bs o.0 false) (entries_in t v) index e (sound.marked o) ∙ ap is_any (sym (entry v));
          unused = sound.unused;
          releasable = omega (arith, as-many, sound.releasable);
        }

    pub whole-watched : HaveTargets (listed_adapters heard xs) → length x.targets.items < places x.adapter → count < TARGETS → (index : ℕ) → index ≡ length (entries q.node (take i seen))
        → ((z : Node) → entries_in u z ≡ (if same_node q.node z then insert (entries_in t z) index (record { no = number; deep = q.deep }) else entries_in t z)) → AreSetAt bs q.node true cs
        → IsWhole heard places (set xs i y) keys u cs (count + 1) used room
    whole-watched each spare few index index_is entry marks =
        record { sound = sound-watched spare few index (index_is ∙ ap (λ (rs : List Listed). length (entries q.node (take i rs))) seen_as) entry marks; some = some-watched each }

----------------------------------------------------------------- why it is refused

found-at : (rs : List Listed) (number : AdapterNo) (i : ℕ) → Some i ≡ position (has_no number) rs → i < length rs → target_refusal (adapter number rs) ≡ (if nat_le (2 ^ 64) (told_at_ordinal rs i + (targets_at rs i + 1)) then Some refused.AdapterFull else None)
found-at rs number i at low =
    let one = there rs i low in
    let found : adapter number rs ≡ Some one.0 = find-position (has_no number) rs ∙ ap (option_and_then (slice_get rs)) (sym at) ∙ one.1 in
    ap target_refusal found ∙ ap (λ (n : ℕ). if nat_le (2 ^ 64) n then Some refused.AdapterFull else None) (sym (let told = told-there rs i one.0 one.1 in let many = targets-there rs i one.0 one.1 in let sum : told_at_ordinal rs i + (targets_at rs i + 1) ≡ one.0.view.told + (length one.0.targets + 1) = omega (arith, told, many) in sum))

-- the refusal of a target, by the result of the adapter's `reserve`
pub target-refused : (rs : List Listed) (number : AdapterNo) (i n : ℕ) (reason : NoRoom) → Some i ≡ position (has_no number) rs → i < length rs → n ≡ targets_at rs i → (reason ≡ room.Full → 2 ^ 64 ≤ told_at_ordinal rs i + (n + 1)) → (2 ^ 64 ≤ told_at_ordinal rs i + (n + 1) → reason ≡ room.Full) → but_memory (refusal_of reason) ≡ target_refusal (adapter number rs)
target-refused rs number i n reason at low many full only = by reason full only ∙ sym (found-at rs number i at low)
  where
    by : (e : NoRoom) → (e ≡ room.Full → 2 ^ 64 ≤ told_at_ordinal rs i + (n + 1)) → (2 ^ 64 ≤ told_at_ordinal rs i + (n + 1) → e ≡ room.Full) → but_memory (refusal_of e) ≡ (if nat_le (2 ^ 64) (told_at_ordinal rs i + (targets_at rs i + 1)) then Some refused.AdapterFull else None)
    by room.Full past back = let over = past refl in sym (ap (λ b. if b then Some refused.AdapterFull else None) (le-leb _ _ (omega (arith, over, many))))
    by room.Memory past back =
        elim (nat_le (2 ^ 64) (told_at_ordinal rs i + (targets_at rs i + 1))) as (λ b. nat_le (2 ^ 64) (told_at_ordinal rs i + (targets_at rs i + 1)) ≡ b → None ≡ (if b then Some refused.AdapterFull else None)) [
          | true ↦ λ over. absurd (memory-full (back (let far = leb-true _ _ over in omega (arith, far, many))))
          | false ↦ λ _. refl
        ] refl
      where
        memory-full : room.Memory ≡ room.Full → ⊥
        memory-full e = cc

pub target-allowed : (rs : List Listed) (number : AdapterNo) (i n : ℕ) → Some i ≡ position (has_no number) rs → i < length rs → n ≡ targets_at rs i → (2 ^ 64 ≤ told_at_ordinal rs i + (n + 1) → ⊥) → target_refusal (adapter number rs) ≡ None
target-allowed rs number i n at low many fits =
    found-at rs number i at low
    ∙ elim (nat_le (2 ^ 64) (told_at_ordinal rs i + (targets_at rs i + 1))) as (λ b. nat_le (2 ^ 64) (told_at_ordinal rs i + (targets_at rs i + 1)) ≡ b → (if b then Some refused.AdapterFull else None) ≡ None) [
      | true ↦ λ over. absurd (fits (let far = leb-true _ _ over in omega (arith, far, many)))
      | false ↦ λ _. refl
    ] refl

-- no adapter has the number
pub watch-unknown : (rs : List Listed) (number : AdapterNo) (x : Node) → is_target number x rs ≡ false → targets_len rs < TARGETS → None ≡ position (has_no number) rs → Some refused.NoAdapter ≡ watch_refusal rs number x
watch-unknown rs number x other few absent =
    let none : adapter number rs ≡ None = find-position (has_no number) rs ∙ ap (option_and_then (slice_get rs)) (sym absent) in
    sym (ap (λ b. if b then None else if nat_le TARGETS (targets_len rs) then Some refused.Limit else target_refusal (adapter number rs)) other ∙ ap (λ b. if b then Some refused.Limit else target_refusal (adapter number rs)) (below (targets_len rs) few) ∙ ap target_refusal none)
