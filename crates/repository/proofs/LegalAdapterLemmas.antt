-- The adapters of a legal state after a chain, a release, a new adapter and a new target.
use Rattle.std.proofs.Common.{◌≡◌, ◌≤◌, ◌<◌, ◌+◌, ◌^◌, ◌&&◌, ◌||◌, ℕ, suc, cond, Bool, true, false, IsTrue, List, [], ◌∷◌, ◌++◌, map, length, nat_le, nat_lt, Option, Some, None, if◌then◌else◌, refl, sym, ap, ◌∙◌, subst, arith, length-append}
use Rattle.std.specs.List.{All, IsDistinct, list_any, sum_by}
use Rattle.std.proofs.lemmas.Bool.{or_parts, leb-false, ltb-false}
use Rattle.std.proofs.lemmas.List.Elements.{All-append, All-cons, All-nil, All-head, All-tail, All-weaker}
use Rattle.std.proofs.lemmas.List.Sums.{sum_by-cons, sum_by_push}
use Rattle.mm_types.specs.declared.limits.TheConstants.{TARGETS}
use Rattle.mm_types.specs.declared.numbers.AdapterNo.{AdapterNo}
use Rattle.mm_types.specs.declared.numbers.Node.{Node}
use Rattle.mm_types.specs.declared.refused.Refused.{Refused}
use Rattle.mm_types.specs.declared.refused.Refused.TheVariants.{NoObject, NoResource, AdapterFull, AdapterTaken, Limit}
use Rattle.notice_chain.specs.View.{View}
use Rattle.notice_chain.specs.Listed.{Above, HasDistinctNumbers, HaveTargets, Listed, adapter, adapter_after_notices, adapters_after_watch, has_no, has_target, heard_of, is_at, is_chain_full, is_full, is_target, same_no, targets_len, tell_chain, with_target}
use Rattle.notice_chain.specs.declared.notice.Notice.{Notice}
use Rattle.notice_chain.specs.declared.target.Target.{Target}
use Rattle.notice_chain.proofs.ViewLemmas.{told-hear_all}
use Rattle.adapter_list.specs.Refusals.{attach_refusal, is_at_limit, list_refusal, target_refusal, view_refusal, watch_refusal}
use Rattle.adapter_list.specs.Targets.{IsOnce}
use Rattle.adapter_list.proofs.GoingLemmas.{once-filter, one-fewer}
use Rattle.adapter_list.proofs.WatchLemmas.{once-last}
use Rattle.models.specs.Reading.{Reading}
use Rattle.models.specs.Existence.{node_refusal}
use Rattle.handshake.proofs.KnownLemmas.{none-else_by, none-unless, none-where_so}
use Rattle.repository.specs.declared.command.Command.TheVariants.{Attach, Watch}
use Rattle.repository.specs.State.{State, IsLegal, IsLegalAdapter, is_there, reads}
use Rattle.repository.specs.Step.{adapters_after_attach, adapters_at_close, attached_adapters}
use Rattle.mm_types.specs.Same.{same_node}
use Rattle.notice_chain.specs.Released.{Spot, all_released, is_gone_at, released_adapters, spots, spots_of}
use Rattle.notice_chain.proofs.ReleasedLemmas.{released-all}
use Rattle.repository.proofs.OthersLemmas.{distinct-push}
use Rattle.adapter_list.proofs.SomeLemmas.{others-some}
use Rattle.repository.proofs.SpotLemmas.{HoldsOn, NoneGoes, both-each, left-of, others-distinct, others-each, others-free, others-len}
use Rattle.mm_types.proofs.SameLemmas.{same_node-self, same_node-true}

abbrev pub IsThere : Option Refused → Type 0
IsThere None = ⊥
IsThere (Some r) = Unit {0}

pub both-true : (a b : Bool) → IsTrue a → IsTrue b → IsTrue (a && b)
both-true true b x y = y
both-true false b x y = x

---------------------------------------------------------------- the adapters after a chain

pub numbers-tell_chain : (up : Above) (ns : List Notice) (rs : List Listed) → map (λ r. r.no) (tell_chain up ns rs) ≡ map (λ r. r.no) rs
numbers-tell_chain up ns [] = refl
numbers-tell_chain up ns (r ∷ rs) = ap (λ xs. r.no ∷ xs) (numbers-tell_chain up ns rs)

pub len-told : (up : Above) (ns : List Notice) (rs : List Listed) → targets_len (tell_chain up ns rs) ≡ targets_len rs
len-told up ns [] = refl
len-told up ns (r ∷ rs) =
    let many : Listed → ℕ = λ q. length q.targets in
    sum_by-cons many (adapter_after_notices r (heard_of up ns r)) (tell_chain up ns rs) ∙ ap (λ (n : ℕ). many r + n) (len-told up ns rs) ∙ sym (sum_by-cons many r rs)

-- notifying changes no target
pub spots-told : (goes : AdapterNo → Node → Bool) (up : Above) (ns : List Notice) (rs : List Listed) → spots goes (tell_chain up ns rs) ≡ spots goes rs
spots-told goes up ns [] = refl
spots-told goes up ns (r ∷ rs) = ap (λ (ss : List Spot). spots_of goes r ++ ss) (spots-told goes up ns rs)

---------------------------------------------------------------- an adapter of a legal state

-- the rules of an adapter, except that its targets exist
record IsCountable (a : Listed) : Type 0 where
  once : IsOnce a
  countable : a.view.told + length a.targets < 2 ^ 64

losing-countable : HoldsOn IsCountable
losing-countable x n a has h =
    let fewer = one-fewer x a.targets h.once has in
    record { once = once-filter x a.targets h.once; countable = omega (arith, h.countable, fewer, told-hear_all a.view (n ∷ [])) }

-- each target of an adapter exists
HasThere : Reading → Listed → Type 0
HasThere r a = (x : Node) → has_target x a ≡ true → IsTrue (is_there r x)

losing-there : (r : Reading) → HoldsOn (HasThere r)
unfolding HasThere
losing-there r x n a has h y left = h y (left-of x y a.targets left).1

there-of : (r : Reading) (ts : List Target) → All (λ t. IsTrue (is_there r t.node)) ts → (x : Node) → list_any (is_at x) ts ≡ true → IsTrue (is_there r x)
there-of r [] all x h = absurd (let no : false ≡ true = h in cc)
there-of r (t ∷ ts) all x h =
    let P : Target → Type 0 = λ q. IsTrue (is_there r q.node) in
    elim (is_at x t) as (λ b. is_at x t ≡ b → (b || list_any (is_at x) ts) ≡ true → IsTrue (is_there r x)) [
      | true ↦ λ same _. subst (λ (n : Node). IsTrue (is_there r n)) (same_node-true t.node x same) (All-head P t ts all)
      | false ↦ λ _ later. there-of r ts (All-tail P t ts all) x later
    ] refl h

of-there : (r : Reading) (ts : List Target) → ((x : Node) → list_any (is_at x) ts ≡ true → IsTrue (is_there r x)) → All (λ t. IsTrue (is_there r t.node)) ts
of-there r [] h = All-nil (λ (t : Target). IsTrue (is_there r t.node))
of-there r (t ∷ ts) h =
    let P : Target → Type 0 = λ q. IsTrue (is_there r q.node) in
    All-cons P t ts (h t.node (ap (λ b. b || list_any (is_at t.node) ts) (same_node-self t.node))) (of-there r ts (λ x later. h x (behind (is_at x t) later)))
  where
    behind : {c : Bool} (b : Bool) → c ≡ true → (b || c) ≡ true
    behind true e = refl
    behind false e = e

-- the parts of these rules
record Parts (r : Reading) (rs : List Listed) : Type 0 where
  some : HaveTargets rs
  countable : All IsCountable rs
  there : All (HasThere r) rs

abbrev some_of : Listed → Type 0
some_of a = 0 < length a.targets

parts-of : (r : Reading) (rs : List Listed) → All (IsLegalAdapter r) rs → Parts r rs
unfolding HasThere
parts-of r rs all = record {
  some = All-weaker (IsLegalAdapter r) some_of (λ a h. h.some) rs all;
  countable = All-weaker (IsLegalAdapter r) IsCountable (λ a h. record { once = h.once; countable = h.countable }) rs all;
  there = All-weaker (IsLegalAdapter r) (HasThere r) (λ a h. there-of r a.targets h.targets) rs all;
}

of-parts : (r : Reading) (rs : List Listed) → Parts r rs → All (IsLegalAdapter r) rs
unfolding HasThere
of-parts r [] p = All-nil (IsLegalAdapter r)
of-parts r (a ∷ rs) p =
    let counted = All-head IsCountable a rs p.countable in
    All-cons (IsLegalAdapter r) a rs
    (record { some = All-head some_of a rs p.some; once = counted.once; targets = of-there r a.targets (All-head (HasThere r) a rs p.there); countable = counted.countable })
    (of-parts r rs (record { some = All-tail some_of a rs p.some; countable = All-tail IsCountable a rs p.countable; there = All-tail (HasThere r) a rs p.there }))

---------------------------------------------------------------- after a chain, and once targets have gone

count-on : (t k m : ℕ) → (nat_lt 0 k && nat_le (2 ^ 64) (t + (k + m))) ≡ false → t + m < 2 ^ 64 → t + k + m < 2 ^ 64
count-on t k m free last =
    elim (nat_lt 0 k) as (λ b. nat_lt 0 k ≡ b → (b && nat_le (2 ^ 64) (t + (k + m))) ≡ false → t + k + m < 2 ^ 64) [
      | true ↦ λ e f. omega (arith, leb-false _ _ f)
      | false ↦ λ e f. omega (arith, ltb-false _ _ e, last)
    ] refl free

pub told-legal : (up : Above) (r : Reading) (ns : List Notice) (rs : List Listed) → is_chain_full up ns rs ≡ false → All (IsLegalAdapter r) rs → All (IsLegalAdapter r) (tell_chain up ns rs)
told-legal up r ns [] free legal = All-nil (IsLegalAdapter r)
told-legal up r ns (a ∷ rs) free legal =
    let both = or_parts (is_full (length (heard_of up ns a)) (length a.targets) a.view) (is_chain_full up ns rs) free in
    let one = All-head (IsLegalAdapter r) a rs legal in
    All-cons (IsLegalAdapter r) _ _
    (record { some = one.some; once = one.once; targets = one.targets; countable = rw (told-hear_all a.view (heard_of up ns a)) (count-on a.view.told (length (heard_of up ns a)) (length a.targets) both.0 one.countable) })
    (told-legal up r ns rs both.1 (All-tail (IsLegalAdapter r) a rs legal))

-- the rules of the adapters after a command
pub record AreLegal (r : Reading) (rs : List Listed) : Type 0 where
  pub few : targets_len rs ≤ TARGETS
  pub distinct : HasDistinctNumbers rs
  pub adapters : All (IsLegalAdapter r) rs

-- the adapters are legal whichever targets are removed
pub released_adapters-legal : (r : Reading) (ss : List Spot) (rs : List Listed) → AreLegal r rs → AreLegal r (released_adapters ss rs).others
released_adapters-legal r ss rs legal =
    let p = parts-of r rs legal.adapters in
    record {
      few = omega (arith, legal.few, others-len ss rs);
      distinct = others-distinct ss rs legal.distinct;
      adapters = of-parts r (released_adapters ss rs).others (record {
        some = others-some ss rs p.some;
        countable = others-each IsCountable losing-countable ss rs legal.distinct p.countable;
        there = others-each (HasThere r) (losing-there r) ss rs legal.distinct p.there;
      });
    }

-- the adapters are legal if the targets that no longer exist are removed
pub gone-legal : (r t : Reading) (gone : Node → Bool) (rs : List Listed) → ((x : Node) → gone x ≡ false → IsTrue (is_there r x) → IsTrue (is_there t x)) → AreLegal r rs → AreLegal t (released_adapters (spots (is_gone_at gone) rs) rs).others
unfolding HasThere
gone-legal r t gone rs keeps legal =
    let ss = spots (is_gone_at gone) rs in
    let qs = (released_adapters ss rs).others in
    let after = released_adapters-legal r ss rs legal in
    let p = parts-of r qs after.adapters in
    record {
      few = after.few;
      distinct = after.distinct;
      adapters = of-parts t qs (record { some = p.some; countable = p.countable; there = both-each (NoneGoes (is_gone_at gone)) (HasThere r) (HasThere t) (λ a free there x has. keeps x (free x has) (there x has)) qs (others-free (is_gone_at gone) rs legal.distinct) p.there });
    }

-- a state in which targets were removed is legal
pub let_go-legal : (s : State) (ss : List Spot) → IsLegal s → IsLegal (record { model = s.model; adapters = (released_adapters ss s.adapters).others })
let_go-legal s ss legal =
    let after = released_adapters-legal (reads s) ss s.adapters (record { few = legal.few; distinct = legal.distinct; adapters = legal.adapters }) in
    record { model = legal.model; few = after.few; distinct = after.distinct; adapters = after.adapters }

pub stays-legal : (r t : Reading) (rs : List Listed) → ((x : Node) → IsTrue (is_there r x) → IsTrue (is_there t x)) → AreLegal r rs → AreLegal t rs
stays-legal r t rs keeps legal = record {
  few = legal.few;
  distinct = legal.distinct;
  adapters = All-weaker (IsLegalAdapter r) (IsLegalAdapter t) (λ a h. record { some = h.some; once = h.once; targets = All-weaker (λ q. IsTrue (is_there r q.node)) (λ q. IsTrue (is_there t q.node)) (λ q. keeps q.node) a.targets h.targets; countable = h.countable }) rs legal.adapters;
}

---------------------------------------------------------------- one more adapter, or target

-- the list takes one more target, and an adapter of this number
pub list-free : (rs : List Listed) (number : AdapterNo) → list_refusal rs number ≡ None → (targets_len rs < TARGETS) × (list_any (has_no number) rs ≡ false)
list-free rs number none =
    elim (is_at_limit rs) as (λ b. is_at_limit rs ≡ b → (if b then Some Limit else if list_any (has_no number) rs then Some AdapterTaken else None) ≡ None → (targets_len rs < TARGETS) × (list_any (has_no number) rs ≡ false)) [
      | true ↦ λ e f. absurd (subst IsThere f tt)
      | false ↦ λ e f. (leb-false _ _ e, none-where_so AdapterTaken _ f)
    ] refl none

view-countable : (v : View) (n : ℕ) → view_refusal v n ≡ None → v.told + (n + 1) < 2 ^ 64
view-countable v n none = leb-false _ _ (none-where_so AdapterFull _ none)

node-there : (r : Reading) (n : Node) → node_refusal r n ≡ None → IsTrue (is_there r n)
node-there r n none = let both = none-else_by _ _ none in both-true _ _ (none-unless NoObject _ both.0) (none-unless NoResource _ both.1)

pub attach-legal : (r : Reading) (rs : List Listed) (number : AdapterNo) (target : Node) (deep : Bool) (view : View) → node_refusal r target ≡ None → attach_refusal rs number view ≡ None → AreLegal r rs → AreLegal r (rs ++ attached_adapters (Attach number target deep view))
unfolding IsDistinct
attach-legal r rs number target deep view early late legal =
    let one : Listed = record { no = number; targets = record { node = target; deep = deep } ∷ []; view = view } in
    let free = none-else_by _ _ late in
    let room = list-free rs number free.0 in
    record {
      few = omega (arith, sum_by_push (λ (q : Listed). length q.targets) rs one, room.0);
      distinct = distinct-push rs one legal.distinct room.1;
      adapters = All-append (IsLegalAdapter r) rs (one ∷ []) legal.adapters
          (All-cons (IsLegalAdapter r) one [] (record { some = omega arith; once = (tt, tt); targets = All-cons (λ t. IsTrue (is_there r t.node)) _ [] (node-there r target early) (All-nil (λ t. IsTrue (is_there r t.node))); countable = view-countable view 0 free.1 }) (All-nil (IsLegalAdapter r)));
    }

numbers-adapters_after_watch : (k : AdapterNo) (t : Target) (rs : List Listed) → map (λ r. r.no) (adapters_after_watch k t rs) ≡ map (λ r. r.no) rs
numbers-adapters_after_watch k t [] = refl
numbers-adapters_after_watch k t (r ∷ rs) =
    elim (has_no k r) as (λ b. map (λ q. q.no) (if b then (with_target t r ∷ rs) else r ∷ adapters_after_watch k t rs) ≡ r.no ∷ map (λ q. q.no) rs) [
      | true ↦ refl
      | false ↦ ap (λ (ns : List AdapterNo). r.no ∷ ns) (numbers-adapters_after_watch k t rs)
    ]

len-adapters_after_watch : (k : AdapterNo) (t : Target) (rs : List Listed) → targets_len (adapters_after_watch k t rs) ≤ suc (targets_len rs)
len-adapters_after_watch k t [] = omega arith
len-adapters_after_watch k t (r ∷ rs) =
    let many : Listed → ℕ = λ q. length q.targets in
    elim (has_no k r) as (λ b. sum_by many (if b then (with_target t r ∷ rs) else r ∷ adapters_after_watch k t rs) ≤ suc (sum_by many (r ∷ rs))) [
      | true ↦ omega (arith, sum_by-cons many (with_target t r) rs, sum_by-cons many r rs, length-append r.targets (t ∷ []))
      | false ↦ omega (arith, sum_by-cons many r (adapters_after_watch k t rs), sum_by-cons many r rs, len-adapters_after_watch k t rs)
    ]

adapters_after_watch-each : (r : Reading) (k : AdapterNo) (t : Target) (rs : List Listed) → IsTrue (is_there r t.node) → is_target k t.node rs ≡ false → target_refusal (adapter k rs) ≡ None → All (IsLegalAdapter r) rs → All (IsLegalAdapter r) (adapters_after_watch k t rs)
adapters_after_watch-each r k t [] there none free legal = All-nil (IsLegalAdapter r)
adapters_after_watch-each r k t (a ∷ rs) there none free legal =
    let parts = or_parts (has_no k a && has_target t.node a) (is_target k t.node rs) none in
    let one = All-head (IsLegalAdapter r) a rs legal in
    let rest = All-tail (IsLegalAdapter r) a rs legal in
    elim (has_no k a) as (λ b. has_no k a ≡ b → (b && has_target t.node a) ≡ false → target_refusal (cond b (Some a) (adapter k rs)) ≡ None → All (IsLegalAdapter r) (if b then (with_target t a ∷ rs) else a ∷ adapters_after_watch k t rs)) [
      | true ↦ λ _ apart room.
          let long = length-append a.targets (t ∷ []) in
          All-cons (IsLegalAdapter r) (with_target t a) rs
          (record {
            some = omega (arith, long);
            once = once-last t a.targets one.once apart;
            targets = All-append (λ q. IsTrue (is_there r q.node)) a.targets (t ∷ []) one.targets (All-cons (λ q. IsTrue (is_there r q.node)) t [] there (All-nil (λ q. IsTrue (is_there r q.node))));
            countable = omega (arith, long, view-countable a.view (length a.targets) room);
          })
          rest
      | false ↦ λ _ _ later. All-cons (IsLegalAdapter r) a (adapters_after_watch k t rs) one (adapters_after_watch-each r k t rs there parts.1 later rest)
    ] refl parts.0 free

pub watch-legal : (r : Reading) (rs : List Listed) (number : AdapterNo) (target : Node) (deep : Bool) → node_refusal r target ≡ None → watch_refusal rs number target ≡ None → AreLegal r rs → AreLegal r (adapters_after_attach (Watch number target deep) rs)
watch-legal r rs number target deep early late legal =
    let t : Target = record { node = target; deep = deep } in
    elim (is_target number target rs) as (λ b. is_target number target rs ≡ b → (if b then None else if is_at_limit rs then Some Limit else target_refusal (adapter number rs)) ≡ None → AreLegal r (if b then rs else adapters_after_watch number t rs)) [
      | true ↦ λ _ _. legal
      | false ↦ λ apart free.
          let room : (targets_len rs < TARGETS) × (target_refusal (adapter number rs) ≡ None) = below free in
          record {
            few = omega (arith, len-adapters_after_watch number t rs, room.0);
            distinct = subst (IsDistinct same_no) (sym (numbers-adapters_after_watch number t rs)) legal.distinct;
            adapters = adapters_after_watch-each r number t rs (node-there r target early) apart room.1 legal.adapters;
          }
    ] refl late
  where
    below : (if is_at_limit rs then Some Limit else target_refusal (adapter number rs)) ≡ None → (targets_len rs < TARGETS) × (target_refusal (adapter number rs) ≡ None)
    below free =
        elim (is_at_limit rs) as (λ b. is_at_limit rs ≡ b → (if b then Some Limit else target_refusal (adapter number rs)) ≡ None → (targets_len rs < TARGETS) × (target_refusal (adapter number rs) ≡ None)) [
          | true ↦ λ e f. absurd (subst IsThere f tt)
          | false ↦ λ e f. (leb-false _ _ e, f)
        ] refl free

---------------------------------------------------------------- all of them leave

pub all-adapters_at_close : (s : State) → IsLegal s → all_released s.adapters ≡ adapters_at_close s
all-adapters_at_close s legal =
    let once = All-weaker (IsLegalAdapter (reads s)) (λ (a : Listed). IsDistinct same_node (map (λ t. t.node) a.targets)) (λ a h. h.once) s.adapters legal.adapters in
    let some = All-weaker (IsLegalAdapter (reads s)) (λ (a : Listed). 0 < length a.targets) (λ a h. h.some) s.adapters legal.adapters in
    sym (released-all s.adapters legal.distinct once some)
