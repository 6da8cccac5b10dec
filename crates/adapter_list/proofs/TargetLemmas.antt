-- The targets of the adapters after one got a notification.
use Rattle.std.proofs.Common.{◌≡◌, ℕ, ◌+◌, ◌<◌, zero, suc, List, [], ◌∷◌, map, length, get_or, refl, sym, ap, arith}
use Rattle.std.specs.List.{AllByRecursion, IsDistinct, cons_option, fold}
use Rattle.std.proofs.lemmas.List.Elements.{All-from_recursion, recursion_from_All}
use Rattle.mm_types.specs.Same.{same_node}
use Rattle.mm_types.specs.declared.numbers.Node.{Node}
use Rattle.notice_chain.specs.View.{View}
use Rattle.notice_chain.specs.Listed.{HasDistinctTargets, Listed, targets_len}
use Rattle.notice_chain.specs.declared.notice.Notice.{Notice}
use Rattle.adapter_list.specs.Attached.{listed_adapters}
use Rattle.adapter_list.specs.Rounds.{tell_at}
use Rattle.adapter_list.specs.Targets.{entries, entry_of, targets_at}
use Rattle.adapter_list.specs.declared.attached.Attached.{Attached}

-- a notification changes no target
pub entries-tell_at : (x : Node) (rs : List Listed) (i : ℕ) (n : Notice) → entries x (tell_at rs i n) ≡ entries x rs
entries-tell_at x [] i n = refl
entries-tell_at x (r ∷ rs) zero n = refl
entries-tell_at x (r ∷ rs) (suc i) n = ap (cons_option (entry_of x r)) (entries-tell_at x rs i n)

len_from : (m : ℕ) (rs : List Listed) (i : ℕ) (n : Notice) → fold (λ a (r : Listed). a + length r.targets) m (tell_at rs i n) ≡ fold (λ a (r : Listed). a + length r.targets) m rs
len_from m [] i n = refl
len_from m (r ∷ rs) zero n = refl
len_from m (r ∷ rs) (suc i) n = len_from (m + length r.targets) rs i n

pub targets_len-tell_at : (rs : List Listed) (i : ℕ) (n : Notice) → targets_len (tell_at rs i n) ≡ targets_len rs
targets_len-tell_at rs i n = len_from 0 rs i n

abbrev Once : Listed → Type 0
Once r = IsDistinct same_node (map (λ t. t.node) r.targets)

once_at : (rs : List Listed) (i : ℕ) (n : Notice) → AllByRecursion Once rs → AllByRecursion Once (tell_at rs i n)
once_at [] i n h = tt
once_at (r ∷ rs) zero n h = h
once_at (r ∷ rs) (suc i) n h = (h.0, once_at rs i n h.1)

pub once-tell_at : (rs : List Listed) (i : ℕ) (n : Notice) → HasDistinctTargets rs → HasDistinctTargets (tell_at rs i n)
once-tell_at rs i n h = All-from_recursion Once (tell_at rs i n) (once_at rs i n (recursion_from_All Once rs h))

pub targets_at-here : {A : Type 0} (heard : A → View) (xs : List (Attached A)) (i : ℕ) (x : Attached A) → i < length xs → x ≡ get_or xs i x → targets_at (listed_adapters heard xs) i ≡ length x.targets.items
targets_at-here heard [] i x h e = absurd (omega (arith, h))
targets_at-here heard (y ∷ ys) zero x h e = sym (ap (λ (q : Attached _). length q.targets.items) e)
targets_at-here heard (y ∷ ys) (suc i) x h e = targets_at-here heard ys i x (omega (arith, h)) e
