-- Which adapters get the notifications whose notifier is a given node: the indexes of these adapters in attach order, and the copies for
-- them.
use Rattle.std.specs.Prelude.{◌≡◌, ℕ, suc, Bool, false, List, [], ◌∷◌, map, IfSome, if◌then◌else◌}
use Rattle.std.specs.List.{AllByRecursion, list_any}
use Rattle.mm_types.specs.declared.numbers.Node.{Node}
use Rattle.mm_types.specs.declared.numbers.Node.TheVariants as node
use Rattle.mm_types.specs.declared.numbers.ObjectNo.{ObjectNo}
use Rattle.notice_chain.specs.Listed.{Above, Listed, brings_in, has_target}
use Rattle.notice_chain.specs.declared.notice.Notice.{Notice}
use Rattle.adapter_list.specs.declared.hearers.Hearers.{Hearers}

-- whether an adapter gets the notifications of a node
abbrev pub hears_node : Above → Node → Listed → Bool
hears_node up x r = list_any (brings_in up x) r.targets

-- the indexes of the adapters for which p is true; the first adapter of the list has index k
abbrev pub ordinals_from : (Listed → Bool) → ℕ → List Listed → List ℕ
ordinals_from p k [] = []
ordinals_from p k (r ∷ rs) = if p r then k ∷ ordinals_from p (suc k) rs else ordinals_from p (suc k) rs

-- the indexes of the adapters that get the notifications of a node
abbrev pub hearers : Above → Node → List Listed → List ℕ
hearers up x rs = ordinals_from (hears_node up x) 0 rs

-- whether some adapter gets the notifications of a node
abbrev pub is_heard : Above → Node → List Listed → Bool
is_heard up x rs = list_any (hears_node up x) rs

-- a chain notifies no adapter
abbrev pub IsUnheard : Above → List Notice → List Listed → Type 0
IsUnheard up ns rs = AllByRecursion (λ n. is_heard up n.notifier rs ≡ false) ns

-- whether an adapter has any of the objects os as a target
abbrev pub is_touched : List ObjectNo → Listed → Bool
is_touched os r = list_any (λ o. has_target (node.Object o) r) os

-- the indexes of the adapters that have any of the objects os as a target
abbrev pub touched_indexes : List ObjectNo → List Listed → List ℕ
touched_indexes os rs = ordinals_from (is_touched os) 0 rs

-- what is remembered from the last search is still right: either no node is remembered, or the remembered adapters are exactly those that
-- get the notifications of the remembered node
abbrev pub AreKnown : Above → List Listed → Hearers → Type 0
AreKnown up rs h = IfSome h.node (λ x. h.ordinals.items ≡ hearers up x rs)

-- the copies of a notification for the adapters at some indexes
abbrev pub copies_at : List ℕ → Notice → List (ℕ × Notice)
copies_at ks n = map (λ k. (k, n)) ks
