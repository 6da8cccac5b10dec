-- Sets of links and proxies: the values that a set gives each end, and the edits of a set.
use Rattle.std.specs.Prelude.{◌≡◌, ℕ, zero, suc, ◌-◌, ◌==◌, Bool, true, false, nat_lt, max, List, [], ◌∷◌, map, filter, find, fold, remove, length, slice_get, Option, Some, None, option_and_then, if◌then◌else◌}
use Rattle.std.specs.List.{cons_option}
use Rattle.std.specs.Option.{option_map_or}
use Rattle.std.specs.FinSet as set
use Rattle.std.specs.FinSet.{FinSet}
use Rattle.std.specs.Coded.{Coded}
use Rattle.mm_types.specs.declared.numbers.FeatureNo.{FeatureNo}
use Rattle.mm_types.specs.declared.numbers.ObjectNo.{ObjectNo}
use Rattle.mm_types.specs.declared.numbers.Node.{Node}
use Rattle.mm_types.specs.declared.numbers.Node.TheVariants as node
use Rattle.mm_types.specs.declared.end.End.{End}
use Rattle.mm_types.specs.declared.value.Value.{Value}
use Rattle.mm_types.specs.declared.value.Value.TheVariants as value
use Rattle.links.specs.declared.link.Far.{Far}
use Rattle.links.specs.declared.link.Far.TheVariants.{At, Alone, Proxy}
use Rattle.links.specs.declared.link.Link.{Link}
use Rattle.links.specs.Order.{link_cmp, coded_link}
use Rattle.links.specs.Indexed.{far_value, has_value, renumbered_link, indexed_value}

abbrev pub Links : Type 0
Links = FinSet link_cmp

abbrev pub coded_links : Coded Links
coded_links = set.code coded_link

abbrev pub no_links : Links
no_links = set.empty

abbrev pub In : Link → Links → Type 0
In l s = set.contains s l ≡ true

---------------------------------------------------------------- ends

-- the value of p, an optional pair of a position and a value, if p is present and its position is k; else the value `other`
abbrev pub at_indexed : Option (ℕ × Value) → ℕ → Option Value → Option Value
at_indexed None k other = other
at_indexed (Some p) k other = if p.0 == k then Some p.1 else other

-- the value at position k of the end e
abbrev pub value_at : List Link → End → ℕ → Option Value
value_at [] e k = None
value_at (l ∷ ls) e k = at_indexed (indexed_value l e) k (value_at ls e k)

abbrev pub past : Option (ℕ × Value) → ℕ
past p = option_map_or (λ q. suc q.0) p 0

-- one more than the last position of the end e; 0 if e has no value
abbrev pub length_at : List Link → End → ℕ
length_at [] e = 0
length_at (l ∷ ls) e = max (past (indexed_value l e)) (length_at ls e)

-- the values at n positions of the end e, from k on
abbrev pub values_from : List Link → End → ℕ → ℕ → List Value
values_from ls e k zero = []
values_from ls e k (suc n) = cons_option (value_at ls e k) (values_from ls e (suc k) n)

abbrev pub values : List Link → End → List Value
values ls e = values_from ls e 0 (length_at ls e)

-- the values of the end e, in the order of their positions; in a legal set each value is at the index that is its position
unfoldable pub end : Links → End → List Value
end s e = values (set.items s) e

abbrev pub object_of : Value → Option ObjectNo
object_of (value.Object o) = Some o
object_of _ = None

abbrev pub text_of : Value → Option (List ℕ)
text_of (value.Proxy t) = Some t
text_of _ = None

-- the object at position k of the end e; none if no object is there
abbrev pub object_at : Links → End → ℕ → Option ObjectNo
object_at s e k = option_and_then object_of (slice_get (end s e) k)

-- the text of the proxy at position k of the end e; none if no proxy is there
abbrev pub proxy_at : Links → End → ℕ → Option (List ℕ)
proxy_at s e k = option_and_then text_of (slice_get (end s e) k)

---------------------------------------------------------------- edits

-- the set of links after the function r changed each position in the end e
unfoldable pub renumbered_links : Links → End → (ℕ → ℕ) → Links
renumbered_links s e r = set.from_list (map (λ l. renumbered_link l e r) (set.items s))

abbrev pub raise : ℕ → ℕ → ℕ
raise i k = if nat_lt k i then k else suc k

abbrev pub lower : ℕ → ℕ → ℕ
lower i k = if nat_lt i k then k - 1 else k

-- the new position of the value at position k after the value at `from` is taken out and put in at `to`
abbrev pub shifted_index : ℕ → ℕ → ℕ → ℕ
shifted_index to from k = if k == from then to else raise to (lower from k)

abbrev pub lowered_far : Links → Far → Links
lowered_far s (At d j) = renumbered_links s d (lower j)
lowered_far s (Alone o) = s
lowered_far s (Proxy t) = s

-- takes the link l out, and lowers the later positions at its ends by one
unfoldable pub cut : Links → Link → Links
cut s l = lowered_far (renumbered_links (set.remove s l) l.end (lower l.index)) l.far

abbrev pub cut_some : Links → Option Link → Links
cut_some s o = option_map_or (cut s) o s

-- cuts the link that is in the end e with the value v, if there is such a link
unfoldable pub cut_value : Links → End → Value → Links
cut_value s e v = cut_some s (find (has_value e v) (set.items s))

-- the link between position i of the end x and position j of the end y; c is the containing feature. The near side of the link is the end
-- whose feature has the lower number
abbrev pub joined_link : End → ℕ → End → ℕ → Option FeatureNo → Link
joined_link x i y j c =
    if nat_lt x.feature.0 y.feature.0
    then record { end = x; index = i; far = At y j; container = c }
    else record { end = y; index = j; far = At x i; container = c }

abbrev pub far_end : ObjectNo → FeatureNo → End
far_end o g = record { node = node.Object o; feature = g }

-- the new link that puts the object o at position i in the end e. If e's feature has the opposite g, the link is put last in the far end. c
-- is the containing feature
abbrev pub new_link : Links → End → ℕ → ObjectNo → Option FeatureNo → Option FeatureNo → Link
new_link s e i o None c = record { end = e; index = i; far = Alone o; container = c }
new_link s e i o (Some g) c = joined_link e i (far_end o g) (length (end s (far_end o g))) c

-- puts the object o at position i in the end e; g is the opposite of e's feature, and c is the containing feature
unfoldable pub put : Links → End → ℕ → ObjectNo → Option FeatureNo → Option FeatureNo → Links
put s e i o g c = set.insert (renumbered_links s e (raise i)) (new_link s e i o g c)

-- the proxy with the text t at position i in the end e
abbrev pub new_proxy : End → ℕ → List ℕ → Link
new_proxy e i t = record { end = e; index = i; far = Proxy t; container = None }

-- puts a proxy with the text t at position i in the end e
unfoldable pub put_proxy : Links → End → ℕ → List ℕ → Links
put_proxy s e i t = set.insert (renumbered_links s e (raise i)) (new_proxy e i t)

-- moves the value at `from` in the end e, so that it is then at `to`
unfoldable pub shift : Links → End → ℕ → ℕ → Links
shift s e to from = renumbered_links s e (shifted_index to from)

-- the values of an end after a link is cut: vs, the values before the cut, without the value at the link's position. p has the position and
-- the value of the link in the end; if p is none, the link is not in the end, and the result is vs
abbrev pub list_without : List Value → Option (ℕ × Value) → List Value
list_without vs p = option_map_or (λ q. remove vs q.0) p vs

abbrev pub far_touches : (Node → Bool) → Far → Bool
far_touches gone (At d j) = gone d.node
far_touches gone (Alone o) = gone (node.Object o)
far_touches gone (Proxy t) = false

-- whether a link names a node that is removed; `gone` says which nodes are removed
abbrev pub touches : (Node → Bool) → Link → Bool
touches gone l = if gone l.end.node then true else far_touches gone l.far

-- cuts every link that names a node that is removed
unfoldable pub without_nodes : Links → (Node → Bool) → Links
without_nodes s gone = fold (λ t l. cut_value t l.end (far_value l.far)) s (filter (touches gone) (set.items s))
