-- The edits of links by which a change is made.
use Rattle.std.specs.Prelude.{ℕ, List, [], ◌++◌, ◌-◌, flat_map, length, map, Option, Some, None, option_map, option_to_list, if◌then◌else◌}
use Rattle.std.specs.Option.{option_map_or}
use Rattle.mm_types.specs.declared.end.End.{End}
use Rattle.mm_types.specs.declared.value.Value.{Value}
use Rattle.mm_types.specs.declared.value.Value.TheVariants as value
use Rattle.links.specs.declared.plan.Edit.{Edit}
use Rattle.links.specs.declared.plan.Edit.TheVariants.{Cut, Shift}
use Rattle.models.specs.Reading.{Reading, position_for, shape_at}
use Rattle.handshake.specs.declared.change.Change.{Change}
use Rattle.handshake.specs.declared.change.Change.TheVariants.{At, ResolveAll, Load}
use Rattle.handshake.specs.declared.act.Act.TheVariants.{Set, Add, Move, Resolve}
use Rattle.proxies.specs.declared.resolved_proxy.Counterpart.{Counterpart}
use Rattle.proxies.specs.declared.resolved_proxy.ResolvedProxy.{ResolvedProxy}
use Rattle.removal.specs.declared.link_end.LinkEnd.{LinkEnd}
use Rattle.doc_loader.specs.LoadEdits.{load_edits}
use Rattle.handshake.specs.Displaced.{cut_link_ends, is_plain_add, is_plain_set, link_ends_joined}
use Rattle.proxies.specs.Proxies.{end_of, sites}
use Rattle.proxies.specs.ResolvingAll.{Resolution, resolutions}
use Rattle.proxies.specs.Resolving.{target_at}
use Rattle.links.specs.Plans.{put_of}

abbrev pub cut_of : LinkEnd → Edit
cut_of t = Cut t.end t.value

-- the edit that puts an object at a position of an end; none for a value that is no object
abbrev pub new_put : Reading → End → ℕ → Value → Option Edit
new_put r e i (value.Object o) = Some (put_of e i o (shape_at r e).opposite (shape_at r e).containing)
new_put r e i v = None

-- the edit that a set, an addition or a move makes after its cuts: a set and an addition make a link, and a move moves a value in a list.
-- None if no link is made or moved. A set puts its object at the index 0, since the cuts have already taken the old value out
abbrev pub made_edit : Reading → Change → Option Edit
made_edit r (At e (Set v)) = if is_plain_set r e v then None else new_put r e 0 v
made_edit r (At e (Add v i)) = if is_plain_add r e v then None else new_put r e (position_for r e i) v
made_edit r (At e (Move to from)) = if (shape_at r e).is_reference then Some (Shift e to from) else None
made_edit r _ = None

-- the edit that moves a new link at its opposite end, which is the end of the counterpart c. A new link is put after the last value there.
-- The edit moves the link from this last index to the index that the counterpart had
abbrev pub back_edit : Reading → Counterpart → Edit
back_edit r c = Shift c.end c.index (length (r.values c.end) - 1)

-- the edits that put a new link in the place of a proxy and of its counterpart
abbrev pub joining_edits : Reading → End → ℕ → ResolvedProxy → List Edit
joining_edits r e i x = option_to_list (new_put r e i (value.Object x.object)) ++ option_to_list (option_map (back_edit r) x.counterpart)

-- the edits of one proxy when all proxies are resolved: they cut the links of the proxy and of its counterpart, and put the new link in
-- their place
abbrev pub edits_of : Resolution → List Edit
edits_of x =
    let e = end_of x.site in
    map cut_of (link_ends_joined x.reads e x.site.index x.target) ++ joining_edits x.reads e x.site.index x.target

-- the edits after the cuts: a resolve of one proxy puts the new link in the place of the proxy and of its counterpart, a resolve of all
-- proxies resolves the proxies one after another, a load makes all links of its document, and any other change makes the one edit of
-- `made_edit`, or none
abbrev pub made_edits : Reading → Change → List Edit
made_edits r (At e (Resolve i)) = option_map_or (joining_edits r e i) (target_at r e i) []
made_edits r ResolveAll = flat_map edits_of (resolutions r (sites r))
made_edits r (Load k doc) = load_edits r.metamodel r.next k doc
made_edits r c = option_to_list (made_edit r c)

abbrev pub link_edits : Reading → Change → List Edit
link_edits r c = map cut_of (cut_link_ends r c) ++ made_edits r c
