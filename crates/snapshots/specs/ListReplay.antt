-- The values of an end after a notification, and the set flag of the end after a notification. There are two definitions, since two
-- functions of the code compute the values and the flag.
use Rattle.std.specs.Prelude.{ℕ, ℤ, pos, negsuc, Bool, true, false, nat_lt, List, [], ◌∷◌, Option, Some, None, option_map, if◌then◌else◌}
use Rattle.mm_types.specs.declared.value.Value.{Value}
use Rattle.notice_chain.specs.Replay.{list_after_add, list_after_move_notice, list_after_remove, list_after_resolve}
use Rattle.notice_chain.specs.declared.kind.NoticeKind.{NoticeKind}
use Rattle.notice_chain.specs.declared.kind.NoticeKind.TheVariants as kind
use Rattle.notice_chain.specs.declared.notice.Notice.{Notice}

-- a position as an index below n; none if the position is negative or is not below n
abbrev pub index_within : ℤ → ℕ → Option ℕ
index_within (pos k) n = if nat_lt k n then Some k else None
index_within (negsuc k) n = None

-- the values of an end after the notification n, which is of the given kind; vs are the values before
abbrev pub values_after_notice : NoticeKind → Notice → List Value → List Value
values_after_notice kind.Set n vs = n.new_value ∷ []
values_after_notice kind.Unset n vs = n.new_value ∷ []
values_after_notice kind.Add n vs = list_after_add vs n.position n.new_value
values_after_notice kind.Remove n vs = list_after_remove vs n.position
values_after_notice kind.Move n vs = list_after_move_notice n.old_value n.position vs
values_after_notice (kind.RemovingAdapter a) n vs = vs
values_after_notice kind.Resolve n vs = list_after_resolve vs n.position n.new_value

-- the set flag of an end after a notification of the given kind; none if the end has no flag. SET turns the flag on, UNSET turns it off,
-- and any other kind leaves it as it is
abbrev pub flag_after_notice : NoticeKind → Option Bool → Option Bool
flag_after_notice kind.Set flag = option_map (λ b. true) flag
flag_after_notice kind.Unset flag = option_map (λ b. false) flag
flag_after_notice kind.Add flag = flag
flag_after_notice kind.Remove flag = flag
flag_after_notice kind.Move flag = flag
flag_after_notice (kind.RemovingAdapter a) flag = flag
flag_after_notice kind.Resolve flag = flag
