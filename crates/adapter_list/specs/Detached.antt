-- The result of a call that takes one target from an adapter: the last notification from that target, and the adapter itself if it has no
-- target left.
use Rattle.std.specs.Prelude.{Bool, List, [], ◌∷◌, Option, None, Some}
use Rattle.mm_types.specs.declared.numbers.AdapterNo.{AdapterNo}
use Rattle.notice_chain.specs.View.{View}
use Rattle.notice_chain.specs.declared.notice.Notice.{Notice}
use Rattle.adapter_list.specs.declared.detached.Detached.{Detached}

-- the result of `Going::let_go` as a list: the number of the adapter, with its last notification from the target that was taken away; empty
-- if no target was taken away
abbrev pub last_told : AdapterNo → Option (Notice × Bool) → List (AdapterNo × Notice)
last_told number None = []
last_told number (Some r) = (number, r.0) ∷ []

module _ {A : Type 0} where
  abbrev pub told_in : AdapterNo → Option (Detached A) → List (AdapterNo × Notice)
  told_in number None = []
  told_in number (Some d) = (number, d.notice) ∷ []

  -- the view of the adapter that is given back, if there is one
  abbrev pub view_of : (A → View) → Option A → List View
  view_of heard None = []
  view_of heard (Some a) = heard a ∷ []

  abbrev pub views_in : (A → View) → Option (Detached A) → List View
  views_in heard None = []
  views_in heard (Some d) = view_of heard d.adapter
