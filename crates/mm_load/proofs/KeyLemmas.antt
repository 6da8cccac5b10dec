-- Of equal keys of an object the last counts.
use Rattle.std.proofs.Common.{◌≡◌, List, ℕ, Option, Some, None, option_map, subst}
use Rattle.std.proofs.lemmas.Option.{none-some, same_Some}
use Rattle.json.specs.Json.{Json, member, no_members}
use Rattle.serde_json.specs.Data.{Data, Members, object, put}
use Rattle.serde_json.specs.Find.{get, get_member}
use Rattle.serde_json.specs.Read.{of_json, of_members}
use Rattle.serde_json.proofs.Views.{get_member-put}

put_last_counts : (key : List ℕ) (found : Option Data) (before all : Members) → option_map (λ d. put key d before) found ≡ Some all
    → get key (object all) ≡ found
put_last_counts key (Some d) before all is = subst (λ ms. get_member key ms ≡ Some d) (same_Some (put key d before) all is) (get_member-put key d before)
put_last_counts key None before all is = absurd (none-some all is)

pub last_counts : (key : List ℕ) (last : Json) (before all : Members) → of_members (member key last no_members) before ≡ Some all
    → get key (object all) ≡ of_json last
last_counts key last before all is = put_last_counts key (of_json last) before all is
