use Rattle.std.proofs.Common.{List, ℕ, [], ◌∙◌, ap, append-nil, map}
use Rattle.serde_json.specs.View.{members_view}
use Rattle.json_fields.specs.Fields.{only_keys}
use Rattle.json_fields.proofs.FieldLemmas.{keys_among}
use Rattle.json_fields.proofs.members.has_only_keys.Goals as goal

pub returns : goal.returns
returns c =
    c.all_keys_among.ensures ∙ keys_among c.args.names.now [] c.args.members.now.entries
    ∙ ap (λ (names : List (List ℕ)). only_keys names (members_view c.args.members.now.entries)) (append-nil (map (λ n. n.now) c.args.names.now))
