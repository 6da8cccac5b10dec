use Rattle.std.proofs.Common.{◌∙◌, ap, option_map}
use Rattle.serde_json.specs.Find.{get_member}
use Rattle.serde_json.specs.View.{members_view, view}
use Rattle.serde_json.proofs.Views.{view-lookup}
use Rattle.json_fields.proofs.TakeLemmas.{kept, not_either}
use Rattle.json_fields.proofs.members.take.Goals as goal

pub returns-clause-value : goal.returns-clause-value
returns-clause-value c = ap (option_map view) c.remove.ensures.value ∙ view-lookup c.args.key.now c.args.members.now.entries

pub returns-clause-others : goal.returns-clause-others
returns-clause-others c = λ k h.
    ap (λ es. get_member k (members_view es)) c.remove.ensures.entries ∙ kept c.args.key.now k c.args.members.now.entries (not_either _ h)
