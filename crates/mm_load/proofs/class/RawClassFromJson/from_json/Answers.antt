use Rattle.serde_json.specs.View.{view}
use Rattle.mm_load.specs.Layout.{class, class_fields}
use Rattle.json_fields.proofs.FieldLemmas.{opened}
use Rattle.mm_load.proofs.class.RawClassFromJson.from_json.Goals as goal

pub returns-in-Some : goal.returns-in-Some
unfolding class
returns-in-Some c = opened class_fields _ _ (view c.args.value) c.in-Some.ensures c.class_of.ensures
