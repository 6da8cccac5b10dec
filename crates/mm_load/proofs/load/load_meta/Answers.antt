use Rattle.std.proofs.Common.{◌≡◌, ◌∙◌, ap, false, sym, true}
use Rattle.mm_load.specs.Loaded.{metamodel_of_layout}
use Rattle.mm_load.proofs.LoadLemmas.{json, loads_equal, not_json}
use Rattle.mm_load.proofs.load.load_meta.Goals as goal

pub returns-in-Err-2 : goal.returns-in-Err-2
returns-in-Err-2 c = not_json c.args.bytes.now (c.in-Err.ensures.err (λ m. let e : false ≡ true = c.if-is_memory.ensures.1 m in cc))

pub returns-in-Ok-from_json : goal.returns-in-Ok-from_json
returns-in-Ok-from_json c =
    loads_equal _ _ (json c.args.bytes.now _ c.in-Ok.ensures.ok.0 c.in-Ok.ensures.ok.1 ∙ (ap metamodel_of_layout c.in-Ok-from_json.ensures ∙ sym c.into_raw.ensures))

pub returns-in-Err-Layout : goal.returns-in-Err-Layout
returns-in-Err-Layout c =
    json c.args.bytes.now _ c.in-Ok.ensures.ok.0 c.in-Ok.ensures.ok.1 ∙ ap metamodel_of_layout (rw c.in-Err-Layout.field-0-is at c.in-Err-Layout.ensures)
