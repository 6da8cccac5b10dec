use Rattle.std.proofs.Common.{◌∙◌}
use Rattle.first_program.proofs.ReloadLemmas.{loaded-again}
use Rattle.first_program.proofs.reload.load_again.Goals as goal

pub returns : goal.returns
returns g c = λ fresh one saved.
    loaded-again c.args.first.now c.args.second.now c.create_resource.new.self c.load.new.self c.resolve_all.new.self c.args.uri.now c.in_ok-text.text _ _ _ _
    (c.what_was_saved_is_had_again_in_any_order.ensures c.args.first.now) c.lemma_is_legal.ensures c.has_steady_texts.ensures saved one
    c.in_ok-text.ensures.reads c.in_ok-text.ensures.utf8 fresh c.in_ok-create_resource.ensures
    (c.as_bytes.ensures.value ∙ c.as_str.ensures) c.in_ok-load.ensures c.in_ok-resolve_all.ensures
