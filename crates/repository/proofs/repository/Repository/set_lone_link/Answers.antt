use Rattle.std.proofs.Common.{[], ◌∙◌, sym}
use Rattle.handshake.specs.declared.change.Change.TheVariants.{At}
use Rattle.handshake.specs.declared.act.Act.TheVariants.{Set}
use Rattle.repository.specs.declared.reply.Answer.TheVariants as answer
use Rattle.repository.proofs.LonePutLemmas.{set-ready}
use Rattle.repository.proofs.repository.Repository.set_lone_link.Goals as goal

pub edit-requires : goal.edit-requires
edit-requires g c = record {
  ready = (
    [],
    At c.args.end (Set c.args.value.now),
    answer.Done,
    set-ready c.args.self.now c.model-model.result c.args.end c.args.value.now c.lone_set.result c.in_ok-put.put c.model-model.ensures (sym c.is_put_heard.ensures ∙ c.if-is_put_heard.false) (sym c.set_early_refusal.ensures ∙ c.in_default.is) c.lone_set.ensures.put c.in_ok-put.was
        c.in_ok-put.ensures.plan,
  );
}

pub returns : goal.returns
returns g c =
    c.edit.ensures [] (At c.args.end (Set c.args.value.now)) answer.Done
    (set-ready c.args.self.now c.model-model.result c.args.end c.args.value.now c.lone_set.result c.in_ok-put.put c.model-model.ensures (sym c.is_put_heard.ensures ∙ c.if-is_put_heard.false) (sym c.set_early_refusal.ensures ∙ c.in_default.is) c.lone_set.ensures.put c.in_ok-put.was
    c.in_ok-put.ensures.plan)
