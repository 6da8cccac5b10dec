use Rattle.std.proofs.Common.{[], ◌∙◌, sym, true}
use Rattle.handshake.specs.declared.change.Change.TheVariants.{At}
use Rattle.handshake.specs.declared.act.Act.TheVariants.{Add}
use Rattle.repository.specs.declared.reply.Answer.TheVariants as answer
use Rattle.repository.proofs.LonePutLemmas.{add-ready}
use Rattle.repository.proofs.repository.Repository.add_lone_link.Goals as goal

pub edit-requires : goal.edit-requires
edit-requires g c = record {
  ready = (
    [],
    At c.args.end (Add c.args.value.now c.args.index),
    answer.Flag true,
    add-ready c.args.self.now c.model-model.result c.args.end c.args.value.now c.args.index c.lone_add.result c.in_ok-put.put c.model-model.ensures (sym c.is_put_heard.ensures ∙ c.if-is_put_heard.false) (sym c.list_early_refusal.ensures ∙ c.in_default.is) c.lone_add.ensures.put c.in_ok-put.was
        c.in_ok-put.ensures.plan,
  );
}

pub returns : goal.returns
returns g c =
    c.edit.ensures [] (At c.args.end (Add c.args.value.now c.args.index)) (answer.Flag true)
    (add-ready c.args.self.now c.model-model.result c.args.end c.args.value.now c.args.index c.lone_add.result c.in_ok-put.put c.model-model.ensures (sym c.is_put_heard.ensures ∙ c.if-is_put_heard.false) (sym c.list_early_refusal.ensures ∙ c.in_default.is) c.lone_add.ensures.put c.in_ok-put.was
    c.in_ok-put.ensures.plan)
