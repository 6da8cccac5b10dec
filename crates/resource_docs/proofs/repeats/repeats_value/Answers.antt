use Rattle.std.proofs.Common.{◌∙◌, sym}
use Rattle.resource_docs.proofs.RepeatLemmas.{few_repeat_none, is_absent, is_there, keys_more, repeats_found, repeats_none, rising_none}
use Rattle.resource_docs.proofs.repeats.repeats_value.Goals as goal

pub returns-then-values-lt2 : goal.returns-then-values-lt2
returns-then-values-lt2 c = few_repeat_none c.args.values.now c.if-values-lt2.true

pub returns-then-are_rising : goal.returns-then-are_rising
returns-then-are_rising c = sym (rising_none 0 c.args.values.now (sym c.are_rising.ensures ∙ c.if-are_rising.true))

pub returns-then-not-branch : goal.returns-then-not-branch
returns-then-not-branch c =
    sym (repeats_found c.args.values.now c.values.value-index c.value-item.result c.key_of.result c.values.keys.keys c.values-test.true c.value-item.is c.key_of.ensures c.values.invariant.keys
    (is_there c.in_ok-insert.field-0 _ c.in_ok-insert.ensures.added c.if-not-branch.true))

pub values-preserved : goal.values-preserved
values-preserved c =
    let absent = is_absent c.in_ok-insert.field-0 _ c.in_ok-insert.ensures.added c.if-not-branch.false in
    record {
      keys = keys_more c.args.values.now c.values.value-index c.value-item.result c.key_of.result c.values.keys.keys c.insert.new.self.keys c.values-test.true c.value-item.is c.key_of.ensures c.values.invariant.keys absent c.in_ok-insert.ensures.keys;
      none = repeats_none c.args.values.now c.values.value-index c.value-item.result c.key_of.result c.values.keys.keys c.values-test.true c.value-item.is c.key_of.ensures c.values.invariant.keys absent c.values.invariant.none;
    }
