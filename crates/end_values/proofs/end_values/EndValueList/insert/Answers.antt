use Rattle.std.proofs.Common.{◌∙◌, Bool, ap, subst, sym}
use Rattle.end_values.specs.declared.end_values.Layout.{Layout}
use Rattle.end_values.specs.EndValueList.{end_values_of}
use Rattle.end_values.specs.EndValues.{CanHave, EndValues}
use Rattle.end_values.proofs.end_values.EndValueList.insert.Goals as goal

pub into_object-requires : goal.into_object-requires
into_object-requires c =
    subst (λ (b : Bool). CanHave b c.args.value) (sym (ap (λ (t : EndValues). t.mixed) c.self.view_is) ∙ ap (λ (l : Layout). (end_values_of l).mixed) c.in-Objects.is) c.requires.can
