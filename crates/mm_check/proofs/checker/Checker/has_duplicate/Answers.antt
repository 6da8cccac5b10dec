use Rattle.std.proofs.Common.{◌∙◌, ◌↔◌, sym}
use Rattle.std.specs.Prelude.{IsTrue}
use Rattle.std.proofs.lemmas.Result.{IfOk-weaker}
use Rattle.mm_types.specs.Clashes.{Clash}
use Rattle.mm_types.specs.Resolved.{graph_of}
use Rattle.mm_types.specs.WellFormed.{HasDuplicate, own_names}
use Rattle.mm_types.specs.declared.meta_fault.Place.TheVariants.{Class}
use Rattle.mm_check.proofs.Deciding.{no_class, only_clash}
use Rattle.mm_check.proofs.checker.Checker.has_duplicate.Goals as goal

pub returns-else-branch : goal.returns-else-branch
returns-else-branch c =
    let raw = c.args.self.now in
    rw c.in-Class.is
    (IfOk-weaker _ (λ b. IsTrue b ↔ Clash (graph_of raw.classes) (own_names raw) c.in-Class.c) (λ b. IsTrue b ↔ HasDuplicate raw (Class c.in-Class.c))
    (λ b h. only_clash raw c.in-Class.c c.in-Some-class_at.class.now b c.in-Some-class_at.ensures (sym c.in_ok-repeats_in_class-in-Some-class_at.ensures ∙ c.if-branch.false) h)
    c.has_clash.ensures)

pub returns-in-None-class_at : goal.returns-in-None-class_at
returns-in-None-class_at c = rw c.in-Class.is (no_class c.args.self.now c.in-Class.c c.in-None-class_at.ensures)
