use Rattle.std.proofs.Common.{ℕ, List, ◌<◌, ◌≤◌, ap, subst, ◌∙◌}
use Rattle.std.specs.List.{list_all}
use Rattle.mm_types.specs.declared.numbers.ObjectNo.{ObjectNo}
use Rattle.models.specs.Model.{reading}
use Rattle.models.specs.Reading.{is_live, roots_end}
use Rattle.containment.proofs.ForestLemmas.{objects-end, objects-step}
use Rattle.fragment_paths.specs.Finding.{roots}
use Rattle.doc_writer.proofs.RootLemmas.{pushed-at, roots-live}
use Rattle.doc_writer.proofs.objects.roots.Goals as goal

pub positions-preserved : goal.positions-preserved
positions-preserved g c =
    let r = reading c.args.model.now in
    let vs = r.values (roots_end r c.args.resource) in
    let long = rw c.roots_end-end.ensures at c.len-index-end.ensures in
    let at = rw c.roots_end-end.ensures at c.object_in.ensures.object in
    objects-step vs c.positions.index c.positions.found.items c.push_some.new.out.items (roots r c.args.resource) (subst (λ (n : ℕ). c.positions.index < n) long c.positions-test.true)
    (pushed-at vs c.positions.index c.object_in.result c.positions.found.items c.push_some.new.out.items at c.in_ok-push_some.ensures) c.positions.invariant

pub returns-clause-all : goal.returns-clause-all
returns-clause-all g c =
    let r = reading c.args.model.now in
    let vs = r.values (roots_end r c.args.resource) in
    let long = rw c.roots_end-end.ensures at c.len-index-end.ensures in
    objects-end vs c.positions.index c.positions.found.items (roots r c.args.resource) (subst (λ (n : ℕ). n ≤ c.positions.index) long c.positions-test.false) c.positions.invariant

pub returns-clause-live : goal.returns-clause-live
returns-clause-live g c =
    let r = reading c.args.model.now in
    let vs = r.values (roots_end r c.args.resource) in
    let long = rw c.roots_end-end.ensures at c.len-index-end.ensures in
    let all = objects-end vs c.positions.index c.positions.found.items (roots r c.args.resource) (subst (λ (n : ℕ). n ≤ c.positions.index) long c.positions-test.false) c.positions.invariant in
    ap (λ (os : List ObjectNo). list_all (is_live r) os) all ∙ roots-live c.args.model.now c.args.resource c.lemma_is_legal.ensures
