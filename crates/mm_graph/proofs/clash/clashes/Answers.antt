use Rattle.std.proofs.Common.{◌≡◌, ◌∙◌, ◌↔◌, [], ap, map}
use Rattle.std.specs.Prelude.{IsTrue}
use Rattle.std.proofs.lemmas.Result.{IfOk-weaker}
use Rattle.mm_types.specs.Clashes.{Clash}
use Rattle.mm_types.specs.Names.{repeats}
use Rattle.mm_graph.specs.Gathered.{gathered_names}
use Rattle.mm_graph.proofs.Clashing.{clash_is}
use Rattle.mm_graph.proofs.clash.clashes.Goals as goal

pub returns : goal.returns
returns c =
    let g = c.args.graph.now in
    let names = c.args.names.now in
    let found : map (λ n. n.now) c.as_slice-2.result.now ≡ gathered_names c.in_ok-chosen.chosen names =
    ap (map (λ n. n.now)) c.as_slice-2.ensures.value ∙ (c.in_ok-found.ensures ∙ ap (λ s. gathered_names s names) c.as_slice.ensures) in
    IfOk-weaker _ (λ b. b ≡ repeats [] (map (λ n. n.now) c.as_slice-2.result.now)) (λ b. IsTrue b ↔ Clash g names c.args.c)
    (λ b h. clash_is g names c.args.c c.in_ok-chosen.chosen b c.in_ok-chosen.ensures.set (h ∙ ap (repeats []) found))
    c.has_repeats.ensures
