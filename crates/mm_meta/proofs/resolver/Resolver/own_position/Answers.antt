use Rattle.std.proofs.Common.{◌∙◌, map}
use Rattle.mm_meta.specs.NameTable.{AreTablesOf}
use Rattle.mm_meta.proofs.ResolverLemmas.{own_at}
use Rattle.mm_meta.proofs.resolver.Resolver.own_position.Goals as goal

pub returns : goal.returns
returns c =
    let classes = c.self.inside.classes.now in
    let lists = map (λ k. map (λ f. f.name) k.features) classes in
    let tables : AreTablesOf c.as_slice.result.now lists = rw c.as_slice.ensures.value c.self.invariant.finds_own in
    rw (← c.self.view_is) (c.position_at.ensures lists tables ∙ own_at classes c.args.class c.args.name.now)
