use Rattle.std.proofs.Common.{◌∙◌, ◌<◌, ◌^◌, arith, map, sym}
use Rattle.mm_meta.specs.NameTable.{AreTablesOf}
use Rattle.mm_meta.specs.Resolver.{resolves}
use Rattle.mm_meta.proofs.ResolverLemmas.{literal_low, named_at}
use Rattle.mm_meta.proofs.resolver.Resolver.literal.Goals as goal

pub returns-in_err-index : goal.returns-in_err-index
returns-in_err-index c =
    let enums = c.self.inside.enums.now in
    let tables : AreTablesOf c.as_slice.result.now (map (λ e. e.literals) enums) = rw c.as_slice.ensures.value c.self.invariant.finds_literals in
    rw (← c.self.view_is) (c.from_residual.ensures ∙ (c.in_err-index.ensures (map (λ e. e.literals) enums) tables ∙ named_at (λ e. e.literals) enums c.args.e c.args.name.now))

pub overflow_cast-result : goal.overflow_cast-result
overflow_cast-result c =
    let enums = c.self.inside.enums.now in
    let tables : AreTablesOf c.as_slice.result.now (map (λ e. e.literals) enums) = rw c.as_slice.ensures.value c.self.invariant.finds_literals in
    let low : c.in_ok-index.index < 2 ^ 32 =
    literal_low (resolves c.self.inside) c.args.e c.args.name.now c.in_ok-index.index c.self.invariant.fits (sym (c.in_ok-index.ensures (map (λ e. e.literals) enums) tables ∙ named_at (λ e. e.literals) enums c.args.e c.args.name.now)) in
    omega arith

pub returns : goal.returns
returns c =
    let enums = c.self.inside.enums.now in
    let tables : AreTablesOf c.as_slice.result.now (map (λ e. e.literals) enums) = rw c.as_slice.ensures.value c.self.invariant.finds_literals in
    rw (← c.self.view_is) (c.in_ok-index.ensures (map (λ e. e.literals) enums) tables ∙ named_at (λ e. e.literals) enums c.args.e c.args.name.now)
