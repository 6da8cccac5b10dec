use Rattle.std.proofs.Common.{◌≡◌, ◌≤◌, length, None, sym, ap, ◌∙◌, subst, arith}
use Rattle.mm_types.specs.Resolved.{Metamodel}
use Rattle.mm_types.specs.Shapes.{shape}
use Rattle.links.specs.Links.{Links, end, proxy_at}
use Rattle.models.proofs.PlaceLemmas.{proxy_in-is}
use Rattle.models.proofs.model_ref.ModelRef.proxy_start.Goals as goal

pub overflow_cast-result : goal.overflow_cast-result
overflow_cast-result g c =
    let few : length (end c.args.self.now.links c.args.end) ≤ 1000000 = c.lemma_is_legal.ensures.links.set.placed.few c.args.end in
    rw (c.min.ensures, c.len.ensures, c.store-store.ensures.links) (omega (arith, few))

pub returns-then-is_reference : goal.returns-then-is_reference
returns-then-is_reference g c = λ k lt.
    let reference = sym (ap (λ (m : Metamodel). (shape m c.args.end.feature).is_reference) c.meta.ensures) ∙ sym c.is_reference.ensures ∙ c.if-is_reference.true in
    sym (proxy_in-is c.args.self.now c.args.end k reference)
    ∙ subst (λ (s : Links). proxy_at s c.args.end k ≡ None) c.store-store.ensures.links (c.proxy_start.ensures k (omega (arith, lt, c.min.ensures)))
