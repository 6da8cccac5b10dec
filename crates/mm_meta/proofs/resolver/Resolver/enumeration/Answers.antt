use Rattle.std.proofs.Common.{◌∙◌, map}
use Rattle.std.specs.Str.{bytes_eq}
use Rattle.mm_meta.proofs.NameLemmas.{position-map}
use Rattle.mm_meta.proofs.resolver.Resolver.enumeration.Goals as goal

pub returns : goal.returns
returns c =
    rw (← c.self.view_is)
    (c.position.ensures (map (λ e. e.name) c.self.inside.enums.now) c.self.invariant.finds_enums
    ∙ position-map (λ n. bytes_eq n c.args.name.now) (λ e. e.name) c.self.inside.enums.now)
