use Rattle.std.proofs.Common.{◌∙◌, length, nat_lt, ap, sym}
use Rattle.repository.specs.State.{State}
use Rattle.repository.proofs.AdapterLemmas.{nobody-hears}
use Rattle.repository.proofs.repository.Repository.has_adapters.Goals as goal

pub returns : goal.returns
returns g c = λ other up ns. nobody-hears up ns c.args.self.now.adapters (sym (ap (nat_lt 0) c.len.ensures ∙ ap (λ (t : State). nat_lt 0 (length t.adapters)) c.self.view_is) ∙ other)
