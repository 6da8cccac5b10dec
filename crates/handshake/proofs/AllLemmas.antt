-- Laws on each change: they hold for the change that resolves all proxies, since they hold for each of these, and for each other change.
use Rattle.std.proofs.Common.{ap, ◌∙◌, refl}
use Rattle.mm_types.specs.Ends.{Ends}
use Rattle.models.specs.Model.{Model, reading}
use Rattle.models.specs.Reading.{held_at}
use Rattle.handshake.specs.Laws.{ChainReplays, KeepsLegal}
use Rattle.proxies.specs.Proxies.{sites}
use Rattle.handshake.specs.FeatureChanges.{feature_changes}
use Rattle.handshake.specs.declared.change.Change.{Change}
use Rattle.handshake.specs.declared.change.Change.TheVariants.{ResolveAll}
use Rattle.handshake.proofs.ChainLemmas.{one-replays}
use Rattle.handshake.proofs.HappenedLemmas.{ends_after_changes-at}
use Rattle.handshake.proofs.LegalLemmas.{one-keeps-legal}
use Rattle.handshake.proofs.ReplayLemmas.{ends_after_notices-change_notices}
use Rattle.handshake.proofs.ResolveAllLemmas.{all-lead}

pub change-keeps-legal : (s : Model) (c : Change) → KeepsLegal s c
change-keeps-legal s ResolveAll legal early late read brought = (all-lead (sites (reading s)) s legal).legal
change-keeps-legal s c legal early late read brought = one-keeps-legal s c refl legal early late read brought

pub chain-replays : (s : Model) (c : Change) → ChainReplays s c
chain-replays s ResolveAll legal early late read d stays old =
    let m = s.metamodel in
    let r = reading s in
    let ts = feature_changes r ResolveAll in
    ap (λ (y : Ends). y d) (ends_after_notices-change_notices m (held_at r) ts) ∙ ends_after_changes-at m (held_at r) ts d ∙ (all-lead (sites r) s legal).replays d
chain-replays s c legal early late read d stays old = one-replays s c refl legal early late read d stays old
