-- The machine value of a record: a struct of no bytes, which stands for any events that a method names.
use Rattle.std.proofs.Common.{List, [], ◌∷◌, refl}
use seplogic.Ra.Ura.{Ura}
use mir.Val.{Val, vnil, vstruct}
use types.Kit.{Goal, Item, Step, ‵}
use types.Logic.{Logic}
use denote.Shadow.{pure_i}
use Rattle.file_disk.specs.Events.{Event}
use Rattle.file_disk.specs.contracts.record.Record.{the_row as R}

abbrev pub no_bytes : Val
no_bytes = vstruct vnil

-- a record of these events is made of nothing
pub made : {M : Type 1} {𝓤 : Ura M} {𝓛 : Logic 𝓤} {K : Type 0} {Γ : List (Item 𝓤)} {G : Goal 𝓤 𝓛.H} (events : List Event) → K
    → Step K 𝓛 (‵ (R.own_val (record { events = events }) (no_bytes ∷ [])) ∷ Γ) G Γ G
made events t = pure_i t (R.own_val (record { events = events }) (no_bytes ∷ [])) ((λ vss. (tt, tt)), tt) ((tt, (refl, tt)), tt)
