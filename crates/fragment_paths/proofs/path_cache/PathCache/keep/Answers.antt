use Rattle.std.proofs.Common.{◌≡◌, false, sym, subst}
use Rattle.fragment_paths.specs.Kept.{Kept, is_full_for}
use Rattle.fragment_paths.proofs.KeptLemmas.{room-made}
use Rattle.fragment_paths.proofs.path_cache.PathCache.keep.Goals as goal

pub put-requires : goal.put-requires
put-requires c = subst (λ (m : Kept). is_full_for m c.args.object ≡ false) (sym c.make_room.ensures) (room-made _ c.args.object)
