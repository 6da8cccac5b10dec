use Rattle.std.proofs.Common.{[], ◌∷◌, refl}
use Rattle.std.proofs.raw_atomic.Walks.{proved}
use mir.Syntax.{named}
use contract.Running.{tables}
use types.Kit.{raw, ‵, ◌⊛◌, ◌$◌, ◌∵◌, !, done, keep, move, qed, split, suffices}
use types.Part.{agg}
use types.Run.{enter, no_more, returns}
use types.ByLocal.{alloc_all, free_all, look_at, pass_all, sets}
use denote.Exit.{yes}
use denote.RattleType.{owns}
use denote.Ref.{shr_Tells, shr_vals}
use denote.Signature.{named_lft, plain, types_at}
use denote.Triple.Entry.{alive}
use denote.Triple.Walked.{Goes-none_ref, Stays, ends_at, says, stay_none_ref, walk_of}
use Rattle.file_disk.specs.Calls.{event_of}
use Rattle.file_disk.specs.contracts.call.Call as call
use Rattle.file_disk.specs.contracts.record.Record.{the_row as R}
use Rattle.file_disk.specs.contracts.record.Record.with as f
use Rattle.file_disk.proofs.RecordValues.{made, no_bytes}
use Rattle.file_disk.proofs.record.Record.with.Code as code
use Rattle.file_disk.proofs.record.Record.with.Statement.{statement}

abbrev stayed : Stays f.ended.signature.params f.ended.kept
stayed = (stay_none_ref (0 ∷ []) tt (plain (λ _. R)) yes, (stay_none_ref (1 ∷ []) tt (plain (λ κs. call.the_row (named_lft 3 2 tt κs))) yes, tt))

pub with_spec : {M : Type 1} → statement M
with_spec 𝓤 𝓛 𝓜 𝓡 wired =
    let c = f.clauses 𝓛 𝓜.mem 𝓡.returns in
    let W = walk_of 𝓛 f.ended stayed c in
    let 𝓣 = tables 𝓤 𝓛.H 𝓜 𝓡 𝓡.env in
    proved 𝓛 f.ended stayed c 𝓜 𝓡
    (Goes-none_ref 𝓛 3 (0 ∷ []) tt (plain (λ _. R)) yes, (Goes-none_ref 𝓛 3 (1 ∷ []) tt (plain (λ κs. call.the_row (named_lft 3 2 tt κs))) yes, tt))
    f.Key.name code.function (code.unfolded 𝓤 𝓛.H 𝓜 𝓡 wired)
    (λ κs. (shr_vals, (shr_vals, tt)))
    (λ κs. (shr_Tells (named 0) κs.0 R, (shr_Tells (named 1) κs.1.0 (call.the_row (named_lft 3 2 tt κs)), tt)))
    (λ κs qs bounds a g are.
    let y : W.Ghost = ((κs, qs, bounds, a, (shr_vals a.0, (shr_vals a.1.0, tt))), g) in
    let events = event_of a.1.0.now ∷ a.0.now.events in
    qed 𝓛 ((raw (alive 𝓛 f.signature κs qs) ⊛ ‵ (owns (types_at f.signature.params κs) a (shr_vals a.0, (shr_vals a.1.0, tt)))) ∷ raw ((c κs a).requires g) ∷ []) ∵
    keep ! (0 ∷ []) $ split ! $
    enter ! 𝓣.C 𝓣.Λ code.function _ _ $ alloc_all ! (λ l. pass_all ! refl ((tt, tt), ((tt, tt), tt)) $
    sets ! (agg ! (no_more !)) refl (tt, tt) $
    returns ! (look_at ! 0 refl) $ free_all ! refl $
    suffices ! _ (ends_at 𝓛 f.ended stayed c y no_bytes (record { events = events }) (tt, (tt, tt)) (tt, (tt, tt))) $ says ! refl $
    made events ! $ move ! (1 ∷ 2 ∷ 0 ∷ []) $ done !))
