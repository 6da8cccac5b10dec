-- Most of what the contracts and the laws of a repository cite: its state, the step of a command, runs of several commands, replies with
-- views in place of adapters, what an adapter was notified of, replays of notifications, and what reloading brings back.
pub use Rattle.doc_writer.specs.Saved.{IsReadAs}
pub use Rattle.models.specs.Legal as models
pub use Rattle.models.specs.Model.{Model, model_of, reading}
pub use Rattle.models.specs.Reading.{Reading, has_resource}
pub use Rattle.models.specs.Steady.{HasSteadyTexts}
pub use Rattle.notice_chain.specs.Listed.{Listed, adapter, hears, told_list}
pub use Rattle.notice_chain.specs.Released.{Released, released_adapters, removing_notice}
pub use Rattle.notice_chain.specs.View.{View, hear, hear_all}
pub use Rattle.reloading.specs.Alike.{Alike}
pub use Rattle.reloading.specs.Between.{Between}
pub use Rattle.reloading.specs.Orders.{Fill, IsOrder, IsSaved, Make, Task}
pub use Rattle.reloading.specs.Proxies.{HasNoProxy}
pub use Rattle.mmrepo_lib.specs.Enough.{AllAlong, AreEnough, ChainReplays, ClosedKeepsEnough, DetachedKeepsEnough, HasDeepTarget, HasEachNode, IsAtOrBelow, KeepsEnough, NoticesAreEnough, OfWatched, ToldIsEnough}
pub use Rattle.mmrepo_lib.specs.Heard.{HearsItsReply, handed_out, handed_out_by, told_by, told_by_all, told_to, view_after}
pub use Rattle.repository.specs.Laws.{KeepsLegal}
pub use Rattle.repository.specs.Refusals.{chain, refusal}
pub use Rattle.mmrepo_lib.specs.Reload.{AllDone, AreLoads, AreResolves, AreTexts, IsAllResolved, IsHadAgain, IsReloaded, LoadsGiveBetween, OfSaved, ReloadsInAnyOrder, ResolvesAll, ResolvesBetween, commands, reloaded_state}
pub use Rattle.repository.specs.Run.{AllExecuted, Executed, IsRun, Ran, change_outcome, read_outcome, run}
pub use Rattle.repository.specs.State.{IsLegal, State, empty_state, reads}
pub use Rattle.repository.specs.Step.{Stepped, adapters_at_close, refusal_of, step}
pub use Rattle.repository.specs.declared.reply.Answer.{Answer}
pub use Rattle.repository.specs.declared.reply.Failure.{Failure}
pub use Rattle.repository.specs.declared.reply.Reply.{Reply}
pub use Rattle.repository.specs.Views.{Outcome, brought_adapter, changed_view, command_view, outcome_view}
pub use Rattle.snapshots.specs.Replayed.{replayed_notices, state_at}
pub use Rattle.snapshots.specs.Snapshots.{node_state, snapshot_of}
