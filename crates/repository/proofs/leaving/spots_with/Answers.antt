use Rattle.std.proofs.Common.{◌≡◌, ◌++◌, ℕ, List, [], ap, get_or, slice_get, sym, ◌∙◌}
use Rattle.std.specs.Option.{option_map_or}
use Rattle.std.specs.List.{flat_map}
use Rattle.std.proofs.lemmas.List.{append-nil}
use Rattle.adapter_list.specs.Hearing.{touched_indexes}
use Rattle.notice_chain.specs.Listed.{Listed}
use Rattle.notice_chain.specs.Released.{Spot, is_gone_at, spots_of}
use Rattle.removal.specs.Ranks.{is_in}
use Rattle.repository.proofs.LeavingLemmas.{gone-spots, spots-end, spots-more, spots-nowhere, spots-there}
use Rattle.repository.proofs.leaving.spots_with.Goals.{in-Some+in_ok-add_gone, in_default}
use Rattle.repository.proofs.leaving.spots_with.Goals as goal

pub loop-ordinal-preserved : goal.loop-ordinal-preserved
loop-ordinal-preserved g c =
    let ks : List ℕ = c.deref-ordinal-items.result.now in
    let rs : List Listed = c.args.adapters.now.0 in
    let f : ℕ → List Spot = λ k. option_map_or (spots_of (is_gone_at (is_in c.args.removal.now.numbers))) (slice_get rs k) [] in
    let i : ℕ = c.loop-ordinal.ordinal-index in
    let made : c.match-at.spots.items ≡ c.loop-ordinal.spots.items ++ f (get_or ks i 0) = elim c.match-at.branch [
      | in-Some+in_ok-add_gone w ↦ ap (λ v. v.items) w.spots-is ∙ w.in_ok-add_gone.ensures ∙ ap (λ ss. c.loop-ordinal.spots.items ++ ss) (sym (spots-there (is_in c.args.removal.now.numbers) w.in-Some.no w.in-Some.targets.now.items (slice_get rs (get_or ks i 0)) w.in-Some.ensures))
      | in_default w ↦ ap (λ v. v.items) w.spots-is ∙ sym (append-nil c.loop-ordinal.spots.items) ∙ ap (λ ss. c.loop-ordinal.spots.items ++ ss) (sym (spots-nowhere (is_in c.args.removal.now.numbers) (slice_get rs (get_or ks i 0)) w.in_default.ensures))
    ] in
    spots-more f ks i c.loop-ordinal.spots.items c.match-at.spots.items (flat_map f ks) c.loop-ordinal-test.true made c.loop-ordinal.invariant

pub returns : goal.returns
returns g c =
    let ks : List ℕ = c.deref-ordinal-items.result.now in
    let rs : List Listed = c.args.adapters.now.0 in
    let f : ℕ → List Spot = λ k. option_map_or (spots_of (is_gone_at (is_in c.args.removal.now.numbers))) (slice_get rs k) [] in
    spots-end f ks c.loop-ordinal.ordinal-index c.loop-ordinal.spots.items (flat_map f ks) c.loop-ordinal-test.false c.loop-ordinal.invariant
    ∙ ap (flat_map f) (c.deref-ordinal-items.ensures.value ∙ c.in_ok-places.ensures ∙ ap (λ os. touched_indexes os rs) c.deref.ensures.value) ∙ gone-spots (c.requires.0) c.args.removal.now rs c.requires.1
