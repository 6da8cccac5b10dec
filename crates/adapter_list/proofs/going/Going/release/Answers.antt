use Rattle.std.proofs.Common.{◌≡◌, ◌≤◌, ◌+◌, ◌++◌, ◌∷◌, List, ap, sym, subst, refl, ◌∙◌, arith, append_assoc, drop, get_or, length, vec_len, vec_capacity}
use Rattle.std.proofs.lemmas.Bool.{false≢true}
use Rattle.std.proofs.lemmas.List.{append-nil, drop_all, drop_more}
use Rattle.notice_chain.specs.Listed.{HaveTargets, Listed}
use Rattle.notice_chain.specs.Released.{Released, Spot, adapters_without_targets, leaving_adapters, staying_adapters, told_of_all, told_of_leaving}
use Rattle.notice_chain.proofs.ReleasedLemmas.{all-stay, released_adapters-parts}
use Rattle.adapter_list.specs.Attached.{views_of}
use Rattle.adapter_list.proofs.SomeLemmas.{few-leave, others-fewer, some-staying_adapters}
use Rattle.adapter_list.proofs.going.Going.release.Goals.{in-Some+then-is_bare, in-Some+else-is_bare, in_default}
use Rattle.adapter_list.proofs.going.Going.release.Goals as goal

pub loop-spot-preserved : goal.loop-spot-preserved
loop-spot-preserved g c =
    let ss = c.args.spots.now in
    let i = c.loop-spot.spot-index in
    let s : Spot = get_or ss i _ in
    let rest = drop (i + 1) ss in
    let rs = c.loop-spot.self in
    let ts = c.loop-spot.told.items in
    let next : drop i ss ≡ s ∷ rest = drop_more ss i _ c.loop-spot-test.true in
    let others = c.let_go.ensures.others in
    let step : (c.match-let_go.told.items ≡ ts ++ told_of_leaving s rs) × ((vec_len c.match-let_go.told ≤ vec_len c.loop-spot.told + 1) × (vec_capacity c.match-let_go.told ≡ vec_capacity c.loop-spot.told)) = elim c.match-let_go.branch [
      | in-Some+then-is_bare w ↦ (ap (λ v. v.items) w.told-is ∙ w.push_reserved.ensures.items ∙ ap (λ ns. ts ++ ns) w.in-Some.ensures.told, (omega (arith, ap vec_len w.told-is, w.push_reserved.ensures.len), ap vec_capacity w.told-is ∙ w.push_reserved.ensures.capacity))
      | in-Some+else-is_bare w ↦ (ap (λ v. v.items) w.told-is ∙ w.push_reserved.ensures.items ∙ ap (λ ns. ts ++ ns) w.in-Some.ensures.told, (omega (arith, ap vec_len w.told-is, w.push_reserved.ensures.len), ap vec_capacity w.told-is ∙ w.push_reserved.ensures.capacity))
      | in_default w ↦ (ap (λ v. v.items) w.told-is ∙ sym (append-nil ts) ∙ ap (λ ns. ts ++ ns) w.in_default.ensures.told, (omega (arith, ap vec_len w.told-is), ap vec_capacity w.told-is))
    ] in
    record {
      told_room = omega (arith, ap (λ (qs : List Spot). length qs) next, step.1.0, step.1.1, c.loop-spot.invariant.told_room);
      others = ap (adapters_without_targets rest) others ∙ ap (λ (qs : List Spot). adapters_without_targets qs rs) (sym next) ∙ c.loop-spot.invariant.others;
      told = ap (λ ns. ns ++ told_of_all rest c.let_go.new.self) step.0 ∙ append_assoc ts (told_of_leaving s rs) (told_of_all rest c.let_go.new.self)
          ∙ ap (λ (qs : List Listed). ts ++ (told_of_leaving s rs ++ told_of_all rest qs)) others ∙ ap (λ (qs : List Spot). ts ++ told_of_all qs rs) (sym next) ∙ c.loop-spot.invariant.told;
      some = λ kept. elim c.match-let_go.branch [
        | in-Some+then-is_bare w ↦ absurd (false≢true (sym kept ∙ w.is_any_bare-is))
        | in-Some+else-is_bare w ↦ w.in-Some.ensures.some w.if-is_bare.false (c.loop-spot.invariant.some (sym w.is_any_bare-is ∙ kept))
        | in_default w ↦ subst HaveTargets (sym (w.in_default.ensures.none refl)) (c.loop-spot.invariant.some (sym w.is_any_bare-is ∙ kept))
      ];
    }

-- the adapters after all targets are removed
pub hand_out-requires : goal.hand_out-requires
hand_out-requires g c =
    let ss = c.args.spots.now in
    let last : c.loop-spot.self ≡ adapters_without_targets ss c.args.self.now = ap (λ (qs : List Spot). adapters_without_targets qs c.loop-spot.self) (sym (drop_all c.loop-spot.spot-index ss c.loop-spot-test.false)) ∙ c.loop-spot.invariant.others in
    let few = few-leave ss c.args.self.now c.requires.some in
    record { released_room = omega (arith, few, ap (λ (qs : List Listed). length (leaving_adapters qs)) last, c.requires.released_room) }

pub returns-then-is_any_bare-clause-others : goal.returns-then-is_any_bare-clause-others
returns-then-is_any_bare-clause-others g c =
    let ss = c.args.spots.now in
    let last : c.loop-spot.self ≡ adapters_without_targets ss c.args.self.now = ap (λ (qs : List Spot). adapters_without_targets qs c.loop-spot.self) (sym (drop_all c.loop-spot.spot-index ss c.loop-spot-test.false)) ∙ c.loop-spot.invariant.others in
    c.hand_out.ensures.others ∙ ap staying_adapters last ∙ ap (λ (x : Released). x.others) (sym (released_adapters-parts ss c.args.self.now c.requires.some))

pub returns-then-is_any_bare-clause-released : goal.returns-then-is_any_bare-clause-released
returns-then-is_any_bare-clause-released g c =
    let ss = c.args.spots.now in
    let out = views_of g.A.Adapter.heard c.args.released.now.items in
    let last : c.loop-spot.self ≡ adapters_without_targets ss c.args.self.now = ap (λ (qs : List Spot). adapters_without_targets qs c.loop-spot.self) (sym (drop_all c.loop-spot.spot-index ss c.loop-spot-test.false)) ∙ c.loop-spot.invariant.others in
    c.hand_out.ensures.released ∙ ap (λ (qs : List Listed). out ++ leaving_adapters qs) last ∙ ap (λ (x : Released). out ++ x.views) (sym (released_adapters-parts ss c.args.self.now c.requires.some))

pub returns-then-is_any_bare-clause-left : goal.returns-then-is_any_bare-clause-left
returns-then-is_any_bare-clause-left g c = subst HaveTargets (sym c.hand_out.ensures.others) (some-staying_adapters c.loop-spot.self)

pub returns-then-is_any_bare-clause-fewer : goal.returns-then-is_any_bare-clause-fewer
returns-then-is_any_bare-clause-fewer g c =
    let ss = c.args.spots.now in
    let last : c.loop-spot.self ≡ adapters_without_targets ss c.args.self.now = ap (λ (qs : List Spot). adapters_without_targets qs c.loop-spot.self) (sym (drop_all c.loop-spot.spot-index ss c.loop-spot-test.false)) ∙ c.loop-spot.invariant.others in
    let few = others-fewer ss c.args.self.now in
    omega (arith, few, ap (λ (qs : List Listed). length qs) (c.hand_out.ensures.others ∙ ap staying_adapters last))

pub returns-else-is_any_bare-clause-others : goal.returns-else-is_any_bare-clause-others
returns-else-is_any_bare-clause-others g c =
    let ss = c.args.spots.now in
    let last : c.loop-spot.self ≡ adapters_without_targets ss c.args.self.now = ap (λ (qs : List Spot). adapters_without_targets qs c.loop-spot.self) (sym (drop_all c.loop-spot.spot-index ss c.loop-spot-test.false)) ∙ c.loop-spot.invariant.others in
    sym (all-stay c.loop-spot.self (c.loop-spot.invariant.some c.if-is_any_bare.false)).0 ∙ ap staying_adapters last ∙ ap (λ (x : Released). x.others) (sym (released_adapters-parts ss c.args.self.now c.requires.some))

pub returns-else-is_any_bare-clause-released : goal.returns-else-is_any_bare-clause-released
returns-else-is_any_bare-clause-released g c =
    let ss = c.args.spots.now in
    let out = views_of g.A.Adapter.heard c.args.released.now.items in
    let last : c.loop-spot.self ≡ adapters_without_targets ss c.args.self.now = ap (λ (qs : List Spot). adapters_without_targets qs c.loop-spot.self) (sym (drop_all c.loop-spot.spot-index ss c.loop-spot-test.false)) ∙ c.loop-spot.invariant.others in
    sym (append-nil out) ∙ ap (λ vs. out ++ vs) (sym (all-stay c.loop-spot.self (c.loop-spot.invariant.some c.if-is_any_bare.false)).1 ∙ ap leaving_adapters last ∙ ap (λ (x : Released). x.views) (sym (released_adapters-parts ss c.args.self.now c.requires.some)))

pub returns-else-is_any_bare-clause-fewer : goal.returns-else-is_any_bare-clause-fewer
returns-else-is_any_bare-clause-fewer g c =
    let ss = c.args.spots.now in
    let last : c.loop-spot.self ≡ adapters_without_targets ss c.args.self.now = ap (λ (qs : List Spot). adapters_without_targets qs c.loop-spot.self) (sym (drop_all c.loop-spot.spot-index ss c.loop-spot-test.false)) ∙ c.loop-spot.invariant.others in
    let few = others-fewer ss c.args.self.now in
    omega (arith, few, ap (λ (qs : List Listed). length qs) (sym (all-stay c.loop-spot.self (c.loop-spot.invariant.some c.if-is_any_bare.false)).0 ∙ ap staying_adapters last))
