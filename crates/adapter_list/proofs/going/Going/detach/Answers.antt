use Rattle.std.proofs.Common.{◌∷◌, [], ◌∙◌, List, ap, sym, subst, refl, arith, length, map, vec_len, vec_capacity}
use Rattle.mm_types.specs.declared.numbers.AdapterNo.{AdapterNo}
use Rattle.notice_chain.proofs.ReleasedLemmas.{all-stay}
use Rattle.notice_chain.specs.Listed.{HaveTargets, Listed}
use Rattle.notice_chain.specs.Released.{Spot, adapters_without_target, leaving_adapters, staying_adapters}
use Rattle.notice_chain.specs.View.{View}
use Rattle.notice_chain.specs.declared.notice.Notice.{Notice}
use Rattle.adapter_list.proofs.SomeLemmas.{few-leave, others-fewer, some-staying_adapters, some-there}
use Rattle.adapter_list.specs.Detached.{view_of, views_in}
use Rattle.adapter_list.proofs.going.Going.detach.Goals.{then-is_bare, else-is_bare}
use Rattle.adapter_list.proofs.going.Going.detach.Goals as goal

abbrev seen : List (AdapterNo × View) → List View
seen vs = map (λ v. v.1) vs

pub returns-in_err-notice-clause-others : goal.returns-in_err-notice-clause-others
returns-in_err-notice-clause-others g c =
    let same = c.in_err-notice.ensures.none refl in
    same ∙ sym (all-stay c.args.self.now c.requires.some).0 ∙ ap staying_adapters (sym same ∙ c.in_err-notice.ensures.others)

pub returns-in_err-notice-clause-released : goal.returns-in_err-notice-clause-released
returns-in_err-notice-clause-released g c =
    let same = c.in_err-notice.ensures.none refl in
    ap (views_in g.A.Adapter.heard) c.from_residual.ensures ∙ ap seen (sym (all-stay c.args.self.now c.requires.some).1 ∙ ap leaving_adapters (sym same ∙ c.in_err-notice.ensures.others))

pub hand_out_one-adapter-requires : goal.hand_out_one-adapter-requires
hand_out_one-adapter-requires g c =
    let s : Spot = (c.args.no, c.args.node) in
    let rs = c.args.self.now in
    let few = few-leave (s ∷ []) rs c.requires.some in
    let told : AdapterNo × Notice = (c.args.no, c.in_ok-notice.notice) in
    let there = some-there s told rs c.in_ok-notice.ensures.told in
    record { one = omega (arith, few, ap (λ (qs : List Listed). length (leaving_adapters qs)) c.in_ok-notice.ensures.others); room = (c.requires.room.0, omega (arith, there, c.requires.room.1)) }

pub returns-clause-others : goal.returns-clause-others
returns-clause-others g c =
    elim c.if-is_bare.branch [
      | then-is_bare w ↦ w.self-is ∙ w.hand_out_one-adapter.ensures.others ∙ ap staying_adapters c.in_ok-notice.ensures.others
      | else-is_bare w ↦ w.self-is ∙ sym (all-stay c.let_go.new.self (c.in_ok-notice.ensures.some w.if-is_bare.false c.requires.some)).0 ∙ ap staying_adapters c.in_ok-notice.ensures.others
    ]

pub returns-clause-released : goal.returns-clause-released
returns-clause-released g c =
    let heard = g.A.Adapter.heard in
    elim c.if-is_bare.branch [
      | then-is_bare w ↦ ap (view_of heard) w.adapter-is ∙ w.hand_out_one-adapter.ensures.released ∙ ap (λ (qs : List Listed). seen (leaving_adapters qs)) c.in_ok-notice.ensures.others
      | else-is_bare w ↦ ap (view_of heard) w.adapter-is ∙ ap seen (sym (all-stay c.let_go.new.self (c.in_ok-notice.ensures.some w.if-is_bare.false c.requires.some)).1 ∙ ap leaving_adapters c.in_ok-notice.ensures.others)
    ]

pub returns-clause-left : goal.returns-clause-left
returns-clause-left g c = subst HaveTargets (sym (returns-clause-others g c)) (some-staying_adapters (adapters_without_target (c.args.no, c.args.node) c.args.self.now))

pub returns-clause-room : goal.returns-clause-room
returns-clause-room g c =
    let s : Spot = (c.args.no, c.args.node) in
    let rs = c.args.self.now in
    let now = ap (λ (qs : List Listed). length qs) (returns-clause-others g c) in
    let few = others-fewer (s ∷ []) rs in
    elim c.if-is_bare.branch [
      | then-is_bare w ↦ (ap vec_len w.room-is ∙ w.hand_out_one-adapter.ensures.room.0, omega (arith, now, few, c.requires.room.1, ap vec_capacity w.room-is, w.hand_out_one-adapter.ensures.room.1))
      | else-is_bare w ↦ (ap vec_len w.room-is ∙ c.requires.room.0, omega (arith, now, few, c.requires.room.1, ap vec_capacity w.room-is))
    ]
