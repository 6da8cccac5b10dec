use Rattle.std.proofs.Common.{◌≡◌, ◌≤◌, ◌<◌, ◌+◌, ◌-◌, ◌++◌, ◌∷◌, [], true, ap, sym, ◌∙◌, refl, arith, append_assoc, length, length-append, filter, le-leb}
use Rattle.std.proofs.lemmas.Grind.{common_steps}
use Rattle.std.proofs.lemmas.List.{map-append, take_all}
use Rattle.mm_types.specs.declared.numbers.AdapterNo.{AdapterNo}
use Rattle.notice_chain.specs.Released.{leaving_adapters}
use Rattle.adapter_list.specs.Attached.{listed_adapters, views_of}
use Rattle.adapter_list.proofs.SplitLemmas.{bare, front-taken, has, leaving-gone, leaving-kept, leaving_of, turn, turn-all, turn-gone, turn-kept}
use Rattle.adapter_list.proofs.going.split.Goals as goal

pub loop-left-preserved : goal.loop-left-preserved
loop-left-preserved g c =
    let heard = g.A.Adapter.heard in
    let one = c.unwrap-one.result in
    let rest = c.pop_front.new.self.items in
    let front = front-taken c.loop-left.waiting.items rest c.pop_front.result one c.loop-left.left c.pop_front.ensures.items c.unwrap-one.ensures (omega (arith, c.loop-left-test.true)) in
    let k = c.loop-left.left - 1 in
    let some : 0 < length one.targets.items = grind (arith, common_steps) in
    let kept : has heard one ≡ true = le-leb _ _ some in
    let now : c.push_back_reserved.new.self.items ≡ rest ++ one ∷ [] = c.push_back_reserved.ensures.items in
    let few : k ≤ length rest = omega (arith, c.loop-left.invariant.many, ap (λ xs. length xs) front.first, front.next) in
    let same : leaving_of heard k c.push_back_reserved.new.self.items ≡ leaving_of heard c.loop-left.left c.loop-left.waiting.items = ap (leaving_of heard k) now ∙ sym (leaving-kept heard _ rest one _ front few kept) in
    let more : length c.push_back_reserved.new.self.items ≡ length rest + 1 = ap (λ xs. length xs) now ∙ length-append rest (one ∷ []) in
    record {
      many = omega (arith, few, more);
      room = omega (arith, c.loop-left.invariant.room, ap (λ vs. length vs) same);
      same_room = c.loop-left.invariant.same_room;
      stay = ap (turn (has heard) k) now ∙ turn-kept (has heard) _ rest one _ front kept ∙ c.loop-left.invariant.stay;
      released = ap (λ vs. views_of heard c.loop-left.released.items ++ vs) same ∙ c.loop-left.invariant.released;
    }

pub push_reserved-requires : goal.push_reserved-requires
push_reserved-requires g c =
    let one = c.unwrap-one.result in
    let front = front-taken c.loop-left.waiting.items c.pop_front.new.self.items c.pop_front.result one c.loop-left.left c.pop_front.ensures.items c.unwrap-one.ensures (omega (arith, c.loop-left-test.true)) in
    let none : length one.targets.items ≤ 0 = grind (arith, common_steps) in
    omega (arith, c.loop-left.invariant.room, ap (λ vs. length vs) (leaving-gone g.A.Adapter.heard _ _ one _ front none))

pub loop-left-preserved-then-is_empty : goal.loop-left-preserved-then-is_empty
loop-left-preserved-then-is_empty g c =
    let heard = g.A.Adapter.heard in
    let one = c.unwrap-one.result in
    let rest = c.pop_front.new.self.items in
    let front = front-taken c.loop-left.waiting.items rest c.pop_front.result one c.loop-left.left c.pop_front.ensures.items c.unwrap-one.ensures (omega (arith, c.loop-left-test.true)) in
    let none : length one.targets.items ≤ 0 = grind (arith, common_steps) in
    let more = leaving-gone heard _ rest one _ front none in
    let pushed : c.push_reserved.new.self.items ≡ c.loop-left.released.items ++ (one.no, one.adapter) ∷ [] = c.push_reserved.ensures.items in
    let views : views_of heard c.push_reserved.new.self.items ≡ views_of heard c.loop-left.released.items ++ (one.no, heard one.adapter) ∷ [] = ap (views_of heard) pushed ∙ map-append (λ (b : AdapterNo × g.row.A.Denot). (b.0, heard b.1)) c.loop-left.released.items ((one.no, one.adapter) ∷ []) in
    record {
      many = omega (arith, c.loop-left.invariant.many, ap (λ xs. length xs) front.first, front.next);
      room = omega (arith, c.loop-left.invariant.room, ap (λ vs. length vs) more, c.push_reserved.ensures.len, c.push_reserved.ensures.capacity);
      same_room = omega (arith, c.push_reserved.ensures.capacity, c.loop-left.invariant.same_room);
      stay = turn-gone (has heard) _ rest one _ front (bare heard one none) ∙ c.loop-left.invariant.stay;
      released = ap (λ vs. vs ++ leaving_of heard (c.loop-left.left - 1) rest) views ∙ append_assoc (views_of heard c.loop-left.released.items) ((one.no, heard one.adapter) ∷ []) (leaving_of heard (c.loop-left.left - 1) rest) ∙ ap (λ vs. views_of heard c.loop-left.released.items ++ vs) (sym more) ∙ c.loop-left.invariant.released;
    }

pub loop-left-init : goal.loop-left-init
loop-left-init g c =
    let heard = g.A.Adapter.heard in
    let xs = c.from_vec-waiting.result.items in
    let all : xs ≡ c.args.attached.items = c.from_vec-waiting.ensures.items in
    let count : c.len-left.result ≡ length xs = omega (arith, c.len-left.ensures, c.from_vec-waiting.ensures.len, ap (λ ys. length ys) all) in
    let whole : leaving_of heard c.len-left.result xs ≡ leaving_adapters (listed_adapters heard c.args.attached.items) = ap (λ ys. leaving_adapters (listed_adapters heard ys)) (take_all c.len-left.result xs (omega (arith, count)) ∙ all) in
    record {
      many = omega (arith, count);
      room = omega (arith, c.requires.released_room, ap (λ vs. length vs) whole);
      same_room = refl;
      stay = turn-all (has heard) xs c.len-left.result count ∙ ap (λ ys. filter (has heard) ys) all;
      released = ap (λ vs. views_of heard c.args.released.now.items ++ vs) whole;
    }
