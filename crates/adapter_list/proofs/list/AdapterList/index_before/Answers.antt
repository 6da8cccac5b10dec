use Rattle.std.proofs.Common.{◌≡◌, ◌+◌, ◌≤◌, ℕ, Bool, true, false, cond, not, List, filter, length, nat_lt, position, take, get_or, refl, sym, ap, subst, ◌∙◌, arith}
use Rattle.std.specs.Option.{option_map_or}
use Rattle.std.proofs.lemmas.List.{length-take-le, take_all}
use Rattle.std.proofs.lemmas.List.Filters.{length-filter_both, length-filter_more}
use Rattle.notice_chain.specs.Listed.{HasDistinctNumbers, Listed, has_no}
use Rattle.adapter_list.specs.Targets.{entries}
use Rattle.adapter_list.specs.declared.target_lists.Entry.{Entry}
use Rattle.adapter_list.proofs.NumberLemmas.{distinct-numbers}
use Rattle.adapter_list.proofs.WatchLemmas.{entries-before}
use Rattle.adapter_list.proofs.list.AdapterList.index_before.Goals.{then-is_before, else-is_before}
use Rattle.adapter_list.proofs.list.AdapterList.index_before.Goals as goal

abbrev before : List Listed → ℕ → Entry → Bool
before rs ordinal e = option_map_or (λ k. nat_lt k ordinal) (position (has_no e.no) rs) false

pub overflow_add-index : goal.overflow_add-index
overflow_add-index g c =
    let p = before c.args.self.now.0 c.args.ordinal in
    let es = c.at-entry-items.result.now in
    let i = c.loop-entry.entry-index in
    let some = length-filter_both p (λ e. not (p e)) (λ e. refl) (take i es) in
    let long : length (take i es) ≡ i = length-take-le i es (omega (arith, c.loop-entry-test.true)) in
    let is : c.loop-entry.index ≡ length (filter p (take i es)) = c.loop-entry.invariant in
    let low : c.loop-entry.index ≤ i = omega (arith, some, long, is) in
    omega (arith, low, c.loop-entry-test.true)

pub loop-entry-preserved : goal.loop-entry-preserved
loop-entry-preserved g c =
    let p = before c.args.self.now.0 c.args.ordinal in
    let es = c.at-entry-items.result.now in
    let i = c.loop-entry.entry-index in
    let e : Entry = get_or es i _ in
    let is : c.loop-entry.index ≡ length (filter p (take i es)) = c.loop-entry.invariant in
    let more : length (filter p (take (i + 1) es)) ≡ length (filter p (take i es)) + cond (p e) 1 0 = length-filter_more p es i _ c.loop-entry-test.true in
    elim c.if-is_before.branch [
      | then-is_before w ↦
          let yes : p e ≡ true = sym c.is_before.ensures ∙ w.if-is_before.true in
          let one : length (filter p (take (i + 1) es)) ≡ length (filter p (take i es)) + 1 = more ∙ ap (λ b. length (filter p (take i es)) + cond b 1 0) yes in
          omega (arith, w.index-is, is, one)
      | else-is_before w ↦
          let other : p e ≡ false = sym c.is_before.ensures ∙ w.if-is_before.false in
          let none : length (filter p (take (i + 1) es)) ≡ length (filter p (take i es)) + 0 = more ∙ ap (λ b. length (filter p (take i es)) + cond b 1 0) other in
          omega (arith, w.index-is, is, none)
    ]

pub returns : goal.returns
returns g c =
    let rs = c.args.self.now.0 in
    let p = before rs c.args.ordinal in
    let es = c.at-entry-items.result.now in
    let tied : es ≡ entries c.args.node rs = c.at-entry-items.ensures ∙ c.self.invariant.sound.tied c.args.node ∙ ap (λ v. entries c.args.node v.0) c.self.view_is in
    let distinct : HasDistinctNumbers rs = subst HasDistinctNumbers (ap (λ v. v.0) c.self.view_is) (distinct-numbers g.A.Adapter.heard c.self.inside.attached.items c.self.inside.numbers.keys c.self.invariant.sound.numbered c.self.invariant.sound.distinct) in
    c.loop-entry.invariant
    ∙ ap (λ (ds : List Entry). length (filter p ds)) (take_all c.loop-entry.entry-index es c.loop-entry-test.false ∙ tied)
    ∙ entries-before c.args.node rs c.args.ordinal distinct
