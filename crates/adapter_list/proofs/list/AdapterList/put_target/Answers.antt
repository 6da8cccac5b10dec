use Rattle.std.proofs.Common.{rules, ◌≡◌, ◌<◌, ◌∷◌, [], ◌++◌, List, ap, sym, ◌∙◌, arith, length, insert, slice_index, refl, if◌then◌else◌, true}
use Rattle.std.proofs.lemmas.List.{length-map}
use Rattle.mm_types.specs.Same.{same_node}
use Rattle.mm_types.specs.declared.numbers.Node.{Node}
use Rattle.mm_types.specs.declared.numbers.Node.TheVariants as node
use Rattle.notice_chain.specs.Listed.{Listed, targets_len}
use Rattle.notice_chain.specs.declared.target.Target.{Target}
use Rattle.adapter_list.specs.Targets.{AreSetAt, entries, entries_in, targets_at}
use Rattle.adapter_list.specs.declared.attached.Attached.{Attached}
use Rattle.adapter_list.specs.declared.target_lists.Entry.{Entry}
use Rattle.adapter_list.proofs.ListedLemmas.{places_of-same, slice_index-map}
use Rattle.adapter_list.proofs.ReleaseLemmas.{from_err, from_ok}
use Rattle.adapter_list.proofs.TableLemmas.{on_err-all}
use Rattle.adapter_list.proofs.TargetLemmas.{targets_at-here}
use Rattle.adapter_list.proofs.WatchLemmas.{before-low, listed-watched, listed_adapters-same, whole-same, whole-watched}
use Rattle.adapter_list.proofs.list.AdapterList.put_target.Goals as goal

pub insert-requires : goal.insert-requires
insert-requires g c =
    let rs = c.args.self.now.0 in
    let tied : entries_in c.self.inside.by_target c.args.node ≡ entries c.args.node rs = c.self.invariant.sound.tied c.args.node ∙ ap (λ v. entries c.args.node v.0) c.self.view_is in
    let low = before-low c.args.node rs c.args.ordinal in
    omega (arith, low, c.index_before-index.ensures, ap (λ (es : List Entry). length es) tied)

pub invariant_of-self : goal.invariant_of-self
invariant_of-self g c =
    let within : c.args.ordinal < length c.self.inside.attached.items = rw (length-map) at (rw (← c.self.view_is) at c.requires.within) in
    let one = c.index_mut-one.result.now in
    let after : Attached g.row.A.Denot = record { no = one.no; targets = c.reserve.new.self; adapter = one.adapter } in
    whole-same c.self.invariant.sound c.args.ordinal one after within c.index_mut-one.ensures.value refl refl c.self.inside.by_target c.self.inside.marks.items (λ h. h) c.self.invariant.some c.reserve.ensures.items (λ z. refl) (λ i. refl)

pub invariant_of-self-in_err-reserve_mark : goal.invariant_of-self-in_err-reserve_mark
invariant_of-self-in_err-reserve_mark g c =
    let within : c.args.ordinal < length c.self.inside.attached.items = rw (length-map) at (rw (← c.self.view_is) at c.requires.within) in
    let one = c.index_mut-one.result.now in
    let after : Attached g.row.A.Denot = record { no = one.no; targets = c.reserve.new.self; adapter = one.adapter } in
    whole-same c.self.invariant.sound c.args.ordinal one after within c.index_mut-one.ensures.value refl refl c.self.inside.by_target c.reserve_mark.new.marks.items (λ h. h) c.self.invariant.some c.reserve.ensures.items (λ z. refl) c.reserve_mark.ensures.same

pub invariant_of-self-in_err-insert : goal.invariant_of-self-in_err-insert
invariant_of-self-in_err-insert g c =
    let within : c.args.ordinal < length c.self.inside.attached.items = rw (length-map) at (rw (← c.self.view_is) at c.requires.within) in
    let one = c.index_mut-one.result.now in
    let after : Attached g.row.A.Denot = record { no = one.no; targets = c.reserve.new.self; adapter = one.adapter } in
    let kept : (z : Node) → entries_in c.insert.new.self z ≡ entries_in c.self.inside.by_target z = from_err _ c.insert.result (search rules) c.insert.ensures.err in
    whole-same c.self.invariant.sound c.args.ordinal one after within c.index_mut-one.ensures.value refl refl c.insert.new.self c.reserve_mark.new.marks.items c.insert.ensures.none_empty c.self.invariant.some c.reserve.ensures.items kept c.reserve_mark.ensures.same

pub invariant_of-self-2 : goal.invariant_of-self-2
invariant_of-self-2 g c =
    let items = c.self.inside.attached.items in
    let within : c.args.ordinal < length items = rw (length-map) at (rw (← c.self.view_is) at c.requires.within) in
    let one = c.index_mut-one.result.now in
    let q : Target = record { node = c.args.node; deep = c.args.deep } in
    let e : Entry = record { no = c.args.no; deep = c.args.deep } in
    let index = c.index_before-index.result in
    let after : Attached g.row.A.Denot = record { no = one.no; targets = c.push_back_reserved.new.self; adapter = one.adapter } in
    let seen = sym (ap (λ v. v.0) c.self.view_is) in
    let targets : c.push_back_reserved.new.self.items ≡ one.targets.items ++ q ∷ [] = c.push_back_reserved.ensures.items ∙ ap (λ ts. ts ++ q ∷ []) c.reserve.ensures.items in
    let many : targets_at c.args.self.now.0 c.args.ordinal ≡ length one.targets.items = ap (λ (qs : List Listed). targets_at qs c.args.ordinal) seen ∙ targets_at-here g.A.Adapter.heard items c.args.ordinal one within c.index_mut-one.ensures.value in
    let room : slice_index c.args.self.now.1 c.args.ordinal ≡ g.A.Adapter.places one.adapter = ap (λ v. slice_index v.1 c.args.ordinal) (sym c.self.view_is) ∙ slice_index-map (λ a. g.A.Adapter.places a.adapter) items c.args.ordinal one within c.index_mut-one.ensures.value in
    let put : (z : Node) → entries_in c.insert.new.self z ≡ (if same_node c.args.node z then insert (entries_in c.self.inside.by_target z) index e else entries_in c.self.inside.by_target z) = from_ok _ c.insert.result (search rules) c.insert.ensures.ok in
    let marks : AreSetAt c.self.inside.marks.items c.args.node true c.set_mark.new.marks.items = λ o. c.set_mark.ensures o ∙ ap (λ b. if same_node c.args.node (node.Object o) then true else b) (c.reserve_mark.ensures.same o.0) in
    whole-watched c.self.invariant.sound c.args.ordinal one after within c.index_mut-one.ensures.value refl refl c.insert.new.self c.set_mark.new.marks.items c.insert.ensures.none_empty q c.args.no c.args.self.now.0 seen c.requires.placed c.requires.apart targets
    c.self.invariant.some (omega (arith, many, room, c.requires.spare)) (omega (arith, c.requires.few, c.self.invariant.sound.counted, ap (λ (qs : List Listed). targets_len qs) seen)) index c.index_before-index.ensures put marks

pub returns-in_err-reserve-clause-kept : goal.returns-in_err-reserve-clause-kept
returns-in_err-reserve-clause-kept g c =
    let items = c.self.inside.attached.items in
    let one = c.index_mut-one.result.now in
    let after : Attached g.row.A.Denot = record { no = one.no; targets = c.reserve.new.self; adapter = one.adapter } in
    on_err-all c.from_residual.result (listed_adapters-same g.A.Adapter.heard items c.args.ordinal one after c.index_mut-one.ensures.value refl c.reserve.ensures.items refl ∙ ap (λ v. v.0) c.self.view_is)

pub returns-in_err-reserve_mark-clause-kept : goal.returns-in_err-reserve_mark-clause-kept
returns-in_err-reserve_mark-clause-kept g c =
    let items = c.self.inside.attached.items in
    let one = c.index_mut-one.result.now in
    let after : Attached g.row.A.Denot = record { no = one.no; targets = c.reserve.new.self; adapter = one.adapter } in
    on_err-all c.from_residual-in_err-reserve_mark.result (listed_adapters-same g.A.Adapter.heard items c.args.ordinal one after c.index_mut-one.ensures.value refl c.reserve.ensures.items refl ∙ ap (λ v. v.0) c.self.view_is)

pub returns-in_err-insert-clause-kept : goal.returns-in_err-insert-clause-kept
returns-in_err-insert-clause-kept g c =
    let items = c.self.inside.attached.items in
    let one = c.index_mut-one.result.now in
    let after : Attached g.row.A.Denot = record { no = one.no; targets = c.reserve.new.self; adapter = one.adapter } in
    on_err-all c.from_residual-in_err-insert.result (listed_adapters-same g.A.Adapter.heard items c.args.ordinal one after c.index_mut-one.ensures.value refl c.reserve.ensures.items refl ∙ ap (λ v. v.0) c.self.view_is)

pub returns-in_err-reserve-clause-places : goal.returns-in_err-reserve-clause-places
returns-in_err-reserve-clause-places g c =
    let one = c.index_mut-one.result.now in
    let after : Attached g.row.A.Denot = record { no = one.no; targets = c.reserve.new.self; adapter = one.adapter } in
    on_err-all c.from_residual.result (places_of-same g.A.Adapter.places c.self.inside.attached.items c.args.ordinal one after c.index_mut-one.ensures.value refl ∙ ap (λ v. v.1) c.self.view_is)

pub returns-in_err-reserve_mark-clause-places : goal.returns-in_err-reserve_mark-clause-places
returns-in_err-reserve_mark-clause-places g c =
    let one = c.index_mut-one.result.now in
    let after : Attached g.row.A.Denot = record { no = one.no; targets = c.reserve.new.self; adapter = one.adapter } in
    on_err-all c.from_residual-in_err-reserve_mark.result (places_of-same g.A.Adapter.places c.self.inside.attached.items c.args.ordinal one after c.index_mut-one.ensures.value refl ∙ ap (λ v. v.1) c.self.view_is)

pub returns-in_err-insert-clause-places : goal.returns-in_err-insert-clause-places
returns-in_err-insert-clause-places g c =
    let one = c.index_mut-one.result.now in
    let after : Attached g.row.A.Denot = record { no = one.no; targets = c.reserve.new.self; adapter = one.adapter } in
    on_err-all c.from_residual-in_err-insert.result (places_of-same g.A.Adapter.places c.self.inside.attached.items c.args.ordinal one after c.index_mut-one.ensures.value refl ∙ ap (λ v. v.1) c.self.view_is)

pub returns-clause-ok : goal.returns-clause-ok
returns-clause-ok g c =
    let within : c.args.ordinal < length c.self.inside.attached.items = rw (length-map) at (rw (← c.self.view_is) at c.requires.within) in
    let one = c.index_mut-one.result.now in
    let q : Target = record { node = c.args.node; deep = c.args.deep } in
    let after : Attached g.row.A.Denot = record { no = one.no; targets = c.push_back_reserved.new.self; adapter = one.adapter } in
    let targets : c.push_back_reserved.new.self.items ≡ one.targets.items ++ q ∷ [] = c.push_back_reserved.ensures.items ∙ ap (λ ts. ts ++ q ∷ []) c.reserve.ensures.items in
    listed-watched c.self.invariant.sound c.args.ordinal one after within c.index_mut-one.ensures.value refl refl c.insert.new.self c.set_mark.new.marks.items c.insert.ensures.none_empty q c.args.no c.args.self.now.0 (sym (ap (λ v. v.0) c.self.view_is)) c.requires.placed c.requires.apart targets
