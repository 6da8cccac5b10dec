use Rattle.std.proofs.Common.{sym, subst}
use Rattle.links.specs.LegalSets.{AreOfKind}
use Rattle.links.specs.Links.{Links}
use Rattle.links.proofs.LegalLemmas.{none_kinds}
use Rattle.slot_store.proofs.StoreLemmas.{empty_kept, empty_links}
use Rattle.slot_store.proofs.slot_store.SlotStoreLinkStore.empty.Goals as goal

pub invariant_of-result : goal.invariant_of-result
invariant_of-result c = record { kept = ∣ empty_kept c.new.result c.new.ensures.cells c.new.ensures.ends ∣₁ }

pub returns-clause-links : goal.returns-clause-links
returns-clause-links c = empty_links c.new.result c.new.ensures.cells c.new.ensures.ends

pub returns-clause-kinds : goal.returns-clause-kinds
returns-clause-kinds c = λ m meta. (meta, subst (λ (s : Links). AreOfKind m s) (sym (empty_links c.new.result c.new.ensures.cells c.new.ensures.ends)) (none_kinds m))
