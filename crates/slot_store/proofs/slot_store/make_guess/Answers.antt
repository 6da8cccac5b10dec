use Rattle.slot_store.proofs.OrderLemmas.{reordered_kept, reordered_links}
use Rattle.slot_store.proofs.slot_store.make_guess.Goals as goal

pub returns-then-is_none-clause-kept : goal.returns-then-is_none-clause-kept
returns-then-is_none-clause-kept c = reordered_kept c.args.rows.now c.ordered_guess.new.rows c.ordered_guess.ensures.cells c.requires.kept

pub returns-then-is_none-clause-links : goal.returns-then-is_none-clause-links
returns-then-is_none-clause-links c = reordered_links c.args.rows.now c.ordered_guess.new.rows c.ordered_guess.ensures.cells
