use Rattle.std.proofs.Common.{◌∙◌, ◌++◌, ◌∷◌, [], ap, length}
use Rattle.std.specs.Prelude.{option_map}
use Rattle.borrowed_json.specs.View.{members_view, view}
use Rattle.doc_parts.proofs.KnowLemmas.{count_known, one_known, rows_more}
use Rattle.doc_parts.proofs.found.FoundParts.add.Goals as goal

pub returns : goal.returns
returns c = λ m ps p known placed level json knows.
    let (finds, first) = c.in_ok-number.ensures ps p (ap length c.as_slice-count.ensures.value ∙ count_known m ps c.args.self.now.parts.items known.parts) known.finds placed in
    let one = one_known m (ps ++ p ∷ []) p c.args.level (view c.args.json.now) (option_map (λ k. (k.0, members_view k.1.now)) c.args.known) c.in_ok-number.number level json knows first in
    (record { parts = rows_more m ps p c.args.self.now.parts.items c.push.new.self.items _ c.in_ok-push.ensures.items known.parts one; finds = finds }, first)
