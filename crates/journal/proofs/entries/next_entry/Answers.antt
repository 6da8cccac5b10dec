use Rattle.std.proofs.Common.{◌≡◌, ◌-◌, ◌∷◌, ◌∙◌, ap, get_or, length, drop, take, subst, sym, rules}
use Rattle.std.proofs.lemmas.List.{drop_more, take_rest}
use Rattle.journal.specs.Lines.{CutsEntry}
use Rattle.journal.specs.declared.entries.TheConstants.{MARK}
use Rattle.journal.proofs.CutLemmas.{cut_entry}
use Rattle.journal.proofs.entries.next_entry.Goals as goal

pub returns-in-32 : goal.returns-in-32
returns-in-32 c =
    let bytes = c.args.bytes.now in
    let first : get_or bytes 0 0 ≡ MARK = search rules in
    let whole : bytes ≡ MARK ∷ take (length bytes - 1) (drop 1 bytes) =
    drop_more bytes 0 0 c.in-32.len_at_least ∙ ap (λ k. k ∷ drop 1 bytes) first ∙ ap (λ l. MARK ∷ l) (sym (take_rest bytes 1)) in
    subst (CutsEntry c.cut_line.result) (sym whole) (cut_entry c.cut_line.result _ c.cut_line.ensures)
