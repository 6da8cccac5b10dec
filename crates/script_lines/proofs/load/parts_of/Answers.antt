use Rattle.std.proofs.Common.{◌∙◌, ◌≡◌, ℕ, Bor, List, None, Option, ap, arith, option_map}
use Rattle.mm_types.specs.declared.numbers.ResourceNo.{ResourceNo}
use Rattle.script_lines.specs.declared.form.Form.TheVariants.{Load}
use Rattle.std.proofs.lemmas.Str.Pattern.{split_once_first}
use Rattle.script_lines.proofs.LoadLemmas.{no_load}
use Rattle.script_lines.proofs.load.parts_of.Goals as goal

pub returns-in_err-resource : goal.returns-in_err-resource
returns-in_err-resource c =
    let gone : c.from_residual.result ≡ None = grind arith in
    let lacks = rw c.in_err-resource.was at (split_once_first 32 c.after_spaces_of.result.now c.split_once.result c.split_once.ensures.cases (omega arith)) in
    ap (λ (o : Option (ResourceNo × Bor (List ℕ))). option_map (λ p. Load p.0 p.1.now) o) gone ∙ (no_load c.after_spaces_of.result.now lacks ∙ rw c.after_spaces_of.ensures)
