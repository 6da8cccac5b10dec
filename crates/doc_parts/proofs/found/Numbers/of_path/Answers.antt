use Rattle.std.proofs.Common.{Some, ◌∙◌, ap}
use Rattle.doc_parts.specs.Keys.{descend, number_at}
use Rattle.doc_parts.proofs.PathLemmas.{path_from, path_none}
use Rattle.doc_parts.proofs.found.Numbers.of_path.Goals as goal

pub returns-in-Some : goal.returns-in-Some
returns-in-Some c =
    c.descend.ensures ∙ ap (descend (number_at c.args.self.now) (Some c.in-Some.root)) c.as_slice.ensures
    ∙ path_from (number_at c.args.self.now) c.args.path.now.root c.args.path.now.steps (Some c.in-Some.root) c.in-Some.ensures

pub returns-in-None : goal.returns-in-None
returns-in-None c = path_none (number_at c.args.self.now) c.args.path.now.root c.args.path.now.steps c.in-None.ensures
