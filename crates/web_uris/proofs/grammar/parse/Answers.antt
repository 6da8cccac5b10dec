use Rattle.std.proofs.Common.{None, lit<, sym}
use Rattle.std.proofs.lemmas.Str.Pattern.{strip_prefix_char}
use Rattle.web_uris.proofs.ReadLemmas.{no_path}
use Rattle.web_uris.proofs.grammar.parse.Goals as goal

pub returns-in-None : goal.returns-in-None
returns-in-None c = sym (no_path c.args.text.now (strip_prefix_char 47 c.args.text.now None c.in-None.ensures.cases (lit< tt)))
