use Rattle.std.proofs.Common.{[]}
use Rattle.doc_parts.proofs.walk.find_parts.Goals as goal

pub returns : goal.returns
returns c = c.in_ok-walk_roots.ensures [] (c.new-found.ensures c.args.meta.now)
