use Rattle.std.proofs.Common.{◌≡◌, [], drop, map}
use Rattle.mm_types.specs.Names.{repeats}
use Rattle.mm_graph.proofs.clash.has_repeats.Given as goal

abbrev pub invariant-loop-name : goal.invariant-loop-name
invariant-loop-name l = repeats (map (λ s. s.now) l.seen.keys) (map (λ f. f.now) (drop l.name-index l.names)) ≡ repeats [] (map (λ f. f.now) l.names)
