use Rattle.fragment_paths.proofs.ImageLemmas.{path-image}
use Rattle.fragment_paths.proofs.laws.parts_at_the_same_positions_have_the_same_paths.Goals as goal

pub returns : goal.returns
returns c = λ m v w a b k j image legal other tops parts o inside. path-image m v w a b legal other k j image tops parts o inside
