-- The feature and the value that a line gives.
use Rattle.std.proofs.Common.{◌≡◌, ◌∙◌, ℕ, List, ap₂, sym}
use Rattle.mm_types.specs.Resolved.{Metamodel}
use Rattle.mm_types.specs.declared.numbers.FeatureNo.{FeatureNo}
use Rattle.mm_types.specs.declared.numbers.Node.{Node}
use Rattle.mm_types.specs.declared.value.Value.{Value}
use Rattle.script_lines.specs.declared.written_value.WrittenValue.{WrittenValue}
use Rattle.repository.specs.State.{State}
use Rattle.script_program.specs.Bind.{feature_number, named_value, value_in}

-- the feature and the value that a name and a written value give
pub bound : (s : State) (n : Node) (name : List ℕ) (w : WrittenValue) (m : Metamodel) (f : FeatureNo) (v : Value) → m ≡ s.model.metamodel
    → f ≡ feature_number s n name → v ≡ value_in m f w → (feature_number s n name ≡ f) × (named_value s n name w ≡ v)
bound s n name w m f v meta feature value =
    let fs : feature_number s n name ≡ f = sym feature in
    (fs, ap₂ (λ (x : Metamodel) (y : FeatureNo). value_in x y w) (sym meta) fs ∙ sym value)
