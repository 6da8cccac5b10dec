-- Models of the metamodel of libraries, as literals, on which definitions are computed.
use Rattle.std.specs.Prelude.{ℕ, ◌&&◌, Bool, false, not, List, [], ◌∷◌, find, length, option_map, slice_get, Option, None, unwrap_or, if◌then◌else◌}
use Rattle.mm_types.specs.Same.{is_nil, same_end, same_node}
use Rattle.mm_types.specs.Shapes.{Shape, shape}
use Rattle.mm_types.specs.declared.numbers.ResourceNo.{ResourceNo}
use Rattle.mm_types.specs.declared.numbers.Node.{Node}
use Rattle.mm_types.specs.declared.numbers.Node.TheVariants as node
use Rattle.mm_types.specs.declared.end.End.{End}
use Rattle.mm_types.specs.declared.value.Value.{Value}
use Rattle.mm_meta.proofs.Library.{fid, library, oid}
use Rattle.models.specs.Reading.{Reading}

abbrev pub rid : ℕ → ResourceNo
rid n = record { 0 = n }

abbrev pub o : ℕ → Node
o n = node.Object (oid n)

abbrev pub resource : ℕ → Node
resource n = node.Resource (rid n)

abbrev pub end_of : Node → ℕ → End
end_of n f = record { node = n; feature = fid f }

abbrev pub table : {X Y : Type 0} → (X → X → Bool) → Y → List (X × Y) → X → Y
table same other rows x = unwrap_or (option_map (λ row. row.1) (find (λ row. same row.0 x) rows)) other

-- a single attribute that is not given has its default
abbrev pub or_default : Shape → List Value → List Value
or_default a vs = if is_nil vs && (a.is_single && not a.is_reference) then a.default ∷ [] else vs

-- a reading of objects of these classes, resources of these URIs, ends with these values, and nodes with these holders and all above them
abbrev pub model : List (List ℕ) → List ℕ → List (End × List Value) → List (Node × (Option End × List Node)) → Reading
model uris classes ends holders =
    record {
      metamodel = library;
      next = length classes;
      class = λ x. option_map (λ c. record { 0 = c }) (slice_get classes x.0);
      uris = uris;
      values = λ e. or_default (shape library e.feature) (table same_end [] ends e);
      flag = λ e. false;
      holder = λ n. (table same_node (None, []) holders n).0;
      above = λ n. (table same_node (None, []) holders n).1;
    }
