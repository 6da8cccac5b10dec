-- The parts of a resource's document are the objects of the resource, each with its written features.
use Rattle.std.specs.Prelude.{◌≡◌, pos, Contains, Some, map}
use Rattle.serde_json.specs.View.{items_of}
use Rattle.mm_types.specs.declared.limits.TheConstants.{DOCUMENT_FORMAT}
use Rattle.mm_types.specs.declared.numbers.ObjectNo.{ObjectNo}
use Rattle.mm_types.specs.declared.numbers.ResourceNo.{ResourceNo}
use Rattle.models.specs.Reading.{Reading}
use Rattle.fragment_paths.specs.Finding.{roots}
use Rattle.doc_parts.specs.Layout.{new_top, new_written, top, written_object}
use Rattle.doc_parts.specs.Parts.{class_of, entries, parts, root_parts}
use Rattle.doc_writer.specs.Document.{class_name, document}
use Rattle.doc_writer.specs.Written.{objects_in, written_features}
use Rattle.round_trip.specs.Parts.{data_of, entry_of, features_data, part_of}

-- an object is read with its class and, in order, its written features
pub record IsPart (r : Reading) (k : ResourceNo) (o : ObjectNo) : Type 0 where
  pub written : written_object (data_of r k o) ≡ Some (new_written (class_name r o) (features_data r k o))
  pub class : class_of r.metamodel (data_of r k o) ≡ r.class o
  pub entries : entries r.metamodel (data_of r k o) ≡ map (entry_of r k o) (written_features r o)

-- the document has the newest format; its roots are the roots of the resource; its parts are the objects of the resource in loading order,
-- and each object is read with its class and its written features
pub record AreParts (r : Reading) (k : ResourceNo) : Type 0 where
  pub top : top (document r k) ≡ Some (new_top (pos DOCUMENT_FORMAT) (items_of (map (data_of r k) (roots r k))))
  pub roots : root_parts (document r k) ≡ map (part_of r k) (roots r k)
  pub parts : parts r.metamodel (document r k) ≡ map (part_of r k) (objects_in r k)
  pub each : (o : ObjectNo) → Contains (objects_in r k) o → IsPart r k o
