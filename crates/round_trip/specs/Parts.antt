-- The objects of a resource as the parts of its document.
use Rattle.std.specs.Prelude.{[], map, unwrap_or}
use Rattle.serde_json.specs.Data.{Data, Members}
use Rattle.mm_types.specs.declared.numbers.FeatureNo.{FeatureNo}
use Rattle.mm_types.specs.declared.numbers.ObjectNo.{ObjectNo}
use Rattle.mm_types.specs.declared.numbers.ResourceNo.{ResourceNo}
use Rattle.models.specs.Reading.{Reading}
use Rattle.web_uris.specs.Paths.{new_path}
use Rattle.web_uris.specs.declared.path.Path.{Path}
use Rattle.fragment_paths.specs.Fragments.{path_of}
use Rattle.doc_parts.specs.Parts.{Entry, Part, new_entry}
use Rattle.doc_writer.specs.Document.{content_data, feature_member, members, object_data}
use Rattle.doc_writer.specs.Written.{written_features}

-- the path of an object in its resource; the path of the first root, if the object is in no resource
abbrev pub path_in : Reading → ObjectNo → Path
path_in r o = unwrap_or (path_of r o) (new_path 0 [])

-- the JSON value of an object with all that it contains. `r.next` levels are enough, since no tree has more levels than the number of
-- objects that were made.
abbrev pub data_of : Reading → ResourceNo → ObjectNo → Data
data_of r k o = object_data r k r.next o

-- the members that are written for an object's features
abbrev pub features_data : Reading → ResourceNo → ObjectNo → Members
features_data r k o = members (map (feature_member r k (data_of r k) o) (written_features r o))

-- the part of the document for an object; and `entry_of`, the entry of that part for a written feature of the object
abbrev pub part_of : Reading → ResourceNo → ObjectNo → Part
part_of r k o = record { path = path_in r o; json = data_of r k o }

abbrev pub entry_of : Reading → ResourceNo → ObjectNo → FeatureNo → Entry
entry_of r k o f = new_entry f (content_data r k (data_of r k) o f)
