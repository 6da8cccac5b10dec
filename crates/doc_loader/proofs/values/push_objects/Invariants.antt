use Rattle.std.proofs.Common.{◌≡◌, ◌++◌, drop, map}
use Rattle.mm_values.specs.declared.value_edit.ValueEdit.{ValueEdit}
use Rattle.mm_values.specs.declared.value_edit.ValueEdit.TheVariants.{NewObject}
use Rattle.resource_docs.specs.declared.doc.DocObject.{DocObject}
use Rattle.doc_loader.proofs.values.push_objects.Given as goal

abbrev made : DocObject → ValueEdit
made o = NewObject o.class

-- what is added, and then what is left to add
abbrev pub invariant-objects : goal.invariant-objects
invariant-objects l = l.edits.items ++ map made (drop l.object-index l.objects) ≡ l.fn.edits.items ++ map made l.objects
