-- The law on loads: the edits of a load make the links of the document. Among its conditions are that the resource is empty before the
-- load, and that no object with a number that the load gives, or with a higher number, has a link (`IsRoomFor`).
use Rattle.std.specs.Prelude.{◌≡◌, ℕ, []}
use Rattle.mm_types.specs.Resolved.{Metamodel}
use Rattle.mm_types.specs.declared.end.End.{End}
use Rattle.mm_types.specs.declared.numbers.FeatureNo.{FeatureNo}
use Rattle.mm_types.specs.declared.numbers.ObjectNo.{ObjectNo}
use Rattle.mm_types.specs.declared.numbers.ResourceNo.{ResourceNo}
use Rattle.mm_types.specs.declared.value.Value.TheVariants as value
use Rattle.links.specs.Links.{Links, end}
use Rattle.links.specs.Plans.{Lacks, PlanFits, PlanMakesNoCycle, links_after_edits}
use Rattle.resource_docs.specs.declared.doc.Doc.{Doc}
use Rattle.doc_loader.specs.LoadEdits.{load_edits}
use Rattle.doc_loader.specs.Loading.{loaded_links, loaded_number, object_end, with_links}
use Rattle.models.specs.Reading.{contents_end}

-- n is the number that the document's first object gets, and s is the set of links before the load. The resource k is empty, and in s no
-- object with the number n or a higher number has a link
pub record IsRoomFor (m : Metamodel) (n : ℕ) (k : ResourceNo) (s : Links) : Type 0 where
  pub roots : end s (contents_end m k) ≡ []
  pub ends : (o : ObjectNo) (f : FeatureNo) → end s (object_end n o f) ≡ []
  pub values : (e : End) (o : ObjectNo) → Lacks s e (value.Object (loaded_number n o))

-- the edits of the load fit the set s, put no node below itself, and add exactly the links of the document to s
pub record MakesLinks (m : Metamodel) (n : ℕ) (k : ResourceNo) (doc : Doc) (s : Links) : Type 0 where
  pub fits : PlanFits s (load_edits m n k doc)
  pub no_cycle : PlanMakesNoCycle s (load_edits m n k doc)
  pub makes : links_after_edits s (load_edits m n k doc) ≡ with_links s (loaded_links m n k doc)
