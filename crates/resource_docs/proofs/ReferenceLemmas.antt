-- A path leads to the part with its number.
use Rattle.std.proofs.Common.{◌≡◌, ◌∙◌, Bool, List, Option, Some, None, ℕ, ap, cond, get_or, refl, sym}
use Rattle.std.specs.Prelude.{option_and_then, option_map, slice_get}
use Rattle.std.proofs.lemmas.Option.{same_Some, slice_get-get_or, slice_get-map}
use Rattle.serde_json.specs.Data.{null}
use Rattle.mm_types.specs.Resolved.{Metamodel}
use Rattle.mm_types.specs.declared.numbers.ClassNo.{ClassNo}
use Rattle.mm_types.specs.declared.value.Value.{Value}
use Rattle.web_uris.specs.declared.path.Path.{Path}
use Rattle.doc_parts.specs.Contents.{conforms_to}
use Rattle.doc_parts.specs.FoundParts.{Knows, conforms_seen, part_seen, seen_part}
use Rattle.doc_parts.specs.Parts.{Part, number_of}
use Rattle.doc_parts.specs.Keys.{number_at, way_of}
use Rattle.doc_parts.specs.declared.found.FoundParts.{FoundParts}
use Rattle.doc_parts.specs.declared.found.FoundPart.{FoundPart}
use Rattle.resource_docs.specs.Values.{led_to, object_of}
use Rattle.resource_docs.specs.declared.referent.Referent.TheVariants.{Here}
use Rattle.doc_parts.proofs.KnowLemmas.{conforms_known}
use Rattle.doc_parts.proofs.WayLemmas.{number_below}

abbrev led_by : Metamodel → ClassNo → ℕ → Option Part → Option Value
led_by m class n o = option_and_then (λ q. cond (conforms_to m class q.json) (Some (object_of n)) None) o

of_part : (m : Metamodel) (class : ClassNo) (n : ℕ) (ps : List Part) (o : Option Part) (r : FoundPart) (b : Bool) → option_map (seen_part m ps) o ≡ Some (part_seen r) → b ≡ conforms_seen m class (part_seen r)
    → cond b (Some (object_of n)) None ≡ led_by m class n o
of_part m class n ps None r b is conforms = cc
of_part m class n ps (Some q) r b is conforms =
    ap (λ x. cond x (Some (object_of n)) None) (conforms ∙ ap (conforms_seen m class) (sym (same_Some (seen_part m ps q) (part_seen r) is)) ∙ conforms_known m class ps q)

pub led_here : (m : Metamodel) (class : ClassNo) (f : FoundParts) (p : Path) (n : ℕ) (r : FoundPart) (b : Bool) → Some n ≡ way_of (number_at f.numbers) p → slice_get f.parts.items n ≡ Some r → b ≡ conforms_seen m class (part_seen r)
    → (ps : List Part) → Knows m f ps → cond b (Some (object_of n)) None ≡ led_to m ps class (Here p)
led_here m class f p n r b leads at conforms ps known =
    of_part m class n ps (slice_get ps n) r b
    (sym (slice_get-map (seen_part m ps) ps n) ∙ ap (λ ss. slice_get ss n) (sym known.parts) ∙ slice_get-map part_seen f.parts.items n ∙ ap (option_map part_seen) at) conforms
    ∙ ap (option_and_then (λ k. led_by m class k (slice_get ps k))) (leads ∙ known.finds.ways p)

pub led_nowhere : (m : Metamodel) (class : ClassNo) (f : FoundParts) (p : Path) → None ≡ way_of (number_at f.numbers) p → (ps : List Part) → Knows m f ps → None ≡ led_to m ps class (Here p)
led_nowhere m class f p none ps known = ap (option_and_then (λ k. led_by m class k (slice_get ps k))) (none ∙ known.finds.ways p)

row_at : (m : Metamodel) (ps : List Part) (n : ℕ) (o : Option FoundPart) (q : Part) → option_map part_seen o ≡ Some (seen_part m ps q) → (r : FoundPart) × (o ≡ Some r)
row_at m ps n None q e = cc
row_at m ps n (Some r) q e = (r, refl)

row_there : (m : Metamodel) (f : FoundParts) (ps : List Part) (p : Path) (n : ℕ) → Knows m f ps → number_of ps p ≡ Some n → (r : FoundPart) × (slice_get f.parts.items n ≡ Some r)
row_there m f ps p n known first =
    let other : Part = record { path = p; json = null } in
    row_at m ps n (slice_get f.parts.items n) (get_or ps n other)
    (sym (slice_get-map part_seen f.parts.items n) ∙ ap (λ ss. slice_get ss n) known.parts ∙ slice_get-map (seen_part m ps) ps n ∙ ap (option_map (seen_part m ps)) (slice_get-get_or ps n other (number_below p ps n first)))

pub led_some : (m : Metamodel) (class : ClassNo) (f : FoundParts) (p : Path) (n : ℕ) (v : Option Value) → Some n ≡ way_of (number_at f.numbers) p
    → ((r : FoundPart) → slice_get f.parts.items n ≡ Some r → v ≡ cond (conforms_seen m class (part_seen r)) (Some (object_of n)) None) → (ps : List Part) → Knows m f ps → v ≡ led_to m ps class (Here p)
led_some m class f p n v leads of_row ps known =
    let (r, at) = row_there m f ps p n known (sym (leads ∙ known.finds.ways p)) in
    of_row r at ∙ led_here m class f p n r (conforms_seen m class (part_seen r)) leads at refl ps known
