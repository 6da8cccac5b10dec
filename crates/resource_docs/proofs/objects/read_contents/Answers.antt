use Rattle.std.proofs.Common.{◌∙◌, Bor, List, Option, ℕ, ap, false, sym}
use Rattle.std.specs.Prelude.{not, option_map}
use Rattle.std.specs.List.{list_all}
use Rattle.serde_json.specs.Data.{Members}
use Rattle.json_fields.specs.Fields.{keys_of}
use Rattle.mm_types.specs.declared.numbers.ClassNo.{ClassNo}
use Rattle.borrowed_json.specs.declared.value.Json.{Json}
use Rattle.std.specs.Option.{option_map_or}
use Rattle.borrowed_json.specs.View.{members_view}
use Rattle.borrowed_json.proofs.KeyLemmas.{all_keys}
use Rattle.doc_parts.specs.Faults.{is_readable}
use Rattle.doc_parts.specs.Parts.{class_and_members}
use Rattle.doc_parts.proofs.DataLemmas.{entries_of_known}
use Rattle.resource_docs.specs.Reading.{contents_so_far}
use Rattle.resource_docs.specs.Texts.{base_of}
use Rattle.resource_docs.proofs.ObjectLemmas.{if_ok}
use Rattle.resource_docs.proofs.objects.read_contents.Goals as goal

pub returns-in-Some-features-clause-value : goal.returns-in-Some-features-clause-value
returns-in-Some-features-clause-value c =
    let m = c.args.source.now.meta.now in
    if_ok _ _ c.read_features.result
    (λ r read ps p knows part.
    read ps p.path knows (sym (ap (λ s. s.number) part))
    ∙ ap (contents_so_far m (base_of c.args.source.now.uri.now) ps p.path)
    (entries_of_known m (class_and_members m p.json) c.in-Some.class (members_view c.in-Some.members.now) c.in-Some-features.features.now
    (ap (option_map (λ k. (k.0, members_view k.1.now))) (sym c.in-Some.is) ∙ ap (λ s. s.known) part) c.in-Some-features.ensures))
    c.read_features.ensures.value

pub returns-in-Some-features-clause-all : goal.returns-in-Some-features-clause-all
returns-in-Some-features-clause-all c =
    let m = c.args.source.now.meta.now in
    if_ok _ _ c.read_features.result
    (λ r all h.
    ap (λ (o : Option (ClassNo × Bor (List (Bor (List ℕ) × Json)))). option_map_or (λ (k : ClassNo × Members). not (list_all (is_readable m k.0) (keys_of k.1))) (option_map (λ (k : ClassNo × Bor (List (Bor (List ℕ) × Json))). (k.0, members_view k.1.now)) o) false) c.in-Some.is
    ∙ ap not (all_keys (is_readable m c.in-Some.class) c.in-Some.members.now ∙ all h))
    c.read_features.ensures.all
