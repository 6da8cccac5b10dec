-- Facts about parts stay true while more parts are found.
use Rattle.std.proofs.Common.{◌≡◌, ◌∙◌, ◌++◌, Bool, true, false, List, [], ◌∷◌, Option, Some, None, ℕ, ap, cond, length, map, refl, sym}
use Rattle.std.specs.Prelude.{◌&&◌, ◌||◌, is_some, not, option_map}
use Rattle.std.specs.List.{list_all, list_any}
use Rattle.std.specs.Map.{lookup}
use Rattle.std.specs.Option.{option_map_or, option_or}
use Rattle.std.proofs.lemmas.List.{length-map, map-append}
use Rattle.doc_parts.specs.Contents.{conforms_to}
use Rattle.doc_parts.specs.Faults.{has_no_class, has_other_key, is_misshapen, is_readable, of_written}
use Rattle.doc_parts.specs.FoundParts.{Knows, Seen, conforms_seen, has_other_member, lacks_class, looks_misshapen, part_seen, seen_part}
use Rattle.doc_parts.specs.Keys.{is_at}
use Rattle.doc_parts.specs.Layout.{Written, written_object}
use Rattle.doc_parts.specs.Parts.{Part, class_and_members, class_of, level_of, number_of}
use Rattle.doc_parts.specs.declared.found.FoundPart.{FoundPart}
use Rattle.doc_parts.specs.declared.found.FoundParts.{FoundParts}
use Rattle.doc_parts.proofs.DataLemmas.{list_any-map}
use Rattle.doc_parts.proofs.FindLemmas.{finds_same}
use Rattle.doc_parts.proofs.WayLemmas.{number_pushed}
use Rattle.web_uris.specs.Paths.{same_path}
use Rattle.serde_json.specs.Data.{Data, Members}
use Rattle.json_fields.specs.Fields.{◌>>=◌, keys_of}
use Rattle.mm_types.specs.Lookups as lookups
use Rattle.mm_types.specs.Resolved.{Metamodel}
use Rattle.mm_types.specs.declared.numbers.ClassNo.{ClassNo}

abbrev new_seen : ℕ → Data → Option (ClassNo × Members) → Option ℕ → Seen
new_seen level d k n = record { level = level; json = d; known = k; number = n }

-- the number of a path that was found stays
pub number_stays : (ps : List Part) (p : Part) (x : Part) (n : ℕ) → number_of ps x.path ≡ Some n → number_of (ps ++ p ∷ []) x.path ≡ number_of ps x.path
number_stays ps p x n first =
    number_pushed x.path ps p
    ∙ ap (λ o. option_or o (cond (same_path x.path p.path) (Some (length ps)) None)) first
    ∙ sym first

first_or : Seen → List Seen → Seen
first_or x [] = x
first_or x (y ∷ ys) = y

rest_of : List Seen → List Seen
rest_of [] = []
rest_of (y ∷ ys) = ys

head_same : (x y : Seen) (xs ys : List Seen) → x ∷ xs ≡ y ∷ ys → (x ≡ y) × (xs ≡ ys)
unfolding first_or rest_of
head_same x y xs ys e = (ap (first_or x) e, ap rest_of e)

pub seen_stays : (m : Metamodel) (ps : List Part) (p : Part) (parts : List FoundPart) (xs : List Part) → map part_seen parts ≡ map (seen_part m ps) xs → map (seen_part m (ps ++ p ∷ [])) xs ≡ map (seen_part m ps) xs
seen_stays m ps p parts [] e = refl
seen_stays m ps p [] (x ∷ xs) e = cc
seen_stays m ps p (r ∷ parts) (x ∷ xs) e =
    let (first, rest) = head_same (part_seen r) (seen_part m ps x) (map part_seen parts) (map (seen_part m ps) xs) e in
    ap (λ n. new_seen (level_of x) x.json (class_and_members m x.json) n ∷ map (seen_part m (ps ++ p ∷ [])) xs) (number_stays ps p x r.number (sym (ap (λ s. s.number) first)))
    ∙ ap (λ ss. seen_part m ps x ∷ ss) (seen_stays m ps p parts xs rest)

pub rows_more : (m : Metamodel) (ps : List Part) (p : Part) (parts new : List FoundPart) (r : FoundPart) → new ≡ parts ++ r ∷ [] → map part_seen parts ≡ map (seen_part m ps) ps → part_seen r ≡ seen_part m (ps ++ p ∷ []) p
    → map part_seen new ≡ map (seen_part m (ps ++ p ∷ [])) (ps ++ p ∷ [])
rows_more m ps p parts new r more are one =
    ap (map part_seen) more
    ∙ map-append part_seen parts (r ∷ [])
    ∙ ap (λ ss. ss ++ part_seen r ∷ []) (are ∙ sym (seen_stays m ps p parts ps are))
    ∙ ap (λ s. map (seen_part m (ps ++ p ∷ [])) ps ++ s ∷ []) one
    ∙ sym (map-append (seen_part m (ps ++ p ∷ [])) ps (p ∷ []))

pub count_known : (m : Metamodel) (ps : List Part) (parts : List FoundPart) → map part_seen parts ≡ map (seen_part m ps) ps → length parts ≡ length ps
count_known m ps parts are = sym (length-map parts part_seen) ∙ ap length are ∙ length-map ps (seen_part m ps)

pub one_known : (m : Metamodel) (ps : List Part) (p : Part) (level : ℕ) (d : Data) (k : Option (ClassNo × Members)) (n : ℕ) → level ≡ level_of p → d ≡ p.json → k ≡ class_and_members m p.json → number_of ps p.path ≡ Some n
    → new_seen level d k (Some n) ≡ seen_part m ps p
one_known m ps p level d k n levels jsons knowns first =
    ap (λ l. new_seen l d k (Some n)) levels
    ∙ ap (λ x. new_seen (level_of p) x k (Some n)) jsons
    ∙ ap (λ x. new_seen (level_of p) p.json x (Some n)) knowns
    ∙ ap (new_seen (level_of p) p.json (class_and_members m p.json)) (sym first)

---------------------------------------------------------------- a test of what was seen

pub list_any-as : {X : Type 0} (p q : X → Bool) (xs : List X) → ((x : X) → p x ≡ q x) → list_any p xs ≡ list_any q xs
list_any-as p q [] same = refl
list_any-as p q (x ∷ xs) same = ap (λ b. b || list_any p xs) (same x) ∙ ap (λ b. q x || b) (list_any-as p q xs same)

pub any_seen : (m : Metamodel) (test : Seen → Bool) (ps : List Part) (parts : List FoundPart) → map part_seen parts ≡ map (seen_part m ps) ps → list_any (λ r. test (part_seen r)) parts ≡ list_any (λ p. test (seen_part m ps p)) ps
any_seen m test ps parts are = sym (list_any-map part_seen test parts) ∙ ap (list_any test) are ∙ list_any-map (seen_part m ps) test ps

abbrev known_of : Metamodel → Option Written → Option (ClassNo × Members)
known_of m o = o >>= (λ w. option_map (λ c. (c, w.features)) (lookups.class_by_name m w.class))

nothing_more : (b c : Bool) → b && (false && c) ≡ false
nothing_more true c = refl
nothing_more false c = refl

misshapen_of : (m : Metamodel) (o : Option Written) (c : Bool) → not (is_some (known_of m o)) && (not (is_some o) && c) ≡ not (is_some o) && c
misshapen_of m None c = refl
misshapen_of m (Some w) c = nothing_more (not (is_some (known_of m (Some w)))) c

pub any_misshapen : (m : Metamodel) (ps : List Part) (parts : List FoundPart) → map part_seen parts ≡ map (seen_part m ps) ps → list_any (λ r. looks_misshapen (part_seen r)) parts ≡ list_any is_misshapen ps
any_misshapen m ps parts are = any_seen m looks_misshapen ps parts are ∙ list_any-as (λ p. looks_misshapen (seen_part m ps p)) is_misshapen ps (λ p. misshapen_of m (written_object p.json) _)

no_class_by : (m : Metamodel) (w : Written) (o : Option ClassNo) → option_map_or (λ k. not (lookups.is_concrete m k.0)) (option_map {U = ClassNo × Members} (λ c. (c, w.features)) o) true ≡ not (option_map_or (lookups.is_concrete m) o false)
no_class_by m w None = refl
no_class_by m w (Some c) = refl

no_class_of : (m : Metamodel) (o : Option Written) → option_map_or (λ k. not (lookups.is_concrete m k.0)) (known_of m o) (is_some o) ≡ option_map_or (has_no_class m) o false
no_class_of m None = refl
no_class_of m (Some w) = no_class_by m w (lookups.class_by_name m w.class)

pub any_without_class : (m : Metamodel) (ps : List Part) (parts : List FoundPart) → map part_seen parts ≡ map (seen_part m ps) ps → list_any (λ r. lacks_class m (part_seen r)) parts ≡ of_written (has_no_class m) ps
any_without_class m ps parts are =
    any_seen m (lacks_class m) ps parts are ∙ list_any-as (λ p. lacks_class m (seen_part m ps p)) (λ p. option_map_or (has_no_class m) (written_object p.json) false) ps (λ p. no_class_of m (written_object p.json))

other_key_by : (other : ClassNo → Members → Bool) (w : Written) (o : Option ClassNo) → option_map_or (λ k. other k.0 k.1) (option_map {U = ClassNo × Members} (λ c. (c, w.features)) o) false ≡ option_map_or (λ c. other c w.features) o false
other_key_by other w None = refl
other_key_by other w (Some c) = refl

other_key_of : (other : ClassNo → Members → Bool) (m : Metamodel) (o : Option Written)
    → option_map_or (λ k. other k.0 k.1) (known_of m o) false ≡ option_map_or (λ w. option_map_or (λ c. other c w.features) (lookups.class_by_name m w.class) false) o false
other_key_of other m None = refl
other_key_of other m (Some w) = other_key_by other w (lookups.class_by_name m w.class)

pub any_with_other_key : (m : Metamodel) (ps : List Part) (parts : List FoundPart) → map part_seen parts ≡ map (seen_part m ps) ps → list_any (λ r. has_other_member m (part_seen r)) parts ≡ of_written (has_other_key m) ps
any_with_other_key m ps parts are =
    any_seen m (has_other_member m) ps parts are
    ∙ list_any-as (λ p. has_other_member m (seen_part m ps p)) (λ p. option_map_or (has_other_key m) (written_object p.json) false) ps (λ p. other_key_of (λ c ms. not (list_all (is_readable m c) (keys_of ms))) m (written_object p.json))

---------------------------------------------------------------- the class of what is known

class_by : (ms : Members) (o : Option ClassNo) → option_map (λ k. k.0) (option_map {U = ClassNo × Members} (λ c. (c, ms)) o) ≡ o
class_by ms None = refl
class_by ms (Some c) = refl

class_of_written : (m : Metamodel) (o : Option Written) → option_map (λ k. k.0) (known_of m o) ≡ (o >>= (λ w. lookups.class_by_name m w.class))
class_of_written m None = refl
class_of_written m (Some w) = class_by w.features (lookups.class_by_name m w.class)

class_of_known : (m : Metamodel) (d : Data) → option_map (λ k. k.0) (class_and_members m d) ≡ class_of m d
class_of_known m d = class_of_written m (written_object d)

conforms_by : (m : Metamodel) (target : ClassNo) (o : Option (ClassNo × Members)) → option_map_or (λ k. lookups.conforms m k.0 target) o false ≡ option_map_or (λ c. lookups.conforms m c target) (option_map (λ k. k.0) o) false
conforms_by m target None = refl
conforms_by m target (Some k) = refl

pub conforms_known : (m : Metamodel) (target : ClassNo) (ps : List Part) (p : Part) → conforms_seen m target (seen_part m ps p) ≡ conforms_to m target p.json
conforms_known m target ps p = conforms_by m target (class_and_members m p.json) ∙ ap (λ o. option_map_or (λ c. lookups.conforms m c target) o false) (class_of_known m p.json)

---------------------------------------------------------------- more capacity

pub all_stays : (m : Metamodel) (f new : FoundParts) (ps : List Part) → new.parts.items ≡ f.parts.items → new.numbers.numbers.entries ≡ f.numbers.numbers.entries → Knows m f ps → Knows m new ps
all_stays m f new ps parts numbers kn = record { parts = ap (map part_seen) parts ∙ kn.parts; finds = finds_same f.numbers new.numbers ps (λ k. ap (lookup (is_at k)) numbers) kn.finds }
