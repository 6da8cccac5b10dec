-- Values that are written one after another.
use Rattle.std.proofs.Common.{◌≡◌, ℕ, Bool, true, false, cond, ◌+◌, ◌<◌, ◌≤◌, filter, length, map, take, drop, get_or, List, [], ◌∷◌, ◌++◌, Result, OnOk, Some, option_map, option_and_then, pos, negsuc, SFits, w64, max, suc, refl, sym, ap, ◌∙◌, arith, append_assoc, append-nil, subst}
use Rattle.std.specs.Prelude.{ℤ}
use Rattle.std.specs.Fmt.{signed_decimal}
use Rattle.std.proofs.lemmas.List.{drop_all, drop_more, take-append-drop, take_all, take_more}
use Rattle.std.proofs.lemmas.List.Elements.{filter-append}
use Rattle.std.proofs.lemmas.Result.{on_ok_weaker}
use Rattle.json.specs.Token as token
use Rattle.json.specs.Token.{Token, begin_array, begin_object, end_array, end_object, key}
use Rattle.json.specs.Lex.{tokens}
use Rattle.json.specs.Json as json
use Rattle.json.specs.Print.{print}
use Rattle.json.specs.Tree as tree
use Rattle.json.specs.Tree.{items_tokens, json_tokens, members_tokens}
use Rattle.json.specs.Written.{Writes, Written}
use Rattle.json.proofs.Printed.Trees.{value-json_tokens}
use Rattle.serde_json.specs.Data.{Data, null, boolean, number, string, array, object, Items, no_items, item, Members, no_members, member, put, depth, items_depth, members_depth}
use Rattle.serde_json.specs.Find.{of_integer}
use Rattle.serde_json.specs.Read.{max_depth, of_items, of_json, of_members, read}
use Rattle.serde_json.specs.View.{items_of}
use Rattle.serde_json.specs.Written.{compact_text, items_outline, members_outline, number_text, outline}
use Rattle.serde_json.proofs.Numbers.{number_of-decimal, number_of-negative}
use Rattle.serde_json.proofs.Texts.{print-outline}
use Rattle.doc_writer.specs.Added.{Adds, AddsMember, AddsMemberIf, IsInOrder, puts_by}
use Rattle.doc_writer.specs.Document.{members, two_members}
use Rattle.doc_writer.proofs.FilterLemmas.{in_order-filter}
use Rattle.doc_writer.proofs.OrderLemmas.{listed, listed-by, put-end}

-- a value of one token
pub token-added : {E : Type 0} (r : Result (Unit {0}) E) (t : Token) (d : Data) (old new : Written) → json_tokens (outline d) ≡ t ∷ [] → of_json (outline d) ≡ Some d → Writes r old new t → OnOk r (Adds d old new)
token-added r t d old new one reads w = on_ok_weaker r (λ h. record { before = w.room.0; tokens = h ∙ ap (λ ts. old.tokens ++ ts) (sym one); reads = reads }) w.ok

number_text-of_integer : (z : ℤ) → number_text (of_integer z) ≡ signed_decimal z
number_text-of_integer (pos n) = refl
number_text-of_integer (negsuc n) = refl

integer-reads : (z : ℤ) → SFits w64 z → of_json (outline (number (of_integer z))) ≡ Some (number (of_integer z))
integer-reads (pos n) fits = ap (option_map number) (number_of-decimal n (grind arith))
integer-reads (negsuc n) fits = ap (option_map number) (number_of-negative n (grind arith))

pub integer-added : {E : Type 0} (r : Result (Unit {0}) E) (z : ℤ) (old new : Written) → SFits w64 z → Writes r old new (token.number (signed_decimal z)) → OnOk r (Adds (number (of_integer z)) old new)
integer-added r z old new fits w = token-added r (token.number (signed_decimal z)) (number (of_integer z)) old new (ap (λ s. token.number s ∷ []) (number_text-of_integer z)) (integer-reads z fits) w

-- a value after its key
pub keyed : (k : List ℕ) (d : Data) (old mid new : Written) → mid.before ≡ old.before → mid.tokens ≡ old.tokens ++ key k ∷ [] → Adds d mid new → AddsMember k d old new
keyed k d old mid new before named h =
    record {
      before = h.before ∙ before;
      tokens = h.tokens ∙ ap (λ ts. ts ++ json_tokens (outline d)) named ∙ append_assoc old.tokens (key k ∷ []) _;
      reads = h.reads;
    }

---------------------------------------------------------------- arrays

-- an array was opened, and some of its items are not written yet
pub record ItemsLeft (all left : Items) (old now : Written) : Type 0 where
  pub before : now.before ≡ old.before
  pub tokens : now.tokens ++ items_tokens (items_outline left) ≡ old.tokens ++ json_tokens (outline (array all))
  pub reads : of_items (items_outline left) ≡ Some left → of_items (items_outline all) ≡ Some all

-- the same for an array that is made of the elements of a list, one element further
pub elements-on : {X : Type 0} (made : X → Data) (xs : List X) (i : ℕ) (d x : X) (old now new : Written) → i < length xs → x ≡ get_or xs i d
    → ItemsLeft (items_of (map made xs)) (items_of (map made (drop i xs))) old now → Adds (made x) now new → ItemsLeft (items_of (map made xs)) (items_of (map made (drop (i + 1) xs))) old new
elements-on made xs i d x old now new low is so a =
    let rest = items_of (map made (drop (i + 1) xs)) in
    let here : ItemsLeft (items_of (map made xs)) (item (made x) rest) old now =
    subst (λ ys. ItemsLeft (items_of (map made xs)) (items_of (map made ys)) old now) (drop_more xs i d low ∙ ap (λ y. y ∷ drop (i + 1) xs) (sym is)) so in
    record {
      before = a.before ∙ here.before;
      tokens = ap (λ ts. ts ++ items_tokens (items_outline rest)) a.tokens ∙ append_assoc now.tokens (json_tokens (outline (made x))) _ ∙ here.tokens;
      reads = λ h. here.reads (ap (option_and_then (λ e. option_map (item e) (of_items (items_outline rest)))) a.reads ∙ ap (option_map (item (made x))) h);
    }

---------------------------------------------------------------- objects

-- an object was opened, some of its members are written, and the others are not
pub record MembersLeft (all done left : Members) (old now : Written) : Type 0 where
  pub before : now.before ≡ old.before
  pub tokens : now.tokens ++ members_tokens (members_outline left) ≡ old.tokens ++ json_tokens (outline (object all))
  pub reads : of_members (members_outline left) done ≡ Some all → of_members (members_outline all) no_members ≡ Some all

members-open : (all : Members) (old now : Written) → now.before ≡ old.before → now.tokens ≡ old.tokens ++ begin_object ∷ [] → MembersLeft all no_members all old now
members-open all old now before opened =
    record { before = before; tokens = ap (λ ts. ts ++ members_tokens (members_outline all)) opened ∙ append_assoc old.tokens (begin_object ∷ []) _; reads = λ h. h }

members-on : (all done more left : Members) (k : List ℕ) (d : Data) (old now new : Written) → put k d done ≡ more → MembersLeft all done (member k d left) old now → AddsMember k d now new
    → MembersLeft all more left old new
members-on all done more left k d old now new is so a =
    record {
      before = a.before ∙ so.before;
      tokens = ap (λ ts. ts ++ members_tokens (members_outline left)) a.tokens ∙ append_assoc now.tokens (key k ∷ json_tokens (outline d)) _ ∙ so.tokens;
      reads = λ h. so.reads (ap (option_and_then (λ e. of_members (members_outline left) (put k e done))) a.reads ∙ ap (of_members (members_outline left)) is ∙ h);
    }

members-close : {E : Type 0} (r : Result (Unit {0}) E) (all done left : Members) (old now new : Written) → left ≡ no_members → done ≡ all → MembersLeft all done left old now → Writes r now new end_object
    → OnOk r (Adds (object all) old new)
members-close r all done left old now new none whole so w =
    on_ok_weaker r (λ h. record {
      before = w.room.0 ∙ so.before;
      tokens = h ∙ ap (λ ms. now.tokens ++ members_tokens (members_outline ms)) (sym none) ∙ so.tokens;
      reads = ap (option_map object) (so.reads (ap (λ ms. of_members (members_outline ms) done) none ∙ ap Some whole));
    }) w.ok

-- the same for the elements of a list that pass a test; the list is in the order of their names
module _ {X : Type 0} (name : X → List ℕ) (held : X → Data) (q : X → Bool) (xs : List X) (i : ℕ) (old now : Written) where
  abbrev made : X → List ℕ × Data
  made x = (name x, held x)

  abbrev pub PassedLeft : ℕ → Written → Type 0
  PassedLeft k w = MembersLeft (listed (map made (filter q xs))) (listed (map made (filter q (take k xs)))) (listed (map made (filter q (drop k xs)))) old w

  -- one element further: it is written if it passes
  passed-by : (done left : List X) (x : X) (new : Written) (b : Bool) → q x ≡ b → IsInOrder name (done ++ cond b (x ∷ left) left) → MembersLeft (listed (map made (filter q xs))) (listed (map made done)) (listed (map made (cond b (x ∷ left) left))) old now
      → AddsMemberIf b (name x) (held x) now new → MembersLeft (listed (map made (filter q xs))) (listed (map made (done ++ cond b (x ∷ []) []))) (listed (map made left)) old new
  passed-by done left x new true is ordered so a =
      members-on (listed (map made (filter q xs))) (listed (map made done)) (listed (map made (done ++ x ∷ []))) (listed (map made left)) (name x) (held x) old now new (put-end name held done x left ordered) so a
  passed-by done left x new false is ordered so same =
      subst (λ (w : Written). MembersLeft (listed (map made (filter q xs))) (listed (map made (done ++ []))) (listed (map made left)) old w) (sym same)
      (subst (λ (ys : List X). MembersLeft (listed (map made (filter q xs))) (listed (map made ys)) (listed (map made left)) old now) (sym (append-nil done)) so)

  pub passed-on : (d : X) (new : Written) → i < length xs → IsInOrder name xs → PassedLeft i now → AddsMemberIf (q (get_or xs i d)) (name (get_or xs i d)) (held (get_or xs i d)) now new → PassedLeft (i + 1) new
  passed-on d new low ordered so a =
      let x = get_or xs i d in
      let done = filter q (take i xs) in
      let left = filter q (drop (i + 1) xs) in
      let rest : filter q (drop i xs) ≡ cond (q x) (x ∷ left) left = ap (filter q) (drop_more xs i d low) in
      let more : filter q (take (i + 1) xs) ≡ done ++ cond (q x) (x ∷ []) [] = ap (filter q) (take_more xs i d low) ∙ filter-append q (take i xs) (x ∷ []) in
      let whole : filter q xs ≡ done ++ cond (q x) (x ∷ left) left = ap (filter q) (sym (take-append-drop i xs)) ∙ filter-append q (take i xs) (drop i xs) ∙ ap (λ ys. done ++ ys) rest in
      subst (λ (ys : List X). MembersLeft (listed (map made (filter q xs))) (listed (map made ys)) (listed (map made left)) old new) (sym more)
      (passed-by done left x new (q x) refl (subst (IsInOrder name) whole (in_order-filter name q xs ordered))
      (subst (λ (ys : List X). MembersLeft (listed (map made (filter q xs))) (listed (map made done)) (listed (map made ys)) old now) rest so) a)

  pub passed-close : {E : Type 0} (r : Result (Unit {0}) E) (ys : List X) (new : Written) → length xs ≤ i → filter q xs ≡ puts_by name [] ys → PassedLeft i now → Writes r now new end_object
      → OnOk r (Adds (object (members (map made ys))) old new)
  passed-close r ys new high is so w =
      subst (λ ms. OnOk r (Adds (object ms) old new)) (ap (λ zs. listed (map made zs)) is ∙ listed-by name held ys)
      (members-close r (listed (map made (filter q xs))) (listed (map made (filter q (take i xs)))) (listed (map made (filter q (drop i xs)))) old now new (ap (λ zs. listed (map made (filter q zs))) (drop_all i xs high))
      (ap (λ zs. listed (map made (filter q zs))) (take_all i xs high)) so w)

-- an object of two members, whose keys are in order
pub two_members-added : {E : Type 0} (r : Result (Unit {0}) E) (k l : List ℕ) (d e : Data) (old now one both new : Written) → put l e (member k d no_members) ≡ member k d (member l e no_members)
    → now.before ≡ old.before → now.tokens ≡ old.tokens ++ begin_object ∷ [] → AddsMember k d now one → AddsMember l e one both → Writes r both new end_object → OnOk r (Adds (two_members k d l e) old new)
two_members-added r k l d e old now one both new rising before opened first second closed =
    let all = member k d (member l e no_members) in
    let so = members-on all (member k d no_members) all no_members l e old one both rising (members-on all no_members (member k d no_members) (member l e no_members) k d old now one refl (members-open all old now before opened) first) second in
    on_ok_weaker r (λ h. subst (λ ms. Adds (object ms) old new) (sym rising) h) (members-close r all all no_members old both new refl refl so closed)

---------------------------------------------------------------- the whole text

mutual
  depth-outline : (d : Data) → tree.depth (outline d) ≡ depth d
  depth-outline null = refl
  depth-outline (boolean b) = refl
  depth-outline (number n) = refl
  depth-outline (string s) = refl
  depth-outline (array ds) = ap suc (items_depth-outline ds)
  depth-outline (object ms) = ap suc (members_depth-outline ms)

  items_depth-outline : (ds : Items) → tree.items_depth (items_outline ds) ≡ items_depth ds
  items_depth-outline no_items = refl
  items_depth-outline (item d ds) = λ i. max (depth-outline d i) (items_depth-outline ds i)

  members_depth-outline : (ms : Members) → tree.members_depth (members_outline ms) ≡ members_depth ms
  members_depth-outline no_members = refl
  members_depth-outline (member k d ms) = λ i. max (depth-outline d i) (members_depth-outline ms i)

-- the text that is written for a single value is the compact text
pub text-added : (d : Data) (ts : List Token) → ts ≡ json_tokens (outline d) → print ts ≡ compact_text d
text-added d ts is = ap print is ∙ print-outline d

pub read-added : (d : Data) (ts : List Token) → ts ≡ json_tokens (outline d) → of_json (outline d) ≡ Some d → tokens (print ts) ≡ ts → depth d ≤ max_depth → read (print ts) ≡ Some d
read-added d ts is reads same shallow =
    ap (λ o. option_and_then of_json (option_and_then (λ p. json.if_last p.0 p.1) o)) (ap (json.value max_depth) (same ∙ is ∙ sym (append-nil (json_tokens (outline d)))) ∙ value-json_tokens (outline d) max_depth [] (omega (arith, shallow, depth-outline d)))
    ∙ reads
