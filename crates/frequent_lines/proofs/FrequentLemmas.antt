-- A frequent line asks for what its words ask for.
use Rattle.std.proofs.Common.{◌∙◌, ◌≡◌, ◌==◌, ◌&&◌, ◌+◌, ◌<◌, ℕ, suc, Bool, true, false, List, [], ◌∷◌, Option, None, Some, IfSome, ap, arith, codes, cond, drop, get_or, is_some, length, nat_lt, not, option_map, refl, subst, sym, take, true≢false}
use Rattle.std.specs.List.{after_first, before_first, list_all, position_or_len}
use Rattle.std.specs.Option.{option_zip}
use Rattle.std.specs.Str.{bytes_eq}
use Rattle.std.proofs.lemmas.Bool.{and_parts}
use Rattle.std.proofs.lemmas.Bool.Decides.{nat_tests}
use Rattle.std.proofs.lemmas.Option.{IfSome_then}
use Rattle.std.proofs.lemmas.Slice.Eq.{bytes_eq-Decides}
use Rattle.std.specs.Char.{is_ascii_digit}
use Rattle.mm_types.specs.Integers.{natural_number}
use Rattle.mm_types.specs.Names.{is_name, is_name_byte}
use Rattle.mm_types.specs.declared.numbers.Node.{Node}
use Rattle.mm_types.specs.declared.numbers.Node.TheVariants as node
use Rattle.mm_types.specs.declared.numbers.ObjectNo.{ObjectNo}
use Rattle.mm_types.specs.declared.read.ObjectRead.TheVariants.{Container, Fragment}
use Rattle.mm_types.specs.declared.read.Read.TheVariants as read
use Rattle.script_lines.specs.Forms.{is_load, line_of, line_with, text_line}
use Rattle.frequent_lines.specs.Frequent.{act_in, act_line, at_in, frequent_in, frequent_line, frequent_with}
use Rattle.script_lines.specs.Values.{name_in, node_in, object, object_in, value_in}
use Rattle.script_lines.specs.Words.{after_spaces, begins_word, is_one_word, is_space, word_len, words}
use Rattle.script_lines.specs.declared.form.FeatureForm.TheVariants as feature
use Rattle.script_lines.specs.declared.form.Form.TheVariants as asks
use Rattle.frequent_lines.specs.declared.bare_act.BareAct.TheVariants as bare
use Rattle.frequent_lines.specs.declared.frequent.Frequent.{Frequent}
use Rattle.frequent_lines.specs.declared.frequent.Frequent.TheVariants as frequent
use Rattle.frequent_lines.specs.declared.frequent_act.FrequentAct.{FrequentAct}
use Rattle.frequent_lines.specs.declared.frequent_act.FrequentAct.TheVariants as act
use Rattle.script_lines.specs.declared.written_value.WrittenValue.{WrittenValue}
use Rattle.script_lines.proofs.FormLemmas.{other_line}
use Rattle.script_lines.proofs.NameLemmas.{name_byte_no_space}
use Rattle.script_lines.proofs.NumberLemmas.{digit_no_space, natural_digits}
use Rattle.frequent_lines.proofs.VerbLemmas.{no_verb}
use Rattle.script_lines.proofs.WordLemmas.{begins_plain, cut_begins, no_space_in, one_word, plain_cut, unspaced_word, word_cut}

-- ---- an object before a space

-- the mark of an object, and its number
pub object_before : (text digits : List ℕ) (n : Option ℕ) → 0 < length text → get_or text 0 0 ≡ 35 → digits ≡ drop 1 text
    → n ≡ natural_number (before_first is_space digits) → option_map object n ≡ object_in (before_first is_space text)
object_before [] digits n some mark rest number = absurd (omega arith)
object_before (c ∷ cs) digits n some mark rest number =
    let is : c ≡ 35 = mark in
    let more : 1 + position_or_len is_space cs ≡ suc (position_or_len is_space cs) = omega arith in
    rw (is, more) (ap (option_map object) (number ∙ ap (λ x. natural_number (before_first is_space x)) rest))

-- ---- numbers, objects and names as words

digit_plain : (c : ℕ) → is_ascii_digit c ≡ true → (not (is_space c) && not (c == 34)) ≡ true
digit_plain c h = grind (arith, nat_tests)

natural_begins : (w : List ℕ) (n : ℕ) → natural_number w ≡ Some n → begins_plain w ≡ true
natural_begins [] n h = absurd (true≢false (ap is_some (sym h)))
natural_begins (c ∷ cs) n h = digit_plain c (and_parts (is_ascii_digit c) _ (natural_digits (c ∷ cs) n h)).0

-- a number is one word
natural_word : (w : List ℕ) (n : ℕ) → natural_number w ≡ Some n → words w ≡ w ∷ []
natural_word w n h = unspaced_word w (natural_begins w n h) (no_space_in is_ascii_digit digit_no_space w (natural_digits w n h))

object_begins_at : (b : Bool) (c : ℕ) (n : Option ℕ) (o : ObjectNo) → (c == 35) ≡ b → option_map object (cond b n None) ≡ Some o
    → (not (is_space c) && not (c == 34)) ≡ true
object_begins_at true c n o is h = let e : c ≡ 35 = grind (arith, nat_tests) in rw e refl
object_begins_at false c n o is h = absurd (true≢false (ap is_some (sym h)))

object_begins : (w : List ℕ) (o : ObjectNo) → object_in w ≡ Some o → begins_plain w ≡ true
object_begins [] o h = absurd (true≢false (ap is_some (sym h)))
object_begins (c ∷ cs) o h = object_begins_at (c == 35) c (natural_number cs) o refl h

object_len_at : (b : Bool) (c : ℕ) (cs : List ℕ) (n : Option ℕ) (o : ObjectNo) → (c == 35) ≡ b → natural_number cs ≡ n
    → option_map object (cond b n None) ≡ Some o → position_or_len is_space (c ∷ cs) ≡ suc (length cs)
object_len_at true c cs (Some k) o is number h =
    let e : c ≡ 35 = grind (arith, nat_tests) in
    let f = no_space_in is_ascii_digit digit_no_space cs (natural_digits cs k number) in
    rw (e, f) (omega arith)
object_len_at true c cs None o is number h = absurd (true≢false (ap is_some (sym h)))
object_len_at false c cs n o is number h = absurd (true≢false (ap is_some (sym h)))

object_len : (w : List ℕ) (o : ObjectNo) → object_in w ≡ Some o → position_or_len is_space w ≡ length w
object_len [] o h = refl
object_len (c ∷ cs) o h = object_len_at (c == 35) c cs (natural_number cs) o refl refl h

-- an object is one word
object_word : (w : List ℕ) (o : ObjectNo) → object_in w ≡ Some o → words w ≡ w ∷ []
object_word w o h = unspaced_word w (object_begins w o h) (object_len w o h)

name_byte_plain : (c : ℕ) → is_name_byte c ≡ true → (not (is_space c) && not (c == 34)) ≡ true
name_byte_plain c h = grind (arith, nat_tests)

all_name_bytes : (w : List ℕ) → is_name w ≡ true → list_all is_name_byte w ≡ true
all_name_bytes w h = (and_parts _ _ (and_parts (nat_lt 0 (length w)) _ h).1).0

name_begins : (w : List ℕ) → is_name w ≡ true → begins_plain w ≡ true
name_begins [] h = absurd (true≢false (sym h))
name_begins (c ∷ cs) h = name_byte_plain c (and_parts (is_name_byte c) _ (all_name_bytes (c ∷ cs) h)).0

name_at : (b : Bool) (w f : List ℕ) → cond b (Some w) None ≡ Some f → (b ≡ true) × (w ≡ f)
name_at true w f h = (refl, cc)
name_at false w f h = absurd (true≢false (ap is_some (sym h)))

-- a name is the word from which it is read
name_is : (w f : List ℕ) → name_in w ≡ Some f → (is_name w ≡ true) × (w ≡ f)
name_is w f h = name_at (is_name w) w f h

-- a name is one word
name_word : (w : List ℕ) → is_name w ≡ true → words w ≡ w ∷ []
name_word w h = unspaced_word w (name_begins w h) (no_space_in is_name_byte name_byte_no_space w (all_name_bytes w h))

node_is_at : (b : Bool) (n : Option ℕ) (x : Option Node) (o : ObjectNo) → option_map object (cond b n None) ≡ Some o
    → cond b (option_map (λ n. node.Object (object n)) n) x ≡ Some (node.Object o)
node_is_at true None x o h = absurd (true≢false (ap is_some (sym h)))
node_is_at true (Some n) x o h = cc
node_is_at false n x o h = absurd (true≢false (ap is_some (sym h)))

-- the object of a word is its node
node_is : (w : List ℕ) (o : ObjectNo) → object_in w ≡ Some o → node_in w ≡ Some (node.Object o)
node_is [] o h = absurd (true≢false (ap is_some (sym h)))
node_is (c ∷ cs) o h = node_is_at (c == 35) (natural_number cs) _ o h

-- ---- acts

-- the act that is read is the one that the words ask for
abbrev Gives : List ℕ → List ℕ → Option FrequentAct → Type 0
Gives verb args r = IfSome r (λ a. (w f : List ℕ) (o : ObjectNo) → object_in w ≡ Some o → name_in f ≡ Some f
    → line_of (verb ∷ w ∷ f ∷ words args) ≡ act_line o f a)

zipped : {Y : Type 0} (form : (Node × List ℕ) × WrittenValue → Y) (n : Node) (f : List ℕ) (v : Option WrittenValue)
    → option_map form (option_zip (Some (n, f)) v) ≡ option_map (λ w. form ((n, f), w)) v
zipped form n f None = refl
zipped form n f (Some w) = refl

gives_get : (args : List ℕ) → Gives (codes "get") args (act_in (codes "get") args)
gives_get [] = λ w f o object name. rw (node_is w o object, name) refl
gives_get (c ∷ cs) = tt

gives_isset : (args : List ℕ) → Gives (codes "isset") args (act_in (codes "isset") args)
gives_isset [] = λ w f o object name. rw (node_is w o object, name) refl
gives_isset (c ∷ cs) = tt

gives_unset : (args : List ℕ) → Gives (codes "unset") args (act_in (codes "unset") args)
gives_unset [] = λ w f o object name. rw (node_is w o object, name) refl
gives_unset (c ∷ cs) = tt

gives_set : (args : List ℕ) → Gives (codes "set") args (act_in (codes "set") args)
gives_set args = at (is_one_word args) refl
  where
    at : (b : Bool) → is_one_word args ≡ b → Gives (codes "set") args (option_map act.Set (cond b (Some args) None))
    at true one = λ w f o object name. rw (one_word args one, node_is w o object, name)
        (ap line_with (zipped (λ p. asks.At p.0.0 p.0.1 (feature.Set p.1)) (node.Object o) f (value_in args)))
    at false one = tt

gives_removevalue : (args : List ℕ) → Gives (codes "removevalue") args (act_in (codes "removevalue") args)
gives_removevalue args = at (is_one_word args) refl
  where
    at : (b : Bool) → is_one_word args ≡ b → Gives (codes "removevalue") args (option_map act.RemoveValue (cond b (Some args) None))
    at true one = λ w f o object name. rw (one_word args one, node_is w o object, name)
        (ap line_with (zipped (λ p. asks.At p.0.0 p.0.1 (feature.RemoveValue p.1)) (node.Object o) f (value_in args)))
    at false one = tt

added : (args v i : List ℕ) (k : ℕ) → natural_number i ≡ Some k → words args ≡ v ∷ i ∷ [] → (w f : List ℕ) (o : ObjectNo) → object_in w ≡ Some o
    → name_in f ≡ Some f → line_of (codes "add" ∷ w ∷ f ∷ words args) ≡ act_line o f (act.Add v (Some k))
added args v i k number two w f o object name = rw (two, node_is w o object, name, number)
    (ap line_with (zipped (λ p. asks.At p.0.0 p.0.1 (feature.AddAt k p.1)) (node.Object o) f (value_in v)))

gives_add : (args : List ℕ) → Gives (codes "add") args (act_in (codes "add") args)
gives_add args = at (is_one_word args) (begins_word args) (natural_number (drop (word_len args + 1) args)) refl refl refl
  where
    at : (b d : Bool) (k : Option ℕ) → is_one_word args ≡ b → begins_word args ≡ d → natural_number (drop (word_len args + 1) args) ≡ k
        → Gives (codes "add") args (cond b (Some (act.Add args None)) (cond d (option_map (λ n. act.Add (take (word_len args) args) (Some n)) k) None))
    at true d k one begins number = λ w f o object name. rw (one_word args one, node_is w o object, name)
        (ap line_with (zipped (λ p. asks.At p.0.0 p.0.1 (feature.Add p.1)) (node.Object o) f (value_in args)))
    at false true (Some k) one begins number = λ w f o object name.
        let v : List ℕ = take (word_len args) args in
        let i : List ℕ = drop (word_len args + 1) args in
        let two : words args ≡ v ∷ i ∷ [] = word_cut args begins ∙ ap (λ x. v ∷ x) (natural_word i k number) in
        added args v i k number two w f o object name
    at false true None one begins number = tt
    at false false k one begins number = tt

gives_remove : (args : List ℕ) → Gives (codes "remove") args (act_in (codes "remove") args)
gives_remove args = at (natural_number args) refl
  where
    at : (k : Option ℕ) → natural_number args ≡ k → Gives (codes "remove") args (option_map (λ n. act.Bare (bare.Remove n)) k)
    at (Some k) number = λ w f o object name. rw (natural_word args k number, node_is w o object, name, number) refl
    at None number = tt

gives_resolve : (args : List ℕ) → Gives (codes "resolve") args (act_in (codes "resolve") args)
gives_resolve args = at (natural_number args) refl
  where
    at : (k : Option ℕ) → natural_number args ≡ k → Gives (codes "resolve") args (option_map (λ n. act.Bare (bare.Resolve n)) k)
    at (Some k) number = λ w f o object name. rw (natural_word args k number, object, name, number) refl
    at None number = tt

moved : (args to from : List ℕ) (j k : ℕ) → natural_number to ≡ Some j → natural_number from ≡ Some k → words args ≡ to ∷ from ∷ []
    → (w f : List ℕ) (o : ObjectNo) → object_in w ≡ Some o → name_in f ≡ Some f → line_of (codes "move" ∷ w ∷ f ∷ words args) ≡ act_line o f (act.Bare (bare.Move j k))
moved args to from j k is_to is_from two w f o object name = rw (two, node_is w o object, name, is_to, is_from) refl

gives_move : (args : List ℕ) → Gives (codes "move") args (act_in (codes "move") args)
gives_move args = at (natural_number (before_first is_space args)) (natural_number (after_first is_space args)) refl refl
  where
    at : (j k : Option ℕ) → natural_number (before_first is_space args) ≡ j → natural_number (after_first is_space args) ≡ k
        → Gives (codes "move") args (option_map (λ p. act.Bare (bare.Move p.0 p.1)) (option_zip j k))
    at (Some j) (Some k) to from = λ w f o object name.
        moved args (before_first is_space args) (after_first is_space args) j k to from
        (plain_cut args (natural_begins (before_first is_space args) j to)
        ∙ ap (λ x. before_first is_space args ∷ x) (natural_word (after_first is_space args) k from)) w f o object name
    at (Some j) None to from = tt
    at None k to from = tt

-- ---- lines about a feature

abbrev Asks : List ℕ → List ℕ → Option Frequent → Type 0
Asks verb text r = IfSome r (λ f. line_of (verb ∷ words text) ≡ frequent_line f)

at_asks : (verb text : List ℕ) → ((args : List ℕ) → Gives verb args (act_in verb args)) → Asks verb text (at_in verb text)
at_asks verb text given =
    at (object_in (before_first is_space text)) (name_in (before_first is_space (after_first is_space text)))
    (act_in verb (after_first is_space (after_first is_space text))) refl refl (given (after_first is_space (after_first is_space text)))
  where
    at : (x : Option ObjectNo) (y : Option (List ℕ)) (z : Option FrequentAct) → object_in (before_first is_space text) ≡ x
        → name_in (before_first is_space (after_first is_space text)) ≡ y → Gives verb (after_first is_space (after_first is_space text)) z
        → Asks verb text (option_map (λ p. frequent.At p.0.0 p.0.1 p.1) (option_zip (option_zip x y) z))
    at (Some o) (Some f) (Some a) is_object is_name given =
        let w : List ℕ = before_first is_space text in
        let rest : List ℕ = after_first is_space text in
        let args : List ℕ = after_first is_space rest in
        let named = name_is (before_first is_space rest) f is_name in
        let one : words text ≡ w ∷ words rest = plain_cut text (object_begins w o is_object) in
        let two : words rest ≡ f ∷ words args = plain_cut rest (name_begins (before_first is_space rest) named.0) ∙ ap (λ x. x ∷ words args) named.1 in
        ap (λ ws. line_of (verb ∷ ws)) (one ∙ ap (λ ws. w ∷ ws) two) ∙ given w f o is_object (ap name_in (sym named.1) ∙ is_name)
    at None y z is_object is_name given = tt
    at (Some o) None z is_object is_name given = tt
    at (Some o) (Some f) None is_object is_name given = tt

-- ---- lines

new_asks : (text : List ℕ) → Asks (codes "new") text (option_map frequent.New (name_in text))
new_asks text = at (name_in text) refl
  where
    at : (c : Option (List ℕ)) → name_in text ≡ c → Asks (codes "new") text (option_map frequent.New c)
    at (Some c) h = ap (λ ws. line_of (codes "new" ∷ ws)) (name_word text (name_is text c h).0) ∙ ap (λ x. line_with (option_map asks.New x)) h
    at None h = tt

container_asks : (text : List ℕ) → Asks (codes "container") text (option_map frequent.Container (object_in text))
container_asks text = at (object_in text) refl
  where
    at : (o : Option ObjectNo) → object_in text ≡ o → Asks (codes "container") text (option_map frequent.Container o)
    at (Some o) h = ap (λ ws. line_of (codes "container" ∷ ws)) (object_word text o h)
        ∙ ap (λ x. line_with (option_map (λ y. asks.Read (read.Of y Container)) x)) h
    at None h = tt

fragment_asks : (text : List ℕ) → Asks (codes "fragment") text (option_map frequent.Fragment (object_in text))
fragment_asks text = at (object_in text) refl
  where
    at : (o : Option ObjectNo) → object_in text ≡ o → Asks (codes "fragment") text (option_map frequent.Fragment o)
    at (Some o) h = ap (λ ws. line_of (codes "fragment" ∷ ws)) (object_word text o h)
        ∙ ap (λ x. line_with (option_map (λ y. asks.Read (read.Of y Fragment)) x)) h
    at None h = tt

-- a line with this verb is no `load` line, and what is read of it is what its words ask for
abbrev Reads : List ℕ → List ℕ → Type 0
Reads verb text = IfSome (frequent_with verb text) (λ f. (begins_plain verb ≡ true) × (bytes_eq verb (codes "load") ≡ false)
    × (line_of (verb ∷ words text) ≡ frequent_line f))

reads : (verb text : List ℕ) → begins_plain verb ≡ true → bytes_eq verb (codes "load") ≡ false → Asks verb text (frequent_with verb text) → Reads verb text
reads verb text begins other h = IfSome_then (frequent_with verb text) h (λ f e. (begins, other, e))

or_verb : (b verb text : List ℕ) → Reads verb text → (bytes_eq b verb ≡ false → Reads b text) → Reads b text
or_verb b verb text read more = at (bytes_eq b verb) refl
  where
    at : (e : Bool) → bytes_eq b verb ≡ e → Reads b text
    at true e = subst (λ x. Reads x text) (sym ((bytes_eq-Decides b verb).0 e)) read
    at false e = more e

read_verb : (b text : List ℕ) → Reads b text
read_verb b text =
    or_verb b (codes "new") text (reads (codes "new") text refl refl (new_asks text)) (λ new.
    or_verb b (codes "container") text (reads (codes "container") text refl refl (container_asks text)) (λ container.
    or_verb b (codes "fragment") text (reads (codes "fragment") text refl refl (fragment_asks text)) (λ fragment.
    or_verb b (codes "get") text (reads (codes "get") text refl refl (at_asks (codes "get") text gives_get)) (λ get.
    or_verb b (codes "set") text (reads (codes "set") text refl refl (at_asks (codes "set") text gives_set)) (λ set.
    or_verb b (codes "add") text (reads (codes "add") text refl refl (at_asks (codes "add") text gives_add)) (λ add.
    or_verb b (codes "isset") text (reads (codes "isset") text refl refl (at_asks (codes "isset") text gives_isset)) (λ isset.
    or_verb b (codes "unset") text (reads (codes "unset") text refl refl (at_asks (codes "unset") text gives_unset)) (λ unset.
    or_verb b (codes "remove") text (reads (codes "remove") text refl refl (at_asks (codes "remove") text gives_remove)) (λ remove.
    or_verb b (codes "removevalue") text (reads (codes "removevalue") text refl refl (at_asks (codes "removevalue") text gives_removevalue)) (λ removevalue.
    or_verb b (codes "move") text (reads (codes "move") text refl refl (at_asks (codes "move") text gives_move)) (λ move.
    or_verb b (codes "resolve") text (reads (codes "resolve") text refl refl (at_asks (codes "resolve") text gives_resolve)) (λ resolve.
    subst (λ r. IfSome r (λ f. (begins_plain b ≡ true) × (bytes_eq b (codes "load") ≡ false) × (line_of (b ∷ words text) ≡ frequent_line f)))
    (no_verb b text new container fragment get set add isset unset remove removevalue move resolve) tt))))))))))))

-- ---- the words of a line

no_spaces_first : (bs : List ℕ) → begins_plain bs ≡ true → after_spaces bs ≡ bs
no_spaces_first [] h = refl
no_spaces_first (c ∷ cs) h =
    let other : is_space c ≡ false = grind (arith, nat_tests) in
    rw other refl

-- a line is its verb and the words after it, if the verb is not `load`
words_of_line : (line : List ℕ) → begins_plain (before_first is_space line) ≡ true → bytes_eq (before_first is_space line) (codes "load") ≡ false
    → text_line line ≡ line_of (before_first is_space line ∷ words (after_first is_space line))
words_of_line line begins other =
    let same = no_spaces_first line (cut_begins line begins) in
    let no_load : is_load line ≡ false = ap (λ x. bytes_eq (before_first is_space x) (codes "load")) same ∙ other in
    other_line line no_load ∙ ap line_of (plain_cut line begins)

frequent_is : (line : List ℕ) → IfSome (frequent_in line) (λ f. text_line line ≡ frequent_line f)
unfolding frequent_in
frequent_is line =
    IfSome_then (frequent_with (before_first is_space line) (after_first is_space line)) (read_verb (before_first is_space line) (after_first is_space line))
    (λ f h. words_of_line line h.0 h.1 ∙ h.2)

-- what is read of a line is what the line asks for
pub line_asks : (line : List ℕ) (r : Option Frequent) → r ≡ frequent_in line → IfSome r (λ f. text_line line ≡ frequent_line f)
line_asks line r read = subst (λ r. IfSome r (λ f. text_line line ≡ frequent_line f)) (sym read) (frequent_is line)
