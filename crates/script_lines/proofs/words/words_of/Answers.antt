use Rattle.std.proofs.Common.{◌≡◌, ◌++◌, ◌∷◌, ◌<◌, [], ◌≢◌, ap, get_or, map, length, rules, take, ◌∙◌}
use Rattle.std.proofs.lemmas.List.{length-map, map-append}
use Rattle.script_lines.specs.Words.{word_len}
use Rattle.script_lines.proofs.WordLemmas.{first_found, word_taken}
use Rattle.script_lines.proofs.words.words_of.Goals as goal

pub words-preserved : goal.words-preserved
words-preserved c =
    let rest = c.words.rest.now in
    let some : 0 < length rest = search rules in
    let other : get_or rest 0 0 ≢ 32 = rw c.as_bytes.ensures.value at c.if-as_bytes-eq-SPACE.false in
    let words_are : map (λ w. w.now) c.push.new.self.items ≡ map (λ w. w.now) c.words.found.items ++ take (word_len rest) rest ∷ [] =
    ap (map (λ w. w.now)) c.push.ensures.items ∙ (map-append _ _ _ ∙ ap (λ w. map (λ w. w.now) c.words.found.items ++ w ∷ []) c.first_word.ensures.word) in
    (rw (words_are, c.first_word.ensures.rest) (word_taken (map (λ w. w.now) c.words.found.items) rest _ some other c.words.invariant.0), search rules, c.first_word.ensures.text)

pub returns-after-words : goal.returns-after-words
returns-after-words c =
    first_found (map (λ w. w.now) c.words.found.items) c.words.rest.now _ c.words.invariant.0 (simp length-map c.words.invariant.1) (λ low. search rules)

pub returns-else-not-is_full : goal.returns-else-not-is_full
returns-else-not-is_full c =
    first_found (map (λ w. w.now) c.words.found.items) c.words.rest.now _ c.words.invariant.0 (simp length-map c.words.invariant.1)
    (λ low. let few : length c.words.found.items < 6 = rw length-map at low in search rules)
