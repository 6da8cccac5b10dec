use Rattle.std.proofs.Common.{◌≡◌, ◌∙◌, ap, false, string_bytes, sym, true}
use Rattle.std.specs.Prelude.{is_some, position}
use Rattle.std.specs.Str.{bytes_eq}
use Rattle.std.proofs.lemmas.Map.Text.{hash_map_updates_text}
use Rattle.mm_meta.proofs.NameLemmas.{is_some-map, position-new, position-seen}
use Rattle.mm_meta.proofs.name_table.NameTable.insert.Goals as goal

pub returns-in_ok-insert : goal.returns-in_ok-insert
returns-in_ok-insert c names long table = record {
  at = λ q.
      let key_is_name = c.in_ok-key.ensures.ok in
      let sets = hash_map_updates_text (string_bytes c.in_ok-key.key) c.args.self.now.positions c.insert.new.self _ c.in_ok-insert.ensures.updates q in
      let new : is_some (position (λ n. bytes_eq n c.args.name.now) names) ≡ false =
      sym (ap is_some (c.get.ensures.value ∙ table.at c.args.name.now)) ∙ (is_some-map _ c.get.result ∙ c.if-is_none.ensures) in
      rw (key_is_name, ← long, table.at q) at sets ∙ sym (position-new names c.args.name.now q new);
}

pub returns-else-is_none : goal.returns-else-is_none
returns-else-is_none c names long table =
    let seen : is_some (position (λ n. bytes_eq n c.args.name.now) names) ≡ true =
    sym (ap is_some (c.get.ensures.value ∙ table.at c.args.name.now)) ∙ (is_some-map _ c.get.result ∙ c.if-is_none.ensures) in
    record { at = λ q. table.at q ∙ sym (position-seen names c.args.name.now q seen) }
