use Rattle.std.proofs.Common.{◌∙◌, ◌≡◌, ◌≢◌, ◌+◌, ◌<◌, Some, ap, arith, drop, false, get_or, length, sym, take}
use Rattle.std.specs.Char.{is_ascii_digit}
use Rattle.std.specs.List.{after_first, before_first, prefix_len}
use Rattle.std.proofs.lemmas.List.Sums.{prefix_len-le-length}
use Rattle.mm_types.specs.Names.{is_name_byte}
use Rattle.script_lines.specs.Values.{name_in}
use Rattle.script_lines.specs.Words.{is_space}
use Rattle.script_lines.proofs.NameLemmas.{name_before, other_no_name}
use Rattle.script_lines.proofs.name.Name.before_space.Goals as goal
use Rattle.script_lines.proofs.name.Name.before_space.Goals.{Joined-else-len-bytes, else-len-bytes-via-then-len-bytes+else-bytes-len-ne-SPACE, else-len-bytes-via-else-len-bytes}

pub cut_at-requires-clause-within : goal.cut_at-requires-clause-within
cut_at-requires-clause-within c =
    let is : c.name_len_of-len.result ≡ prefix_len is_name_byte c.args.text.now = cc in
    omega (arith, prefix_len-le-length is_name_byte c.args.text.now)

pub returns-then-bytes-len-ne-SPACE-clause-name : goal.returns-then-bytes-len-ne-SPACE-clause-name
returns-then-bytes-len-ne-SPACE-clause-name c =
    let text = c.args.text.now in
    let len = c.name_len_of-len.result in
    let same = c.as_bytes-bytes.ensures.value in
    let is : len ≡ prefix_len is_name_byte text = cc in
    let within : len < length text = omega (arith, ap length same) in
    let other : get_or text len 0 ≢ 32 = rw same at c.if-bytes-len-ne-SPACE.true in
    other_no_name text len is within other

-- the name and the rest of the text
read : (c : Joined-else-len-bytes) → (name_in (before_first is_space c.args.text.now) ≡ Some (take c.name_len_of-len.result c.args.text.now))
    × (drop (c.name_len_of-len.result + 1) c.args.text.now ≡ after_first is_space c.args.text.now)
read c =
    let text = c.args.text.now in
    let len = c.name_len_of-len.result in
    let is : len ≡ prefix_len is_name_byte text = cc in
    let first : is_ascii_digit (get_or text 0 0) ≡ false = cc in
    let space : len < length text → get_or text len 0 ≡ 32 = elim c.else-len-bytes.branch [
      | else-len-bytes-via-then-len-bytes+else-bytes-len-ne-SPACE w ↦ λ more. rw c.as_bytes-bytes.ensures.value at w.if-bytes-len-ne-SPACE.false
      | else-len-bytes-via-else-len-bytes w ↦ λ more. absurd (omega (arith, ap length c.as_bytes-bytes.ensures.value))
    ] in
    name_before text len is (omega arith) first space

pub returns-clause-name : goal.returns-clause-name
returns-clause-name c = ap Some c.cut_at.ensures.before ∙ sym (read (goal.at.returns-clause-name c).Joined-else-len-bytes).0

pub returns-clause-rest : goal.returns-clause-rest
returns-clause-rest c = c.cut_at.ensures.after ∙ (read (goal.at.returns-clause-rest c).Joined-else-len-bytes).1
