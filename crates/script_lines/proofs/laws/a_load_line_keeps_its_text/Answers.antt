use Rattle.std.proofs.Common.{refl}
use Rattle.std.specs.Str.{chars, is_utf8}
use lib.Utf8.{encode}
use Rattle.script_lines.specs.Forms.{form}
use Rattle.script_lines.proofs.LoadLemmas.{text_kept}
use Rattle.script_lines.proofs.laws.a_load_line_keeps_its_text.Goals as goal

pub returns-clause-kept : goal.returns-clause-kept
returns-clause-kept c = text_kept

pub returns-clause-end_kept : goal.returns-clause-end_kept
unfolding form is_utf8 chars encode
returns-clause-end_kept c = refl

pub returns-clause-start_kept : goal.returns-clause-start_kept
unfolding form is_utf8 chars encode
returns-clause-start_kept c = refl

pub returns-clause-led_by_spaces : goal.returns-clause-led_by_spaces
unfolding form is_utf8 chars encode
returns-clause-led_by_spaces c = refl

pub returns-clause-empty : goal.returns-clause-empty
unfolding form is_utf8 chars encode
returns-clause-empty c = refl

pub returns-clause-no_text : goal.returns-clause-no_text
unfolding form is_utf8 chars encode
returns-clause-no_text c = refl

pub returns-clause-no_resource : goal.returns-clause-no_resource
unfolding form is_utf8 chars encode
returns-clause-no_resource c = refl

pub returns-clause-verb_alone : goal.returns-clause-verb_alone
unfolding form is_utf8 chars encode
returns-clause-verb_alone c = refl
