use Rattle.std.proofs.Common.{◌≡◌, ◌++◌, ◌∷◌, ℕ, [], option_map, codes, arith, refl, ap, subst, rules, decimal}
use Rattle.std.proofs.lemmas.Result.{on_ok_weaker}
use Rattle.json.specs.Token as token
use Rattle.json.specs.Written.{Writes}
use Rattle.serde_json.specs.Data.{number, unsigned}
use Rattle.serde_json.proofs.Numbers.{number_of-decimal}
use Rattle.doc_writer.proofs.AddedLemmas.{keyed, token-added}
use Rattle.doc_writer.proofs.document.write_format.Goals as goal

pub returns : goal.returns
returns c =
    let named : c.key.new.self.tokens ≡ c.args.out.now.tokens ++ token.key (codes "format") ∷ [] = search rules in
    let two : c.from.result ≡ 2 = search rules in
    on_ok_weaker c.u64.result (keyed (codes "format") (number (unsigned 2)) c.args.out.now c.key.new.self c.u64.new.self c.key.ensures.room.0 named)
    (token-added c.u64.result (token.number (decimal 2)) (number (unsigned 2)) c.key.new.self c.u64.new.self refl (ap (option_map number) (number_of-decimal 2 (omega arith)))
    (subst (λ (n : ℕ). Writes c.u64.result c.key.new.self c.u64.new.self (token.number (decimal n))) two c.u64.ensures))
