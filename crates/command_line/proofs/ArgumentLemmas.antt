-- The result of parsing the program's command line.
use Rattle.std.proofs.Common.{◌≡◌, ◌∙◌, ◌<◌, ◌≤◌, ℕ, zero, suc, true, false, inl, inr, is_some, List, [], ◌∷◌, None, ap, arith, codes, length, map, refl, slice_index, subst, sym}
use Rattle.std.specs.List.{All, list_all, slice_index_or}
use Rattle.std.specs.Str.{bytes_eq}
use Rattle.clap.specs.Built.{IsParsedFrom, IsPlain, IsPlainArg}
use Rattle.clap.specs.Facts.{args_of, unwrap_or_range}
use Rattle.clap.specs.Matches.{first_value, found_of}
use Rattle.clap.specs.Simple.{IsSimple, IsSimpleArg, is_ready, is_ready_leaf}
use Rattle.clap.specs.Walk.{is_free_arg}
use Rattle.clap.specs.Words.{App, Rule, app_of, is_simple, rule_of}
use Rattle.clap.specs.declared.builder.arg.Arg.{Arg}
use Rattle.clap.specs.declared.builder.command.Command.{Command}
use Rattle.clap.specs.declared.parser.matches.ArgMatches.{ArgMatches}
use Rattle.clap.proofs.CallerLemmas.{required_has_value}
use Rattle.clap.proofs.OnLiterals.{clap_on_literals}
use Rattle.clap.proofs.SimpleLemmas.{all_simple, ready_simple, simple_groups}
use Rattle.clap.proofs.TakesLemmas.{each_rule, free_arg}
use Rattle.command_line.specs.CommandLine.{meta, options, program}

pub simple : is_simple program ≡ true
unfolding clap_on_literals
simple = refl

rules_are : (c : Command) → app_of c ≡ program → map rule_of (args_of c) ≡ options
rules_are c is = ap (λ (a : App). a.top.rules) is

rule_at : (xs : List Arg) (j : ℕ) (e : Arg) → j < length xs → rule_of (slice_index_or xs j e) ≡ slice_index_or (map rule_of xs) j (rule_of e)
rule_at [] j e low = absurd (omega (arith, low))
rule_at (x ∷ xs) zero e low = refl
rule_at (x ∷ xs) (suc j) e low = rule_at xs j e (omega (arith, low))

map_length : (xs : List Arg) → length (map rule_of xs) ≡ length xs
map_length [] = refl
map_length (x ∷ xs) = ap suc (map_length xs)

only_meta : (j : ℕ) (r : Rule) → j < 11 → bytes_eq (slice_index_or options j r).id (codes "meta") ≡ true → j ≡ 0
only_meta zero r low same = refl
only_meta (suc zero) r low same = let bad : false ≡ true = same in cc
only_meta (suc (suc zero)) r low same = let bad : false ≡ true = same in cc
only_meta (suc (suc (suc zero))) r low same = let bad : false ≡ true = same in cc
only_meta (suc (suc (suc (suc zero)))) r low same = let bad : false ≡ true = same in cc
only_meta (suc (suc (suc (suc (suc zero))))) r low same = let bad : false ≡ true = same in cc
only_meta (suc (suc (suc (suc (suc (suc zero)))))) r low same = let bad : false ≡ true = same in cc
only_meta (suc (suc (suc (suc (suc (suc (suc zero))))))) r low same = let bad : false ≡ true = same in cc
only_meta (suc (suc (suc (suc (suc (suc (suc (suc zero)))))))) r low same = let bad : false ≡ true = same in cc
only_meta (suc (suc (suc (suc (suc (suc (suc (suc (suc zero))))))))) r low same = let bad : false ≡ true = same in cc
only_meta (suc (suc (suc (suc (suc (suc (suc (suc (suc (suc zero)))))))))) r low same = let bad : false ≡ true = same in cc
only_meta (suc (suc (suc (suc (suc (suc (suc (suc (suc (suc (suc j))))))))))) r low same = absurd (omega (arith, low))

an_arg : (xs : List Arg) → length xs ≡ 11 → Arg
an_arg [] eleven = absurd (omega (arith, eleven))
an_arg (x ∷ xs) eleven = x

ready : is_ready program.top ≡ true
unfolding clap_on_literals
ready = refl

arg_is_plain : (a : Arg) → IsSimpleArg a → is_free_arg a ≡ true → a.groups.items ≡ [] → IsPlainArg a
arg_is_plain a s free groups = let f = free_arg a s free in (f.exclusive, f.conflicts, s.overrides, groups)

-- a parse finds a value of `--meta`
pub meta_given : (c : Command) (m : ArgMatches) → app_of c ≡ program → IsParsedFrom c m → is_some (first_value (found_of m) (codes "meta")) ≡ true
meta_given c m is parsed =
    let rules : map rule_of (args_of c) ≡ options = rules_are c is in
    let eleven : length (args_of c) ≡ 11 = sym (map_length (args_of c)) ∙ ap length rules in
    let d = an_arg (args_of c) eleven in
    let first : 0 < length (args_of c) = omega (arith, eleven) in
    let a = slice_index_or (args_of c) 0 d in
    let rule : rule_of a ≡ meta = rule_at (args_of c) 0 d first ∙ ap (λ rs. slice_index_or rs 0 (rule_of d)) rules in
    let id : a.id.now ≡ codes "meta" = ap (λ (r : Rule). r.id) rule in
    let range : a.num_vals ≡ None = ap (λ (r : Rule). r.range) rule in
    let facts : IsSimple c = ready_simple c (ap (λ (x : App). is_ready x.top) is ∙ ready) (ap (λ (x : App). list_all is_ready_leaf x.subs) is) in
    let free : All (λ x. is_free_arg x ≡ true) (args_of c) = each_rule (λ r. r.is_free) (args_of c) (ap (list_all (λ (r : Rule). r.is_free)) rules) in
    let groups : All (λ x. x.groups.items ≡ []) (args_of c) = simple_groups c (ap all_simple rules) in
    let plain : IsPlain c = ((λ k e low. arg_is_plain (slice_index_or (args_of c) k e) (facts.args k e low) (free k e low) (groups k e low)), facts.groups) in
    let only : (j : ℕ) (e : Arg) → j < length (args_of c) → bytes_eq (slice_index_or (args_of c) j e).id.now a.id.now ≡ true → j ≡ 0 =
    λ j e low same.
    let x = slice_index_or (args_of c) j e in
    let at : rule_of x ≡ slice_index_or options j (rule_of e) = rule_at (args_of c) j e low ∙ ap (λ rs. slice_index_or rs j (rule_of e)) rules in
    let named : x.id.now ≡ (slice_index_or options j (rule_of e)).id = ap (λ (r : Rule). r.id) at in
    only_meta j (rule_of e) (omega (arith, low, eleven))
    (ap (λ t. bytes_eq t (codes "meta")) (sym named) ∙ (ap (λ t. bytes_eq x.id.now t) (sym id) ∙ same)) in
    let has : is_some (first_value (found_of m) a.id.now) ≡ true =
    required_has_value c m parsed plain facts.globals (ap (λ (x : App). x.top.subcommand_negates_reqs) is) 0 d first
    (ap (λ (r : Rule). r.required) rule) (ap (λ (r : Rule). r.action) rule) (facts.args 0 d first).delimiter
    (subst (λ o. 1 ≤ (unwrap_or_range o).start_inclusive) (sym range) (omega arith)) only
    (λ e. let bad : 0 ≡ 4 = ap length (sym e ∙ id) in absurd (omega (arith, bad)))
    (λ auto. elim auto [
      | inl h ↦ let bad : 104 ≡ 109 = ap (λ t. slice_index t 0) (sym h ∙ id) in absurd (omega (arith, bad))
      | inr h ↦ let bad : 118 ≡ 109 = ap (λ t. slice_index t 0) (sym h ∙ id) in absurd (omega (arith, bad))
    ]) in
    subst (λ t. is_some (first_value (found_of m) t) ≡ true) id has
