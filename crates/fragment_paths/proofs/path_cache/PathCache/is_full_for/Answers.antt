use Rattle.std.proofs.Common.{◌≡◌, ◌∙◌, ℕ, Bool, true, not, ◌&&◌, sym, ap, rules, arith}
use Rattle.std.specs.Prelude.{is_some, nat_le}
use Rattle.std.specs.FinMap as map
use Rattle.std.proofs.lemmas.Bool.Decides.{nat_tests}
use Rattle.fragment_paths.specs.Kept.{Kept, is_full_for, kept_map}
use Rattle.fragment_paths.proofs.KeptLemmas.{get-kept}
use Rattle.fragment_paths.proofs.path_cache.PathCache.is_full_for.Goals as goal

-- with all texts that may be kept, an object that has one decides
full : (n : ℕ) (b : Bool) → nat_le 1024 n ≡ true → b ≡ (nat_le 1024 n && b)
full n b h = sym (ap (λ (x : Bool). x && b) h)

pub returns-then-len-ge-MOST : goal.returns-then-len-ge-MOST
returns-then-len-ge-MOST c =
    let o = c.args.object.0 in
    let es = c.self.inside.texts.entries in
    let has = c.contains_key.ensures ∙ sym (ap is_some (get-kept es o)) in
    let many : nat_le 1024 (map.len (kept_map es)) ≡ true = grind (arith, nat_tests, c.self.invariant.0, c.len.ensures.len) in
    ap not has ∙ full (map.len (kept_map es)) (not (map.contains_key (kept_map es) o)) many ∙ ap (λ (m : Kept). is_full_for m c.args.object) c.self.view_is
