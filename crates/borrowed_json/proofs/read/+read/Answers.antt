use Rattle.std.proofs.Common.{◌≡◌, ◌-◌, ◌<◌, ◌++◌, [], ◌∷◌, drop, length, take, Some, None, refl, sym, ap, ap₂, ◌∙◌, arith, rules}
use Rattle.std.proofs.lemmas.List.{append-nil, append_assoc, drop_at, take-append-drop, take_at, take_rest}
use Rattle.json.specs.Token.{Token}
use Rattle.json.specs.Json.{parse_map, after_end_array, read_key, items, members, value}
use Rattle.json.specs.Reads.{token_of}
use Rattle.json.proofs.Grammar.{value_is, value-begin_array, value-begin_object, read_key-shorter}
use Rattle.serde_json.specs.Data.{null, boolean, number, string, array, object, put as put_data}
use Rattle.serde_json.specs.Read.{of_json, of_items, of_members, converted}
use Rattle.borrowed_json.specs.View.{items_view, members_view, number_view, view}
use Rattle.borrowed_json.specs.declared.value.Json.{String, Number, Bool, Null, the_lemmas}
use Rattle.borrowed_json.proofs.ViewLemmas.{items_before, items_before-no_items, one_more_item, view-Array, view-Object}
use Rattle.borrowed_json.proofs.ReadingLemmas.{converted-array, converted-object, item_read, item_refused, items_over, member_read, member_refused, key_refused, members_over, none_before}
use Rattle.borrowed_json.proofs.read.+read.Goals as goal

pub read-returns-in_err-token-clause-syntax : goal.read-returns-in_err-token-clause-syntax
read-returns-in_err-token-clause-syntax t c refused =
    let empty : c.args.reader.now ≡ [] = grind arith in
    ap (converted of_json) (ap (value c.args.depth) empty ∙ value_is c.args.depth [])

pub read-returns-then-depth-eq0-clause-syntax : goal.read-returns-then-depth-eq0-clause-syntax
unfolding value
read-returns-then-depth-eq0-clause-syntax t c never =
    let first : c.args.reader.now ≡ token_of c.in_ok-token.token ∷ c.next.new.self = grind arith in
    let none : c.args.depth ≡ 0 = omega arith in
    ap (converted of_json) (ap₂ value none (first ∙ ap (λ k. token_of k ∷ c.next.new.self) c.in-BeginArray.is))

pub read-returns-then-depth-eq0-2-clause-syntax : goal.read-returns-then-depth-eq0-2-clause-syntax
unfolding value
read-returns-then-depth-eq0-2-clause-syntax t c never =
    let first : c.args.reader.now ≡ token_of c.in_ok-token.token ∷ c.next.new.self = grind arith in
    let none : c.args.depth ≡ 0 = omega arith in
    ap (converted of_json) (ap₂ value none (first ∙ ap (λ k. token_of k ∷ c.next.new.self) c.in-BeginObject.is))

pub read-returns-in_err-read_items-in-BeginArray-clause-syntax : goal.read-returns-in_err-read_items-in-BeginArray-clause-syntax
read-returns-in_err-read_items-in-BeginArray-clause-syntax t c refused =
    let first : c.args.reader.now ≡ token_of c.in_ok-token.token ∷ c.next.new.self = grind arith in
    let opened = ap (converted of_json) (ap (value c.args.depth) (first ∙ ap (λ k. token_of k ∷ c.next.new.self) c.in-BeginArray.is) ∙ value-begin_array c.args.depth c.next.new.self (omega arith)) ∙ converted-array (items (value (c.args.depth - 1)) (length c.next.new.self) c.next.new.self) in
    opened ∙ ap (parse_map array) (c.read_items.ensures.syntax (grind arith))

pub read-returns-in_err-read_members-in-BeginObject-clause-syntax : goal.read-returns-in_err-read_members-in-BeginObject-clause-syntax
read-returns-in_err-read_members-in-BeginObject-clause-syntax t c refused =
    let first : c.args.reader.now ≡ token_of c.in_ok-token.token ∷ c.next.new.self = grind arith in
    let opened = ap (converted of_json) (ap (value c.args.depth) (first ∙ ap (λ k. token_of k ∷ c.next.new.self) c.in-BeginObject.is) ∙ value-begin_object c.args.depth c.next.new.self (omega arith)) ∙ converted-object (members (value (c.args.depth - 1)) (length c.next.new.self) c.next.new.self) in
    opened ∙ ap (parse_map object) (c.read_members.ensures.syntax (grind arith))

pub read-returns-in-String-clause-value : goal.read-returns-in-String-clause-value
read-returns-in-String-clause-value t c =
    let first : c.args.reader.now ≡ token_of c.in_ok-token.token ∷ c.next.new.self = grind arith in
    let is : c.args.reader.now ≡ Token.string c.in-String.text.now ∷ c.next.new.self = grind (arith, first) in
    let seen : view (String c.in-String.text) ≡ string c.in-String.text.now = search (rules, the_lemmas) in
    ap (converted of_json) (ap (value c.args.depth) is ∙ value_is c.args.depth _) ∙ ap (λ d. Some (d, c.next.new.self)) (sym seen)

pub read-returns-in-Bool-clause-value : goal.read-returns-in-Bool-clause-value
read-returns-in-Bool-clause-value t c =
    let first : c.args.reader.now ≡ token_of c.in_ok-token.token ∷ c.next.new.self = grind arith in
    let is : c.args.reader.now ≡ Token.boolean c.in-Bool.b ∷ c.next.new.self = grind (arith, first) in
    let seen : view (Bool c.in-Bool.b) ≡ boolean c.in-Bool.b = search (rules, the_lemmas) in
    ap (converted of_json) (ap (value c.args.depth) is ∙ value_is c.args.depth _) ∙ ap (λ d. Some (d, c.next.new.self)) (sym seen)

pub read-returns-in-Null-clause-value : goal.read-returns-in-Null-clause-value
read-returns-in-Null-clause-value t c =
    let first : c.args.reader.now ≡ token_of c.in_ok-token.token ∷ c.next.new.self = grind arith in
    let is : c.args.reader.now ≡ Token.null ∷ c.next.new.self = grind (arith, first) in
    let seen : view (Null) ≡ null = search (rules, the_lemmas) in
    ap (converted of_json) (ap (value c.args.depth) is ∙ value_is c.args.depth _) ∙ ap (λ d. Some (d, c.next.new.self)) (sym seen)

pub read-returns-in-Some-clause-value : goal.read-returns-in-Some-clause-value
read-returns-in-Some-clause-value t c =
    let first : c.args.reader.now ≡ token_of c.in_ok-token.token ∷ c.next.new.self = grind arith in
    let is : c.args.reader.now ≡ Token.number c.in-Number.text.now ∷ c.next.new.self = grind (arith, first) in
    let seen : view (Number c.in-Some.number) ≡ number (number_view c.in-Some.number) = search (rules, the_lemmas) in
    ap (converted of_json) (ap (value c.args.depth) is ∙ value_is c.args.depth _) ∙ rw (← c.in-Some.ensures, seen)

pub read-returns-in-None-clause-syntax : goal.read-returns-in-None-clause-syntax
read-returns-in-None-clause-syntax t c refused =
    let first : c.args.reader.now ≡ token_of c.in_ok-token.token ∷ c.next.new.self = grind arith in
    let is : c.args.reader.now ≡ Token.number c.in-Number.text.now ∷ c.next.new.self = grind (arith, first) in
    ap (converted of_json) (ap (value c.args.depth) is ∙ value_is c.args.depth _) ∙ rw (← c.in-None.ensures)

pub read-returns-in-EndObject-clause-syntax : goal.read-returns-in-EndObject-clause-syntax
read-returns-in-EndObject-clause-syntax t c refused =
    let first : c.args.reader.now ≡ token_of c.in_ok-token.token ∷ c.next.new.self = grind arith in
    let none : value c.args.depth c.args.reader.now ≡ None = rw (value_is c.args.depth c.args.reader.now, first) (grind arith) in
    ap (converted of_json) none

pub read-returns-in_ok-read_items-in-BeginArray-clause-value : goal.read-returns-in_ok-read_items-in-BeginArray-clause-value
read-returns-in_ok-read_items-in-BeginArray-clause-value t c =
    let first : c.args.reader.now ≡ token_of c.in_ok-token.token ∷ c.next.new.self = grind arith in
    let opened = ap (converted of_json) (ap (value c.args.depth) (first ∙ ap (λ k. token_of k ∷ c.next.new.self) c.in-BeginArray.is) ∙ value-begin_array c.args.depth c.next.new.self (omega arith)) ∙ converted-array (items (value (c.args.depth - 1)) (length c.next.new.self) c.next.new.self) in
    let found = c.in_ok-read_items-in-BeginArray in
    opened ∙ ap (parse_map array) found.ensures.value ∙ ap (λ d. Some (d, c.read_items.new.reader)) (sym (view-Array found.field-0))

pub read-returns-in_ok-read_members-in-BeginObject-clause-value : goal.read-returns-in_ok-read_members-in-BeginObject-clause-value
read-returns-in_ok-read_members-in-BeginObject-clause-value t c =
    let first : c.args.reader.now ≡ token_of c.in_ok-token.token ∷ c.next.new.self = grind arith in
    let opened = ap (converted of_json) (ap (value c.args.depth) (first ∙ ap (λ k. token_of k ∷ c.next.new.self) c.in-BeginObject.is) ∙ value-begin_object c.args.depth c.next.new.self (omega arith)) ∙ converted-object (members (value (c.args.depth - 1)) (length c.next.new.self) c.next.new.self) in
    let found = c.in_ok-read_members-in-BeginObject in
    opened ∙ ap (parse_map object) found.ensures.value ∙ ap (λ d. Some (d, c.read_members.new.reader)) (sym (view-Object found.field-0))

pub read_items-items-init : goal.read_items-items-init
read_items-items-init t c =
    let all = converted of_items (items (value c.args.depth) (length c.args.reader.now) c.args.reader.now) in
    ([], length c.args.reader.now, omega arith, none_before all, omega arith, search rules, sym (append-nil c.args.unfinished.now.items.items), refl)

pub read_items-returns-in_err-item-clause-syntax : goal.read_items-returns-in_err-item-clause-syntax
read_items-returns-in_err-item-clause-syntax t c refused =
    let p = value c.args.depth in
    let l = c.items in
    let (found, n, enough, far, near, base, items_are, members_are) = l.invariant in
    let going : (after_end_array l.reader ≡ None) × (c.take_end_array.new.self ≡ l.reader) = grind arith in
    far ∙ ap (parse_map (items_before found)) (item_refused p n l.reader going.0 (rw (← going.1) (c.read.ensures.syntax (grind arith))))

pub read_items-items-preserved : goal.read_items-items-preserved
read_items-items-preserved t c =
    let p = value c.args.depth in
    let l = c.items in
    let (found, n, enough, far, near, base, items_are, members_are) = l.invariant in
    let going : (after_end_array l.reader ≡ None) × (c.take_end_array.new.self ≡ l.reader) = grind arith in
    let done = c.in_ok-item.ensures in
    let v = c.in_ok-item.item in
    let r = c.read.new.reader in
    let less : length r < length l.reader = rw (← going.1) done.shorter in
    let turn = item_read p n l.reader r (view v) (omega (arith, enough)) going.0 (rw (← going.1) done.value) in (
      found ++ v ∷ [],
      n - 1,
      omega (arith, enough),
      far ∙ ap (parse_map (items_before found)) turn ∙ one_more_item found v _,
      omega (arith, near),
      base,
      c.in_ok-push.ensures.items ∙ ap (λ vs. vs ++ v ∷ []) (done.unfinished.0 ∙ items_are) ∙ append_assoc c.args.unfinished.now.items.items found (v ∷ []),
      done.unfinished.1 ∙ members_are,
    )

pub read_items-returns-clause-value : goal.read_items-returns-clause-value
read_items-returns-clause-value t c =
    let p = value c.args.depth in
    let l = c.items in
    let (found, n, enough, far, near, base, items_are, members_are) = l.invariant in
    let r = c.take_end_array.new.self in
    let at = c.len-base.result in
    let read = c.in_ok-items.ensures ∙ take_rest c.deref.result.now at ∙ ap (drop at) (c.deref.ensures.value ∙ items_are) ∙ drop_at c.args.unfinished.now.items.items found at (sym base) in
    far ∙ ap (parse_map (items_before found)) (items_over p n l.reader r enough (grind arith)) ∙ ap (λ ds. Some (ds, r)) (items_before-no_items found)
    ∙ ap (λ vs. Some (items_view vs, r)) (sym read)

pub read_members-members-init : goal.read_members-members-init
read_members-members-init t c =
    let all = members (value c.args.depth) (length c.args.reader.now) c.args.reader.now in
    ([], length c.args.reader.now, omega arith, refl, omega arith, search rules, sym (append-nil c.args.unfinished.now.members.items), refl)

pub read_members-returns-in_err-name-clause-syntax : goal.read_members-returns-in_err-name-clause-syntax
read_members-returns-in_err-name-clause-syntax t c refused =
    let p = value c.args.depth in
    let l = c.members in
    let (found, n, enough, far, near, base, members_are, items_are) = l.invariant in
    far ∙ key_refused p (members_view found) n l.reader c.in_err-name.ensures.value

pub read_members-returns-in_err-member-clause-syntax : goal.read_members-returns-in_err-member-clause-syntax
read_members-returns-in_err-member-clause-syntax t c refused =
    let l = c.members in
    let (found, n, enough, far, near, base, members_are, items_are) = l.invariant in
    let k = c.in-Some.name.now in
    let s = c.next_key.new.self in
    let named : read_key l.reader ≡ Some (Some k, s) = grind arith in
    far ∙ member_refused (value c.args.depth) (members_view found) n k l.reader s named (c.read.ensures.syntax (grind arith))

pub read_members-members-preserved : goal.read_members-members-preserved
read_members-members-preserved t c =
    let p = value c.args.depth in
    let l = c.members in
    let (found, n, enough, far, near, base, members_are, items_are) = l.invariant in
    let k = c.in-Some.name.now in
    let s = c.next_key.new.self in
    let named : read_key l.reader ≡ Some (Some k, s) = grind arith in
    let done = c.in_ok-member.ensures in
    let v = c.in_ok-member.member in
    let r = c.read.new.reader in
    let less = read_key-shorter l.reader (Some k) s named in
    let lesser = done.shorter in
    let outer = c.args.unfinished.now.members.items in
    let before = done.unfinished.1 ∙ members_are in
    let at = c.len-base.result in
    let own = drop_at outer found at (sym base) in
    let outside = take_at outer found at (sym base) in
    let after = c.put.new.members.items in
    let put = c.in_ok-put.ensures in
    let inserted : members_view (drop at after) ≡ put_data k (view v) (members_view found) = put.members ∙ ap (λ ms. put_data k (view v) (members_view (drop at ms))) before ∙ ap (λ ms. put_data k (view v) (members_view ms)) own in
    let kept : take at after ≡ outer = put.outer ∙ ap (take at) before ∙ outside in (
      drop at after,
      n - 1,
      omega (arith, enough),
      far ∙ member_read p (members_view found) n k l.reader s r (view v) (omega (arith, enough)) named done.value
          ∙ ap (λ found. converted (λ ms. of_members ms found) (members p (n - 1) r)) (sym inserted),
      omega (arith, near),
      base,
      sym (take-append-drop at after) ∙ ap (λ ms. ms ++ drop at after) kept,
      done.unfinished.0 ∙ items_are,
    )

pub read_members-returns-clause-value : goal.read_members-returns-clause-value
read_members-returns-clause-value t c =
    let p = value c.args.depth in
    let l = c.members in
    let (found, n, enough, far, near, base, members_are, items_are) = l.invariant in
    let at = c.len-base.result in
    let read = c.in_ok-members.ensures ∙ take_rest c.deref.result.now at ∙ ap (drop at) (c.deref.ensures.value ∙ members_are) ∙ drop_at c.args.unfinished.now.members.items found at (sym base) in
    far ∙ members_over p (members_view found) n l.reader c.next_key.new.self enough (grind arith)
    ∙ ap (λ ms. Some (members_view ms, c.next_key.new.self)) (sym read)
