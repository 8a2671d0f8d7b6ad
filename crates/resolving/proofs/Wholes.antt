-- All functions, one after the other.
use Rattle.std.proofs.Common.{length-append, ◌≡◌, ℕ, ◌+◌, ◌-◌, ◌<◌, ◌≤◌, List, [], ◌∷◌, ◌++◌, length, drop, sym, ap, ◌∙◌, subst, arith, length-drop}
use Rattle.std.specs.List.{ContainsAt as Has}
use Rattle.std.proofs.ByRecursion.{all-has}
use Rattle.std.proofs.lemmas.List.{length-map}
use Rattle.language.specs.Syntax.{Fun, Script}
use Rattle.language.specs.Types.{unplaced}
use Rattle.language.specs.Scope.{header_scope, as_variable}
use Rattle.language.specs.Typing.{TypedHeader, TypedBody, TypedScript}
use Rattle.language.proofs.InScope.{headers-each}
use Rattle.draft.specs.declared.table.Table.{Table}
use Rattle.draft.specs.Items.{Item, item, text_of, items, items_each, items_fun, items_of}
use Rattle.program.specs.declared.command.Command.{Command}
use Rattle.program.specs.declared.command.Function.{Function}
use Rattle.program.specs.declared.code.Code.{Code}
use Rattle.program.specs.Held.{commands, functions}
use Rattle.program.specs.declared.command.Way.TheVariants.{Return}
use Rattle.program.specs.Compiled.{block_size, compiled_block, compiled_from, listed_from}
use Rattle.program.proofs.Sizes.{block_length}
use Rattle.resolving.specs.declared.headers.Header.{Header}
use Rattle.resolving.specs.declared.rights.End.{End}
use Rattle.scope.specs.Entries.{scope_of}
use Rattle.resolving.specs.Walks.{Grows, HeaderWalk, Walked, BlockWalk}
use Rattle.resolving.specs.Whole.{FunctionsWalk}
use Rattle.resolving.proofs.Scopes.{length-regions, length-variables}
use Rattle.resolving.proofs.Growth.{grows_none, grows-join, grown}
use Rattle.resolving.proofs.Lengths.{fun_items}

-- how many items stand from a position on
rest-length : (t : Table) (position : ℕ) (xs : List Item) → drop position (items t) ≡ xs → length t.commands.items - position ≡ length xs
rest-length t position xs e = sym (ap (λ n. n - position) (length-map t.commands.items (item (text_of t)))) ∙ sym (length-drop position (items t)) ∙ ap length e

pub functions-none : (t : Table) (before : Code) (position : ℕ) → length t.commands.items ≤ position → FunctionsWalk t before before position
functions-none t before position none F [] script typed has e fits room = (grows_none _, grows_none _)
functions-none t before position none F (f ∷ fs) script typed has e fits room = absurd (omega (arith, rest-length t position _ e, fun_items f (items_each items_fun fs [])))

-- the first function's block is laid down
first-laid : (t : Table) (before mid : List Command) (position : ℕ) (head : Header) (end : End) (F : Script) (f : Fun) (fs : List Fun) → HeaderWalk t position head → BlockWalk t head.state before mid head.body Return end →
    items t ≡ items_of F → TypedScript F → Has F f → drop position (items t) ≡ items_fun f (items_each items_fun fs []) → length before + block_size f.body ≤ 4096 →
    (scope_of t head.state ≡ header_scope f) × Walked t before mid (compiled_block F (header_scope f) (length before) Return f.body) (items_each items_fun fs []) (unplaced f.result) end
first-laid t before mid position head end F f fs heads walk script typed has e fits =
    let h = heads f (items_each items_fun fs []) e (all-has TypedHeader F f (headers-each typed.headers) has) in (
      h.scope,
      walk F (header_scope f) f.body (unplaced f.result) (items_each items_fun fs []) (record { script = script; typed = typed; scope = h.scope }) h.body (all-has (TypedBody F) F f typed.bodies has) fits,
    )

fits-first : (F : Script) (at : ℕ) (f : Fun) (fs : List Fun) → at + length (compiled_from F at (f ∷ fs)) ≤ 4096 →
    (at + block_size f.body ≤ 4096) × (at + block_size f.body + length (compiled_from F (at + block_size f.body) fs) ≤ 4096)
fits-first F at f fs h =
    let l = length-append (compiled_block F (header_scope f) at Return f.body) (compiled_from F (at + block_size f.body) fs) in
    let k = block_length F (header_scope f) at Return f.body in
    (omega (arith, l, k), omega (arith, l, k))

entry : (s r p s' r' p' : ℕ) → s ≡ s' → r ≡ r' → p ≡ p' → ◌≡◌ {A = Function} (record { start = s; regions = r; params = p }) (record { start = s'; regions = r'; params = p' })
entry s r p s' r' p' d e f = cc

pub functions_more : (t : Table) (before mid after : Code) (position start regions params : ℕ) (head : Header) (end : End) → position < length t.commands.items →
    HeaderWalk t position head → start ≡ length (commands before) → regions ≡ length head.state.regions.items → params ≡ length head.state.variables.items →
    (length (functions before) < 64 → functions mid ≡ functions before ++ record { start = start; regions = regions; params = params } ∷ []) →
    BlockWalk t head.state (commands before) (commands mid) head.body Return end → FunctionsWalk t mid after end.position → FunctionsWalk t before after position
functions_more t before mid after position start regions params head end inside heads at rs ps one walk more F [] script typed has e fits room = absurd (omega (arith, rest-length t position _ e))
functions_more t before mid after position start regions params head end inside heads at rs ps one walk more F (f ∷ fs) script typed has e fits room =
    let (now, later) = fits-first F (length (commands before)) f fs fits in
    let (s, w) = first-laid t (commands before) (commands mid) position head end F f fs heads walk script typed has.0 e now in
    let c : length (commands mid) ≡ length (commands before) + block_size f.body =
    grown w.grows ∙ ap (λ j. length (commands before) + j) (block_length F (header_scope f) (length (commands before)) Return f.body) in
    let regions-is : regions ≡ length f.regions = rs ∙ length-regions t head.state _ s ∙ length-map f.regions (λ r. r.name) in
    let params_is : params ≡ length f.params = ps ∙ length-variables t head.state _ s ∙ length-map f.params as_variable in
    let g : Grows (functions before) (functions mid) (record { start = start; regions = regions; params = params } ∷ []) = record { is = one (omega arith) } in
    let q = more F fs script typed has.1 w.on (subst (λ j. j + length (compiled_from F j fs) ≤ 4096) (sym c) later) (omega (arith, grown g)) in (
      grows-join w.grows (subst (λ j. Grows (commands mid) (commands after) (compiled_from F j fs)) c q.0),
      grows-join (subst (λ x. Grows (functions before) (functions mid) (x ∷ [])) (entry _ _ _ _ _ _ at regions-is params_is) g) (subst (λ j. Grows (functions mid) (functions after) (listed_from j fs)) c q.1),
    )

pub functions-stop : (t : Table) (before mid after : Code) (position : ℕ) (head : Header) (end : End) → position < length t.commands.items →
    HeaderWalk t position head → BlockWalk t head.state (commands before) (commands mid) head.body Return end → end.position ≤ position → FunctionsWalk t before after position
functions-stop t before mid after position head end inside heads walk stays F [] script typed has e fits room = absurd (omega (arith, rest-length t position _ e))
functions-stop t before mid after position head end inside heads walk stays F (f ∷ fs) script typed has e fits room =
    let rest = items_each items_fun fs [] in
    let here = rest-length t position _ e in
    let (s, w) = first-laid t (commands before) (commands mid) position head end F f fs heads walk script typed has.0 e (fits-first F (length (commands before)) f fs fits).0 in
    absurd (omega (arith, here, rest-length t end.position _ w.on, fun_items f rest))
