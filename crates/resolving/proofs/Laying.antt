-- What one right side without blocks lays down.
use Rattle.std.proofs.Common.{◌≡◌, ℕ, ◌+◌, ◌<◌, ◌≤◌, List, [], ◌∷◌, length, drop, sym, refl, ap, ◌∙◌, subst, arith, ◌++◌}
use Rattle.std.proofs.lemmas.List.{length-map}
use Rattle.language.specs.Syntax.{Ident, Ty, Atom, Right, oper, nil, cons, call, Block, Script}
use Rattle.language.specs.Types.{RegionType, int, list, replaced}
use Rattle.language.specs.Scope.{Scope, names}
use Rattle.language.specs.Typing.{TypedRight, oper_has, nil_has, cons_has, call_has, TypedHeader}
use Rattle.language.proofs.WellTyped.{atom-says}
use Rattle.language.proofs.InScope.{headers-each}
use Rattle.draft.specs.declared.command.Name.{Name as NameOf}
use Rattle.draft.specs.declared.command.Operator.{Operator}
use Rattle.draft.specs.declared.command.Operator.TheVariants.{Add, Sub, Mul, Div, Rem, Eq, Lt}
use Rattle.draft.specs.declared.table.Table.{Table}
use Rattle.draft.specs.Items.{Item, a_function, an_operation, a_nil, a_cons, a_call, text_of, items, ident, operator, items_type, items_atom, items_each, items_handed, items_block, items_fun}
use Rattle.scope.specs.declared.types.Sort.TheVariants.{Int, Written, Called}
use Rattle.scope.specs.Words.{bytes, row, declared, handed as handed-word, type_at}
use Rattle.program.specs.declared.command.Command.{Command}
use Rattle.program.specs.declared.command.Command.TheVariants.{Move, Operate, Nil, Cons, Call, Hand}
use Rattle.program.specs.Compiled.{region_slot, free_slot, operator_of, function_index, right_size, compiled_right}
use Rattle.program.proofs.Found.{found_all}
use Rattle.scope.specs.declared.state.State.{State}
use Rattle.resolving.specs.declared.atoms.Known.{Known}
use Rattle.resolving.specs.declared.calls.Callee.{Callee}
use Rattle.resolving.specs.declared.headers.Header.{Header}
use Rattle.resolving.specs.declared.rights.End.{End}
use Rattle.scope.specs.Entries.{scope_of}
use Rattle.resolving.specs.Walks.{Grows, AtomKnown, Hands, Argues, Sought, OneBehind, TypeBehind, HeaderWalk, Stands, Stage, Walked, AtomWalk, RightWalk, functions_before, function_from}
use Rattle.resolving.proofs.Scopes.{length-variables}
use Rattle.resolving.proofs.Growth.{grows-join, grown, laid}
use Rattle.resolving.proofs.Heading.{type-front}
use Rattle.resolving.proofs.Parts.{oper-front, nil-front, cons-front, call-front}
use Rattle.resolving.proofs.Rows.{declared-row, handed-row}
use Rattle.resolving.proofs.Scanning.{scanned}

-- the slot for the next variable
abbrev pub Free : State → ℕ → Type 0
Free n slot = slot ≡ length n.variables.items

pub free_in : {t : Table} {F : Script} {n : State} {Γ : Scope} {slot : ℕ} → Stage t F n Γ → Free n slot → slot ≡ free_slot Γ
free_in {t} {n = n} {Γ} st free = free ∙ length-variables t n Γ st.scope

pub at : {xs : List Item} (t : Table) (p q : ℕ) → p ≡ q → drop p (items t) ≡ xs → drop q (items t) ≡ xs
at {xs} t p q e h = subst (λ k. drop k (items t) ≡ xs) e h

pub copied : (t : Table) (n : State) (before after : List Command) (position slot : ℕ) (k : Known) → AtomKnown t n position k → Free n slot →
    (length before < 4096 → after ≡ before ++ Move k.operand slot ∷ []) → AtomWalk t n before after position (record { position = position + 1; sort = k.sort })
copied t n before after position slot k known free one F Γ a T rest st e h fits =
    let (m, on) = known Γ a T rest st.scope e (atom-says h) in
    record {
      grows = laid (one fits) (cc (m.operand_is, free_in st free));
      on = on;
      sort_is = m.sort_is;
    }

operator-back : (o : Operator) → operator_of (operator o) ≡ o
operator-back Add = refl
operator-back Sub = refl
operator-back Mul = refl
operator-back Div = refl
operator-back Rem = refl
operator-back Eq = refl
operator-back Lt = refl

operated-by : {F : Script} {Γ : Scope} {T : RegionType} (t : Table) (n : State) (before after : List Command) (position slot p : ℕ) (o : Operator) (k l : Known) (a b : Atom) (rest : List Item) →
    AtomKnown t n (position + 1) k → AtomKnown t n (position + 2) l → Free n slot → (length before < 4096 → after ≡ before ++ Operate p o k.operand l.operand slot ∷ []) →
    Stage t F n Γ → TypedRight F Γ (oper p (operator o) a b) T → drop (position + 1) (items t) ≡ items_atom a (items_atom b rest) → length before < 4096 →
    Walked t before after (compiled_right F Γ (length before) (oper p (operator o) a b)) rest T (record { position = position + 3; sort = Int })
operated-by {F} {Γ} t n before after position slot p o k l a b rest first second free one st (oper_has i j) e fits =
    let (m, on) = first Γ a int (items_atom b rest) st.scope e (atom-says i) in
    let (m', on') = second Γ b int rest st.scope (at t (position + 1 + 1) (position + 2) (omega arith) on) (atom-says j) in
    record {
      grows = laid (one fits) (cc (m.operand_is, m'.operand_is, operator-back o, free_in st free));
      on = at t (position + 2 + 1) (position + 3) (omega arith) on';
      sort_is = refl;
    }

-- a right side by another word for it
pub along : {F : Script} {Γ : Scope} {T : RegionType} {t : Table} {before after : List Command} {rest : List Item} {end : End} (r s : Right) → r ≡ s →
    (TypedRight F Γ s T → length before + right_size s ≤ 4096 → Walked t before after (compiled_right F Γ (length before) s) rest T end) →
    TypedRight F Γ r T → length before + right_size r ≤ 4096 → Walked t before after (compiled_right F Γ (length before) r) rest T end
along {F} {Γ} {T} {t} {before} {after} {rest} {end} r s is k h fits =
    subst (λ q. Walked t before after (compiled_right F Γ (length before) q) rest T end) (sym is) (k (subst (λ q. TypedRight F Γ q T) is h) (subst (λ q. (length before) + right_size q ≤ 4096) is fits))

pub operated : (t : Table) (n : State) (before after : List Command) (position slot p : ℕ) (o : Operator) (k l : Known) → AtomKnown t n (position + 1) k → AtomKnown t n (position + 2) l → Free n slot →
    (length before < 4096 → after ≡ before ++ Operate p o k.operand l.operand slot ∷ []) → Stands t position (an_operation p (operator o)) →
    RightWalk t n before after position (record { position = position + 3; sort = Int })
operated t n before after position slot p o k l first second free one there F Γ r d T rest st e h room fits =
    let (a, b, is, xs) = oper-front p (operator o) _ (items_block d rest) r (sym there ∙ e) in
    along r (oper p (operator o) a b) is (λ h' f'. operated-by t n before after position slot p o k l a b (items_block d rest) first second free one st h' xs (omega (arith, f'))) h fits

nil-by : {F : Script} {Γ : Scope} {T : RegionType} (t : Table) (n : State) (before after : List Command) (position slot end p : ℕ) (x : Ident) (u : Ty) (rest : List Item) →
    Free n slot → (length before < 4096 → after ≡ before ++ Nil slot ∷ []) → TypeBehind t (position + 1) end → drop position (items t) ≡ a_nil p x ∷ drop (position + 1) (items t) →
    Stage t F n Γ → TypedRight F Γ (nil p x u) T → drop (position + 1) (items t) ≡ items_type u rest → length before < 4096 →
    Walked t before after (compiled_right F Γ (length before) (nil p x u)) rest T (record { position = end; sort = Written position })
nil-by {F} {Γ} t n before after position slot end p x u rest free one typ there st (nil_has i j k) e fits =
    record {
      grows = laid (one fits) (ap Nil (free_in st free));
      on = typ u rest e;
      sort_is = ap type_at there ∙ ap (λ xs. list x.name (type_at xs)) e ∙ ap (list x.name) (type-front u rest);
    }

pub nil-laid : (t : Table) (n : State) (before after : List Command) (position slot end p : ℕ) (x : Ident) → Free n slot → (length before < 4096 → after ≡ before ++ Nil slot ∷ []) → TypeBehind t (position + 1) end →
    Stands t position (a_nil p x) → RightWalk t n before after position (record { position = end; sort = Written position })
nil-laid t n before after position slot end p x free one typ there F Γ r d T rest st e h room fits =
    let (u, is, xs) = nil-front p x _ (items_block d rest) r (sym there ∙ e) in
    along r (nil p x u) is (λ h' f'. nil-by t n before after position slot end p x u (items_block d rest) free one typ there st h' xs (omega (arith, f'))) h fits

cons-by : {F : Script} {Γ : Scope} {T : RegionType} (t : Table) (n : State) (before after : List Command) (position slot p target : ℕ) (x : Ident) (k l : Known) (a b : Atom) (rest : List Item) →
    AtomKnown t n (position + 1) k → AtomKnown t n (position + 2) l → target ≡ region_slot (scope_of t n) x.name → Free n slot →
    (length before < 4096 → after ≡ before ++ Cons p target k.operand l.operand slot ∷ []) → Stage t F n Γ → TypedRight F Γ (cons p x a b) T →
    drop (position + 1) (items t) ≡ items_atom a (items_atom b rest) → length before < 4096 →
    Walked t before after (compiled_right F Γ (length before) (cons p x a b)) rest T (record { position = position + 3; sort = l.sort })
cons-by {F} {Γ} t n before after position slot p target x k l a b rest first second slot_is free one st (cons_has {T = S} i j u) e fits =
    let (m, on) = first Γ a S (items_atom b rest) st.scope e (atom-says j) in
    let (m', on') = second Γ b (list x.name S) rest st.scope (at t (position + 1 + 1) (position + 2) (omega arith) on) (atom-says u) in
    record {
      grows = laid (one fits) (cc (m.operand_is, m'.operand_is, slot_is ∙ ap (λ Δ. region_slot Δ x.name) st.scope, free_in st free));
      on = at t (position + 2 + 1) (position + 3) (omega arith) on';
      sort_is = m'.sort_is;
    }

pub cons-laid : (t : Table) (n : State) (before after : List Command) (position slot p target : ℕ) (x : Ident) (k l : Known) → AtomKnown t n (position + 1) k → AtomKnown t n (position + 2) l →
    target ≡ region_slot (scope_of t n) x.name → Free n slot → (length before < 4096 → after ≡ before ++ Cons p target k.operand l.operand slot ∷ []) → Stands t position (a_cons p x) →
    RightWalk t n before after position (record { position = position + 3; sort = l.sort })
cons-laid t n before after position slot p target x k l first second slot_is free one there F Γ r d T rest st e h room fits =
    let (a, b, is, xs) = cons-front p x _ (items_block d rest) r (sym there ∙ e) in
    along r (cons p x a b) is (λ h' f'. cons-by t n before after position slot p target x k l a b (items_block d rest) first second slot_is free one st h' xs (omega (arith, f'))) h fits

call_by : {F : Script} {Γ : Scope} {T : RegionType} (t : Table) (n : State) (before mid next after : List Command) (position slot p declared-at middle end : ℕ) (name : NameOf) (c : Callee) (head : Header)
    (rs : List Ident) (args : List Atom) (d : Block) (rest : List Item) → Sought t (bytes (text_of t) name) 0 0 c → HeaderWalk t c.header head → OneBehind t c.header declared-at → Free n slot →
    (length before < 4096 → mid ≡ before ++ Call p c.index slot ∷ []) → Hands t n mid next (position + 1) middle → Argues t n next after middle end →
    Stage t F n Γ → TypedRight F Γ (call p (ident (text_of t) name) rs args) T → drop (position + 1) (items t) ≡ items_each items_handed rs (items_each items_atom args (items_block d rest)) →
    (length before) + (1 + (length rs + length args)) ≤ 4096 →
    Walked t before after (compiled_right F Γ (length before) (call p (ident (text_of t) name) rs args)) (items_block d rest) T (record { position = end; sort = Called head.result declared-at (position + 1) })
call_by {F} {Γ} t n before mid next after position slot p declared-at middle end name c head rs args d rest sought heads one-behind free one hands argues st (call_has {f = f} found many known typed is) e fits =
    let x = bytes (text_of t) name in
    let s = scanned F x f found in
    let index : c.index ≡ function_index F x = omega (arith, sought.0, ap (λ l. functions_before x l) st.script, s.index) in
    let header_at : drop c.header (items t) ≡ items_fun f s.rest = sought.1 ∙ ap (function_from x) st.script ∙ s.header in
    let h = heads f s.rest header_at (found_all TypedHeader (λ g. g.name.name) x F f (headers-each st.typed.headers) found) in
    let olds = one-behind (a_function f.name) _ header_at in
    let g : Grows before mid (Call p (function_index F x) (free_slot Γ) ∷ []) = laid (one (omega arith)) (cc (index, free_in st free)) in
    let p₁ = hands Γ rs args d rest st.scope e (omega (arith, grown g)) in
    let p₂ = argues Γ args _ d rest st.scope p₁.on typed (omega (arith, grown g, grown p₁.grows, length-map rs (λ r. Hand (region_slot Γ r.name)))) in
    record {
      grows = grows-join g (grows-join p₁.grows p₂.grows);
      on = p₂.on;
      sort_is =
          ap (λ l. replaced (row declared l) (row handed-word (drop (position + 1) (items t))) (type_at (drop head.result (items t)))) olds ∙
          ap (λ l. replaced l (row handed-word (drop (position + 1) (items t))) (type_at (drop head.result (items t)))) (declared-row f.regions f.params _) ∙
          ap (λ l. replaced (names f.regions) (row handed-word l) (type_at (drop head.result (items t)))) e ∙
          ap (λ l. replaced (names f.regions) l (type_at (drop head.result (items t)))) (handed-row rs args d rest) ∙
          ap (λ l. replaced (names f.regions) (names rs) (type_at l)) h.result ∙ ap (replaced (names f.regions) (names rs)) (type-front f.result _) ∙ is;
    }

pub call-laid : (t : Table) (n : State) (before mid next after : List Command) (position slot p declared-at middle end : ℕ) (name : NameOf) (c : Callee) (head : Header) →
    Sought t (bytes (text_of t) name) 0 0 c → HeaderWalk t c.header head → OneBehind t c.header declared-at → Free n slot →
    (length before < 4096 → mid ≡ before ++ Call p c.index slot ∷ []) → Hands t n mid next (position + 1) middle → Argues t n next after middle end →
    Stands t position (a_call p (ident (text_of t) name)) → RightWalk t n before after position (record { position = end; sort = Called head.result declared-at (position + 1) })
call-laid t n before mid next after position slot p declared-at middle end name c head sought heads one-behind free one hands argues there F Γ r d T rest st e h room fits =
    let (rs, args, is, xs) = call-front p (ident (text_of t) name) _ (items_block d rest) r (sym there ∙ e) in
    along r (call p (ident (text_of t) name) rs args) is
    (λ h' f'. call_by t n before mid next after position slot p declared-at middle end name c head rs args d rest sought heads one-behind free one hands argues st h' xs f') h fits
