-- What blocks, and right sides with blocks, lay down.
use Rattle.std.proofs.Common.{◌≡◌, ℕ, ◌+◌, ◌<◌, ◌≤◌, Bool, true, false, List, [], ◌∷◌, ◌++◌, length, drop, sym, ap, ◌∙◌, subst, arith, length-append}
use Rattle.language.specs.Syntax.{Ident, Atom, Right, test, region, split, Block, last, bind, print, Script}
use Rattle.language.specs.Types.{RegionType, int, list}
use Rattle.language.specs.Scope.{Scope, with_variable, with_region}
use Rattle.language.specs.Typing.{TypedRight, test_has, region_has, split_has, TypedBlock, last_has, bind_has, print_has}
use Rattle.language.specs.Checking.{type_atom, type_right}
use Rattle.language.proofs.WellTyped.{atom-says, right_says}
use Rattle.draft.specs.declared.command.Name.{Name as NameOf}
use Rattle.draft.specs.declared.table.Table.{Table}
use Rattle.draft.specs.Items.{Item, a_let, a_print, a_last, an_if, a_region, a_case, case_names, text_of, ident, items, items_atom, items_right, items_block}
use Rattle.program.specs.declared.command.Command.{Command}
use Rattle.program.specs.declared.command.Command.TheVariants.{If, Open, Case, Print, Finish}
use Rattle.program.specs.declared.command.Way.{Way}
use Rattle.program.specs.declared.command.Way.TheVariants.{Return, Leave}
use Rattle.program.specs.Compiled.{region_slot, free_slot, free_region, operand, type_in, outermost, elements, right_size, block_size, leaving, compiled_right, compiled_block}
use Rattle.program.proofs.Sizes.{right_length, block_length}
use Rattle.scope.specs.declared.state.State.{State}
use Rattle.resolving.specs.declared.atoms.Known.{Known}
use Rattle.resolving.specs.declared.rights.End.{End}
use Rattle.scope.specs.Entries.{scope_of, AddsRegion, AddsVariable}
use Rattle.resolving.specs.Walks.{Grows, AtomKnown, Stands, Stage, Walked, BlockWalk, RightWalk, ListRegion, SplitNames}
use Rattle.resolving.proofs.Scopes.{length-regions, region_added, variable_added}
use Rattle.resolving.proofs.Growth.{grows-join, grown, laid}
use Rattle.resolving.proofs.Laying.{Free, free_in, at, along}
use Rattle.resolving.proofs.Parts.{test-front, region-front, split-front, let_block, print-block, last_block}

-- a block by another word for it
along_block : {F : Script} {Γ : Scope} {T : RegionType} {t : Table} {before after : List Command} {rest : List Item} {end : End} (w : Way) (b c : Block) → b ≡ c →
    (TypedBlock F Γ c T → length before + block_size c ≤ 4096 → Walked t before after (compiled_block F Γ (length before) w c) rest T end) →
    TypedBlock F Γ b T → length before + block_size b ≤ 4096 → Walked t before after (compiled_block F Γ (length before) w b) rest T end
along_block {F} {Γ} {T} {t} {before} {after} {rest} {end} w b c is k h fits =
    subst (λ q. Walked t before after (compiled_block F Γ (length before) w q) rest T end) (sym is) (k (subst (λ q. TypedBlock F Γ q T) is h) (subst (λ q. (length before) + block_size q ≤ 4096) is fits))

-- the same script with other names
among : {t : Table} {F : Script} {n m : State} {Γ Δ : Scope} → Stage t F n Γ → scope_of t m ≡ Δ → Stage t F m Δ
among st s = record { script = st.script; typed = st.typed; scope = s }

last-by : {F : Script} {Γ : Scope} {T : RegionType} (t : Table) (n : State) (before after : List Command) (position : ℕ) (w : Way) (k : Known) (a : Atom) (rest : List Item) → AtomKnown t n (position + 1) k →
    (length before < 4096 → after ≡ before ++ Finish k.operand w ∷ []) → Stage t F n Γ → TypedBlock F Γ (last a) T → drop (position + 1) (items t) ≡ items_atom a rest → length before < 4096 →
    Walked t before after (compiled_block F Γ (length before) w (last a)) rest T (record { position = position + 2; sort = k.sort })
last-by {F} {Γ} {T} t n before after position w k a rest known one st (last_has h) e fits =
    let (m, on) = known Γ a T rest st.scope e (atom-says h) in
    record { grows = laid (one fits) (ap (λ o. Finish o w) m.operand_is); on = at t (position + 1 + 1) (position + 2) (omega arith) on; sort_is = m.sort_is }

pub last-laid : (t : Table) (n : State) (before after : List Command) (position : ℕ) (w : Way) (k : Known) → AtomKnown t n (position + 1) k → (length before < 4096 → after ≡ before ++ Finish k.operand w ∷ []) →
    Stands t position a_last → BlockWalk t n before after position w (record { position = position + 2; sort = k.sort })
last-laid t n before after position w k known one there F Γ b T rest st e h fits =
    let (a, is, xs) = last_block _ rest b (sym there ∙ e) in
    along_block w b (last a) is (λ h' f'. last-by t n before after position w k a rest known one st h' xs (omega (arith, f'))) h fits

print-by : {F : Script} {Γ : Scope} {T : RegionType} (t : Table) (n : State) (before mid after : List Command) (position p : ℕ) (w : Way) (k : Known) (end : End) (a : Atom) (b : Block) (rest : List Item) →
    AtomKnown t n (position + 1) k → (length before < 4096 → mid ≡ before ++ Print p k.operand ∷ []) → BlockWalk t n mid after (position + 2) w end →
    Stage t F n Γ → TypedBlock F Γ (print p a b) T → drop (position + 1) (items t) ≡ items_atom a (items_block b rest) → length before + (1 + block_size b) ≤ 4096 →
    Walked t before after (compiled_block F Γ (length before) w (print p a b)) rest T end
print-by {F} {Γ} {T} t n before mid after position p w k end a b rest known one more st (print_has h l) e fits =
    let (m, on) = known Γ a int (items_block b rest) st.scope e (atom-says h) in
    let g : Grows before mid (Print p (operand Γ a) ∷ []) = laid (one (omega arith)) (ap (Print p) m.operand_is) in
    let r = more F Γ b T rest st (at t (position + 1 + 1) (position + 2) (omega arith) on) l (omega (arith, grown g)) in
    let c : length mid ≡ length before + 1 = grown g in
    record {
      grows = grows-join g (subst (λ i. Grows mid after (compiled_block F Γ i w b)) c r.grows);
      on = r.on;
      sort_is = r.sort_is;
    }

pub print-laid : (t : Table) (n : State) (before mid after : List Command) (position p : ℕ) (w : Way) (k : Known) (end : End) → AtomKnown t n (position + 1) k →
    (length before < 4096 → mid ≡ before ++ Print p k.operand ∷ []) → BlockWalk t n mid after (position + 2) w end → Stands t position (a_print p) → BlockWalk t n before after position w end
print-laid t n before mid after position p w k end known one more there F Γ b T rest st e h fits =
    let (a, d, is, xs) = print-block p _ rest b (sym there ∙ e) in
    along_block w b (print p a d) is (λ h' f'. print-by t n before mid after position p w k end a d rest known one more st h' xs f') h fits

let_by : {F : Script} {Γ : Scope} {T : RegionType} (t : Table) (n m : State) (before mid after : List Command) (position : ℕ) (w : Way) (name : NameOf) (value end : End) (r : Right) (b : Block) (rest : List Item) →
    RightWalk t n before mid (position + 1) value → AddsVariable n m name value.sort →
    BlockWalk t m mid after value.position w end → Stage t F n Γ → TypedBlock F Γ (bind (ident (text_of t) name) r b) T → drop (position + 1) (items t) ≡ items_right r (items_block b rest) →
    (length before) + (right_size r + block_size b) ≤ 4096 → Walked t before after (compiled_block F Γ (length before) w (bind (ident (text_of t) name) r b)) rest T end
let_by {F} {Γ} {T} t n m before mid after position w name value end r b rest walk named more st (bind_has {S = S} new k l) e fits =
    let v = walk F Γ r b S rest st e k new.room (omega arith) in
    let c : length mid ≡ length before + right_size r = grown v.grows ∙ ap (λ j. (length before) + j) (right_length F Γ (length before) r) in
    let x = ident (text_of t) name in
    let s : scope_of t m ≡ with_variable Γ x S = variable_added t n m name value.sort Γ named st.scope new.room ∙ ap (with_variable Γ x) v.sort_is in
    let q = more F (with_variable Γ x S) b T rest (among st s) v.on l (omega (arith, c)) in
    let typed : S ≡ type_in (type_right F Γ r) = sym (ap type_in (right_says k)) in
    record {
      grows = grows-join v.grows (subst (λ U. Grows mid after (compiled_block F (with_variable Γ x U) (length before + right_size r) w b)) typed
          (subst (λ i. Grows mid after (compiled_block F (with_variable Γ x S) i w b)) c q.grows));
      on = q.on;
      sort_is = q.sort_is;
    }

pub let_laid : (t : Table) (n m : State) (before mid after : List Command) (position : ℕ) (w : Way) (name : NameOf) (value end : End) → RightWalk t n before mid (position + 1) value →
    AddsVariable n m name value.sort → BlockWalk t m mid after value.position w end →
    Stands t position (a_let (ident (text_of t) name)) → BlockWalk t n before after position w end
let_laid t n m before mid after position w name value end walk named more there F Γ b T rest st e h fits =
    let (r, d, is, xs) = let_block (ident (text_of t) name) _ rest b (sym there ∙ e) in
    along_block w b (bind (ident (text_of t) name) r d) is (λ h' f'. let_by t n m before mid after position w name value end r d rest walk named more st h' xs f') h fits

-- the tape that was set back
abbrev SetBack : List Command → List Command → List Command → Type 0
SetBack before tape back = (cs : List Command) → Grows before tape cs → back ≡ before

-- what was laid down once more lies behind what lay there before
again : {before back after : List Command} {x y : Command} → back ≡ before → (length back < 4096 → after ≡ back ++ x ∷ []) → length before < 4096 → x ≡ y → Grows before after (y ∷ [])
again {after = after} {y = y} e one h same = subst (λ l. Grows l after (y ∷ [])) e (laid (one (omega (arith, ap length e))) same)

counted : (F : Script) (Γ : Scope) (i : ℕ) (w : Way) {before after : List Command} (b : Block) → Grows before after (compiled_block F Γ i w b) → length after ≡ length before + block_size b
counted F Γ i w {before} b g = grown g ∙ ap (λ j. (length before) + j) (block_length F Γ i w b)

two-same : (F : Script) (Γ Δ : Scope) (b c : Block) {x : Command} {i i' j j' : ℕ} {w w' : Way} → i ≡ i' → j ≡ j' → w ≡ w' →
    ◌≡◌ {A = List Command} (x ∷ (compiled_block F Γ i w b ++ compiled_block F Δ j w c)) (x ∷ (compiled_block F Γ i' w' b ++ compiled_block F Δ j' w' c))
two-same F Γ Δ b c e f g = cc

one-same : (F : Script) (Γ : Scope) (b : Block) {x : Command} {i i' : ℕ} {w w' : Way} → i ≡ i' → w ≡ w' → ◌≡◌ {A = List Command} (x ∷ compiled_block F Γ i w b) (x ∷ compiled_block F Γ i' w' b)
one-same F Γ b e f = cc

leaves : (i i' s s' : ℕ) (v : Bool) → i ≡ i' → s ≡ s' → Leave i s v ≡ Leave i' s' v
leaves i i' s s' v e f = cc

choose_by : {F : Script} {Γ : Scope} {T : RegionType} (t : Table) (n : State) (before d₁ d₂ d₃ back p₁ p₂ after : List Command) (position slot p second end : ℕ) (x₀ : Command) (k : Known) (middle other first final : End) (a : Atom) (b c : Block) (rest : List Item) →
    AtomKnown t n (position + 1) k → Free n slot → (length before < 4096 → d₁ ≡ before ++ x₀ ∷ []) → BlockWalk t n d₁ d₂ (position + 2) Return middle →
    BlockWalk t n d₂ d₃ middle.position Return other → second ≡ length d₂ → end ≡ length d₃ → SetBack before d₃ back → (length back < 4096 → p₁ ≡ back ++ If k.operand second ∷ []) →
    BlockWalk t n p₁ p₂ (position + 2) (Leave end slot false) first → BlockWalk t n p₂ after first.position (Leave end slot false) final →
    Stage t F n Γ → TypedRight F Γ (test p a b c) T → drop (position + 1) (items t) ≡ items_atom a (items_block b (items_block c rest)) → length before + (1 + (block_size b + block_size c)) ≤ 4096 →
    Walked t before after (compiled_right F Γ (length before) (test p a b c)) rest T (record { position = final.position; sort = first.sort })
choose_by {F} {Γ} {T} t n before d₁ d₂ d₃ back p₁ p₂ after position slot p second end x₀ k middle other first final a b c rest known free g₁ b₁ b₂ two all set g₂ b₃ b₄ st (test_has h j l) e fits =
    let (m, on) = known Γ a int (items_block b (items_block c rest)) st.scope e (atom-says h) in
    let on₂ = at t (position + 1 + 1) (position + 2) (omega arith) on in
    let G₁ : Grows before d₁ (x₀ ∷ []) = record { is = g₁ (omega arith) } in
    let W₁ = b₁ F Γ b T (items_block c rest) st on₂ j (omega (arith, grown G₁)) in
    let C₁ = counted F Γ _ _ b W₁.grows in
    let W₂ = b₂ F Γ c T rest st W₁.on l (omega (arith, grown G₁, C₁)) in
    let C₂ = counted F Γ _ _ c W₂.grows in
    let second-is : second ≡ length before + 1 + block_size b = omega (arith, two, grown G₁, C₁) in
    let G₂ : Grows before p₁ (If (operand Γ a) (length before + 1 + block_size b) ∷ []) = again (set _ (grows-join G₁ (grows-join W₁.grows W₂.grows))) g₂ (omega arith) (cc (m.operand_is, second-is)) in
    let W₃ = b₃ F Γ b T (items_block c rest) st on₂ j (omega (arith, grown G₂)) in
    let C₃ = counted F Γ _ _ b W₃.grows in
    let W₄ = b₄ F Γ c T rest st W₃.on l (omega (arith, grown G₂, C₃)) in
    let start : length p₁ ≡ length before + 1 = omega (arith, grown G₂) in
    let next : length p₂ ≡ length before + 1 + block_size b = omega (arith, start, C₃) in
    let end-is : end ≡ length before + 1 + block_size b + block_size c = omega (arith, all, grown G₁, C₁, C₂) in
    record {
      grows = subst (λ cs. Grows before after cs) (two-same F Γ Γ b c start next (leaves _ _ _ _ false end-is (free_in st free))) (grows-join G₂ (grows-join W₃.grows W₄.grows));
      on = W₄.on;
      sort_is = W₃.sort_is;
    }

pub choose_laid : (t : Table) (n : State) (before d₁ d₂ d₃ back p₁ p₂ after : List Command) (position slot p second end : ℕ) (x₀ : Command) (k : Known) (middle other first final : End) →
    AtomKnown t n (position + 1) k → Free n slot → (length before < 4096 → d₁ ≡ before ++ x₀ ∷ []) → BlockWalk t n d₁ d₂ (position + 2) Return middle →
    BlockWalk t n d₂ d₃ middle.position Return other → second ≡ length d₂ → end ≡ length d₃ → SetBack before d₃ back → (length back < 4096 → p₁ ≡ back ++ If k.operand second ∷ []) →
    BlockWalk t n p₁ p₂ (position + 2) (Leave end slot false) first → BlockWalk t n p₂ after first.position (Leave end slot false) final →
    Stands t position (an_if p) → RightWalk t n before after position (record { position = final.position; sort = first.sort })
choose_laid t n before d₁ d₂ d₃ back p₁ p₂ after position slot p second end x₀ k middle other first final known free g₁ b₁ b₂ two all set g₂ b₃ b₄ there F Γ r d T rest st e h room fits =
    let (a, b, c, is, xs) = test-front p _ (items_block d rest) r (sym there ∙ e) in
    along r (test p a b c) is (λ h' f'. choose_by t n before d₁ d₂ d₃ back p₁ p₂ after position slot p second end x₀ k middle other first final a b c (items_block d rest) known free g₁ b₁ b₂ two all set g₂ b₃ b₄ st h' xs f') h fits

open_by : {F : Script} {Γ : Scope} {T : RegionType} (t : Table) (n inner : State) (before d₁ d₂ back p₁ after : List Command) (position slot place p end : ℕ) (name : NameOf) (other final : End) (b : Block) (rest : List Item) →
    Free n slot → place ≡ length n.regions.items → AddsRegion n inner name →
    (length before < 4096 → d₁ ≡ before ++ Open p place ∷ []) → BlockWalk t inner d₁ d₂ (position + 1) Return other → end ≡ length d₂ → SetBack before d₂ back →
    (length back < 4096 → p₁ ≡ back ++ Open p place ∷ []) → BlockWalk t inner p₁ after (position + 1) (Leave end slot true) final →
    Stage t F n Γ → TypedRight F Γ (region p (ident (text_of t) name) b) T → drop (position + 1) (items t) ≡ items_block b rest → length before + (1 + block_size b) ≤ 4096 →
    Walked t before after (compiled_right F Γ (length before) (region p (ident (text_of t) name) b)) rest T final
open_by {F} {Γ} {T} t n inner before d₁ d₂ back p₁ after position slot place p end name other final b rest free numbered named g₁ b₁ all set g₂ b₂ st (region_has new k l) e fits =
    let Δ = with_region Γ (ident (text_of t) name) in
    let s : scope_of t inner ≡ Δ = region_added t n inner name Γ named st.scope new.room in
    let G₁ : Grows before d₁ (Open p place ∷ []) = record { is = g₁ (omega arith) } in
    let W₁ = b₁ F Δ b T rest (among st s) e k (omega (arith, grown G₁)) in
    let C₁ = counted F Δ _ _ b W₁.grows in
    let G₂ : Grows before p₁ (Open p (free_region Γ) ∷ []) = again (set _ (grows-join G₁ W₁.grows)) g₂ (omega arith) (ap (Open p) (numbered ∙ length-regions t n Γ st.scope)) in
    let W₂ = b₂ F Δ b T rest (among st s) e k (omega (arith, grown G₂)) in
    let start : length p₁ ≡ length before + 1 = omega (arith, grown G₂) in
    let end-is : end ≡ length before + 1 + block_size b = omega (arith, all, grown G₁, C₁) in
    record {
      grows = subst (λ cs. Grows before after cs) (one-same F Δ b start (leaves _ _ _ _ true end-is (free_in st free))) (grows-join G₂ W₂.grows);
      on = W₂.on;
      sort_is = W₂.sort_is;
    }

pub open_laid : (t : Table) (n inner : State) (before d₁ d₂ back p₁ after : List Command) (position slot place p end : ℕ) (name : NameOf) (other final : End) →
    Free n slot → place ≡ length n.regions.items → AddsRegion n inner name →
    (length before < 4096 → d₁ ≡ before ++ Open p place ∷ []) → BlockWalk t inner d₁ d₂ (position + 1) Return other → end ≡ length d₂ → SetBack before d₂ back →
    (length back < 4096 → p₁ ≡ back ++ Open p place ∷ []) → BlockWalk t inner p₁ after (position + 1) (Leave end slot true) final →
    Stands t position (a_region p (ident (text_of t) name)) → RightWalk t n before after position final
open_laid t n inner before d₁ d₂ back p₁ after position slot place p end name other final free numbered named g₁ b₁ all set g₂ b₂ there F Γ r d T rest st e h room fits =
    let (b, is, xs) = region-front p (ident (text_of t) name) _ (items_block d rest) r (sym there ∙ e) in
    along r (region p (ident (text_of t) name) b) is (λ h' f'. open_by t n inner before d₁ d₂ back p₁ after position slot place p end name other final b (items_block d rest) free numbered named g₁ b₁ all set g₂ b₂ st h' xs f') h fits

split_by : {F : Script} {Γ : Scope} {T : RegionType} (t : Table) (n : State) (before d₁ d₂ d₃ back p₁ p₂ after : List Command) (position slot place p second end : ℕ) (x₀ : Command) (k : Known) (middle other first final : End) (inner : State) (brought-end : ℕ) (a : Atom) (b c : Block) (x y : Ident) (rest : List Item) →
    AtomKnown t n (position + 1) k → Free n slot → ListRegion t n k.sort place → (length before < 4096 → d₁ ≡ before ++ x₀ ∷ []) →
    BlockWalk t n d₁ d₂ (position + 2) Return middle → SplitNames t n inner k.sort middle.position brought-end → BlockWalk t inner d₂ d₃ brought-end Return other → second ≡ length d₂ → end ≡ length d₃ → SetBack before d₃ back →
    (length back < 4096 → p₁ ≡ back ++ Case k.operand place second slot ∷ []) → BlockWalk t n p₁ p₂ (position + 2) (Leave end slot false) first →
    BlockWalk t inner p₂ after brought-end (Leave end slot false) final →
    Stage t F n Γ → TypedRight F Γ (split p a b x y c) T → drop (position + 1) (items t) ≡ items_atom a (items_block b (case_names x y ∷ items_block c rest)) → length before + (1 + (block_size b + block_size c)) ≤ 4096 →
    Walked t before after (compiled_right F Γ (length before) (split p a b x y c)) rest T (record { position = final.position; sort = first.sort })
split_by {F} {Γ} {T} t n before d₁ d₂ d₃ back p₁ p₂ after position slot place p second end x₀ k middle other first final inner brought-end a b c x y rest known free placed g₁ b₁ brought b₂ two all set g₂ b₃ b₄ st (split_has {r = q} {S = S} h j new₁ new₂ l) e fits =
    let Δ = with_variable (with_variable Γ x S) y (list q S) in
    let (m, on) = known Γ a (list q S) (items_block b (case_names x y ∷ items_block c rest)) st.scope e (atom-says h) in
    let on₂ = at t (position + 1 + 1) (position + 2) (omega arith) on in
    let G₁ : Grows before d₁ (x₀ ∷ []) = record { is = g₁ (omega arith) } in
    let W₁ = b₁ F Γ b T (case_names x y ∷ items_block c rest) st on₂ j (omega (arith, grown G₁)) in
    let C₁ = counted F Γ _ _ b W₁.grows in
    let room : length Γ.variables + 1 < 32 = omega (arith, new₂.room, length-append Γ.variables (record { name = x.name; type = S } ∷ [])) in
    let (s, on₃) = brought Γ x y q S (items_block c rest) st.scope W₁.on m.sort_is room in
    let S₂ = among {m = inner} st s in
    let W₂ = b₂ F Δ c T rest S₂ on₃ l (omega (arith, grown G₁, C₁)) in
    let C₂ = counted F Δ _ _ c W₂.grows in
    let second-is : second ≡ length before + 1 + block_size b = omega (arith, two, grown G₁, C₁) in
    let G₂ : Grows before p₁ (Case (operand Γ a) (region_slot Γ q) (length before + 1 + block_size b) (free_slot Γ) ∷ []) =
    again (set _ (grows-join G₁ (grows-join W₁.grows W₂.grows))) g₂ (omega arith) (cc (m.operand_is, placed q S m.sort_is ∙ ap (λ Θ. region_slot Θ q) st.scope, second-is, free_in st free)) in
    let W₃ = b₃ F Γ b T (case_names x y ∷ items_block c rest) st on₂ j (omega (arith, grown G₂)) in
    let C₃ = counted F Γ _ _ b W₃.grows in
    let W₄ = b₄ F Δ c T rest S₂ on₃ l (omega (arith, grown G₂, C₃)) in
    let start : length p₁ ≡ length before + 1 = omega (arith, grown G₂) in
    let next : length p₂ ≡ length before + 1 + block_size b = omega (arith, start, C₃) in
    let end-is : end ≡ length before + 1 + block_size b + block_size c = omega (arith, all, grown G₁, C₁, C₂) in
    let typed : list q S ≡ type_in (type_atom Γ a) = sym (ap type_in (atom-says h)) in
    let w = leaving Γ (length before + 1 + block_size b + block_size c) false in
    record {
      grows =
          subst (λ L. Grows before after (Case (operand Γ a) (region_slot Γ (outermost L)) (length before + 1 + block_size b) (free_slot Γ) ∷
          (compiled_block F Γ (length before + 1) w b ++ compiled_block F (with_variable (with_variable Γ x (elements L)) y L) (length before + 1 + block_size b) w c))) typed
          (subst (λ cs. Grows before after cs)
          (two-same F Γ Δ b c start next (leaves _ _ _ _ false end-is (free_in st free)))
          (grows-join G₂ (grows-join W₃.grows W₄.grows)));
      on = W₄.on;
      sort_is = W₃.sort_is;
    }

pub split-laid : (t : Table) (n : State) (before d₁ d₂ d₃ back p₁ p₂ after : List Command) (position slot place p second end : ℕ) (x₀ : Command) (k : Known) (middle other first final : End) (inner : State) (brought-end : ℕ) →
    AtomKnown t n (position + 1) k → Free n slot → ListRegion t n k.sort place → (length before < 4096 → d₁ ≡ before ++ x₀ ∷ []) →
    BlockWalk t n d₁ d₂ (position + 2) Return middle → SplitNames t n inner k.sort middle.position brought-end → BlockWalk t inner d₂ d₃ brought-end Return other → second ≡ length d₂ → end ≡ length d₃ → SetBack before d₃ back →
    (length back < 4096 → p₁ ≡ back ++ Case k.operand place second slot ∷ []) → BlockWalk t n p₁ p₂ (position + 2) (Leave end slot false) first →
    BlockWalk t inner p₂ after brought-end (Leave end slot false) final →
    Stands t position (a_case p) → RightWalk t n before after position (record { position = final.position; sort = first.sort })
split-laid t n before d₁ d₂ d₃ back p₁ p₂ after position slot place p second end x₀ k middle other first final inner brought-end known free placed g₁ b₁ brought b₂ two all set g₂ b₃ b₄ there F Γ r d T rest st e h room fits =
    let (a, b, x, y, c, is, xs) = split-front p _ (items_block d rest) r (sym there ∙ e) in
    along r (split p a b x y c) is
    (λ h' f'. split_by t n before d₁ d₂ d₃ back p₁ p₂ after position slot place p second end x₀ k middle other first final inner brought-end a b c x y (items_block d rest) known free placed g₁ b₁ brought b₂ two all set g₂ b₃ b₄ st h' xs f') h fits
