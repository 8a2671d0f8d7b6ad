-- A right side by the form that its first token begins.
use Rattle.std.proofs.Common.{◌≡◌, ℕ, Bool, true, false, eqb, List, [], ◌∷◌, Some, None, Option, cond, refl, sym, ap, ◌∙◌, rules}
use Rattle.std.proofs.lemmas.Bool.Decides.{Decides-like, same_from_decides}
use Rattle.std.proofs.lemmas.Slice.Eq.{IsBytesEq, compares_Decides}
use Rattle.std.specs.Map.{lookup}
use mathlib.Core.Path.{fun_ext}
use Rattle.lexing.specs.declared.token.Kind.TheVariants.{End, Name, Keyword, Numeral, Mark}
use Rattle.lexing.specs.declared.token.Kind.{Kind}
use Rattle.lexing.specs.Numbers.{kind_number}
use Rattle.lexing.specs.Tokens.{same_bytes}
use Rattle.lexing.specs.Texts.{at_end}
use borrow.Author.Tests.{both_ways}
use Rattle.language.specs.Nesting.{most_lists}
use Rattle.language.specs.Syntax.{Right, atom}
use Rattle.language.specs.Reading.{Answer, Reader, then, give, starts, is_kind, atom_of, type_of, operands, nil_of, cons_of, call_of, if_of, region_of, case_of}
use Rattle.draft.specs.Items.{operator}
use Rattle.reading.specs.declared.head.Head.{Head}
use Rattle.reading.specs.declared.head.Head.TheVariants.{Operation, Nil, Cons, Call, If, Region, Case}
use Rattle.reading.specs.declared.cursor.Cursor.{Cursor}
use Rattle.reading.specs.Cursors.{token_of, ahead, end_of}
use Rattle.reading.specs.Heads.{words, head_word, head_of}
use Rattle.reading.specs.Parts.{behind_word, side_of, nested_of}
use Rattle.reading.proofs.Steps.{starts-end, starts-more, test}

-- a right side by the form that its word names, or an atom
abbrev pub side_by : ℕ → ℕ → ℕ → Option Head → Reader Right
side_by n whole blocks (Some (Operation o)) = behind_word n (operands n (operator o))
side_by n whole blocks (Some Nil) = behind_word n (nil_of n (type_of n most_lists))
side_by n whole blocks (Some Cons) = behind_word n (cons_of n)
side_by n whole blocks (Some Call) = behind_word n (call_of n whole)
side_by n whole blocks (Some If) = behind_word n (if_of n (nested_of n whole blocks))
side_by n whole blocks (Some Region) = behind_word n (region_of n (nested_of n whole blocks))
side_by n whole blocks (Some Case) = behind_word n (case_of n (nested_of n whole blocks))
side_by n whole blocks None = λ ts. then (atom_of n ts) λ a. give (atom a)

-- the words tried one after the other are a look-up
abbrev tried : (List ℕ → Bool) → (Option Head → Answer Right) → List (List ℕ × Head) → Answer Right
tried p f [] = f None
tried p f ((w, h) ∷ ws) = elim (p w) [ true ↦ f (Some h) | false ↦ tried p f ws ]

tried_is : (p : List ℕ → Bool) (f : Option Head → Answer Right) (ws : List (List ℕ × Head)) → tried p f ws ≡ f (lookup p ws)
tried_is p f [] = refl
tried_is p f ((w, h) ∷ ws) = by (p w) (tried_is p f ws)
  where
    by : (v : Bool) → tried p f ws ≡ f (lookup p ws) → elim v as (λ _. Answer Right) [ true ↦ f (Some h) | false ↦ tried p f ws ] ≡ f (cond v (Some h) (lookup p ws))
    by true e = refl
    by false e = e

same_bytes-swaps : (v w : List ℕ) → same_bytes v w ≡ same_bytes w v
same_bytes-swaps v w =
    let h : IsBytesEq same_bytes = search rules in
    same_from_decides _ _ (compares_Decides same_bytes h v w) (Decides-like _ sym sym (compares_Decides same_bytes h w v))

not_keyword : (k : Kind) → at_end k ≡ true → eqb (kind_number k) 2 ≡ false
not_keyword End h = refl
not_keyword Name h = absurd (both_ways false refl h)
not_keyword Keyword h = absurd (both_ways false refl h)
not_keyword Numeral h = absurd (both_ways false refl h)
not_keyword Mark h = absurd (both_ways false refl h)

head_is : (k : Bool) (w : List ℕ) → lookup (λ v. elim k as (λ _. Bool) [ true ↦ same_bytes w v | false ↦ false ]) words ≡ elim k as (λ _. Option Head) [ true ↦ head_word w | false ↦ None ]
head_is true w = ap (λ (p : List ℕ → Bool). lookup p words) (fun_ext (λ v. same_bytes-swaps w v))
head_is false w = refl

-- the tests of the words, by the cursor's token
tests : (c : Cursor) → lookup (λ w. starts Keyword w (ahead c)) words ≡ head_of (token_of c)
tests c = by (at_end c.kind) refl
  where
    by : (v : Bool) → at_end c.kind ≡ v → lookup (λ w. starts Keyword w (ahead c)) words ≡ head_of (token_of c)
    by true k =
        let e : (λ (w : List ℕ). starts Keyword w (ahead c)) ≡ (λ w. false) = fun_ext (λ w. starts-end Keyword w c k) in
        ap (λ (p : List ℕ → Bool). lookup p words) e ∙ sym (ap (λ (b : Bool). elim b as (λ _. Option Head) [ true ↦ head_word c.bytes.now | false ↦ None ]) (not_keyword c.kind k))
    by false k =
        let e : (λ (w : List ℕ). starts Keyword w (ahead c)) ≡ (λ w. test Keyword w (token_of c)) = fun_ext (λ w. starts-more Keyword w c k) in
        ap (λ (p : List ℕ → Bool). lookup p words) e ∙ head_is (is_kind Keyword (token_of c)) c.bytes.now

pub side_is : (c : Cursor) (whole blocks : ℕ) (h : Option Head) → head_of (token_of c) ≡ h → side_of (end_of c) whole blocks (ahead c) ≡ side_by (end_of c) whole blocks h (ahead c)
side_is c whole blocks h q =
    let f : Option Head → Answer Right = λ h. side_by (end_of c) whole blocks h (ahead c) in
    tried_is (λ w. starts Keyword w (ahead c)) f words ∙ ap f (tests c ∙ q)
