-- Worked examples of reading and checking, by computation.
use Rattle.std.specs.Prelude.{◌≡◌, ℕ, zero, suc, ◌+◌, ◌/◌, ◌%◌, List, [], ◌∷◌, ◌++◌, map, length, Ok, Err, codes}
use Prim.Native.String.{String}
use Rattle.language.specs.Reading.{reading}
use Rattle.language.specs.Checking.{checking}

-- what a text comes to: admitted, or refused by a question at a place
pub data Outcome : Type 0 where
  admitted : Outcome
  refused : ℕ → ℕ → Outcome

-- the outcome of reading a text and then checking it
abbrev pub outcome_of : List ℕ → Outcome
outcome_of text = elim (reading text) [
  | Err e ↦ refused e.number e.place
  | Ok F ↦ elim (checking (length text) F) [ Err e ↦ refused e.number e.place | Ok G ↦ admitted ]
]

-- the same, of a text by its letters
abbrev pub outcome : String → Outcome
outcome text = outcome_of (codes text)

-- texts, each with the outcome that it has
abbrev pub examples : List (String × Outcome)
examples =
    -- lists in one region, summed by a function that is handed the region
    ("fun sum[r](l: list@r(int)): int { let s = case l { 0 } else h t { let u = call sum[r](t); let v = add h u; v }; s } fun main(n: int): int { let s = region a { let e = nil@a(int); let c = cons@a(n, e); let d = cons@a(3, c); print n; let k = call sum[a](d); k }; s }", admitted) ∷
    -- the closing region in the type's outermost word
    ("fun main(n: int): int { let p = region a { let q = nil@a(int); q }; n }", refused 14 63) ∷
    -- the closing region deep inside the type
    ("fun main(n: int): int { let x = region a { let y = region b { let q = nil@a(list@a(list@b(int))); q }; n }; x }", refused 14 98) ∷
    -- two names of the callee swapped, replaced all together
    ("fun pair[r, s](l: list@r(list@s(int))): list@s(list@r(int)) { let e = nil@s(list@r(int)); e } fun turn[r, s](l: list@r(list@s(int))): list@s(list@r(int)) { let k = call pair[r, s](l); k } fun back[r, s](l: list@s(list@r(int))): list@r(list@s(int)) { let k = call pair[s, r](l); k } fun main(n: int): int { n }", admitted) ∷
    -- the callee's spelling means nothing at the call
    ("fun keep[r](l: list@r(int)): list@r(int) { l } fun main(n: int): int { let x = region r { let y = region s { let e = nil@s(int); let f = call keep[s](e); let g = cons@s(n, f); n }; y }; x }", admitted) ∷
    ("fun keep[r](l: list@r(int)): list@r(int) { l } fun main(n: int): int { let x = region r { let y = region s { let e = nil@r(int); let f = call keep[s](e); n }; y }; x }", refused 13 150) ∷
    -- two names of the callee may mean one region
    ("fun two[r, s](l: list@r(int), m: list@s(int)): int { 1 } fun main(n: int): int { let x = region a { let e = nil@a(int); let k = call two[a, a](e, e); k }; x }", admitted) ∷
    -- headers come before question 9, question 9 before the blocks, and blocks from the left
    ("fun f(x: int): int { y } fun f(x: int): int { x }", refused 8 29) ∷
    ("fun f(x: int): int { y } fun main(n: int): list@a(int) { n }", refused 11 48) ∷
    ("fun f(x: int): int { y } ", refused 9 25) ∷
    ("fun f(x: int): int { y } fun main(n: int): int { z }", refused 11 21) ∷
    -- a name taken is refused before its right side, and the counts of a call before what is handed over
    ("fun main(n: int): int { let n = m; n }", refused 12 28) ∷
    ("fun main(n: int): int { let k = call main[a](m, m); k }", refused 16 37) ∷
    -- the second name of a case is new beside the first, behind the first block
    ("fun f[r](l: list@r(int)): int { let k = case l { 0 } else h h { 1 }; k } fun main(n: int): int { n }", refused 12 60) ∷
    -- a type of five lists may be written, and no list of such be made
    ("fun main(n: int): int { let x = region a { let y = nil@a(list@a(list@a(list@a(list@a(list@a(int)))))); n }; x }", refused 15 51) ∷
    -- question 9 at the name of a main with a region, without a parameter, with two
    ("fun main[r](n: int): int { n }", refused 9 4) ∷
    ("fun main(): int { 0 }", refused 9 4) ∷
    ("fun main(n: int, m: int): int { n }", refused 9 4) ∷
    -- question 10 comes before question 12 at one name: the ninth parameter, the ninth region, the 33rd variable
    ("fun f(a: int, b: int, c: int, d: int, e: int, g: int, h: int, i: int, a: int): int { 0 } fun main(n: int): int { n }", refused 10 70) ∷
    ("fun f[a, b, c, d, e, g, h, i, a](): int { 0 } fun main(n: int): int { n }", refused 10 30) ∷
    ("fun f[a, b, c, d, e, g, h, i](): int { let x = region a { 0 }; x } fun main(n: int): int { n }", refused 10 54) ∷
    ("fun main(n: int): int { let v0 = 0; let v1 = 0; let v2 = 0; let v3 = 0; let v4 = 0; let v5 = 0; let v6 = 0; let v7 = 0; let v8 = 0; let v9 = 0; let v10 = 0; let v11 = 0; let v12 = 0; let v13 = 0; let v14 = 0; let v15 = 0; let v16 = 0; let v17 = 0; let v18 = 0; let v19 = 0; let v20 = 0; let v21 = 0; let v22 = 0; let v23 = 0; let v24 = 0; let v25 = 0; let v26 = 0; let v27 = 0; let v28 = 0; let v29 = 0; let v30 = 0; let n = 0; n }", refused 10 421) ∷
    ("fun main(n: int): int { let v0 = 0; let v1 = 0; let v2 = 0; let v3 = 0; let v4 = 0; let v5 = 0; let v6 = 0; let v7 = 0; let v8 = 0; let v9 = 0; let v10 = 0; let v11 = 0; let v12 = 0; let v13 = 0; let v14 = 0; let v15 = 0; let v16 = 0; let v17 = 0; let v18 = 0; let v19 = 0; let v20 = 0; let v21 = 0; let v22 = 0; let v23 = 0; let v24 = 0; let v25 = 0; let v26 = 0; let v27 = 0; let v28 = 0; let v29 = 0; let v30 = 0; n }", admitted) ∷
    -- question 11 at a function, a region of a header, of nil behind its own, of cons, of a call
    ("fun main(n: int): int { let k = call f(n); k }", refused 11 37) ∷
    ("fun f[r](l: list@r(list@s(int))): int { 0 } fun main(n: int): int { n }", refused 11 24) ∷
    ("fun main(n: int): int { let x = region a { let e = nil@a(list@b(int)); n }; x }", refused 11 62) ∷
    ("fun main(n: int): int { let c = cons@a(m, m); n }", refused 11 37) ∷
    ("fun f[r](): int { 0 } fun main(n: int): int { let k = call f[a](); k }", refused 11 61) ∷
    -- question 12 at a region that is in scope, and not at one that has gone
    ("fun main(n: int): int { let x = region a { let y = region a { n }; y }; x }", refused 12 58) ∷
    ("fun main(n: int): int { let x = region a { n }; let y = region a { n }; y }", admitted) ∷
    -- question 13 at the operand, the atom printed or tested, the tail, the list taken apart
    ("fun f[r](l: list@r(int)): int { let x = add l l; x } fun main(n: int): int { n }", refused 13 44) ∷
    ("fun f[r](l: list@r(int)): int { let x = add 1 l; x } fun main(n: int): int { n }", refused 13 46) ∷
    ("fun f[r](l: list@r(int)): int { print l; 0 } fun main(n: int): int { n }", refused 13 38) ∷
    ("fun f[r](l: list@r(int)): int { let x = if l { 1 } else { 2 }; x } fun main(n: int): int { n }", refused 13 43) ∷
    ("fun f[r, s](l: list@r(int)): int { let c = cons@s(1, l); 0 } fun main(n: int): int { n }", refused 13 53) ∷
    ("fun main(n: int): int { let x = case n { 0 } else h t { h }; x }", refused 13 37) ∷
    -- question 13 at the last atom of the second block, and of a function's block
    ("fun f[r](l: list@r(int)): int { let x = if 1 { 0 } else { print 1; l }; 0 } fun main(n: int): int { n }", refused 13 67) ∷
    ("fun f[r](l: list@r(int)): int { let x = case l { 0 } else h t { t }; 0 } fun main(n: int): int { n }", refused 13 64) ∷
    ("fun f[r](l: list@r(int)): int { l } fun main(n: int): int { n }", refused 13 32) ∷
    -- question 16 for a region too few, and for an atom too many
    ("fun f[r, s](): int { 0 } fun main(n: int): int { let x = region a { let k = call f[a](); k }; x }", refused 16 81) ∷
    ("fun main(n: int): int { let k = call main(n, n); k }", refused 16 37) ∷
    -- the three kinds may share a spelling, and a name is free again behind its block
    ("fun main(main: int): int { let x = region main { let y = call main(main); y }; x }", admitted) ∷
    ("fun main(n: int): int { let x = if n { let x = 1; x } else { let x = 2; x }; x }", admitted) ∷
    -- of two faults the one further to the left, token by token
    ("fun f(a: int, a: list@s(int)): int { 0 } fun main(n: int): int { n }", refused 12 14) ∷
    ("fun f(l: list@s(int)): list@t(int) { l } fun main(n: int): int { n }", refused 11 14) ∷
    ("fun main(n: int): int { let e = nil@a(list@b(int)); n }", refused 11 36) ∷
    ("fun f[r](x: int): int { x } fun main(n: int): int { let k = call f[a](m); k }", refused 11 67) ∷
    ("fun f[r](l: list@r(int)): int { let k = case l { z } else l h { 1 }; k } fun main(n: int): int { n }", refused 11 49) ∷
    ("fun main(n: int): int { let k = if n { z } else { y }; k }", refused 11 39) ∷
    -- a list of the depth that is allowed may be made, and a region in it is asked for before its depth
    ("fun main(n: int): int { let x = region a { let y = nil@a(list@a(list@a(list@a(list@a(int))))); n }; x }", admitted) ∷
    ("fun main(n: int): int { let x = region a { let y = nil@a(list@a(list@a(list@a(list@a(list@b(int)))))); n }; x }", refused 11 90) ∷
    -- atoms from the left, each by its name and its type before the next; no tail fits a list too deep to be made
    ("fun f[r](l: list@r(int)): int { let x = add l z; x } fun main(n: int): int { n }", refused 13 44) ∷
    ("fun f[r](l: list@r(int)): int { let c = cons@r(y, z); 0 } fun main(n: int): int { n }", refused 11 47) ∷
    ("fun f[r](l: list@r(int)): int { let c = cons@r(l, l); 0 } fun main(n: int): int { n }", refused 13 50) ∷
    ("fun f[r](l: list@r(list@r(list@r(list@r(list@r(int)))))): int { let c = cons@r(l, l); 0 } fun main(n: int): int { n }", refused 13 82) ∷
    ("fun g(a: int, b: int): int { a } fun f[r](l: list@r(int)): int { let k = call g(l, z); k } fun main(n: int): int { n }", refused 13 80) ∷
    -- the atom tested, and the list taken apart, before the blocks
    ("fun f[r](l: list@r(int)): int { let x = if l { z } else { 0 }; x } fun main(n: int): int { n }", refused 13 43) ∷
    ("fun main(n: int): int { let x = case n { z } else h t { 0 }; x }", refused 13 37) ∷
    []

-- so many functions before a text, named `aa`, `ab` and on to `ah`, then `ba` and on
abbrev pub crowd : ℕ → List ℕ → List ℕ
crowd zero text = text
crowd (suc k) text = crowd k (codes "fun " ++ ((97 + k / 8) ∷ ((97 + k % 8) ∷ (codes "(): int { 0 } " ++ text))))

-- Each text has its outcome; and a script has at most 64 functions, where a name taken is refused before the count.
pub record ExamplesHold : Type 0 where
  pub texts : map (λ e. outcome e.0) examples ≡ map (λ e. e.1) examples
  pub functions_most : outcome_of (crowd 63 (codes "fun main(n: int): int { n }")) ≡ admitted
  pub functions_too_many : outcome_of (crowd 64 (codes "fun main(n: int): int { n }")) ≡ refused 10 1284
  pub functions_name_taken : outcome_of (crowd 64 (codes "fun aa(): int { 0 }")) ≡ refused 8 1284
