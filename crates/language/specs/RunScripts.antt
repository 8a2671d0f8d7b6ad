-- Scripts of the worked runs, each the program of its text.
use Prim.Native.String.{String}
use Rattle.std.specs.Prelude.{length, Some, None, Ok, Err, codes, Option}
use Rattle.language.specs.Syntax.{Script}
use Rattle.language.specs.Reading.{reading}
use Rattle.language.specs.Checking.{checking}

-- the program of a text that reading and checking admit
abbrev pub program : String → Option Script
program text = elim (reading (codes text)) [ Err e ↦ None | Ok F ↦ elim (checking (length (codes text)) F) [ Err e ↦ None | Ok G ↦ Some G ] ]

-- sums the list of 3 and its number, over a region handed over
abbrev pub sum_program : Option Script
sum_program = program "fun sum[r](l: list@r(int)): int { let s = case l { 0 } else h t { let u = call sum[r](t); let v = add h u; v }; s } fun main(n: int): int { let s = region a { let e = nil@a(int); let c = cons@a(n, e); let d = cons@a(3, c); print n; let k = call sum[a](d); k }; s }"

-- calls itself without end
abbrev pub deep_program : Option Script
deep_program = program "fun main(n: int): int { let x = call main(n); x }"

-- hands its inner region over to a function that has the outer one's name for it
abbrev pub handing_program : Option Script
handing_program = program "fun put[a](n: int, l: list@a(int)): list@a(int) { let c = cons@a(n, l); c } fun main(n: int): int { let s = region a { let t = region b { let e = nil@a(int); let c = cons@a(n, e); let f = nil@b(int); let d = call put[b](n, f); 0 }; t }; s }"

-- divides, and adds beyond 32 bits
abbrev pub cut_program : Option Script
cut_program = program "fun main(n: int): int { let q = div -7 n; print q; let r = rem -7 n; print r; let m = add 2147483647 1; m }"

-- leaves one region and enters another
abbrev pub twice_program : Option Script
twice_program = program "fun main(n: int): int { let x = region a { let e = nil@a(int); let c = cons@a(n, e); n }; let y = region b { let e = nil@b(int); let c = cons@b(x, e); x }; y }"

-- calls itself without end, each time out of two new regions
abbrev pub opening_program : Option Script
opening_program = program "fun f(n: int): int { let x = region a { let y = region b { let z = call f(n); z }; y }; x } fun main(n: int): int { let x = call f(n); x }"

-- chooses by comparing, and subtracts or multiplies
abbrev pub pick_program : Option Script
pick_program = program "fun pick(a: int, b: int): int { let c = lt a b; let d = if c { let e = sub a b; e } else { let e = mul a b; e }; d } fun main(n: int): int { let x = call pick(n, 65536); print x; let q = eq x n; print q; let r = rem x n; r }"
