-- Texts and the answers of reading them.
use Rattle.std.specs.Prelude.{◌≡◌, ℕ, zero, suc, List, [], ◌∷◌, ◌++◌, pos, Ok, Err, codes, Result}
use Rattle.language.specs.Syntax.{Ident, int, list, Atom, var, num, add, oper, nil, cons, call, region, split, last, bind, print, Script}
use Rattle.language.specs.Verdict.{Refused}
use Rattle.language.specs.Reading.{reading}

abbrev pub ident : ℕ → List ℕ → Ident
ident p w = record { place = p; name = w }

abbrev pub variable : ℕ → List ℕ → Atom
variable p w = var (ident p w)

abbrev pub refused : ℕ → ℕ → Result Script Refused
refused n p = Err (record { number = n; place = p })

-- sums a list by recursion, and builds one in a region
abbrev pub sum_text : List ℕ
sum_text = codes "fun sum[r](l: list@r(int)): int { let s = case l { 0 } else h t { let u = call sum[r](t); let v = add h u; v }; s } fun main(n: int): int { let s = region a { let e = nil@a(int); let c = cons@a(n, e); let d = cons@a(3, c); print n; let k = call sum[a](d); k }; s }"

abbrev pub sum_script : Script
sum_script =
    record {
      name = ident 4 (codes "sum");
      regions = ident 8 (codes "r") ∷ [];
      params = record { name = ident 11 (codes "l"); type = list (ident 19 (codes "r")) int } ∷ [];
      result = int;
      body =
          bind (ident 38 (codes "s")) (split 42 (variable 47 (codes "l")) (last (num 51 (pos 0))) (ident 60 (codes "h")) (ident 62 (codes "t"))
          (bind (ident 70 (codes "u")) (call 74 (ident 79 (codes "sum")) (ident 83 (codes "r") ∷ []) (variable 86 (codes "t") ∷ []))
          (bind (ident 94 (codes "v")) (oper 98 add (variable 102 (codes "h")) (variable 104 (codes "u")))
          (last (variable 107 (codes "v"))))))
          (last (variable 112 (codes "s")));
    }
    ∷ record {
      name = ident 120 (codes "main");
      regions = [];
      params = record { name = ident 125 (codes "n"); type = int } ∷ [];
      result = int;
      body =
          bind (ident 144 (codes "s")) (region 148 (ident 155 (codes "a"))
          (bind (ident 163 (codes "e")) (nil 167 (ident 171 (codes "a")) int)
          (bind (ident 183 (codes "c")) (cons 187 (ident 192 (codes "a")) (variable 194 (codes "n")) (variable 197 (codes "e")))
          (bind (ident 205 (codes "d")) (cons 209 (ident 214 (codes "a")) (num 216 (pos 3)) (variable 219 (codes "c")))
          (print 223 (variable 229 (codes "n"))
          (bind (ident 236 (codes "k")) (call 240 (ident 245 (codes "sum")) (ident 249 (codes "a") ∷ []) (variable 252 (codes "d") ∷ []))
          (last (variable 256 (codes "k")))))))))
          (last (variable 261 (codes "s")));
    }
    ∷ []

-- so many blocks around one, and so many lists around int
abbrev pub nested_blocks : ℕ → List ℕ
nested_blocks zero = codes "{ n }"
nested_blocks (suc n) = codes "{ let x = region a " ++ nested_blocks n ++ codes "; x }"

abbrev pub nested_lists : ℕ → List ℕ
nested_lists zero = codes "int"
nested_lists (suc n) = codes "list@a(" ++ nested_lists n ++ codes ")"

-- texts refused at the end and at a token, a text that is read, and both sides of the nesting limits
abbrev pub ReadingExamples : Type 0
ReadingExamples =
    (reading [] ≡ refused 6 0)
    × (reading sum_text ≡ Ok sum_script)
    × (reading (codes "fun") ≡ refused 6 3)
    × (reading (codes "fun main(n: int): int { n") ≡ refused 6 25)
    × (reading (codes "fun main(n: int): int { n } x") ≡ refused 6 28)
    × (reading (codes "fun f[](): int { 0 }") ≡ refused 6 6)
    × (reading (codes "fun main(n: int): int { let x = 1 2; x }") ≡ refused 6 34)
    × ((s : Script) × (reading (codes "fun main(n: int): int " ++ nested_blocks 7) ≡ Ok s))
    × (reading (codes "fun main(n: int): int " ++ nested_blocks 8) ≡ refused 7 174)
    × ((s : Script) × (reading (codes "fun main(n: " ++ nested_lists 5 ++ codes "): int { n }") ≡ Ok s))
    × (reading (codes "fun main(n: " ++ nested_lists 6 ++ codes "): int { n }") ≡ refused 7 47)
    × (reading (codes "fun main(n: int): int { ? }") ≡ refused 2 24)
