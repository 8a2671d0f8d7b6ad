-- A cursor's line and column, counted from the bytes that it went over.
use Rattle.std.proofs.Common.{◌≡◌, ℕ, ◌+◌, ◌-◌, length, take, reverse, subst, Bool, true, false, cond, not, eqb, List, [], ◌∷◌, ◌++◌, refl, sym, ap, ◌∙◌, append_assoc, append-nil, zero-add, arith}
use Rattle.std.specs.List.{count_by, prefix_len, suffix_len}
use Rattle.std.proofs.lemmas.List.{reverse-append, reverse-reverse, take_all, take-append-le, length_push}
use Rattle.std.proofs.lemmas.List.Sums.{sum_by-append}
use Rattle.report.specs.declared.position.Position.{Position}
use Rattle.report.specs.Positions.{onward, position_of, at}

abbrev pub feed : ℕ → Bool
feed b = eqb b 10

abbrev pub other : ℕ → Bool
other b = not (feed b)

-- the line is counted by line feeds, and the column by the bytes behind the last
abbrev pub counted : List ℕ → Position
counted bs = at (1 + count_by feed bs) (1 + suffix_len other bs)

count_by-push : (done : List ℕ) (b : ℕ) (v : Bool) → feed b ≡ v → count_by feed (done ++ b ∷ []) ≡ count_by feed done + cond v 1 0
count_by-push done b v t = sum_by-append (λ x. cond (feed x) 1 0) done (b ∷ []) ∙ ap (λ w. count_by feed done + (0 + cond w 1 0)) t ∙ ap (λ n. count_by feed done + n) (zero-add (cond v 1 0))

suffix_len-push : (done : List ℕ) (b : ℕ) (v : Bool) → feed b ≡ v → suffix_len other (done ++ b ∷ []) ≡ cond (not v) (1 + suffix_len other done) 0
suffix_len-push done b v t = ap (prefix_len other) (reverse-append done (b ∷ [])) ∙ ap (λ w. cond (not w) (1 + suffix_len other done) 0) t

-- no line feed stands among the bytes behind the last
abbrev AllBefore : List ℕ → Type 0
AllBefore bs = count_by feed (take (length bs - suffix_len other bs) bs) ≡ count_by feed bs

feeds-push : (done : List ℕ) (b : ℕ) (v : Bool) → feed b ≡ v → AllBefore done → AllBefore (done ++ b ∷ [])
feeds-push done b true t h =
    let none : suffix_len other (done ++ b ∷ []) ≡ 0 = suffix_len-push done b true t in
    ap (count_by feed) (take_all (length (done ++ b ∷ []) - suffix_len other (done ++ b ∷ [])) (done ++ b ∷ []) (omega (arith, none)))
feeds-push done b false t h =
    let one : suffix_len other (done ++ b ∷ []) ≡ 1 + suffix_len other done = suffix_len-push done b false t in
    let n = length done - suffix_len other done in
    let e : length (done ++ b ∷ []) - suffix_len other (done ++ b ∷ []) ≡ n = omega (arith, one, length_push done b) in
    let f : count_by feed (done ++ b ∷ []) ≡ count_by feed done + 0 = count_by-push done b false t in
    ap (λ k. count_by feed (take k (done ++ b ∷ []))) e ∙ ap (count_by feed) (take-append-le n done (b ∷ []) (omega arith)) ∙ omega (arith, h, f)

feeds-reverse : (rs : List ℕ) → AllBefore (reverse rs)
feeds-reverse [] = refl
feeds-reverse (b ∷ rs) = subst AllBefore (sym (reverse-append (b ∷ []) rs)) (feeds-push (reverse rs) b (feed b) refl (feeds-reverse rs))

pub feeds_before : (bs : List ℕ) → count_by feed (take (length bs - suffix_len other bs) bs) ≡ count_by feed bs
feeds_before bs = subst AllBefore (reverse-reverse bs) (feeds-reverse (reverse bs))

abbrev by_feed : ℕ → ℕ → List ℕ → Bool → Position
by_feed l c bs v = elim v [ true ↦ onward (l + 1) 1 bs | false ↦ onward l (c + 1) bs ]

-- one byte more
step : (done : List ℕ) (b : ℕ) (bs : List ℕ) (v : Bool) → feed b ≡ v → by_feed (1 + count_by feed done) (1 + suffix_len other done) bs v ≡ onward (1 + count_by feed (done ++ b ∷ [])) (1 + suffix_len other (done ++ b ∷ [])) bs
step done b bs true t =
    ap (λ n. onward n 1 bs) (let h = count_by-push done b true t in omega arith)
    ∙ ap (λ n. onward (1 + count_by feed (done ++ b ∷ [])) n bs) (let h = suffix_len-push done b true t in omega arith)
step done b bs false t =
    ap (λ n. onward n (1 + suffix_len other done + 1) bs) (let h = count_by-push done b false t in omega arith)
    ∙ ap (λ n. onward (1 + count_by feed (done ++ b ∷ [])) n bs) (let h = suffix_len-push done b false t in omega arith)

onward-counted : (done bs : List ℕ) → onward (1 + count_by feed done) (1 + suffix_len other done) bs ≡ counted (done ++ bs)
onward-counted done [] = ap counted (sym (append-nil done))
onward-counted done (b ∷ bs) = step done b bs (feed b) refl ∙ onward-counted (done ++ b ∷ []) bs ∙ ap counted (append_assoc done (b ∷ []) bs)

pub position_of-counted : (bs : List ℕ) → position_of bs ≡ counted bs
position_of-counted bs = onward-counted [] bs
