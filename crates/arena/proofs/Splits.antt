-- How a stretch of words is cut into regions. Assumes nothing.
use Rattle.std.specs.Prelude.{◌≡◌, ℕ, zero, suc, ◌+◌, ◌-◌, ◌<◌, ◌≤◌, List, [], ◌∷◌, ◌++◌, length, take, drop, slice_index, slice_index_or, slice_set, refl}
use Rattle.std.proofs.Common.{sym, ap, ◌∙◌, arith}
use Rattle.std.specs.List.{insert_slice}
use Rattle.std.proofs.Math.Seq.{paste, take-add}
use Rattle.std.proofs.lemmas.List.{length-take, length-drop, length-append, take-append-le, drop-append-le, take_at, drop_at, take_all, take-take, drop-take, drop-drop, length-take-le}
use Rattle.std.proofs.lemmas.List.Edits.{length-paste, take-paste, drop-paste}
use Rattle.std.proofs.lemmas.List.Sums.{sum_by-cons, sum_by_push, sum_by_more_le, sum_by-set}
use Rattle.regions.specs.Rules.{total}
use Rattle.arena.specs.Layout.{split}
use Rattle.regions.specs.Model.{lengths, longer}

pub total-cons : (l : ℕ) (ls : List ℕ) → total (l ∷ ls) ≡ l + total ls
total-cons = sum_by-cons (λ n. n)

pub total_set : (ls : List ℕ) (i n : ℕ) → i < length ls → total (longer ls i n) ≡ total ls + n
total_set ls i n h = omega (arith, sum_by-set (λ m. m) ls i (slice_index ls i + n) 0 h)

pub total_push : (ls : List ℕ) → total (ls ++ 0 ∷ []) ≡ total ls
total_push ls = omega (arith, sum_by_push (λ n. n) ls 0)

-- a region ends where the next one begins, and within all
pub region_end : (ls : List ℕ) (p : ℕ) → p < length ls → total (take p ls) + slice_index ls p ≤ total ls
region_end ls p h = sum_by_more_le (λ n. n) ls p 0 h

pub lengths_split : (ls ws : List ℕ) → total ls ≤ length ws → lengths (split ls ws) ≡ ls
lengths_split [] ws h = refl
lengths_split (l ∷ ls) ws h =
    let e = total-cons l ls in
    let h' : total ls ≤ length (drop l ws) = omega (arith, length-drop l ws) in
    rw (length-take-le l ws (omega arith), lengths_split ls (drop l ws) h')

pub split_push : (ls ws : List ℕ) → split (ls ++ 0 ∷ []) ws ≡ split ls ws ++ [] ∷ []
split_push [] ws = refl
split_push (l ∷ ls) ws = ap (λ rs. take l ws ∷ rs) (split_push ls (drop l ws))

pub split_take : (i : ℕ) (ls ws : List ℕ) → split (take i ls) ws ≡ take i (split ls ws)
split_take zero ls ws = refl
split_take (suc i) [] ws = refl
split_take (suc i) (l ∷ ls) ws = ap (λ rs. take l ws ∷ rs) (split_take i ls (drop l ws))

-- one region is a part of the stretch
pub split_at : (ls ws : List ℕ) (p : ℕ) → p < length ls → slice_index_or (split ls ws) p [] ≡ take (slice_index ls p) (drop (total (take p ls)) ws)
split_at [] ws p h = absurd (omega arith)
split_at (l ∷ ls) ws zero h = refl
split_at (l ∷ ls) ws (suc p) h =
    split_at ls (drop l ws) p (omega arith)
    ∙ ap (take (slice_index ls p)) (drop-drop (total (take p ls)) l ws ∙ ap (λ n. drop n ws) (sym (total-cons l (take p ls))))

-- only the first words count here
pub split_same : (ls xs ys : List ℕ) → take (total ls) xs ≡ take (total ls) ys → split ls xs ≡ split ls ys
split_same [] xs ys e = refl
split_same (l ∷ ls) xs ys e =
    let e' : take (l + total ls) xs ≡ take (l + total ls) ys = rw total-cons at e in
    let head : take l xs ≡ take l ys =
    sym (take-take l (l + total ls) xs (omega arith)) ∙ ap (take l) e' ∙ take-take l (l + total ls) ys (omega arith)
    in
    let tail : take (total ls) (drop l xs) ≡ take (total ls) (drop l ys) =
    sym (drop-take l (total ls) xs) ∙ ap (drop l) e' ∙ drop-take l (total ls) ys
    in
    rw (head, split_same ls (drop l xs) (drop l ys) tail)

-- words put in at the end of a region
pub split_put : (ls ws : List ℕ) (p e : ℕ) (new : List ℕ) → p < length ls → total ls ≤ length ws → e ≡ total (take p ls) + slice_index ls p → split (longer ls p (length new)) (insert_slice ws e new) ≡ slice_set (split ls ws) p (slice_index_or (split ls ws) p [] ++ new)
split_put [] ws p e new h f at = absurd (omega arith)
split_put (l ∷ ls) ws zero e new h f at =
    let whole = total-cons l ls in
    let is : e ≡ l = omega arith in
    let n : length (take l ws) ≡ l = length-take-le l ws (omega arith) in
    let m : length (take l ws ++ new) ≡ l + length new = length-append (take l ws) new ∙ ap (λ k. k + length new) n in
    rw (is, take_at (take l ws ++ new) (drop l ws) (l + length new) m, drop_at (take l ws ++ new) (drop l ws) (l + length new) m)
split_put (l ∷ ls) ws (suc p) e new h f at =
    let whole = total-cons l ls in
    let first = total-cons l (take p ls) in
    let e' : ℕ = total (take p ls) + slice_index ls p in
    let is : e ≡ l + e' = omega arith in
    let le : e' ≤ length (drop l ws) = omega (arith, region_end ls p (omega arith), length-drop l ws) in
    let n : l ≤ length (take (l + e') ws) = omega (arith, length-take (l + e') ws, length-drop l ws) in
    let m : l ≤ length (take (l + e') ws ++ new) = omega (arith, length-append (take (l + e') ws) new) in
    let a : take l (insert_slice ws (l + e') new) ≡ take l ws =
    take-append-le l (take (l + e') ws ++ new) (drop (l + e') ws) m ∙ take-append-le l (take (l + e') ws) new n ∙ take-take l (l + e') ws (omega arith)
    in
    let b : drop l (insert_slice ws (l + e') new) ≡ insert_slice (drop l ws) e' new =
    drop-append-le l (take (l + e') ws ++ new) (drop (l + e') ws) m
    ∙ ap (λ xs. xs ++ drop (l + e') ws) (drop-append-le l (take (l + e') ws) new n ∙ ap (λ xs. xs ++ new) (drop-take l e' ws))
    ∙ ap (λ xs. take e' (drop l ws) ++ new ++ xs) (sym (drop-drop e' l ws))
    in
    rw (is, a, b) (ap (λ rs. take l ws ∷ rs) (split_put ls (drop l ws) p e' new (omega arith) (omega (arith, length-drop l ws)) refl))

-- words put in at e, by moving up those from e to u and writing over them
pub inserted : (ws mid new vs : List ℕ) (e u : ℕ) → e ≤ u → u + length new ≤ length ws → mid ≡ paste ws (e + length new) (drop e ws) (u - e) → vs ≡ paste mid e new (length new) → take (u + length new) vs ≡ insert_slice (take u ws) e new
inserted ws mid new vs e u le fits m v =
    let n = length new in
    let k = u - e in
    let on : e + n + k ≡ u + n = omega arith in
    let up : e + k ≡ u = omega arith in
    let tail = drop e ws in
    let tall : length tail ≡ length ws - e = length-drop e ws in
    let long : length mid ≡ length ws = ap length m ∙ length-paste ws (e + n) tail k (omega arith) (omega arith) in
    let there : length (take (e + n) ws) ≡ e + n = length-take-le (e + n) ws (omega arith) in
    let both : take (e + n + k) mid ≡ take (e + n) ws ++ take k tail = ap (take (e + n + k)) m ∙ take-paste ws (e + n) tail k (omega arith) (omega arith) in
    let low : take e mid ≡ take e (take u ws) =
    sym (take-take e (e + n + k) mid (omega arith)) ∙ ap (take e) both ∙ take-append-le e (take (e + n) ws) (take k tail) (omega arith)
    ∙ take-take e (e + n) ws (omega arith) ∙ sym (take-take e u ws le)
    in
    let high : take k (drop (e + n) mid) ≡ drop e (take u ws) =
    sym (drop-take (e + n) k mid) ∙ ap (drop (e + n)) both ∙ drop_at (take (e + n) ws) (take k tail) (e + n) there
    ∙ sym (drop-take e k ws) ∙ ap (λ i. drop e (take i ws)) up
    in
    let front : take (e + n) vs ≡ take e (take u ws) ++ new =
    ap (take (e + n)) v ∙ take-paste mid e new n (omega arith) (omega arith) ∙ rw (low, take_all n new (omega arith))
    in
    let back : drop (e + n) vs ≡ drop (e + n) mid = ap (drop (e + n)) v ∙ drop-paste mid e new n (omega arith) (omega arith) in
    ap (λ i. take i vs) (sym on) ∙ take-add (e + n) k vs ∙ rw (front, back, high)

-- the regions after that
pub put_made : (ls ws vs new : List ℕ) (p e : ℕ) → p < length ls → total ls + length new ≤ length ws → e ≡ total (take p ls) + slice_index ls p → take (total ls + length new) vs ≡ insert_slice (take (total ls) ws) e new → split (longer ls p (length new)) vs ≡ slice_set (split ls ws) p (slice_index_or (split ls ws) p [] ++ new)
put_made ls ws vs new p e h room at made =
    let u = total ls in
    let n = length new in
    let w : length (take u ws) ≡ u = length-take-le u ws (omega arith) in
    let end : e ≤ u = omega (arith, region_end ls p h) in
    let long : length (insert_slice (take u ws) e new) ≡ u + n = omega (arith, length-append (take e (take u ws) ++ new) (drop e (take u ws)), length-append (take e (take u ws)) new, length-drop e (take u ws), length-take-le e (take u ws) (omega arith)) in
    let same : split ls (take u ws) ≡ split ls ws = split_same ls (take u ws) ws (take-take u u ws (omega arith)) in
    split_same (longer ls p n) vs (insert_slice (take u ws) e new) (rw (total_set ls p n h) (made ∙ sym (take_all (u + n) (insert_slice (take u ws) e new) (omega arith))))
    ∙ split_put ls (take u ws) p e new h (omega arith) at
    ∙ ap (λ rs. slice_set rs p (slice_index_or rs p [] ++ new)) same
