-- The words of chains, and how one more word changes them. Assumes nothing.
use Rattle.std.proofs.Common.{◌≡◌, ℕ, suc, ◌+◌, ◌-◌, ◌*◌, ◌/◌, ◌%◌, ◌<◌, ◌≤◌, List, [], ◌∷◌, ◌++◌, length, get_or, take, set, sym, refl, ap, ◌∙◌, ⊎_elim, arith}
use Rattle.std.proofs.lemmas.List.{get_or-set_same, get_or-set_other, length-append, get_or_append_left, get_or-append_right, set-append_right, take_more_set, take_at, take_all, append_assoc}
use Rattle.std.proofs.lemmas.Bool.{cases_lt}
use Rattle.pages.specs.Chain.{times, gather}
use Rattle.pages.proofs.Links.{not_head, not_tail, times-there}

abbrev pub Inside : List ℕ → Type 0
Inside ps = (x : ℕ) → 256 ≤ x → times x ps ≡ 0

pub inside-at : (ps : List ℕ) (i : ℕ) → Inside ps → i < length ps → get_or ps i 0 < 256
inside-at ps i h l =
    ⊎_elim (λ (s : get_or ps i 0 < 256). s) (λ (g : 256 ≤ get_or ps i 0). absurd (omega (arith, h (get_or ps i 0) g, times-there ps i l))) (cases_lt (get_or ps i 0) 256)

inside-tail : (p : ℕ) (ps : List ℕ) → Inside (p ∷ ps) → Inside ps
inside-tail p ps h x g = not_tail x p ps (h x g)

-- pages of 16 words each
module _ (ws : List (List ℕ)) (wide : (p : ℕ) → p < 256 → length (get_or ws p []) ≡ 16) where
  pub length-gather : (ps : List ℕ) → Inside ps → length (gather ws ps) ≡ 16 * length ps
  length-gather [] h = refl
  length-gather (p ∷ ps) h =
      length-append (gather ws ps) (get_or ws p []) ∙ omega (arith, length-gather ps (inside-tail p ps h), wide p (inside-at (p ∷ ps) 0 h (omega arith)))

  -- the word at k, by its page and its place there
  pub gather-at : (ps : List ℕ) (k : ℕ) → Inside ps → k < 16 * length ps → get_or (gather ws ps) k 0 ≡ get_or (get_or ws (get_or ps (length ps - 1 - k / 16) 0) []) (k % 16) 0
  gather-at [] k h l = absurd (omega arith)
  gather-at (p ∷ ps) k h l =
      let g = length-gather ps (inside-tail p ps h) in
      ⊎_elim
      (λ (lt : k < 16 * length ps).
      let e : suc (length ps) - 1 - k / 16 ≡ suc (length ps - 1 - k / 16) = omega arith in
      get_or_append_left (gather ws ps) (get_or ws p []) 0 k (omega arith) ∙ gather-at ps k (inside-tail p ps h) lt ∙ rw e)
      (λ (ge : 16 * length ps ≤ k).
      let e : suc (length ps) - 1 - k / 16 ≡ 0 = omega arith in
      let f : k - 16 * length ps ≡ k % 16 = omega arith in
      get_or-append_right (gather ws ps) (get_or ws p []) (16 * length ps) k 0 g ge ∙ rw (e, f))
      (cases_lt k (16 * length ps))

-- a page with other words shows in no list of pages without it
pub gather_same : (ws : List (List ℕ)) (p : ℕ) (v : List ℕ) (ps : List ℕ) → times p ps ≡ 0 → gather (set ws p v) ps ≡ gather ws ps
gather_same ws p v [] h = refl
gather_same ws p v (q ∷ ps) h = rw (gather_same ws p v ps (not_tail p q ps h), get_or-set_other ws p q v [] (λ e. not_head p q ps h (sym e)))

-- the pages qs, all of them full, and page p before them
module _ (ws : List (List ℕ)) (wide : (p : ℕ) → p < 256 → length (get_or ws p []) ≡ 16) (many : length ws ≡ 256) (p l : ℕ) (qs : List ℕ) (low : p < 256) (inside : Inside qs) (alone : times p qs ≡ 0) where
  set_page : (v : List ℕ) → gather (set ws p v) (p ∷ qs) ≡ gather ws qs ++ v
  set_page v = rw (gather_same ws p v qs alone, get_or-set_same ws p v [] (omega (arith, many)))

  -- a word more in page p, behind the o words that it has
  pub gather_on : (o w : ℕ) → o < 16 → l ≡ 16 * length qs + o → take (l + 1) (gather (set ws p (set (get_or ws p []) o w)) (p ∷ qs)) ≡ take l (gather ws (p ∷ qs)) ++ w ∷ []
  gather_on o w less at =
      let g = length-gather ws wide qs inside in
      let o_is : l - 16 * length qs ≡ o = omega arith in
      ap (take (l + 1)) (set_page (set (get_or ws p []) o w)
      ∙ sym (set-append_right (gather ws qs) (get_or ws p []) (16 * length qs) l w g (omega arith) ∙ ap (λ k. gather ws qs ++ set (get_or ws p []) k w) o_is))
      ∙ take_more_set (gather ws (p ∷ qs)) l w (omega (arith, length-append (gather ws qs) (get_or ws p []), g, wide p low))

  -- the first word in page p
  pub gather_new : (w : ℕ) (v : List ℕ) → l ≡ 16 * length qs → take (l + 1) (gather (set ws p (w ∷ v)) (p ∷ qs)) ≡ take l (gather ws qs) ++ w ∷ []
  gather_new w v at =
      let g = length-gather ws wide qs inside in
      let all : take l (gather ws qs) ≡ gather ws qs = take_all l (gather ws qs) (omega (arith, g)) in
      ap (take (l + 1)) (set_page (w ∷ v) ∙ sym (append_assoc (gather ws qs) (w ∷ []) v))
      ∙ take_at (gather ws qs ++ w ∷ []) v (l + 1) (omega (arith, length-append (gather ws qs) (w ∷ []), g))
      ∙ ap (λ xs. xs ++ w ∷ []) (sym all)
