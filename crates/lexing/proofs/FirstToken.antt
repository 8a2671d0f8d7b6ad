-- The token at the front of a text: its answer is right, and no other is.
use Rattle.std.proofs.Common.{◌≡◌, ℕ, ◌+◌, Bool, true, false, List, [], ◌++◌, length, take, drop, Ok, Err, Result, sym, refl, ap, ◌∙◌, subst, append-nil, take-append-drop}
use lib.Seq.{take-append_seam, drop-append_seam}
use borrow.Author.Tests.{both_ways}
use Rattle.lexing.specs.declared.token.Kind.{Kind}
use Rattle.lexing.specs.declared.token.Kind.TheVariants.{End, Name, Keyword, Numeral, Mark}
use Rattle.lexing.specs.declared.fault.Question.{Question}
use Rattle.lexing.specs.Classes.{blank}
use Rattle.lexing.specs.Runs.{run, every}
use Rattle.lexing.specs.Tokens.{Lexeme, Refusal, width, kind_of, unblanked, token_at}
use Rattle.lexing.specs.Texts.{at_end}
use Rattle.lexing.specs.Laws.{Fits, Right, ended, First}
use Rattle.lexing.proofs.Offsets.{answer, token-at_is}
use Rattle.lexing.proofs.Longest.{run-all, run-over, run-front}
use Rattle.lexing.proofs.Cuts.{Cut}
use Rattle.lexing.proofs.Sights.{Says, see, cut_fits, cut-fails}

-- the answer for a body that is cut
abbrev answered : ℕ → List ℕ → List ℕ → Result Kind Question → Result (Lexeme × List ℕ) Refusal
answered place bytes rest (Ok k) = Ok (record { kind = k; place = place; bytes = bytes }, rest)
answered place bytes rest (Err q) = Err (record { question = q; place = place })

answer_by : (place : ℕ) (body bytes rest : List ℕ) (k : Result Kind Question) → take (width body) body ≡ bytes → drop (width body) body ≡ rest → answer place body k ≡ answered place bytes rest k
answer_by place body bytes rest (Ok k) f b = ap (λ w. answered place w (drop (width body) body) (Ok k)) f ∙ ap (λ r. answered place bytes r (Ok k)) b
answer_by place body bytes rest (Err q) f b = refl

answer_cut : (place : ℕ) (body bytes rest : List ℕ) (k : Result Kind Question) → Cut body bytes rest k → answer place body (kind_of body) ≡ answered place bytes rest k
answer_cut place body bytes rest k c =
    ap (answer place body) c.is_kind
    ∙ answer_by place body bytes rest k (ap (λ n. take n body) c.wide ∙ ap (take (length bytes)) (sym c.whole) ∙ take-append_seam bytes rest)
    (ap (λ n. drop n body) c.wide ∙ ap (drop (length bytes)) (sym c.whole) ∙ drop-append_seam bytes rest)

-- behind blanks, the answer is that for the body
token-cut : (offset : ℕ) (s blanks body bytes rest : List ℕ) (k : Result Kind Question) → every blank blanks ≡ true → blanks ++ body ≡ s → Cut body bytes rest k
    → token_at offset s ≡ answered (offset + length blanks) bytes rest k
token-cut offset s blanks body bytes rest k a e c =
    let n : run blank s ≡ length blanks = ap (run blank) (sym e) ∙ run-front blank blanks body a c.no_blank in
    let u : unblanked s ≡ body = ap (λ i. drop i s) n ∙ ap (drop (length blanks)) (sym e) ∙ drop-append_seam blanks body in
    token-at_is offset s ∙ ap (λ i. answer (offset + i) (unblanked s) (kind_of (unblanked s))) n ∙ ap (λ b. answer (offset + length blanks) b (kind_of b)) u
    ∙ answer_cut (offset + length blanks) body bytes rest k c

-- a right answer is the answer
pub right-only : (offset : ℕ) (s : List ℕ) (a : Result (Lexeme × List ℕ) Refusal) → Right offset s a → a ≡ token_at offset s
right-only offset s (Ok (t, rest)) h =
    ap (λ p. answered p t.bytes rest (Ok t.kind)) h.place
    ∙ sym (token-cut offset s h.blanks (t.bytes ++ rest) t.bytes rest (Ok t.kind) h.blank_all h.whole (cut_fits t.kind t.bytes rest h.fits))
right-only offset s (Err e) h =
    let c = cut-fails h.body h.fails in
    ap (λ p. answered p c.0 c.1 (Err e.question)) h.place ∙ sym (token-cut offset s h.blanks h.body c.0 c.1 (Err e.question) h.blank_all h.whole c.2)

right_says : (offset : ℕ) (s blanks body bytes rest : List ℕ) (k : Result Kind Question) → every blank blanks ≡ true → blanks ++ body ≡ s → bytes ++ rest ≡ body → Says k body bytes rest
    → Right offset s (answered (offset + length blanks) bytes rest k)
right_says offset s blanks body bytes rest (Ok k) a e c h = record { blanks = blanks; blank_all = a; whole = ap (λ l. blanks ++ l) c ∙ e; place = refl; fits = h }
right_says offset s blanks body bytes rest (Err q) a e c h = record { blanks = blanks; body = body; blank_all = a; whole = e; place = refl; fails = h }

-- the answer is right
pub right : (offset : ℕ) (s : List ℕ) → Right offset s (token_at offset s)
right offset s =
    let n = run blank s in
    let v = see (drop n s) (run-over blank s) in
    subst (Right offset s) (sym (token-cut offset s (take n s) (drop n s) v.bytes v.rest v.kind (run-all blank s) (take-append-drop n s) v.cut))
    (right_says offset s (take n s) (drop n s) v.bytes v.rest v.kind (run-all blank s) (take-append-drop n s) v.cut.whole v.says)

-- where only blanks are left, the end comes
pub end-blank : (offset : ℕ) (s : List ℕ) → every blank s ≡ true → token_at offset s ≡ Ok (record { kind = End; place = offset + length s; bytes = [] }, [])
end-blank offset s a = sym (right-only offset s (Ok (record { kind = End; place = offset + length s; bytes = [] }, [])) (record { blanks = s; blank_all = a; whole = append-nil s; place = refl; fits = (refl, refl) }))

kind-no_end : (k : Kind) (s blanks bytes rest : List ℕ) → Fits k bytes rest → every blank blanks ≡ true → blanks ++ (bytes ++ rest) ≡ s → every blank s ≡ false → at_end k ≡ false
kind-no_end End s blanks bytes rest f a e n =
    let l : bytes ++ rest ≡ [] = ap (λ b. b ++ rest) f.0 ∙ f.1 in
    absurd (both_ways (every blank blanks) (ap (every blank) (sym (append-nil blanks) ∙ ap (λ m. blanks ++ m) (sym l) ∙ e) ∙ n) a)
kind-no_end Name s blanks bytes rest f a e n = refl
kind-no_end Keyword s blanks bytes rest f a e n = refl
kind-no_end Numeral s blanks bytes rest f a e n = refl
kind-no_end Mark s blanks bytes rest f a e n = refl

no_end : (offset : ℕ) (s : List ℕ) (a : Result (Lexeme × List ℕ) Refusal) → Right offset s a → every blank s ≡ false → ended a ≡ false
no_end offset s (Ok (t, rest)) h n = kind-no_end t.kind s h.blanks t.bytes rest h.fits h.blank_all h.whole n
no_end offset s (Err e) h n = refl

-- the answer is the end exactly where only blanks are left
pub ended_is : (offset : ℕ) (s : List ℕ) → ended (token_at offset s) ≡ every blank s
ended_is offset s = by_blank (every blank s) refl
  where
    by_blank : (v : Bool) → every blank s ≡ v → ended (token_at offset s) ≡ every blank s
    by_blank true t = ap ended (end-blank offset s t) ∙ sym t
    by_blank false t = no_end offset s (token_at offset s) (right offset s) t ∙ sym t

-- the law of one token
pub first-law : (offset : ℕ) (s : List ℕ) (a : Result (Lexeme × List ℕ) Refusal) → a ≡ token_at offset s → First offset s a
first-law offset s a e = record {
  right = subst (Right offset s) (sym e) (right offset s);
  only = λ b h. right-only offset s b h ∙ sym e;
  end = ap ended e ∙ ended_is offset s;
}
