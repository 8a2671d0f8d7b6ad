-- As many commands as the sizes say, and at least one for each block.
use Rattle.std.proofs.Common.{◌≡◌, ℕ, ◌+◌, ◌<◌, true, false, List, [], ◌∷◌, ◌++◌, length, refl, arith, length-append}
use Rattle.std.proofs.lemmas.List.{length-map}
use Rattle.language.specs.Syntax.{Right, atom, oper, nil, cons, call, test, region, split, Block, last, bind, print, Fun, Script}
use Rattle.language.specs.Scope.{Scope, with_variable, with_region, header_scope}
use Rattle.language.specs.Checking.{type_right}
use Rattle.program.specs.declared.command.Way.{Way}
use Rattle.program.specs.declared.command.Way.TheVariants.{Return}
use Rattle.program.specs.declared.command.Command.TheVariants.{Hand, Argument}
use Rattle.program.specs.Compiled.{region_slot, operand, type_in, right_size, block_size, split_scope, handed, arguments, leaving, compiled_right, compiled_block, compiled_from}

joined : {A : Type 0} (xs ys : List A) (m n : ℕ) → length xs ≡ m → length ys ≡ n → length (xs ++ ys) ≡ m + n
joined xs ys m n e f = omega (arith, length-append xs ys)

mutual
  pub right_length : (F : Script) (Γ : Scope) (at : ℕ) (r : Right) → length (compiled_right F Γ at r) ≡ right_size r
  right_length F Γ at (atom a) = refl
  right_length F Γ at (oper p o a b) = refl
  right_length F Γ at (nil p r t) = refl
  right_length F Γ at (cons p r a b) = refl
  right_length F Γ at (call p g rs args) =
      omega (arith, joined (handed Γ rs) (arguments Γ args) (length rs) (length args) (length-map rs (λ r. Hand (region_slot Γ r.name))) (length-map args (λ a. Argument (operand Γ a))))
  right_length F Γ at (test p a b c) =
      let w = leaving Γ (at + 1 + block_size b + block_size c) false in
      omega (arith, joined (compiled_block F Γ (at + 1) w b) (compiled_block F Γ (at + 1 + block_size b) w c) (block_size b) (block_size c) (block_length F Γ (at + 1) w b) (block_length F Γ (at + 1 + block_size b) w c))
  right_length F Γ at (region p r b) = let e = block_length F (with_region Γ r) (at + 1) (leaving Γ (at + 1 + block_size b) true) b in omega (arith, e)
  right_length F Γ at (split p a b x y c) =
      let w = leaving Γ (at + 1 + block_size b + block_size c) false in
      let Δ = split_scope Γ a x y in
      omega (arith, joined (compiled_block F Γ (at + 1) w b) (compiled_block F Δ (at + 1 + block_size b) w c) (block_size b) (block_size c) (block_length F Γ (at + 1) w b) (block_length F Δ (at + 1 + block_size b) w c))

  pub block_length : (F : Script) (Γ : Scope) (at : ℕ) (w : Way) (b : Block) → length (compiled_block F Γ at w b) ≡ block_size b
  block_length F Γ at w (last a) = refl
  block_length F Γ at w (bind x r b) =
      let Δ = with_variable Γ x (type_in (type_right F Γ r)) in
      omega (arith, length-append (compiled_right F Γ at r) (compiled_block F Δ (at + right_size r) w b), right_length F Γ at r, block_length F Δ (at + right_size r) w b)
  block_length F Γ at w (print p a b) = let e = block_length F Γ (at + 1) w b in omega (arith, e)

pub block-some : (b : Block) → 0 < block_size b
block-some (last a) = omega arith
block-some (bind x r b) = omega (arith, block-some b)
block-some (print p a b) = omega arith

-- as many commands as the blocks of functions have
abbrev pub bodies-size : List Fun → ℕ
bodies-size [] = 0
bodies-size (f ∷ fs) = block_size f.body + bodies-size fs

pub from_length : (F : Script) (at : ℕ) (fs : List Fun) → length (compiled_from F at fs) ≡ bodies-size fs
from_length F at [] = refl
from_length F at (f ∷ fs) =
    let n = at + block_size f.body in
    omega (arith, length-append (compiled_block F (header_scope f) at Return f.body) (compiled_from F n fs), block_length F (header_scope f) at Return f.body, from_length F n fs)
