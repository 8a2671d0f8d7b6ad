-- What is told of one of two stores. Assumes nothing.
use Rattle.piles.specs.declared.either.Either.{Either}
use Rattle.piles.specs.declared.either.Either.TheVariants.{Left, Right}

-- what f tells of the first, or g of the second
abbrev pub either : {A B X : Type 0} → (A → X) → (B → X) → Either A B → X
either f g (Left a) = f a
either f g (Right b) = g b

pub either_each : {A B X : Type 0} (P : X → Type 0) (f : A → X) (g : B → X) → ((a : A) → P (f a)) → ((b : B) → P (g b)) → (s : Either A B) → P (either f g s)
either_each P f g on_left on_right (Left a) = on_left a
either_each P f g on_left on_right (Right b) = on_right b
