-- What comes of a step that may have no answer.
use Rattle.std.specs.Prelude.{Option, Some, None}

-- the second step goes on with what the first one answers
infixl 10 ◌>>=◌
abbrev pub ◌>>=◌ : {A B : Type 0} → Option A → (A → Option B) → Option B
(Some x) >>= f = f x
None >>= f = None
