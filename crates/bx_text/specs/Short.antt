-- Numbers of one digit, and the tokens that stand in a text most.
use Rattle.std.specs.Prelude.{ℕ, Bool, true, false, not, ◌&&◌, ◌==◌, List, [], ◌∷◌, Option, Some, None}
use Rattle.bx_text.specs.declared.kinds.Kind.{Kind}
use Rattle.bx_text.specs.declared.kinds.Kind.TheVariants as kind
use Rattle.bx_text.specs.Bytes.{is_digit}
use Rattle.bx_text.specs.Blank.{spaces}
use Rattle.bx_text.specs.Lexing.{kind_of, ends}
use Rattle.bx_text.specs.Place.{Place}

-- one digit stands at the front, and neither another one nor a point follows
abbrev pub is_short : List ℕ → Bool
is_short [] = false
is_short (d ∷ []) = false
is_short (d ∷ c ∷ bs) = is_digit d && not (is_digit c) && not (c == 46)

-- a token of this kind, whose first byte these follow, is one of those that stand in a text most: an
-- atom from `a` to `z` on, a number without a sign, a mark of one byte, or a full stop
abbrev pub is_common_by : Kind → List ℕ → Bool
is_common_by kind.Letter bs = true
is_common_by kind.Digit bs = true
is_common_by kind.OpenTuple bs = true
is_common_by kind.OpenList bs = true
is_common_by (kind.Mark m) bs = true
is_common_by kind.Dot bs = ends bs
is_common_by k bs = false

-- one of those begins here
abbrev pub is_common : List ℕ → Bool
is_common [] = false
is_common (b ∷ bs) = is_common_by (kind_of b) bs

-- one of those comes next, and no comment before it
abbrev pub is_common_at : Option Place → Bool
is_common_at None = false
is_common_at (Some q) = is_common q.rest

abbrev pub is_common_next : Place → Bool
is_common_next p = is_common_at (spaces p)
