-- Spaces and comments, which may stand between tokens: a comment goes from `%` to the end of its line.
use Rattle.std.specs.Prelude.{ℕ, ◌+◌, ◌==◌, if◌then◌else◌, List, [], ◌∷◌, length, take, Option, Some, None, Result, Ok, Err}
use Rattle.std.specs.List.{prefix_len}
use Rattle.std.specs.Str.Lossy.{utf8_valid_len}
use Rattle.bx_terms.specs.declared.faults.Fault.{Fault, TheVariants.NotUtf8}
use Rattle.bx_text.specs.Bytes.{is_space, is_not_feed}
use Rattle.bx_text.specs.Place.{Place, after}

-- the bytes up to the end of the line
abbrev pub line_of : List ℕ → List ℕ
line_of bs = take (prefix_len is_not_feed bs) bs

-- the end of the line from a place in a comment on
abbrev pub comment_end : Place → Result Place Fault
comment_end p = if utf8_valid_len (line_of p.rest) == length (line_of p.rest) then Ok (after p (prefix_len is_not_feed p.rest)) else Err (NotUtf8 p.line)

abbrev mutual
  pub skip_from : List ℕ → ℕ → ℕ → Result Place Fault
  skip_from [] at line = Ok (record { rest = []; at = at; line = line })
  skip_from (b ∷ bs) at line =
      if b == 37 then (if utf8_valid_len (line_of bs) == length (line_of bs) then skip_line bs (at + 1) line else Err (NotUtf8 line))
      else (if b == 10 then skip_from bs (at + 1) (line + 1)
      else (if is_space b then skip_from bs (at + 1) line
      else Ok (record { rest = b ∷ bs; at = at; line = line })))

  -- in a comment
  pub skip_line : List ℕ → ℕ → ℕ → Result Place Fault
  skip_line [] at line = Ok (record { rest = []; at = at; line = line })
  skip_line (b ∷ bs) at line = if b == 10 then skip_from bs (at + 1) (line + 1) else skip_line bs (at + 1) line

-- the first place from p on where neither a space nor a comment stands
abbrev pub skip : Place → Result Place Fault
skip p = skip_from p.rest p.at p.line

-- the same, where only spaces come before that place and something stands there
abbrev pub spaces_from : List ℕ → ℕ → ℕ → Option Place
spaces_from [] at line = None
spaces_from (b ∷ bs) at line =
    if b == 37 then None
    else (if b == 10 then spaces_from bs (at + 1) (line + 1)
    else (if is_space b then spaces_from bs (at + 1) line
    else Some (record { rest = b ∷ bs; at = at; line = line })))

abbrev pub spaces : Place → Option Place
spaces p = spaces_from p.rest p.at p.line
