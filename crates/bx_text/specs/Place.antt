-- A place in a text: what follows it, how many bytes stand before it, and its line.
use Rattle.std.specs.Prelude.{ℕ, ◌+◌, List, take, drop, count_by}
use Rattle.bx_text.specs.Bytes.{is_feed}
use Rattle.bx_text.specs.declared.reader.Reader.{Reader}

pub record Place : Type 0 where
  pub rest : List ℕ
  pub at : ℕ
  pub line : ℕ

abbrev pub place : Reader → Place
place r = record { rest = r.rest.now; at = r.at; line = r.line }

abbrev pub feeds : List ℕ → ℕ
feeds bs = count_by is_feed bs

-- n bytes further on
abbrev pub past : Place → ℕ → Place
past p n = record { rest = drop n p.rest; at = p.at + n; line = p.line + feeds (take n p.rest) }

-- the same where none of them is a line feed
abbrev pub after : Place → ℕ → Place
after p n = record { rest = drop n p.rest; at = p.at + n; line = p.line }

-- the place `at` of a whole text, whose lines count from 1
abbrev pub place_in : List ℕ → ℕ → Place
place_in text at = record { rest = drop at text; at = at; line = 1 + feeds (take at text) }
