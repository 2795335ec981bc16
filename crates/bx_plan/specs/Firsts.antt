-- What stands first in a text, and the text behind it.
use Rattle.std.specs.Prelude.{◌≡◌, ℕ, ◌+◌, ◌-◌, ◌*◌, ◌<◌, ◌≤◌, if◌then◌else◌, ◌==◌, nat_le, List, [], ◌∷◌, Option, None, Some, length, option_map}
use Rattle.std.specs.Option.{option_and_then, option_map_or}
use Rattle.std.specs.Borrow.{Bor}
use Rattle.std.specs.Char.{is_ascii_digit}
use Rattle.bx_world.specs.declared.choices.Choice.{Choice, TheVariants.Run, TheVariants.Deliver, TheVariants.Expire}
use Rattle.bx_plan.specs.Entry.{Entry}
use Rattle.bx_plan.specs.Reading.{entry_of, parts_of}

-- the number so far goes on by all digits that stand first
abbrev pub digits_first : ℕ → ℕ → List ℕ → Option (ℕ × List ℕ)
digits_first most n [] = Some (n, [])
digits_first most n (b ∷ bs) = if is_ascii_digit b then (if nat_le (n * 10 + (b - 48)) most then digits_first most (n * 10 + (b - 48)) bs else None) else Some (n, b ∷ bs)

-- behind a leading zero no digit is read
abbrev pub number_first : ℕ → List ℕ → Option (ℕ × List ℕ)
number_first most [] = None
number_first most (b ∷ bs) = if is_ascii_digit b then (if b == 48 then Some (0, bs) else digits_first most (b - 48) bs) else None

abbrev pub deliver_first : ℕ × List ℕ → Option (Choice × List ℕ)
deliver_first (p, []) = None
deliver_first (p, b ∷ bs) = if b == 62 then option_map (λ r. (Deliver p r.0, r.1)) (number_first 1023 bs) else None

abbrev pub choice_by : ℕ → ℕ × List ℕ → Option (Choice × List ℕ)
choice_by b pid = if b == 114 then Some (Run pid.0, pid.1) else if b == 100 then deliver_first pid else if b == 101 then Some (Expire pid.0, pid.1) else None

abbrev pub choice_first : List ℕ → Option (Choice × List ℕ)
choice_first [] = None
choice_first (b ∷ bs) = option_and_then (choice_by b) (number_first 1023 bs)

abbrev pub some_times : ℕ × List ℕ → Option (ℕ × List ℕ)
some_times r = if r.0 == 0 then None else Some r

abbrev pub times_first : List ℕ → Option (ℕ × List ℕ)
times_first [] = Some (1, [])
times_first (b ∷ bs) = if b == 42 then option_and_then some_times (number_first 100000 bs) else Some (1, b ∷ bs)

abbrev pub entry_first : List ℕ → Option (Entry × List ℕ)
entry_first text = option_and_then (λ c. option_map (λ t. ((c.0, t.0), t.1)) (times_first c.1)) (choice_first text)

-- nothing stands behind it, or a space and more
abbrev pub next_of : Entry × List ℕ → Option (Entry × Option (List ℕ))
next_of (entry, []) = Some (entry, None)
next_of (entry, b ∷ bs) = if b == 32 then Some (entry, Some bs) else None

abbrev pub next_first : List ℕ → Option (Entry × Option (List ℕ))
next_first text = option_and_then next_of (entry_first text)

abbrev pub First : Type 0
First = Entry × Option (Bor (List ℕ))

abbrev pub first_view : First → Entry × Option (List ℕ)
first_view first = (first.0, option_map (λ text. text.now) first.1)

-- the words of a text that is left, and how long it is, with the space before it
abbrev pub words_left : Option (Bor (List ℕ)) → List (List ℕ)
words_left left = option_map_or (λ text. parts_of 32 text.now) left []

abbrev pub size_left : Option (Bor (List ℕ)) → ℕ
size_left left = option_map_or (λ text. length text.now + 1) left 0

-- the first word spells the entry, which makes its choice at least once, and the others are left
pub record IsFirst (text : List ℕ) (first : First) : Type 0 where
  pub word : List ℕ
  pub split : parts_of 32 text ≡ word ∷ words_left first.1
  pub is : entry_of word ≡ Some first.0
  pub some : 0 < first.0.1
  pub shorter : size_left first.1 ≤ length text
