-- What is read of a text, from left to right. `laws` ties it to the grammar.
use Rattle.std.specs.Prelude.{ℕ, ◌+◌, ◌-◌, ◌*◌, Bool, ◌&&◌, ◌||◌, if◌then◌else◌, ◌==◌, nat_le, List, [], ◌∷◌, Option, None, Some, option_map, length, replicate, ◌++◌}
use Rattle.std.specs.Option.{option_and_then, option_map_or}
use Rattle.std.specs.Char.{is_ascii_digit, is_ascii_alphanumeric}
use Rattle.std.specs.List.{slice_split, list_all}
use Rattle.std.specs.Str.{is_utf8}
use Rattle.bx_plan.specs.Entry.{Entry}
use Rattle.bx_world.specs.declared.choices.Choice.{Choice, TheVariants.Run, TheVariants.Deliver, TheVariants.Expire}

-- the number so far, followed by these digits, where none of its prefixes is over `most`
abbrev pub digits_from : ℕ → ℕ → List ℕ → Option ℕ
digits_from most n [] = Some n
digits_from most n (b ∷ bs) = if is_ascii_digit b && nat_le (n * 10 + (b - 48)) most then digits_from most (n * 10 + (b - 48)) bs else None

-- a number of at most `most` without leading zeros
abbrev pub number_of : ℕ → List ℕ → Option ℕ
number_of most [] = None
number_of most (b ∷ []) = digits_from most 0 (b ∷ [])
number_of most (b ∷ c ∷ bs) = if b == 48 then None else digits_from most 0 (b ∷ c ∷ bs)

-- what stands before the first mark, and behind it
abbrev pub cut : ℕ → List ℕ → Option (List ℕ × List ℕ)
cut mark [] = None
cut mark (b ∷ bs) = if b == mark then Some ([], bs) else option_map (λ parts. (b ∷ parts.0, parts.1)) (cut mark bs)

-- the parts of a text that is cut at each mark
abbrev pub parts_of : ℕ → List ℕ → List (List ℕ)
parts_of mark text = slice_split (λ b. b == mark) text

-- a choice by its first byte: `r`, `d` with a `>` between its pids, or `e`
abbrev pub deliver_of : List ℕ × List ℕ → Option Choice
deliver_of pids = option_and_then (λ p. option_map (λ q. Deliver p q) (number_of 1023 pids.1)) (number_of 1023 pids.0)

abbrev pub choice_of : List ℕ → Option Choice
choice_of [] = None
choice_of (b ∷ pids) = if b == 114 then option_map (λ p. Run p) (number_of 1023 pids) else if b == 100 then option_and_then deliver_of (cut 62 pids) else if b == 101 then option_map (λ p. Expire p) (number_of 1023 pids) else None

-- an entry: a choice that is made once, or with a `*` and how many times
abbrev pub made : Choice → ℕ → Option Entry
made choice times = if times == 0 then None else Some ((choice, times))

abbrev pub repeated_of : List ℕ × List ℕ → Option Entry
repeated_of parts = option_and_then (λ choice. option_and_then (made choice) (number_of 100000 parts.1)) (choice_of parts.0)

abbrev pub entry_of : List ℕ → Option Entry
entry_of text = option_map_or repeated_of (cut 42 text) (option_map (λ choice. (choice, 1)) (choice_of text))

-- an entry for each word
abbrev pub entry_each : List (List ℕ) → Option (List Entry)
entry_each [] = Some []
entry_each (word ∷ words) = option_and_then (λ entry. option_map (λ entries. entry ∷ entries) (entry_each words)) (entry_of word)

-- entries with one space between one and the next
abbrev pub entries_of : List ℕ → Option (List Entry)
entries_of words = entry_each (parts_of 32 words)

-- how many choices they make
abbrev pub count_of : List Entry → ℕ
count_of [] = 0
count_of (entry ∷ entries) = entry.1 + count_of entries

-- the choices that they make, each as often as its entry says
abbrev pub spread : List Entry → List Choice
spread [] = []
spread (entry ∷ entries) = replicate entry.1 entry.0 ++ spread entries

-- a name's bytes: ASCII letters, digits, `_` and `-`
abbrev pub is_name_byte : ℕ → Bool
is_name_byte b = is_ascii_alphanumeric b || b == 95 || b == 45

-- 1 to 64 of them
abbrev pub is_name : List ℕ → Bool
is_name name = nat_le 1 (length name) && nat_le (length name) 64 && list_all is_name_byte name

-- what stands behind a schedule's colon: nothing, or a space and entries
abbrev pub tail_of : List ℕ → Option (List Entry)
tail_of [] = Some []
tail_of (b ∷ words) = if b == 32 then entries_of words else None

-- a schedule's name, and its entries
abbrev pub named_of : List ℕ × List ℕ → Option (List ℕ × List Entry)
named_of parts = if is_name parts.0 then option_map (λ entries. (parts.0, entries)) (tail_of parts.1) else None

abbrev pub schedule_of : List ℕ → Option (List ℕ × List Entry)
schedule_of line = option_and_then named_of (cut 58 line)

-- a line: nothing where it is empty or a comment, or a schedule
abbrev pub line_of : List ℕ → Option (Option (List ℕ × List Entry))
line_of [] = Some None
line_of (b ∷ bs) = if b == 35 then (if is_utf8 (b ∷ bs) then Some None else None) else option_map (λ schedule. Some schedule) (schedule_of (b ∷ bs))
