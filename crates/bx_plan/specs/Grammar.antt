-- The grammar of a plan's text, by cases on what it stands for.
use Rattle.std.specs.Prelude.{◌≡◌, ◌⊎◌, ℕ, ◌≤◌, List, [], ◌∷◌, ◌++◌, length, codes}
use Rattle.std.specs.Fmt.{decimal}
use Rattle.std.specs.Int.{IsInRange}
use Rattle.std.specs.List.{AllByRecursion}
use Rattle.std.specs.Str.{IsUtf8}
use Rattle.bx_world.specs.declared.choices.Choice.{Choice, TheVariants.Run, TheVariants.Deliver, TheVariants.Expire}
use Rattle.bx_plan.specs.Entry.{Entry}

-- `r` and the pid that runs; `d`, the pid that sent, `>` and the pid that receives; or `e` and the pid whose wait expires.
-- Numbers are decimal without leading zeros.
abbrev pub spelling : Choice → List ℕ
spelling (Run p) = codes "r" ++ decimal p
spelling (Deliver p q) = codes "d" ++ (decimal p ++ (codes ">" ++ decimal q))
spelling (Expire p) = codes "e" ++ decimal p

-- its pids are 0 to 1023
abbrev pub HasPids : Choice → Type 0
HasPids (Run p) = p ≤ 1023
HasPids (Deliver p q) = (p ≤ 1023) × (q ≤ 1023)
HasPids (Expire p) = p ≤ 1023

-- an entry: a choice that is made once, or `*` and how many times, from 1 to 100,000
abbrev pub IsOnce : List ℕ → Entry → Type 0
IsOnce text entry = (entry.1 ≡ 1) × (text ≡ spelling entry.0)

abbrev pub IsRepeated : List ℕ → Entry → Type 0
IsRepeated text entry = (1 ≤ entry.1) × (entry.1 ≤ 100000) × (text ≡ spelling entry.0 ++ (codes "*" ++ decimal entry.1))

abbrev pub IsEntry : List ℕ → Entry → Type 0
IsEntry text entry = HasPids entry.0 × (IsOnce text entry ⊎ IsRepeated text entry)

-- entries, each behind one space
abbrev pub AreEntries : List ℕ → List Entry → Type 0
AreEntries text [] = text ≡ []
AreEntries text (entry ∷ entries) = (word : List ℕ) × (rest : List ℕ) × IsEntry word entry × AreEntries rest entries × (text ≡ codes " " ++ (word ++ rest))

-- a name: 1 to 64 ASCII letters, digits, `_` and `-`
abbrev pub IsNameByte : ℕ → Type 0
IsNameByte b = IsInRange 48 57 b ⊎ (IsInRange 65 90 b ⊎ (IsInRange 97 122 b ⊎ ((b ≡ 95) ⊎ (b ≡ 45))))

abbrev pub IsName : List ℕ → Type 0
IsName name = (1 ≤ length name) × (length name ≤ 64) × AllByRecursion IsNameByte name

-- a line that names a schedule: the name, a colon, and the entries
abbrev pub IsSchedule : List ℕ → List ℕ × List Entry → Type 0
IsSchedule text line = IsName line.0 × (tail : List ℕ) × AreEntries tail line.1 × (text ≡ line.0 ++ (codes ":" ++ tail))

-- a line that stands for nothing: an empty one, or a comment in UTF-8
abbrev pub IsNothing : List ℕ → Type 0
IsNothing text = (text ≡ []) ⊎ ((rest : List ℕ) × (text ≡ codes "#" ++ rest) × IsUtf8 text)
