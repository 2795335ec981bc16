-- Entries are read from left to right.
use Rattle.bx_plan.proofs.Words.{◌≡◌, ℕ, ◌+◌, ◌++◌, ◌∷◌, [], List, Option, option_map, length, replicate, refl, sym, ap, ◌∙◌, append_assoc, append-nil, length-append, length-replicate, arith, Entry, entry_each, count_of, spread}

-- the entries so far with those of these words
abbrev pub entries_after : List Entry → List (List ℕ) → Option (List Entry)
entries_after entries words = option_map (λ more. entries ++ more) (entry_each words)

-- one entry more
pub count_push : (entries : List Entry) (entry : Entry) → count_of (entries ++ entry ∷ []) ≡ count_of entries + entry.1
count_push [] entry = omega arith
count_push (first ∷ entries) entry = omega (arith, count_push entries entry)

pub spread_push : (entries : List Entry) (entry : Entry) → spread (entries ++ entry ∷ []) ≡ spread entries ++ replicate entry.1 entry.0
spread_push [] entry = append-nil (replicate entry.1 entry.0)
spread_push (first ∷ entries) entry = ap (λ cs. replicate first.1 first.0 ++ cs) (spread_push entries entry) ∙ sym (append_assoc (replicate first.1 first.0) (spread entries) (replicate entry.1 entry.0))

pub length_spread : (entries : List Entry) → length (spread entries) ≡ count_of entries
length_spread [] = refl
length_spread (entry ∷ entries) = length-append (replicate entry.1 entry.0) (spread entries) ∙ ap (λ n. n + length (spread entries)) (length-replicate entry.1 entry.0) ∙ ap (λ n. entry.1 + n) (length_spread entries)
