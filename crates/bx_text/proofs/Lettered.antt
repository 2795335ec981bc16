-- The characters of strings, to which those of one more are added.
use Rattle.std.proofs.Common.{◌≡◌, ℕ, ◌<◌, List, [], ◌∷◌, ◌++◌, length, map, pos, refl, ap, suc, arith}
use Rattle.std.specs.List.{All}
use Rattle.std.proofs.lemmas.Str.{chars-nil}
use Rattle.std.proofs.lemmas.List.{append-nil, map-append, length-append, get_or_append_left, get_or_at}
use Rattle.std.proofs.lemmas.List.Elements.{All-append, All-nil, All-cons}
use Rattle.bx_text.specs.declared.node.Span.{Span}
use Rattle.bx_text.specs.declared.letters.Letter.{Letter}
use Rattle.bx_text.specs.Tree.{Tree, integer}
use Rattle.bx_text.specs.Terms.{letters}
use Rattle.bx_text.specs.Lettered.{nowhere, lettered, AreLettered}

abbrev pub letter_of : ℕ → ℕ → Letter
letter_of string c = record { code = c; string = string }

-- characters stand where they did once more strings follow
lettered_more : (strings more : List Span) (ls : List Letter) → AreLettered strings ls → map (lettered (strings ++ more)) ls ≡ map (lettered strings) ls
lettered_more strings more [] are = refl
lettered_more strings more (l ∷ ls) are =
    let here : lettered (strings ++ more) l ≡ lettered strings l = ap (λ s. integer s (pos l.code)) (get_or_append_left strings more nowhere l.string (are 0 l (omega arith))) in
    let rest : map (lettered (strings ++ more)) ls ≡ map (lettered strings) ls = lettered_more strings more ls (λ k d h. are (suc k) d (omega arith)) in
    rw (here, rest)

-- those of the last string stand there
last_lettered : (strings : List Span) (s : Span) (cs : List ℕ) → map (lettered (strings ++ s ∷ [])) (map (letter_of (length strings)) cs) ≡ map (λ c. integer s (pos c)) cs
last_lettered strings s [] = refl
last_lettered strings s (c ∷ cs) =
    let here : lettered (strings ++ s ∷ []) (letter_of (length strings) c) ≡ integer s (pos c) = ap (λ r. integer r (pos c)) (get_or_at strings s [] nowhere (length strings) refl) in
    let rest = last_lettered strings s cs in
    rw (here, rest)

pub letters_added : (strings : List Span) (s : Span) (ls : List Letter) (cs : List ℕ) → AreLettered strings ls
    → map (lettered (strings ++ s ∷ [])) (ls ++ map (letter_of (length strings)) cs) ≡ map (lettered strings) ls ++ map (λ c. integer s (pos c)) cs
letters_added strings s ls cs are =
    rw (map-append (lettered (strings ++ s ∷ [])) ls (map (letter_of (length strings)) cs), lettered_more strings (s ∷ []) ls are, last_lettered strings s cs) refl

pub are_added : (strings : List Span) (s : Span) (ls : List Letter) (cs : List ℕ) → AreLettered strings ls → AreLettered (strings ++ s ∷ []) (ls ++ map (letter_of (length strings)) cs)
are_added strings s ls cs are =
    All-append (λ l. l.string < length (strings ++ s ∷ [])) ls (map (letter_of (length strings)) cs) (λ k d h. let below = are k d h in omega (arith, below, length-append strings (s ∷ []))) (last cs)
  where
    last : (cs : List ℕ) → All (λ l. l.string < length (strings ++ s ∷ [])) (map (letter_of (length strings)) cs)
    last [] = All-nil (λ l. l.string < length (strings ++ s ∷ []))
    last (c ∷ cs) = All-cons (λ l. l.string < length (strings ++ s ∷ [])) (letter_of (length strings) c) (map (letter_of (length strings)) cs) (omega (arith, length-append strings (s ∷ []))) (last cs)

-- an empty string spells none
pub no_letters : (xs : List Tree) (s : Span) (bs : List ℕ) → 0 ≡ length bs → xs ≡ xs ++ letters s bs
no_letters xs s [] e = rw (chars-nil, append-nil) refl
no_letters xs s (b ∷ bs) e = absurd (omega arith)
