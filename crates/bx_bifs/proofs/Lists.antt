-- Lists by their elements.
use Rattle.bx_bifs.proofs.Words.{◌≡◌, ℕ, zero, suc, ◌+◌, ◌<◌, ◌≤◌, ℤ, pos, negsuc, ◌<ℤ◌, List, [], ◌∷◌, length, get_or, Option, Some, None, refl, sym, ap, ◌∙◌}
use Rattle.bx_bifs.proofs.Words.{arith, option_map, slice_get, ints, Tree, listed, part, part_from_one}
use Rattle.std.proofs.lemmas.Option.{slice_get_past, slice_get_read}

-- a list from its second element on is one element shorter
pub one_more : (count : ℕ) (o : Option ℕ) → option_map (λ n. count + 1 + n) o ≡ option_map (λ n. count + n) (option_map (λ n. 1 + n) o)
one_more count (Some n) = ap Some (omega arith)
one_more count None = refl

pub none_counted : (o : Option ℕ) → option_map (λ n. 0 + n) o ≡ o
none_counted (Some n) = ap Some (omega arith)
none_counted None = refl

pub part_listed : (ts : List Tree) (place : ℕ) → part (listed ts) place ≡ slice_get ts place
part_listed [] place = refl
part_listed (t ∷ ts) zero = refl
part_listed (t ∷ ts) (suc place) = part_listed ts place

pub part_here : (ts : List Tree) (place : ℕ) (t : Tree) → place < length ts → t ≡ get_or ts place t → Some t ≡ part (listed ts) place
part_here ts place t here is = sym (part_listed ts place ∙ slice_get_read ts (length ts) place t refl here is)

pub part_past : (ts : List Tree) (place : ℕ) → length ts ≤ place → None ≡ part (listed ts) place
part_past ts place past = sym (part_listed ts place ∙ slice_get_past ts place past)

pub part_before : (t : Tree) (place : ℤ) → place <ℤ pos 1 → None ≡ part_from_one t place
part_before t (pos (suc n)) h = absurd (omega (arith, ints))
part_before t _ h = refl
