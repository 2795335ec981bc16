-- When two modules' code is the same.
use Rattle.std.proofs.Common.{◌≡◌, ℕ, ◌+◌, ◌<◌, List, [], ◌∷◌, ◌++◌, length, map, take, drop, refl, ap, sym, ◌∙◌}
use Rattle.std.specs.Prelude.{slice_get, unwrap_or}
use Rattle.std.specs.List.{flat_map}
use Rattle.std.proofs.lemmas.List.{take_more_same}
use Rattle.std.proofs.lemmas.Option.{unwrap_or-slice_get}
use Rattle.std.proofs.Math.Seq.{take-append_seam, drop-append_seam}
use Rattle.bx_ops.specs.declared.opcode.Op.TheVariants.{Line}
use Rattle.bx_listing.specs.Items.{Item}
use Rattle.bx_listing.specs.declared.items.Operand.{Operand, TheVariants.Nil}
use Rattle.bx_listing.specs.Code.{Code, CodeFunction, items}
use Rattle.bx_asm.specs.Unit.{code_head}

-- rows that were the same so far, and whose next elements are, are the same one further
so_far : {A : Type 0} (d : A) (xs ys : List A) (i : ℕ) → i < length xs → i < length ys → take i xs ≡ take i ys → slice_get xs i ≡ slice_get ys i → take (i + 1) xs ≡ take (i + 1) ys
so_far d xs ys i hx hy same next =
    take_more_same xs ys i d hx hy same (sym (unwrap_or-slice_get xs i d) ∙ ap (λ o. unwrap_or o d) next ∙ unwrap_or-slice_get ys i d)

pub same_so_far : (xs ys : List Operand) (i : ℕ) → i < length xs → i < length ys → take i xs ≡ take i ys → slice_get xs i ≡ slice_get ys i → take (i + 1) xs ≡ take (i + 1) ys
same_so_far xs ys i = so_far Nil xs ys i

pub same_items_so_far : (xs ys : List Item) (i : ℕ) → i < length xs → i < length ys → take i xs ≡ take i ys → slice_get xs i ≡ slice_get ys i → take (i + 1) xs ≡ take (i + 1) ys
same_items_so_far xs ys i = so_far (record { op = Line; operands = [] }) xs ys i

abbrev flat : List CodeFunction → List Item
flat fs = flat_map (λ f. f.items) fs

-- functions are told apart by their heads and by all items in a row
same_functions : (fs gs : List CodeFunction) → map code_head fs ≡ map code_head gs → flat fs ≡ flat gs → fs ≡ gs
same_functions [] [] heads all = refl
same_functions [] (g ∷ gs) heads all = absurd (cc)
same_functions (f ∷ fs) [] heads all = absurd (cc)
same_functions (f ∷ fs) (g ∷ gs) heads all =
    let head : code_head f ≡ code_head g = cc in
    let others : map code_head fs ≡ map code_head gs = cc in
    let count : length f.items ≡ length g.items = λ k. (head k).count in
    let own : f.items ≡ g.items =
    sym (take-append_seam f.items (flat fs)) ∙ ap (take (length f.items)) all ∙ ap (λ n. take n (g.items ++ flat gs)) count ∙ take-append_seam g.items (flat gs) in
    let rest : flat fs ≡ flat gs =
    sym (drop-append_seam f.items (flat fs)) ∙ ap (drop (length f.items)) all ∙ ap (λ n. drop n (g.items ++ flat gs)) count ∙ drop-append_seam g.items (flat gs) in
    let tail = same_functions fs gs others rest in
    λ k. record { name = (head k).name; arity = (head k).arity; entry = (head k).entry; items = own k } ∷ tail k

pub same_code : (c d : Code) → c.name ≡ d.name → c.exports ≡ d.exports → map code_head c.functions ≡ map code_head d.functions → items c ≡ items d → c ≡ d
same_code c d name exports heads all =
    let functions = same_functions c.functions d.functions heads all in
    λ k. record { name = name k; exports = exports k; functions = functions k }
