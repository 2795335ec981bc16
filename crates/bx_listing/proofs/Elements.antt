-- What a row of elements is, and what a tuple that begins with an atom holds.
use Rattle.bx_listing.proofs.Known.{◌≡◌, ℕ, ◌<◌, ◌≤◌, ◌-◌, length, take, drop, get_or, List, [], ◌∷◌, Some, None, refl, sym, ap, subst, ◌∙◌, arith, option_map}
use Rattle.bx_listing.proofs.Known.{take-length, Span, seen, Tree, atom, tuple, list, nil, cons, chain, nodes, tagged, shape, elements, word, proper}
use Rattle.bx_listing.proofs.Known.{list_elements, operand_word, untyped, untyped_of}
use Rattle.bx_text.specs.declared.node.View.{View}
use Rattle.bx_text.specs.declared.node.View.TheVariants as views
use Rattle.bx_listing.specs.declared.words.OperandWord.TheVariants as words

-- an element that is read as a node
pub element_at : (ts : List Tree) (i : ℕ) (t e : Tree) → t ≡ e → e ≡ get_or ts i e → t ≡ get_or ts i t
element_at ts i t e same at = subst (λ x. x ≡ get_or ts i x) (sym same) at

pub elements-chain : (ts : List Tree) → elements (chain ts nil) ≡ ts
elements-chain [] = refl
elements-chain (t ∷ ts) = ap (λ us. t ∷ us) (elements-chain ts)

pub proper-chain : (ts : List Tree) → proper (chain ts nil) ≡ Some ts
proper-chain [] = refl
proper-chain (t ∷ ts) = ap (option_map (λ us. t ∷ us)) (proper-chain ts)

pub falls_in_tuple : (t a : Tree) (word : List ℕ) (parts : List Tree) → shape t ≡ tagged word (a ∷ parts) → nodes a < nodes t
falls_in_tuple (tuple s (cons (atom r text) (cons b rest))) a word parts e =
    let here : b ≡ a = cc in
    omega (arith, ap nodes here)
falls_in_tuple t a word parts e = absurd (cc)

pub untyped_tagged : (t a b : Tree) (word : List ℕ) → shape t ≡ tagged word (a ∷ b ∷ []) → untyped t ≡ untyped_of t (operand_word word) (untyped a) (b ∷ [])
untyped_tagged (tuple s (cons (atom r text) (cons c rest))) a b word e =
    let at_c : c ≡ a = cc in
    let at_rest : elements rest ≡ b ∷ [] = cc in
    let at_word : text ≡ word = cc in
    rw (at_c, at_rest, at_word) refl
untyped_tagged t a b word e = absurd (cc)

-- R of `{tr,R,T}` is smaller
pub typed_falls : (t a : Tree) (word : List ℕ) (parts : List Tree) → shape t ≡ tagged word parts → 2 ≤ length parts → a ≡ get_or parts 0 a → nodes a < nodes t
typed_falls t a word [] e two at = absurd (omega (arith, two))
typed_falls t a word (x ∷ parts) e two at = falls_in_tuple t a word parts (e ∙ ap (λ y. tagged word (y ∷ parts)) (sym at))

-- and stands for the whole
pub typed_inner : (t a : Tree) (word : List ℕ) (parts : List Tree) → shape t ≡ tagged word parts → 2 ≤ length parts → length parts < 3 → a ≡ get_or parts 0 a → operand_word word ≡ words.Typed → untyped t ≡ untyped a
typed_inner t a word (x ∷ y ∷ []) e two three at typed =
    untyped_tagged t x y word e ∙ (ap (λ k. untyped_of t k (untyped x) (y ∷ [])) typed ∙ ap untyped (sym at))
typed_inner t a word (x ∷ y ∷ z ∷ parts) e two three at typed = absurd (omega (arith, three))
typed_inner t a word _ e two three at typed = absurd (omega (arith, two))

-- a tuple whose first element is an atom
pub tuple_shape : (t first : Tree) (s : Span) (es : List Tree) (text : List ℕ) → tuple s (chain es nil) ≡ t → 1 ≤ length es → first ≡ get_or es 0 first → Some text ≡ word first → tagged text (take (length es - 1) (drop 1 es)) ≡ shape t
tuple_shape t first s [] text e one at named = absurd (omega (arith, one))
tuple_shape t first s (atom r w ∷ es) text e one at named =
    let here : text ≡ w = cc named in
    let all : length (atom r w ∷ es) - 1 ≡ length es = omega arith in
    rw (all, take-length, here) (ap (λ row. tagged w row) (sym (elements-chain es)) ∙ ap shape e)
tuple_shape t first s (_ ∷ es) text e one at named = absurd (cc named)

pub row_elements : (t : Tree) (s : Span) (es : List Tree) → list s (chain es nil) ≡ t → Some es ≡ list_elements t
row_elements t s es e = sym (proper-chain es) ∙ ap list_elements e

-- what is no row of elements, as no term in a text is one
pub view_elements : (s r : Span) (t u : Tree) (v : View) (es : List Tree) → seen r v ≡ u → list s (chain es u) ≡ t → None ≡ list_elements t
view_elements s r t u v es e h = sym (no_proper (seen r v) es (no_nil v r)) ∙ (ap (λ w. list_elements (list s (chain es w))) e ∙ ap list_elements h)
  where
    no_nil : (v : View) (r : Span) → proper (seen r v) ≡ None
    no_nil (views.Integer n) r = refl
    no_nil _ r = refl

    no_proper : (w : Tree) (es : List Tree) → proper w ≡ None → list_elements (list s (chain es w)) ≡ None
    no_proper w [] none = none
    no_proper w (x ∷ es) none = ap (option_map (λ us. x ∷ us)) (no_proper w es none)
