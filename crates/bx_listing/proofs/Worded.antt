-- What a word is, by how it is spelled.
use Rattle.bx_listing.proofs.Known.{◌≡◌, ℕ, true, List, codes, bytes_eq, refl, bytes_eq-Decides, FormWord, OperandWord, form_word, operand_word, sym, ◌∙◌}
use Rattle.bx_listing.proofs.Known.{arith, Shape, bare, tagged, other, shape, Tree}
use Rattle.bx_listing.specs.declared.words.FormWord.TheVariants as forms
use Rattle.bx_listing.specs.declared.words.OperandWord.TheVariants as operands

abbrev pub IsFormWord : List ℕ → FormWord → Type 0
IsFormWord text forms.Module = text ≡ codes "module"
IsFormWord text forms.Exports = text ≡ codes "exports"
IsFormWord text forms.Attributes = text ≡ codes "attributes"
IsFormWord text forms.Labels = text ≡ codes "labels"
IsFormWord text forms.Function = text ≡ codes "function"
IsFormWord text forms.Annotation = text ≡ codes "%"
IsFormWord text forms.Test = text ≡ codes "test"
IsFormWord text forms.Bif = text ≡ codes "bif"
IsFormWord text forms.GcBif = text ≡ codes "gc_bif"
IsFormWord text forms.Raise = text ≡ codes "raise"
IsFormWord text _ = Unit {0}

abbrev pub IsOperandWord : List ℕ → OperandWord → Type 0
IsOperandWord text operands.X = text ≡ codes "x"
IsOperandWord text operands.Y = text ≡ codes "y"
IsOperandWord text operands.Typed = text ≡ codes "tr"
IsOperandWord text operands.Label = text ≡ codes "f"
IsOperandWord text operands.Integer = text ≡ codes "integer"
IsOperandWord text operands.Atom = text ≡ codes "atom"
IsOperandWord text operands.Nil = text ≡ codes "nil"
IsOperandWord text operands.Literal = text ≡ codes "literal"
IsOperandWord text operands.External = text ≡ codes "extfunc"
IsOperandWord text operands.List = text ≡ codes "list"
IsOperandWord text operands.Amounts = text ≡ codes "alloc"
IsOperandWord text _ = Unit {0}

pub same_bytes : (a b : List ℕ) → bytes_eq a b ≡ true → a ≡ b
same_bytes a b h = (bytes_eq-Decides a b).0 h

pub form_word_is : (text : List ℕ) → IsFormWord text (form_word text)
form_word_is text = grind (arith, same_bytes)

pub operand_word_is : (text : List ℕ) → IsOperandWord text (operand_word text)
operand_word_is text = grind (arith, same_bytes)

-- what follows where a function of a term's shape tells something, by the word with which a tuple begins
pub by_word : {W P : Type 0} (word_of : List ℕ → W) (Is : List ℕ → W → Type 0) (is : (text : List ℕ) → Is text (word_of text)) (Q : Shape → Type 0) (R : W → List Tree → Type 0) (t : Tree)
    → ((text : List ℕ) (parts : List Tree) → Q (tagged text parts) → R (word_of text) parts) → ((text : List ℕ) → shape t ≡ bare text → Q (bare text) → P) → (shape t ≡ other → Q other → P)
    → ((text : List ℕ) (k : W) (parts : List Tree) → Is text k → shape t ≡ tagged text parts → R k parts → P) → Q (shape t) → P
by_word {P = P} word_of Is is Q R t opened alone none begun = by (shape t) refl
  where
    by : (s : Shape) → shape t ≡ s → Q s → P
    by (tagged text parts) e q = begun text (word_of text) parts (is text) e (opened text parts q)
    by (bare text) e q = alone text e q
    by other e q = none e q

-- where nothing but such a tuple tells it
pub by_operand_word : {A P : Type 0} (g : Shape → A) (f : OperandWord → List Tree → A) (t : Tree) (y : A) → ((text : List ℕ) (parts : List Tree) → g (tagged text parts) ≡ f (operand_word text) parts)
    → ((text : List ℕ) → g (bare text) ≡ y → ⊥) → (g other ≡ y → ⊥)
    → ((text : List ℕ) (k : OperandWord) (parts : List Tree) → IsOperandWord text k → shape t ≡ tagged text parts → f k parts ≡ y → P) → g (shape t) ≡ y → P
by_operand_word g f t y same alone none begun =
    by_word operand_word IsOperandWord operand_word_is (λ s. g s ≡ y) (λ k parts. f k parts ≡ y) t (λ text parts h. sym (same text parts) ∙ h) (λ text e h. absurd (alone text h)) (λ e h. absurd (none h)) begun

pub by_form_word : {A P : Type 0} (g : Shape → A) (f : FormWord → List Tree → A) (t : Tree) (y : A) → ((text : List ℕ) (parts : List Tree) → g (tagged text parts) ≡ f (form_word text) parts)
    → ((text : List ℕ) → g (bare text) ≡ y → ⊥) → (g other ≡ y → ⊥)
    → ((text : List ℕ) (k : FormWord) (parts : List Tree) → IsFormWord text k → shape t ≡ tagged text parts → f k parts ≡ y → P) → g (shape t) ≡ y → P
by_form_word g f t y same alone none begun =
    by_word form_word IsFormWord form_word_is (λ s. g s ≡ y) (λ k parts. f k parts ≡ y) t (λ text parts h. sym (same text parts) ∙ h) (λ text e h. absurd (alone text h)) (λ e h. absurd (none h)) begun
