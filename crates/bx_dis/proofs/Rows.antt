-- Rows that grow by what stands at a number.
use Rattle.std.proofs.Common.{◌≡◌, ℕ, ◌+◌, List, [], ◌∷◌, ◌++◌, refl, ap, sym, ◌∙◌, drop}
use Rattle.std.specs.Prelude.{Option, Some, None, slice_get}
use Rattle.std.proofs.lemmas.List.{append-nil}
use Rattle.bx_listing.specs.declared.items.Operand.{Operand}
use Rattle.bx_listing.specs.Items.{Item}
use Rattle.bx_asm.specs.Drafts.{as_list, at_number}

grown : {A : Type 0} (old new xs : List A) (k : ℕ) (x : A) → Some x ≡ slice_get xs k → new ≡ old ++ x ∷ [] → new ≡ old ++ at_number k xs
grown old new xs k x here pushed = pushed ∙ ap (λ (o : Option _). old ++ as_list o) here

same : {A : Type 0} (old xs : List A) (k : ℕ) → None ≡ slice_get xs k → old ≡ old ++ at_number k xs
same old xs k here = sym (append-nil old) ∙ ap (λ (o : Option _). old ++ as_list o) here

pub added_there : (old new xs : List Operand) (k : ℕ) (x : Operand) → Some x ≡ slice_get xs k → new ≡ old ++ x ∷ [] → new ≡ old ++ at_number k xs
added_there old new xs k x = grown old new xs k x

pub added_nowhere : (old xs : List Operand) (k : ℕ) → None ≡ slice_get xs k → old ≡ old ++ at_number k xs
added_nowhere old xs k = same old xs k

pub item_there : (old new xs : List Item) (k : ℕ) (x : Item) → Some x ≡ slice_get xs k → new ≡ old ++ x ∷ [] → new ≡ old ++ at_number k xs
item_there old new xs k x = grown old new xs k x

pub no_item : (old xs : List Item) (k : ℕ) → None ≡ slice_get xs k → old ≡ old ++ at_number k xs
no_item old xs k = same old xs k
