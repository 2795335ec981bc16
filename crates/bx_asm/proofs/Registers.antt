-- Registers that are out of range.
use Rattle.std.proofs.Common.{◌≡◌, ℕ, List, map, refl, ap, sym, ◌∙◌, Bool, true, false}
use Rattle.std.specs.Prelude.{Option, Some, None, option_map, option_and_then, slice_get, if◌then◌else◌}
use Rattle.std.proofs.lemmas.Option.{slice_get-map}
use Rattle.bx_listing.specs.Items.{Item, PlacedItem}
use Rattle.bx_asm.specs.Limits.{has_registers, register_fault}

-- by what stands there, and whether its registers are in range
by : (o : Option PlacedItem) (i : Item) (b : Bool) → Some i ≡ option_map (λ (p : PlacedItem). p.item) o → has_registers i ≡ b
    → option_and_then register_fault o ≡ (if b then None else option_map (λ (p : PlacedItem). p.line) o)
by None i b e h = absurd (cc)
by (Some p) i true e h =
    let same : i ≡ p.item = cc in
    ap (λ (c : Bool). if c then None else Some p.line) (ap has_registers (sym same) ∙ h)
by (Some p) i false e h =
    let same : i ≡ p.item = cc in
    ap (λ (c : Bool). if c then None else Some p.line) (ap has_registers (sym same) ∙ h)

pub fault_there : (ps : List PlacedItem) (n : ℕ) (i : Item) → Some i ≡ option_map (λ (p : PlacedItem). p.item) (slice_get ps n) → has_registers i ≡ false
    → option_and_then register_fault (slice_get ps n) ≡ slice_get (map (λ (p : PlacedItem). p.line) ps) n
fault_there ps n i e h = by (slice_get ps n) i false e h ∙ sym (slice_get-map (λ (p : PlacedItem). p.line) ps n)

pub no_fault_there : (ps : List PlacedItem) (n : ℕ) (i : Item) → Some i ≡ option_map (λ (p : PlacedItem). p.item) (slice_get ps n) → has_registers i ≡ true
    → option_and_then register_fault (slice_get ps n) ≡ None
no_fault_there ps n i e h = by (slice_get ps n) i true e h

pub nothing_there : (ps : List PlacedItem) (n : ℕ) → option_map (λ (p : PlacedItem). p.item) (slice_get ps n) ≡ None → option_and_then register_fault (slice_get ps n) ≡ None
nothing_there ps n e = go (slice_get ps n) e
  where
    go : (o : Option PlacedItem) → option_map (λ (p : PlacedItem). p.item) o ≡ None → option_and_then register_fault o ≡ None
    go None e = refl
    go (Some p) e = absurd (cc)
