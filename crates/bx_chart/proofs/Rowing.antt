-- Rows of events, one below the other.
use Rattle.std.proofs.Common.{◌≡◌, ◌∙◌, ℕ, ◌+◌, ◌<◌, List, ◌∷◌, ◌++◌, ap, append_assoc, codes, drop, length, slice_index_or, sym}
use Rattle.std.proofs.lemmas.List.{drop_more}
use Rattle.bx_load.specs.Image.{Loaded}
use Rattle.bx_svg.specs.Markup.{written}
use Rattle.bx_svg.specs.Shapes.{group}
use Rattle.bx_events.specs.declared.events.Event.{Event}
use Rattle.bx_engine.specs.Sources.{Sources}
use Rattle.bx_chart.specs.Rows.{row_of, rows_from}

-- a row more is written, and those below it are left
pub row_more : (image : Loaded) (sources : Sources) (row : ℕ) (events : List Event) (event : Event) (old new whole : List ℕ)
    → row < length events → event ≡ slice_index_or events row event
    → old ++ written (rows_from image sources row (drop row events)) ≡ whole
    → new ≡ old ++ written (group (codes "row") (row_of image sources row event))
    → new ++ written (rows_from image sources (row + 1) (drop (row + 1) events)) ≡ whole
row_more image sources row events event old new whole short at so_far wrote =
    let rest : List ℕ = written (rows_from image sources (row + 1) (drop (row + 1) events)) in
    let here = drop_more events row event short ∙ ap (λ (e : Event). e ∷ drop (row + 1) events) (sym at) in
    ap (λ (l : List ℕ). l ++ rest) wrote
    ∙ append_assoc old (written (group (codes "row") (row_of image sources row event))) rest
    ∙ sym (ap (λ (es : List Event). old ++ written (rows_from image sources row es)) here)
    ∙ so_far
