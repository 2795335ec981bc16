use Rattle.std.proofs.Common.{◌≡◌, List, ℕ, IsTrue, Some, map, drop, take}
use Rattle.bx_engine.specs.Sources.{sources_of}
use Rattle.bx_engine.proofs.FileRows.{SoFar}
use Rattle.bx_engine.proofs.units.units_of.Given as goal

-- the files so far came to these units and locations, and the others weren't touched
abbrev pub invariant-loop-file : goal.invariant-loop-file
invariant-loop-file g l = record {
  so_far : (given : List (List ℕ)) → map g.R.Read.remaining l.fn.listings ≡ map (λ text. Some text) given
      → SoFar l.fn.atoms l.file given l.atoms l.units.items;
  located : IsTrue l.fn.asked → (given : List (List ℕ)) → map g.R.Read.remaining l.fn.listings ≡ map (λ text. Some text) given
      → l.sources ≡ sources_of (take l.file given);
  rest : drop l.file l.listings ≡ drop l.file l.fn.listings;
}
