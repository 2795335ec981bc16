-- The arguments of a native, where they stand.
use Rattle.std.specs.Prelude.{List, [], ◌∷◌}
use Rattle.bx_terms.specs.Tree.{Tree}
use Rattle.bx_bifs.specs.declared.passing.Passed.{Passed, TheVariants.One, TheVariants.Two, TheVariants.Three}

abbrev pub passed : Passed → List Tree
passed (One t) = t.now ∷ []
passed (Two t u) = t.now ∷ u.now ∷ []
passed (Three t u v) = t.now ∷ u.now ∷ v.now ∷ []
