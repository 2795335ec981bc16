-- The text that a word keeps.
use Rattle.std.specs.Prelude.{ℕ, List, string_bytes}
use Rattle.bx_text.specs.declared.word.Letters.{Letters, TheVariants.Borrowed, TheVariants.Owned}

abbrev pub letters_text : Letters → List ℕ
letters_text (Borrowed text) = text.now
letters_text (Owned text) = string_bytes text
