-- How a copy-on-write holder lends its value to be written: the rule of `make_mut` in Rust's standard library
-- (https://doc.rust-lang.org/std/rc/struct.Rc.html#method.make_mut), for a value whose copy is equal to it.
use Rattle.std.specs.Prelude.{◌≡◌, Result}
use Rattle.std.specs.Borrow.{LendsSoOk, MutBor, Fml, RattleType}

-- once the loan is over, the holder shows what was last written through it; where the loan is refused, what it showed before
abbrev pub LendsShown : (H T : RattleType) → (H.Denot → T.Denot) → MutBor H.Denot → {E : Type 0} → Result (MutBor T.Denot) E → Fml
LendsShown H T shown holder loan =
    LendsSoOk H T holder loan (λ after written. shown after ≡ written) (λ after. shown after ≡ shown holder.now)
