-- What a call's answer says, passed on from a definition to one that begins with it.
use Rattle.std.proofs.Common.{◌≡◌, Result, Ok, Err, sym, refl, ◌∙◌, subst}
use Rattle.bx_terms.specs.Outcomes.{Gives, ◌>>=◌}
use Rattle.bx_terms.specs.declared.faults.Fault.{Fault, TheVariants.Memory}

-- a refusal of one definition is that of another
pub gives_err : {X Y A B T U : Type 0} (v : X → A) (w : Y → B) (e : Fault) (said : Result A Fault) (other : Result B Fault)
    → (T → U) → (said ≡ Err e → other ≡ Err e) → Gives T v (Err e) said → Gives U w (Err e) other
gives_err v w Memory said other f g h = f h
gives_err v w e said other f g h = g h

-- an answer to one definition is one to another that says the same
pub gives_same : {X A : Type 0} (T U : Type 0) (v : X → A) (r : Result X Fault) (said other : Result A Fault)
    → (T → U) → said ≡ other → Gives T v r said → Gives U v r other
gives_same T U v (Ok x) said other f e h = sym e ∙ h
gives_same T U v (Err e) said other f s h = gives_err v v e said other f (λ g. sym s ∙ g) h

pub ok_same : {A : Type 0} (x y : A) → ◌≡◌ {A = Result A Fault} (Ok x) (Ok y) → x ≡ y
ok_same x y e = cc

-- what comes first was good where the whole is
pub bind_ok : {A B : Type 0} (r : Result A Fault) (f : A → Result B Fault) (y : B) → (r >>= f) ≡ Ok y → (x : A) × (r ≡ Ok x) × (f x ≡ Ok y)
bind_ok (Ok x) f y h = (x, refl, h)
bind_ok (Err e) f y h = cc

-- what is answered, if anything is, is so
pub record Yields {A : Type 0} (P : A → Type 0) (r : Result A Fault) : Type 0 where
  pub each : (x : A) → r ≡ Ok x → P x

pub yes : {A : Type 0} {P : A → Type 0} {x : A} → P x → Yields P (Ok x)
yes {P = P} {x = x} p = record { each = λ y e. subst P (ok_same x y e) p }

pub no : {A : Type 0} {P : A → Type 0} {f : Fault} → Yields P (Err f)
no = record { each = λ y e. absurd (cc) }

pub reads : {A : Type 0} (r : Result A Fault) → Yields (λ x. r ≡ Ok x) r
reads r = record { each = λ x e. e }

pub also : {A : Type 0} {P Q : A → Type 0} {r : Result A Fault} → ((x : A) → P x → Q x) → Yields P r → Yields Q r
also g a = record { each = λ x e. g x (a.each x e) }

pub bound : {A B : Type 0} {P : A → Type 0} {Q : B → Type 0} {r : Result A Fault} (f : A → Result B Fault) → Yields P r → ((x : A) → P x → Yields Q (f x)) → Yields Q (r >>= f)
bound {r = r} f a g = record { each = λ y h. let b = bind_ok r f y h in (g b.0 (a.each b.0 b.1)).each y b.2 }

pub read : {A B : Type 0} {Q : B → Type 0} (r : Result A Fault) (f : A → Result B Fault) → ((x : A) → r ≡ Ok x → Yields Q (f x)) → Yields Q (r >>= f)
read r f g = bound f (reads r) g

pub assoc : {A B C : Type 0} {Q : C → Type 0} (r : Result A Fault) (f : A → Result B Fault) (g : B → Result C Fault) → Yields Q (r >>= λ x. f x >>= g) → Yields Q ((r >>= f) >>= g)
assoc (Ok x) f g a = a
assoc (Err e) f g a = no
