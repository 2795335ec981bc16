-- What is known of the parts of a reading that was good.
use Rattle.bx_listing.proofs.Known.{◌≡◌, ℕ, Option, Some, None, Result, Ok, Err, refl, subst, option_map, Fault, Table, Outcome, read, refused, Reading}
use Rattle.bx_listing.proofs.Known.{and_then, ◌>>=◌, from_result, wanted, outcome, lined}

abbrev IfRead : {A : Type 0} → (A → Table → Type 0) → Outcome A → Type 0
IfRead P (read texts x) = P x texts
IfRead P (refused texts fault) = ⊥

-- what was read was this
pub given : {A : Type 0} (P : A → Table → Type 0) (x y : A) (b c : Table) → read b x ≡ read c y → P x b → P y c
given P x y b c e h = subst (IfRead P) e h

-- the first part was good, and so was the next
pub after_read : {A B C : Type 0} (o : Outcome A) (next : A → Reading B) (c : Table) (y : B) → ((b : Table) (x : A) → o ≡ read b x → (next x).run b ≡ read c y → C) → and_then o next ≡ read c y → C
after_read (read b x) next c y k e = k b x refl e
after_read (refused b fault) next c y k e = absurd (cc)

-- what a function of something wanted tells only where it is there
pub some_then : {A B C : Type 0} (g : Option A → B) (y : B) (o : Option A) → (g None ≡ y → ⊥) → ((x : A) → o ≡ Some x → g (Some x) ≡ y → C) → g o ≡ y → C
some_then g y (Some x) none k e = k x refl e
some_then g y None none k e = absurd (none e)

pub after_wanted : {A B C : Type 0} (fault : Fault) (o : Option A) (next : A → Reading B) (b c : Table) (y : B) → ((x : A) → o ≡ Some x → (next x).run b ≡ read c y → C) → (wanted fault o >>= next).run b ≡ read c y → C
after_wanted fault o next b c y = some_then (λ o. (wanted fault o >>= next).run b) (read c y) o (λ h. cc)

pub after_result : {A B C : Type 0} (r : Result A Fault) (next : A → Reading B) (b c : Table) (y : B) → ((x : A) → r ≡ Ok x → (next x).run b ≡ read c y → C) → (from_result r >>= next).run b ≡ read c y → C
after_result (Ok x) next b c y k e = k x refl e
after_result (Err fault) next b c y k e = absurd (cc)

-- what was wanted was there, and is this
pub wanted_read : {A : Type 0} (P : A → Table → Type 0) (fault : Fault) (o : Option A) (b c : Table) (y : A) → (wanted fault o).run b ≡ read c y → ((x : A) → o ≡ Some x → P x b) → P y c
wanted_read P fault (Some x) b c y e k = given P x y b c e (k x refl)
wanted_read P fault None b c y e k = absurd (cc)

pub outcome_read : {A : Type 0} (b c : Table) (r : Result (Table × A) Fault) (x : A) → outcome b r ≡ read c x → r ≡ Ok (c, x)
outcome_read b c (Ok (t, y)) x e = cc
outcome_read b c (Err fault) x e = absurd (cc)

-- what was read of a form
pub lined_read : {A : Type 0} (line : ℕ) (o : Outcome A) (c : Table) (x : A) → lined line o ≡ read c x → o ≡ read c x
lined_read line (read b y) c x e = e
lined_read line (refused b fault) c x e = absurd (cc)

pub mapped : {A B : Type 0} (P : B → Type 0) (f : A → B) (o : Option A) (y : B) → option_map f o ≡ Some y → ((x : A) → o ≡ Some x → P (f x)) → P y
mapped P f (Some x) y e k = let same : f x ≡ y = cc in subst P same (k x refl)
mapped P f None y e k = absurd (cc)
