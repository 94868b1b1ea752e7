-- What holds of the value of an option, where there is one, and how that goes through what is done with the option.
use Rattle.std.proofs.Common.{◌≡◌, refl, subst, Bool, true, false, if◌then◌else◌}
use Rattle.std.specs.Prelude.{Option, Some, None}
use Rattle.std.specs.Option.{option_map, option_and_then, option_map_or}

-- the value, where there is one, is such
pub data Holds {A : Type 0} (P : A → Type 0) : Option A → Type 0 where
  nothing : Holds P None
  just : {a : A} → P a → Holds P (Some a)

of_value : {A : Type 0} {P : A → Type 0} {a : A} → Holds P (Some a) → P a
of_value (Holds.just p) = p

-- what holds of the value of an option holds of the value that it is known to have
pub of_known : {A : Type 0} {P : A → Type 0} {o : Option A} {a : A} → Holds P o → o ≡ Some a → P a
of_known {P = P} h e = of_value (subst (Holds P) e h)

-- what holds of each value that the option may be known to have
pub of_each : {A : Type 0} {P : A → Type 0} (o : Option A) → ((a : A) → o ≡ Some a → P a) → Holds P o
of_each None each = Holds.nothing
of_each (Some a) each = Holds.just (each a refl)

-- the option has its value
pub itself : {A : Type 0} (o : Option A) → Holds (λ a. o ≡ Some a) o
itself o = of_each o (λ a e. e)

pub holds_then : {A B : Type 0} {P : A → Type 0} {Q : B → Type 0} (f : A → Option B) {o : Option A} → Holds P o → ((a : A) → P a → Holds Q (f a)) → Holds Q (option_and_then f o)
holds_then f Holds.nothing each = Holds.nothing
holds_then f (Holds.just {a} p) each = each a p

pub holds_map : {A B : Type 0} {P : A → Type 0} {Q : B → Type 0} (f : A → B) {o : Option A} → Holds P o → ((a : A) → P a → Q (f a)) → Holds Q (option_map f o)
holds_map f Holds.nothing each = Holds.nothing
holds_map f (Holds.just {a} p) each = Holds.just (each a p)

pub holds_map_or : {A B : Type 0} {P : A → Type 0} {Q : B → Type 0} (f : A → Option B) {o : Option A} {other : Option B} → Holds P o → ((a : A) → P a → Holds Q (f a)) → Holds Q other
    → Holds Q (option_map_or f o other)
holds_map_or f Holds.nothing each last = last
holds_map_or f (Holds.just {a} p) each last = each a p

pub holds_weaken : {A : Type 0} {P Q : A → Type 0} {o : Option A} → Holds P o → ((a : A) → P a → Q a) → Holds Q o
holds_weaken Holds.nothing each = Holds.nothing
holds_weaken (Holds.just {a} p) each = Holds.just (each a p)

pub holds_if : {A : Type 0} {P : A → Type 0} (test : Bool) {o u : Option A} → (test ≡ true → Holds P o) → (test ≡ false → Holds P u) → Holds P (if test then o else u)
holds_if true where_true where_false = where_true refl
holds_if false where_true where_false = where_false refl
