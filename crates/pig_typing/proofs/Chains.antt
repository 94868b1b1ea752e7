-- What holds of a result, through what follows it.
use Rattle.std.specs.Prelude.{◌≡◌, Option, Some, None, refl}
use Rattle.std.specs.declared.result.Result.TheVariants.{Ok, Err}
use Rattle.pig_typing.specs.declared.faults.CheckKind.{CheckKind}
use Rattle.pig_typing.specs.Results.{Checked, due, ◌>>=◌}

-- of a result that something holds of
pub then_told : {A B : Type 0} (P : Checked A → Type 0) (K : Checked B → Type 0) (next : A → Checked B) (r : Checked A) → P r
    → ((a : A) → P (Ok a) → K (next a)) → ((f : CheckKind) → P (Err f) → K (Err f)) → K (r >>= next)
then_told P K next (Ok a) h fine bad = fine a h
then_told P K next (Err f) h fine bad = bad f h

-- the same without anything that follows
pub passes : {A : Type 0} (P K : Checked A → Type 0) (r : Checked A) → P r → ((a : A) → P (Ok a) → K (Ok a)) → ((f : CheckKind) → P (Err f) → K (Err f)) → K r
passes P K (Ok a) h fine bad = fine a h
passes P K (Err f) h fine bad = bad f h

-- of a result by its equation
pub then_is : {A B : Type 0} (K : Checked B → Type 0) (next : A → Checked B) (r : Checked A)
    → ((a : A) → r ≡ Ok a → K (next a)) → ((f : CheckKind) → r ≡ Err f → K (Err f)) → K (r >>= next)
then_is K next (Ok a) fine bad = fine a refl
then_is K next (Err f) fine bad = bad f refl

-- of what is due where something is missing
pub due_is : {A B : Type 0} (K : Checked B → Type 0) (next : A → Checked B) (f : CheckKind) (o : Option A)
    → ((a : A) → o ≡ Some a → K (next a)) → (o ≡ None → K (Err f)) → K (due f o >>= next)
due_is K next f (Some a) fine bad = fine a refl
due_is K next f None fine bad = bad refl

-- and of something made of it
pub due_made : {A B C : Type 0} (K : Checked C → Type 0) (make : A → B) (next : B → Checked C) (f : CheckKind) (o : Option A)
    → ((a : A) → o ≡ Some a → K (next (make a))) → (o ≡ None → K (Err f)) → K ((due f o >>= λ a. Ok (make a)) >>= next)
due_made K make next f (Some a) fine bad = fine a refl
due_made K make next f None fine bad = bad refl
