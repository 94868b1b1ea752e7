-- The arguments of the command, and what is computed of each option. That options differ is one fact of their list: a name finds its own.
use Rattle.std.proofs.Common.{◌≡◌, ◌∙◌, ◌++◌, ◌⊎◌, ℕ, Bool, codes, true, false, refl, sym, ap, List, [], ◌∷◌, map, Option, Some, None, inl, inr, true≢false}
use Rattle.std.specs.List.{AllByRecursion, find}
use Rattle.std.specs.Str.{bytes_eq}
use Rattle.std.proofs.lemmas.Slice.Eq.{bytes_eq-Decides}
use Rattle.clap.specs.Lexer.{long_of}
use Rattle.clap.specs.Walk.{Held, Row, Rule, Text, arg_by_id, arg_by_long, idle, option_word as filled_by}
use Rattle.clap.specs.Simple.{App, Shape, built}
use Rattle.clap.specs.declared.builder.action.ArgAction.TheVariants.{Set}
use Rattle.clap.specs.declared.builder.value_parser.ValueParser.TheVariants as vp
use Rattle.pig_words.specs.CommandWords.{Given, Setting, Workers, Reducers, Split, Attempts, Word, name_of, option_word, settings, with_operand, with_value}
use Rattle.pig_words.specs.ClapWords.{pig}

-- ---- the arguments of the command

pub data Slot : Type 0 where
  Operand : Slot
  Value : Setting → Slot

abbrev pub slots : List Slot
slots = Operand ∷ map Value settings

abbrev pub id_of : Slot → Text
id_of Operand = codes "operand"
id_of (Value s) = name_of s

abbrev pub long_name : Slot → Option Text
long_name Operand = None
long_name (Value s) = Some (name_of s)

abbrev pub index_of : Slot → Option ℕ
index_of Operand = Some 1
index_of (Value s) = None

abbrev pub is_wanted : Slot → Bool
is_wanted Operand = true
is_wanted (Value s) = false

-- an argument of the command, as it is built
abbrev pub arg_of : Slot → Rule
arg_of x = record {
  id = id_of x;
  long = long_name x;
  aliases = [];
  short = None;
  short_aliases = [];
  index = index_of x;
  action = Some Set;
  range = Some (record { start_inclusive = 1; end_inclusive = 1 });
  value_names = 0;
  defaults = [];
  missing = [];
  trailing_var_arg = false;
  parser = Some vp.String;
  ignore_case = false;
  required = is_wanted x;
  is_simple = true;
  is_free = true;
}

abbrev pub args : List Rule
args = map arg_of slots

abbrev pub top : Shape
top = record pig.top {
  rules = args;
  is_built = true;
  disable_help_subcommand = true;
}

pub pig_is : ◌≡◌ {A = App} (built pig) (record { top = top; subs = [] })
pig_is = refl

-- ---- what was given, by its place

abbrev pub at : Slot → Given → Option Word
at Operand g = g.operand
at (Value s) g = g.values s

abbrev pub put : Slot → Word → Given → Given
put Operand word g = with_operand word g
put (Value s) word g = with_value s word g

-- ---- what is computed of each option

abbrev pub Pending : Type 0
Pending = Option (Text × List Text)

abbrev pub held : List Row → Pending → Held
held rows pending = record { rows = rows; pending = pending; skip = 0 }

abbrev named : Text → Option Slot
named name = find (λ x. bytes_eq (id_of x) name) slots

pub record IsListed (s : Setting) : Type 0 where
  -- its name finds it, and no other
  pub own : named (name_of s) ≡ Some (Value s)
  pub by_name : arg_by_id args (name_of s) ≡ Some (arg_of (Value s))
  pub by_long : arg_by_long args (name_of s) ≡ Some (arg_of (Value s))
  -- its word, alone and with a value, is read so
  pub alone_plain : bytes_eq (option_word s) (45 ∷ 45 ∷ []) ≡ false
  pub alone_long : long_of (option_word s) ≡ Some (name_of s, None)
  pub joined_plain : (v : Text) → bytes_eq (option_word s ++ 61 ∷ v) (45 ∷ 45 ∷ []) ≡ false
  pub joined_long : (v : Text) → long_of (option_word s ++ 61 ∷ v) ≡ Some (name_of s, Some v)
  -- one value fills it
  pub filled : (rows : List Row) (v : Text) → filled_by (Some (arg_of (Value s))) (name_of s) v (held rows (Some (name_of s, []))) ≡ (held rows (Some (name_of s, v ∷ [])), idle)

pub listed : (s : Setting) → IsListed s
listed Workers = record { own = refl; by_name = refl; by_long = refl; alone_plain = refl; alone_long = refl; joined_plain = λ v. refl; joined_long = λ v. refl; filled = λ rows v. refl }
listed Reducers = record { own = refl; by_name = refl; by_long = refl; alone_plain = refl; alone_long = refl; joined_plain = λ v. refl; joined_long = λ v. refl; filled = λ rows v. refl }
listed Split = record { own = refl; by_name = refl; by_long = refl; alone_plain = refl; alone_long = refl; joined_plain = λ v. refl; joined_long = λ v. refl; filled = λ rows v. refl }
listed Attempts = record { own = refl; by_name = refl; by_long = refl; alone_plain = refl; alone_long = refl; joined_plain = λ v. refl; joined_long = λ v. refl; filled = λ rows v. refl }

-- what holds of the list holds of each
pub each : (P : Setting → Type 0) → AllByRecursion P settings → (s : Setting) → P s
each P h Workers = h.0
each P h Reducers = h.1.0
each P h Split = h.1.1.0
each P h Attempts = h.1.1.1.0

-- ---- options are told apart by their names

own_slot : (x : Slot) → named (id_of x) ≡ Some x
own_slot Operand = refl
own_slot (Value s) = (listed s).own

some_slot : {x y : Slot} → Some x ≡ Some y → x ≡ y
some_slot e = cc

pub same_slot : (x y : Slot) → id_of x ≡ id_of y → x ≡ y
same_slot x y e = some_slot (sym (own_slot x) ∙ ap named e ∙ own_slot y)

setting_in : Slot → Setting → Setting
setting_in Operand s = s
setting_in (Value t) s = t

pub same_setting : (s t : Setting) → name_of s ≡ name_of t → s ≡ t
unfolding setting_in
same_setting s t e = ap (λ x. setting_in x s) (same_slot (Value s) (Value t) e)

pub same_id : (x : Slot) → bytes_eq (id_of x) (id_of x) ≡ true
same_id x = (bytes_eq-Decides (id_of x) (id_of x)).1 refl

pub by_id : (x : Slot) → arg_by_id args (id_of x) ≡ Some (arg_of x)
by_id Operand = refl
by_id (Value s) = (listed s).by_name

pub at_put : (x : Slot) (v : Word) (g : Given) → at x (put x v g) ≡ Some v
at_put Operand v g = refl
at_put (Value s) v g = rw (same_id (Value s)) refl

-- another place has another name, and stays as it is
abbrev pub Differs : Slot → Slot → Type 0
Differs x y = (bytes_eq (id_of x) (id_of y) ≡ false) × ((v : Word) (g : Given) → at y (put x v g) ≡ at y g)

stays : (x y : Slot) → bytes_eq (id_of x) (id_of y) ≡ false → (v : Word) (g : Given) → at y (put x v g) ≡ at y g
stays Operand Operand e v g = absurd (true≢false e)
stays Operand (Value t) e v g = refl
stays (Value s) Operand e v g = refl
stays (Value s) (Value t) e v g = rw e refl

pub same_or_other : (x y : Slot) → (x ≡ y) ⊎ Differs x y
same_or_other x y = go (bytes_eq (id_of x) (id_of y)) refl
  where
    go : (b : Bool) → bytes_eq (id_of x) (id_of y) ≡ b → (x ≡ y) ⊎ Differs x y
    go true e = inl (same_slot x y ((bytes_eq-Decides (id_of x) (id_of y)).0 e))
    go false e = inr (e, stays x y e)
