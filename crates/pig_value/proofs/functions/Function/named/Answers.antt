-- No other name is that of a function.
use Rattle.std.proofs.Common.{◌≡◌, rules, refl}
use Rattle.std.specs.Prelude.{List, ℕ, false, None, codes, bytes_eq}
use Rattle.pig_value.specs.Functions.{function_named}
use Rattle.pig_value.proofs.functions.Function.named.Goals as goal

none_named : (name : List ℕ) → bytes_eq (codes "COUNT") name ≡ false → bytes_eq (codes "COUNT_STAR") name ≡ false → bytes_eq (codes "SUM") name ≡ false
    → bytes_eq (codes "MIN") name ≡ false → bytes_eq (codes "MAX") name ≡ false → bytes_eq (codes "SIZE") name ≡ false → bytes_eq (codes "CONCAT") name ≡ false
    → bytes_eq (codes "IsEmpty") name ≡ false → bytes_eq (codes "TOKENIZE") name ≡ false → bytes_eq (codes "SUBSTRING") name ≡ false
    → bytes_eq (codes "STARTSWITH") name ≡ false → bytes_eq (codes "ENDSWITH") name ≡ false → bytes_eq (codes "INDEXOF") name ≡ false
    → bytes_eq (codes "ABS") name ≡ false → bytes_eq (codes "TOTUPLE") name ≡ false → bytes_eq (codes "TOBAG") name ≡ false → None ≡ function_named name
unfolding function_named
none_named name a b c d e f g h i j k l m n o p = rw (a, b, c, d, e, f, g, h, i, j, k, l, m, n, o, p) refl

pub returns-in_default : goal.returns-in_default
returns-in_default c =
    none_named c.args.name.now (search rules) (search rules) (search rules) (search rules) (search rules) (search rules) (search rules) (search rules)
    (search rules) (search rules) (search rules) (search rules) (search rules) (search rules) (search rules) (search rules)
