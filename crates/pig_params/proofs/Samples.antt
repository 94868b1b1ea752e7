-- The worked rows of scripts and words, computed.
use Rattle.std.proofs.Common.{◌≡◌, [], ◌∷◌, codes, Some, None, refl}
use Rattle.std.specs.declared.result.Result.TheVariants.{Ok, Err}
use Rattle.pig_params.specs.ParamWords.{taken}
use Rattle.pig_params.specs.Substitution.{substituted}

a_row : substituted [] (codes "%default n 2\n%declare d 'out'\nf = FILTER a BY x > $n;\nSTORE f INTO '${d}';\n")
    ≡ Ok (codes "\n\nf = FILTER a BY x > 2;\nSTORE f INTO 'out';\n")
a_row = refl

given_first : substituted ((codes "n", codes "1") ∷ []) (codes "%default n 2\n$n") ≡ Ok (codes "\n1")
given_first = refl

missing_at : substituted [] (codes "%declare d 'out'\na = LOAD 'in' AS (x:int);\nf = FILTER a BY x > $n;\nSTORE f INTO '${d}';\n") ≡ Err 63
missing_at = refl

off_at : substituted [] (codes "a\n  %DEFAULT n a'b'\n$n") ≡ Err 4
off_at = refl

longest : substituted ((codes "n", codes "$n") ∷ (codes "nn", codes "2") ∷ []) (codes "$nn.${n}$0$") ≡ Ok (codes "2.$n$0$")
longest = refl

by_lines_above : substituted ((codes "n", codes "1") ∷ []) (codes "$n\n%declare n 2\n%default n 3\n$n\n%declare n 4")
    ≡ Ok (codes "1\n\n\n2\n")
by_lines_above = refl

no_name : taken (codes "run" ∷ codes "--param" ∷ codes "1=2" ∷ []) ≡ None
no_name = refl

two_params : taken (codes "run" ∷ codes "--param" ∷ codes "a=b=c" ∷ codes "--param=a=" ∷ codes "--" ∷ codes "--param" ∷ [])
    ≡ Some (codes "run" ∷ codes "--" ∷ codes "--param" ∷ [], (codes "a", codes "b=c") ∷ (codes "a", []) ∷ [])
two_params = refl

pub all_rows : substituted [] [] ≡ Ok []
all_rows = refl
