-- The hash of bytes.
use Rattle.std.specs.Prelude.{◌≡◌, ◌+◌, ◌*◌, ◌%◌, ◌^◌, ℕ, List, [], ◌∷◌, ◌++◌, refl}
use Rattle.std.proofs.Common.{ap, ◌∙◌}
use Rattle.std.specs.List.{fold}

-- one more byte
abbrev pub hash_step : ℕ → ℕ → ℕ
hash_step hash byte = (31 * hash + byte) % 2 ^ 32

-- the hash of bytes: from 0, byte by byte
abbrev pub hash_of : List ℕ → ℕ
hash_of bytes = fold hash_step 0 bytes

fold-append : (h : ℕ) (xs ys : List ℕ) → fold hash_step (fold hash_step h xs) ys ≡ fold hash_step h (xs ++ ys)
fold-append h [] ys = refl
fold-append h (x ∷ xs) ys = fold-append (hash_step h x) xs ys

-- bytes after others
pub hash_onwards : (a b c : ℕ) (xs ys : List ℕ) → b ≡ fold hash_step a xs → c ≡ fold hash_step b ys → c ≡ fold hash_step a (xs ++ ys)
hash_onwards a b c xs ys h k = k ∙ ap (λ n. fold hash_step n ys) h ∙ fold-append a xs ys
