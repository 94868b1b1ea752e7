-- The tables that the code reads are those of the definitions.
use Rattle.std.proofs.Common.{◌≡◌, map, refl}
use Rattle.pig_syntax.specs.declared.tokens.TheConstants.{KEYWORDS, SYMBOLS}
use Rattle.pig_syntax.specs.Tokens.{keywords, symbols}

pub names_are : map (λ e. (e.0.now, e.1)) KEYWORDS ≡ keywords
unfolding keywords
names_are = refl

pub texts_are : map (λ e. (e.0.now, e.1)) SYMBOLS ≡ symbols
unfolding symbols
texts_are = refl
