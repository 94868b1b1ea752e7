use Rattle.std.proofs.Common.{◌≡◌, ◌∙◌, List, ℕ, Bor, All, IsUtf8, map, drop, ap, sym, subst}
use Rattle.std.proofs.lemmas.Result.{IfErr-weaker}
use Rattle.pig_words.specs.ClapWords.{AreRead, given_of}
use Rattle.pig_words.proofs.Commands.{made_of_read}
use Rattle.pig_words.proofs.words.read_bare.Goals as goal

pub read_options-requires : goal.read_options-requires
read_options-requires c = record { utf8 = subst (λ (xs : List (Bor (List ℕ))). All IsUtf8 (map (λ w. w.now) xs)) (sym c.as_slice.ensures.value) c.in-Ok.ensures.utf8 }

pub returns-in_ok-found-in-Ok-clause-usage :
    goal.returns-in_ok-found-in-Ok-clause-usage
returns-in_ok-found-in-Ok-clause-usage c =
    let words_are : map (λ w. w.now) c.as_slice.result.now ≡ c.args.words.now = ap (map (λ w. w.now)) c.as_slice.ensures.value ∙ c.in-Ok.ensures.same in
    let g = given_of c.in_ok-found-in-Ok.found in
    let read : AreRead (drop 1 c.args.words.now) g = subst (λ ws. AreRead (drop 1 ws) g) words_are c.in_ok-found-in-Ok.ensures.read in
    IfErr-weaker c.make_command.result _ _ (λ fault refused usage command is.
    let m = made_of_read c.args.hosts c.args.words.now c.in-Some.verb g command c.in-Some.ensures read is in
    refused usage command m.0 m.1 m.2) c.make_command.ensures.usage
