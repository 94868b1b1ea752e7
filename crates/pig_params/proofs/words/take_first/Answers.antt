use Rattle.std.proofs.Common.{rules, ◌≡◌, ◌∙◌, [], ◌∷◌, ◌++◌, IfErr, ap, refl, subst, sym}
use Rattle.std.specs.declared.result.Result.TheVariants.{Err}
use Rattle.std.proofs.lemmas.Result.{IfErr-weaker}
use Rattle.pig_value.specs.declared.outcomes.WordFault.TheVariants as faults
use Rattle.pig_params.specs.ParamWords.{mark_of}
use Rattle.pig_params.specs.TakenViews.{IsUseless, taken_and}
use Rattle.pig_params.proofs.Taking.{first_and_behind, refused_apart, refused_joined, takes_other}
use Rattle.pig_params.proofs.words.take_first.Goals as goal

pub returns-in_err-add_param-in-Joined-clause-usage : goal.returns-in_err-add_param-in-Joined-clause-usage
returns-in_err-add_param-in-Joined-clause-usage c =
    let whole = first_and_behind c.args.words.now c.word-item.result c.requires.some c.word-item.is in
    let refused : c.from_residual-in_err-add_param-in-Joined.result ≡ Err c.in_err-add_param-in-Joined.field-0.0 = search rules in
    subst (λ r. IfErr r (λ f. f ≡ faults.Usage → IsUseless (taken_and c.args.taken.now c.args.words.now))) (sym refused)
    (λ e. subst (λ ws. IsUseless (taken_and c.args.taken.now ws)) (sym whole)
    (refused_joined c.word-item.result c.in-Joined.text.now _ c.args.taken.now (c.in-Joined.ensures ∙ ap mark_of c.as_str.ensures.text) (c.in_err-add_param-in-Joined.ensures.usage e)))

pub returns-in-Apart-clause-usage : goal.returns-in-Apart-clause-usage
returns-in-Apart-clause-usage c =
    let whole = first_and_behind c.args.words.now c.word-item.result c.requires.some c.word-item.is in
    IfErr-weaker c.take_apart.result _ _ (λ f none e. subst (λ ws. IsUseless (taken_and c.args.taken.now ws)) (sym whole)
    (refused_apart c.word-item.result _ c.args.taken.now (c.in-Apart.ensures ∙ ap mark_of c.as_str.ensures.text) (none e))) c.take_apart.ensures.usage

pub returns-in_ok-memory-in-Other-clause-takes : goal.returns-in_ok-memory-in-Other-clause-takes
returns-in_ok-memory-in-Other-clause-takes c =
    let whole = first_and_behind c.args.words.now c.word-item.result c.requires.some c.word-item.is in
    let rest : c.add_word.new.rest ≡ c.args.taken.now.rest ++ c.word-item.result ∷ [] = search rules in
    takes_other _ _ c.word-item.result c.args.taken.now _ whole (c.in-Other.ensures ∙ ap mark_of c.as_str.ensures.text) rest refl
