use Rattle.std.proofs.Common.{rules, ◌≡◌, ◌∙◌, ◌++◌, [], ◌∷◌, ap, ap₂, sym, subst, map, All, IsUtf8}
use Rattle.std.proofs.lemmas.List.{map-append}
use Rattle.std.proofs.lemmas.List.Elements.{All-push}
use Rattle.pig_words.proofs.WordNumbers.{one_more}
use Rattle.pig_words.proofs.words.texts.Goals as goal

pub loop-word-preserved : goal.loop-word-preserved
loop-word-preserved c =
    let pushed : map (λ w. w.now) c.push.new.self.items ≡ map (λ w. w.now) c.loop-word.texts.items ++ c.as_str.result.now ∷ [] =
    ap (map (λ w. w.now)) c.in_ok-push.ensures.items ∙ map-append (λ w. w.now) c.loop-word.texts.items (c.as_str.result ∷ []) in (
      pushed ∙ ap₂ (λ xs x. xs ++ x ∷ []) c.loop-word.invariant.0 c.as_str.ensures.text ∙ sym (one_more c.args.words.now c.as_slice-word-items.result.now c.loop-word.word-index c.word-item.result (search rules) (search rules) c.word-item.is),
      subst (All IsUtf8) (sym pushed) (All-push IsUtf8 (map (λ w. w.now) c.loop-word.texts.items) _ c.loop-word.invariant.1 c.as_str.utf8),
    )
