use Rattle.std.proofs.Common.{◌++◌, encode_utf8_all, refl, ◌∙◌, ap}
use Rattle.bstr.specs.Utf8.{lossy_chars}
use Rattle.bstr.proofs.lemmas.LossyLemmas.{lossy_chars-utf8_lossy}
use Rattle.pig_cast.proofs.texts.lossy_text_over.Goals as goal

pub returns : goal.returns
returns c =
    let bytes = c.args.bytes.now in
    c.in_ok-to_str_lossy_into.ensures.ok refl ∙ (ap (λ l. l ++ encode_utf8_all (lossy_chars bytes)) c.clear.ensures.bytes ∙ lossy_chars-utf8_lossy bytes)
