use Rattle.std.proofs.Common.{◌∙◌, ap, sym, map, ⊎_elim}
use Rattle.std.specs.Option.{option_map}
use Rattle.clap.specs.Words.{found_of, kind_of}
use Rattle.pig_words.proofs.ClapFinds.{are_read, none_found, refused, value_places}
use Rattle.pig_words.proofs.words.read_options.Goals as goal

pub returns-in-Some-clause-read : goal.returns-in-Some-clause-read
returns-in-Some-clause-read c =
    let f = found_of c.in-Ok.matches in
    are_read (map (λ w. w.now) c.args.words.now) f _ c.requires.utf8 c.in-Ok.ensures.kinds c.in-Ok.ensures.found
    (value_places f _ (ap (option_map (λ s. s.now)) (sym c.in-Some.is) ∙ c.get_str.ensures) (c.get_str-in-Some.ensures, (c.get_str-in-Some-2.ensures, (c.get_str-in-Some-3.ensures, (c.get_str-in-Some-4.ensures, tt)))))

pub returns-in-Ok-clause-usage : goal.returns-in-Ok-clause-usage
returns-in-Ok-clause-usage c = λ _.
    let f = found_of c.in-Ok.matches in
    none_found (map (λ w. w.now) c.args.words.now) f c.in-Ok.ensures.found (sym c.get_str.ensures ∙ ap (option_map (λ s. s.now)) c.in-None.is)

pub returns-clause-usage : goal.returns-clause-usage
returns-clause-usage c = λ usage.
    let among = ⊎_elim (λ memory. absurd (c.fault_of.ensures usage memory)) (λ k. k) c.in-Err.ensures.kinds in
    refused (map (λ w. w.now) c.args.words.now) (kind_of c.in-Err.error) among
