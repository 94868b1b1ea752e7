use Rattle.std.proofs.Common.{rules, ◌≡◌, ◌∙◌, ◌++◌, ℕ, List, [], ◌∷◌, Some, subst, sym, ap, string_bytes, if◌then◌else◌, length}
use Rattle.std.specs.Str.{bytes_eq}
use Rattle.indexmap.specs.IndexMap.{get_by_text}
use Rattle.pig_relations.specs.Aliases.{IsIndex}
use Rattle.pig_relations.proofs.Index.{index_behind}
use Rattle.pig_relations.proofs.aliases.note.Goals as goal

pub returns-in-Ok-clause-index : goal.returns-in-Ok-clause-index
returns-in-Ok-clause-index c h =
    let longer : c.push.new.self ≡ c.args.given.now ++ c.args.named ∷ [] = search rules in
    let key : string_bytes c.in_ok-key.key ≡ c.args.named.alias = search rules in
    let place : c.len-place.result ≡ length c.args.given.now = search rules in
    let placed : (name : List ℕ) → get_by_text c.set_place.new.latest name
    ≡ (if bytes_eq name (string_bytes c.in_ok-key.key) then Some c.len-place.result else get_by_text c.args.latest.now name) = search rules in
    let at : (name : List ℕ) → get_by_text c.set_place.new.latest name
    ≡ (if bytes_eq name c.args.named.alias then Some (length c.args.given.now) else get_by_text c.args.latest.now name) =
    λ name. placed name ∙ ap (λ k. if bytes_eq name k then Some c.len-place.result else get_by_text c.args.latest.now name) key
    ∙ ap (λ n. if bytes_eq name c.args.named.alias then Some n else get_by_text c.args.latest.now name) place in
    subst (λ given. IsIndex given (λ name. get_by_text c.set_place.new.latest name)) (sym longer)
    (index_behind c.args.given.now c.args.named (λ name. get_by_text c.args.latest.now name) (λ name. get_by_text c.set_place.new.latest name) h at)
